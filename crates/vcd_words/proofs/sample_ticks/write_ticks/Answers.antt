use Rattle.vcd_words.proofs.Cited.{◌≡◌, ◌<◌, ◌∙◌, sym, ap, refl, length, Err, drop, arith, rules, ℕ, tick_refusal}
use Rattle.vcd_words.proofs.Facts.{all_written, one_more, refused, so_far}
use Rattle.vcd_words.proofs.sample_ticks.write_ticks.Goals as goal

pub loop-place-init : goal.loop-place-init
loop-place-init c = λ h v. refl

pub loop-place-preserved : goal.loop-place-preserved
loop-place-preserved c = λ h v.
    let paired : length c.args.units.now ≡ length c.loop-place.numbers = c.requires ∙ sym c.loop-place.auto.numbers in
    let below : c.loop-place.place < length c.loop-place.numbers = omega (arith, c.loop-place-test.true, c.loop-place.auto.numbers) in
    c.loop-place.invariant h v ∙ one_more h.scale c.loop-place.numbers c.args.units.now c.loop-place.place c.in_ok-number.field-0 _ _ paired below (sym (c.in_ok-number.ensures.header h v))

pub returns-in_err-number : goal.returns-in_err-number
returns-in_err-number c = λ h v.
    let same : c.from_residual.result ≡ Err (tick_refusal c.in_err-number.field-0.0) = search rules in
    let paired : length c.args.units.now ≡ length c.loop-place.numbers = c.requires ∙ sym c.loop-place.auto.numbers in
    let below : c.loop-place.place < length c.loop-place.numbers = omega (arith, c.loop-place-test.true, c.loop-place.auto.numbers) in
    rw same (refused h.scale c.args.numbers.now c.loop-place.numbers c.args.units.now c.loop-place.place _ _ c.in_err-number.field-0.0 paired below
    (sym (c.in_err-number.ensures.header h v)) (c.loop-place.invariant h v))

pub returns : goal.returns
returns c = λ h v.
    let over : c.loop-place.place ≡ length c.loop-place.numbers = omega (arith, c.loop-place-test.false, c.loop-place.auto.numbers, c.loop-place.auto.place-end) in
    c.loop-place.invariant h v ∙ ap (λ (p : ℕ). so_far h.scale c.loop-place.numbers c.args.units.now p) over
    ∙ all_written h.scale c.loop-place.numbers (drop (length c.loop-place.numbers) c.args.units.now)
