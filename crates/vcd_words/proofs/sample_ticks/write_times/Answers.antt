use Rattle.vcd_words.proofs.Cited.{◌≡◌, ◌∙◌, Ok, Err, ap, length, rules, sym, true, false, with_items, with_items_is, do_rise, Request, all_ticks, has_units, AreRefused, AreTicks}
use Rattle.vcd_words.proofs.Facts.{falling_request, no_units_left, plain_request, refused_request, rising_request}
use Rattle.vcd_words.proofs.sample_ticks.write_times.Goals as goal

pub returns-in_err-write_ticks-clause-same : goal.returns-in_err-write_ticks-clause-same
returns-in_err-write_ticks-clause-same c = λ names h v.
    let ns = c.args.numbers.now in
    let us = c.args.units.now in
    let same : c.from_residual.result ≡ Err c.in_err-write_ticks.field-0.0 = search rules in
    let found = c.in_err-write_ticks.ensures h v in
    let told : AreRefused (all_ticks h.scale ns.items us.items) c.in_err-write_ticks.field-0.0 = rw (c.deref_mut.ensures.value, c.deref-2.ensures.value) at found in
    rw same (refused_request h.scale ns.items us.items names c.requires.paired c.in_err-write_ticks.field-0.0 told)

pub returns-then-not-do_rise-clause-same : goal.returns-then-not-do_rise-clause-same
returns-then-not-do_rise-clause-same c = λ names h v.
    let ns = c.args.numbers.now in
    let us = c.args.units.now in
    let ks = c.write_ticks.new.numbers in
    let some : has_units us.items ≡ true = ap has_units (sym c.deref.ensures.value) ∙ sym c.has_units.ensures ∙ c.if-not-has_units.false in
    let found = c.in_ok-write_ticks.ensures h v in
    let told : AreTicks (all_ticks h.scale ns.items us.items) ks = rw (c.deref_mut.ensures.value, c.deref-2.ensures.value) at found in
    let items : c.deref-3.result.now ≡ ks = c.deref-3.ensures.value ∙ with_items_is ns ks (c.write_ticks.auto.numbers ∙ c.deref_mut.ensures.len) in
    let down : do_rise ks ≡ false = ap do_rise (sym items) ∙ sym c.do_rise.ensures ∙ c.if-not-do_rise.true in
    falling_request h.scale ns.items us.items names c.requires.paired some ks told down

pub returns-clause-same : goal.returns-clause-same
returns-clause-same c = λ names h v.
    let ns = c.args.numbers.now in
    let us = c.args.units.now in
    let ks = c.write_ticks.new.numbers in
    let some : has_units us.items ≡ true = ap has_units (sym c.deref.ensures.value) ∙ sym c.has_units.ensures ∙ c.if-not-has_units.false in
    let found = c.in_ok-write_ticks.ensures h v in
    let told : AreTicks (all_ticks h.scale ns.items us.items) ks = rw (c.deref_mut.ensures.value, c.deref-2.ensures.value) at found in
    let written : (with_items ns ks).items ≡ ks = with_items_is ns ks (c.write_ticks.auto.numbers ∙ c.deref_mut.ensures.len) in
    let items : c.deref-3.result.now ≡ ks = c.deref-3.ensures.value ∙ written in
    let up : do_rise ks ≡ true = ap do_rise (sym items) ∙ sym c.do_rise.ensures ∙ c.if-not-do_rise.false in
    let none : has_units c.fill.new.self.items ≡ false = no_units_left _ _ (c.fill.ensures.items (λ y is. search rules)) in
    let long : length c.fill.new.self.items ≡ length (with_items ns ks).items = search rules in
    plain_request h.scale (with_items ns ks).items c.fill.new.self.items names long none
    ∙ ap (λ times. Ok (Request.Sample times names)) written
    ∙ sym (rising_request h.scale ns.items us.items names c.requires.paired some ks told up)

pub returns-clause-no_units : goal.returns-clause-no_units
returns-clause-no_units c = no_units_left _ _ (c.fill.ensures.items (λ y is. search rules))
