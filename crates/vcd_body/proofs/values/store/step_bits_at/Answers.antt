use Rattle.vcd_body.proofs.Cited.{◌≡◌, ◌==◌, Bool, List, Some, ap, arith, cond, get_or, not, refl, subst, sym, ◌∙◌, eq-eqb, ne_eqb, number_in, slice_get-get_or, Kept, with_number, with_number_change, with_step, with_steps, ChangesAt, kept_in, Slot, Step}
use Rattle.vcd_body.proofs.Facts.{change_as, change_twice, kept_steps, blank}
use Rattle.vcd_body.proofs.values.store.step_bits_at.Goals as goal
use Rattle.vcd_body.proofs.values.store.step_bits_at.Goals.{then-before-bits-via-then-before-bits, then-before-bits-via-else-before-bits+then-count_in_slot}

pub returns-then-before-bits-clause-counted : goal.returns-then-before-bits-clause-counted
returns-then-before-bits-clause-counted c = λ _ shares values laid.
    let slots = c.args.slots.now in
    let code = c.args.code in
    let bits = c.args.bits in
    let slot = get_or slots code blank in
    let at = slice_get-get_or slots code blank c.if-code-slots.false in
    let way = c.way_between-way.result in
    let goes = c.way_between-way.ensures in
    let s : Step = record { differs = not (slot.number == bits.number); rises = way == 2; falls = way == 0 } in
    let held : slot.number ≡ number_in slot.number = omega arith in
    let l = bits.len in
    let n = bits.number in
    let set = c.set_bits.ensures.changes shares values in
    let told : (k : Kept) → kept_in values slots shares code ≡ Some k
    → with_number_change c.args.size l n k ≡ cond s.differs (with_step s.rises s.falls (with_number l n k)) (with_number l n k) =
    λ k kept. kept_steps values slots shares code slot at k kept laid l n c.args.size s
    (c.if-not-is_number_step.ensures.state refl) bits.some bits.fits (c.if-not-is_number_step.ensures.long refl) (rw (sym held) refl)
    (rw (sym held) goes.rises) (rw (sym held) goes.falls) in
    elim c.then-before-bits.branch [
      | then-before-bits-via-then-before-bits w ↦ subst (λ (p : List Slot). ChangesAt code (with_number_change c.args.size l n) values slots shares values p shares) (sym w.slots-is)
          (change_as code (with_number l n) (with_number_change c.args.size l n) values values slots c.set_bits.new.slots shares shares
          (λ k kept. sym (told k kept ∙ ap (λ (b : Bool). cond b (with_step s.rises s.falls (with_number l n k)) (with_number l n k)) (ap not (eq-eqb slot.number n w.if-before-bits.true)))) set)
      | then-before-bits-via-else-before-bits+then-count_in_slot w ↦ subst
          (λ (p : List Slot). ChangesAt code (with_number_change c.args.size l n) values slots shares values p shares) (sym w.slots-is)
          (change_as code (λ k. with_step s.rises s.falls (with_number l n k)) (with_number_change c.args.size l n) values values slots w.count_in_slot.new.slots shares shares
          (λ k kept. sym (told k kept ∙ ap (λ (b : Bool). cond b (with_step s.rises s.falls (with_number l n k)) (with_number l n k)) (ap not (ne_eqb slot.number n w.if-before-bits.false))))
          (change_twice code (with_number l n) (with_step s.rises s.falls)
          values values values slots c.set_bits.new.slots w.count_in_slot.new.slots shares shares shares set
          (w.count_in_slot.ensures.counts w.if-count_in_slot.true shares values)))
    ]

-- the slot had no room, and stayed
pub returns-clause-uncounted : goal.returns-clause-uncounted
returns-clause-uncounted c = λ rises falls is shares values after laid counted with counts.
    let slots = c.args.slots.now in
    let code = c.args.code in
    let bits = c.args.bits in
    let slot = get_or slots code blank in
    let at = slice_get-get_or slots code blank c.if-code-slots.false in
    let way = c.way_between-way.result in
    let goes = c.way_between-way.ensures in
    let s : Step = record { differs = not (slot.number == bits.number); rises = way == 2; falls = way == 0 } in
    let held : slot.number ≡ number_in slot.number = omega arith in
    let l = bits.len in
    let n = bits.number in
    let set = c.set_bits.ensures.changes shares values in
    let told : (k : Kept) → kept_in values slots shares code ≡ Some k
    → with_number_change c.args.size l n k ≡ cond s.differs (with_step s.rises s.falls (with_number l n k)) (with_number l n k) =
    λ k kept. kept_steps values slots shares code slot at k kept laid l n c.args.size s
    (c.if-not-is_number_step.ensures.state refl) bits.some bits.fits (c.if-not-is_number_step.ensures.long refl) (rw (sym held) refl)
    (rw (sym held) goes.rises) (rw (sym held) goes.falls) in
    let rise : rises ≡ s.rises = cc in
    let fall : falls ≡ s.falls = cc in
    let rest = subst (λ (b : Bool). ChangesAt code (with_steps 256 s.rises b) values c.count_in_slot.new.slots shares after counted with) fall
    (subst (λ (b : Bool). ChangesAt code (with_steps 256 b falls) values c.count_in_slot.new.slots shares after counted with) rise counts) in
    let count = c.if-count_in_slot.ensures.left refl shares values after counted with rest in
    change_as code (λ k. with_step s.rises s.falls (with_number l n k)) (with_number_change c.args.size l n) values after slots counted shares with
    (λ k kept. sym (told k kept ∙ ap (λ (b : Bool). cond b (with_step s.rises s.falls (with_number l n k)) (with_number l n k)) (ap not (ne_eqb slot.number n c.if-before-bits.false))))
    (change_twice code (with_number l n) (with_step s.rises s.falls) values values after slots c.set_bits.new.slots counted shares shares with set count)
