use Rattle.vcd_body.proofs.Cited.{◌≡◌, ◌∷◌, [], ◌==◌, ℕ, Some, Bool, cond, get_or, not, refl, subst, sym, ap, ◌∙◌, slice_get-get_or, Held, Kept, with_change, with_held, with_step, with_steps, ChangesAt, one_digit}
use Rattle.vcd_body.proofs.Facts.{bit_is, change_as, change_twice, digit_there, kept_stays, kept_flips, nothing_changes, other_bit, way_flips, blank}
use Rattle.vcd_body.proofs.FollowLemmas.{bit_digit}
use Rattle.vcd_body.proofs.values.store.step_digit_at.Goals as goal

-- the same digit
pub returns-then-eq-clause-counted : goal.returns-then-eq-clause-counted
returns-then-eq-clause-counted c = λ _ form digits size shares values.
    let slots = c.args.slots.now in
    let code = c.args.code in
    let slot = get_or slots code blank in
    let at = slice_get-get_or slots code blank c.if-code-slots.false in
    let there = ap one_digit (sym c.state_in.ensures) ∙ sym c.digit_of_state.ensures
    ∙ digit_there c.digit_of_state.result c.to_ascii_lowercase.result (sym c.eq.ensures ∙ c.if-eq.true)
    ∙ ap (λ (d : ℕ). Some d) c.to_ascii_lowercase.ensures.value in
    change_as code (λ (k : Kept). k) (with_change size form (c.args.digit ∷ [])) values values slots slots shares shares
    (λ k kept. kept_stays values slots shares code slot at k kept c.args.digit c.ranges.digit.fits there form digits size)
    (nothing_changes code values slots shares)

-- the other digit, with its step
pub returns-then-count_in_slot-clause-counted : goal.returns-then-count_in_slot-clause-counted
returns-then-count_in_slot-clause-counted c = λ _ form digits size shares values.
    let slots = c.args.slots.now in
    let code = c.args.code in
    let slot = get_or slots code blank in
    let at = slice_get-get_or slots code blank c.if-code-slots.false in
    let one = c.args.digit == 49 in
    let set = c.set_tag.ensures.changes (cond one 49 48) (bit_digit one c.flipped.result (c.flipped.ensures one (c.if-before-tag_of_flipped.false ∙ c.tag_of_flipped.ensures))) shares values in
    let way = c.way_to.result in
    let turns = way_flips one way c.way_to.ensures in
    let counts = subst (λ (b : Bool). ChangesAt code (with_step one b) values c.set_tag.new.slots shares values c.count_in_slot.new.slots shares) turns.1
    (subst (λ (b : Bool). ChangesAt code (with_step b (way == 0)) values c.set_tag.new.slots shares values c.count_in_slot.new.slots shares) turns.0
    (c.if-count_in_slot.ensures.counts refl shares values)) in
    let bit = bit_is c.args.digit (c.if-not-is_zero_or_one.ensures.yes refl) in
    subst (λ d. ChangesAt code (with_change size form (d ∷ [])) values slots shares values c.count_in_slot.new.slots shares) bit
    (change_as code (λ k. with_step one (not one) (with_held (Held.Digits (cond one 49 48 ∷ [])) k))
    (with_change size form (cond one 49 48 ∷ [])) values values slots c.count_in_slot.new.slots shares shares
    (λ k kept. kept_flips values slots shares code slot at k kept one (other_bit slot.tag one (c.if-before-tag_of_flipped.false ∙ c.tag_of_flipped.ensures)) form digits size)
    (change_twice code (with_held (Held.Digits (cond one 49 48 ∷ [])))
    (with_step one (not one)) values values values slots c.set_tag.new.slots c.count_in_slot.new.slots shares shares shares set counts))

pub returns-then-count_in_slot-clause-laid : goal.returns-then-count_in_slot-clause-laid
returns-then-count_in_slot-clause-laid c = λ shares n laid.
    let one = c.args.digit == 49 in
    c.count_in_slot.ensures.laid shares n (c.set_tag.ensures.laid (cond one 49 48)
    (bit_digit one c.flipped.result (c.flipped.ensures one (c.if-before-tag_of_flipped.false ∙ c.tag_of_flipped.ensures))) shares n laid)

-- the slot had no room, and stayed
pub returns-clause-uncounted : goal.returns-clause-uncounted
returns-clause-uncounted c = λ rises falls is form digits size shares values after counted with counts.
    let slots = c.args.slots.now in
    let code = c.args.code in
    let slot = get_or slots code blank in
    let at = slice_get-get_or slots code blank c.if-code-slots.false in
    let one = c.args.digit == 49 in
    let rise : rises ≡ one = cc in
    let fall : falls ≡ not one = cc in
    let set = c.set_tag.ensures.changes (cond one 49 48) (bit_digit one c.flipped.result (c.flipped.ensures one (c.if-before-tag_of_flipped.false ∙ c.tag_of_flipped.ensures))) shares values in
    let way = c.way_to.result in
    let turns = way_flips one way c.way_to.ensures in
    let rest = subst (λ (b : Bool). ChangesAt code (with_steps 256 (way == 2) b) values c.count_in_slot.new.slots shares after counted with) (fall ∙ sym turns.1)
    (subst (λ (b : Bool). ChangesAt code (with_steps 256 b falls) values c.count_in_slot.new.slots shares after counted with) (rise ∙ sym turns.0) counts) in
    let step = subst (λ (b : Bool). ChangesAt code (with_step one b) values c.set_tag.new.slots shares after counted with) turns.1
    (subst (λ (b : Bool). ChangesAt code (with_step b (way == 0)) values c.set_tag.new.slots shares after counted with) turns.0
    (c.if-count_in_slot.ensures.left refl shares values after counted with rest)) in
    let bit = bit_is c.args.digit (c.if-not-is_zero_or_one.ensures.yes refl) in
    subst (λ d. ChangesAt code (with_change size form (d ∷ [])) values slots shares after counted with) bit
    (change_as code (λ k. with_step one (not one) (with_held (Held.Digits (cond one 49 48 ∷ [])) k)) (with_change size form (cond one 49 48 ∷ [])) values after slots counted shares with
    (λ k kept. kept_flips values slots shares code slot at k kept one (other_bit slot.tag one (c.if-before-tag_of_flipped.false ∙ c.tag_of_flipped.ensures)) form digits size)
    (change_twice code (with_held (Held.Digits (cond one 49 48 ∷ []))) (with_step one (not one)) values values after slots c.set_tag.new.slots counted shares shares with set step))

pub returns-clause-laid : goal.returns-clause-laid
returns-clause-laid c = λ shares n laid.
    let one = c.args.digit == 49 in
    c.count_in_slot.ensures.laid shares n (c.set_tag.ensures.laid (cond one 49 48)
    (bit_digit one c.flipped.result (c.flipped.ensures one (c.if-before-tag_of_flipped.false ∙ c.tag_of_flipped.ensures))) shares n laid)
