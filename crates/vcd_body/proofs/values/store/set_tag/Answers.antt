use Rattle.vcd_body.proofs.Cited.{◌∷◌, [], get_or, arith, slice_get-get_or, Held, with_held, len_in, state_in, whole}
use Rattle.vcd_body.proofs.Facts.{blank, digit_kept, fits_in, no_slot_there, slot_changes, slot_laid, used_none}
use Rattle.vcd_body.proofs.values.store.set_tag.Goals as goal

pub returns-then-code-slots-clause-changes : goal.returns-then-code-slots-clause-changes
returns-then-code-slots-clause-changes c = λ d is shares values.
    let slots = c.args.slots.now in
    let slot = get_or slots c.args.code blank in
    let at = slice_get-get_or slots c.args.code blank c.if-code-slots.true in
    let tag = c.args.tag in
    slot_changes slots c.args.code slot _ at shares values (with_held (Held.Digits (d ∷ [])))
    (λ h end. digit_kept (state_in tag) (len_in tag slot.number h.upper) (whole slot h) d end values is)

pub returns-then-code-slots-clause-laid : goal.returns-then-code-slots-clause-laid
returns-then-code-slots-clause-laid c = λ d is shares n laid.
    let slots = c.args.slots.now in
    let slot = get_or slots c.args.code blank in
    let at = slice_get-get_or slots c.args.code blank c.if-code-slots.true in
    let tag = c.args.tag in
    slot_laid slots shares n laid c.args.code slot at _ (λ h there.
    let none = used_none (state_in tag) (len_in tag slot.number h.upper) d is in
    let u = none.0 in
    let o = none.1 in
    let low = fits_in shares n c.args.code slot h (laid c.args.code slot at) there in
    (omega (arith, low, u), omega (arith, o)))

pub returns-else-code-slots-clause-changes : goal.returns-else-code-slots-clause-changes
returns-else-code-slots-clause-changes c = λ d is shares values. no_slot_there values c.args.slots.now shares c.args.code (with_held (Held.Digits (d ∷ []))) c.if-code-slots.false
