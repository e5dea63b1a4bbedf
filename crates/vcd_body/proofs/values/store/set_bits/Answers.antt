use Rattle.vcd_body.proofs.Cited.{ap, subst, sym, get_or, arith, ◌≤◌, ◌∙◌, slice_get-get_or, with_number, kept_with, len_in, set_whole, some_by, used_by, whole, State}
use Rattle.vcd_body.proofs.Facts.{bits_kept, bits_some, blank, fits_in, no_slot_there, slot_changes, slot_laid}
use Rattle.vcd_body.proofs.values.store.set_bits.Goals as goal

pub returns-then-code-slots-clause-changes : goal.returns-then-code-slots-clause-changes
returns-then-code-slots-clause-changes c = λ shares values.
    let slots = c.args.slots.now in
    let bits = c.args.bits in
    let is = c.held_bits-number.ensures in
    let r = c.held_bits-number.result in
    let slot = get_or slots c.args.code blank in
    let at = slice_get-get_or slots c.args.code blank c.if-code-slots.true in
    slot_changes slots c.args.code slot _ at shares values (with_number bits.len bits.number)
    (λ h end.
    let len = len_in r.1 r.0 h.upper in
    ap (λ (st : State). kept_with values end (set_whole st len (whole slot h))) is.state
    ∙ bits_kept (whole slot h) len bits.len bits.number end values (is.count h.upper) (is.number h.upper))

pub returns-then-code-slots-clause-laid : goal.returns-then-code-slots-clause-laid
returns-then-code-slots-clause-laid c = λ shares n laid.
    let slots = c.args.slots.now in
    let bits = c.args.bits in
    let is = c.held_bits-number.ensures in
    let r = c.held_bits-number.result in
    let slot = get_or slots c.args.code blank in
    let at = slice_get-get_or slots c.args.code blank c.if-code-slots.true in
    slot_laid slots shares n laid c.args.code slot at _ (λ h there.
    let len = len_in r.1 r.0 h.upper in
    let low = fits_in shares n c.args.code slot h (laid c.args.code slot at) there in
    let u = ap (λ (st : State). used_by st len) is.state in
    (omega (arith, low, u), subst (λ (st : State). 1 ≤ some_by st len) (sym is.state) (bits_some len bits.len bits.number (is.count h.upper) (is.number h.upper) bits.some bits.fits)))

pub returns-else-code-slots-clause-changes : goal.returns-else-code-slots-clause-changes
returns-else-code-slots-clause-changes c = λ shares values. no_slot_there values c.args.slots.now shares c.args.code (with_number c.args.bits.len c.args.bits.number) c.if-code-slots.false
