use Rattle.vcd_body.proofs.Cited.{◌≡◌, ◌==◌, None, Some, ap, get_or, length, sym, ◌∙◌, option_map, slice_get-get_or, slice_get_past, counts_of, with_step, counts_after, with_steps, end_at, kept_with, whole}
use Rattle.vcd_body.proofs.Facts.{change_as, blank, fits_in, no_slot, slot_changes, slot_laid, slot_leaves, some_in, steps_kept}
use Rattle.vcd_body.proofs.values.store.count_in_slot.Goals as goal

pub returns-clause-counts : goal.returns-clause-counts
returns-clause-counts c = λ told shares values.
    let slots = c.args.slots.now in
    let slot = get_or slots c.args.code blank in
    let at = slice_get-get_or slots c.args.code blank c.if-code-slots.false in
    let steps = c.count_step.new.steps in
    slot_changes slots c.args.code slot _ at shares values (with_step (c.args.way == 2) (c.args.way == 0))
    (λ h end. steps_kept (whole slot h) (counts_of steps h.counts) (c.args.way == 2) (c.args.way == 0) end values (c.count_step.ensures.more told h.counts))

-- the slot had no room, or there is none
pub returns-clause-left : goal.returns-clause-left
returns-clause-left c = λ told shares values.
    let slots = c.args.slots.now in
    let slot = get_or slots c.args.code blank in
    let at = slice_get-get_or slots c.args.code blank c.if-code-slots.false in
    let steps = c.count_step.new.steps in
    let rises = c.args.way == 2 in
    let falls = c.args.way == 0 in
    slot_leaves slots c.args.code slot _ at shares values (with_steps 256 rises falls) (with_step rises falls)
    (λ h end. steps_kept (whole slot h) (counts_after 256 rises falls (counts_of steps h.counts)) rises falls end values (c.count_step.ensures.left told h.counts))

pub returns-then-code-slots-clause-left : goal.returns-then-code-slots-clause-left
returns-then-code-slots-clause-left c = λ _ shares values after counted with rest.
    let slots = c.args.slots.now in
    let rises = c.args.way == 2 in
    let falls = c.args.way == 0 in
    change_as c.args.code (with_steps 256 rises falls) (with_step rises falls) values after slots counted shares with
    (λ k kept. absurd (let none = ap (option_map (kept_with values (end_at shares (length values) c.args.code)))
    (no_slot slots shares c.args.code (slice_get_past slots c.args.code c.if-code-slots.true)) in let e : None ≡ Some k = sym none ∙ kept in cc)) rest

pub returns-clause-laid : goal.returns-clause-laid
returns-clause-laid c = λ shares n laid.
    let slots = c.args.slots.now in
    let slot = get_or slots c.args.code blank in
    let at = slice_get-get_or slots c.args.code blank c.if-code-slots.false in
    let l = laid c.args.code slot at in
    slot_laid slots shares n laid c.args.code slot at _ (λ h begins. (fits_in shares n c.args.code slot h l begins, some_in shares n c.args.code slot h l begins))
