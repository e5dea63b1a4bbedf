use Rattle.vcd_body.proofs.Cited.{ap, drop, get_or, sym, take, ◌∙◌, slice_get-get_or, shown_as, held_by, holding_of, len_in, used, State}
use Rattle.vcd_body.proofs.Facts.{blank, blank_share, held_here, shows_digits}
use Rattle.vcd_body.proofs.values.table.Table.get.Goals as goal

pub returns-in_default : goal.returns-in_default
returns-in_default c =
    let t = c.args.self.now in
    let slot = get_or t.slots.now c.args.code blank in
    let share = get_or t.shares.now c.args.code blank_share in
    let is = held_here t c.args.code slot share (slice_get-get_or t.slots.now c.args.code blank c.if-code-self.false) (slice_get-get_or t.shares.now c.args.code blank_share c.if-code-self-2.false) in
    let bytes = take (used (holding_of slot share)) (drop share.start t.values.now) in
    sym (ap shown_as is ∙ ap (λ (st : State). shown_as (held_by st (len_in slot.tag slot.number share.upper) bytes)) (sym c.state_in.ensures)
    ∙ shows_digits c.state_in.result (len_in slot.tag slot.number share.upper) bytes c.in_default.not-Unset c.in_default.not-Real)
