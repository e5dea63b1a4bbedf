use Rattle.vcd_body.proofs.Cited.{sym, ap, ◌∙◌, real_text, held_by, len_of, State}
use Rattle.vcd_body.proofs.Facts.{is_real}
use Rattle.vcd_body.proofs.values.table.Table.real.Goals as goal

pub returns-in-Some : goal.returns-in-Some
returns-in-Some c = λ laid.
    let held = c.in-Some.held in
    sym (ap real_text (c.in-Some.ensures laid) ∙ ap (λ (st : State). real_text (held_by st (len_of held.holding) held.bytes.now)) (is_real held.holding.state c.if-eq.ensures))
