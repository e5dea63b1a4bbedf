use Rattle.vcd_body.proofs.Facts.{one_taken, stands_there}
use Rattle.vcd_body.proofs.walk.take_short.Goals as goal

pub take_change-requires-clause-item : goal.take_change-requires-clause-item
take_change-requires-clause-item g c = (_, _, c.in_ok-change.ensures.takes c.args.regs)

pub take_change-requires-clause-stands : goal.take_change-requires-clause-stands
take_change-requires-clause-stands g c = stands_there g.V.Visit.takes g.V.Visit.stands _ _ _ _ _ (c.in_ok-change.ensures.takes c.args.regs) _ _ c.requires.stands

pub returns-clause-next : goal.returns-clause-next
returns-clause-next g c =
    let item = c.in_ok-change.ensures.takes c.args.regs in
    let n = c.take_change.ensures in
    one_taken g.V.Visit.takes g.V.Visit.stands _ _ _ _ _ item _ _ _ _ _ _ _ c.take_change.result (n.takes _ _ item) n.counts n.stands
