use Rattle.vcd_body.proofs.Facts.{one_taken, stands_there}
use Rattle.vcd_body.proofs.walk.take_vector.Goals as goal

pub vector_ahead-requires-clause-opens : goal.vector_ahead-requires-clause-opens
vector_ahead-requires-clause-opens g c = (c.requires.opens.0, c.requires.opens.1)

pub take_change-requires-clause-item : goal.take_change-requires-clause-item
take_change-requires-clause-item g c = (_, _, c.in_ok-change-in-Some.ensures.takes c.requires.opens.0 c.args.regs c.requires.opens.1)

pub take_change-requires-clause-stands : goal.take_change-requires-clause-stands
take_change-requires-clause-stands g c = stands_there g.V.Visit.takes g.V.Visit.stands _ _ _ _ _
    (c.in_ok-change-in-Some.ensures.takes c.requires.opens.0 c.args.regs c.requires.opens.1) _ _ c.requires.opens.2

pub vector_ahead-requires-in-None-clause-opens : goal.vector_ahead-requires-in-None-clause-opens
vector_ahead-requires-in-None-clause-opens g c = (c.requires.opens.0, c.requires.opens.1)

pub take_change-requires-in-None-clause-item : goal.take_change-requires-in-None-clause-item
take_change-requires-in-None-clause-item g c = (_, _, c.in_ok-change-in-None.ensures.takes c.requires.opens.0 c.args.regs c.requires.opens.1)

pub take_change-requires-in-None-clause-stands : goal.take_change-requires-in-None-clause-stands
take_change-requires-in-None-clause-stands g c = stands_there g.V.Visit.takes g.V.Visit.stands _ _ _ _ _
    (c.in_ok-change-in-None.ensures.takes c.requires.opens.0 c.args.regs c.requires.opens.1) _ _ c.requires.opens.2

pub returns-in_ok-change-in-Some : goal.returns-in_ok-change-in-Some
returns-in_ok-change-in-Some g c = λ a opens.
    let item = c.in_ok-change-in-Some.ensures.takes a c.args.regs opens in
    let n = c.take_change.ensures in
    one_taken g.V.Visit.takes g.V.Visit.stands _ _ _ _ _ item _ _ _ _ _ _ _ c.take_change.result (n.takes _ _ item) n.counts n.stands

pub returns-in_ok-change-in-None : goal.returns-in_ok-change-in-None
returns-in_ok-change-in-None g c = λ a opens.
    let item = c.in_ok-change-in-None.ensures.takes a c.args.regs opens in
    let n = c.take_change-in-None.ensures in
    one_taken g.V.Visit.takes g.V.Visit.stands _ _ _ _ _ item _ _ _ _ _ _ _ c.take_change-in-None.result (n.takes _ _ item) n.counts n.stands
