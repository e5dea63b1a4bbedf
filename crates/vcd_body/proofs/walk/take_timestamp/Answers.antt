use Rattle.vcd_body.proofs.Cited.{Ok, refl}
use Rattle.vcd_body.proofs.Facts.{one_taken, stands_there}
use Rattle.vcd_body.proofs.walk.take_timestamp.Goals as goal

pub ends_before-requires : goal.ends_before-requires
ends_before-requires g c = (_, _, c.requires.stands)

pub take_timestamp-requires-clause-item : goal.take_timestamp-requires-clause-item
take_timestamp-requires-clause-item g c = (_, _, c.in_ok-timestamp.ensures.takes c.args.ahead.now c.args.view c.requires.opens)

pub take_timestamp-requires-clause-stands : goal.take_timestamp-requires-clause-stands
take_timestamp-requires-clause-stands g c = stands_there g.V.Visit.takes g.V.Visit.stands _ _ _ _ _
    (c.in_ok-timestamp.ensures.takes c.args.ahead.now c.args.view c.requires.opens) _ _ c.requires.stands

pub returns : goal.returns
returns g c = λ out.
    let n = c.in_ok-timestamp.ensures in
    let item = n.takes c.args.ahead.now c.args.view c.requires.opens in
    rw n.regs (one_taken g.V.Visit.takes g.V.Visit.stands _ _ _ _ _ item _ _ _ _ _ _ _ (Ok tt) (c.take_timestamp.ensures.takes _ _ out item) refl c.take_timestamp.ensures.stands)
