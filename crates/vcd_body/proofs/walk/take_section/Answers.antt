use Rattle.vcd_body.proofs.Cited.{Err, Ok}
use Rattle.vcd_body.proofs.Facts.{one_taken, stands_there}
use Rattle.vcd_body.proofs.walk.take_section.Goals as goal

pub ends_before-requires : goal.ends_before-requires
ends_before-requires g c = (_, _, c.requires.stands)

pub take_section-requires-clause-item : goal.take_section-requires-clause-item
take_section-requires-clause-item g c = (_, _, c.in_ok-section.ensures.takes c.args.ahead.now c.args.view c.requires.opens)

pub take_section-requires-clause-stands : goal.take_section-requires-clause-stands
take_section-requires-clause-stands g c = stands_there g.V.Visit.takes g.V.Visit.stands _ _ _ _ _ (c.in_ok-section.ensures.takes c.args.ahead.now c.args.view c.requires.opens) _ _ c.requires.stands

pub returns-in-Ok : goal.returns-in-Ok
returns-in-Ok g c =
    let item = c.in_ok-section.ensures.takes c.args.ahead.now c.args.view c.requires.opens in
    let n = c.in-Ok.ensures in
    record { next = one_taken g.V.Visit.takes g.V.Visit.stands _ _ _ _ _ item _ _ _ _ _ _ _ (Ok tt) (n.takes _ _ item) n.counts n.stands }

pub returns-in-Err : goal.returns-in-Err
returns-in-Err g c =
    let item = c.in_ok-section.ensures.takes c.args.ahead.now c.args.view c.requires.opens in
    let n = c.in-Err.ensures in
    record { next = one_taken g.V.Visit.takes g.V.Visit.stands _ _ _ _ _ item _ _ _ _ _ _ _ (Err c.in-Err.failed) (n.takes _ _ item) n.counts tt }
