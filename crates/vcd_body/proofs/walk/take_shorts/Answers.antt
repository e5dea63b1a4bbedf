use Rattle.vcd_body.proofs.Cited.{◌∙◌}
use Rattle.vcd_body.proofs.Facts.{come_begins, come_on}
use Rattle.vcd_body.proofs.walk.take_shorts.Goals as goal

pub items-init : goal.items-init
items-init g c = record { come = come_begins _ _ _ _ _ c.requires.stands c.requires.within; on = c.requires.on }

pub items-preserved : goal.items-preserved
items-preserved g c =
    let inv = c.items.invariant in
    let n = c.in-Some.ensures in
    let on = n.over ∙ inv.on in
    record { come = come_on _ _ _ _ _ _ _ inv.come (rw c.in-Ok.is at n.next) on; on = on }

pub returns-in-Err : goal.returns-in-Err
returns-in-Err g c = rw c.ended_at-in-Err.ensures (_, c.items.invariant.come, rw c.in-Err.is at c.in-Some.ensures.next)
