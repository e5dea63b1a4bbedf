use Rattle.vcd_body.proofs.Cited.{◌∙◌, arith, sym, HasCome, stage_at}
use Rattle.vcd_body.proofs.Facts.{same_place, come_begins, come_on, come_past}
use Rattle.vcd_body.proofs.walk.walk_items.Goals as goal

pub items-init : goal.items-init
items-init g c = record { come = come_begins _ _ _ _ _ c.requires.stands c.requires.within }

pub returns-in_default : goal.returns-in_default
returns-in_default g c =
    let come : HasCome g.V.Visit.takes g.V.Visit.stands g.V.Visit.over c.args.view
    (stage_at c.args.ahead c.args.regs c.args.visit c.args.command.now (g.W.Sink.device c.args.out.now))
    (stage_at c.take_any.new.ahead c.take_any.new.regs c.take_any.new.visit c.take_any.new.command (g.W.Sink.device c.take_any.new.out))
    = rw c.in_default.ensures.next c.items.invariant.come in
    rw c.ended_at.ensures (come_past _ _ _ _ _ _ _ come (same_place _ _ c.forget.ensures))

pub returns-in-Err : goal.returns-in-Err
returns-in-Err g c = rw c.ended_at-in-Err.ensures (_, c.items.invariant.come, rw c.in-Err.is at c.in-Some.ensures.next)

pub returns-then-is_over : goal.returns-then-is_over
returns-then-is_over g c = rw c.ended_at-then-is_over.ensures (_, c.items.invariant.come, (rw c.in-Ok.is at c.in-Some.ensures.next), sym c.is_over.ensures ∙ c.if-is_over.true)

pub returns-then-two_short_lines_come : goal.returns-then-two_short_lines_come
returns-then-two_short_lines_come g c =
    let inv = c.items.invariant in
    let on = sym c.is_over.ensures ∙ c.if-is_over.false in
    let one = rw c.in-Ok.is at c.in-Some.ensures.next in
    let come = inv.come.further in
    let more = one.item.further in
    rw c.ended_at-then-two_short_lines_come.ensures (come_on _ _ _ _ _ _ _ inv.come one on, omega (arith, come, more), on)

pub items-preserved : goal.items-preserved
items-preserved g c = record { come = come_on _ _ _ _ _ _ _ c.items.invariant.come (rw c.in-Ok.is at c.in-Some.ensures.next) (sym c.is_over.ensures ∙ c.if-is_over.false) }
