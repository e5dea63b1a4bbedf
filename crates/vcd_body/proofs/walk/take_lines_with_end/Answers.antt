use Rattle.vcd_body.proofs.Cited.{◌≡◌, ◌∙◌, Ok, ap, AtItem, length, rules, sym, arith}
use Rattle.vcd_body.proofs.Facts.{same_place, come_begins, come_on, come_past, walks_further}
use Rattle.vcd_body.proofs.walk.take_lines_with_end.Goals as goal

pub returns-then-is_empty : goal.returns-then-is_empty
returns-then-is_empty g c = rw c.ended_at.ensures (come_begins _ _ _ _ _ c.requires.stands c.requires.within)

pub lines-init : goal.lines-init
lines-init g c = record { come = come_past _ _ _ _ _ _ _ (come_begins _ _ _ _ _ c.requires.stands c.requires.within) (same_place _ _ c.forget.ensures); on = c.requires.on }

pub returns-then-not-can_go_on : goal.returns-then-not-can_go_on
returns-then-not-can_go_on g c = walks_further _ _ _ _ _ _ _ _ c.lines.invariant.come c.take_shorts-shorts.ensures

pub returns-in_default : goal.returns-in_default
returns-in_default g c =
    let ended : c.take_shorts-shorts.result.ended ≡ Ok AtItem = search rules in
    let none = c.in_default.ensures (g.W.Sink.device c.take_shorts-shorts.new.out) in
    rw (c.ended_at-in_default.ensures, none) (walks_further _ _ _ _ _ _ _ (Ok AtItem) c.lines.invariant.come (rw ended at c.take_shorts-shorts.ensures))

pub returns-then-is_over : goal.returns-then-is_over
returns-then-is_over g c =
    let ended : c.take_shorts-shorts.result.ended ≡ Ok AtItem = search rules in
    rw c.ended_at-then-is_over.ensures (
      _,
      walks_further _ _ _ _ _ _ _ (Ok AtItem) c.lines.invariant.come (rw ended at c.take_shorts-shorts.ensures),
      (c.in-Some.ensures _),
      sym c.is_over.ensures ∙ c.if-is_over.true,
    )

pub lines-preserved : goal.lines-preserved
lines-preserved g c =
    let ended : c.take_shorts-shorts.result.ended ≡ Ok AtItem = search rules in
    let on = sym c.is_over.ensures ∙ c.if-is_over.false in
    record { come = come_on _ _ _ _ _ _ _ (walks_further _ _ _ _ _ _ _ (Ok AtItem) c.lines.invariant.come (rw ended at c.take_shorts-shorts.ensures)) (c.in-Some.ensures _) on; on = on }

pub lines-smaller : goal.lines-smaller
lines-smaller g c =
    let ended : c.take_shorts-shorts.result.ended ≡ Ok AtItem = search rules in
    let first = rw ended at c.take_shorts-shorts.ensures in
    let n = c.in-Some.ensures (g.W.Sink.device c.take_shorts-shorts.new.out) in
    let long = ap length (n.item.same.0 ∙ first.same) in
    let within = n.item.within in
    let more = n.item.further in
    let further = first.further in
    omega (arith, within, more, further, long)
