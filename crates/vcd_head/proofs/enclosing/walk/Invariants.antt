use Rattle.vcd_head.proofs.Cited.{◌<◌, length, Header, parts, Views}
use Rattle.vcd_head.proofs.Facts.{HasWalked}
use Rattle.vcd_head.proofs.enclosing.walk.Given as goal

abbrev pub invariant-loop-passed : goal.invariant-loop-passed
invariant-loop-passed l = (h : Header) → Views (parts l.view) h → l.row < length h.declarations → HasWalked h l.row l.rows l.passed l.scope
