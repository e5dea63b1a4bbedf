use Rattle.vcd_head.proofs.Cited.{◌<◌, length, take, Header, Enters, scopes_text, parts, Views}
use Rattle.vcd_head.proofs.Facts.{LeftAround}
use Rattle.vcd_head.proofs.inside.Open.enter_around.Given as goal

abbrev pub invariant-loop-scope : goal.invariant-loop-scope
invariant-loop-scope l = record {
  left : (h : Header) → Views (parts l.view) h → l.row < length h.declarations → LeftAround h l.row l.scopes;
  entered : (h : Header) → Views (parts l.view) h → l.row < length h.declarations → Enters h l.group (scopes_text (take l.row h.declarations)) l.initial.matched l.matched l.initial.self l.self;
}

abbrev pub decreases-loop-scope : goal.decreases-loop-scope
decreases-loop-scope l = l.scopes.left
