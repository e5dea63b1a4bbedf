use Rattle.vcd_head.proofs.Cited.{◌≡◌, Some, slice_get, Declaration, Variable, Header, parts, Views}
use Rattle.vcd_head.proofs.Facts.{HasMatched}
use Rattle.vcd_head.proofs.selection.selects.Given as goal

abbrev pub invariant-loop-scope : goal.invariant-loop-scope
invariant-loop-scope l = (h : Header) (v : Variable) → Views (parts l.view) h → slice_get h.declarations l.row ≡ Some (Declaration.Var v)
    → HasMatched h l.row (Declaration.Var v) l.scopes l.name l.rest

abbrev pub decreases-loop-scope : goal.decreases-loop-scope
decreases-loop-scope l = l.scopes.left
