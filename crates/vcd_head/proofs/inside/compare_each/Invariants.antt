use Rattle.vcd_head.proofs.Cited.{◌≡◌, Some, length, map, take, slice_get, string_bytes, Declaration, Variable, path_of, Header, selects_path, parts, Views}
use Rattle.vcd_head.proofs.Facts.{Matching}
use Rattle.vcd_head.proofs.inside.compare_each.Given as goal

abbrev pub invariant-loop-position : goal.invariant-loop-position
invariant-loop-position l = record {
  len : length l.matched ≡ 16384;
  asked : (h : Header) (v : Variable) → Views (parts l.view) h → slice_get h.declarations l.row ≡ Some (Declaration.Var v)
      → Matching (selects_path (path_of (take l.row h.declarations) (Declaration.Var v))) (map string_bytes l.names) l.position l.initial.matched l.matched l.some;
}
