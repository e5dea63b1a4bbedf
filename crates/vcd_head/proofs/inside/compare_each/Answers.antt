use Rattle.vcd_head.proofs.Cited.{◌≡◌, ◌+◌, Some, true, length, map, slice_get, string_bytes, take, refl, sym, ap, subst, ◌∙◌, arith, length-map, slice_get_read, Declaration, path_of, selects_path}
use Rattle.vcd_head.proofs.Facts.{get_mapped, Matching, match_all, match_first, match_next, match_same}
use Rattle.vcd_head.proofs.inside.compare_each.Goals as goal
use Rattle.vcd_head.proofs.inside.compare_each.Goals.{then-selects, else-selects}

pub loop-position-init : goal.loop-position-init
loop-position-init c = record {
  len = c.told-matched;
  asked = λ h x v at. match_first
      (selects_path (path_of (take c.args.row h.declarations) (Declaration.Var x))) (map string_bytes c.args.names.now) c.args.matched.now;
}

pub loop-position-preserved : goal.loop-position-preserved
loop-position-preserved c =
    let position = c.loop-position.position in
    let name = c.index-names-position.result in
    let names = map string_bytes c.args.names.now in
    let old = c.args.matched.now in
    let at : slice_get c.args.names.now position ≡ Some name = slice_get_read c.args.names.now (length c.args.names.now) position name refl (omega arith) c.index-names-position.is in
    let named = get_mapped string_bytes c.args.names.now position name at in
    let text = c.as_str.ensures.value in
    record {
      len = c.if-selects.array_long;
      asked = λ h x v is.
          let test = selects_path (path_of (take c.args.row h.declarations) (Declaration.Var x)) in
          let tested = c.selects.ensures h x v is ∙ ap test text in
          let m = c.loop-position.invariant.asked h x v is in
          let now = c.if-selects.matched in
          elim c.if-selects.branch [
            | then-selects w ↦
                subst (λ b. Matching test names (position + 1) old now b) (sym w.some-is)
                (subst (λ l. Matching test names (position + 1) old l true) (sym w.matched-is)
                (match_next test names position old c.loop-position.matched c.loop-position.some (string_bytes name) named
                (omega (arith, c.loop-position.invariant.len)) (sym tested ∙ w.if-selects.true) m))
            | else-selects w ↦
                subst (λ b. Matching test names (position + 1) old now b) (sym w.some-is)
                (subst (λ l. Matching test names (position + 1) old l c.loop-position.some) (sym w.matched-is)
                (match_same test names position old c.loop-position.matched c.loop-position.some (string_bytes name) named (sym tested
                ∙ w.if-selects.false) m))
          ];
    }

pub returns : goal.returns
returns c = λ h x v at.
    match_all (selects_path (path_of (take c.args.row h.declarations) (Declaration.Var x)))
    (map string_bytes c.args.names.now) c.loop-position.position c.args.matched.now c.loop-position.matched c.loop-position.some
    (omega (arith, length-map c.args.names.now string_bytes)) (c.loop-position.invariant.asked h x v at)
