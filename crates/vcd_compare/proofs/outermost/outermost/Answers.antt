use Rattle.vcd_compare.proofs.Cited.{◌∷◌, ◌++◌, [], ℕ, List, length, slice_get, cond, filter, get_or, take, sym, ap, subst, ◌∙◌, add-one, arith, append-nil, take_all, slice_get-get_or, AllZip, AreNumbersOf}
use Rattle.vcd_compare.proofs.Facts.{is_out, out_more, outermost_is, same_len, zip_from}
use Rattle.vcd_compare.proofs.outermost.outermost.Goals as goal
use Rattle.vcd_compare.proofs.outermost.outermost.Goals.{then-not-is_covered+in_ok-push, else-not-is_covered}
use Rattle.vcd_compare.specs.Outermost.{firsts}

pub loop-pair-preserved : goal.loop-pair-preserved
loop-pair-preserved c = λ texts ns has zip.
    let i = c.loop-pair.pair-index in
    let keys = c.in_ok-all.all.keys in
    let out = c.loop-pair.outermost.items in
    let pair = get_or c.as_slice-pair-items.result.now i (0, 0) in
    let all = c.in_ok-all.ensures texts ns has.apart zip in
    let at = slice_get-get_or c.as_slice-pair-items.result.now i (0, 0) c.loop-pair-test.true in
    let n = zip_from (AreNumbersOf texts) keys (firsts ns) i pair all.0 (ap (λ (l : List (ℕ × ℕ)). slice_get l i) (sym c.as_slice-pair-items.ensures.keys) ∙ at) in
    let covered = sym (c.is_covered.ensures texts n.0 ns has n.2 all.1) in
    subst (λ j. AllZip (AreNumbersOf texts) c.if-not-is_covered.outermost.items (filter (is_out ns) (take j (firsts ns)))) (sym (add-one i))
    (out_more texts ns keys out c.if-not-is_covered.outermost.items i pair n.0 n.1 n.2 (elim c.if-not-is_covered.branch [
      | then-not-is_covered+in_ok-push w ↦ ap (λ v. v.items) w.outermost-is ∙ w.in_ok-push.ensures.items ∙ ap (λ b. out ++ cond b [] (pair ∷ [])) (sym (covered ∙ w.if-not-is_covered.true))
      | else-not-is_covered w ↦ ap (λ v. v.items) w.outermost-is ∙ sym (ap (λ b. out ++ cond b [] (pair ∷ [])) (covered ∙ w.if-not-is_covered.false) ∙ append-nil out)
    ]) (c.loop-pair.invariant texts ns has zip))

pub returns : goal.returns
returns c = λ texts ns has zip.
    let all = c.in_ok-all.ensures texts ns has.apart zip in
    let len = same_len (AreNumbersOf texts) c.in_ok-all.all.keys (firsts ns) all.0 in
    let same = ap length c.as_slice-pair-items.ensures.keys in
    subst (AllZip (AreNumbersOf texts) c.loop-pair.outermost.items)
    (ap (filter (is_out ns)) (take_all c.loop-pair.pair-index (firsts ns) (omega (arith, len, same, c.loop-pair-test.false))) ∙ outermost_is ns)
    (c.loop-pair.invariant texts ns has zip)
