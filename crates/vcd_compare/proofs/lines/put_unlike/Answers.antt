use Rattle.vcd_compare.proofs.Cited.{◌≡◌, false, List, Err, subst, ◌∙◌, arith, rules, Appends, take_all, AllZip-long, Pair, unlike_lines, counted, IsUnlikeAt}
use Rattle.vcd_compare.proofs.Facts.{lines_cut, lines_more, zip_get}
use Rattle.vcd_compare.proofs.LineLemmas.{unlike_of}
use Rattle.vcd_compare.proofs.lines.put_unlike.Goals as goal

pub returns-in_err-put_unlike_line : goal.returns-in_err-put_unlike_line
returns-in_err-put_unlike_line g c = counted (search rules) (λ h ps views all.
    let at = zip_get (IsUnlikeAt h) c.args.rows.now ps c.loop-unlike.unlike-index (record { one = 0; ranged = false; other = 0 }) all (omega arith) in
    let e : c.from_residual.result ≡ Err c.in_err-put_unlike_line.field-0.0 = search rules in
    rw e (lines_cut unlike_of _ _ _ ps c.loop-unlike.unlike-index at.0 at.1 (c.loop-unlike.invariant.lines h ps views all) (c.in_err-put_unlike_line.ensures.0 h at.0 views at.2)))

pub loop-unlike-preserved : goal.loop-unlike-preserved
loop-unlike-preserved g c = record {
  same = c.in_ok-put_unlike_line.ensures.1 ∙ c.loop-unlike.invariant.same;
  lines = λ h ps views all.
      let at = zip_get (IsUnlikeAt h) c.args.rows.now ps c.loop-unlike.unlike-index (record { one = 0; ranged = false; other = 0 }) all (omega arith) in
      lines_more unlike_of _ _ _ ps c.loop-unlike.unlike-index at.0 at.1 (c.loop-unlike.invariant.lines h ps views all) (c.in_ok-put_unlike_line.ensures.0 h at.0 views at.2);
}

pub returns : goal.returns
returns g c = counted (search rules) (λ h ps views all.
    let long = AllZip-long (IsUnlikeAt h) c.args.rows.now ps all in
    subst (λ (l : List Pair). Appends (g.W.Sink.device c.args.out.now).held (g.W.Sink.device c.loop-unlike.out).held (unlike_lines l))
    (take_all c.loop-unlike.unlike-index ps (omega (arith, c.loop-unlike-test.false, long))) (c.loop-unlike.invariant.lines h ps views all))
