use Rattle.vcd_compare.proofs.Cited.{◌≡◌, List, Err, subst, ◌∙◌, arith, rules, Appends, take_all, AllZip-long, Named, alone_lines, counted}
use Rattle.vcd_compare.proofs.Facts.{alone_of, lines_cut, lines_more, zip_get}
use Rattle.vcd_compare.specs.Pairs.{IsNamedAt}
use Rattle.vcd_compare.proofs.lines.put_alone.Goals as goal

pub returns-in_err-put_alone_line : goal.returns-in_err-put_alone_line
returns-in_err-put_alone_line g c = counted (search rules) (λ h vs views all.
    let at = zip_get (IsNamedAt h) c.args.rows.now vs c.loop-row.row-index 0 all (omega arith) in
    let e : c.from_residual.result ≡ Err c.in_err-put_alone_line.field-0.0 = search rules in
    rw e (lines_cut (alone_of c.args.letter.now) _ _ _ vs c.loop-row.row-index at.0 at.1 (c.loop-row.invariant.lines h vs views all) (c.in_err-put_alone_line.ensures.0 h at.0 views at.2)))

pub loop-row-preserved : goal.loop-row-preserved
loop-row-preserved g c = record {
  same = c.in_ok-put_alone_line.ensures.1 ∙ c.loop-row.invariant.same;
  lines = λ h vs views all.
      let at = zip_get (IsNamedAt h) c.args.rows.now vs c.loop-row.row-index 0 all (omega arith) in
      lines_more (alone_of c.args.letter.now) _ _ _ vs c.loop-row.row-index at.0 at.1 (c.loop-row.invariant.lines h vs views all) (c.in_ok-put_alone_line.ensures.0 h at.0 views at.2);
}

pub returns : goal.returns
returns g c = counted (search rules) (λ h vs views all.
    let long = AllZip-long (IsNamedAt h) c.args.rows.now vs all in
    subst (λ (l : List Named). Appends (g.W.Sink.device c.args.out.now).held (g.W.Sink.device c.loop-row.out).held (alone_lines c.args.letter.now l))
    (take_all c.loop-row.row-index vs (omega (arith, c.loop-row-test.false, long))) (c.loop-row.invariant.lines h vs views all))
