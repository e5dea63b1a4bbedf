use Rattle.std.proofs.Common.{◌≡◌, ◌∙◌, ℕ, List, Err, Some, append-nil, arith, flat_map, get_or, rules, slice_get, subst, sym}
use Rattle.std.proofs.lemmas.List.{take_all}
use Rattle.std.proofs.lemmas.Option.{slice_get-get_or}
use Rattle.vcd_text.proofs.Writes.{AppendsSome}
use Rattle.vcd_text.specs.Device.{Appends}
use Rattle.vcd_strobe.proofs.LineSteps.{lines_cut, lines_more}
use Rattle.vcd_strobe.specs.Lines.{line_at}
use Rattle.vcd_strobe.proofs.edge_lines.put_lines.Goals as goal

pub returns-in_err-put_listed-clause-takes : goal.returns-in_err-put_listed-clause-takes
returns-in_err-put_listed-clause-takes g c = λ codes places roles laid.
    let line = line_at codes c.args.table.now c.args.roles.now c.args.time in
    let i = c.loop-code.code-index in
    let code = get_or c.args.listed.now i 0 in
    let at : slice_get c.args.listed.now i ≡ Some code = slice_get-get_or c.args.listed.now i 0 (omega arith) in
    let e : c.from_residual.result ≡ Err c.in_err-put_listed.field-0.0 = search rules in
    rw e (lines_cut line _ _ _ c.args.listed.now i code at (c.loop-code.invariant.lines codes places roles laid)
    (subst (AppendsSome (g.W.Sink.device c.loop-code.out).held (g.W.Sink.device c.put_listed.new.out).held) (sym (append-nil (line code))) (c.in_err-put_listed.ensures.takes codes places roles laid)))

pub loop-code-preserved : goal.loop-code-preserved
loop-code-preserved g c = record {
  same = c.in_ok-put_listed.ensures.counts ∙ c.loop-code.invariant.same;
  lines = λ codes places roles laid.
      let line = line_at codes c.args.table.now c.args.roles.now c.args.time in
      let i = c.loop-code.code-index in
      let code = get_or c.args.listed.now i 0 in
      let at : slice_get c.args.listed.now i ≡ Some code = slice_get-get_or c.args.listed.now i 0 (omega arith) in
      lines_more line _ _ _ c.args.listed.now i code at (c.loop-code.invariant.lines codes places roles laid)
      (subst (λ (l : List ℕ). Appends (g.W.Sink.device c.loop-code.out).held (g.W.Sink.device c.put_listed.new.out).held l)
      (sym (append-nil (line code))) (c.in_ok-put_listed.ensures.takes codes places roles laid));
}

pub returns-clause-takes : goal.returns-clause-takes
returns-clause-takes g c = λ codes places roles laid.
    subst (λ (l : List ℕ). Appends (g.W.Sink.device c.args.out.now).held (g.W.Sink.device c.loop-code.out).held
    (flat_map (line_at codes c.args.table.now c.args.roles.now c.args.time) l)) (take_all c.loop-code.code-index c.args.listed.now (omega arith))
    (c.loop-code.invariant.lines codes places roles laid)
