use Rattle.vcd_head.proofs.Cited.{◌≡◌, ◌++◌, ◌∷◌, [], List, ℕ, Err, take, get_or, flat_map, sym, ap, subst, ◌∙◌, arith, rules, Appends, flat_map-append, append-nil, take_more, up_line, appends-twice, counted}
use Rattle.vcd_head.proofs.Facts.{texts-some}
use Rattle.vcd_head.proofs.merged.put_closings.Goals as goal

pub returns-in_err-put : goal.returns-in_err-put
returns-in_err-put g c = counted (search rules) (λ scopes many.
    let failed : c.from_residual.result ≡ Err c.in_err-put.field-0.0 = search rules in
    rw failed (texts-some _ _ _ (λ (scope : ℕ). up_line) scopes c.scopes.counter 0 (omega (arith, many)) (c.scopes.invariant.lines scopes many) c.in_err-put.ensures.0))

pub scopes-preserved : goal.scopes-preserved
scopes-preserved g c = record {
  same = c.in_ok-put.ensures.1 ∙ c.scopes.invariant.same;
  lines = λ scopes many.
      let f = λ (scope : ℕ). up_line in
      let i = c.scopes.counter in
      let one = ap (flat_map f) (take_more scopes i 0 (omega (arith, many))) ∙ flat_map-append f (take i scopes) (get_or scopes i 0 ∷ [])
      ∙ ap (λ l. flat_map f (take i scopes) ++ l) (append-nil up_line) in
      subst (λ (l : List ℕ). Appends (g.W.Sink.device c.args.w.now).held (g.W.Sink.device c.put.new.w).held l) (sym one)
      (appends-twice _ _ _ _ up_line (c.scopes.invariant.lines scopes many) c.in_ok-put.ensures.0);
}
