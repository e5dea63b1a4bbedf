use Rattle.vcd_head.proofs.Cited.{◌≡◌, Err, List, ℕ, refl, subst, ◌∙◌, rules, Appends, AppendsSome, counted}
use Rattle.vcd_head.proofs.Facts.{names_first, name_next, names_more, names_some, point_some}
use Rattle.vcd_head.proofs.path.put_scopes.Goals as goal

pub loop-scope-init : goal.loop-scope-init
loop-scope-init g c = record { same = refl; names = λ h v l. names_first h c.args.row c.new-scopes.result (g.W.Sink.device c.args.w.now).held (c.new-scopes.ensures h l) }

pub loop-scope-preserved : goal.loop-scope-preserved
loop-scope-preserved g c = record {
  same = c.in_ok-put-2.ensures.1 ∙ c.in_ok-put.ensures.1 ∙ c.loop-scope.invariant.same;
  names = λ h v l.
      let n = c.loop-scope.invariant.names h v l in
      let next = name_next h c.args.row c.in-Some.scope c.loop-scope.scopes c.next.new.self _ _ n (c.in-Some.ensures.gives h c.args.row n.rest v n.leaves) in
      let name = subst (λ (l : List ℕ). Appends (g.W.Sink.device c.loop-scope.w).held (g.W.Sink.device c.put.new.w).held l)
      (c.name_of.ensures h next.is.declared v next.is.at) c.in_ok-put.ensures.0 in
      names_more h c.args.row c.in-Some.scope c.next.new.self _ _ _ _ next name c.in_ok-put-2.ensures.0;
}

pub returns-in_err-put : goal.returns-in_err-put
returns-in_err-put g c = counted (search rules) (λ h v l.
    let e : c.from_residual.result ≡ Err c.in_err-put.field-0.0 = search rules in
    let n = c.loop-scope.invariant.names h v l in
    let next = name_next h c.args.row c.in-Some.scope c.loop-scope.scopes c.next.new.self _ _ n (c.in-Some.ensures.gives h c.args.row n.rest v n.leaves) in
    let name = subst (λ (l : List ℕ). AppendsSome (g.W.Sink.device c.loop-scope.w).held (g.W.Sink.device c.put.new.w).held l)
    (c.name_of.ensures h next.is.declared v next.is.at) c.in_err-put.ensures.0 in
    rw e (names_some h c.args.row c.in-Some.scope c.next.new.self _ _ _ next name))

pub returns-in_err-put-2 : goal.returns-in_err-put-2
returns-in_err-put-2 g c = counted (search rules) (λ h v l.
    let e : c.from_residual-in_err-put-2.result ≡ Err c.in_err-put-2.field-0.0 = search rules in
    let n = c.loop-scope.invariant.names h v l in
    let next = name_next h c.args.row c.in-Some.scope c.loop-scope.scopes c.next.new.self _ _ n (c.in-Some.ensures.gives h c.args.row n.rest v n.leaves) in
    let name = subst (λ (l : List ℕ). Appends (g.W.Sink.device c.loop-scope.w).held (g.W.Sink.device c.put.new.w).held l)
    (c.name_of.ensures h next.is.declared v next.is.at) c.in_ok-put.ensures.0 in
    rw e (point_some h c.args.row c.in-Some.scope c.next.new.self _ _ _ _ next name c.in_err-put-2.ensures.0))
