use Rattle.vcd_head.proofs.Cited.{◌≡◌, Err, refl, ◌∙◌, rules, counted}
use Rattle.vcd_head.proofs.Facts.{opens_first, opens_next, opens_more, opens_some}
use Rattle.vcd_head.proofs.merged.put_openings.Goals as goal

pub loop-scope-init : goal.loop-scope-init
loop-scope-init g c = record { same = refl; opens = λ h v l. opens_first h c.args.row c.args.count c.innermost-scopes.result (g.W.Sink.device c.args.w.now).held (c.innermost-scopes.ensures h l) }

pub loop-scope-preserved : goal.loop-scope-preserved
loop-scope-preserved g c = record {
  same = c.in_ok-put_scope_line.ensures.1 ∙ c.loop-scope.invariant.same;
  opens = λ h v l.
      let o = c.loop-scope.invariant.opens h v l in
      let n = opens_next h c.args.row c.in-Some.scope o.rest c.next.new.self l (c.in-Some.ensures.gives h c.args.row o.rest v o.leaves) in
      opens_more h c.args.row c.args.count c.in-Some.scope c.loop-scope.scopes c.next.new.self _ _ _ o n (c.in_ok-put_scope_line.ensures.0 h n.declared v n.at);
}

pub returns-in_err-put_scope_line : goal.returns-in_err-put_scope_line
returns-in_err-put_scope_line g c = counted (search rules) (λ h v l.
    let e : c.from_residual.result ≡ Err c.in_err-put_scope_line.field-0.0 = search rules in
    let o = c.loop-scope.invariant.opens h v l in
    let n = opens_next h c.args.row c.in-Some.scope o.rest c.next.new.self l (c.in-Some.ensures.gives h c.args.row o.rest v o.leaves) in
    rw e (opens_some h c.args.row c.args.count c.in-Some.scope c.loop-scope.scopes c.next.new.self _ _ _ o n (c.in_err-put_scope_line.ensures.0 h n.declared v n.at)))
