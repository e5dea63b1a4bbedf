use Rattle.vcd_head.proofs.Cited.{◌≡◌, Option, Err, ℕ, refl, subst, ◌∙◌, rules, is_marked, counted}
use Rattle.vcd_head.proofs.Facts.{Closes, closes_none, closes_next, closes_some}
use Rattle.vcd_head.proofs.write.put_ups_at_end.Goals as goal

pub loop-next-init : goal.loop-next-init
loop-next-init g c = record {
  same = refl;
  closes = λ h v. closes_none (is_marked c.args.marks.now) h.declarations c.innermost_open_scope-next.result (g.W.Sink.device c.args.w.now).held (c.innermost_open_scope-next.ensures h v);
}

pub loop-next-preserved : goal.loop-next-preserved
loop-next-preserved g c = record {
  same = c.in_ok-put_up_line.ensures.1 ∙ c.loop-next.invariant.same;
  closes = λ h v.
      let m = is_marked c.args.marks.now in
      let so_far = subst (λ (o : Option ℕ). Closes m h.declarations o (g.W.Sink.device c.args.w.now).held (g.W.Sink.device c.loop-next.w).held) c.in-Some.is (c.loop-next.invariant.closes h v) in
      closes_next m h.declarations c.in-Some.scope c.scope_of-next.result _ _ _ so_far c.in_ok-put_up_line.ensures.0 (c.scope_of-next.ensures.scope h v so_far.within);
}

pub returns-in_err-put_up_line : goal.returns-in_err-put_up_line
returns-in_err-put_up_line g c = counted (search rules) (λ h v.
    let m = is_marked c.args.marks.now in
    let e : c.from_residual.result ≡ Err c.in_err-put_up_line.field-0.0 = search rules in
    let so_far = subst (λ (o : Option ℕ). Closes m h.declarations o (g.W.Sink.device c.args.w.now).held (g.W.Sink.device c.loop-next.w).held) c.in-Some.is (c.loop-next.invariant.closes h v) in
    rw e (closes_some m h.declarations c.in-Some.scope _ _ _ so_far c.in_err-put_up_line.ensures.0))
