use Rattle.vcd_head.proofs.Cited.{sym, map, string_bytes, inl, inr, subst, arith, Inside, front, Follows}
use Rattle.vcd_head.proofs.Facts.{set_at}
use Rattle.vcd_head.proofs.inside.Open.new.Goals as goal

pub returns : goal.returns
returns c = λ h flags order same. record {
  held = λ k s l at.
      let names = map string_bytes c.args.group.now.names.now in
      let outermost = c.outermost.result in
      elim (set_at c.args.inside.now 0 k outermost s at) [
        | inl e ↦ subst (λ (x : Inside). Follows names c.args.group.now.order.now flags (front h.declarations x.scope) x.run) e.1
            (subst (λ n. Follows names c.args.group.now.order.now flags (front h.declarations n) outermost.run) (sym c.outermost.ensures.scope)
            (c.outermost.ensures.run flags order same))
        | inr n ↦ absurd (n.0 (omega (arith, l)))
      ];
  same = same;
}
