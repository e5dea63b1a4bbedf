use Rattle.vcd_head.proofs.Cited.{◌≡◌, suc, refl, sym, subst, arith, rules, Enclosing}
use Rattle.vcd_head.proofs.Facts.{IsReady, ready_by_walk, ready_as_held, gives_some}
use Rattle.vcd_head.proofs.enclosing.Enclosing.next.Goals as goal
use Rattle.vcd_head.proofs.enclosing.Enclosing.next.Goals.{then-self-eq0, else-self-eq0}

pub returns-clause-gives : goal.returns-clause-gives
returns-clause-gives c = λ h row rest v l.
    let s = c.if-self-eq0.self in
    let old = c.args.self.now in
    let ready : IsReady h row rest s.rows s.left s.held × (s.row ≡ row) = elim c.if-self-eq0.branch [
      | then-self-eq0 w ↦
          subst (λ (e : Enclosing). IsReady h row rest e.rows e.left e.held × (e.row ≡ row)) (sym w.self-is)
          (ready_by_walk h row rest old _ _ _ l (w.walk-self.ensures.walks h v (omega (arith, l.within, l.from))) w.min-self.ensures, l.from)
      | else-self-eq0 w ↦ subst (λ (e : Enclosing). IsReady h row rest e.rows e.left e.held × (e.row ≡ row)) (sym w.self-is) (ready_as_held h row rest old l (omega arith), l.from)
    ] in
    let left : s.left ≡ suc c.in_ok-self.field-0 = search rules in
    let e : Enclosing = record { row = s.row; rows = s.rows; left = c.in_ok-self.field-0; held = c.saturating_sub-self.result } in
    gives_some h row rest s.rows s.left s.held e l.within ready.0 left c.saturating_sub-self.ensures refl ready.1
