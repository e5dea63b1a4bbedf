use Rattle.vcd_compare.proofs.Cited.{◌≡◌, ◌∙◌, true, Err, Ok, rules, sym, ap, subst}
use Rattle.vcd_compare.specs.Run.{LeavesDue}
use Rattle.vcd_compare.specs.declared.whole.Run.{Run}
use Rattle.vcd_compare.proofs.Facts.{closes, differs_none, differs_some}
use Rattle.vcd_compare.proofs.whole.RunTask.close.Goals as goal

pub returns-in_err-put_due-clause-closes : goal.returns-in_err-put_due-clause-closes
returns-in_err-put_due-clause-closes g c = λ p h items views known has on.
    let failed = c.in_err-put_due.field-0.0 in
    let e : c.from_residual.result ≡ Err failed = search rules in
    rw e (closes c.args.self.now c.put_due.new.self p h items has c.args.regs known c.put_due.ensures.same.last
    (g.W.Sink.device c.args.out.now) (g.W.Sink.device c.put_due.new.out) (Err failed)
    (c.in_err-put_due.ensures.puts h has.exceptions has.ns items views has.stands.compares) tt)

pub returns-then-not-branch-clause-closes : goal.returns-then-not-branch-clause-closes
returns-then-not-branch-clause-closes g c = λ p h items views known has on.
    let none = sym c.in_ok-put_due.ensures.tells ∙ c.if-not-branch.true in
    let run : Run = record { comparison = c.args.self.now.comparison; watched = c.args.self.now.watched; differs = c.args.self.now.differs; last = c.args.regs.time } in
    let same : c.put_due.new.self ≡ run = subst (λ some. LeavesDue some run c.put_due.new.self) c.if-not-branch.true c.in_ok-put_due.ensures.settles in
    let differs = ap (λ (r : Run). r.differs) same ∙ differs_none h has.exceptions has.ns items c.args.self.now has.stands none in
    closes c.args.self.now c.put_due.new.self p h items has c.args.regs known c.put_due.ensures.same.last
    (g.W.Sink.device c.args.out.now) (g.W.Sink.device c.put_due.new.out) (Ok tt)
    (c.in_ok-put_due.ensures.puts h has.exceptions has.ns items views has.stands.compares) differs

pub returns-clause-closes : goal.returns-clause-closes
returns-clause-closes g c = λ p h items views known has on.
    let due = sym c.in_ok-put_due.ensures.tells ∙ c.if-not-branch.false in
    let differs = differs_some h has.exceptions has.ns items c.args.self.now has.stands due in
    let run : Run = record { comparison = c.put_due.new.self.comparison; watched = c.put_due.new.self.watched; differs = true; last = c.put_due.new.self.last } in
    closes c.args.self.now run p h items has c.args.regs known c.put_due.ensures.same.last (g.W.Sink.device c.args.out.now)
    (g.W.Sink.device c.put_due.new.out) (Ok tt) (c.in_ok-put_due.ensures.puts h has.exceptions has.ns items views has.stands.compares) differs
