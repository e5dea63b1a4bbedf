use Rattle.vcd_compare.proofs.Cited.{◌≡◌, ◌∙◌, Err, length, get_or, refl, sym, ap, subst, arith, rules, settled_as, Device, appends-none, model_extent}
use Rattle.vcd_compare.proofs.Facts.{settles_due, settles_none, tells_again, tells_first, tells_later, tells_none}
use Rattle.vcd_model.specs.Compare.{Extent as ModelExtent}
use Rattle.vcd_compare.specs.declared.asked.Extent.{Extent}
use Rattle.vcd_compare.specs.declared.asked.Extent.TheVariants as extent
use Rattle.vcd_compare.specs.Run.{LeavesDue}
use Rattle.vcd_compare.specs.declared.current.Current.{Current}
use Rattle.vcd_compare.specs.declared.whole.Run.{Run}
use Rattle.vcd_compare.proofs.whole.Run.take_time.Goals as goal

pub returns-then-time-self-clause-takes : goal.returns-then-time-self-clause-takes
returns-then-time-self-clause-takes g c = λ h exceptions ns items views forth stands.
    let run = c.args.self.now in
    let out : Device = (g.W.Sink.device c.args.out.now) in
    let low = c.if-time-self.true in
    (rw (settles_none h exceptions ns items c.args.time run stands forth low) (appends-none out.held), tells_again h exceptions ns items c.args.time run stands forth low)

pub returns-in_err-put_due-clause-takes : goal.returns-in_err-put_due-clause-takes
returns-in_err-put_due-clause-takes g c = λ h exceptions ns items views forth stands.
    let failed = c.in_err-put_due.field-0.0 in
    let e : c.from_residual.result ≡ Err failed = search rules in
    rw e (
      rw (settles_due h exceptions ns items c.args.time c.args.self.now stands forth c.if-time-self.false)
          (c.in_err-put_due.ensures.puts h exceptions ns items views stands.compares),
      tt,
    )

pub returns-then-not-branch-clause-takes : goal.returns-then-not-branch-clause-takes
returns-then-not-branch-clause-takes g c = λ h exceptions ns items views forth stands.
    let run = c.args.self.now in
    let t = c.args.time in
    let same : c.put_due.new.self ≡ run = subst (λ some. LeavesDue some run c.put_due.new.self) c.if-not-branch.true c.in_ok-put_due.ensures.settles in
    let none = sym c.in_ok-put_due.ensures.tells ∙ c.if-not-branch.true in (
      rw (settles_due h exceptions ns items t run stands forth c.if-time-self.false) (c.in_ok-put_due.ensures.puts h exceptions ns items views stands.compares),
      tells_none h exceptions ns items t run stands forth c.if-time-self.false none _ (ap (λ (r : Run). r.comparison.current) same) (ap (λ (r : Run). r.comparison.skips.now) same) refl
          (c.clear.ensures.many ∙ ap (λ (r : Run). length r.comparison.touched.marks.now) same)
          (λ k. c.clear.ensures.cleared k ∙ ap (λ (r : Run). settled_as 0 (get_or r.comparison.touched.marks.now k 0)) same) (ap (λ (r : Run). r.differs) same),
    )

pub returns-in-First-clause-takes : goal.returns-in-First-clause-takes
returns-in-First-clause-takes g c = λ h exceptions ns items views forth stands.
    let run = c.args.self.now in
    let t = c.args.time in
    let left = subst (λ some. LeavesDue some run c.put_due.new.self) c.if-not-branch.false c.in_ok-put_due.ensures.settles in
    let due = sym c.in_ok-put_due.ensures.tells ∙ c.if-not-branch.false in (
      rw (settles_due h exceptions ns items t run stands forth c.if-time-self.false) (c.in_ok-put_due.ensures.puts h exceptions ns items views stands.compares),
      tells_first h exceptions ns items t run stands forth c.if-time-self.false due _
          (ap (λ (k : Current). model_extent k.asked.extent) (sym left.1.current) ∙ ap model_extent c.in-First.is) refl,
    )

others : (e : Extent) → (e ≡ extent.First → ⊥) → model_extent e ≡ ModelExtent.First → ⊥
others extent.First other is = other refl
others extent.EachPair other is = cc
others extent.Always other is = cc

pub returns-clause-takes : goal.returns-clause-takes
returns-clause-takes g c = λ h exceptions ns items views forth stands.
    let run = c.args.self.now in
    let t = c.args.time in
    let left = subst (λ some. LeavesDue some run c.put_due.new.self) c.if-not-branch.false c.in_ok-put_due.ensures.settles in
    let due = sym c.in_ok-put_due.ensures.tells ∙ c.if-not-branch.false in
    let first = ap (λ (k : Current). k.asked.extent) left.1.current in (
      rw (settles_due h exceptions ns items t run stands forth c.if-time-self.false) (c.in_ok-put_due.ensures.puts h exceptions ns items views stands.compares),
      tells_later h exceptions ns items t run stands forth c.if-time-self.false due _ left.1.flags left.1.has left.1.current left.1.skips refl left.1.many
          left.1.each (others run.comparison.current.asked.extent (λ e. c.in_default.not-First (first ∙ e))) refl,
    )

pub returns-then-not-branch-clause-ready : goal.returns-then-not-branch-clause-ready
returns-then-not-branch-clause-ready g c = λ goes.
    let ready = c.in_ok-put_due.ensures.ready in
    let last = ready.rows.last in
    record {
      listed = c.clear.ensures.listed;
      laid = ready.laid;
      rows = record { linked = ready.rows.linked; last = omega (arith, last, c.clear.ensures.many); room = ready.rows.room };
    }

pub returns-clause-ready : goal.returns-clause-ready
returns-clause-ready g c = λ goes. c.in_ok-put_due.ensures.ready
