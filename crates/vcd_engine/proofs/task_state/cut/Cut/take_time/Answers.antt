use Rattle.vcd_engine.proofs.Cited.{◌≡◌, ℕ, ◌≤◌, ◌<◌, Bool, Result, Ok, Err, true, false, Some, refl, sym, ◌∙◌, subst, arith, rules, closing, Takes, WriteFailed, LastTells, times_with}
use Rattle.vcd_engine.proofs.Facts.{above_is, begun_some, mark_ends, mark_goes, values_due}
use Rattle.vcd_engine.proofs.task_state.cut.Cut.take_time.Goals as goal

pub returns-in_err-begin_by-clause-takes : goal.returns-in_err-begin_by-clause-takes
returns-in_err-begin_by-clause-takes g c = λ h items views is.
    let m = c.args.self.now in
    let e : c.from_residual.result ≡ Err c.in_err-begin_by.field-0.0 = search rules in
    let b = c.in_err-begin_by.ensures.begins h items views (values_due h items m is) in
    rw e (record {
      due = begun_some h m.from m.to items is.on c.args.time (g.W.Sink.device c.args.out.now) (g.W.Sink.device c.begin_by.new.out)
          (Err c.in_err-begin_by.field-0.0) refl (sym is.started_is ∙ b.0) b.1 b.2.0;
      ends = tt;
      keeps = λ q. cc;
    })

pub returns-then-time-self-clause-takes : goal.returns-then-time-self-clause-takes
returns-then-time-self-clause-takes g c = λ h items views is.
    let m = c.args.self.now in
    let span = c.in_ok-begin_by.ensures.same.0 in
    let same_from : c.begin_by.new.self.from ≡ m.from = cc in
    let same_to : c.begin_by.new.self.to ≡ m.to = cc in
    let low : c.args.time ≤ m.to = omega (arith, same_to, c.if-time-self.true) in
    mark_goes h items m c.begin_by.new.self c.args.time (g.W.Sink.device c.args.out.now) (g.W.Sink.device c.begin_by.new.out)
    (Ok false) refl is low same_from same_to (c.in_ok-begin_by.ensures.begins h items views (values_due h items m is))

pub returns-in_err-close-clause-takes : goal.returns-in_err-close-clause-takes
returns-in_err-close-clause-takes g c = λ h items views is.
    let m = c.args.self.now in
    let span = c.in_ok-begin_by.ensures.same.0 in
    let same_to : c.begin_by.new.self.to ≡ m.to = cc in
    let high : m.to < c.args.time = omega (arith, same_to, c.if-time-self.false) in
    let e : c.from_residual-in_err-close.result ≡ Err c.in_err-close.field-0.0 = search rules in
    let failed : Result Bool WriteFailed = Err c.in_err-close.field-0.0 in
    rw e (record {
      due = mark_ends h items m c.begin_by.new.self c.args.time (g.W.Sink.device c.args.out.now) (g.W.Sink.device c.begin_by.new.out)
          (g.W.Sink.device c.close.new.out) failed failed is high (c.in_ok-begin_by.ensures.begins h items views (values_due h items m is))
          (λ before kept has.
          subst (λ n. ((u : ℕ) → Some n ≡ Some u → LastTells (times_with before kept) u)
          → Takes (g.W.Sink.device c.begin_by.new.out) (g.W.Sink.device c.close.new.out) (closing (times_with before kept) (Some n)) failed)
          same_to (c.in_err-close.ensures.takes before kept has))
          (λ l x. x);
      ends = tt;
      keeps = λ q. cc;
    })

pub returns-clause-takes : goal.returns-clause-takes
returns-clause-takes g c = λ h items views is.
    let m = c.args.self.now in
    let span = c.in_ok-begin_by.ensures.same.0 in
    let same_to : c.begin_by.new.self.to ≡ m.to = cc in
    let high : m.to < c.args.time = omega (arith, same_to, c.if-time-self.false) in
    let done : Result Bool WriteFailed = Ok true in
    record {
      due = mark_ends h items m c.begin_by.new.self c.args.time (g.W.Sink.device c.args.out.now) (g.W.Sink.device c.begin_by.new.out)
          (g.W.Sink.device c.close.new.out) done done is high (c.in_ok-begin_by.ensures.begins h items views (values_due h items m is))
          (λ before kept has.
          subst (λ n. ((u : ℕ) → Some n ≡ Some u → LastTells (times_with before kept) u)
          → Takes (g.W.Sink.device c.begin_by.new.out) (g.W.Sink.device c.close.new.out) (closing (times_with before kept) (Some n)) done)
          same_to (c.in_ok-close.ensures.takes before kept has))
          (λ l x. x);
      ends = sym (above_is m.to c.args.time high);
      keeps = λ q. cc;
    }
