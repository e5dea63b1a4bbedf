use Rattle.vcd_engine.proofs.Cited.{◌≡◌, Ok, Err, false, take, drop, sym, ap, subst, ◌∙◌, arith, rules, AllByRecursion, is_settled, WriteFailed}
use Rattle.vcd_engine.proofs.Facts.{due_unsettled, ends_is, place_within, samples_behind, some_left, takes_due}
use Rattle.vcd_engine.specs.Sample.{names_in}
use Rattle.vcd_engine.proofs.task_state.sample.Sample.take_time.Goals as goal

pub split_at-requires : goal.split_at-requires
split_at-requires g c = omega (arith, c.count_below.ensures, place_within c.args.time c.args.self.now.rest.now)

pub returns-in_err-put_samples-clause-takes : goal.returns-in_err-put_samples-clause-takes
returns-in_err-put_samples-clause-takes g c = λ h items views is.
    let s = c.args.self.now in
    let t = c.args.time in
    let failed = c.in_err-put_samples.field-0.0 in
    let e : c.from_residual.result ≡ Err failed = search rules in
    let front = c.split_at.ensures.front ∙ ap (λ n. take n s.rest.now) c.count_below.ensures in
    let unsettled = subst (AllByRecursion (λ u. is_settled items u ≡ false)) (sym front) (due_unsettled s h items t is) in
    rw e (record {
      due = takes_due s h items t is (g.W.Sink.device c.args.out.now) (g.W.Sink.device c.put_samples.new.out)
          (Err failed) c.split_at.result.0.now front (c.in_err-put_samples.ensures.takes h items (names_in s) views is.marks_lead is.held unsettled);
      ends = tt;
      keeps = λ ok. cc;
    })

pub returns-clause-takes : goal.returns-clause-takes
returns-clause-takes g c = λ h items views is.
    let s = c.args.self.now in
    let t = c.args.time in
    let front = c.split_at.ensures.front ∙ ap (λ n. take n s.rest.now) c.count_below.ensures in
    let back = c.split_at.ensures.back ∙ ap (λ n. drop n s.rest.now) c.count_below.ensures in
    let unsettled = subst (AllByRecursion (λ u. is_settled items u ≡ false)) (sym front) (due_unsettled s h items t is) in
    record {
      due = takes_due s h items t is {E = WriteFailed} (g.W.Sink.device c.args.out.now) (g.W.Sink.device c.put_samples.new.out)
          (Ok c.is_empty.result) c.split_at.result.0.now front (c.in_ok-put_samples.ensures.takes h items
          (names_in s) views is.marks_lead is.held unsettled);
      ends = ends_is s h items t is c.split_at.result.1.now c.is_empty.result back c.is_empty.ensures;
      keeps = λ ok. samples_behind s h items t is c.split_at.result.1 back (some_left s h items t is c.split_at.result.1.now c.is_empty.result back c.is_empty.ensures cc);
    }
