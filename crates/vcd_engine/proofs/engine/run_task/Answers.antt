use Rattle.vcd_engine.proofs.Cited.{◌≡◌, ◌+◌, ◌∙◌, ℕ, Err, add-zero, ap, refl, rules, subst, Device, Read, Request, StopsUnread, request_of}
use Rattle.vcd_body.specs.Answer.{writes_failed}
use Rattle.vcd_run.specs.Run.{EndsIf}
use Rattle.vcd_engine.specs.Engine.{may_end_early}
use Rattle.vcd_engine.specs.Plan.{plan_of}
use Rattle.vcd_engine.proofs.Facts.{begun_plan, follows, never_begun}
use Rattle.vcd_engine.proofs.engine.run_task.Goals as goal

pub returns-in_err-task_state-clause-runs : goal.returns-in_err-task_state-clause-runs
returns-in_err-task_state-clause-runs g c = record {
  gives = λ h i front name views st.
      let stop = c.in_err-task_state.field-0.0 in
      let e : c.from_residual.result ≡ Err stop = search rules in
      let out : Device = (g.W.Sink.device c.args.out.now) in
      let new : Device = (g.W.Sink.device c.start.new.out) in
      rw e (never_begun (request_of c.args.task) _ i front h name _ _ out new c.args.feed.now stop refl st (c.in_err-task_state.ensures.starts h views));
  devices = search rules;
  last = λ input is.
      let stop = c.in_err-task_state.field-0.0 in
      let e : c.from_residual.result ≡ Err stop = search rules in
      let named : stop ≡ Read input = cc in
      absurd (subst StopsUnread named c.in_err-task_state.ensures.begins.answer);
  windows = search rules;
}

pub returns-in_err-task_state-clause-passed_on : goal.returns-in_err-task_state-clause-passed_on
returns-in_err-task_state-clause-passed_on g c = λ input is.
    let stop = c.in_err-task_state.field-0.0 in
    let e : c.from_residual.result ≡ Err stop = search rules in
    let named : stop ≡ Read input = cc in
    absurd (subst StopsUnread named c.in_err-task_state.ensures.begins.answer)

pub returns-clause-runs : goal.returns-clause-runs
returns-clause-runs g c = record {
  gives = λ h i front name views st.
      let t = request_of c.args.task in
      let begun = c.in_ok-task_state.ensures.starts h views in
      let keeps = begun_plan t _ h c.in_ok-task_state.ensures.begins.answer begun.1 in
      let out : Device = (g.W.Sink.device c.args.out.now) in
      follows t h i front name _ _ _ _ _ out (g.W.Sink.device c.run_to_end.new.out) c.run_to_end.result begun.0
      (c.run_to_end.ensures.runs (plan_of t h) h i front out views st keeps refl begun.2)
      (c.run_to_end.ensures.needed (plan_of t h) h i front out views st keeps refl begun.2);
  devices = (
    c.run_to_end.ensures.devices.0,
    c.run_to_end.ensures.devices.1 ∙ ap (λ (n : ℕ). n + writes_failed c.run_to_end.result) (c.in_ok-task_state.ensures.begins.failures ∙ add-zero _),
  );
  last = c.run_to_end.ensures.last;
  windows = c.run_to_end.ensures.windows;
}

pub returns-clause-answer : goal.returns-clause-answer
returns-clause-answer g c = subst (λ (q : Request). EndsIf (may_end_early q) c.run_to_end.result) c.in_ok-task_state.ensures.begins.answer c.run_to_end.ensures.early
