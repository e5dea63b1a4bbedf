use Rattle.vcd_engine.proofs.Cited.{map, string_bytes, refl, sym, subst, Appends, open_none, appends-none, IsValid, request_of}
use Rattle.vcd_engine.specs.declared.task.Task.TheVariants as task
use Rattle.vcd_engine.proofs.task_state.TaskState.start.Goals as goal

pub returns-in_ok-start-in-Edges-clause-starts : goal.returns-in_ok-start-in-Edges-clause-starts
returns-in_ok-start-in-Edges-clause-starts g c = λ h views. rw c.in-Edges.is (c.in_ok-start-in-Edges.ensures.starts h (g.W.Sink.device c.args.out.now) views)

pub returns-in_ok-start-in-Sample-clause-starts : goal.returns-in_ok-start-in-Sample-clause-starts
returns-in_ok-start-in-Sample-clause-starts g c = λ h views.
    let valid : IsValid (request_of (task.Sample c.in-Sample.times c.in-Sample.names)) = rw c.in-Sample.is at c.requires.valid in
    let held = (g.W.Sink.device c.args.out.now).held in
    let begun = c.in_ok-start-in-Sample.ensures.starts h views in
    rw c.in-Sample.is (
      record { body = refl; valid = valid; matched = begun.1 },
      begun.0,
      (subst (Appends held held) (sym (open_none h c.in-Sample.times.now (map string_bytes c.in-Sample.names.now))) (appends-none held), refl),
    )
