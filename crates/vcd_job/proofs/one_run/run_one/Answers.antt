use Rattle.vcd_job.proofs.Cited.{◌∙◌, Ok, Err, ap, map, subst, sym, string_bytes, name_at, failure_status, end_message, end_status, Tells}
use Rattle.vcd_job.proofs.Facts.{has_run, shows_nothing}
use Rattle.vcd_job.specs.OneRun.{speech_of}
use Rattle.vcd_job.proofs.one_run.run_one.Goals as goal

pub returns-in-Ok-Status-clause-low : goal.returns-in-Ok-Status-clause-low
returns-in-Ok-Status-clause-low g c = (c.in-Ok-Status.ensures.answers c.in-Ok-Status.status (ap (λ a. Ok a) c.in-Ok-Status.field-0-is)).1

pub returns-in-Ok-Status-clause-gives : goal.returns-in-Ok-Status-clause-gives
returns-in-Ok-Status-clause-gives g c = λ text h.
    let names = map string_bytes c.args.names.now in
    let s = speech_of g.J.OneInput c.args.job in
    let err = g.E.Sink.device c.args.err.now in
    has_run g.J.OneInput.program (g.J.OneInput.work c.args.job) s (g.J.OneInput.limit c.args.job)
    (g.J.OneInput.chunk c.args.job) names text _ _ _ _ err err c.in-Ok-Status.status (Ok c.in-Ok-Status.field-0)
    (c.in-Ok-Status.ensures.ends text (name_at names 0) h) c.in-Ok-Status.ensures.reads (sym (ap (λ a. end_status s names (Ok a)) c.in-Ok-Status.field-0-is))
    (subst (λ a. Tells g.J.OneInput.program err err (end_message s names (Ok a))) (sym c.in-Ok-Status.field-0-is) (shows_nothing err))

pub returns-in-Ok-Refused-clause-gives : goal.returns-in-Ok-Refused-clause-gives
returns-in-Ok-Refused-clause-gives g c = λ text h.
    let names = map string_bytes c.args.names.now in
    let s = speech_of g.J.OneInput c.args.job in
    let err = g.E.Sink.device c.args.err.now in
    let after = g.E.Sink.device c.refuse.new.err in
    let said = rw (c.run_input.ensures.refusal, c.name_at.ensures) at c.refuse.ensures.line in
    has_run g.J.OneInput.program (g.J.OneInput.work c.args.job) s (g.J.OneInput.limit c.args.job)
    (g.J.OneInput.chunk c.args.job) names text _ _ _ _ err after c.refuse.result (Ok c.in-Ok-Refused.field-0)
    (c.in-Ok-Refused.ensures.ends text (name_at names 0) h) c.in-Ok-Refused.ensures.reads (said.status ∙ sym (ap (λ a. end_status s names (Ok a)) c.in-Ok-Refused.field-0-is))
    (subst (λ a. Tells g.J.OneInput.program err after (end_message s names (Ok a))) (sym c.in-Ok-Refused.field-0-is) said.line)

pub returns-clause-gives : goal.returns-clause-gives
returns-clause-gives g c = λ text h.
    let names = map string_bytes c.args.names.now in
    let said = rw (c.program.ensures, c.names.ensures, c.run_input.ensures.asked) at c.report.ensures.line in
    has_run g.J.OneInput.program (g.J.OneInput.work c.args.job) (speech_of g.J.OneInput c.args.job) (g.J.OneInput.limit c.args.job)
    (g.J.OneInput.chunk c.args.job) names text _ _ _ _ _ _ c.report.result (Err c.in-Err.failure)
    (c.in-Err.ensures.ends text (name_at names 0) h) c.in-Err.ensures.reads (c.report.ensures.status ∙ ap (λ n. failure_status n c.in-Err.failure) (sym (c.faulty.ensures.status c.args.job))) said
