use Rattle.vcdkit.proofs.Cited.{◌≡◌, ◌∙◌, Ok, Err, refl, rules, sym, request_of, model_refusal, model_want, request_for, OutOfMemory, Refusal}
use Rattle.vcdkit.proofs.Facts.{asked_for, ended_last, ended_passed, followed, no_room, no_ticks}
use Rattle.vcdkit.specs.Calls.{speech_of}
use Rattle.vcdkit.specs.Work.{work_of}
use Rattle.vcdkit.proofs.commands.CommandsOneInput.run_over.Goals as goal

pub returns-in-Err-clause-ends : goal.returns-in-Err-clause-ends
returns-in-Err-clause-ends g c = λ h i front name v st. no_ticks c.args.job.now.task _ _ i front h name _ c.args.feed.now _ refl st c.in-Err.why (c.in-Err.ensures.same h v)

pub returns-in-Err-task_of-clause-ends : goal.returns-in-Err-task_of-clause-ends
returns-in-Err-task_of-clause-ends g c = λ h i front name v st.
    let why : request_of h.scale (model_want c.args.job.now.task) ≡ Err (model_refusal c.in-Err-task_of.why) = sym (c.in_default.ensures.same h v) ∙ c.in-Err-task_of.ensures.request h v in
    no_ticks c.args.job.now.task _ _ i front h name _ c.args.feed.now _ refl st c.in-Err-task_of.why why

pub returns-in_err-memory-clause-ends : goal.returns-in_err-memory-clause-ends
returns-in_err-memory-clause-ends g c = λ h i front name v st.
    let e : c.from_residual.result ≡ Err OutOfMemory = search rules in
    rw e (no_room (work_of (model_want c.args.job.now.task)) (speech_of c.args.job.now.task) _ _ i front h name _ c.args.feed.now _ refl st)

pub returns-clause-ends : goal.returns-clause-ends
returns-clause-ends g c = λ h i front name v st.
    let one = c.write_ticks.ensures.kind ∙ c.requires.ready in
    let same : request_of h.scale (model_want c.args.job.now.task) ≡ Ok (request_for c.in-Ok.task) = sym (c.in_default.ensures.same h v)
    ∙ c.in-Ok.ensures.request h v ∙ asked_for c.write_ticks.new.self c.in-Ok.task one in
    rw (c.answered.ensures) (followed c.args.job.now.task _ _ _ i front h name _ _ _ _ c.run_in.result c.requires.ready same (c.run_in.ensures.gives h i front name v st))

pub run_in-requires-clause-bound : goal.run_in-requires-clause-bound
run_in-requires-clause-bound g c = c.need_of-need.ensures.bound _ _ _ c.requires.chunk (record { values = search rules; slots = search rules; marks = search rules })

pub returns-clause-last : goal.returns-clause-last
returns-clause-last g c = rw (c.answered.ensures) (ended_last Refusal _ c.run_in.result c.run_in.ensures.last)

pub returns-clause-passed_on : goal.returns-clause-passed_on
returns-clause-passed_on g c = rw (c.answered.ensures) (ended_passed Refusal g.W.Sink.kept_back c.args.out.now c.run_in.new.out c.run_in.result c.run_in.ensures.passed_on)
