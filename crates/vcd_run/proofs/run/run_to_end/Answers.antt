use Rattle.std.proofs.Common.{◌≡◌, ◌∙◌, ◌+◌, ℕ, [], ◌∷◌, ◌++◌, take, append-nil, Result, Ok, Err, inl, inr, refl, sym, ap, subst, rules, arith, add-zero}
use Rattle.vcd_text.proofs.AdvancesLemmas.{advances_nowhere, advances_on}
use Rattle.vcd_text.specs.Advances.{Advances, CallEnd}
use Rattle.vcd_text.proofs.Writes.{some-behind}
use Rattle.vcd_text.specs.Device.{Device, WritesSome, supply}
use Rattle.vcd_text.specs.Feed.{chunk_len_of, limit_of, seen, supply_of}
use Rattle.vcd_body.proofs.PaceLemmas.{read_nothing}
use Rattle.vcd_body.specs.Answer.{reads_failed, writes_failed}
use Rattle.vcd_body.specs.declared.answer.Done.{Done}
use Rattle.vcd_body.specs.declared.answer.More.{More}
use Rattle.vcd_body.specs.declared.answer.More.TheVariants.{Again, Ended}
use Rattle.vcd_body.specs.declared.answer.Stop.{Stop}
use Rattle.vcd_body.specs.declared.answer.Stop.TheVariants.{Read, Write}
use Rattle.vcd_run.specs.Plan.{due_with, is_settled_with}
use Rattle.vcd_run.specs.Run.{BodyGives, StepGives, step_end}
use Rattle.vcd_run.proofs.ReadLemmas.{needed_before, needed_last, read_ahead, read_more, read_step, reads_past, step_last, step_reads}
use Rattle.vcd_run.proofs.StepLemmas.{ended, pass_fails, some_written, still_written, stops, taken_none, written_behind}
use Rattle.vcd_run.proofs.run.run_to_end.Goals as goal

not_one_more : (n : ℕ) → n ≡ n + 1 → ⊥
not_one_more n e = omega (arith, e)

pub items-init : goal.items-init
items-init g c = (
  advances_nowhere g.S.Source.failures c.args.feed.now,
  c.requires.ready,
  refl,
  refl,
  λ p h i front begin views given stands on writes. (
    [],
    taken_none g.T.Task.keeps p h i front c.args.task.now c.new-regs.result c.args.feed.now given c.new-regs.ensures.known stands on,
    writes,
    read_nothing (is_settled_with p h) (due_with p h) (limit_of c.args.feed.now) (chunk_len_of c.args.feed.now) i front (p.opens []) (supply_of c.args.feed.now),
  ),
)

pub returns-in_err-advance_ahead-clause-runs : goal.returns-in_err-advance_ahead-clause-runs
returns-in_err-advance_ahead-clause-runs g c = λ p h i front begin views given stands on writes.
    let s = c.items.invariant.4 p h i front begin views given stands on writes in
    let new : Device = (g.W.Sink.device c.advance_ahead.new.out) in
    let e : c.from_residual.result ≡ Err Write = search rules in
    let f = c.advance_ahead.new.feed in
    let a = c.in_err-advance_ahead.ensures.steps p h i front s.0 views s.1 in
    let some = some_written begin (g.W.Sink.device c.items.out) new (p.opens s.0) (p.opens (s.0 ++ a.0)) s.2 a.1.1 in
    let limit : limit_of f ≡ limit_of c.args.feed.now = c.in_err-advance_ahead.ensures.advances.limit ∙ c.items.invariant.0.limit in
    rw e (subst (λ (n : ℕ). BodyGives (g.T.Task.tells c.advance_ahead.new.task) p h i front n (seen f) begin new (Err Write)) limit
    (pass_fails (g.T.Task.tells c.advance_ahead.new.task) p h i front (s.0 ++ a.0) c.advance_ahead.new.regs f (seen f) begin new a.1.0 some))

pub returns-in_err-advance_ahead-clause-needed : goal.returns-in_err-advance_ahead-clause-needed
returns-in_err-advance_ahead-clause-needed g c = λ p h i front begin views given stands on writes.
    let e : c.from_residual.result ≡ Err Write = search rules in
    let s = c.items.invariant.4 p h i front begin views given stands on writes in
    let f = c.advance_ahead.new.feed in
    let a = c.in_err-advance_ahead.ensures.steps p h i front s.0 views s.1 in
    let before = supply_of c.args.feed.now in
    let still : supply_of f ≡ supply_of c.items.feed = ap (supply g.S.Source.rest g.S.Source.failures) c.in_err-advance_ahead.ensures.source in
    let same : (supply_of f).failures ≡ before.failures = ap g.S.Source.failures c.in_err-advance_ahead.ensures.source ∙ c.items.invariant.0.same (λ x. cc) in
    let read = read_ahead p h (limit_of c.args.feed.now) (chunk_len_of c.args.feed.now) i front before s.0 s.0 (supply_of c.items.feed) (supply_of f) ([], sym (append-nil (p.opens s.0))) still s.3 in
    rw e (needed_before p h (limit_of c.args.feed.now) (chunk_len_of c.args.feed.now) i front before s.0 (supply_of f) begin
    (g.W.Sink.device c.items.out) (g.W.Sink.device c.advance_ahead.new.out) same read s.2 (take a.1.1.2.0.0 a.1.1.0, a.1.1.2.0.1))

pub returns-in_err-advance_ahead-clause-fixed : goal.returns-in_err-advance_ahead-clause-fixed
returns-in_err-advance_ahead-clause-fixed g c = c.in_err-advance_ahead.ensures.fixed ∙ c.items.invariant.2

pub returns-in_err-pass_on_before_read-clause-runs : goal.returns-in_err-pass_on_before_read-clause-runs
returns-in_err-pass_on_before_read-clause-runs g c = λ p h i front begin views given stands on writes.
    let s = c.items.invariant.4 p h i front begin views given stands on writes in
    let out : Device = (g.W.Sink.device c.advance_ahead.new.out) in
    let new : Device = (g.W.Sink.device c.pass_on_before_read.new.out) in
    let a = c.in_ok-advance_ahead.ensures.steps p h i front s.0 views s.1 in
    let all = s.0 ++ a.0 in
    let first = written_behind begin (g.W.Sink.device c.items.out) out (p.opens s.0) (p.opens all) s.2 a.1.1 in
    let some = subst (WritesSome begin new) (append-nil (p.opens all)) (some-behind begin out new (p.opens all) [] first c.in_err-pass_on_before_read.ensures.puts) in
    let e : c.from_residual-in_err-pass_on_before_read.result ≡ Err Write = search rules in
    let f = c.advance_ahead.new.feed in
    let limit : limit_of f ≡ limit_of c.args.feed.now = c.in_ok-advance_ahead.ensures.advances.limit ∙ c.items.invariant.0.limit in
    rw e (subst (λ (n : ℕ). BodyGives (g.T.Task.tells c.advance_ahead.new.task) p h i front n (seen f) begin new (Err Write)) limit
    (pass_fails (g.T.Task.tells c.advance_ahead.new.task) p h i front all c.advance_ahead.new.regs f (seen f) begin new a.1.0.gave some))

pub returns-in_err-pass_on_before_read-clause-needed : goal.returns-in_err-pass_on_before_read-clause-needed
returns-in_err-pass_on_before_read-clause-needed g c = λ p h i front begin views given stands on writes.
    let e : c.from_residual-in_err-pass_on_before_read.result ≡ Err Write = search rules in
    let s = c.items.invariant.4 p h i front begin views given stands on writes in
    let f = c.advance_ahead.new.feed in
    let a = c.in_ok-advance_ahead.ensures.steps p h i front s.0 views s.1 in
    let all = s.0 ++ a.0 in
    let first = written_behind begin (g.W.Sink.device c.items.out) (g.W.Sink.device c.advance_ahead.new.out) (p.opens s.0) (p.opens all) s.2 a.1.1 in
    let before = supply_of c.args.feed.now in
    let still : supply_of f ≡ supply_of c.items.feed = ap (supply g.S.Source.rest g.S.Source.failures) c.in_ok-advance_ahead.ensures.source in
    let same : (supply_of f).failures ≡ before.failures = ap g.S.Source.failures c.in_ok-advance_ahead.ensures.source ∙ c.items.invariant.0.same (λ x. cc) in
    let read = read_ahead p h (limit_of c.args.feed.now) (chunk_len_of c.args.feed.now) i front before s.0 all (supply_of c.items.feed) (supply_of f) (a.1.1.0, a.1.1.1) still s.3 in
    let some = c.in_err-pass_on_before_read.ensures.puts.0 in
    rw e (needed_before p h (limit_of c.args.feed.now) (chunk_len_of c.args.feed.now) i front before all (supply_of f) begin
    (g.W.Sink.device c.advance_ahead.new.out) (g.W.Sink.device c.pass_on_before_read.new.out) same read first (take some.0 [], some.1))

pub returns-in_err-pass_on_before_read-clause-fixed : goal.returns-in_err-pass_on_before_read-clause-fixed
returns-in_err-pass_on_before_read-clause-fixed g c = c.in_ok-advance_ahead.ensures.fixed ∙ c.items.invariant.2

pub returns-in_err-step-clause-runs : goal.returns-in_err-step-clause-runs
returns-in_err-step-clause-runs g c = λ p h i front begin views given stands on writes.
    let s = c.items.invariant.4 p h i front begin views given stands on writes in
    let out : Device = (g.W.Sink.device c.advance_ahead.new.out) in
    let mid : Device = (g.W.Sink.device c.pass_on_before_read.new.out) in
    let new : Device = (g.W.Sink.device c.step.new.out) in
    let a = c.in_ok-advance_ahead.ensures.steps p h i front s.0 views s.1 in
    let all = s.0 ++ a.0 in
    let first = written_behind begin (g.W.Sink.device c.items.out) out (p.opens s.0) (p.opens all) s.2 a.1.1 in
    let written = still_written begin out mid (p.opens all) first c.in_ok-pass_on_before_read.ensures.puts in
    let stop = c.in_err-step.field-0.0 in
    let e : c.from_residual-in_err-step.result ≡ Err stop = search rules in
    let limit : limit_of c.step.new.feed ≡ limit_of c.args.feed.now = c.in_err-step.ensures.over.advances.limit ∙ c.in_ok-advance_ahead.ensures.advances.limit ∙ c.items.invariant.0.limit in
    rw e (subst (λ (n : ℕ). BodyGives (g.T.Task.tells c.step.new.task) p h i front n (seen c.step.new.feed) begin new (Err stop)) limit
    (stops g.T.Task.keeps
    (g.T.Task.tells c.step.new.task) p h i front all c.step.new.task c.step.new.regs c.step.new.feed begin mid new a.1.0.on written stop
    (c.in_err-step.ensures.steps p h i front all views a.1.0)))

pub returns-in_err-step-clause-needed : goal.returns-in_err-step-clause-needed
returns-in_err-step-clause-needed g c = λ p h i front begin views given stands on writes.
    let stop = c.in_err-step.field-0.0 in
    let e : c.from_residual-in_err-step.result ≡ Err stop = search rules in
    let s = c.items.invariant.4 p h i front begin views given stands on writes in
    let out : Device = (g.W.Sink.device c.advance_ahead.new.out) in
    let mid : Device = (g.W.Sink.device c.pass_on_before_read.new.out) in
    let new : Device = (g.W.Sink.device c.step.new.out) in
    let a = c.in_ok-advance_ahead.ensures.steps p h i front s.0 views s.1 in
    let all = s.0 ++ a.0 in
    let first = written_behind begin (g.W.Sink.device c.items.out) out (p.opens s.0) (p.opens all) s.2 a.1.1 in
    let written = still_written begin out mid (p.opens all) first c.in_ok-pass_on_before_read.ensures.puts in
    let over = c.in_err-step.ensures.over in
    let unfailed = c.in_ok-advance_ahead.ensures.advances.goes refl (c.items.invariant.0.goes refl c.requires.open) in
    let limit = over.advances.limit ∙ c.in_ok-advance_ahead.ensures.advances.limit ∙ c.items.invariant.0.limit in
    let chunk = over.advances.chunk ∙ c.in_ok-advance_ahead.ensures.advances.chunk ∙ c.items.invariant.0.chunk in
    let same = c.in_ok-advance_ahead.ensures.advances.same (λ x. cc) ∙ c.items.invariant.0.same (λ x. cc) in
    let past = reads_past g.T.Task.keeps (g.T.Task.tells c.step.new.task) p h i front all c.step.new.task c.step.new.regs c.step.new.feed mid new
    (Err stop) (c.in_err-step.ensures.steps p h i front all views a.1.0) in
    rw e (needed_last p h (limit_of c.args.feed.now) (chunk_len_of c.args.feed.now) i front
    (supply_of c.args.feed.now) all c.advance_ahead.new.feed c.step.new.feed begin mid new
    (Err stop) a.1.0.on limit chunk unfailed same over.advances written past)

pub returns-in_err-step-clause-last : goal.returns-in_err-step-clause-last
returns-in_err-step-clause-last g c = λ input is.
    let stop = c.in_err-step.field-0.0 in
    let e : c.from_residual-in_err-step.result ≡ Err stop = search rules in
    let named : stop ≡ Read input = cc in
    let unfailed = c.in_ok-advance_ahead.ensures.advances.goes refl (c.items.invariant.0.goes refl c.requires.open) in
    step_last g.S.Source.failures c.advance_ahead.new.feed c.step.new.feed (Err stop) unfailed c.in_err-step.ensures.over.advances input (ap (λ (s : Stop). Err s) named)

pub returns-in_err-step-clause-devices : goal.returns-in_err-step-clause-devices
returns-in_err-step-clause-devices g c =
    let stop = c.in_err-step.field-0.0 in
    let e : c.from_residual-in_err-step.result ≡ Err stop = search rules in
    let unfailed = c.in_ok-advance_ahead.ensures.advances.goes refl (c.items.invariant.0.goes refl c.requires.open) in
    let over = c.in_err-step.ensures.over in
    let same = c.in_ok-advance_ahead.ensures.advances.same (λ x. cc) ∙ c.items.invariant.0.same (λ x. cc) in
    let out = c.in_ok-pass_on_before_read.ensures.puts.1 ∙ c.in_ok-advance_ahead.ensures.counts ∙ c.items.invariant.3 in
    rw e (
      step_reads g.S.Source.failures c.advance_ahead.new.feed c.step.new.feed (Err stop) unfailed over.advances
          ∙ ap (λ n. n + reads_failed {A = Done} (Err stop)) same,
      over.writes ∙ ap (λ n. n + writes_failed {A = Done} (Err stop)) out,
    )

pub returns-in_err-step-clause-passed_on : goal.returns-in_err-step-clause-passed_on
returns-in_err-step-clause-passed_on g c = λ input is.
    let stop = c.in_err-step.field-0.0 in
    let e : c.from_residual-in_err-step.result ≡ Err stop = search rules in
    let named : stop ≡ Read input = cc in
    let read : ◌≡◌ {A = Result More Stop} (Err stop) (Err (Read input)) = ap (λ (s : Stop). Err s) named in
    let unfailed = c.in_ok-advance_ahead.ensures.advances.goes refl (c.items.invariant.0.goes refl c.requires.open) in
    let s = c.in_err-step.ensures in
    elim c.in_ok-pass_on_before_read.ensures.prompt [
      | inl none ↦ ap g.W.Sink.kept_back (s.sink input read) ∙ none
      | inr holds ↦ absurd (not_one_more _ (sym (ap g.S.Source.failures (s.ahead holds)) ∙ s.over.advances.failed (ap step_end read) unfailed))
    ]

pub returns-in_err-step-clause-fixed : goal.returns-in_err-step-clause-fixed
returns-in_err-step-clause-fixed g c = c.in_err-step.ensures.fixed ∙ c.in_ok-advance_ahead.ensures.fixed ∙ c.items.invariant.2

pub returns-in-Ended-clause-early : goal.returns-in-Ended-clause-early
returns-in-Ended-clause-early g c = λ is.
    let fixed = c.in_ok-advance_ahead.ensures.fixed ∙ c.items.invariant.2 in
    sym (ap g.T.Task.may_end fixed) ∙ c.in_ok-step.ensures.early (c.in-Ended.is ∙ ap (λ (d : Done). Ended d) is)

pub returns-in-Ended-clause-runs : goal.returns-in-Ended-clause-runs
returns-in-Ended-clause-runs g c = λ p h i front begin views given stands on writes.
    let s = c.items.invariant.4 p h i front begin views given stands on writes in
    let out : Device = (g.W.Sink.device c.advance_ahead.new.out) in
    let mid : Device = (g.W.Sink.device c.pass_on_before_read.new.out) in
    let new : Device = (g.W.Sink.device c.step.new.out) in
    let a = c.in_ok-advance_ahead.ensures.steps p h i front s.0 views s.1 in
    let all = s.0 ++ a.0 in
    let first = written_behind begin (g.W.Sink.device c.items.out) out (p.opens s.0) (p.opens all) s.2 a.1.1 in
    let written = still_written begin out mid (p.opens all) first c.in_ok-pass_on_before_read.ensures.puts in
    let limit : limit_of c.step.new.feed ≡ limit_of c.args.feed.now = c.in_ok-step.ensures.over.advances.limit ∙ c.in_ok-advance_ahead.ensures.advances.limit ∙ c.items.invariant.0.limit in
    let gives = subst (λ (m : More). StepGives g.T.Task.keeps p h i front
    (g.T.Task.tells c.step.new.task) all c.step.new.task c.step.new.regs c.step.new.feed mid new (Ok m)) c.in-Ended.is
    (c.in_ok-step.ensures.steps p h i front all views a.1.0) in
    subst (λ (n : ℕ). BodyGives (g.T.Task.tells c.step.new.task) p h i front n (seen c.step.new.feed) begin new (Ok c.in-Ended.done)) limit
    (ended g.T.Task.keeps
    (g.T.Task.tells c.step.new.task)
    p h i front all c.step.new.task c.step.new.regs c.step.new.feed begin mid new a.1.0.on written c.in-Ended.done gives)

pub returns-in-Ended-clause-needed : goal.returns-in-Ended-clause-needed
returns-in-Ended-clause-needed g c = λ p h i front begin views given stands on writes.
    let s = c.items.invariant.4 p h i front begin views given stands on writes in
    let out : Device = (g.W.Sink.device c.advance_ahead.new.out) in
    let mid : Device = (g.W.Sink.device c.pass_on_before_read.new.out) in
    let new : Device = (g.W.Sink.device c.step.new.out) in
    let a = c.in_ok-advance_ahead.ensures.steps p h i front s.0 views s.1 in
    let all = s.0 ++ a.0 in
    let first = written_behind begin (g.W.Sink.device c.items.out) out (p.opens s.0) (p.opens all) s.2 a.1.1 in
    let written = still_written begin out mid (p.opens all) first c.in_ok-pass_on_before_read.ensures.puts in
    let over = c.in_ok-step.ensures.over in
    let unfailed = c.in_ok-advance_ahead.ensures.advances.goes refl (c.items.invariant.0.goes refl c.requires.open) in
    let limit = over.advances.limit ∙ c.in_ok-advance_ahead.ensures.advances.limit ∙ c.items.invariant.0.limit in
    let chunk = over.advances.chunk ∙ c.in_ok-advance_ahead.ensures.advances.chunk ∙ c.items.invariant.0.chunk in
    let same = c.in_ok-advance_ahead.ensures.advances.same (λ x. cc) ∙ c.items.invariant.0.same (λ x. cc) in
    let past = reads_past g.T.Task.keeps (g.T.Task.tells c.step.new.task) p h i front all c.step.new.task c.step.new.regs c.step.new.feed mid new
    (Ok c.in_ok-step.field-0) (c.in_ok-step.ensures.steps p h i front all views a.1.0) in
    needed_last p h (limit_of c.args.feed.now) (chunk_len_of c.args.feed.now) i front
    (supply_of c.args.feed.now) all c.advance_ahead.new.feed c.step.new.feed begin mid new
    (Ok c.in_ok-step.field-0) a.1.0.on limit chunk unfailed same over.advances written past

pub returns-in-Ended-clause-devices : goal.returns-in-Ended-clause-devices
returns-in-Ended-clause-devices g c =
    let ended = subst (λ (m : More). Advances g.S.Source.failures c.advance_ahead.new.feed c.step.new.feed (step_end (Ok m))) c.in-Ended.is c.in_ok-step.ensures.over.advances in
    let unfailed = c.in_ok-advance_ahead.ensures.advances.goes refl (c.items.invariant.0.goes refl c.requires.open) in
    let same = c.in_ok-advance_ahead.ensures.advances.same (λ x. cc) ∙ c.items.invariant.0.same (λ x. cc) in
    let out = c.in_ok-pass_on_before_read.ensures.puts.1 ∙ c.in_ok-advance_ahead.ensures.counts ∙ c.items.invariant.3 in (
      step_reads g.S.Source.failures c.advance_ahead.new.feed c.step.new.feed (Ok (Ended c.in-Ended.done)) unfailed ended
          ∙ ap (λ n. n + 0) same,
      c.in_ok-step.ensures.over.writes ∙ ap (λ n. n + 0) out,
    )

pub returns-in-Ended-clause-fixed : goal.returns-in-Ended-clause-fixed
returns-in-Ended-clause-fixed g c = c.in_ok-step.ensures.fixed ∙ c.in_ok-advance_ahead.ensures.fixed ∙ c.items.invariant.2

pub items-preserved : goal.items-preserved
items-preserved g c =
    let over = c.in_ok-step.ensures.over in
    let ahead = advances_on g.S.Source.failures c.args.feed.now c.items.feed c.advance_ahead.new.feed CallEnd.GoesOn c.items.invariant.0 c.in_ok-advance_ahead.ensures.advances in (
      advances_on g.S.Source.failures c.args.feed.now c.advance_ahead.new.feed c.step.new.feed CallEnd.GoesOn ahead
          (subst (λ (m : More). Advances g.S.Source.failures c.advance_ahead.new.feed c.step.new.feed (step_end (Ok m))) c.in-Again.is over.advances),
      c.in_ok-step.ensures.ready (ap (λ (m : More). Ok m) c.in-Again.is),
      c.in_ok-step.ensures.fixed ∙ c.in_ok-advance_ahead.ensures.fixed ∙ c.items.invariant.2,
      over.writes ∙ add-zero _ ∙ c.in_ok-pass_on_before_read.ensures.puts.1 ∙ c.in_ok-advance_ahead.ensures.counts ∙ c.items.invariant.3,
      λ p h i front begin views given stands on writes.
          let s = c.items.invariant.4 p h i front begin views given stands on writes in
          let out : Device = (g.W.Sink.device c.advance_ahead.new.out) in
          let mid : Device = (g.W.Sink.device c.pass_on_before_read.new.out) in
          let new : Device = (g.W.Sink.device c.step.new.out) in
          let a = c.in_ok-advance_ahead.ensures.steps p h i front s.0 views s.1 in
          let all = s.0 ++ a.0 in
          let first = written_behind begin (g.W.Sink.device c.items.out) out (p.opens s.0) (p.opens all) s.2 a.1.1 in
          let written = still_written begin out mid (p.opens all) first c.in_ok-pass_on_before_read.ensures.puts in
          let goes = subst (λ (m : More). StepGives g.T.Task.keeps p h i front
          (g.T.Task.tells c.step.new.task) all c.step.new.task c.step.new.regs c.step.new.feed mid new (Ok m)) c.in-Again.is
          (c.in_ok-step.ensures.steps p h i front all views a.1.0) in
          let past = reads_past g.T.Task.keeps (g.T.Task.tells c.step.new.task) p h i front all c.step.new.task c.step.new.regs c.step.new.feed mid new (Ok Again) goes in
          let limit = over.advances.limit ∙ c.in_ok-advance_ahead.ensures.advances.limit ∙ c.items.invariant.0.limit in
          let chunk = over.advances.chunk ∙ c.in_ok-advance_ahead.ensures.advances.chunk ∙ c.items.invariant.0.chunk in
          let read = read_step p h (limit_of c.args.feed.now) (chunk_len_of c.args.feed.now) i front (supply_of c.args.feed.now) all c.step.new.feed a.1.0.on limit chunk past.past in
          let grows = goes.3 in (
            all ++ goes.0 ∷ [],
            goes.2,
            written_behind begin mid new (p.opens all) (p.opens (all ++ goes.0 ∷ [])) written grows,
            read_more p h (limit_of c.args.feed.now) (chunk_len_of c.args.feed.now) i front (supply_of c.args.feed.now) all (all ++ goes.0 ∷ []) (supply_of c.step.new.feed) (grows.0, grows.1) read,
          ),
    )
