use Rattle.vcd_program.proofs.Cited.{◌≡◌, ◌⊎◌, inl, inr, map, refl, string_bytes, subst, true, HasMatchesOf, IsAmong, fault_of, is_simple_and_free, kind_of, takes, RunsOn}
use Rattle.vcd_program.proofs.Facts.{memory-fails, shown_once}
use Rattle.clap.specs.declared.error.kind.ErrorKind.TheVariants as kind
use Rattle.vcd_program.proofs.command_line.parse_and_run.Goals as goal

pub returns-in_default-clause-runs : goal.returns-in_default-clause-runs
returns-in_default-clause-runs g c =
    RunsOn.NoMatches kind.OutOfMemory (inl refl) (λ _. refl) refl
    (inr (memory-fails g.P.Program.name g.P.Program.refusal (g.W.Sink.device _) (g.E.Sink.device _)
    (g.E.Sink.device _) _ c.use_fault.ensures.memory c.use_fault.ensures.line.line c.use_fault.ensures.line.status))

pub returns-in-Ok-try_get_matches_from-clause-runs : goal.returns-in-Ok-try_get_matches_from-clause-runs
returns-in-Ok-try_get_matches_from-clause-runs g c =
    RunsOn.Parsed c.in-Ok-try_get_matches_from.matches (subst (λ app. HasMatchesOf app
    (map string_bytes c.args.words.now) c.in-Ok-try_get_matches_from.matches)
    c.in-Ok.ensures.whole.0 c.in-Ok-try_get_matches_from.ensures.matches) c.run_matches.ensures.runs

pub returns-in-Err-clause-runs : goal.returns-in-Err-clause-runs
returns-in-Err-clause-runs g c =
    let words = map string_bytes c.args.words.now in
    let why = kind_of c.in-Err.error in
    let kinds = subst (λ app. is_simple_and_free app ≡ true → (why ≡ kind.OutOfMemory) ⊎ IsAmong why (fault_of app words)) c.in-Ok.ensures.whole.0 c.in-Err.ensures.kinds in
    let passes = subst (λ app. takes app words ≡ true → why ≡ kind.OutOfMemory) c.in-Ok.ensures.whole.0 c.in-Err.ensures.passes in
    RunsOn.NoMatches why (kinds c.command_of.ensures.simple) passes refl c.answer.ensures.answers

pub returns-in_default-clause-failures : goal.returns-in_default-clause-failures
returns-in_default-clause-failures g c = shown_once (g.E.Sink.device c.args.err.now) (g.E.Sink.device c.use_fault.new.err) _ c.use_fault.ensures.line.line
