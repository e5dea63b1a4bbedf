use Rattle.vcd_program.proofs.Cited.{map, refl, string_bytes, subst, sym, RunsAs}
use Rattle.vcd_program.proofs.process_run.run_unflushed.Goals as goal

pub returns-in-Ok-clause-runs : goal.returns-in-Ok-clause-runs
returns-in-Ok-clause-runs g c = RunsAs.Ran (map string_bytes c.as_slice.result.now)
    (subst (λ words. g.P.Process.words c.args.process.now (map string_bytes words)) (sym c.as_slice.ensures.value) c.in-Ok.ensures.words)
    c.run_words.ensures.runs

pub returns-in-Err-clause-runs : goal.returns-in-Err-clause-runs
returns-in-Err-clause-runs g c = RunsAs.NoWords c.in-Err.fault c.in-Err.ensures.refuses refl refl c.use_fault.ensures.line.line c.use_fault.ensures.line.status
