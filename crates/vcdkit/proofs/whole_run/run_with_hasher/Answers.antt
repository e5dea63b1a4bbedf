use Rattle.vcdkit.proofs.Cited.{◌≡◌, ◌∙◌, get_or, length, length-map, map, string_bytes, sym, Ok, Err, None, Some, refl, Status}
use Rattle.vcdkit.proofs.Facts.{counted_reads, done_well, ends_alone, failed_read, few_writes, merged_run, most_one, not_answered, one_of, passes_alone, ran_one, set_one, shown_once, shows_nothing}
use Rattle.vcd_job.specs.Failure.{writes_failed}
use Rattle.vcdkit.specs.Calls.{speech_of}
use Rattle.vcdkit.specs.Work.{program_name}
use Rattle.vcdkit.proofs.whole_run.run_with_hasher.Goals as goal

pub returns-clause-ends : goal.returns-clause-ends
returns-clause-ends g c =
    let alone : length c.args.readers.now ≡ 1 = c.requires.alone (sym c.is_merge.ensures ∙ c.if-is_merge.false) in
    let readers = c.args.readers.now in
    let after = c.run_one.new.reader in
    ends_alone g.S.Source.failures readers _ (get_or readers 0 c.index-readers-0.result) after (one_of readers c.index-readers-0.result alone) (set_one readers after alone)
    g.S.Source.last_failed program_name (λ n. n ≡ 0) (speech_of c.args.job.task) (map string_bytes c.args.names.now)
    (g.W.Sink.device c.args.out.now) (g.W.Sink.device c.run_one.new.out) (g.E.Sink.device c.args.err.now) (g.E.Sink.device c.run_one.new.err) c.run_one.result
    c.run_one.ensures.ends

pub returns-clause-passed_on : goal.returns-clause-passed_on
returns-clause-passed_on g c =
    let alone : length c.args.readers.now ≡ 1 = c.requires.alone (sym c.is_merge.ensures ∙ c.if-is_merge.false) in
    let readers = c.args.readers.now in
    passes_alone g.S.Source.failures readers _ (get_or readers 0 c.index-readers-0.result) c.run_one.new.reader
    (one_of readers c.index-readers-0.result alone) (set_one readers c.run_one.new.reader alone)
    g.W.Sink.kept_back c.args.out.now c.run_one.new.out c.run_one.ensures.passed_on

pub returns-clause-gives : goal.returns-clause-gives
returns-clause-gives g c = λ texts h.
    let one = sym c.is_merge.ensures ∙ c.if-is_merge.false in
    let alone : length c.args.readers.now ≡ 1 = c.requires.alone one in
    let readers = c.args.readers.now in
    let after = c.run_one.new.reader in
    ran_one c.args.job.task one c.args.job.limit c.args.job.chunk _ _ _ _ c.run_one.result g.S.Source.rest g.S.Source.failures
    (get_or readers 0 c.index-readers-0.result) after (map string_bytes c.args.names.now) readers _
    (one_of readers c.index-readers-0.result alone) (set_one readers after alone) (length-map c.args.names.now string_bytes ∙ c.requires.names ∙ alone) c.run_one.ensures.gives texts h

pub returns-in-Ok-clause-ends : goal.returns-in-Ok-clause-ends
returns-in-Ok-clause-ends g c = (Ok (Status 0), done_well, c.in-Ok.ensures.reads, c.in-Ok.ensures.writes, refl, shows_nothing (g.E.Sink.device _), c.in-Ok.ensures.last)

pub returns-in-Err-clause-ends : goal.returns-in-Err-clause-ends
returns-in-Err-clause-ends g c = (
  Err c.in-Err.failure,
  not_answered c.in-Err.failure,
  c.in-Err.ensures.reads,
  c.in-Err.ensures.writes,
  c.report.ensures.status,
  rw (c.names.ensures) at c.report.ensures.line,
  c.in-Err.ensures.last,
)

pub returns-in-Ok-clause-gives : goal.returns-in-Ok-clause-gives
returns-in-Ok-clause-gives g c = λ texts h.
    merged_run c.args.job.task (sym c.is_merge.ensures ∙ c.if-is_merge.true) c.args.job.limit c.args.job.chunk (map string_bytes c.args.names.now) texts _ _ _ _ _ _ 0 (Ok c.in-Ok.field-0)
    (c.in-Ok.ensures.ends texts (map string_bytes c.args.names.now) h) (counted_reads g.S.Source.rest g.S.Source.failures _ _ None c.in-Ok.ensures.reads) refl (shows_nothing (g.E.Sink.device _))

pub returns-in-Err-clause-gives : goal.returns-in-Err-clause-gives
returns-in-Err-clause-gives g c = λ texts h.
    merged_run c.args.job.task (sym c.is_merge.ensures ∙ c.if-is_merge.true) c.args.job.limit c.args.job.chunk
    (map string_bytes c.args.names.now) texts _ _ _ _ _ _ c.report.result (Err c.in-Err.failure)
    (c.in-Err.ensures.ends texts (map string_bytes c.args.names.now) h)
    (counted_reads g.S.Source.rest g.S.Source.failures _ _ (Some c.in-Err.failure) c.in-Err.ensures.reads) c.report.ensures.status
    (rw (c.names.ensures) at c.report.ensures.line)

pub returns-in-Err-clause-failures : goal.returns-in-Err-clause-failures
returns-in-Err-clause-failures g c = (
  most_one (writes_failed (Some c.in-Err.failure)) (g.W.Sink.device c.args.out.now) (g.W.Sink.device c.run_merge.new.out) (few_writes (Some c.in-Err.failure)) c.in-Err.ensures.writes,
  shown_once (g.E.Sink.device c.args.err.now) (g.E.Sink.device c.report.new.err) _ c.report.ensures.line,
)

pub returns-in-Ok-clause-passed_on : goal.returns-in-Ok-clause-passed_on
returns-in-Ok-clause-passed_on g c = λ more before. absurd (more c.in-Ok.ensures.reads)

pub returns-in-Err-clause-passed_on : goal.returns-in-Err-clause-passed_on
returns-in-Err-clause-passed_on g c = λ more before.
    let at = failed_read _ _ (Some c.in-Err.failure) c.in-Err.ensures.reads more in
    c.in-Err.ensures.passed_on at.0 at.1 before
