use Rattle.vcd_program.proofs.Cited.{◌≡◌, ◌∙◌, ap, get_or, length, length-map, map, string_bytes, sym}
use Rattle.vcd_program.proofs.Facts.{leaves-alone}
use Rattle.vcd_job.proofs.Facts.{ends_alone, one_of, passes_alone, set_one}
use Rattle.vcd_job.specs.OneRun.{speech_of}
use Rattle.vcd_model.specs.Outcome.{name_at}
use Rattle.vcd_program.proofs.one_input_program.AnyProgram.run_within.Goals as goal

pub run_one-requires-clause-ready : goal.run_one-requires-clause-ready
run_one-requires-clause-ready g c = let asked = c.requires.asked in (c.law.ensures.0 asked.0 c.args.job asked.1).0

pub returns-clause-ends : goal.returns-clause-ends
returns-clause-ends g c =
    let readers = c.args.readers.now in
    let alone : length readers ≡ 1 = sym (length-map c.args.names.now string_bytes ∙ c.requires.names) ∙ ap length c.requires.asked.2 in
    let after = c.run_one.new.reader in
    ends_alone g.S.Source.failures readers _ (get_or readers 0 c.index-readers-0.result) after (one_of readers c.index-readers-0.result alone)
    (set_one readers after alone) g.S.Source.last_failed g.P.OneInput.program g.P.OneInput.answers (speech_of g.P.OneInput c.args.job) (map string_bytes c.args.names.now)
    (g.W.Sink.device c.args.out.now) (g.W.Sink.device c.run_one.new.out) (g.E.Sink.device c.args.err.now) (g.E.Sink.device c.run_one.new.err)
    c.run_one.result c.run_one.ensures.ends

pub returns-clause-passed_on : goal.returns-clause-passed_on
returns-clause-passed_on g c =
    let readers = c.args.readers.now in
    let alone : length readers ≡ 1 = sym (length-map c.args.names.now string_bytes ∙ c.requires.names) ∙ ap length c.requires.asked.2 in
    passes_alone g.S.Source.failures readers _ (get_or readers 0 c.index-readers-0.result) c.run_one.new.reader
    (one_of readers c.index-readers-0.result alone) (set_one readers c.run_one.new.reader alone)
    g.W.Sink.kept_back c.args.out.now c.run_one.new.out c.run_one.ensures.passed_on

pub returns-clause-leaves : goal.returns-clause-leaves
returns-clause-leaves g c = λ matches asks texts have.
    let names = map string_bytes c.args.names.now in
    let readers = c.args.readers.now in
    let alone : length readers ≡ 1 = sym (length-map c.args.names.now string_bytes ∙ c.requires.names) ∙ ap length c.requires.asked.2 in
    let after = c.run_one.new.reader in
    let is = c.law.ensures.0 matches c.args.job asks in
    leaves-alone g.P.OneInput.program (g.P.OneInput.work c.args.job) is.1 (g.P.OneInput.limit c.args.job) (g.P.OneInput.chunk c.args.job) (name_at names 0)
    (g.P.OneInputProgram.outcome matches names) (is.2 names) _ _ _ _ c.run_one.result g.S.Source.rest g.S.Source.failures (get_or readers 0 c.index-readers-0.result)
    after readers _ (one_of readers c.index-readers-0.result alone) (set_one readers after alone) c.run_one.ensures.gives texts have
