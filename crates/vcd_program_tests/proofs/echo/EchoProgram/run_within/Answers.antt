use Rattle.std.proofs.Common.{◌∙◌, map, refl, string_bytes}
use Rattle.std.proofs.lemmas.List.{length-map}
use Rattle.vcd_program.proofs.Facts.{shown_once}
use Rattle.vcd_program_tests.proofs.EchoLemmas.{leaves-line, line-failed, line-written}
use Rattle.vcd_program_tests.proofs.echo.EchoProgram.run_within.Goals as goal

pub returns-in-Ok-clause-ends : goal.returns-in-Ok-clause-ends
returns-in-Ok-clause-ends g c = (
  refl,
  line-written c.args.job c.as_str.result.now c.as_str.ensures.value (g.W.Sink.device c.args.out.now) (g.W.Sink.device c.put_line.new.out)
      (g.E.Sink.device c.args.err.now) (g.E.Sink.device c.args.err.now) c.in-Ok.ensures,
)

pub returns-in-Ok-clause-passed_on : goal.returns-in-Ok-clause-passed_on
returns-in-Ok-clause-passed_on g c = λ differs. absurd (differs refl)

pub returns-in-Ok-clause-leaves : goal.returns-in-Ok-clause-leaves
returns-in-Ok-clause-leaves g c =
    λ matches asks texts have. leaves-line g.S.Source.rest g.S.Source.failures c.args.job
    (map string_bytes c.args._names.now) c.args._readers.now matches texts (g.W.Sink.device c.args.out.now) (g.W.Sink.device c.put_line.new.out)
    (g.E.Sink.device c.args.err.now) (g.E.Sink.device c.args.err.now) 0
    c.requires.asked.2 (length-map c.args._names.now string_bytes ∙ c.requires.names) asks have
    (line-written c.args.job c.as_str.result.now c.as_str.ensures.value (g.W.Sink.device c.args.out.now) (g.W.Sink.device c.put_line.new.out)
    (g.E.Sink.device c.args.err.now) (g.E.Sink.device c.args.err.now) c.in-Ok.ensures)

pub returns-clause-failures : goal.returns-clause-failures
returns-clause-failures g c = shown_once (g.E.Sink.device c.args.err.now) (g.E.Sink.device c.write_fault.new.err) _ c.write_fault.ensures.line

pub returns-clause-ends : goal.returns-clause-ends
returns-clause-ends g c = (
  refl,
  line-failed c.args.job c.as_str.result.now c.as_str.ensures.value (g.W.Sink.device c.args.out.now) (g.W.Sink.device c.put_line.new.out)
      (g.E.Sink.device c.args.err.now) (g.E.Sink.device c.write_fault.new.err)
      c.write_fault.result c.in-Err.ensures c.write_fault.ensures.line c.write_fault.ensures.status,
)

pub returns-clause-passed_on : goal.returns-clause-passed_on
returns-clause-passed_on g c = λ differs. absurd (differs refl)

pub returns-clause-leaves : goal.returns-clause-leaves
returns-clause-leaves g c =
    λ matches asks texts have. leaves-line g.S.Source.rest g.S.Source.failures c.args.job
    (map string_bytes c.args._names.now) c.args._readers.now matches texts (g.W.Sink.device c.args.out.now) (g.W.Sink.device c.put_line.new.out)
    (g.E.Sink.device c.args.err.now) (g.E.Sink.device c.write_fault.new.err) c.write_fault.result
    c.requires.asked.2 (length-map c.args._names.now string_bytes ∙ c.requires.names) asks have
    (line-failed c.args.job c.as_str.result.now c.as_str.ensures.value (g.W.Sink.device c.args.out.now) (g.W.Sink.device c.put_line.new.out)
    (g.E.Sink.device c.args.err.now) (g.E.Sink.device c.write_fault.new.err)
    c.write_fault.result c.in-Err.ensures c.write_fault.ensures.line c.write_fault.ensures.status)
