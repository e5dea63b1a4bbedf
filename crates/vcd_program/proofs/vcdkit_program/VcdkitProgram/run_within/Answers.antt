use Rattle.vcd_program.proofs.Cited.{◌∙◌, arith, end-low, length, length-map, map, model_want, names_asked, string_bytes}
use Rattle.vcd_program.proofs.Facts.{are-readers, ends-by, is-alone, leaves-by}
use Rattle.vcd_program.proofs.vcdkit_program.VcdkitProgram.run_within.Goals as goal

pub run_within-requires-clause-readers : goal.run_within-requires-clause-readers
run_within-requires-clause-readers g c =
    let a = c.requires.asked in
    are-readers a.0 c.args.job a.1 (map string_bytes c.args.names.now) a.2 g.S.Source.failures c.args.readers.now (length-map c.args.names.now string_bytes ∙ c.requires.names) c.requires.readers

pub run_within-requires-clause-alone : goal.run_within-requires-clause-alone
run_within-requires-clause-alone g c =
    let a = c.requires.asked in
    is-alone a.0 c.args.job a.1 (map string_bytes c.args.names.now) a.2 (length c.args.readers.now) (length-map c.args.names.now string_bytes ∙ c.requires.names)

pub returns-clause-failures : goal.returns-clause-failures
returns-clause-failures g c = c.run_within.ensures.failures.1

pub returns-clause-low : goal.returns-clause-low
returns-clause-low g c = let ends = c.run_within.ensures.ends in
    let low = end-low (names_asked c.args.job.task) (map string_bytes c.args.names.now) ends.0 ends.1 in let is = ends.4 in omega (arith, is, low)

pub returns-clause-ends : goal.returns-clause-ends
returns-clause-ends g c =
    ends-by c.args.job (map string_bytes c.args.names.now) (map g.S.Source.failures c.args.readers.now)
    (map g.S.Source.failures c.run_within.new.readers) (map g.S.Source.last_failed c.run_within.new.readers) (g.W.Sink.device c.args.out.now)
    (g.W.Sink.device c.run_within.new.out) (g.E.Sink.device c.args.err.now) (g.E.Sink.device c.run_within.new.err) c.run_within.result
    c.run_within.ensures.ends

pub returns-clause-leaves : goal.returns-clause-leaves
returns-clause-leaves g c =
    λ matches asks texts have. leaves-by (model_want c.args.job.task) c.args.job.limit (map string_bytes c.args.names.now) texts _ _
    (g.W.Sink.device c.args.out.now) (g.W.Sink.device c.run_within.new.out) (g.E.Sink.device c.args.err.now)
    (g.E.Sink.device c.run_within.new.err) c.run_within.result
    c.args.job.chunk matches asks.1 asks.0 (c.run_within.ensures.gives texts have)
