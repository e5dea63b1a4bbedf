use Rattle.vcdkit.proofs.Cited.{map, subst, string_bytes, model_want, supplies, HasRun}
use Rattle.vcdkit.proofs.Facts.{run_within, short_texts}
use Rattle.vcd_words.specs.declared.job.Want.{Want}
use Rattle.vcdkit.proofs.whole_run.run_within.Goals as goal

pub returns-clause-gives : goal.returns-clause-gives
returns-clause-gives g c = λ texts h.
    let wide = c.args.job in
    let narrow = c.narrowed-narrow.result in
    let n = c.narrowed-narrow.ensures in
    let names = map string_bytes c.args.names.now in
    run_within narrow.limit wide.limit narrow.chunk wide.chunk n.chunk (model_want wide.task) names texts _ _ _ _ _ _ c.run_with_hasher.result
    (short_texts g.S.Source.rest c.args.longest wide narrow c.args.readers.now texts n c.requires.within h)
    (subst (λ (t : Want). HasRun (model_want t) narrow.limit narrow.chunk names texts (supplies g.S.Source c.args.readers.now)
    (supplies g.S.Source c.run_with_hasher.new.readers) (g.W.Sink.device c.args.out.now) (g.W.Sink.device c.run_with_hasher.new.out)
    (g.E.Sink.device c.args.err.now) (g.E.Sink.device c.run_with_hasher.new.err) c.run_with_hasher.result) n.task (c.run_with_hasher.ensures.gives texts h))
