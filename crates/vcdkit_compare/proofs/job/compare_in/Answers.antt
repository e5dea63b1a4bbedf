use Rattle.std.proofs.Common.{Err, Ok, ap, refl, subst}
use Rattle.vcd_text.specs.Feed.{chunk_len_of, limit_of, seen, supply_of}
use Rattle.vcd_model.specs.Within.{outermost}
use Rattle.vcd_compare_words.specs.Asked.{texts_in}
use Rattle.vcdkit_compare.proofs.BoundLemmas.{lent_within}
use Rattle.vcdkit_compare.proofs.EndLemmas.{compared}
use Rattle.vcdkit_compare.specs.Calls.{Finishes}
use Rattle.vcdkit_compare.specs.Work.{names_of, query_of}
use Rattle.vcdkit_compare.proofs.job.compare_in.Goals as goal

pub returns-in-Ok-clause-bound : goal.returns-in-Ok-clause-bound
returns-in-Ok-clause-bound g c = λ h views.
    let has = c.requires.pairs h views in
    lent_within (limit_of c.args.feed.now) (chunk_len_of c.args.feed.now) c.args.view h c.args.pairs.now c.args.room (query_of c.args.job.now)
    (outermost (names_of c.args.job.now)) c.requires.chunk views c.requires.room has.are has.few

pub returns-in-Err-clause-bound : goal.returns-in-Err-clause-bound
returns-in-Err-clause-bound g c = λ h views.
    let has = c.requires.pairs h views in
    lent_within (limit_of c.args.feed.now) (chunk_len_of c.args.feed.now) c.args.view h c.args.pairs.now c.args.room (query_of c.args.job.now)
    (outermost (names_of c.args.job.now)) c.requires.chunk views c.requires.room has.are has.few

pub returns-in-Ok-clause-ends : goal.returns-in-Ok-clause-ends
returns-in-Ok-clause-ends g c = λ h i front name views given.
    let has = c.requires.pairs h views in
    let exceptions = texts_in c.args.job.now.exceptions.items in
    let ns = outermost (names_of c.args.job.now) in
    let mid = g.W.Sink.device c.compare.new.out in
    let out = g.W.Sink.device c.finished.new.out in
    compared c.args.job.now (limit_of c.args.feed.now) (chunk_len_of c.args.feed.now) (seen c.compare.new.feed) i front h name c.args.pairs.now
    (supply_of c.args.feed.now) (supply_of c.compare.new.feed) (g.W.Sink.device c.args.out.now) mid out (Ok c.in-Ok.answer) c.finished.result has
    (c.in-Ok.ensures.gives h exceptions ns i front views has.are given) (c.in-Ok.ensures.needed h exceptions ns i front views has.are given)
    (subst (λ n. Finishes c.args.job.now.asked c.in-Ok.answer n mid out c.finished.result) c.count.ensures c.finished.ensures)

pub returns-in-Err-clause-ends : goal.returns-in-Err-clause-ends
returns-in-Err-clause-ends g c = λ h i front name views given.
    let has = c.requires.pairs h views in
    let exceptions = texts_in c.args.job.now.exceptions.items in
    let ns = outermost (names_of c.args.job.now) in
    let mid = g.W.Sink.device c.compare.new.out in
    compared c.args.job.now (limit_of c.args.feed.now) (chunk_len_of c.args.feed.now) (seen c.compare.new.feed) i front h name c.args.pairs.now
    (supply_of c.args.feed.now) (supply_of c.compare.new.feed) (g.W.Sink.device c.args.out.now) mid mid (Err c.in-Err.stop)
    (Err c.of_stop.result) has
    (c.in-Err.ensures.gives h exceptions ns i front views has.are given) (c.in-Err.ensures.needed h exceptions ns i front views has.are given)
    (ap (λ f. Err f) c.of_stop.ensures, refl)
