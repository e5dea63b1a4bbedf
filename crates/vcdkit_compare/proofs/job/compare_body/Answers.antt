use Rattle.std.proofs.Common.{◌≡◌, Err, None, ap, refl, rules, subst, sym}
use Rattle.vcd_model.specs.Within.{outermost, unselected}
use Rattle.vcd_text.specs.Feed.{chunk_len_of, limit_of, supply_of}
use Rattle.vcd_compare.specs.Pairs.{AreFew, ArePairs, names_in}
use Rattle.vcd_compare.specs.Unselected.{IsFaultOf}
use Rattle.vcd_compare_words.specs.Asked.{texts_in}
use Rattle.vcd_job.proofs.AfterLemmas.{no_room}
use Rattle.vcd_job.specs.declared.failure.Failure.TheVariants.{OutOfMemory}
use Rattle.vcdkit_compare.proofs.EndLemmas.{no_pairs}
use Rattle.vcdkit_compare.specs.Calls.{speech_in}
use Rattle.vcdkit_compare.specs.Work.{query_of, work_in}
use Rattle.vcdkit_compare.proofs.job.compare_body.Goals as goal

pub compare_in-requires-clause-pairs : goal.compare_in-requires-clause-pairs
compare_in-requires-clause-pairs g c = λ h views.
    let q = query_of c.args.job.now in
    let names : c.deref.result.now ≡ c.args.job.now.names.items = search rules in
    let exceptions : c.deref-2.result.now ≡ c.args.job.now.exceptions.items = search rules in
    let same = ap texts_in (sym exceptions) in
    let pairs = c.in-Ok.ensures.pairs h q views same in
    record {
      selected = subst (λ ns. unselected q h (names_in ns) ≡ None) names (c.in-Ok.ensures.selected h q views same);
      are = subst (λ ns. ArePairs c.in-Ok.pairs h q (outermost (names_in ns))) names pairs.0;
      few = subst (λ ns. AreFew c.in-Ok.pairs h q (outermost (names_in ns))) names pairs.1;
    }

pub returns-in-Err-clause-ends : goal.returns-in-Err-clause-ends
returns-in-Err-clause-ends g c = λ h i front name views given.
    let q = query_of c.args.job.now in
    let names : c.deref.result.now ≡ c.args.job.now.names.items = search rules in
    let exceptions : c.deref-2.result.now ≡ c.args.job.now.exceptions.items = search rules in
    let found = subst (λ ns. IsFaultOf q h (names_in ns) c.in-Err.fault) names (c.in-Err.ensures.faults h q views (ap texts_in (sym exceptions))) in
    rw c.refused_for.ensures (no_pairs c.args.job.now (limit_of c.args.feed.now) (chunk_len_of c.args.feed.now) i front h name
    (supply_of c.args.feed.now) c.args.feed.now (g.W.Sink.device c.args.out.now) refl given c.in-Err.fault found)

pub returns-in_err-memory-clause-ends : goal.returns-in_err-memory-clause-ends
returns-in_err-memory-clause-ends g c = λ h i front name views given.
    let e : c.from_residual.result ≡ Err OutOfMemory = search rules in
    rw e (no_room (work_in c.args.job.now) (speech_in c.args.job.now) (limit_of c.args.feed.now) (chunk_len_of c.args.feed.now) i front h name (supply_of c.args.feed.now) c.args.feed.now (g.W.Sink.device c.args.out.now) refl given)
