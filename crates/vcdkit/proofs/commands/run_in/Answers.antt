use Rattle.vcdkit.proofs.Cited.{refl, no_room_in_each}
use Rattle.vcdkit.proofs.Facts.{list_last, list_passed, list_reads, list_writes, listed}
use Rattle.vcdkit.proofs.commands.run_in.Goals as goal

pub list-requires-clause-bound : goal.list-requires-clause-bound
list-requires-clause-bound g c = no_room_in_each c.args.view

pub returns-in-None-clause-gives : goal.returns-in-None-clause-gives
returns-in-None-clause-gives g c = λ h i front name v st.
    rw c.in-None.is (listed _ _ i front h name _ c.args.feed.now _ _ c.list.result refl st (c.list.ensures.takes h v) c.list.ensures.counts c.list.ensures.answer)

pub returns-in-None-clause-reads : goal.returns-in-None-clause-reads
returns-in-None-clause-reads g c = list_reads _ c.list.result c.list.ensures.answer

pub returns-in-None-clause-writes : goal.returns-in-None-clause-writes
returns-in-None-clause-writes g c = list_writes (g.W.Sink.device c.args.out.now) (g.W.Sink.device c.list.new.out) c.list.result c.list.ensures.counts c.list.ensures.answer

pub returns-in-None-clause-last : goal.returns-in-None-clause-last
returns-in-None-clause-last g c = list_last _ c.list.result c.list.ensures.answer

pub returns-in-None-clause-passed_on : goal.returns-in-None-clause-passed_on
returns-in-None-clause-passed_on g c = list_passed _ c.list.result c.list.ensures.answer
