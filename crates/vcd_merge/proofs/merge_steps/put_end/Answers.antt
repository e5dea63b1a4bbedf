use Rattle.vcd_merge.proofs.Cited.{sym, ◌∙◌, appends-none}
use Rattle.vcd_merge.proofs.Facts.{closes_none, closes_some}
use Rattle.vcd_merge.proofs.merge_steps.put_end.Goals as goal

pub returns-in-Some-clause-takes : goal.returns-in-Some-clause-takes
returns-in-Some-clause-takes g c = λ hs ds marked is. rw (closes_some hs ds c.args.seats.now c.args.written c.in-Some.time marked is
    (sym c.greatest_time.ensures ∙ c.in-Some.is)) c.put_time_unless.ensures.0

pub returns-in-None-clause-takes : goal.returns-in-None-clause-takes
returns-in-None-clause-takes g c = λ hs ds marked is. rw (closes_none hs ds c.args.seats.now marked (sym c.greatest_time.ensures ∙ c.in-None.is))
    (appends-none (g.W.Sink.device c.args.out.now).held)
