use Rattle.vcd_engine.proofs.Cited.{sym, subst, Takes}
use Rattle.vcd_engine.proofs.Facts.{closes}
use Rattle.vcd_engine.specs.Sample.{names_in}
use Rattle.vcd_engine.proofs.task_state.sample.Sample.close.Goals as goal

pub returns-clause-takes : goal.returns-clause-takes
returns-clause-takes g c = λ h items views is.
    let s = c.args.self.now in
    subst (λ l. Takes (g.W.Sink.device c.args.out.now) (g.W.Sink.device c.put_samples.new.out) l c.put_samples.result) (sym (closes s h items is))
    (c.put_samples.ensures.takes h items (names_in s) views is.marks_lead is.held is.others)
