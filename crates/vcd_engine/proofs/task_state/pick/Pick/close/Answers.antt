use Rattle.vcd_engine.proofs.Cited.{[], ◌∙◌, sym, subst, Takes, names_in}
use Rattle.vcd_engine.proofs.Facts.{last_tells, last_time}
use Rattle.vcd_engine.proofs.PickLemmas.{closes}
use Rattle.vcd_engine.proofs.task_state.pick.Pick.close.Goals as goal

pub returns-clause-takes : goal.returns-clause-takes
returns-clause-takes g c = λ h items known last is.
    let names = names_in c.args.self.now in
    subst (λ l. Takes (g.W.Sink.device c.args.out.now) (g.W.Sink.device c.close.new.out) l c.close.result) (closes h names items c.last_time_of.result (c.last_time_of.ensures ∙ last))
    (c.close.ensures.takes [] _ is.written (λ t e. last_tells h names items t (last_time items c.args.regs t known (sym c.last_time_of.ensures ∙ e))))
