use Rattle.vcd_engine.proofs.Cited.{subst, ap, codes, ◌++◌, ◌∙◌, length, count_line, number_or_dash, Takes}
use Rattle.vcd_engine.proofs.Facts.{report_is, six_lines}
use Rattle.vcd_engine.proofs.task_state.check.Check.close.Goals as goal

pub returns-clause-takes : goal.returns-clause-takes
returns-clause-takes g c = λ h items views last counted.
    let declared = c.declared_in-declared in
    let lines = six_lines declared.result.scopes declared.result.variables (length c.args.view.codes.now) c.args.self.now in
    subst (λ l. Takes (g.W.Sink.device c.args.out.now) (g.W.Sink.device c.put_report.new.out) l c.put_report.result)
    (ap (λ o. lines ++ count_line (codes "last") (number_or_dash o)) c.last_time_of.ensures
    ∙ report_is c.args.view h items c.args.self.now c.args.regs declared.result.scopes declared.result.variables views counted last declared.ensures.scopes declared.ensures.variables)
    c.put_report.ensures.0
