use Rattle.vcd_engine.proofs.Cited.{◌≡◌, [], ◌∷◌, ◌∙◌, sym, subst, cut_close, closing, times_with, Takes, kept_from}
use Rattle.vcd_engine.proofs.Facts.{close_tells, closes_started, closes_unstarted, values_due}
use Rattle.vcd_engine.proofs.task_state.cut.Cut.close.Goals as goal

pub returns-then-not-self-clause-takes : goal.returns-then-not-self-clause-takes
returns-then-not-self-clause-takes g c = λ h items views known last is.
    let m = c.args.self.now in
    subst (λ l. Takes (g.W.Sink.device c.args.out.now) (g.W.Sink.device c.put_start_section.new.out) l c.put_start_section.result)
    (closes_unstarted h m items c.args.regs is known last c.if-not-self.true)
    (c.put_start_section.ensures.takes h items views (values_due h items m is c.if-not-self.true))

pub returns-clause-takes : goal.returns-clause-takes
returns-clause-takes g c = λ h items views known last is.
    let m = c.args.self.now in
    subst (λ l. Takes (g.W.Sink.device c.args.out.now) (g.W.Sink.device c.close.new.out) l c.close.result)
    (subst (λ o. closing (times_with (m.from ∷ []) (kept_from m.from items)) o ≡ cut_close h m.from m.to items) (sym c.last_time_of.ensures)
    (closes_started h m items c.args.regs is known last c.if-not-self.false))
    (c.close.ensures.takes (m.from ∷ []) (kept_from m.from items) (is.written c.if-not-self.false)
    (λ t e. close_tells h m items c.args.regs is known last c.if-not-self.false t (sym c.last_time_of.ensures ∙ e)))
