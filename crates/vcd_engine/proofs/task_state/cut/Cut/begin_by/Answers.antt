use Rattle.vcd_engine.proofs.Cited.{◌≡◌, Err, inl, refl, arith, rules}
use Rattle.vcd_engine.proofs.task_state.cut.Cut.begin_by.Goals as goal

pub returns-in_err-put_start_section-clause-begins : goal.returns-in_err-put_start_section-clause-begins
returns-in_err-put_start_section-clause-begins g c = λ h items views has.
    let e : c.from_residual.result ≡ Err c.in_err-put_start_section.field-0.0 = search rules in
    rw e (c.if-self.false, omega (arith, c.if-time-self.false), (c.in_err-put_start_section.ensures.takes h items views (has c.if-self.false), c.in_err-put_start_section.ensures.counts))

pub returns-clause-begins : goal.returns-clause-begins
returns-clause-begins g c = λ h items views has.
    inl (record {
      due = c.if-self.false;
      come = omega (arith, c.if-time-self.false);
      stands = refl;
      text = c.after_time-self.ensures;
      section = c.in_ok-put_start_section.ensures.takes h items views (has c.if-self.false);
    })
