use Rattle.vcd_body.proofs.Cited.{◌≢◌, sym, subst, rules, Puts, RealText}
use Rattle.vcd_body.proofs.Facts.{all_line}
use Rattle.vcd_body.proofs.change.put_nonvector.Goals as goal

pub returns-in-Scalar : goal.returns-in-Scalar
returns-in-Scalar g c = λ size one.
    let none = c.if-event.false in
    let real : c.args.form ≢ RealText = search rules in
    let line = all_line c.args.text.now c.args.id.now size c.args.event c.args.form (one none real) none real (c.requires.digits none real) in
    subst (λ l. Puts (g.W.Sink.device c.args.w.now) (g.W.Sink.device c.put_bit_line.new.w) l c.put_bit_line.result) (sym line) c.put_bit_line.ensures
