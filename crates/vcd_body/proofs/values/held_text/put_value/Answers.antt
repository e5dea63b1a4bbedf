use Rattle.vcd_body.proofs.Cited.{subst, Puts, digits_with, held_with, len_of}
use Rattle.vcd_body.proofs.Facts.{all_digits, full_is}
use Rattle.vcd_body.proofs.values.held_text.put_value.Goals as goal

pub returns-in_default : goal.returns-in_default
returns-in_default g c =
    let is = all_digits c.args.held.holding.state (len_of c.args.held.holding) c.args.held.bytes.now c.in_default.not-Unset c.in_default.not-Real in
    subst (λ l. Puts (g.W.Sink.device c.args.w.now) (g.W.Sink.device c.put_extended.new.w) l c.put_extended.result)
    (full_is c.args.size (digits_with c.args.held.holding c.args.held.bytes.now) (held_with c.args.held.holding c.args.held.bytes.now) is)
    c.put_extended.ensures
