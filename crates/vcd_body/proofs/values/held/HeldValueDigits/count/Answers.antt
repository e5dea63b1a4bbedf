use Rattle.vcd_body.proofs.Cited.{length, sym, ap, ◌∙◌, count_in, number_in, digits_held, held_by, len_of, State}
use Rattle.vcd_body.proofs.Facts.{length_binary, count_held}
use Rattle.vcd_body.proofs.values.held.HeldValueDigits.count.Goals as goal

pub returns-in-Packed : goal.returns-in-Packed
returns-in-Packed c = c.len.ensures ∙ count_held c.args.self.holding.state (len_of c.args.self.holding) c.args.self.bytes.now c.in-Packed.is

pub returns-in-Bits : goal.returns-in-Bits
returns-in-Bits c =
    let len = (len_of c.args.self.holding) in
    c.count_in.ensures ∙ sym (length_binary (count_in len) (number_in len)) ∙ sym (ap (λ (s : State). length (digits_held (held_by s len c.args.self.bytes.now))) c.in-Bits.is)
