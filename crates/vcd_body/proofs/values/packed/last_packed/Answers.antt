use Rattle.vcd_body.proofs.Cited.{◌-◌, ◌/◌, Some, ℕ, get_or, ap, sym, ◌∙◌, arith, digit_of}
use Rattle.vcd_body.proofs.Facts.{last_code}
use Rattle.vcd_body.proofs.values.packed.last_packed.Goals as goal

pub returns : goal.returns
returns c = λ len is.
    let bytes = c.args.bytes.now in
    last_code len bytes (omega (arith, is, c.requires)) ∙ ap (λ (q : ℕ). Some (digit_of (get_or bytes (q - 1) 0 / 64))) is ∙ ap (λ (d : ℕ). Some d) (sym c.digit_of.ensures)
