use Rattle.vcd_body.proofs.Cited.{◌∙◌, sym, arith, drop-map, length-map, to_ascii_lowercase}
use Rattle.vcd_body.proofs.change.needless.Goals as goal

pub returns : goal.returns
returns c =
    let m = length-map c.args.digits.now to_ascii_lowercase in
    record { few = omega (arith, m, c.first_needed.ensures.within); rest = λ size. sym (drop-map to_ascii_lowercase c.first_needed.result c.args.digits.now) ∙ c.first_needed.ensures.value size }
