use Rattle.std.proofs.Common.{◌∙◌, arith}
use Rattle.vcd_strobe.proofs.CopySteps.{places_are}
use Rattle.vcd_strobe.proofs.places.places_of.Goals as goal

pub returns : goal.returns
returns c = λ h views. places_are c.args.view _ h views (c.copy_codes.ensures.len ∙ c.requires) (λ i low. let len = c.copy_codes.ensures.len in
    c.copy_codes.ensures.each i (omega (arith, low, len)))
