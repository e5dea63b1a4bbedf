use Rattle.vcd_body.proofs.Cited.{◌∙◌, arith}
use Rattle.vcd_body.proofs.Facts.{packs_by}
use Rattle.vcd_body.proofs.values.packed.pack.Goals as goal

pub returns-then-quarter-lt16 : goal.returns-then-quarter-lt16
returns-then-quarter-lt16 c =
    packs_by c.args.text.now c.copy_packed.new.bytes c.div_ceil-quarter.result (omega (arith, c.div_ceil-quarter.ensures)) (λ j less.
    c.copy_packed.ensures j less ∙ c.packed_few.ensures j less)

pub returns-else-quarter-lt16 : goal.returns-else-quarter-lt16
returns-else-quarter-lt16 c = packs_by c.args.text.now c.pack_many.new.bytes c.div_ceil-quarter.result (omega (arith, c.div_ceil-quarter.ensures)) c.pack_many.ensures

pub pack_many-requires : goal.pack_many-requires
pack_many-requires c = record { room = omega arith; many = omega arith; quarter = omega arith }
