use Rattle.vcd_body.proofs.Cited.{sym, ◌∙◌, arith}
use Rattle.vcd_body.proofs.Facts.{lower_digits, packs_by}
use Rattle.vcd_body.proofs.values.packed.holds_packed.Goals as goal

pub are_packed-requires : goal.are_packed-requires
are_packed-requires c = record { room = omega arith; quarter = omega (arith, c.div_ceil-quarter.ensures) }

pub returns-clause-held : goal.returns-clause-held
returns-clause-held c = λ yes. packs_by c.args.text.now c.args.bytes.now c.div_ceil-quarter.result (omega (arith, c.div_ceil-quarter.ensures)) (c.are_packed.ensures c.if-not-are_packed.false)

pub returns-clause-same : goal.returns-clause-same
returns-clause-same c = λ yes. returns-clause-held c yes ∙ lower_digits c.args.text.now (sym c.are_all_digits.ensures ∙ yes)
