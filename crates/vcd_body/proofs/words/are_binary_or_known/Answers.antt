use Rattle.vcd_body.proofs.Cited.{sym, ◌∙◌}
use Rattle.vcd_body.proofs.Facts.{known_binary}
use Rattle.vcd_body.proofs.words.are_binary_or_known.Goals as goal

pub returns-then-is_some : goal.returns-then-is_some
returns-then-is_some c = λ e. known_binary c.args.digits.now c.args.bits c.requires (sym c.is_some.ensures ∙ e)
