use Rattle.vcd_body.proofs.Cited.{rules, eqb-true, bit_at-zero, IsBinaryAt}
use Rattle.vcd_body.proofs.Facts.{in_block}
use Rattle.vcd_body.proofs.words.are_binary.Goals as goal

pub returns : goal.returns
returns c = λ e k less. in_block (IsBinaryAt c.args.digits.now) (c.first_marked.ensures.none (eqb-true _ _ e) k less) (λ at none j few. let z = bit_at-zero j in search rules)
