use Rattle.vcd_body.proofs.Cited.{rules, eqb-true, bit_at-zero, is_value_digit, IsDigitAt}
use Rattle.vcd_body.proofs.Facts.{all_by_place, in_block}
use Rattle.vcd_body.proofs.words.are_many_digits.Goals as goal

pub returns-then-digits-ge32 : goal.returns-then-digits-ge32
returns-then-digits-ge32 c = λ e. all_by_place is_value_digit c.args.digits.now (λ k less.
    in_block (IsDigitAt c.args.digits.now) (c.first_marked.ensures.none (eqb-true _ _ e) k less) (λ at none j few. let z = bit_at-zero j in search rules))
