use Rattle.vcd_body.proofs.Cited.{◌≡◌, ℕ, ◌%◌, ◌==◌, Bool, true, false, cond, get_or, Some, refl, ap, ◌∙◌, arith, agree_below_at, eqb-true, digit_of, one_digit, state_in, NUMBERS}
use Rattle.vcd_body.proofs.values.slot.tag_of_digit.Goals as goal

-- the number of the state for the lowest four bits of a digit, by tests
abbrev tag_of : ℕ → ℕ
tag_of low = cond (low == 0) 2 (cond (low == 1) 1 (cond (low == 8) 3 4))

by_tests : (a b c : Bool) → one_digit (state_in (cond a 2 (cond b 1 (cond c 3 4)))) ≡ Some (digit_of (cond a 0 (cond b 1 (cond c 3 2))))
by_tests true b c = refl
by_tests false true c = refl
by_tests false false true = refl
by_tests false false false = refl

pub returns : goal.returns
returns c =
    let low = c.args.digit % 16 in
    let found = eqb-true (get_or NUMBERS low 0) (tag_of low) (agree_below_at (λ n. get_or NUMBERS n 0 == tag_of n) (λ _. true) 16 low refl (omega arith)) in
    ap (λ (n : ℕ). one_digit (state_in (get_or NUMBERS n 0))) c.from.ensures ∙ ap (λ (n : ℕ). one_digit (state_in n)) found ∙ by_tests (low == 0) (low == 1) (low == 8)
