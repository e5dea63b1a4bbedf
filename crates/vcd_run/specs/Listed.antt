-- Numbers in a list: how often each is there, and those that pass, in order.
use Rattle.std.specs.Prelude.{ℕ, zero, suc, ◌==◌, Bool, cond, List, [], ◌∷◌, ◌++◌, sum_by}

-- how many times a number is there
abbrev pub times : ℕ → List ℕ → ℕ
times i numbers = sum_by (λ n. cond (n == i) 1 0) numbers

-- the numbers below a bound that pass, in order
abbrev pub chosen : (ℕ → Bool) → ℕ → List ℕ
chosen f zero = []
chosen f (suc n) = chosen f n ++ cond (f n) (n ∷ []) []
