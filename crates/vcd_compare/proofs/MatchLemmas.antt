-- Values that match: each matches itself, and without a rule no other.
use Rattle.vcd_compare.proofs.Cited.{◌≡◌, ℕ, ◌==◌, Bool, true, false, List, [], ◌∷◌, Option, Some, None, bytes_eq, refl, ap, ◌∙◌, eq-eqb, bytes_eq-Decides, or-false, or_self, Value, same_value, Rule, all_match, exactly, match, values_match}

-- ---- by any rule

all_match_self : (r : Rule) (ds : List ℕ) → all_match r ds ds ≡ true
all_match_self r [] = refl
all_match_self r (d ∷ ds) = rw (eq-eqb d d refl, all_match_self r ds) refl

value_self : (r : Rule) (v : Value) → values_match r v v ≡ true
value_self r (Value.Bits ds) = all_match_self r ds
value_self r (Value.Real text) = rw ((bytes_eq-Decides text text).1 refl) refl

pub match_self : (r : Rule) (o p : Option Value) → o ≡ p → match r o p ≡ true
match_self r None p e = rw (← e) refl
match_self r (Some v) p e = rw (← e) (value_self r v)

-- ---- without a rule

digits_same : (xs ys : List ℕ) → all_match exactly xs ys ≡ bytes_eq xs ys
digits_same [] [] = refl
digits_same [] (y ∷ ys) = refl
digits_same (x ∷ xs) [] = refl
digits_same (x ∷ xs) (y ∷ ys) = rw (or-false (x == y), or-false (x == y), digits_same xs ys) refl

values_same : (v w : Value) → values_match exactly v w ≡ same_value v w
values_same (Value.Bits a) (Value.Bits b) = digits_same a b
values_same (Value.Real a) (Value.Real b) = or_self (bytes_eq a b)
values_same (Value.Bits a) (Value.Real b) = refl
values_same (Value.Real a) (Value.Bits b) = refl

same_is : (v w : Value) → same_value v w ≡ true → v ≡ w
same_is (Value.Bits a) (Value.Bits b) e = ap Value.Bits ((bytes_eq-Decides a b).0 e)
same_is (Value.Real a) (Value.Real b) e = ap Value.Real ((bytes_eq-Decides a b).0 e)
same_is (Value.Bits a) (Value.Real b) e = cc
same_is (Value.Real a) (Value.Bits b) e = cc

pub match_other : (o p : Option Value) → (o ≡ p → ⊥) → match exactly o p ≡ false
match_other None None apart = absurd (apart refl)
match_other None (Some w) apart = refl
match_other (Some v) None apart = refl
match_other (Some v) (Some w) apart = values_same v w ∙ by_test (same_value v w) refl
  where
    by_test : (b : Bool) → same_value v w ≡ b → b ≡ false
    by_test true e = absurd (apart (ap Some (same_is v w e)))
    by_test false e = refl
