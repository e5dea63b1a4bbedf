-- Which exponents time scales have.
use Rattle.vcd_head.proofs.Cited.{◌≡◌, ◌≢◌, ℕ, ℤ, Bool, true, false, ◌&&◌, cond, List, [], ◌∷◌, ◌++◌, bytes_eq, find, Some, None, refl, sym, ap, subst, arith, Decides-int_eq, int_eq, AllByRecursion, option_map, unwrap_or, scale_of, is_scale_number, is_scale_unit, scales, IsExponent}
use Rattle.vcd_model.specs.Scales.{exponent_of, scale_text}

none_found : (e : ℤ) (xs : List (List ℕ × ℤ)) → AllByRecursion (λ (s : List ℕ × ℤ). e ≢ s.1) xs → find (λ (s : List ℕ × ℤ). int_eq s.1 e) xs ≡ None
none_found e [] h = refl
none_found e (x ∷ xs) h = rw (by_test (int_eq x.1 e) refl) (none_found e xs h.1)
  where
    by_test : (b : Bool) → int_eq x.1 e ≡ b → b ≡ false
    by_test true q = absurd (h.0 (sym ((Decides-int_eq x.1 e).0 q)))
    by_test false q = refl

pub no_scale : (e : ℤ) → AllByRecursion (λ (s : List ℕ × ℤ). e ≢ s.1) scales → scale_text e ≡ []
unfolding scale_text
no_scale e h = ap (λ o. unwrap_or (option_map (λ (s : List ℕ × ℤ). s.0) o) []) (none_found e scales h)

-- ---- the exponents that are read

found_among : (p : List ℕ × ℤ → Bool) (xs : List (List ℕ × ℤ)) (e : ℤ) → AllByRecursion (λ (s : List ℕ × ℤ). IsExponent s.1) xs
    → option_map (λ (s : List ℕ × ℤ). s.1) (find p xs) ≡ Some e → IsExponent e
found_among p [] e all h = cc
found_among p (x ∷ xs) e all h = by_test (p x) (found_among p xs e all.1) h
  where
    by_test : (b : Bool) → (option_map (λ (s : List ℕ × ℤ). s.1) (find p xs) ≡ Some e → IsExponent e)
        → option_map (λ (s : List ℕ × ℤ). s.1) (cond b (Some x) (find p xs)) ≡ Some e → IsExponent e
    by_test true later q = let same : x.1 ≡ e = cc in subst IsExponent same all.0
    by_test false later q = later q

text_in_range : (text : List ℕ) (e : ℤ) → exponent_of text ≡ Some e → IsExponent e
unfolding exponent_of
text_in_range text e h =
    found_among (λ (s : List ℕ × ℤ). bytes_eq s.0 text) scales e (
      omega arith,
      (
        omega arith,
        (
          omega arith,
          (
            omega arith,
            (
              omega arith,
              (
                omega arith,
                (
                  omega arith,
                  (
                    omega arith,
                    (
                      omega arith,
                      (
                        omega arith,
                        (omega arith, (omega arith, (omega arith, (omega arith, (omega arith, (omega arith, (omega arith, (omega arith, tt)))))))),
                      ),
                    ),
                  ),
                ),
              ),
            ),
          ),
        ),
      ),
    ) h

pub scale_in_range : (ts : List (List ℕ)) (e : ℤ) → scale_of ts ≡ Some e → IsExponent e
scale_in_range [] e h = cc
scale_in_range (scale ∷ []) e h = text_in_range scale e h
scale_in_range (number ∷ unit ∷ []) e h = by_test (is_scale_number number && is_scale_unit unit) h
  where
    by_test : (b : Bool) → cond b (exponent_of (number ++ unit)) None ≡ Some e → IsExponent e
    by_test true q = text_in_range (number ++ unit) e q
    by_test false q = cc
scale_in_range (a ∷ b ∷ c ∷ ts) e h = cc
