-- The kind of a variable, by its type.
use Rattle.vcd_compare.proofs.Cited.{◌≡◌, ◌||◌, Bool, true, false, cond, bytes_eq, nat_eq, starts_with, codes, sym, ap, ◌∙◌, Variable, Kind, kind_of}

module _ (v : Variable) where
  -- the kind by three tests
  by_tests : Bool → Bool → Bool → Kind
  by_tests event real shortreal = cond event Kind.Event (cond (real || shortreal) Kind.Real (Kind.Digits v.size))

  pub is_event : bytes_eq v.type (codes "event") ≡ true → Kind.Event ≡ kind_of v
  unfolding by_tests
  is_event e = sym (ap (λ b. by_tests b (starts_with nat_eq v.type (codes "real")) (bytes_eq v.type (codes "shortreal"))) e)

  pub is_real : bytes_eq v.type (codes "event") ≡ false → starts_with nat_eq v.type (codes "real") ≡ true → Kind.Real ≡ kind_of v
  unfolding by_tests
  is_real e r = sym (ap (λ b. by_tests b (starts_with nat_eq v.type (codes "real")) (bytes_eq v.type (codes "shortreal"))) e ∙ ap (λ b. by_tests false b (bytes_eq v.type (codes "shortreal"))) r)

  pub is_shortreal : bytes_eq v.type (codes "event") ≡ false → starts_with nat_eq v.type (codes "real") ≡ false → bytes_eq v.type (codes "shortreal") ≡ true → Kind.Real ≡ kind_of v
  unfolding by_tests
  is_shortreal e r t =
      sym (ap (λ b. by_tests b (starts_with nat_eq v.type (codes "real")) (bytes_eq v.type (codes "shortreal"))) e
      ∙ ap (λ b. by_tests false b (bytes_eq v.type (codes "shortreal"))) r ∙ ap (λ b. by_tests false false b) t)

  pub is_digits : bytes_eq v.type (codes "event") ≡ false → starts_with nat_eq v.type (codes "real") ≡ false
      → bytes_eq v.type (codes "shortreal") ≡ false → Kind.Digits v.size ≡ kind_of v
  unfolding by_tests
  is_digits e r t =
      sym (ap (λ b. by_tests b (starts_with nat_eq v.type (codes "real")) (bytes_eq v.type (codes "shortreal"))) e
      ∙ ap (λ b. by_tests false b (bytes_eq v.type (codes "shortreal"))) r ∙ ap (λ b. by_tests false false b) t)
