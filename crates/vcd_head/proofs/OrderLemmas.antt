-- Indexes of names, sorted.
use Rattle.vcd_head.proofs.Cited.{◌≡◌, ℕ, zero, suc, ◌-◌, ◌<◌, ◌≤◌, List, [], ◌++◌, get_or, length, replicate, inl, inr, refl, ◌∙◌, arith, IsStrictWeakOrder, All, Contains, IsSortedBy, cases_lt, nat_list_cmp_total, get_or-append_right, get_or_append_left, get_or_default, ranks_by, sorted_far, IsOrder, comes_before}

pub before_weak : (names : List (List ℕ)) → IsStrictWeakOrder (comes_before names)
before_weak names = ranks_by nat_list_cmp_total (λ p. get_or names p [])

-- indexes that are numbered from 0 on
pub numbered_has : (positions : List ℕ) (n : ℕ) → length positions ≡ n → ((i : ℕ) → i < n → get_or positions i 0 ≡ i) → (p : ℕ) → p < n → Contains positions p
numbered_has positions n len each p l = (p, omega (arith, len, l), get_or_default positions p p 0 (omega (arith, len, l)) ∙ each p l)

pub numbered_within : (positions : List ℕ) (n : ℕ) → length positions ≡ n → ((i : ℕ) → i < n → get_or positions i 0 ≡ i) → All (λ p. p < n) positions
numbered_within positions n len each k d l = omega (arith, len, l, get_or_default positions k d 0 l, each k (omega (arith, len, l)))

-- one number everywhere, and where nothing is
pub read_same : {X : Type 0} (x : X) (n k : ℕ) → get_or (replicate n x) k x ≡ x
read_same x zero k = refl
read_same x (suc n) zero = refl
read_same x (suc n) (suc k) = read_same x n k

-- sorted indexes of all names are their order, with zeros after them
pub order_made : (names : List (List ℕ)) (used rest : List ℕ) (n : ℕ) → n ≡ length names → length used ≡ n → n ≤ 16384
    → ((p : ℕ) → p < n → Contains used p) → All (λ p. p < n) used → IsSortedBy (comes_before names) used
    → ((i : ℕ) → get_or rest i 0 ≡ 0) → IsOrder names (used ++ rest)
order_made names used rest n count len few each within sorted zeros = record {
  each = λ p l.
      let k = each p (omega (arith, l, count)) in
      (k.0, omega (arith, k.1, len, count), left k.0 k.1 ∙ get_or_default used k.0 0 p k.1 ∙ k.2);
  positions = λ i l. let il : i < length used = omega (arith, l, len, count) in omega (arith, left i il, within i 0 il, count);
  within = λ i. elim (cases_lt i (length used)) [
    | inl l ↦ omega (arith, left i l, within i 0 l, few)
    | inr l ↦ omega (arith, get_or-append_right used rest (length used) i 0 refl l ∙ zeros (i - length used))
  ];
  rising = λ i j l m.
      let jl : j < length used = omega (arith, m, len, count) in
      let il : i < length used = omega (arith, l, jl) in
      (λ k. comes_before names (left j jl k) (left i il k)) ∙ sorted_far (comes_before names) (before_weak names) used sorted i j 0 l jl;
}
  where
    left : (i : ℕ) → i < length used → get_or (used ++ rest) i 0 ≡ get_or used i 0
    left i l = get_or_append_left used rest 0 i l
