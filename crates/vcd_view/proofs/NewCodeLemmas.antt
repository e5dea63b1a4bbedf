-- The bytes of a new code, digit by digit.
use Rattle.vcd_view.proofs.Cited.{◌≡◌, ℕ, suc, ◌+◌, ◌*◌, ◌/◌, ◌%◌, ◌^◌, ◌<◌, ◌≤◌, List, [], ◌∷◌, ◌++◌, length, take, slice_set, refl, sym, ap, ◌∙◌, arith, ◌⊎◌, inl, inr, mul-le-mul_left, mul_assoc, take-suc-set, length-set, le-leb, le-ltb, lt-ltb, base94, same_room}
use Rattle.std.proofs.Common.{append_assoc}
use Rattle.std.proofs.Math.Nat.{pow-suc}
use Rattle.vcd_model.specs.HeadText.{new_code}
use Rattle.vcd_view.specs.NewCode.{digits_of}

-- what a loop over the digits keeps: the digits so far, and those of the rest
pub record SoFar (number : ℕ) (bytes : List ℕ) (rest len : ℕ) : Type 0 where
  pub few : len ≤ 9
  pub room : length bytes ≡ 10
  pub small : 94 ^ len * rest ≤ number
  pub digits : take len bytes ++ base94 (suc rest) rest ≡ new_code number

pub at_first : (number : ℕ) (bytes : List ℕ) → length bytes ≡ 10 → SoFar number bytes number 0
unfolding new_code
at_first number bytes e = record { few = omega arith; room = e; small = omega arith; digits = refl }

pub digit_more : (number : ℕ) (bytes : List ℕ) (rest len v : ℕ) → SoFar number bytes rest len → len < 9 → 94 ≤ rest → v ≡ rest % 94 + 33
    → SoFar number (slice_set bytes len v) (rest / 94) (len + 1)
digit_more number bytes rest len v s h big is = record {
  few = omega arith;
  room = length-set bytes len v ∙ s.room;
  small =
      let p = 94 ^ len in
      let m : p * (94 * (rest / 94)) ≤ p * rest = mul-le-mul_left p (omega arith) in
      let e : 94 ^ (len + 1) * (rest / 94) ≡ p * (94 * (rest / 94)) = ap (λ n. 94 ^ n * (rest / 94)) one ∙ ap (λ n. n * (rest / 94)) (pow-suc 94 len) ∙ mul_assoc p 94 (rest / 94) in
      let b = s.small in
      omega (arith, e, m, b);
  digits =
      ap (λ n. take n (slice_set bytes len v) ++ base94 (suc (rest / 94)) (rest / 94)) one
      ∙ ap (λ l. l ++ base94 (suc (rest / 94)) (rest / 94)) (take-suc-set bytes len v (let r = s.room in omega arith))
      ∙ append_assoc (take len bytes) (v ∷ []) (base94 (suc (rest / 94)) (rest / 94))
      ∙ ap (λ l. take len bytes ++ l) (ap (λ d. d ∷ base94 (suc (rest / 94)) (rest / 94)) digit
      ∙ ap (λ l. (33 + rest % 94) ∷ l) (same_room (suc (rest / 94)) rest (rest / 94) (omega arith) (omega arith)) ∙ sym opened)
      ∙ s.digits;
}
  where
    one : len + 1 ≡ suc len
    one = omega arith

    digit : v ≡ 33 + rest % 94
    digit = omega arith

    opened : base94 (suc rest) rest ≡ (33 + rest % 94) ∷ base94 rest (rest / 94)
    opened = rw (le-ltb rest 94 big) refl

-- the last digit
pub digit_last : (number : ℕ) (bytes : List ℕ) (rest len v : ℕ) → SoFar number bytes rest len → number < 2 ^ 64 → (len ≡ 9) ⊎ (rest < 94)
    → v ≡ rest % 94 + 33 → digits_of (record { bytes = slice_set bytes len v; len = len + 1 }) ≡ new_code number
digit_last number bytes rest len v s fits end is =
    rw (le-leb (len + 1) (length (slice_set bytes len v)) (let r = s.room in let e = length-set bytes len v in let f = s.few in omega arith))
    (ap (λ n. take n (slice_set bytes len v)) one
    ∙ take-suc-set bytes len v (let r = s.room in let f = s.few in omega arith)
    ∙ ap (λ d. take len bytes ++ d ∷ []) digit
    ∙ ap (λ l. take len bytes ++ l) (sym (last (small end)))
    ∙ s.digits)
  where
    one : len + 1 ≡ suc len
    one = omega arith

    digit : v ≡ 33 + rest % 94
    digit = omega arith

    small : (len ≡ 9) ⊎ (rest < 94) → rest < 94
    small (inr h) = h
    small (inl e) = let b = s.small in let p = ap (λ n. 94 ^ n * rest) e in let q : 94 ^ 9 * rest ≤ number = omega (arith, b, p) in omega (arith, q)

    last : rest < 94 → base94 (suc rest) rest ≡ (33 + rest % 94) ∷ []
    last h = rw (lt-ltb rest 94 h) refl
