-- Binary digits as a number.
use Rattle.vcd_body.proofs.Cited.{◌≡◌, ℕ, zero, suc, ◌+◌, ◌-◌, ◌/◌, ◌%◌, ◌^◌, ◌<◌, ◌≤◌, ◌==◌, ◌&&◌, nat_lt, Bool, true, false, cond, length, slice_get, Some, None, refl, ap, ◌∙◌, arith, binary_digits, count_in, is_proper, number_in, some_by}
use Rattle.vcd_body.specs.declared.values.slot.State.TheVariants as state

pub length_binary : (l n : ℕ) → length (binary_digits l n) ≡ l
length_binary zero n = refl
length_binary (suc l) n = ap suc (length_binary l n)

-- the digit at an index
pub binary_at : (l n position : ℕ) → position < l → slice_get (binary_digits l n) position ≡ Some (48 + n / 2 ^ (l - 1 - position) % 2)
binary_at zero n position h = absurd (omega arith)
binary_at (suc l) n zero h = let e : l ≡ suc l - 1 - 0 = omega arith in ap (λ k. Some (48 + n / 2 ^ k % 2)) e
binary_at (suc l) n (suc position) h = let e : l - 1 - position ≡ suc l - 1 - suc position = omega arith in binary_at l n position (omega arith) ∙ ap (λ k. Some (48 + n / 2 ^ k % 2)) e

pub binary_past : (l n position : ℕ) → l ≤ position → slice_get (binary_digits l n) position ≡ None
binary_past zero n position h = refl
binary_past (suc l) n zero h = absurd (omega arith)
binary_past (suc l) n (suc position) h = binary_past l n position (omega arith)

-- what a slot holds is proper
pub proper : (len : ℕ) → 1 ≤ some_by state.Bits len → is_proper len ≡ true
proper len h = by_test (is_proper len) h
  where
    by_test : (b : Bool) → 1 ≤ cond b 1 0 → b ≡ true
    by_test true h = refl
    by_test false h = absurd (omega arith)

pub proper_count : (len : ℕ) → is_proper len ≡ true → 1 ≤ count_in len
proper_count len h = by_count (count_in len) (number_in len) h
  where
    by_count : (c n : ℕ) → (nat_lt 0 c && (n / 2 ^ c == 0)) ≡ true → 1 ≤ c
    by_count zero n h = cc
    by_count (suc c) n h = omega arith

-- and some
pub some_binary : (len : ℕ) → 1 ≤ some_by state.Bits len → 0 < length (binary_digits (count_in len) (number_in len))
some_binary len h =
    let c = proper_count len (proper len h) in
    let l = length_binary (count_in len) (number_in len) in
    omega arith
