-- The line of a time mark that is in some bytes.
use Rattle.vcd_body.proofs.Cited.{◌≡◌, ℕ, ◌+◌, ◌-◌, ◌^◌, ◌<◌, ◌==◌, ◌&&◌, ◌||◌, not, true, List, [], ◌∷◌, ◌++◌, length, get_or, decimal, sym, ap, ap₂, ◌∙◌, subst, arith, rules, slice_index, slice_range, list_all, is_ascii_digit, and_parts, eqb-true, decimal-digits_value, IsNumeralModel, numerals_by_weight, decimal_value, is_decimal, time_line, length-slice_range, HasTimestamp, line_without}
use Rattle.vcd_body.proofs.LineLemmas.{one_byte}
use Rattle.vcd_body.proofs.WordLemmas.{byte_there}

-- these are the digits and the number of the standard library
own : IsNumeralModel (λ ds. list_all is_ascii_digit ds ≡ true) decimal_value
own = numerals_by_weight _ (search rules) decimal_value (search rules)

some_digits : (ds : List ℕ) → is_decimal ds ≡ true → (list_all is_ascii_digit ds ≡ true) × (0 < length ds)
some_digits [] e = cc
some_digits (d ∷ ds) e = (e, omega arith)

-- digits of which none leads needlessly are what is written for their number
pub digits_written : (ds : List ℕ) (time : ℕ) → is_decimal ds ≡ true → decimal_value ds ≡ time → time < 2 ^ 64 → (get_or ds 0 0 ≡ 48 → length ds ≡ 1) → ds ≡ decimal time
digits_written ds time all value small lead =
    let k = some_digits ds all in
    sym (decimal-digits_value own ds k.0 k.1 lead (subst (λ n. n < 2 ^ 64) (sym value) small)) ∙ ap decimal value

-- a number sign, digits of which no zero leads, and a line feed for the byte after them
pub mark_line : (bytes : List ℕ) (from at to time : ℕ) → HasTimestamp bytes from to at time → slice_index bytes (at - 1) ≡ 35
    → (slice_index bytes at ≡ 48 → to ≡ at + 2) → line_without bytes (at - 1) to 0 ≡ time_line time
mark_line bytes from at to time m first lead =
    let after = m.after in
    let before = m.before in
    let within = m.within in
    let ds : List ℕ = slice_range bytes at (to - 1) in
    let long : length ds ≡ to - 1 - at = length-slice_range bytes at (to - 1) (omega arith) in
    let some = (some_digits ds m.digits).1 in
    let none : at + 0 ≡ at = omega arith in
    let stop : to - 1 ≡ at + length ds = omega arith in
    let begins : get_or ds 0 0 ≡ slice_index bytes at = byte_there ds bytes at (length ds) 0 some (ap (slice_range bytes at) stop) ∙ ap (slice_index bytes) none in
    let is : ds ≡ decimal time = digits_written ds time m.digits m.value m.fits (λ z. let two = lead (sym begins ∙ z) in omega arith) in
    let next : at - 1 + 1 + 0 ≡ at = omega arith in
    let front : slice_range bytes (at - 1) (at - 1 + 1) ≡ 35 ∷ [] = one_byte bytes (at - 1) (omega arith) ∙ ap (λ b. b ∷ []) first in
    ap₂ (λ (a b : List ℕ). (a ++ b) ++ 10 ∷ []) front (ap (λ n. slice_range bytes n (to - 1)) next ∙ is)

lead_of : (a b n : ℕ) → (not (a == 48) || (b == n)) ≡ true → a ≡ 48 → b ≡ n
lead_of a b n e is = eqb-true b n (subst (λ (v : ℕ). (not (v == 48) || (b == n)) ≡ true) is e)

-- the same by what is looked at
pub mark_line_there : (bytes : List ℕ) (from at to time : ℕ)
    → ((slice_index bytes (at - 1) == 35) && (not (slice_index bytes at == 48) || (to == at + 2))) ≡ true → HasTimestamp bytes from to at time
    → line_without bytes (at - 1) to 0 ≡ time_line time
mark_line_there bytes from at to time e m =
    let p = and_parts (slice_index bytes (at - 1) == 35) (not (slice_index bytes at == 48) || (to == at + 2)) e in
    mark_line bytes from at to time m (eqb-true (slice_index bytes (at - 1)) 35 p.0) (lead_of (slice_index bytes at) to (at + 2) p.1)
