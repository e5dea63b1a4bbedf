-- The digits of a value as numbers.
use Rattle.std.specs.Prelude.{ℕ, ◌-◌, ◌==◌, ◌||◌, Bool, cond, List, length, map, drop}
use Rattle.std.specs.Int.Digits.{number_from_digits}
use Rattle.std.specs.Str.{byte}
pub use Rattle.vcd_model.specs.Values.{extend, extension}
use Rattle.vcd_changes.specs.declared.digits.Digits.{Digits}

-- the digit is 1
abbrev pub is_one : ℕ → Bool
is_one d = d == byte "1"

-- the digit is 0 or 1
abbrev pub is_known : ℕ → Bool
is_known d = d == byte "0" || d == byte "1"

-- the number whose binary digit is 1 for each of these digits that passes the test, and 0 for the
-- others
abbrev pub number_where : (ℕ → Bool) → List ℕ → ℕ
number_where test digits = number_from_digits 2 (map (λ d. cond (test d) 1 0) digits)

-- the last digits of these, at most this many
abbrev pub last_digits : ℕ → List ℕ → List ℕ
last_digits most digits = drop (length digits - most) digits

-- which of some digits are 1, and which are 0 or 1
abbrev pub digits_in : List ℕ → Digits
digits_in digits = record { value = number_where is_one digits; known = number_where is_known digits }

-- the last 64 digits of a value, which is extended on the left if it is shorter (clause 18, left
-- extension)
abbrev pub digits_of : List ℕ → Digits
digits_of text = digits_in (extend (last_digits 64 text) 64)
