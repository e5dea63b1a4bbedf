-- Binary digits as a number, the first one in its highest bit; and how a slot holds the number and
-- its count of digits.
use Rattle.std.specs.Prelude.{ℕ, zero, suc, ◌+◌, ◌/◌, ◌%◌, ◌^◌, ◌==◌, ◌&&◌, cond, nat_lt, min, Bool, List, [], ◌∷◌}
use Rattle.std.specs.Str.{byte}

-- the last `l` binary digits of a number
abbrev pub binary_digits : ℕ → ℕ → List ℕ
binary_digits zero n = []
binary_digits (suc l) n = (byte "0" + n / 2 ^ l % 2) ∷ binary_digits l n

-- what a digit adds to the number
abbrev pub bit_of : ℕ → ℕ
bit_of digit = cond (digit == byte "1") 1 0

-- how many digits a slot holds, and their number
abbrev pub count_in : ℕ → ℕ
count_in len = min 32 (len / 4294967296)

abbrev pub number_in : ℕ → ℕ
number_in len = len % 4294967296

-- the slot has at least one digit, and the number has no more digits than are counted
abbrev pub is_proper : ℕ → Bool
is_proper len = nat_lt 0 (count_in len) && (number_in len / 2 ^ count_in len == 0)
