-- Digits, four to a byte: one of each quarter of the text, that of the first quarter in the lowest
-- bits. The last quarter ends where the text does: it may begin with digits of the third one.
use Rattle.std.specs.Prelude.{◌≡◌, ◌<◌, ℕ, ◌/◌, ◌%◌, ◌+◌, ◌-◌, ◌*◌, ◌^◌, ◌==◌, nat_lt, min, cond, List, length, map, get_or}
use Rattle.std.specs.List.{range_with_len}
use Rattle.std.specs.Str.{byte}

-- a digit as a number below 4; any other byte counts as the digit with its lowest four bits, or as
-- z
abbrev pub two_bits_of : ℕ → ℕ
two_bits_of d = cond (d % 16 == 0) 0 (cond (d % 16 == 1) 1 (cond (d % 16 == 8) 3 2))

-- a code in the two bits of a byte that begin at this one
abbrev pub shifted : ℕ → ℕ → ℕ
shifted shift code = code * 2 ^ shift % 256

-- the digit with this number, in lower case
abbrev pub digit_of : ℕ → ℕ
digit_of c = cond (c == 0) (byte "0") (cond (c == 1) (byte "1") (cond (c == 3) (byte "x") (byte "z")))

-- a digit as it is held: in lower case
abbrev pub held_digit : ℕ → ℕ
held_digit d = digit_of (two_bits_of d)

-- the code of the digit at an index, 0 after the last
abbrev pub two_bits_or : List ℕ → ℕ → ℕ
two_bits_or text position = cond (nat_lt position (length text)) (two_bits_of (get_or text position 0)) 0

-- how long a quarter of n digits is
abbrev pub quarter_of : ℕ → ℕ
quarter_of n = n / 4 + min 1 (n % 4)

-- the byte at an index: the digits at that index of each quarter
abbrev pub packed_byte : List ℕ → ℕ → ℕ → ℕ
packed_byte text quarter position = two_bits_or text position + 4 * two_bits_or text (position + quarter) + 16 * two_bits_or text
    (position + 2 * quarter) + 64 * two_bits_or text (position + (length text - quarter))

-- the code at an index before the last quarter, of quarters of this length
abbrev pub two_bits_before : ℕ → List ℕ → ℕ → ℕ
two_bits_before quarter bytes position = cond (nat_lt position quarter) (get_or bytes position 0 % 4)
    (cond (nat_lt position (2 * quarter)) (get_or bytes (position - quarter) 0 / 4 % 4) (get_or bytes (position - 2 * quarter) 0 / 16 % 4))

-- the code at an index of n digits
abbrev pub two_bits_at : ℕ → List ℕ → ℕ → ℕ
two_bits_at n bytes position = cond (nat_lt position (n - quarter_of n)) (two_bits_before (quarter_of n) bytes position) (get_or bytes (position - (n - quarter_of n)) 0 / 64)

-- the n digits that the first bytes hold
abbrev pub digits_in : ℕ → List ℕ → List ℕ
digits_in n bytes = map (λ position. digit_of (two_bits_at n bytes position)) (range_with_len 0 n)

-- a share has those digits at an index, or at each before the end of a quarter
abbrev pub HasFour : List ℕ → List ℕ → ℕ → ℕ → Type 0
HasFour share text quarter position = get_or share position 0 ≡ packed_byte text quarter position

abbrev pub ArePacked : List ℕ → List ℕ → ℕ → Type 0
ArePacked share text quarter = (position : ℕ) → position < quarter → HasFour share text quarter position
