-- The keys that short codes are compared by.
use Rattle.std.specs.Prelude.{ℕ, ◌<◌, ◌+◌, ◌*◌, nat_le, cond, List, [], ◌∷◌, length}
use Rattle.std.specs.List.{AllByRecursion}

-- each element is a byte
abbrev pub AreBytes : List ℕ → Type 0
AreBytes bs = AllByRecursion (λ b. b < 256) bs

-- the bytes and a blank after them as the digits of a number, the first one lowest: no two texts
-- have the same
abbrev pub packed : List ℕ → ℕ
packed [] = 32
packed (b ∷ bs) = packed bs * 256 + b

-- the key of a code of at most 7 bytes, 0 for a longer one
abbrev pub key_in : List ℕ → ℕ
key_in code = cond (nat_le (length code) 7) (packed code) 0
