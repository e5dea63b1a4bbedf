-- How codes are hashed.
use Rattle.std.specs.Prelude.{ℕ, ◌+◌, ◌*◌, ◌/◌, ◌%◌, ◌^◌, bit_xor, List, [], ◌∷◌}
use Rattle.std.specs.List.{fold}
use Rattle.std.specs.Hash as fed
use Rattle.std.specs.declared.hash.Hasher as hasher
use Rattle.std.specs.declared.hash.BuildHasher as builder
use Rattle.std.specs.Int.{from_le_bytes, w64}
use Rattle.vcd_view.specs.Keys.{packed}
use Rattle.vcd_view.specs.declared.code_hash.CodeSeed.{CodeSeed}

-- the state after a word: the upper half of a product of 128 bits
abbrev pub mixed : CodeSeed → ℕ → ℕ → ℕ
mixed s state word = ((bit_xor state word * s.factor) % 2 ^ 128 + s.more) % 2 ^ 128 / 2 ^ 64

-- the state after these bytes: each eight of them count as one word, and what is left as one more
abbrev pub hashed : CodeSeed → ℕ → List ℕ → ℕ
hashed s state [] = state
hashed s state (a ∷ b ∷ c ∷ d ∷ e ∷ f ∷ g ∷ h ∷ rest) = hashed s (mixed s state (from_le_bytes w64 (a ∷ b ∷ c ∷ d ∷ e ∷ f ∷ g ∷ h ∷ []))) rest
hashed s state rest = mixed s state (packed rest)

-- what a hasher gives for a number
abbrev pub hash_of : {S H : Type 0} → builder.Ghosts S H → hasher.Ghosts H → S → ℕ → ℕ
hash_of b h s n = h.finish (fold h.write (b.build_hasher s) (fed.u64 n))

-- a number of 128 bits that a hasher gives: what it gives for a number and for the next
abbrev pub drawn : {S H : Type 0} → builder.Ghosts S H → hasher.Ghosts H → S → ℕ → ℕ
drawn b h s n = hash_of b h s n * 2 ^ 64 + hash_of b h s (n + 1)
