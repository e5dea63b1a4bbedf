-- How codes are hashed.
use Rattle.vcd_view.proofs.Cited.{◌≡◌, ℕ, ◌≤◌, List, [], ◌∷◌, drop, length, refl, arith, from_le_bytes, w64, hashed, mixed, CodeSeed}

-- eight bytes are one word
pub word_first : (s : CodeSeed) (state : ℕ) (bytes : List ℕ) → 8 ≤ length bytes → hashed s state bytes ≡ hashed s (mixed s state (from_le_bytes w64 bytes)) (drop 8 bytes)
word_first s state [] l = absurd (omega (arith, l))
word_first s state (a ∷ []) l = absurd (omega (arith, l))
word_first s state (a ∷ b ∷ []) l = absurd (omega (arith, l))
word_first s state (a ∷ b ∷ c ∷ []) l = absurd (omega (arith, l))
word_first s state (a ∷ b ∷ c ∷ d ∷ []) l = absurd (omega (arith, l))
word_first s state (a ∷ b ∷ c ∷ d ∷ e ∷ []) l = absurd (omega (arith, l))
word_first s state (a ∷ b ∷ c ∷ d ∷ e ∷ f ∷ []) l = absurd (omega (arith, l))
word_first s state (a ∷ b ∷ c ∷ d ∷ e ∷ f ∷ g ∷ []) l = absurd (omega (arith, l))
word_first s state (a ∷ b ∷ c ∷ d ∷ e ∷ f ∷ g ∷ h ∷ rest) l = refl

-- only eight bytes
pub word_alone : (s : CodeSeed) (state : ℕ) (bytes : List ℕ) → length bytes ≡ 8 → hashed s state bytes ≡ mixed s state (from_le_bytes w64 bytes)
word_alone s state [] l = absurd (omega (arith, l))
word_alone s state (a ∷ []) l = absurd (omega (arith, l))
word_alone s state (a ∷ b ∷ []) l = absurd (omega (arith, l))
word_alone s state (a ∷ b ∷ c ∷ []) l = absurd (omega (arith, l))
word_alone s state (a ∷ b ∷ c ∷ d ∷ []) l = absurd (omega (arith, l))
word_alone s state (a ∷ b ∷ c ∷ d ∷ e ∷ []) l = absurd (omega (arith, l))
word_alone s state (a ∷ b ∷ c ∷ d ∷ e ∷ f ∷ []) l = absurd (omega (arith, l))
word_alone s state (a ∷ b ∷ c ∷ d ∷ e ∷ f ∷ g ∷ []) l = absurd (omega (arith, l))
word_alone s state (a ∷ b ∷ c ∷ d ∷ e ∷ f ∷ g ∷ h ∷ []) l = refl
word_alone s state (a ∷ b ∷ c ∷ d ∷ e ∷ f ∷ g ∷ h ∷ i ∷ rest) l = absurd (omega (arith, l))
