-- Bytes that are written in lower case, piece by piece.
use Rattle.vcd_body.proofs.Cited.{◌≡◌, ◌≢◌, ◌⊎◌, inl, inr, ℕ, ◌+◌, ◌<◌, Bool, true, false, ◌||◌, ◌==◌, List, [], ◌∷◌, ◌++◌, get_or, length, take, ap, ap₂, refl, ◌∙◌, add-one, agree_below_at, eqb-true, map-append, take-suc, bit_and, to_ascii_lowercase, str_to_ascii_lowercase}

-- ---- bit 5 of bytes, which is set where they are no capital letters

either : (a b : Bool) → (a || b) ≡ true → (a ≡ true) ⊎ (b ≡ true)
either true b e = inl refl
either false b e = inr e

bit_5 : (b : ℕ) → b < 256 → (bit_and 32 b ≡ 0) ⊎ ((bit_and 32 b ≡ 32) × (to_ascii_lowercase b ≡ b))
bit_5 b fit = by_test (either (bit_and 32 b == 0) (to_ascii_lowercase b == b)
    (agree_below_at (λ x. (bit_and 32 x == 0) || (to_ascii_lowercase x == x)) (λ _. true) 256 b refl fit))
    (either (bit_and 32 b == 0) (bit_and 32 b == 32) (agree_below_at (λ x. (bit_and 32 x == 0) || (bit_and 32 x == 32)) (λ _. true) 256 b refl fit))
  where
    by_test : ((bit_and 32 b == 0) ≡ true) ⊎ ((to_ascii_lowercase b == b) ≡ true) → ((bit_and 32 b == 0) ≡ true) ⊎ ((bit_and 32 b == 32) ≡ true)
        → (bit_and 32 b ≡ 0) ⊎ ((bit_and 32 b ≡ 32) × (to_ascii_lowercase b ≡ b))
    by_test (inl z) other = inl (eqb-true _ _ z)
    by_test (inr low) (inl z) = inl (eqb-true _ _ z)
    by_test (inr low) (inr set) = inr (eqb-true _ _ set, eqb-true _ _ low)

-- bytes so far are in lower case, where bit 5 is set in all of them
abbrev pub AreLowBy : ℕ → List ℕ → Type 0
AreLowBy all bytes = ((all ≡ 0) ⊎ (all ≡ 32)) × (all ≢ 0 → str_to_ascii_lowercase bytes ≡ bytes)

-- one byte more
pub low_more : (bytes : List ℕ) (i all : ℕ) → i < length bytes → get_or bytes i 0 < 256 → AreLowBy all (take i bytes) → AreLowBy (bit_and all (get_or bytes i 0)) (take (i + 1) bytes)
low_more bytes i all inside fit (inl none, low) = let z : bit_and all (get_or bytes i 0) ≡ 0 = ap (λ m. bit_and m (get_or bytes i 0)) none in (inl z, λ some. absurd (some z))
low_more bytes i all inside fit (inr set, low) = by_bit (bit_5 (get_or bytes i 0) fit)
  where
    same : bit_and all (get_or bytes i 0) ≡ bit_and 32 (get_or bytes i 0)
    same = ap (λ m. bit_and m (get_or bytes i 0)) set

    some : all ≢ 0
    some = λ z. cc

    by_bit : (bit_and 32 (get_or bytes i 0) ≡ 0) ⊎ ((bit_and 32 (get_or bytes i 0) ≡ 32)
        × (to_ascii_lowercase (get_or bytes i 0) ≡ get_or bytes i 0)) → AreLowBy (bit_and all (get_or bytes i 0)) (take (i + 1) bytes)
    by_bit (inl z) = (inl (same ∙ z), λ some. absurd (some (same ∙ z)))
    by_bit (inr (e, is)) = (
      inr (same ∙ e),
      λ _. rw (add-one, take-suc bytes i 0 inside, map-append) (ap₂ (λ (a b : List ℕ). a ++ b) (low some) (ap (λ d. d ∷ []) is)),
    )
