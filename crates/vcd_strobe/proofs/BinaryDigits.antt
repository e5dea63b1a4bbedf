-- The binary digits of a number.
use Rattle.std.proofs.Common.{◌≡◌, ℕ, zero, suc, ◌+◌, ◌-◌, ◌/◌, ◌%◌, ◌^◌, ◌<◌, List, [], ◌∷◌, ◌++◌, length, take, replicate, set, get_or, refl, sym, ap, ◌∙◌, arith}
use Rattle.std.proofs.lemmas.List.{take_more, take_more_set, take_all}
use Rattle.std.specs.Char.{to_ascii_lowercase}
use Rattle.std.specs.Str.{str_to_ascii_lowercase}
use Rattle.vcd_model.specs.Strobe.{binary}
use Rattle.vcd_model.specs.Values.{extend, extension}

pub binary_at : (n i t : ℕ) → i < n → get_or (binary n t) i 0 ≡ 48 + t / 2 ^ (n - 1 - i) % 2
binary_at zero i t lt = absurd (omega (arith, lt))
binary_at (suc n) zero t lt = let e : suc n - 1 - 0 ≡ n = omega arith in rw e refl
binary_at (suc n) (suc i) t lt = let e : suc n - 1 - suc i ≡ n - 1 - i = omega arith in rw e (binary_at n i t (omega (arith, lt)))

pub binary_long : (n t : ℕ) → length (binary n t) ≡ n
binary_long zero t = refl
binary_long (suc n) t = ap suc (binary_long n t)

-- one more digit
pub binary_next : (ds : List ℕ) (i t : ℕ) → i < 64 → length ds ≡ 64 → take i ds ≡ take i (binary 64 t)
    → take (i + 1) (set ds i (48 + t / 2 ^ (63 - i) % 2)) ≡ take (i + 1) (binary 64 t)
binary_next ds i t lt long so_far =
    let digit : get_or (binary 64 t) i 0 ≡ 48 + t / 2 ^ (63 - i) % 2 = binary_at 64 i t lt in
    take_more_set ds i (48 + t / 2 ^ (63 - i) % 2) (omega (arith, lt, long)) ∙ ap (λ (l : List ℕ). l ++ (48 + t / 2 ^ (63 - i) % 2) ∷ []) so_far
    ∙ ap (λ (d : ℕ). take i (binary 64 t) ++ d ∷ []) (sym digit) ∙ sym (take_more (binary 64 t) i 0 (let l = binary_long 64 t in omega (arith, lt, l)))

pub binary_all : (ds : List ℕ) (t : ℕ) → length ds ≡ 64 → take 64 ds ≡ take 64 (binary 64 t) → ds ≡ binary 64 t
binary_all ds t long same = sym (take_all 64 ds (omega (arith, long))) ∙ same ∙ take_all 64 (binary 64 t) (let l = binary_long 64 t in omega (arith, l))

lower_digit : (d : ℕ) → d < 2 → to_ascii_lowercase (48 + d) ≡ 48 + d
lower_digit zero lt = refl
lower_digit (suc zero) lt = refl
lower_digit (suc (suc d)) lt = absurd (omega (arith, lt))

lower_binary : (n t : ℕ) → str_to_ascii_lowercase (binary n t) ≡ binary n t
lower_binary zero t = refl
lower_binary (suc n) t = rw (lower_digit (t / 2 ^ n % 2) (omega arith), lower_binary n t) refl

-- as a value of 64 bits they are as they are written
pub binary_value : (t : ℕ) → extend (str_to_ascii_lowercase (binary 64 t)) 64 ≡ binary 64 t
binary_value t = ap (λ ds. extend ds 64) (lower_binary 64 t) ∙ whole
  where
    whole : extend (binary 64 t) 64 ≡ binary 64 t
    whole = let none : 64 - length (binary 64 t) ≡ 0 = (let l = binary_long 64 t in omega (arith, l)) in ap (λ n. replicate n (extension (binary 64 t)) ++ binary 64 t) none
