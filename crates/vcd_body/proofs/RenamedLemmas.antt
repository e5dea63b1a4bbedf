-- The first new codes.
use Rattle.vcd_body.proofs.Cited.{◌≡◌, ℕ, suc, ◌+◌, ◌/◌, ◌%◌, ◌<◌, ◌≤◌, [], ◌∷◌, refl, ap, ◌∙◌, arith, le-ltb, lt-ltb, base94}
use Rattle.vcd_model.specs.HeadText.{new_code}
use Rattle.vcd_model.proofs.CodeLemmas.{same_room}

last : (n : ℕ) → n < 94 → base94 (suc n) n ≡ (33 + n % 94) ∷ []
last n h = rw (lt-ltb n 94 h) refl

more : (n : ℕ) → 94 ≤ n → base94 (suc n) n ≡ (33 + n % 94) ∷ base94 (suc (n / 94)) (n / 94)
more n h = rw (le-ltb n 94 h) (ap (λ l. (33 + n % 94) ∷ l) (same_room n (suc (n / 94)) (n / 94) (omega arith) (omega arith)))

pub one_digit : (n : ℕ) → n < 94 → new_code n ≡ (33 + n % 94) ∷ []
unfolding new_code
one_digit n h = last n h

pub two_digits : (n : ℕ) → 94 ≤ n → n / 94 < 94 → new_code n ≡ (33 + n % 94) ∷ (33 + (n / 94) % 94) ∷ []
unfolding new_code
two_digits n h k = more n h ∙ ap (λ l. (33 + n % 94) ∷ l) (last (n / 94) k)

pub three_digits : (n : ℕ) → 94 ≤ n → 94 ≤ n / 94 → (n / 94) / 94 < 94 → new_code n ≡ (33 + n % 94) ∷ (33 + (n / 94) % 94) ∷ (33 + ((n / 94) / 94) % 94) ∷ []
unfolding new_code
three_digits n h k m = more n h ∙ ap (λ l. (33 + n % 94) ∷ l) (more (n / 94) k ∙ ap (λ l. (33 + (n / 94) % 94) ∷ l) (last ((n / 94) / 94) m))
