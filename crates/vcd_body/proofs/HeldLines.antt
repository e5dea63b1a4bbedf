-- The text of a value, by the digits that are held.
use Rattle.vcd_body.proofs.Cited.{◌≡◌, ◌≢◌, ℕ, ◌<◌, ◌≤◌, ◌==◌, Bool, true, false, List, [], ◌∷◌, length, refl, sym, ap, ◌∙◌, append_assoc, arith, eqb-true, line_if_set, shown, extend, short, Held, value_at_size, digits_held, held_by, held_line, some_by, State}
use Rattle.vcd_body.specs.declared.values.slot.State.TheVariants as state
use Rattle.vcd_body.proofs.BinaryLemmas.{some_binary}
use Rattle.vcd_body.proofs.PackedLemmas.{length_digits}
use Rattle.vcd_body.proofs.Shortest.{extend_wide}

-- of a state with digits, that is all that is held
pub all_digits : (st : State) (len : ℕ) (bytes : List ℕ) → st ≢ state.Unset → st ≢ state.Real → held_by st len bytes ≡ Held.Digits (digits_held (held_by st len bytes))
all_digits state.Unset len bytes u r = absurd (u refl)
all_digits state.Zero len bytes u r = refl
all_digits state.One len bytes u r = refl
all_digits state.Unknown len bytes u r = refl
all_digits state.High len bytes u r = refl
all_digits state.Packed len bytes u r = refl
all_digits state.Bits len bytes u r = refl
all_digits state.Real len bytes u r = absurd (r refl)

-- and they are some
pub some_digits : (st : State) (len : ℕ) (bytes : List ℕ) → 1 ≤ some_by st len → st ≢ state.Unset → st ≢ state.Real → 0 < length (digits_held (held_by st len bytes))
some_digits state.Unset len bytes s u r = absurd (u refl)
some_digits state.Zero len bytes s u r = omega arith
some_digits state.One len bytes s u r = omega arith
some_digits state.Unknown len bytes s u r = omega arith
some_digits state.High len bytes s u r = omega arith
some_digits state.Packed len bytes s u r = let l = length_digits len bytes in omega arith
some_digits state.Bits len bytes s u r = some_binary len s
some_digits state.Real len bytes s u r = absurd (r refl)

-- the definitions' line of digits
pub line_is : (size : ℕ) (ds id : List ℕ) (event : Bool) (held : Held) → 0 < length ds → held ≡ Held.Digits ds
    → held_line size ds id ≡ line_if_set (record { text = id; size = size; event = event }) (value_at_size size held)
line_is size ds id event held some is = by_size (size == 1) refl ∙ sym (ap (λ h. line_if_set (record { text = id; size = size; event = event }) (value_at_size size h)) is)
  where
    by_size : (b : Bool) → (size == 1) ≡ b → held_line size ds id ≡ line_if_set (record { text = id; size = size; event = event }) (value_at_size size (Held.Digits ds))
    by_size true e =
        let wide = extend_wide ds size (let one = eqb-true size 1 e in omega arith) in
        rw (e, wide) (sym (append_assoc ds id (10 ∷ [])))
    by_size false e = rw e (sym (append_assoc (98 ∷ short (extend ds size)) (32 ∷ id) (10 ∷ [])))

-- and their text in full
pub full_is : (size : ℕ) (ds : List ℕ) (held : Held) → held ≡ Held.Digits ds → extend ds size ≡ shown (value_at_size size held)
full_is size ds held is = sym (ap (λ h. shown (value_at_size size h)) is)
