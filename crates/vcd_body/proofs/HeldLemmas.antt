-- The value that a slot holds, digit by digit.
use Rattle.vcd_body.proofs.Cited.{◌≡◌, ℕ, zero, suc, ◌-◌, ◌<◌, ◌≤◌, List, ◌++◌, length, replicate, slice_get, None, refl, sym, ap, ◌∙◌, arith, extend, Held, digit_in, value_at_size, digits_held, held_by, some_by, State}
use Rattle.vcd_body.specs.declared.values.slot.State.TheVariants as state
use Rattle.vcd_body.proofs.BinaryLemmas.{some_binary}
use Rattle.vcd_body.proofs.PackedLemmas.{length_digits}

-- ---- held digits

-- this many packed digits are held
pub count_held : (st : State) (len : ℕ) (bytes : List ℕ) → st ≡ state.Packed → len ≡ length (digits_held (held_by st len bytes))
count_held st len bytes is = rw is (sym (length_digits len bytes))

-- ---- extended digits

pub digit_behind : (m e i : ℕ) (ds : List ℕ) → m ≤ i → slice_get (replicate m e ++ ds) i ≡ slice_get ds (i - m)
digit_behind zero e i ds h = let same : i ≡ i - 0 = omega arith in ap (slice_get ds) same
digit_behind (suc m) e zero ds h = absurd (omega arith)
digit_behind (suc m) e (suc i) ds h = let same : i - m ≡ suc i - suc m = omega arith in digit_behind m e i ds (omega arith) ∙ ap (slice_get ds) same

-- where no digits are held, the value has none
pub no_digits : (st : State) (len size position : ℕ) (bytes : List ℕ) → 1 ≤ some_by st len → length (digits_held (held_by st len bytes)) ≡ 0
    → digit_in (value_at_size size (held_by st len bytes)) position ≡ None
no_digits state.Unset len size position bytes s e = refl
no_digits state.Zero len size position bytes s e = absurd (omega (arith, e))
no_digits state.One len size position bytes s e = absurd (omega (arith, e))
no_digits state.Unknown len size position bytes s e = absurd (omega (arith, e))
no_digits state.High len size position bytes s e = absurd (omega (arith, e))
no_digits state.Packed len size position bytes s e = let l = length_digits len bytes in absurd (omega (arith, l, s, e))
no_digits state.Bits len size position bytes s e = let l = some_binary len s in absurd (omega (arith, l, e))
no_digits state.Real len size position bytes s e = refl

-- where some are, it has those that they are extended to
pub shown_at : (h : Held) (size position : ℕ) → 0 < length (digits_held h) → digit_in (value_at_size size h) position ≡ slice_get (extend (digits_held h) size) position
shown_at Held.Unset size position some = absurd (omega (arith, some))
shown_at (Held.Digits ds) size position some = refl
shown_at (Held.Text text) size position some = absurd (omega (arith, some))
