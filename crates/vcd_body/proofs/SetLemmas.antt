-- A value that was set is that of the change in the definitions.
use Rattle.vcd_body.proofs.Cited.{◌≡◌, ℕ, ◌≤◌, ◌==◌, Bool, true, false, cond, List, [], ◌∷◌, length, Option, Some, refl, ap, ◌∙◌, arith, option_map, unwrap_or, and_from, eq-eqb, div_ceil_times, is_value_digit, Value, extend, value_with, Code, IsText, model_form, Held, Kept, bytes_for, fits, held_as, room_for, value_at_size, with_text, ChangesAt, kept_in, share_of, Form, Share, Slot}
use Rattle.vcd_body.specs.declared.item.Form.TheVariants as form
use Rattle.vcd_body.proofs.PackedLemmas.{lower_digits}
use Rattle.vcd_body.proofs.StoreLemmas.{text_fits}

vector_within : (n size room : ℕ) → n ≤ size → share_of size ≤ room → room_for form.Vector n ≤ room
vector_within n size room few most = by_one (n == 1)
  where
    by_one : (b : Bool) → cond b 0 (bytes_for n) ≤ room
    by_one true = omega arith
    by_one false = let a = div_ceil_times n 4 (omega arith) in let b = div_ceil_times size 4 (omega arith) in omega arith

-- a text that its code may have fits the code's share
good_fits : (f : Form) (c : Code) (text : List ℕ) (room : ℕ) → IsText f c text → c.event ≡ false → share_of c.size ≤ room → fits f (length text) room ≡ true
good_fits form.Scalar c text room (d, digit, is) event most = rw is (text_fits form.Scalar 1 room (omega arith) (omega arith))
good_fits form.Vector c text room (some, digits, few) event most = text_fits form.Vector (length text) room some (vector_within (length text) c.size room (few event) most)
good_fits form.RealText c text room (some, few) event most = text_fits form.RealText (length text) room some (omega arith)

-- its digits are held in lower case
good_held : (f : Form) (c : Code) (text : List ℕ) → IsText f c text → value_at_size c.size (held_as f text) ≡ Some (value_with c.size (model_form f) text)
good_held form.Scalar c text (d, digit, is) = rw is (ap (λ (l : List ℕ). Some (Value.Bits (extend l c.size))) (lower_digits (d ∷ []) (and_from (is_value_digit d) true digit refl)))
good_held form.Vector c text (some, digits, few) = ap (λ (l : List ℕ). Some (Value.Bits (extend l c.size))) (lower_digits text digits)
good_held form.RealText c text good = refl

-- so what is set is its value
pub good_value : (f : Form) (c : Code) (text : List ℕ) (k : Kept) → IsText f c text → c.event ≡ false → share_of c.size ≤ k.room
    → value_at_size c.size (with_text f text k).held ≡ Some (value_with c.size (model_form f) text)
good_value f c text k good event most = ap (λ (b : Bool). value_at_size c.size (cond b (held_as f text) k.held)) (good_fits f c text k.room good event most) ∙ good_held f c text good

pub set_value : (values values' : List ℕ) (slots slots' : List Slot) (shares shares' : List Share) (code : ℕ) (f : Form) (text : List ℕ) (c : Code)
    (k : Kept) → ChangesAt code (with_text f text) values slots shares values' slots' shares' → IsText f c text → c.event ≡ false
    → kept_in values slots shares code ≡ Some k → share_of c.size ≤ k.room
    → value_at_size c.size (unwrap_or (option_map (λ (x : Kept). x.held) (kept_in values' slots' shares' code)) Held.Unset) ≡ Some (value_with c.size (model_form f) text)
set_value values values' slots slots' shares shares' code f text c k changes good event is most =
    let now : kept_in values' slots' shares' code ≡ Some (with_text f text k) = changes code
    ∙ ap (λ (b : Bool). cond b (option_map (with_text f text) (kept_in values slots shares code)) (kept_in values slots shares code))
    (eq-eqb code code refl) ∙ ap (option_map (with_text f text)) is in
    let held = ap (λ (o : Option Kept). unwrap_or (option_map (λ (x : Kept). x.held) o) Held.Unset) now in
    ap (value_at_size c.size) (held ∙ ap (λ (b : Bool). cond b (held_as f text) k.held) (good_fits f c text k.room good event most)) ∙ good_held f c text good
