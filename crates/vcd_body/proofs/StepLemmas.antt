-- A value of one digit, and another digit that is set instead.
use Rattle.vcd_body.proofs.Cited.{◌≡◌, ◌≢◌, ◌⊎◌, inl, inr, ℕ, ◌-◌, ◌≤◌, slice_get, ◌<◌, ◌==◌, true, not, List, [], ◌∷◌, length, get_or, Option, Some, None, refl, sym, ap, ◌∙◌, arith, to_ascii_lowercase, last_or, bytes_eq, str_to_ascii_lowercase, length-map, Decides-eqb, Value, extend, value_with, model_form, Held, IsStep, differs, goes_from, last_digit_in, value_at_size, Form, Step, option_map, same_Some, slice_get-map}
use Rattle.vcd_body.specs.declared.item.Form.TheVariants as form
use Rattle.vcd_body.proofs.CompareLemmas.{differ_for, differ_in_digit, last_at, last_extended, one_lower}

-- the test of two digits tells whether the values differ
pub digit_differs : (f : Form) (text : List ℕ) (d size : ℕ) (h : Held) → f ≢ form.RealText → 1 ≤ length text → length text < 2 → h ≡ Held.Digits (d ∷ [])
    → not (d == to_ascii_lowercase (get_or text 0 0)) ≡ differs (value_at_size size h) (value_with size (model_form f) text)
digit_differs f text d size h digits some few is = by_form f digits
  where
    lowered : ℕ
    lowered = to_ascii_lowercase (get_or text 0 0)

    bits : not (d == lowered) ≡ differs (value_at_size size h) (Value.Bits (extend (str_to_ascii_lowercase text) size))
    bits =
        differ_in_digit d lowered size (d == lowered) (Decides-eqb d lowered)
        ∙ ap (λ (l : List ℕ). not (bytes_eq (extend (d ∷ []) size) (extend l size))) (sym (one_lower text lowered some few refl))
        ∙ sym (ap (λ (x : Held). differs (value_at_size size x) (Value.Bits (extend (str_to_ascii_lowercase text) size))) is)

    by_form : (f : Form) → f ≢ form.RealText → not (d == lowered) ≡ differs (value_at_size size h) (value_with size (model_form f) text)
    by_form form.Scalar digits = bits
    by_form form.Vector digits = bits
    by_form form.RealText digits = absurd (digits refl)

-- the last digit of one
pub last_of_one : (h : Held) (d size : ℕ) → h ≡ Held.Digits (d ∷ []) → Some d ≡ last_digit_in (value_at_size size h)
last_of_one h d size is = sym (ap (λ (x : Held). last_digit_in (value_at_size size x)) is ∙ last_extended (d ∷ []) size (omega arith))

-- the last digit of a text
pub last_of_text : (text : List ℕ) (size : ℕ) (o : Option ℕ) → o ≡ last_or None (str_to_ascii_lowercase text) → 0 < length text
    → o ≡ last_or None (extend (str_to_ascii_lowercase text) size)
last_of_text text size o is some =
    let l = length-map text to_ascii_lowercase in
    is ∙ sym (last_extended (str_to_ascii_lowercase text) size (omega (arith, l, some)))

-- a step from one digit to the digit of a text
pub digit_step : (s : Step) (f : Form) (text : List ℕ) (d size : ℕ) (o : Option ℕ) (h : Held) → f ≢ form.RealText → 1 ≤ length text → length text < 2
    → o ≡ Some d → h ≡ Held.Digits (d ∷ [])
    → s.differs ≡ not (d == to_ascii_lowercase (get_or text 0 0)) → s.rises ≡ goes_from 48 49 o (Some (to_ascii_lowercase (get_or text 0 0)))
    → s.falls ≡ goes_from 49 48 o (Some (to_ascii_lowercase (get_or text 0 0)))
    → IsStep s (value_at_size size h) (value_with size (model_form f) text)
digit_step s f text d size o h digits some few one is differ rise fall =
    (differ ∙ digit_differs f text d size h digits some few is, rise ∙ goes 48 49, fall ∙ goes 49 48)
  where
    lowered : ℕ
    lowered = to_ascii_lowercase (get_or text 0 0)

    by_form : (f : Form) → f ≢ form.RealText → Some lowered ≡ last_digit_in (Some (value_with size (model_form f) text))
    by_form form.Scalar digits = last_of_text text size (Some lowered) (sym (ap (last_or None) (one_lower text lowered some few refl))) (omega (arith, some))
    by_form form.Vector digits = last_of_text text size (Some lowered) (sym (ap (last_or None) (one_lower text lowered some few refl))) (omega (arith, some))
    by_form form.RealText digits = absurd (digits refl)

    goes : (a b : ℕ) → goes_from a b o (Some lowered) ≡ goes_from a b (last_digit_in (value_at_size size h)) (last_digit_in (Some (value_with size (model_form f) text)))
    goes a b = ap (λ (x : Option ℕ). goes_from a b x (Some lowered)) (one ∙ last_of_one h d size is) ∙ ap (goes_from a b (last_digit_in (value_at_size size h))) (by_form f digits)

-- the last digit of a text is that of its value
pub last_is : (f : Form) (text : List ℕ) (d size : ℕ) → (f ≡ form.Scalar) ⊎ (f ≡ form.Vector) → 0 < length text
    → Some d ≡ slice_get text (length text - 1) → Some (to_ascii_lowercase d) ≡ last_digit_in (Some (value_with size (model_form f) text))
last_is f text d size bits some there = by_form bits
  where
    last : Some (to_ascii_lowercase d) ≡ last_or None (extend (str_to_ascii_lowercase text) size)
    last =
        let l = length-map text to_ascii_lowercase in
        last_of_text text size (Some (to_ascii_lowercase d)) (ap (option_map to_ascii_lowercase) there
        ∙ sym (slice_get-map to_ascii_lowercase text (length text - 1))
        ∙ sym (last_at (str_to_ascii_lowercase text) None (length text - 1) (omega (arith, l, some)))) some

    by_form : (f ≡ form.Scalar) ⊎ (f ≡ form.Vector) → Some (to_ascii_lowercase d) ≡ last_digit_in (Some (value_with size (model_form f) text))
    by_form (inl e) = last ∙ sym (ap (λ (g : Form). last_digit_in (Some (value_with size (model_form g) text))) e)
    by_form (inr e) = last ∙ sym (ap (λ (g : Form). last_digit_in (Some (value_with size (model_form g) text))) e)

-- values whose last digits differ are two
pub ends_two : (ds text : List ℕ) (own d size : ℕ) → Some own ≡ last_digit_in (Some (Value.Bits (extend ds size))) → 0 < length text
    → Some d ≡ slice_get text (length text - 1) → own ≢ to_ascii_lowercase d
    → true ≡ not (bytes_eq (extend ds size) (extend (str_to_ascii_lowercase text) size))
ends_two ds text own d size held some there other =
    differ_for ds (str_to_ascii_lowercase text) size (λ same. other (same_Some _ _ (held ∙ ap (last_or None) same ∙ sym (last_is form.Vector text d size (inr refl) some there))))
