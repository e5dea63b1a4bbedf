-- The line of a change of digits, at size 1 and at others.
use Rattle.vcd_body.proofs.Cited.{rules, arith, ◌≡◌, ◌≢◌, ℕ, ◌-◌, Bool, false, ◌≤◌, ◌<◌, get_or, List, [], ◌∷◌, ◌++◌, length, append_assoc, refl, to_ascii_lowercase, str_to_ascii_lowercase, ne_eqb, change_line, extend, short, model_form, Form, RealText, Vector}
use Rattle.vcd_body.specs.declared.item.Form.TheVariants.{Scalar}

-- one digit of a code of one bit
pub bit_line : (text id : List ℕ) (size : ℕ) (event : Bool) (form : Form) → size ≡ 1 → event ≡ false → form ≡ Scalar → 1 ≤ length text
    → length text < 2 → change_line (record { code = record { text = id; size = size; event = event }; form = model_form form; text = text })
    ≡ to_ascii_lowercase (get_or text 0 0) ∷ id ++ 10 ∷ []
bit_line [] id size event form e f g h k = absurd (search rules)
bit_line (d ∷ []) id size event form e f g h k = rw (e, f, g) refl
bit_line (d ∷ x ∷ text) id size event form e f g h k = absurd (search rules)

-- digits after `b`
pub vector_line : (text id : List ℕ) (size : ℕ) (event : Bool) (form : Form) → size ≢ 1 → event ≡ false → form ≢ RealText
    → change_line (record { code = record { text = id; size = size; event = event }; form = model_form form; text = text }) ≡ 98 ∷ short
    (extend (str_to_ascii_lowercase text) size) ++ (32 ∷ id ++ 10 ∷ [])
vector_line text id size event Scalar e f g = rw (f, ne_eqb size 1 e) (append_assoc (98 ∷ short (extend (str_to_ascii_lowercase text) size)) (32 ∷ id) (10 ∷ []))
vector_line text id size event Vector e f g = rw (f, ne_eqb size 1 e) (append_assoc (98 ∷ short (extend (str_to_ascii_lowercase text) size)) (32 ∷ id) (10 ∷ []))
vector_line text id size event RealText e f g = absurd (g refl)

-- all digits of a code of one bit
pub all_line : (text id : List ℕ) (size : ℕ) (event : Bool) (form : Form) → size ≡ 1 → event ≡ false → form ≢ RealText → 0 < length text
    → change_line (record { code = record { text = id; size = size; event = event }; form = model_form form; text = text })
    ≡ str_to_ascii_lowercase text ++ (id ++ 10 ∷ [])
all_line [] id size event form e f g some = absurd (omega (arith, some))
all_line (d ∷ ds) id size event Scalar e f g some = let none : 1 - length (str_to_ascii_lowercase (d ∷ ds)) ≡ 0 = omega arith in
    rw (e, f, none) (append_assoc (str_to_ascii_lowercase (d ∷ ds)) id (10 ∷ []))
all_line (d ∷ ds) id size event Vector e f g some = let none : 1 - length (str_to_ascii_lowercase (d ∷ ds)) ≡ 0 = omega arith in
    rw (e, f, none) (append_assoc (str_to_ascii_lowercase (d ∷ ds)) id (10 ∷ []))
all_line (d ∷ ds) id size event RealText e f g some = absurd (g refl)
