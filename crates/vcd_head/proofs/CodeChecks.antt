-- The checks of a variable's code.
use Rattle.vcd_head.proofs.Cited.{◌≡◌, ℕ, Bool, true, false, cond, List, [], ◌∷◌, Option, Some, None, refl, nat_le, arith, and_parts, leb-true, AreBytes, list_all, decimal_value, is_code_byte, first_failed, Declaration, agrees, var_checks}

pub not_some : {X : Type 0} (o : Option X) → ((x : X) → o ≡ Some x → ⊥) → o ≡ None
not_some None h = refl
not_some (Some x) h = absurd (h x refl)

pub code_bad : (ds : List Declaration) (type digits tok : List ℕ) → list_all is_code_byte tok ≡ false → first_failed (var_checks ds (type ∷ digits ∷ []) tok) ≡ Some 7
code_bad ds type digits tok e = rw e refl

pub code_checked : (ds : List Declaration) (type digits tok : List ℕ) (b : Bool) → list_all is_code_byte tok ≡ true
    → agrees ds (record { type = type; size = decimal_value digits; code = tok; reference = [] }) ≡ b
    → first_failed (var_checks ds (type ∷ digits ∷ []) tok) ≡ cond b None (Some 8)
code_checked ds type digits tok b good e = rw (good, e) refl

-- the bytes of a code are bytes
pub code_bytes : (t : List ℕ) → list_all is_code_byte t ≡ true → AreBytes t
code_bytes [] e = tt
code_bytes (b ∷ t) e =
    let p = and_parts (is_code_byte b) (list_all is_code_byte t) e in
    let q = and_parts (nat_le 33 b) (nat_le b 126) p.0 in
    let most = leb-true b 126 q.1 in
    (omega (arith, most), code_bytes t p.1)
