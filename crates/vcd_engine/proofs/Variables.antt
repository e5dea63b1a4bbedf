-- The row of a variable that is read at an index.
use Rattle.vcd_engine.proofs.Cited.{◌≡◌, ◌≢◌, ℕ, Bool, true, false, refl, ◌<◌, length, get_or, slice_get, Some, sym, ◌∙◌, Declaration, Variable, Header, Row, Kind, the_type, sameb, HeadShown, Views, read_row, variable_at}
use Rattle.vcd_view.specs.declared.view.Kind.TheVariants as kind

-- there is a row at this index, and it is a variable's
abbrev pub IsVariable : HeadShown → ℕ → Type 0
IsVariable s i = (r : Row) × (slice_get s.rows i ≡ Some r) × (r.kind ≡ kind.Var)

-- ---- the kind of a row that is read

-- a kind that was compared with a variable's is not one
other_kind : (k : Kind) → sameb the_type k kind.Var ≡ false → k ≢ kind.Var
other_kind kind.Scope e q = cc
other_kind kind.Up e q = cc
other_kind kind.Var e q = cc

pub read_other : (s : HeadShown) (i : ℕ) (x : Row) (b : Bool) → b ≡ sameb the_type (get_or s.rows i x).kind kind.Var → b ≡ false → i < length s.rows
    → (r : Row) × (slice_get s.rows i ≡ Some r) × (r.kind ≢ kind.Var)
read_other s i x b e differs l = (get_or s.rows i x, read_row s i x l, other_kind (get_or s.rows i x).kind (sym e ∙ differs))

same_kind : (k : Kind) → sameb the_type k kind.Var ≡ true → k ≡ kind.Var
same_kind kind.Scope e = cc
same_kind kind.Up e = cc
same_kind kind.Var e = refl

pub read_variable : (s : HeadShown) (i : ℕ) (x : Row) (b : Bool) → b ≡ sameb the_type (get_or s.rows i x).kind kind.Var → b ≡ true → i < length s.rows → IsVariable s i
read_variable s i x b e is l = (get_or s.rows i x, read_row s i x l, same_kind (get_or s.rows i x).kind (sym e ∙ is))

-- a variable is declared there
pub is_declared : (s : HeadShown) (h : Header) (i : ℕ) → Views s h → IsVariable s i → (v : Variable) × (slice_get h.declarations i ≡ Some (Declaration.Var v))
is_declared s h i views is = let m = variable_at s h i is.0 views is.1 is.2 in (m.0, m.1.declared)
