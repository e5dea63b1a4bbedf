-- The names that continue inside scopes.
use Rattle.std.specs.Prelude.{◌≡◌, ℕ, zero, suc, ◌≤◌, Bool, true, List, [], ◌∷◌, take, reverse, slice_get, Option, Some, IfSome}
use Rattle.vcd_model.specs.Declarations.{Declaration, Variable, enclosing, path_of}
use Rattle.vcd_model.specs.Header.{Header}
use Rattle.vcd_view.specs.Views.{IsViewOf}
use Rattle.vcd_view.specs.declared.view.HeadView.{HeadView}
use Rattle.vcd_head.specs.declared.inside.Inside.{Inside}
use Rattle.vcd_head.specs.declared.inside.Open.{Open}
use Rattle.vcd_model.specs.Selection.{is_selected, is_variable, selects_path}
use Rattle.vcd_head.specs.declared.names.Group.{Group}
use Rattle.vcd_head.specs.Groups.{names_of}
use Rattle.vcd_head.specs.Matched.{Matched, Matches}
use Rattle.vcd_head.specs.NameOrder.{AreSame, Notes}
use Rattle.vcd_view.specs.Over.{AnyDeclared}
use Rattle.vcd_head.specs.Paths.{names_text, scopes_text}
use Rattle.vcd_head.specs.Runs.{Follows}

-- what paths begin with inside the scope of a row, which is counted from 1
abbrev pub front : List Declaration → ℕ → List ℕ
front ds zero = []
front ds (suc p) = names_text ds (reverse (p ∷ enclosing (take p ds)))

-- the path of the variable of a row
abbrev pub row_path : Header → ℕ → Variable → List ℕ
row_path h row v = path_of (take row h.declarations) (Declaration.Var v)

-- what is held of each scope that was entered is right
pub record AreOpen (h : Header) (names : List (List ℕ)) (order : List ℕ) (flags : List Bool) (o : Open) : Type 0 where
  pub held : (k : ℕ) (s : Inside) → k ≤ o.entered → slice_get o.inside.now k ≡ Some s → Follows names order flags (front h.declarations s.scope) s.run
  pub same : AreSame names flags

-- the same for a group of names
abbrev pub IsOpen : Header → Group → List Bool → Open → Type 0
IsOpen h g flags o = AreOpen h (names_of g) g.order.now flags o

-- over the rows of this view what is held stays right
abbrev pub KeepsOpen : HeadView → Group → (old_flags new_flags : List Bool) → (old new : Open) → Type 0
KeepsOpen view g old_flags new_flags old new = (h : Header) → IsViewOf view h → IsOpen h g old_flags old → IsOpen h g new_flags new

-- what is held stays right, and the flags that were set are of names that select all that continues
-- after this front
pub record HasEntered (h : Header) (names : List (List ℕ)) (order : List ℕ) (front : List ℕ) (old_flags new_flags : List Bool) (new : Open) : Type 0 where
  pub open_scopes : AreOpen h names order new_flags new
  pub notes : Notes names front old_flags new_flags

-- the same if what was held before was right
abbrev pub Enters : Header → Group → (front : List ℕ) → (old_flags new_flags : List Bool) → (old new : Open) → Type 0
Enters h g front old_flags new_flags old new = IsOpen h g old_flags old → HasEntered h (names_of g) g.order.now front old_flags new_flags new

-- what is held is right, the names that select this path were flagged, and this is whether there
-- are some
pub record HasSelected (h : Header) (g : Group) (path : List ℕ) (old_flags new_flags : List Bool) (new : Open) (some : Bool) : Type 0 where
  pub open_scopes : IsOpen h g new_flags new
  pub matches : Matches (selects_path path) (names_of g) old_flags new_flags some

-- this holds of the declaration at a row, if what is held is right
abbrev pub AnyOpen : HeadView → ℕ → Group → List Bool → Open → (Header → Declaration → Type 0) → Type 0
AnyOpen view row g flags o Holds = AnyDeclared view row (λ h d. IsOpen h g flags o → Holds h d)

-- the names that select a declaration that has these before it were flagged
abbrev pub FlagsSelected : Group → List Declaration → Declaration → (old_flags new_flags : List Bool) → Type 0
FlagsSelected g earlier d old_flags new_flags = Matched (λ name. is_selected (name ∷ []) earlier d) (names_of g) old_flags new_flags

-- if a variable is declared at a row, the names that select it were flagged
abbrev pub SelectsAt : HeadView → ℕ → Group → (old_flags new_flags : List Bool) → (old new : Open) → Bool → Type 0
SelectsAt view row g old_flags new_flags old new some = AnyDeclared view row (λ h d. is_variable d ≡ true → IsOpen h g old_flags old
    → HasSelected h g (path_of (take row h.declarations) d) old_flags new_flags new some)

-- the names that select the variable were flagged, and nothing else that is held has changed
abbrev pub ComparesAt : HeadView → ℕ → Group → (old_flags new_flags : List Bool) → Open → Bool → Type 0
ComparesAt view row g old_flags new_flags o some = AnyDeclared view row (λ h d. is_variable d ≡ true → IsOpen h g old_flags o
    → Matches (selects_path (path_of (take row h.declarations) d)) (names_of g) old_flags new_flags some)

-- if what is inside one more scope is right, what is held is
abbrev pub StaysOpen : Inside → (old new : Open) → Type 0
StaysOpen inner old new = (h : Header) (names : List (List ℕ)) (order : List ℕ) (flags : List Bool) → AreOpen h names order flags old
    → Follows names order flags (front h.declarations inner.scope) inner.run → AreOpen h names order flags new

-- what is given continues inside the scopes around a row
abbrev pub GivesAround : HeadView → ℕ → Open → Option Inside → Type 0
GivesAround view row o r = (h : Header) (names : List (List ℕ)) (order : List ℕ) (flags : List Bool) → IsViewOf view h
    → AreOpen h names order flags o → IfSome r (λ s. Follows names order flags (scopes_text (take row h.declarations)) s.run)
