-- The scopes around a declaration, given one after the other from the outermost inwards.
use Rattle.std.specs.Prelude.{◌≡◌, ℕ, ◌+◌, ◌%◌, ◌<◌, ◌≤◌, min, List, [], ◌∷◌, length, take, reverse, Option, Some, None, slice_get, slice_index}
use Rattle.vcd_model.specs.Declarations.{enclosing}
use Rattle.vcd_model.specs.Header.{Header}
use Rattle.vcd_head.specs.declared.enclosing.Enclosing.{Enclosing}

-- the last of these indexes, this many, are held, each at its number modulo 128
pub record IsHeld (positions rows : List ℕ) (held : ℕ) : Type 0 where
  pub room : length rows ≡ 128
  pub at : (k : ℕ) → k < length positions → length positions ≤ k + held → slice_get positions k ≡ Some (slice_index rows (k % 128))

-- this many of the innermost scopes around the declaration of a row, or all of them, were passed,
-- and the last ones are held
pub record Walks (h : Header) (row most : ℕ) (rows : List ℕ) (passed : ℕ) : Type 0 where
  pub count : passed ≡ min most (length (enclosing (take row h.declarations)))
  pub holds : IsHeld (take passed (enclosing (take row h.declarations))) rows 128

-- of the scopes around the declaration of a row these are left, outermost first
pub record LeavesScopes (h : Header) (row : ℕ) (rest : List ℕ) (e : Enclosing) : Type 0 where
  pub from : e.row ≡ row
  pub within : row < length h.declarations
  pub rest_are : rest ≡ reverse (take e.left (enclosing (take row h.declarations)))
  pub holds : IsHeld (take e.left (enclosing (take row h.declarations))) e.rows e.held
  pub known : 0 < e.held → e.left ≤ length (enclosing (take row h.declarations))
  pub few : e.held ≤ e.left

-- the first of them is given; `None` if none is left
abbrev pub GivesNext : Header → ℕ → List ℕ → Enclosing → Option ℕ → Type 0
GivesNext h row rest e None = rest ≡ []
GivesNext h row rest e (Some scope) = (others : List ℕ) × (rest ≡ scope ∷ others) × (scope < row) × LeavesScopes h row others e

-- the rows of the scopes around a row, outermost first
abbrev pub scopes_around : Header → ℕ → List ℕ
scopes_around h row = enclosing (take row h.declarations)
