-- Which names of a group have matched.
use Rattle.std.specs.Prelude.{◌≡◌, ℕ, ◌<◌, Bool, true, false, not, ◌||◌, List, [], ◌∷◌, get_or, slice_get, Option, Some, MatchOption}
use Rattle.std.specs.List.{list_any}
use Rattle.vcd_model.specs.Bytes.{is_empty}
use Rattle.vcd_model.specs.Declarations.{Declaration}
use Rattle.vcd_model.specs.Selection.{selected}

-- the flags of names that pass the test are set, the other flags are as they were
abbrev pub Matched : (List ℕ → Bool) → List (List ℕ) → List Bool → List Bool → Type 0
Matched test names old new = (i : ℕ) (name : List ℕ) → slice_get names i ≡ Some name → get_or new i false ≡ (get_or old i false || test name)

-- the flags of names that pass the test are set, and this is whether some name passes it
pub record Matches (test : List ℕ → Bool) (names : List (List ℕ)) (old new : List Bool) (some : Bool) : Type 0 where
  pub flags : Matched test names old new
  pub any : some ≡ list_any test names

-- the flags that are set are of the names that select a variable of these declarations
abbrev pub HaveMatched : List (List ℕ) → List Declaration → List Bool → Type 0
HaveMatched names ds flags = (i : ℕ) (name : List ℕ) → slice_get names i ≡ Some name → get_or flags i false ≡ not (is_empty (selected (name ∷ []) ds))

-- the index of the first flag that is not set, of this many
abbrev pub IsFirstFalse : List Bool → ℕ → Option ℕ → Type 0
IsFirstFalse flags count o = MatchOption o ((i : ℕ) → i < count → get_or flags i false ≡ true) (λ p. (p < count) × (get_or flags p false ≡ false)
    × ((i : ℕ) → i < p → get_or flags i false ≡ true))
