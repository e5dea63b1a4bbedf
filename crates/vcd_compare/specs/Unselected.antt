-- Which names select nothing.
use Rattle.std.specs.Prelude.{◌≡◌, ℕ, suc, not, Bool, false, List, find, get_or, length, slice_get, Option, Some, option_map}
use Rattle.std.specs.List.{list_any}
use Rattle.vcd_model.specs.Compare.{Asked}
use Rattle.vcd_model.specs.Header.{Header}
use Rattle.vcd_model.specs.Within.{Names, selects_some, unselected}
use Rattle.vcd_compare.specs.Paths.{IsNumberOf}
use Rattle.vcd_compare.specs.Selected.{selects_number}
use Rattle.vcd_compare.specs.declared.unselected.PairsFault.{PairsFault}

-- the name is there, and it is the first of all that select nothing
abbrev pub IsUnselected : Asked → Header → List Names → Option (List ℕ) → Type 0
IsUnselected q h ns found = (name : List ℕ) × (found ≡ Some name) × (unselected q h ns ≡ Some name)

-- what a fault says of the names; one of memory says nothing
abbrev pub IsFaultOf : Asked → Header → List Names → PairsFault → Type 0
IsFaultOf q h ns (PairsFault.One i) = IsUnselected q h ns (option_map (λ n. n.0) (slice_get ns i))
IsFaultOf q h ns (PairsFault.Other i) = IsUnselected q h ns (option_map (λ n. n.1) (slice_get ns i))
IsFaultOf q h ns (PairsFault.Exception i) = IsUnselected q h ns (slice_get q.exceptions i)
IsFaultOf q h ns PairsFault.OutOfMemory = Unit {0}

-- the first of some names that selects nothing
abbrev pub first_unheld : Header → List (List ℕ) → Option (List ℕ)
first_unheld h names = find (λ name. not (selects_some h name)) names

-- of the number of each path it is marked whether some variable has it or is inside it
abbrev pub AreHeld : Header → List (List ℕ) → List Bool → Type 0
AreHeld h texts held = (m : ℕ) (t : List ℕ) → IsNumberOf texts m t → get_or held m false ≡ selects_some h t

-- the paths with these numbers, and those around them, are marked
pub record AreMarkedUp (texts : List (List ℕ)) (numbers : List ℕ) (held : List Bool) : Type 0 where
  pub len : length held ≡ suc (length texts)
  pub each : (m : ℕ) (t : List ℕ) → IsNumberOf texts m t → get_or held m false ≡ list_any (selects_number texts t) numbers
