-- What has another name in place of a first one, by number.
use Rattle.std.specs.Prelude.{◌≡◌, ◌≢◌, ℕ, suc, ◌+◌, ◌≤◌, ◌&&◌, true, bytes_eq, List, [], ◌∷◌, ◌++◌, drop, filter, find, get_or, length, set, slice_get, Option, Some, None, option_and_then, option_map, position}
use Rattle.std.specs.List.{AllZip}
use Rattle.vcd_model.specs.Header.{Header}
use Rattle.vcd_model.specs.Selection.{selects_path}
use Rattle.vcd_model.specs.Compare.{Asked, Named, all_named, lone, only_at, same_place}
use Rattle.vcd_model.specs.Within.{Names, at_path}
use Rattle.vcd_compare.specs.Paths.{AreApart, IsNumberOf, node_at}
use Rattle.vcd_compare.specs.Selected.{is_kept}
use Rattle.vcd_compare.specs.Variables.{AreVariables, same_key}
use Rattle.vcd_compare.specs.declared.counterparts.Places.{Places}
use Rattle.vcd_compare.specs.declared.variables.Variables.{Variables}

-- a path that the first name selects, with the second one in its place
abbrev pub replaced : Names → List ℕ → List ℕ
replaced n t = n.1 ++ drop (length n.0) t

-- the number of this path, if there is one
abbrev pub IsCounterpart : List (List ℕ) → Names → List ℕ → Option ℕ → Type 0
IsCounterpart texts n t None = (i : ℕ) → slice_get texts i ≢ Some (replaced n t)
IsCounterpart texts n t (Some m) = IsNumberOf texts m (replaced n t)

-- a variable that the first name selects, and what has the second name in its place
abbrev pub place_of : Header → Names → Named → Named × Option Named
place_of h n v = (v, at_path h (replaced n v.path) v)

-- this is the index of a variable, if there is one
abbrev pub IsFound : Header → Option Named → Option ℕ → Type 0
IsFound h found None = found ≡ None
IsFound h found (Some j) = (w : Named) × (found ≡ Some w) × (slice_get (all_named h) j ≡ Some w)

-- the counterpart of a variable, by index
abbrev pub IsPlace : Header → Names → Named → Option ℕ → Type 0
IsPlace h n v j = IsFound h (at_path h (replaced n v.path) v) j

-- the counterpart with the same range, and that without a range
abbrev pub with_range : Header → Names → Named → Option Named
with_range h n v = find (λ w. bytes_eq w.path (replaced n v.path) && same_place v w) (all_named h)

abbrev pub without_range : Header → Names → Named → Option Named
without_range h n v = lone (only_at (all_named h) v.path) v (only_at (all_named h) (replaced n v.path))

-- the index of the key that consists of a number and of a second one
abbrev pub looked_up : List (ℕ × ℕ) → ℕ → Option ℕ → Option ℕ
looked_up keys second place = option_and_then (λ first. position (same_key (first, second)) keys) place

-- the number of the path that has the last part of the path with a number, inside the place of the
-- path around it
abbrev pub place_of_node : List (ℕ × ℕ) → List (Option ℕ) → ℕ → Option ℕ
place_of_node nodes places number = let node : ℕ × ℕ = node_at nodes number in option_map suc (looked_up nodes node.1 (get_or places node.0 None))

-- ---- the places of a turn

-- the path is settled in this turn
abbrev pub IsSettled : Places → ℕ → Type 0
IsSettled p m = get_or p.turns.items m 0 ≡ p.turn

abbrev pub StaySettled : (old new : Places) → Type 0
StaySettled old new = (m : ℕ) → IsSettled old m → IsSettled new m

-- there is room for each of these paths, and no path was settled after this turn
abbrev pub IsReady : ℕ → Places → Type 0
IsReady count p = (length p.numbers.items ≡ count + 1) × (length p.turns.items ≡ count + 1) × ((m : ℕ) → get_or p.turns.items m 0 ≤ p.turn)

-- the path with this number gets this place
pub record Settles (old new : Places) (number : ℕ) (place : Option ℕ) : Type 0 where
  pub numbers : new.numbers.items ≡ set old.numbers.items number place
  pub turns : new.turns.items ≡ set old.turns.items number old.turn
  pub turn : new.turn ≡ old.turn
  pub climbed : new.climbed ≡ old.climbed

-- the first name selects the path with this number
abbrev pub IsBelow : Names → List (List ℕ) → ℕ → Type 0
IsBelow n texts m = (t : List ℕ) × IsNumberOf texts m t × (selects_path t n.0 ≡ true)

-- what is settled are counterparts of paths that the first name selects
abbrev pub AreCounterparts : Names → List (List ℕ) → Places → Type 0
AreCounterparts n texts p = (m : ℕ) → IsSettled p m → (t : List ℕ) × IsNumberOf texts m t × (selects_path t n.0 ≡ true) × IsCounterpart texts n t (get_or p.numbers.items m None)

-- the path of the first name is settled
abbrev pub IsPlacing : Names → List (List ℕ) → Places → Type 0
IsPlacing n texts p = IsReady (length texts) p × ((m : ℕ) → IsNumberOf texts m n.0 → IsSettled p m) × AreCounterparts n texts p

-- from a path to the one around it, through these paths below the name, and up to another one
abbrev pub Climbs : List (ℕ × ℕ) → Names → List (List ℕ) → ℕ → List ℕ → ℕ → Type 0
Climbs nodes n texts from [] top = from ≡ top
Climbs nodes n texts from (m ∷ ms) top = (from ≡ m) × IsBelow n texts m × Climbs nodes n texts (node_at nodes m).0 ms top

-- the variables that the first name selects, and no exception
abbrev pub selected_in : Asked → Header → Names → List Named
selected_in q h n = filter (λ v. is_kept q.exceptions v.path && selects_path v.path n.0) (all_named h)

-- the variable has this index
abbrev pub IsNth : Header → ℕ → Named → Type 0
IsNth h j v = slice_get (all_named h) j ≡ Some v

-- these are their indexes
abbrev pub AreSelected : Asked → Header → Names → List ℕ → Type 0
AreSelected q h n indexes = AllZip (IsNth h) indexes (selected_in q h n)

-- the counterparts of the paths of these variables, by number
abbrev pub ArePlaces : Asked → Header → Names → List (List ℕ) → List (Option ℕ) → Type 0
ArePlaces q h n texts places = (j m : ℕ) (v : Named) → slice_get (selected_in q h n) j ≡ Some v → IsNumberOf texts m v.path → IsCounterpart texts n v.path (get_or places m None)

-- the places of the paths of variables are those of the names
pub record FindPlaces (q : Asked) (h : Header) (n : Names) (texts : List (List ℕ)) (vs : Variables) (places : List (Option ℕ)) : Type 0 where
  pub apart : AreApart texts
  pub are : AreVariables h texts vs
  pub placed : ArePlaces q h n texts places
