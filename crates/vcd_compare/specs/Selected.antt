-- What names select, by number: which of them is nearest to a path, and what is inside of each.
use Rattle.std.specs.Prelude.{◌≡◌, ℕ, zero, suc, ◌<◌, ◌≤◌, ◌==◌, ◌&&◌, not, nat_lt, bytes_eq, Bool, true, false, cond, List, [], ◌∷◌, ◌++◌, flat_map, get_or, length, map, slice_get, Some}
use Rattle.std.specs.List.{list_any}
use Rattle.std.specs.Global.{Vec}
use Rattle.vcd_model.specs.Selection.{selects_path}
use Rattle.vcd_model.specs.Within.{Names}
use Rattle.vcd_run.specs.Listed.{chosen}
use Rattle.vcd_compare.specs.Paths.{IsNumberOf, node_at}

-- of each number up to `count` whether it is among these
abbrev pub AreMarks : List ℕ → ℕ → List Bool → Type 0
AreMarks numbers count marks = (m : ℕ) → m ≤ count → get_or marks m false ≡ list_any (λ x. x == m) numbers

-- the text is one of these
abbrev pub is_one_of : List (List ℕ) → List ℕ → Bool
is_one_of names t = list_any (λ e. bytes_eq t e) names

-- m is the number of the longest of the names that selects the path, or 0 if none does
abbrev pub IsNearest : (texts names : List (List ℕ)) → List ℕ → ℕ → Type 0
IsNearest texts names t zero = (w : List ℕ) → is_one_of names w ≡ true → selects_path t w ≡ false
IsNearest texts names t (suc j) = (u : List ℕ) × (slice_get texts j ≡ Some u) × (is_one_of names u ≡ true) × (selects_path t u ≡ true)
    × ((w : List ℕ) → is_one_of names w ≡ true → selects_path t w ≡ selects_path u w)

-- the numbers of the names that are nearest to the first `count` paths, by number
pub record AreNearest (texts names : List (List ℕ)) (count : ℕ) (nearest : List ℕ) : Type 0 where
  pub len : length nearest ≡ suc count
  pub none : get_or nearest 0 0 ≡ 0
  pub within : (i : ℕ) → get_or nearest i 0 ≤ i
  pub each : (i : ℕ) (t : List ℕ) → i < count → slice_get texts i ≡ Some t → IsNearest texts names t (get_or nearest (suc i) 0)

-- no exception selects the path
abbrev pub is_kept : List (List ℕ) → List ℕ → Bool
is_kept es t = not (list_any (selects_path t) es)

-- the name selects the path with this number, and no exception does; none selects number 0
abbrev pub is_inside : (texts es : List (List ℕ)) → List ℕ → ℕ → Bool
is_inside texts es w zero = false
is_inside texts es w (suc i) = is_kept es (get_or texts i []) && selects_path (get_or texts i []) w

-- the name selects the path with this number
abbrev pub selects_number : List (List ℕ) → List ℕ → ℕ → Bool
selects_number texts w zero = false
selects_number texts w (suc i) = selects_path (get_or texts i []) w

abbrev pub lists_in : List (Vec ℕ) → List (List ℕ)
lists_in ls = map (λ l. l.items) ls

-- the list of each name has those indexes below `count` whose items are inside its path
abbrev pub AreInside : (texts names es : List (List ℕ)) → List ℕ → ℕ → List (Vec ℕ) → Type 0
AreInside texts names es items count lists = (m : ℕ) (w : List ℕ) → IsNumberOf texts m w → is_one_of names w ≡ true
    → get_or (lists_in lists) m [] ≡ chosen (λ i. is_inside texts es w (get_or items i 0)) count

-- the names have numbers below a bound
abbrev pub AreNamedBelow : (texts names : List (List ℕ)) → ℕ → Type 0
AreNamedBelow texts names bound = (m : ℕ) (w : List ℕ) → IsNumberOf texts m w → is_one_of names w ≡ true → m < bound

-- the items are inside of the first `count` paths, by number
abbrev pub AreWithin : List ℕ → ℕ → Type 0
AreWithin items count = (i x : ℕ) → slice_get items i ≡ Some x → x ≤ count

-- the list of each name has one index more, if the path with this number is inside
pub record IsPutInside (texts names es : List (List ℕ)) (around index : ℕ) (old new : List (Vec ℕ)) : Type 0 where
  pub len : length new ≡ length old
  pub each : (m : ℕ) (w : List ℕ) → IsNumberOf texts m w → is_one_of names w ≡ true
      → get_or (lists_in new) m [] ≡ get_or (lists_in old) m [] ++ cond (is_inside texts es w around) (index ∷ []) []

-- what is nearest to the path around the one with a number, if it is smaller
abbrev pub first_above : List (ℕ × ℕ) → List ℕ → ℕ → ℕ
first_above nodes nearest number = let above : ℕ = get_or nearest (node_at nodes number).0 0 in cond (nat_lt above number) above 0

-- both of two names
abbrev pub both_names : List Names → List (List ℕ)
both_names ns = flat_map (λ n. n.0 ∷ n.1 ∷ []) ns
