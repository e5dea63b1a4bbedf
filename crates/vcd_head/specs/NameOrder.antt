-- Names in the order of their bytes, and flags of those that have matched.
use Rattle.std.specs.Prelude.{◌≡◌, ℕ, suc, ◌<◌, ◌≤◌, ◌⊎◌, Bool, true, false, get_or, List, [], ◌∷◌, ◌++◌, length, drop, slice_get, Some}
use Rattle.std.specs.Cmp.Lexicographic.{slice_cmp}
use Rattle.std.specs.Ordering.{nat_cmp, is_lt}
use Rattle.std.specs.declared.cmp.Ordering.{Ordering}
pub use Rattle.std.specs.List.{All, Contains}
pub use Rattle.std.specs.List.Sorted.{IsSortedBy}
pub use Rattle.vcd_model.specs.Selection.{selects_path}
pub use Rattle.vcd_head.specs.Matched.{Matches}

-- the order of the names at two indexes
abbrev pub order_in : List (List ℕ) → ℕ → ℕ → Ordering
order_in names a b = slice_cmp nat_cmp (get_or names a []) (get_or names b [])

-- the first name comes before the second
abbrev pub comes_before : List (List ℕ) → ℕ → ℕ → Bool
comes_before names a b = is_lt (order_in names a b)

-- the name whose index this is in the order
abbrev pub text_at : List (List ℕ) → List ℕ → ℕ → List ℕ
text_at names order i = get_or names (get_or order i 0) []

-- the order has the index of each name, and no name comes after one that it comes before
pub record IsOrder (names : List (List ℕ)) (order : List ℕ) : Type 0 where
  pub each : (p : ℕ) → p < length names → (i : ℕ) × (i < length names) × (get_or order i 0 ≡ p)
  pub positions : (i : ℕ) → i < length names → get_or order i 0 < length names
  pub within : (i : ℕ) → get_or order i 0 < 16384
  pub rising : (i j : ℕ) → i ≤ j → j < length names → comes_before names (get_or order j 0) (get_or order i 0) ≡ false

-- 1 plus the first byte, or 0 if there is none
abbrev pub first_of : List ℕ → ℕ
first_of [] = 0
first_of (byte ∷ bytes) = suc byte

-- what comes after this many bytes of the name at an index of the order
abbrev pub next_bytes : List (List ℕ) → List ℕ → ℕ → ℕ → List ℕ
next_bytes names order front_len i = drop front_len (text_at names order i)

-- 1 plus the first byte of what comes after this many bytes, or 0 if there is none
abbrev pub next_in : List (List ℕ) → List ℕ → ℕ → ℕ → ℕ
next_in names order front_len i = first_of (next_bytes names order front_len i)

-- both texts begin with the same bytes, this many
abbrev pub AreShared : List ℕ → List ℕ → ℕ → Type 0
AreShared a b n = (n ≤ length a) × ((i : ℕ) → i < n → get_or a i 0 ≡ get_or b i 0)

-- between two indexes of the order that number does not decrease
abbrev pub Rises : List (List ℕ) → List ℕ → ℕ → (first end : ℕ) → Type 0
Rises names order front_len first end = (i j : ℕ) → first ≤ i → i ≤ j → j < end → next_in names order front_len i ≤ next_in names order front_len j

-- between two indexes of the order, that number is less before a third index, and not less from
-- there on
pub record IsSplit (names : List (List ℕ)) (order : List ℕ) (front_len first end least position : ℕ) : Type 0 where
  pub below : (i : ℕ) → first ≤ i → i < position → next_in names order front_len i < least
  pub above : (i : ℕ) → position ≤ i → i < end → least ≤ next_in names order front_len i

-- the name selects all that continues after this front of a path
abbrev pub SelectsAll : List ℕ → List ℕ → Type 0
SelectsAll front name = (text : List ℕ) → selects_path (front ++ text) name ≡ true

-- the flags of two names that are the same are the same
abbrev pub AreSame : List (List ℕ) → List Bool → Type 0
AreSame names flags = (p q : ℕ) (name : List ℕ) → slice_get names p ≡ Some name → slice_get names q ≡ Some name → get_or flags p false ≡ get_or flags q false

-- the flags that were set are of names that select all that continues after this front
abbrev pub Notes : List (List ℕ) → List ℕ → (old new : List Bool) → Type 0
Notes names front old new = (p : ℕ) (name : List ℕ) → slice_get names p ≡ Some name → (get_or new p false ≡ get_or old p false) ⊎ ((get_or new p false ≡ true) × SelectsAll front name)
