-- The variables of a header, by row and by the number of their paths.
use Rattle.std.specs.Prelude.{◌≡◌, ℕ, suc, ◌<◌, ◌==◌, ◌&&◌, nat_eq, Bool, bytes_eq, cond, count_by, filter, List, [], ◌∷◌, ◌++◌, length, get_or, set, slice_get, take, Option, Some, None, if◌then◌else◌}
use Rattle.std.specs.List.{AllZip, list_any}
pub use Rattle.vcd_model.specs.Declarations.{Declaration, Variable, parent, path_of}
pub use Rattle.vcd_model.specs.Header.{Header}
use Rattle.vcd_model.specs.Backward.{each}
use Rattle.vcd_model.specs.Selection.{selected}
use Rattle.vcd_model.specs.Compare.{Named, all_named, named_after, range_of}
pub use Rattle.vcd_view.specs.Views.{IsViewOf}
use Rattle.vcd_compare.specs.Paths.{AreApart, HasTexts, IsNumberOf}
use Rattle.vcd_compare.specs.Slices.{EntersSlice, HasSlices}
use Rattle.vcd_compare.specs.declared.paths.Paths.{Paths}
use Rattle.vcd_compare.specs.declared.variables.Users.{Users}
use Rattle.vcd_compare.specs.declared.variables.Variables.{Variables}

-- the variable is declared at this row, and has this path
pub record IsAt (h : Header) (row : ℕ) (path : List ℕ) (v : Variable) : Type 0 where
  pub declared : slice_get h.declarations row ≡ Some (Declaration.Var v)
  pub path_is : path_of (take row h.declarations) (Declaration.Var v) ≡ path

-- the row is that of the variable
abbrev pub IsNamedAt : Header → ℕ → Named → Type 0
IsNamedAt h row v = IsAt h row v.path v.variable

-- the declarations in the first `rows` rows have the paths with these numbers
pub record AreNumbered (h : Header) (texts : List (List ℕ)) (numbers : List ℕ) (rows : ℕ) : Type 0 where
  pub len : length numbers ≡ rows
  pub each : (i : ℕ) (d : Declaration) → i < rows → slice_get h.declarations i ≡ Some d
      → (n : ℕ) × (slice_get numbers i ≡ Some n) × IsNumberOf texts n (path_of (take i h.declarations) d)

-- n is the number of the path of the scope at this row, or 0 if there is none
abbrev pub IsScopeNumber : Header → List (List ℕ) → Option ℕ → ℕ → Type 0
IsScopeNumber h texts None n = n ≡ 0
IsScopeNumber h texts (Some p) n = (e : Declaration) × (slice_get h.declarations p ≡ Some e) × IsNumberOf texts n (path_of (take p h.declarations) e)

-- it is that of the scope around a row
abbrev pub IsAround : Header → List (List ℕ) → ℕ → ℕ → Type 0
IsAround h texts row n = IsScopeNumber h texts (parent (take row h.declarations)) n

-- all rows have the paths with these numbers, of which some may be new
abbrev pub NumbersRows : Header → List (List ℕ) → Paths → List ℕ → Type 0
NumbersRows h texts new numbers = (more : List (List ℕ)) × HasTexts new (texts ++ more) × AreNumbered h (texts ++ more) numbers (length h.declarations)

-- the number of the variable's path
abbrev pub IsPathOf : List (List ℕ) → ℕ → Named → Type 0
IsPathOf texts n v = IsNumberOf texts n v.path

-- the path and the range of a variable
abbrev pub slice_of : Named → List ℕ × List ℕ
slice_of v = (v.path, range_of v.variable)

-- the number of the variable's path with its range, and how many before it have both
pub record IsKeyOf (slices : List (List ℕ × List ℕ)) (key : ℕ × ℕ) (v : Named) : Type 0 where
  pub slice : slice_get slices key.0 ≡ Some (slice_of v)
  pub nth : key.1 ≡ v.nth

-- the only one
abbrev pub index_in : Users → Option ℕ
index_in Users.None = None
index_in (Users.One i) = Some i
index_in Users.Several = None

-- those of some variables that have the path
abbrev pub those_at : List Named → List ℕ → List Named
those_at vs path = filter (λ w. bytes_eq w.path path) vs

-- none, one, or several of some variables have the path
abbrev pub AreUsers : List Named → List ℕ → Users → Type 0
AreUsers vs path Users.None = those_at vs path ≡ []
AreUsers vs path (Users.One i) = (w : Named) × (those_at vs path ≡ w ∷ []) × (slice_get vs i ≡ Some w)
AreUsers vs path Users.Several = (v w : Named) × (more : List Named) × (those_at vs path ≡ v ∷ w ∷ more)

-- so it is for each path
abbrev pub HasUsers : List (List ℕ) → List Named → List Users → Type 0
HasUsers texts vs users = (n : ℕ) (t : List ℕ) → IsNumberOf texts n t → AreUsers vs t (get_or users n Users.None)

-- one user more
abbrev pub used_by : ℕ → Users → Users
used_by i Users.None = Users.One i
used_by i (Users.One j) = Users.Several
used_by i Users.Several = Users.Several

-- these are the variables of the header, in order
pub record AreVariables (h : Header) (texts : List (List ℕ)) (vs : Variables) : Type 0 where
  pub rows : AllZip (IsNamedAt h) vs.rows.items (all_named h)
  pub paths : AllZip (IsPathOf texts) vs.paths.items (all_named h)
  pub list : List (List ℕ × List ℕ)
  pub slices : HasSlices texts vs.slices list
  pub keys : AllZip (IsKeyOf list) vs.keys.keys (all_named h)
  pub users : HasUsers texts (all_named h) vs.users.items

-- the variables of some first declarations
abbrev pub named_in : List Declaration → List Named
named_in ds = each named_after (selected [] ds)

-- of each number it is counted how many keys have it, and no key has as many before it
pub record AreCounted (counts : List ℕ) (keys : List (ℕ × ℕ)) : Type 0 where
  pub counted : (n : ℕ) → get_or counts n 0 ≡ count_by (λ (k : ℕ × ℕ). k.0 == n) keys
  pub below : (i : ℕ) (k : ℕ × ℕ) → slice_get keys i ≡ Some k → k.1 < count_by (λ (j : ℕ × ℕ). j.0 == k.0) keys

-- the variables before this row, and a count for each path with a range
pub record HasSome (h : Header) (texts : List (List ℕ)) (row : ℕ) (vs : Variables) (counts : List ℕ) : Type 0 where
  pub rows : AllZip (IsNamedAt h) vs.rows.items (named_in (take row h.declarations))
  pub paths : AllZip (IsPathOf texts) vs.paths.items (named_in (take row h.declarations))
  pub list : List (List ℕ × List ℕ)
  pub slices : HasSlices texts vs.slices list
  pub keys : AllZip (IsKeyOf list) vs.keys.keys (named_in (take row h.declarations))
  pub users : HasUsers texts (named_in (take row h.declarations)) vs.users.items
  pub counted : AreCounted counts vs.keys.keys
  pub room : length vs.users.items ≡ suc (length texts)

-- the test of two pairs of numbers
abbrev pub same_key : ℕ × ℕ → ℕ × ℕ → Bool
same_key a b = nat_eq a.0 b.0 && nat_eq a.1 b.1

-- one variable more has the path and the range, and the key goes after the others unless it is there
pub record AddsVariable (old new : Variables) (old_counts new_counts : List ℕ) (row path : ℕ) (range : List ℕ) : Type 0 where
  pub slice : ℕ
  pub slices : (texts : List (List ℕ)) (list : List (List ℕ × List ℕ)) (t : List ℕ) → AreApart texts → HasSlices texts old.slices list
      → IsNumberOf texts path t → EntersSlice texts list new.slices (t, range) slice
  pub rows : new.rows.items ≡ old.rows.items ++ row ∷ []
  pub paths : new.paths.items ≡ old.paths.items ++ path ∷ []
  pub keys : let key : ℕ × ℕ = (slice, get_or old_counts slice 0) in new.keys.keys ≡ (if list_any (same_key key) old.keys.keys then old.keys.keys else old.keys.keys ++ key ∷ [])
  pub counts : (n : ℕ) → get_or new_counts n 0 ≡ cond (n == slice) (suc (get_or old_counts slice 0)) (get_or old_counts n 0)
  pub users : new.users.items ≡ set old.users.items path (used_by (length old.rows.items) (get_or old.users.items path Users.None))
