-- Marks: which declarations a written header has, and which codes are theirs.
use Rattle.std.specs.Prelude.{true, ◌∷◌, take, get_or, ℕ, ◌==◌, Bool, cond, List, length, map, unwrap_or, slice_get, ◌≡◌, ◌<◌, slice_index, Some, None, Result, MatchResult}
use Rattle.std.specs.List.{range_with_len}
use Rattle.vcd_model.specs.Declarations.{Declaration, IdCode, enclosing}
use Rattle.vcd_model.specs.Header.{Header}
use Rattle.vcd_model.specs.Selection.{first_unmatched, marked_places, is_among, selected, selects_code}

-- 1 at each selected variable and at the scopes around these, 0 elsewhere
unfoldable pub marks_of : List (List ℕ) → List Declaration → List ℕ
marks_of names ds = let positions = marked_places names ds in map (λ i. cond (is_among positions i) 1 0) (range_with_len 0 (length ds))

-- the declaration at an index is marked, or the flag of the code there is 1
abbrev pub is_marked : List ℕ → ℕ → Bool
is_marked marks position = unwrap_or (slice_get marks position) 0 == 1

-- the flag of a code is 1 if a selected variable has the code, and only then
abbrev pub AreFlags : Header → List (List ℕ) → List ℕ → Type 0
AreFlags h names flags = (i : ℕ) (c : IdCode) → slice_get h.codes i ≡ Some c
    → is_marked flags i ≡ selects_code (selected names h.declarations) c

-- 1 at these indexes, the other marks as they were
pub record Marked (positions old new : List ℕ) : Type 0 where
  pub kept : length new ≡ length old
  pub marks : (i : ℕ) → i < length old → slice_index new i ≡ cond (is_among positions i) 1 (slice_index old i)

-- the declarations at these indexes are marked
abbrev pub AllMarked : List ℕ → List ℕ → Type 0
AllMarked positions marks = (i : ℕ) → i < length marks → is_among positions i ≡ true → get_or marks i 0 ≡ 1

-- the scopes around each marked declaration are marked
abbrev pub AreClosed : List Declaration → List ℕ → Type 0
AreClosed ds marks = (i : ℕ) → get_or marks i 0 ≡ 1 → AllMarked (enclosing (take i ds)) marks

-- a row and the scopes around it
abbrev pub row_and_scopes : Header → ℕ → List ℕ
row_and_scopes h row = row ∷ enclosing (take row h.declarations)

-- the first name that selects nothing is refused; if each selects something, none is
abbrev pub RefusesUnmatched : {A : Type 0} → List (List ℕ) → Header → Result A ℕ → Type 0
RefusesUnmatched names h r = MatchResult r (λ _. first_unmatched names h.declarations ≡ None) (λ name. first_unmatched names h.declarations ≡ Some name)
