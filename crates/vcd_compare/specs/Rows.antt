-- The rows of each class, and those that have a line due.
use Rattle.std.specs.Prelude.{◌≡◌, ◌≢◌, ℕ, suc, ◌<◌, ◌≤◌, ◌==◌, ◌&&◌, not, Bool, cond, List, length, get_or, map, slice_get, Some, take}
use Rattle.vcd_run.specs.Listed.{times}
use Rattle.vcd_compare.specs.declared.pairs.PairRow.{PairRow}
use Rattle.vcd_compare.specs.declared.touched.Touched.{Touched}
use Rattle.vcd_compare.specs.declared.rows.Links.{Links}

-- the classes of rows
abbrev pub classes_of : List PairRow → List ℕ
classes_of rows = map (λ r. r.class) rows

-- n is 1 plus the greatest index below a bound at which the class is, or 0 if there is none
pub record IsLastRow (classes : List ℕ) (below class n : ℕ) : Type 0 where
  pub within : n ≤ below
  pub is : (i : ℕ) → n ≡ suc i → slice_get classes i ≡ Some class
  pub none : (i : ℕ) → n ≤ i → i < below → slice_get classes i ≢ Some class

-- from the last row of each class on, each of the first rows leads to the one before it of its class
pub record AreLinkedRows (classes : List ℕ) (count : ℕ) (last earlier : List ℕ) : Type 0 where
  pub from : (class : ℕ) → class < length last → IsLastRow classes count class (get_or last class 0)
  pub each : (i class : ℕ) → i < count → slice_get classes i ≡ Some class → class < length last → IsLastRow classes i class (get_or earlier i 0)

-- all rows are linked, and there is room for each
pub record HaveRows (rows : List PairRow) (touched : Touched) (links : Links) (due : List ℕ) : Type 0 where
  pub linked : AreLinkedRows (classes_of rows) (length (classes_of rows)) links.last.now links.earlier.now
  pub last : length touched.marks.now ≤ length links.last.now
  pub room : length rows ≤ length due

-- the row at an index is of the class
abbrev pub is_of : List ℕ → ℕ → ℕ → Bool
is_of classes class i = get_or classes i (suc class) == class

-- the first numbers are those that pass, each once
pub record AreDue (due : List ℕ) (count : ℕ) (passes : ℕ → Bool) : Type 0 where
  pub within : count ≤ length due
  pub once : (i : ℕ) → times i (take count due) ≡ cond (passes i) 1 0

-- the class of the row at an index has the flag 1
abbrev pub is_flagged : (bytes classes : List ℕ) → ℕ → Bool
is_flagged bytes classes i = get_or (map (λ class. get_or bytes class 0) classes) i 0 == 1

-- that flag was 1, and is not 1 now
abbrev pub was_flagged : (old bytes classes : List ℕ) → ℕ → Bool
was_flagged old bytes classes i = is_flagged old classes i && not (is_flagged bytes classes i)
