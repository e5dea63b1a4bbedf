-- Pairs of a path and a range, by number.
use Rattle.std.specs.Prelude.{◌≡◌, ℕ, ◌==◌, not, List, ◌++◌, drop, filter, length, slice_get, Some}
use Rattle.std.specs.List.{AllZip, join_with_byte}
use Rattle.vcd_model.specs.Declarations.{Variable, first_token}
use Rattle.vcd_compare.specs.Paths.{AreApart, IsNumberOf, texts_in}
use Rattle.vcd_compare.specs.declared.slices.Slices.{Slices}

-- what follows the name of a variable
abbrev pub tail_of : Variable → List ℕ
tail_of v = drop (length (first_token v.reference)) (join_with_byte 32 v.reference)

-- a text without its blanks
abbrev pub no_blanks : List ℕ → List ℕ
no_blanks text = filter (λ b. not (b == 32)) text

-- the numbers of a path and of a range
abbrev pub IsSlice : (texts ranges : List (List ℕ)) → ℕ × ℕ → List ℕ × List ℕ → Type 0
IsSlice texts ranges k x = IsNumberOf texts k.0 x.0 × (slice_get ranges k.1 ≡ Some x.1)

-- these are the pairs, in the order of their numbers
pub record HasSlices (texts : List (List ℕ)) (s : Slices) (list : List (List ℕ × List ℕ)) : Type 0 where
  pub each : AllZip (IsSlice texts (texts_in s.ranges)) s.pairs.keys list
  pub apart : (i j : ℕ) (x : List ℕ × List ℕ) → slice_get list i ≡ Some x → slice_get list j ≡ Some x → i ≡ j
  pub ranges_apart : AreApart (texts_in s.ranges)

-- the pair has this number, after the others if it was not there
abbrev pub EntersSlice : List (List ℕ) → List (List ℕ × List ℕ) → Slices → List ℕ × List ℕ → ℕ → Type 0
EntersSlice texts list new x index = (more : List (List ℕ × List ℕ)) × HasSlices texts new (list ++ more) × (slice_get (list ++ more) index ≡ Some x)
