-- The classes of two codes, and the ends that lead from a code to them.
use Rattle.std.specs.Prelude.{◌≡◌, ℕ, suc, ◌*◌, ◌<◌, List, [], ◌∷◌, ◌++◌, length, get_or, set, slice_get, Some}
use mathlib.Core.Logic.{◌⊎◌}
use Rattle.vcd_compare.specs.Pairs.{AreLinked}
use Rattle.vcd_compare.specs.declared.pairs.End.{End}

-- an end with the code, after the others
pub record AddsEnd (ends new_ends : List End) (last new_last : List ℕ) (code : ℕ) : Type 0 where
  pub ends_are : new_ends ≡ ends ++ record { code = code; earlier = get_or last code 0 } ∷ []
  pub last_is : new_last ≡ set last code (suc (length ends))

-- an end at this index has the code
abbrev pub HasCode : List End → ℕ → ℕ → Type 0
HasCode ends i code = (e : End) × (slice_get ends i ≡ Some e) × (e.code ≡ code)

-- each class has its two codes at its two ends
pub record HasClasses (keys : List (ℕ × ℕ)) (ends : List End) (last : List ℕ) : Type 0 where
  pub linked : AreLinked ends last
  pub count : length keys * 2 ≡ length ends
  pub each : (class : ℕ) (key : ℕ × ℕ) → slice_get keys class ≡ Some key → HasCode ends (2 * class) key.0 × HasCode ends (suc (2 * class)) key.1

-- the class of two codes, after the others if it is new
pub record EntersClass (keys new_keys : List (ℕ × ℕ)) (ends new_ends : List End) (last new_last : List ℕ) (codes : ℕ × ℕ) (class : ℕ) : Type 0 where
  pub has : HasClasses new_keys new_ends new_last
  pub more : List End
  pub grows : new_ends ≡ ends ++ more
  pub room : length new_last ≡ length last
  pub at : slice_get new_keys class ≡ Some codes
  pub old_or_new : (other : ℕ) → other < length new_keys → (other < length keys) ⊎ (other ≡ class)
