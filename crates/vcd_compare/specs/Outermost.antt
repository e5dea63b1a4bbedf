-- Which pairs of names no other one covers, by number.
use Rattle.std.specs.Prelude.{◌≡◌, ℕ, ◌&&◌, ◌||◌, not, false, Bool, bytes_eq, cond, List, Option, Some, None}
use Rattle.std.specs.List.{list_any}
use Rattle.vcd_model.specs.Backward.{each_some}
use Rattle.vcd_model.specs.Within.{Names, covers}
use Rattle.vcd_compare.specs.HasPairs.{AreNumbersOf}
use Rattle.vcd_compare.specs.Variables.{same_key}

-- the same two names
abbrev pub same_names : Names → Names → Bool
same_names n m = bytes_eq n.0 m.0 && bytes_eq n.1 m.1

-- two names, if these before them are others
abbrev pub if_first : List Names → Names → Option Names
if_first earlier n = cond (list_any (same_names n) earlier) None (Some n)

-- each two names once
abbrev pub firsts : List Names → List Names
firsts ns = each_some if_first ns

-- the second two cover the first two, but not the other way round
abbrev pub is_within : Names → Names → Bool
is_within n m = covers m n && not (covers n m)

-- the numbers of two names around which all is that is around the first two
abbrev pub AreAround : List (List ℕ) → Names → Option (ℕ × ℕ) → Type 0
AreAround texts n None = (m : Names) → is_within n m ≡ false
AreAround texts n (Some around) = (u : Names) × AreNumbersOf texts around u × ((m : Names) → is_within n m ≡ (same_names u m || is_within u m))

-- these pairs of numbers are those of the names, each of them at least once
abbrev pub AreKeysOf : List (List ℕ) → List (ℕ × ℕ) → List Names → Type 0
AreKeysOf texts keys ns = (a : ℕ × ℕ) (n : Names) → AreNumbersOf texts a n → list_any (same_key a) keys ≡ list_any (same_names n) ns
