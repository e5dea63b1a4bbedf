-- The order of codes by their bytes, and the numbers that decide most of it.
use Rattle.std.specs.Prelude.{◌≡◌, ℕ, zero, suc, ◌+◌, ◌*◌, ◌%◌, ◌<◌, ◌≤◌, List, length, get_or, map}
use Rattle.std.specs.List.{range_with_len}
use Rattle.vcd_view.specs.declared.view.Code.{Code}
use Rattle.vcd_view.specs.Entries.{code_bytes}

-- this many first bytes as the digits of a number, the first one highest, with zeros after them
abbrev pub prefix_in : ℕ → List ℕ → ℕ
prefix_in zero bs = 0
prefix_in (suc n) bs = prefix_in n bs * 256 + get_or bs n 0

-- the codes have at most four bytes
abbrev pub AreShort : List ℕ → List Code → Type 0
AreShort text codes = (p : ℕ) → p < length codes → length (code_bytes text codes p) ≤ 4

-- at most four bytes, their number and an index as one number
abbrev pub rank_of : List ℕ → ℕ → ℕ
rank_of bs p = (prefix_in 4 bs * 8 + length bs) * 16777216 + p

-- the rank of the code at an index
abbrev pub rank_in : List ℕ → List Code → ℕ → ℕ
rank_in text codes p = rank_of (code_bytes text codes p) p

-- a rank for each code, in order, which has all of its bytes and its index
pub record AreRanks (text : List ℕ) (codes : List Code) (ranks : List ℕ) : Type 0 where
  pub few : length codes ≤ 16777216
  pub short : AreShort text codes
  pub numbers : ranks ≡ map (rank_in text codes) (range_with_len 0 (length codes))

-- the index that a rank ends with
abbrev pub position_in_rank : ℕ → ℕ
position_in_rank r = r % 16777216
