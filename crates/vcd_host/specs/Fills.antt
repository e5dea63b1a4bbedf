-- What is at the front of bytes that were lent.
use Rattle.std.specs.Prelude.{◌≡◌, ℕ, List, length, take}

-- the front has as many of all these bytes as there is room for, and their number is returned
pub record Fills (bytes : List ℕ) (used : ℕ) (all : List ℕ) : Type 0 where
  pub front : take used bytes ≡ take (length bytes) all
  pub number : used ≡ length all
