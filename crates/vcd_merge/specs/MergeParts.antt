-- What belongs to an input of a merge: its seat, its source and its parts of the windows.
use Rattle.std.specs.Prelude.{◌≡◌, ℕ, ◌*◌, ◌/◌, ◌<◌, List, length, take, drop, All, slice_get, Option, Some, None, option_map}
use Rattle.vcd_merge.specs.declared.seat.Seat.{Seat}
use Rattle.vcd_merge.specs.declared.windows.Windows.{Windows}
use Rattle.vcd_merge.specs.Seat.{IsSeated, Spot}

-- how long the part of each of n inputs is
abbrev pub part_len : ℕ → List ℕ → ℕ
part_len n xs = length xs / n

-- the part of the input at an index, if each part has `len`
abbrev pub part : ℕ → ℕ → List ℕ → List ℕ
part len index xs = take len (drop (index * len) xs)

-- the windows are in n equal parts, and none of them is empty
pub record AreParts (n : ℕ) (chunks tokens values : List ℕ) : Type 0 where
  pub chunks_are : n * part_len n chunks ≡ length chunks
  pub tokens_are : n * part_len n tokens ≡ length tokens
  pub values_are : length values ≡ length tokens
  pub chunk_some : 0 < part_len n chunks
  pub token_some : 0 < part_len n tokens

pub record SameLengths (old new : Windows) : Type 0 where
  pub chunks : length new.chunks.now ≡ length old.chunks.now
  pub tokens : length new.tokens.now ≡ length old.tokens.now
  pub values : length new.values.now ≡ length old.values.now

-- each parked feed fits its parts, and no failed read was returned
abbrev pub AreSeated : List ℕ → List ℕ → List Seat → Type 0
AreSeated chunks tokens seats = All (IsSeated (part_len (length seats) chunks) (part_len (length seats) tokens)) seats

abbrev pub spot_of : Option Seat → Option (Option (List ℕ)) → List ℕ → List ℕ → Option Spot
spot_of (Some s) (Some rest) chunk token = Some (record { seat = s; rest = rest; chunk = chunk; token = token })
spot_of (Some s) None chunk token = None
spot_of None rest chunk token = None

-- what belongs to the input at an index, if there is one
abbrev pub spot_at : {X : Type 0} → (X → Option (List ℕ)) → List Seat → List X → List ℕ → List ℕ → ℕ → Option Spot
spot_at rest seats sources chunks tokens index =
    spot_of (slice_get seats index) (option_map rest (slice_get sources index))
    (part (part_len (length seats) chunks) index chunks) (part (part_len (length seats) tokens) index tokens)
