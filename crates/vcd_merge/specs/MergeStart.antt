-- Where a merge begins.
use Rattle.std.specs.Prelude.{◌≡◌, ℕ, true, false, List, [], length, take, map, slice_get, Option, Some, None}
use Rattle.vcd_model.specs.Header.{Header}
use Rattle.vcd_model.specs.HeadText.{first_number}
use Rattle.vcd_model.specs.Merge.{Dump, factor}
use Rattle.vcd_head.specs.declared.head.Head.{Head}
use Rattle.vcd_merge.specs.MergeParts.{spot_at}
use Rattle.vcd_merge.specs.Seat.{GaveParked, Lane, Spot}
use Rattle.vcd_merge.specs.declared.merge_state.Merge.{Merge}
use Rattle.vcd_merge.specs.declared.seat.Seat.{Seat}

-- a seat where the merge begins: its feed, and what is known of its items, stay as they are
abbrev pub begun : ℕ → ℕ → Seat → Seat
begun scale first s = record { parked = s.parked; regs = s.regs; factor = scale; time = 0; first = first; finished = false }

-- each seat is one where the merge begins, whatever its factor and its first number are
abbrev pub AreOpen : List Seat → List Seat → Type 0
AreOpen old new = (k : ℕ) (s s' : Seat) → slice_get old k ≡ Some s → slice_get new k ≡ Some s' → s' ≡ begun s'.factor s'.first s

-- each seat has the factor and the first number of its header among these
abbrev pub AreBegun : List Header → List Seat → List Seat → Type 0
AreBegun hs old new = (k : ℕ) (h : Header) (s s' : Seat) → slice_get hs k ≡ Some h → slice_get old k ≡ Some s → slice_get new k ≡ Some s'
    → s' ≡ begun (factor hs h) (first_number (take k hs)) s

-- a merge over these heads and seats that has begun
pub record HasBegun (heads : List Head) (old : List Seat) (m : Merge) : Type 0 where
  pub going : m.going ≡ true
  pub heads_are : m.heads.now ≡ heads
  pub written : m.written ≡ None
  pub many : length m.seats.now ≡ length old
  pub open_seats : AreOpen old m.seats.now

-- the dumps of inputs that have given no item
abbrev pub no_items : List Lane → List Dump
no_items lanes = map (λ (l : Lane). record { header = l.header; items = []; fault = None }) lanes

-- the inputs have given the tokens of their headers, and no item
abbrev pub HaveNoItems : {X : Type 0} → (X → Option (List ℕ)) → List Lane → List Seat → List X → List ℕ → List ℕ → Type 0
HaveNoItems rest lanes seats sources chunks tokens = (k : ℕ) (l : Lane) (p : Spot) → slice_get lanes k ≡ Some l
    → spot_at rest seats sources chunks tokens k
    ≡ Some p → GaveParked l.header.codes l.input l.front [] p.rest p.chunk p.token p.seat.parked p.seat.regs
