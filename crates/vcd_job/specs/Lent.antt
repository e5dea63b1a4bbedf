-- All that is lent while a body is read counts at most the bound.
use Rattle.std.specs.Prelude.{ℕ, List}
use Rattle.vcd_job.specs.Cited.{AreAllWindows, FitsBound, FitsInput, RoomSize, no_room, Header, chunk_len_of, limit_of, Ghosts, Feed, view_size, parts, IsViewOf, HeadView, ShowHeaders, Head, kept_in, windows_size, Windows}

-- For one input, the windows of its feed, what its header keeps and this room count at most the
-- bound of the header.
abbrev pub IsLentWithin : {X : Type 0} {g : Ghosts X} → Feed X g → HeadView → RoomSize → Type 0
IsLentWithin feed view room =
    (h : Header) → IsViewOf view h → FitsInput (limit_of feed) h (record { chunk = chunk_len_of feed; token = limit_of feed; value = limit_of feed }) (view_size (parts view)) room

-- For a merge, windows for this many inputs, under whatever token limit, and what these headers
-- keep count at most the bound of the headers.
abbrev pub AreLentWithin : (inputs : ℕ) → Windows → List Head → Type 0
AreLentWithin inputs w heads = (limit : ℕ) → AreAllWindows limit inputs (windows_size w) → (hs : List Header) → ShowHeaders heads hs
    → FitsBound limit hs (windows_size w) (kept_in heads) no_room
