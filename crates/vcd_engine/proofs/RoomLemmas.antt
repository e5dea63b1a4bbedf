-- What is lent to a run counts at most the bound, and less room less.
use Rattle.vcd_engine.proofs.Cited.{◌≡◌, ℕ, ◌≤◌, List, [], ◌∷◌, length, sum_by, sym, subst, arith, sum_by-append, AreWindows, FitsInput, RoomSize, ViewSize, WindowSize, no_room, value_room, IdCode, room_fits, is_view, view_size, parts, IsViewOf, Header, HeadView, AreWithinBound, IsWithin, IsWithinEachBound}

pub less_room : (limit : ℕ) (h : Header) (w : WindowSize) (v : ViewSize) (r most : RoomSize) → IsWithin r most → FitsInput limit h w v most → FitsInput limit h w v r
less_room limit h w v r most within fits = omega (arith, within.values, within.slots, within.marks, fits)

pub still_within : (limit chunk : ℕ) (v : HeadView) (r most : RoomSize) → IsWithin r most → AreWithinBound limit chunk v most → AreWithinBound limit chunk v r
still_within limit chunk v r most within bound = λ h views. less_room limit h _ _ r most within (bound h views)

-- ---- windows alone, and with the room of a pick

pub windows : (limit chunk : ℕ) → chunk ≤ 65536 → AreWindows limit (record { chunk = chunk; token = limit; value = limit })
windows limit chunk le = record { chunk = le; token = omega arith; value = omega arith }

pub no_room_fits : (limit : ℕ) (h : Header) (w : WindowSize) (v : HeadView) → IsViewOf v h → AreWindows limit w → FitsInput limit h w (view_size (parts v)) no_room
no_room_fits limit h w v views are = room_fits limit h w (view_size (parts v)) no_room are (is_view (parts v) h views) (record { values = omega arith; slots = omega arith; marks = omega arith })

pub no_room_within : (limit chunk : ℕ) (v : HeadView) → chunk ≤ 65536 → AreWithinBound limit chunk v no_room
no_room_within limit chunk v le = λ h views. no_room_fits limit h (record { chunk = chunk; token = limit; value = limit }) v views (windows limit chunk le)

pub no_room_in_each : (v : HeadView) → IsWithinEachBound v no_room
no_room_in_each v = λ limit. no_room_within limit 0 v (omega arith)

-- the token limit counts as much in the bound as in the windows, so what is within one is within
-- each
pub within_each : (limit chunk : ℕ) (v : HeadView) (r : RoomSize) → AreWithinBound limit chunk v r → IsWithinEachBound v r
within_each limit chunk v r bound = λ other h views. omega (arith, bound h views)

-- a code has a byte of values at least
byte_each : (cs : List IdCode) → length cs ≤ sum_by value_room cs
byte_each [] = omega arith
byte_each (c ∷ cs) =
    let all = sum_by-append value_room (c ∷ []) cs in
    let one : 1 ≤ sum_by value_room (c ∷ []) = omega arith in
    omega (arith, all, one, byte_each cs)

-- a byte for each code, and a mark for each declaration
abbrev pub pick_room : HeadView → RoomSize
pick_room v = record { values = length v.codes.now; slots = 0; marks = length v.rows.now }

pub pick_room_fits : (limit : ℕ) (h : Header) (w : WindowSize) (v : HeadView) → IsViewOf v h → AreWindows limit w → FitsInput limit h w (view_size (parts v)) (pick_room v)
pick_room_fits limit h w v views are =
    let is = is_view (parts v) h views in
    room_fits limit h w (view_size (parts v)) (pick_room v) are is (record { values = omega (arith, is.codes, byte_each h.codes); slots = omega arith; marks = is.rows })

pub pick_room_within : (limit chunk : ℕ) (v : HeadView) → chunk ≤ 65536 → AreWithinBound limit chunk v (pick_room v)
pick_room_within limit chunk v le = λ h views. pick_room_fits limit h (record { chunk = chunk; token = limit; value = limit }) v views (windows limit chunk le)

-- what an engine holds, after its begin and after a step
pub lent_within : (limit chunk : ℕ) (v v' : HeadView) (r most : RoomSize) → v' ≡ v → IsWithin r most → AreWithinBound limit chunk v most → AreWithinBound limit chunk v' r
lent_within limit chunk v v' r most same within bound = subst (λ w. AreWithinBound limit chunk w r) (sym same) (still_within limit chunk v r most within bound)
