-- How a table stores what it keeps: a slot for each code, with the steps that it has counted, and a
-- share of the bytes of values, with the counters before these steps.
use Rattle.std.specs.Prelude.{◌≡◌, ◌≢◌, ◌<◌, ℕ, zero, suc, ◌+◌, ◌-◌, ◌*◌, ◌%◌, ◌≤◌, ◌==◌, nat_le, min, max, cond, List, [], ◌∷◌, ◌++◌, length, take, drop, sum_by, Bool, false, slice_get, Option, Some, None, option_map, option_and_then}
use Rattle.std.specs.Str.{byte}
use Rattle.vcd_view.specs.declared.view.Code.{Code}
use Rattle.vcd_body.specs.Counters.{counts_of}
use Rattle.vcd_body.specs.Kept.{Held, Kept, bytes_for, held_as}
use Rattle.vcd_model.specs.Values.{extend, short}
pub use Rattle.vcd_body.specs.Binary.{binary_digits, count_in, is_proper, number_in}
pub use Rattle.vcd_body.specs.Packed.{digits_in, held_digit}
use Rattle.vcd_body.specs.declared.item.Form.{Form}
use Rattle.vcd_body.specs.declared.item.Form.TheVariants as form
use Rattle.vcd_body.specs.declared.values.slot.Holding.{Holding}
use Rattle.vcd_body.specs.declared.values.slot.Share.{Share}
use Rattle.vcd_body.specs.declared.values.slot.Slot.{Slot}
pub use Rattle.vcd_body.specs.declared.values.slot.State.{State}
use Rattle.vcd_body.specs.declared.values.slot.State.TheVariants as state

-- the digit of a state that holds one
abbrev pub one_digit : State → Option ℕ
one_digit state.Unset = None
one_digit state.Zero = Some (byte "0")
one_digit state.One = Some (byte "1")
one_digit state.Unknown = Some (byte "x")
one_digit state.High = Some (byte "z")
one_digit state.Packed = None
one_digit state.Bits = None
one_digit state.Real = None

-- how many bytes of its share are in use
abbrev pub used_by : State → ℕ → ℕ
used_by state.Unset len = 0
used_by state.Zero len = 0
used_by state.One len = 0
used_by state.Unknown len = 0
used_by state.High len = 0
used_by state.Packed len = bytes_for len
used_by state.Bits len = 0
used_by state.Real len = len

-- how many digits, or bytes of a text, are held in a share
abbrev pub len_of : Holding → ℕ
len_of v = v.upper * 4294967296 + v.lower % 4294967296

-- the binary digits that a slot holds
abbrev pub held_bits : Holding → List ℕ
held_bits v = binary_digits (count_in (len_of v)) (number_in (len_of v))

abbrev pub used : Holding → ℕ
used v = used_by v.state (len_of v)

-- the value that is held in this state and length, with these bytes of the share
abbrev pub held_by : State → ℕ → List ℕ → Held
held_by state.Unset len bytes = Held.Unset
held_by state.Zero len bytes = Held.Digits (byte "0" ∷ [])
held_by state.One len bytes = Held.Digits (byte "1" ∷ [])
held_by state.Unknown len bytes = Held.Digits (byte "x" ∷ [])
held_by state.High len bytes = Held.Digits (byte "z" ∷ [])
held_by state.Packed len bytes = Held.Digits (digits_in len bytes)
held_by state.Bits len bytes = Held.Digits (binary_digits (count_in len) (number_in len))
held_by state.Real len bytes = Held.Text bytes

-- the digits that are held, or none
abbrev pub digits_held : Held → List ℕ
digits_held Held.Unset = []
digits_held (Held.Digits ds) = ds
digits_held (Held.Text text) = []

-- the value that this `Holding` and these bytes of a share hold, and its digits
abbrev pub held_with : Holding → List ℕ → Held
held_with v bytes = held_by v.state (len_of v) bytes

abbrev pub digits_with : Holding → List ℕ → List ℕ
digits_with v bytes = digits_held (held_with v bytes)

-- the line of a value of these digits: all of them at size 1, or the shortest after `b`
abbrev pub held_line : ℕ → List ℕ → List ℕ → List ℕ
held_line size ds id = cond (size == 1) (ds ++ (id ++ 10 ∷ [])) (byte "b" ∷ short (extend ds size) ++ (byte " " ∷ id ++ 10 ∷ []))

-- ---- what a slot and its share say

-- the number of a state, and the state of a number; from 7 on the number also says how many binary
-- digits there are
abbrev pub tag_of : State → ℕ
tag_of state.Unset = 0
tag_of state.One = 1
tag_of state.Zero = 2
tag_of state.Unknown = 3
tag_of state.High = 4
tag_of state.Packed = 5
tag_of state.Real = 6
tag_of state.Bits = 7

abbrev pub state_in : ℕ → State
state_in zero = state.Unset
state_in (suc zero) = state.One
state_in (suc (suc zero)) = state.Zero
state_in (suc (suc (suc zero))) = state.Unknown
state_in (suc (suc (suc (suc zero)))) = state.High
state_in (suc (suc (suc (suc (suc zero))))) = state.Packed
state_in (suc (suc (suc (suc (suc (suc zero)))))) = state.Real
state_in (suc (suc (suc (suc (suc (suc (suc n))))))) = state.Bits

-- a length of these parts: the upper one is from the share, or says how many binary digits there
-- are
abbrev pub len_in : ℕ → ℕ → ℕ → ℕ
len_in tag number upper = cond (nat_le 7 tag) (tag - 7) upper * 4294967296 + number % 4294967296

abbrev pub holding_of : Slot → Share → Holding
holding_of s h = record { state = state_in s.tag; lower = s.number; upper = cond (nat_le 7 s.tag) (s.tag - 7) h.upper }

abbrev pub holding_at : List Slot → List Share → ℕ → Option Holding
holding_at slots shares code = option_and_then (λ (s : Slot). option_map (holding_of s) (slice_get shares code)) (slice_get slots code)

-- a slot and its share as one
pub record Whole : Type 0 where
  pub state : State
  pub len : ℕ
  pub start : ℕ
  pub counts : List ℕ
  pub chosen : Bool

abbrev pub whole : Slot → Share → Whole
whole s h = record { state = state_in s.tag; len = len_in s.tag s.number h.upper; start = h.start; counts = counts_of s.steps h.counts; chosen = h.chosen }

-- the slot and share with a value that is held in this state and length
abbrev pub set_whole : State → ℕ → Whole → Whole
set_whole st len w = record { state = st; start = w.start; len = len; counts = w.counts; chosen = w.chosen }

abbrev pub whole_at : List Slot → List Share → ℕ → Option Whole
whole_at slots shares code = option_and_then (λ (s : Slot). option_map (whole s) (slice_get shares code)) (slice_get slots code)

-- what is held in a share that begins here
abbrev pub held_from : List ℕ → ℕ → Holding → Held
held_from values start v = held_by v.state (len_of v) (take (used v) (drop start values))

abbrev pub held_of : List ℕ → Whole → Held
held_of values w = held_by w.state w.len (take (used_by w.state w.len) (drop w.start values))

-- where the share at an index begins, and where it ends: where the next begins, or where the values
-- end
abbrev pub start_or : ℕ → Option Share → ℕ
start_or n None = n
start_or n (Some h) = h.start

abbrev pub start_in : List Share → ℕ → ℕ
start_in shares code = start_or 0 (slice_get shares code)

abbrev pub end_at : List Share → ℕ → ℕ → ℕ
end_at shares n code = start_or n (slice_get shares (code + 1))

-- what is kept of a code whose share ends here
abbrev pub kept_with : List ℕ → ℕ → Whole → Kept
kept_with values end w = record { held = held_of values w; counts = w.counts; chosen = w.chosen; room = end - w.start }

-- what is kept of the code at an index
abbrev pub kept_in : List ℕ → List Slot → List Share → ℕ → Option Kept
kept_in values slots shares code = option_map (kept_with values (end_at shares (length values) code)) (whole_at slots shares code)

-- what is kept of the code at an index is what f makes of it, and what is kept of the others stays
abbrev pub ChangesAt : ℕ → (Kept → Kept) → List ℕ → List Slot → List Share → List ℕ → List Slot → List Share → Type 0
ChangesAt code f values slots shares values' slots' shares' = (position : ℕ)
    → kept_in values' slots' shares' position ≡ cond (position == code) (option_map f (kept_in values slots shares position))
    (kept_in values slots shares position)

-- a slot is changed by f, and no share is, whatever the shares and the values are
abbrev pub ChangesSlot : ℕ → (Kept → Kept) → List Slot → List Slot → Type 0
ChangesSlot code f slots slots' = (shares : List Share) (values : List ℕ) → ChangesAt code f values slots shares values slots' shares

-- how many bytes a text of n bytes takes
abbrev pub text_bytes : Form → ℕ → ℕ
text_bytes form.Scalar n = bytes_for n
text_bytes form.Vector n = bytes_for n
text_bytes form.RealText n = n

-- how many digits have to be there: 1 if the state is no state of several digits
abbrev pub some_by : State → ℕ → ℕ
some_by state.Unset len = 1
some_by state.Zero len = 1
some_by state.One len = 1
some_by state.Unknown len = 1
some_by state.High len = 1
some_by state.Packed len = len
some_by state.Bits len = cond (is_proper len) 1 0
some_by state.Real len = 1

-- a text is held in this state, in the first bytes of a share
pub record IsHeldAs (f : Form) (text : List ℕ) (st : State) (share : List ℕ) : Type 0 where
  pub held : held_by st (length text) (take (used_by st (length text)) share) ≡ held_as f text
  pub used : used_by st (length text) ≤ length share
  pub some : 0 < length text → 1 ≤ some_by st (length text)
  pub whole : st ≢ state.Bits

-- these bytes of a share hold all of the value: they are enough, and there is a digit
pub record HoldsIn (v : Holding) (bytes : List ℕ) : Type 0 where
  pub fits : used v ≤ length bytes
  pub some : 1 ≤ some_by v.state (len_of v)

-- each slot has a share; the shares follow one another, and each is large enough for what it holds
pub record IsLaid (shares : List Share) (n k : ℕ) (s : Slot) : Type 0 where
  pub share : Share
  pub there : slice_get shares k ≡ Some share
  pub fits : share.start + used (holding_of s share) ≤ end_at shares n k
  pub within : end_at shares n k ≤ n
  pub some : 1 ≤ some_by (state_in s.tag) (len_in s.tag s.number share.upper)

abbrev pub AreLaidOut : List Slot → List Share → ℕ → Type 0
AreLaidOut slots shares n = (k : ℕ) (s : Slot) → slice_get slots k ≡ Some s → IsLaid shares n k s

-- if these slots were laid out over some shares, they still are
abbrev pub SlotsKeepLaid : List Slot → List Slot → Type 0
SlotsKeepLaid slots slots' = (shares : List Share) (n : ℕ) → AreLaidOut slots shares n → AreLaidOut slots' shares n

-- ---- shares

-- how many bytes the value of a code of this size takes at most: its digits, or a real text of 64
-- bytes
abbrev pub share_of : ℕ → ℕ
share_of size = max (bytes_for size) 64

-- how many bytes the values of these codes take at most
abbrev pub room_of : List Code → ℕ
room_of codes = sum_by (λ (c : Code). share_of c.size) codes

-- where the share of the code at an index begins, among n bytes
abbrev pub start_of : List Code → ℕ → ℕ → ℕ
start_of codes n k = min (room_of (take k codes)) n

-- a code of which nothing is known
abbrev pub IsUnset : Slot → Type 0
IsUnset s = s ≡ record { number = 0; tag = 0; steps = 0 ∷ 0 ∷ 0 ∷ [] }

-- a share that begins here, of a code of which nothing was counted
abbrev pub share_from : ℕ → Share
share_from start = record { start = start; upper = 0; counts = 0 ∷ 0 ∷ 0 ∷ []; chosen = false }

abbrev pub IsUncounted : Share → Type 0
IsUncounted h = h ≡ share_from 0
