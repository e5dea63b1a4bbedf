-- What a table keeps of a code, and what each call makes of it.
use Rattle.std.specs.Prelude.{◌%◌, ◌≡◌, ◌≢◌, ℕ, ◌+◌, ◌-◌, ◌^◌, ◌==◌, ◌&&◌, nat_lt, nat_le, min, Bool, true, false, not, cond, List, [], ◌∷◌, length, map, get_or, slice_get, slice_set, Option, Some, None}
use Rattle.std.specs.List.{last_or}
use Rattle.std.specs.Str.{byte, bytes_eq, str_to_ascii_lowercase}
use Rattle.vcd_model.specs.Values.{Value, extend, same_value, value_with}
use Rattle.vcd_body.specs.Binary.{binary_digits}
use Rattle.vcd_body.specs.Items.{model_form}
use Rattle.vcd_body.specs.Packed.{held_digit, quarter_of}
use Rattle.vcd_body.specs.declared.item.Form.{Form}
use Rattle.vcd_body.specs.declared.item.Form.TheVariants as form
use Rattle.vcd_body.specs.declared.values.step.Step.{Step}

-- the value of a code: none, digits that extend to it, or the text of a real number
pub data Held : Type 0 where
  Unset : Held
  Digits : (digits : List ℕ) → Held
  Text : (text : List ℕ) → Held

-- its value, its three counters, whether it is chosen, and how many bytes there are for its value
pub record Kept : Type 0 where
  pub held : Held
  pub counts : List ℕ
  pub chosen : Bool
  pub room : ℕ

-- nothing is known of the code, and it is not chosen
abbrev pub unset : ℕ → Kept
unset room = record { held = Unset; counts = 0 ∷ 0 ∷ 0 ∷ []; chosen = false; room = room }

-- ---- values

-- how many bytes n digits take, four to a byte
abbrev pub bytes_for : ℕ → ℕ
bytes_for n = quarter_of n

-- how many bytes a text of n bytes takes; one digit takes none
abbrev pub room_for : Form → ℕ → ℕ
room_for form.Scalar n = cond (n == 1) 0 (bytes_for n)
room_for form.Vector n = cond (n == 1) 0 (bytes_for n)
room_for form.RealText n = n

-- a text is held if it is not empty and there is room for it
abbrev pub fits : Form → ℕ → ℕ → Bool
fits f n room = nat_lt 0 n && nat_le (room_for f n) room

-- what a text is held as
abbrev pub held_as : Form → List ℕ → Held
held_as form.Scalar text = Digits (map held_digit text)
held_as form.Vector text = Digits (map held_digit text)
held_as form.RealText text = Text text

abbrev pub with_held : Held → Kept → Kept
with_held h k = record { held = h; counts = k.counts; chosen = k.chosen; room = k.room }

-- the value is that of the text, if it is held; otherwise it stays
abbrev pub with_text : Form → List ℕ → Kept → Kept
with_text f text k = with_held (cond (fits f (length text) k.room) (held_as f text) k.held) k

-- the value is that of this many binary digits, as their number; they need no room
abbrev pub with_number : ℕ → ℕ → Kept → Kept
with_number count number k = with_held (Digits (binary_digits count number)) k

-- the definitions' value at a size, `None` if there is no value
abbrev pub value_at_size : ℕ → Held → Option Value
value_at_size size Unset = None
value_at_size size (Digits ds) = Some (Value.Bits (extend ds size))
value_at_size size (Text text) = Some (Value.Real text)

-- the digit of a value at an index, from the left; `None` if it has fewer
abbrev pub digit_in : Option Value → ℕ → Option ℕ
digit_in None position = None
digit_in (Some (Value.Bits ds)) position = slice_get ds position
digit_in (Some (Value.Real text)) position = None

-- the last digit of a value
abbrev pub last_digit_in : Option Value → Option ℕ
last_digit_in None = None
last_digit_in (Some (Value.Bits ds)) = last_or None ds
last_digit_in (Some (Value.Real text)) = None

-- there is a digit, and it is this one
abbrev pub is_digit : Option ℕ → ℕ → Bool
is_digit None d = false
is_digit (Some e) d = d == e

-- the last digit was a, and is b
abbrev pub goes_from : ℕ → ℕ → Option ℕ → Option ℕ → Bool
goes_from a b before after = is_digit before a && is_digit after b

-- the last digit of a number in binary
abbrev pub last_bit : ℕ → Option ℕ
last_bit n = Some (48 + n % 2)

-- there is a value, and it is not this one
abbrev pub differs : Option Value → Value → Bool
differs None v = false
differs (Some u) v = not (same_value u v)

-- digits and a text make two values: at this size, or at each
abbrev pub are_two : ℕ → List ℕ → List ℕ → Bool
are_two size ds text = not (bytes_eq (extend ds size) (extend (str_to_ascii_lowercase text) size))

abbrev pub AreTwo : List ℕ → List ℕ → Type 0
AreTwo ds text = (size : ℕ) → extend ds size ≢ extend (str_to_ascii_lowercase text) size

-- the step from one value to another: whether they differ, and how the last digit goes
abbrev pub IsStep : Step → Option Value → Value → Type 0
IsStep s old new =
    (s.differs ≡ differs old new)
    × (s.rises ≡ goes_from (byte "0") (byte "1") (last_digit_in old) (last_digit_in (Some new)))
    × (s.falls ≡ goes_from (byte "1") (byte "0") (last_digit_in old) (last_digit_in (Some new)))

-- the text of a real number, empty if the value is none
abbrev pub real_text : Held → List ℕ
real_text Unset = []
real_text (Digits ds) = []
real_text (Text text) = text

-- ---- counters and choice

-- one more in the counter at an index, of which there are three; a full one stays
abbrev pub counts_with : List ℕ → ℕ → List ℕ
counts_with counts which = slice_set counts which (min (get_or counts which 0 + 1) (2 ^ 64 - 1))

abbrev pub one_more : ℕ → Kept → Kept
one_more which k = record { held = k.held; counts = counts_with k.counts which; chosen = k.chosen; room = k.room }

-- one more in a counter if the test holds
abbrev pub counts_if : Bool → List ℕ → ℕ → List ℕ
counts_if true counts which = counts_with counts which
counts_if false counts which = counts

-- one more in the first counter, and in the others if the tests hold
abbrev pub with_step : Bool → Bool → Kept → Kept
with_step rises falls k = record { held = k.held; counts = counts_if falls (counts_if rises (counts_with k.counts 0) 1) 2; chosen = k.chosen; room = k.room }

-- the step from one value to another is counted, if they differ
abbrev pub with_counted : Option Value → Value → Kept → Kept
with_counted old new k = cond (differs old new) (with_step (goes_from (byte "0") (byte "1") (last_digit_in old) (last_digit_in (Some new)))
    (goes_from (byte "1") (byte "0") (last_digit_in old) (last_digit_in (Some new))) k) k

-- the value is that of the text, if it is held, and its step at this size is counted; an empty text
-- is ignored
abbrev pub with_change : ℕ → Form → List ℕ → Kept → Kept
with_change size f text k = cond (nat_lt 0 (length text)) (with_counted (value_at_size size k.held) (value_with size (model_form f) text) (with_text f text k)) k

-- binary digits are held, this many, and their step at this size is counted; they need no room
abbrev pub with_number_change : ℕ → ℕ → ℕ → Kept → Kept
with_number_change size count number k = with_counted (value_at_size size k.held) (value_with size (model_form form.Vector) (binary_digits count number)) (with_number count number k)

abbrev pub as_chosen : Kept → Kept
as_chosen k = record { held = k.held; counts = k.counts; chosen = true; room = k.room }
