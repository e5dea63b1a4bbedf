-- What a table keeps of the codes, as a map from a code's index.
use Rattle.std.specs.Prelude.{◌≡◌, ℕ, ◌+◌, ◌-◌, ◌≤◌, min, Bool, false, Some, List, [], ◌∷◌, length, map, unwrap_or, option_map, option_and_then, slice_get, Option}
use Rattle.vcd_model.specs.Cut.{line_if_set}
use Rattle.vcd_model.specs.Declarations.{IdCode}
use Rattle.vcd_model.specs.Values.{Value, value_with}
use Rattle.vcd_view.specs.Shown.{text_in}
use Rattle.vcd_view.specs.declared.view.Code.{Code}
use Rattle.vcd_view.specs.declared.view.HeadView.{HeadView}
use Rattle.vcd_body.specs.Binary.{binary_digits}
use Rattle.vcd_body.specs.Given.{IsText}
use Rattle.vcd_body.specs.Items.{model_form}
use Rattle.vcd_body.specs.Kept.{Held, Kept, unset, value_at_size, with_number, with_text}
use Rattle.vcd_body.specs.Values.{form_in, text_in as text_of_value}
use Rattle.vcd_body.specs.Stored.{AreLaidOut, ChangesAt, kept_in, room_of, share_of, start_of}
use Rattle.vcd_body.specs.declared.values.bits.Bits.{Bits}
use Rattle.vcd_body.specs.declared.item.Form.{Form}
use Rattle.vcd_body.specs.declared.item.Form.TheVariants as form
use Rattle.vcd_body.specs.declared.values.slot.Shown.{Shown}
use Rattle.vcd_body.specs.declared.values.slot.Shown.TheVariants as shown
use Rattle.vcd_body.specs.declared.values.table.Table.{Table}
use Rattle.vcd_body.specs.declared.values.value.Value.{Value as ChangeValue}

-- how many codes it has slots for
abbrev pub codes_in : Table → ℕ
codes_in t = min (length t.slots.now) (length t.shares.now)

-- how many bytes of values it works with
abbrev pub bytes_in : Table → ℕ
bytes_in t = length t.values.now

-- each code has a share of its own, large enough for what it holds. This is true of every table
-- that `new` made, after any calls.
abbrev pub IsLaidOut : Table → Type 0
IsLaidOut t = AreLaidOut t.slots.now t.shares.now (length t.values.now)

-- a call leaves a table laid out, for as many codes and with as many bytes
pub record KeepsTable (old new : Table) : Type 0 where
  pub laid : IsLaidOut old → IsLaidOut new
  pub codes : codes_in new ≡ codes_in old
  pub bytes : bytes_in new ≡ bytes_in old

-- what is kept of the code at an index, `None` if there is no code
abbrev pub kept_at : Table → ℕ → Option Kept
kept_at t code = kept_in t.values.now t.slots.now t.shares.now code

-- a call changes what is kept of the code at an index, and nothing else; if there is no code it
-- changes nothing
abbrev pub ChangesCode : ℕ → (Kept → Kept) → Table → Table → Type 0
ChangesCode code f old new = ChangesAt code f old.values.now old.slots.now old.shares.now new.values.now new.slots.now new.shares.now

-- the value of the code at an index, as it was last written
abbrev pub held_at : Table → ℕ → Held
held_at t code = unwrap_or (option_map (λ (k : Kept). k.held) (kept_at t code)) Held.Unset

-- a call gives the code at an index the value of a change with this text, if the code may have that
-- text
abbrev pub GivesValue : Form → List ℕ → ℕ → Table → Table → Type 0
GivesValue form text code old new = (c : Code) (k : Kept) → IsText form c text → c.event ≡ false → kept_at old code ≡ Some k
    → share_of c.size ≤ k.room → value_at_size c.size (held_at new code) ≡ Some (value_with c.size (model_form form) text)

-- the same, with the form and text of a value, if the table is laid out
abbrev pub GivesText : ChangeValue → ℕ → Table → Table → Type 0
GivesText value code old new = IsLaidOut old → GivesValue (form_in value) (text_of_value value) code old new

-- a call makes this of the code at an index, if the table is laid out, and keeps the table
pub record SetsCode (code : ℕ) (f : Kept → Kept) (old new : Table) : Type 0 where
  pub keeps : KeepsTable old new
  pub changes : IsLaidOut old → ChangesCode code f old new

-- a call gives the code at an index binary digits, in any table; with room for 8 bytes it is the
-- same as by their text
pub record SetsNumber (code : ℕ) (b : Bits) (old new : Table) : Type 0 where
  pub changes : ChangesCode code (with_number b.len b.number) old new
  pub as_text : (k : Kept) → kept_at old code ≡ Some k → 8 ≤ k.room → ChangesCode code (with_text form.Vector (binary_digits b.len b.number)) old new

-- the three counters of the code at an index
abbrev pub counts_at : Table → ℕ → List ℕ
counts_at t code = unwrap_or (option_map (λ (k : Kept). k.counts) (kept_at t code)) (0 ∷ 0 ∷ 0 ∷ [])

-- the code at an index is chosen
abbrev pub is_chosen : Table → ℕ → Bool
is_chosen t code = unwrap_or (option_map (λ (k : Kept). k.chosen) (kept_at t code)) false

-- what `get` shows of a value
abbrev pub shown_as : Held → Shown
shown_as Held.Unset = shown.Unset
shown_as (Held.Digits ds) = shown.Bits
shown_as (Held.Text text) = shown.Real

-- a new table: each code is unset, and has its share of n bytes
abbrev pub new_at : List Code → ℕ → ℕ → Option Kept
new_at codes n code = option_map (λ (c : Code). unset (start_of codes n (code + 1) - start_of codes n code)) (slice_get codes code)

-- if the bytes of values suffice for all of these codes, each has its whole share, and is unset
abbrev pub GivesShares : List Code → ℕ → Table → Type 0
GivesShares codes n t = room_of codes ≤ n → (code : ℕ) (c : Code) → slice_get codes code ≡ Some c → kept_at t code ≡ Some (unset (share_of c.size))

-- ---- over a header

-- the codes that a view shows
abbrev pub shown_code : List ℕ → Code → IdCode
shown_code text c = record { text = text_in text c.start c.len; size = c.size; event = c.event }

abbrev pub codes_shown : HeadView → List IdCode
codes_shown v = map (shown_code v.text.now) v.codes.now

-- the value of the code at an index among these, at its size
abbrev pub value_in : List IdCode → Table → ℕ → Option Value
value_in codes t code = option_and_then (λ (c : IdCode). value_at_size c.size (held_at t code)) (slice_get codes code)

-- the line that gives the code at an index its value, or nothing if it is unset
abbrev pub line_of : List IdCode → Table → ℕ → List ℕ
line_of codes t code = unwrap_or (option_map (λ (c : IdCode). line_if_set c (value_in codes t code)) (slice_get codes code)) []
