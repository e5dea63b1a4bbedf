-- A value as its slot and its share hold it.
use Rattle.std.specs.Prelude.{◌≡◌, ℕ, List, Option, Some, None}
use Rattle.vcd_body.specs.Kept.{Held}
use Rattle.vcd_body.specs.Stored.{digits_with, held_with}
use Rattle.vcd_body.specs.declared.values.slot.HeldValue.{HeldValue}

-- the value that is held, and its digits, of which there may be none
abbrev pub held_in : HeldValue → Held
held_in v = held_with v.holding v.bytes.now

abbrev pub digits_of : HeldValue → List ℕ
digits_of v = digits_with v.holding v.bytes.now

-- what is held is digits
abbrev pub HasDigits : HeldValue → Type 0
HasDigits v = held_in v ≡ Held.Digits (digits_of v)

-- the value that is held, or unset if there is none
abbrev pub held_or : Option HeldValue → Held
held_or None = Held.Unset
held_or (Some v) = held_in v
