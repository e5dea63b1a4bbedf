-- A value that a change gives a code: the text that it is, and what a table makes of it.
use Rattle.std.specs.Prelude.{ℕ, List}
use Rattle.vcd_body.specs.Binary.{binary_digits}
use Rattle.vcd_body.specs.Kept.{Kept, with_change, with_number, with_number_change, with_text}
use Rattle.vcd_body.specs.declared.item.Form.{Form}
use Rattle.vcd_body.specs.declared.item.Form.TheVariants as form
use Rattle.vcd_body.specs.declared.values.value.Value.{Value}
use Rattle.vcd_body.specs.declared.values.value.Value.TheVariants.{Digits, Real, Bits}

-- the form of a value, and its text in that form
abbrev pub form_in : Value → Form
form_in (Digits text) = form.Vector
form_in (Real text) = form.RealText
form_in (Bits bits) = form.Vector

abbrev pub text_in : Value → List ℕ
text_in (Digits text) = text.now
text_in (Real text) = text.now
text_in (Bits bits) = binary_digits bits.len bits.number

-- what `does` makes of its form and its text
abbrev pub by_text : (Form → List ℕ → Kept → Kept) → Value → Kept → Kept
by_text does value = does (form_in value) (text_in value)

-- the value is set: by its text, if that has room; binary digits need none
abbrev pub with_value : Value → Kept → Kept
with_value (Digits text) k = with_text form.Vector text.now k
with_value (Real text) k = with_text form.RealText text.now k
with_value (Bits bits) k = with_number bits.len bits.number k

-- the value is set, and its step at a size is counted
abbrev pub with_value_change : ℕ → Value → Kept → Kept
with_value_change size (Digits text) k = with_change size form.Vector text.now k
with_value_change size (Real text) k = with_change size form.RealText text.now k
with_value_change size (Bits bits) k = with_number_change size bits.len bits.number k
