-- The line of a change of digits, and what its bytes are.
use Rattle.std.specs.Prelude.{◌≡◌, ℕ, ◌+◌, ◌<◌, ◌≤◌, Bool, true, drop, length, slice_index, List}
use Rattle.std.specs.Char.{to_ascii_lowercase}
use Rattle.std.specs.Str.{byte, str_to_ascii_lowercase}
use Rattle.vcd_model.specs.BodyPhrases.{is_value_digit}
use Rattle.vcd_model.specs.Values.{change_line, extend, short}
use Rattle.vcd_body.specs.Binary.{bit_of}
use Rattle.vcd_body.specs.Id.{id_text}
use Rattle.vcd_body.specs.Items.{model_form}
use Rattle.vcd_body.specs.declared.id.Id.{Id}
use Rattle.vcd_body.specs.declared.item.Form.{Form}

-- the line of a change of a code of this size, or of an event, with these bytes as the code
abbrev pub line_under : List ℕ → ℕ → Bool → Form → List ℕ → List ℕ
line_under id size event form text = change_line (record { code = record { text = id; size = size; event = event }; form = model_form form; text = text })

-- the same, with the bytes of this `Id` as the code
abbrev pub id_line : Id → ℕ → Bool → Form → List ℕ → List ℕ
id_line id size event form text = line_under (id_text id) size event form text

-- the digits in lower case, extended to this size
abbrev pub extended : List ℕ → ℕ → List ℕ
extended digits size = extend (str_to_ascii_lowercase digits) size

-- these digits from an index on, at least one, extend to the same, wherever all of them fit
abbrev pub Serves : ℕ → List ℕ → Type 0
Serves from ds = (from < length ds) × ((size : ℕ) → length ds ≤ size → extend (drop from ds) size ≡ extend ds size)

-- without this many, the digits are the shortest of their value at each size
abbrev pub IsNeedless : List ℕ → ℕ → Type 0
IsNeedless digits k = (k ≤ length digits) × ((size : ℕ) → drop k digits ≡ short (extend (str_to_ascii_lowercase digits) size))

-- the byte at an offset of these is a digit of a value, is in lower case, or is a binary digit
abbrev pub IsDigitAt : List ℕ → ℕ → Type 0
IsDigitAt bytes at = is_value_digit (slice_index bytes at) ≡ true

abbrev pub IsLowerAt : List ℕ → ℕ → Type 0
IsLowerAt bytes at = to_ascii_lowercase (slice_index bytes at) ≡ slice_index bytes at

abbrev pub IsBinaryAt : List ℕ → ℕ → Type 0
IsBinaryAt bytes at = slice_index bytes at ≡ byte "0" + bit_of (slice_index bytes at)

-- these digits are binary; the second says it only if `binary` is true
abbrev pub AreBinary : List ℕ → Type 0
AreBinary digits = (k : ℕ) → k < length digits → IsBinaryAt digits k

abbrev pub AreBinaryIf : Bool → List ℕ → Type 0
AreBinaryIf binary digits = binary ≡ true → AreBinary digits

-- the bit of that digit
abbrev pub bit_in : List ℕ → ℕ → ℕ
bit_in bytes at = bit_of (slice_index bytes at)

-- n bytes from an offset on are binary digits
abbrev pub AreBitsAt : List ℕ → ℕ → ℕ → Type 0
AreBitsAt bytes at n = (k : ℕ) → k < n → IsBinaryAt bytes (at + k)
