-- When bytes are the line of the change that they spell, and what to leave out of them otherwise.
use Rattle.std.specs.Prelude.{◌≡◌, ℕ, ◌+◌, ◌-◌, ◌<◌, ◌≤◌, false, List, [], ◌∷◌, ◌++◌, drop, length, slice_range, Bool, Option, IfSome}
use Rattle.std.specs.Str.{str_to_ascii_lowercase}
use Rattle.vcd_model.specs.Values.{extend, short}
use Rattle.vcd_body.specs.Binary.{binary_digits}
use Rattle.vcd_body.specs.Spelled.{HasChange, bytes_without}
use Rattle.vcd_body.specs.Changes.{AreBinaryIf, line_under}
use Rattle.vcd_body.specs.declared.values.bits.Bits.{Bits}
use Rattle.vcd_body.specs.declared.item.Form.{Form}
use Rattle.vcd_body.specs.declared.item.Form.TheVariants as form

-- a digit and a code, which begins at this offset, and a line feed are the line
abbrev pub IsDigitLine : List ℕ → ℕ → ℕ → ℕ → Type 0
IsDigitLine bytes from to code_at = (text code : List ℕ) → HasChange bytes from to form.Scalar text code → to ≡ code_at + length code + 1
    → slice_range bytes from (to - 1) ≡ str_to_ascii_lowercase text ++ code

-- a letter, a text, a blank and a code, which begins at this offset, and a line feed are the line
abbrev pub IsTextLine : List ℕ → ℕ → ℕ → ℕ → List ℕ → ℕ → Type 0
IsTextLine bytes from to first text code_at = (code : List ℕ) → HasChange bytes from to form.Vector text code → to ≡ code_at + length code + 1
    → slice_range bytes from (to - 1) ≡ first ∷ text ++ (32 ∷ code)

-- there may be the number of these digits
abbrev pub MayBe : Option Bits → List ℕ → Type 0
MayBe bits digits = IfSome bits (λ b. digits ≡ binary_digits b.len b.number)

-- without the first k, the digits are the shortest of the same value, if they are binary whenever
-- `binary` says so
abbrev pub LeavesShortest : List ℕ → Bool → ℕ → Type 0
LeavesShortest digits binary k = (k ≤ length digits) × (AreBinaryIf binary digits → (size : ℕ) → drop k digits ≡ short (extend (str_to_ascii_lowercase digits) size))

-- without k bytes after the `b`, the bytes before the last one, and a line feed, are the line
abbrev pub LeavesLine : List ℕ → ℕ → ℕ → List ℕ → Bool → ℕ → ℕ → Type 0
LeavesLine bytes from to digits binary code_at k = (k ≤ length digits)
    × ((code : List ℕ) → HasChange bytes from to form.Vector digits code → to ≡ code_at + length code + 1 → AreBinaryIf binary digits → (size : ℕ)
    → bytes_without bytes from (to - 1) k ≡ 98 ∷ short (extend (str_to_ascii_lowercase digits) size) ++ (32 ∷ code))

-- the line of a change of a code of this size is this front, a blank, the code and a line feed,
-- whatever the code is
abbrev pub IsFront : ℕ → Form → List ℕ → List ℕ → Type 0
IsFront size form text front = (code : List ℕ) → line_under code size false form text ≡ front ++ (32 ∷ code ++ 10 ∷ [])

-- without k bytes after the first one, the bytes before the last one, and a line feed, are the
-- line, if the digits are binary whenever `binary` says so
abbrev pub LeavesText : List ℕ → ℕ → ℕ → ℕ → Form → List ℕ → Bool → ℕ → ℕ → Type 0
LeavesText bytes from to size form text binary code_at k = (from + 2 + k ≤ to) × (front : List ℕ) × (0 < length front) × IsFront size form text front
    × ((code : List ℕ) → HasChange bytes from to form text code → to ≡ code_at + length code + 1 → AreBinaryIf binary text
    → bytes_without bytes from (to - 1) k ≡ front ++ (32 ∷ code))

-- without k bytes after the first one, the bytes before the blank before the code are the front
abbrev pub LeavesFront : List ℕ → ℕ → ℕ → Form → List ℕ → ℕ → ℕ → Type 0
LeavesFront bytes from size form text code_at k = (from + 2 + k ≤ code_at) × (code_at ≤ length bytes) × (front : List ℕ)
    × IsFront size form text front × (bytes_without bytes from (code_at - 1) k ≡ front)
