-- Which code a look-up finds.
use Rattle.std.specs.Prelude.{◌≡◌, ℕ, List, find, Option, Some, None, slice_get}
use Rattle.std.specs.Int.Digits.{digits_of}
use Rattle.vcd_model.specs.Declarations.{IdCode, has_text}
use Rattle.vcd_view.specs.declared.view.Code.{Code}
use Rattle.vcd_view.specs.declared.look_up.Found.{Found}
use Rattle.vcd_view.specs.Entries.{size_or_zero_of}

-- the index of the code with this text among these; `None` if none of them has it
abbrev pub Finds : List IdCode → List ℕ → Option ℕ → Type 0
Finds codes text (Some position) = (c : IdCode) × (slice_get codes position ≡ Some c) × (find (has_text text) codes ≡ Some c)
Finds codes text None = find (has_text text) codes ≡ None

-- the code that was found is one of these, and its size is given
abbrev pub IsSized : List Code → Found → Type 0
IsSized codes f = (c : Code) × (slice_get codes f.position ≡ Some c) × (f.size_or_zero ≡ size_or_zero_of c)

-- the binary digits of a number
abbrev pub bits_of : ℕ → List ℕ
bits_of n = digits_of 2 n
