-- Codes of variables, as they are asked for and entered.
use Rattle.std.specs.Prelude.{◌≡◌, ℕ, ◌<◌, ◌^◌, Bool, false, MatchBool, List, [], ◌∷◌, ◌++◌, length, Option, Result, IfOk}
use Rattle.std.specs.List.{list_any, position_or_len}
use Rattle.vcd_model.specs.Declarations.{Declaration, Variable, code_of}
use Rattle.vcd_view.specs.Views.{IsSize}
use Rattle.vcd_view.specs.declared.view.Code.{Code}
use Rattle.vcd_head.specs.Codes.{Rises, keys_of}
use Rattle.vcd_head.specs.Draft.{HasCodes, IsEntered}
use Rattle.vcd_head.specs.Keys.{is_key, shape_in, shape_of}
use Rattle.vcd_head.specs.declared.code_key.CodeKey.{CodeKey}
use Rattle.vcd_head.specs.declared.codes.Codes.{Codes}
use Rattle.vcd_head.specs.declared.fault.HeadFault.{HeadFault}

-- the variable has the code with these bytes, this size, and is an event or none
abbrev pub IsCoded : Variable → List ℕ → ℕ → Bool → Type 0
IsCoded v bytes size event = code_of v ≡ record { text = bytes; size = size; event = event }

-- the code of such a variable is entered
abbrev pub Enters : (old new : List ℕ) → (known known_after : Codes) → List ℕ → ℕ → Bool → Result (Option ℕ) HeadFault → Type 0
Enters old new known known_after bytes size event r = (ds : List Declaration) (v : Variable) → HasCodes old known ds → IsCoded v bytes size event
    → IsSize size → IfOk r (IsEntered old new known_after ds v)

-- no code has these bytes, of this many as a number of 64 bits can count
abbrev pub IsNewCode : Codes → List ℕ → Type 0
IsNewCode known bytes = length (keys_of known) < 2 ^ 64 → list_any (is_key bytes) (keys_of known) ≡ false

-- the code with these bytes, which are there in the text
abbrev pub code_with : ℕ → List ℕ → ℕ → Bool → Code
code_with start bytes size event = record { start = start; len = length bytes; size = size; event = event }

-- the key of the code with these bytes was not there, and is now after the others
pub record AddsKey (t : List ℕ) (old new : List CodeKey) (position : ℕ) : Type 0 where
  pub absent : list_any (is_key t) old ≡ false
  pub key : CodeKey
  pub own : shape_of key ≡ shape_in t
  pub behind : new ≡ old ++ key ∷ []
  pub last : position ≡ length old

-- the key is at this index
pub record HasKey (t : List ℕ) (old new : List CodeKey) (position : ℕ) : Type 0 where
  pub at : position ≡ position_or_len (is_key t) old
  pub within : position < length old
  pub same : new ≡ old

-- the key of the code with these bytes is at this index, and is new or not
pub record EntersKey (t : List ℕ) (before after : Codes) (position : ℕ) (is_new : Bool) : Type 0 where
  pub rises : Rises after.rising.items
  pub list : after.list.items ≡ before.list.items
  pub entered : MatchBool is_new (AddsKey t (keys_of before) (keys_of after) position) (HasKey t (keys_of before) (keys_of after) position)
