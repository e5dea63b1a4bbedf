-- How far the phrase of a variable is read.
use Rattle.std.specs.Prelude.{◌≡◌, ℕ, ◌<◌, ◌^◌, true, false, List, [], ◌∷◌, ◌++◌, length, Some, Result}
use Rattle.std.specs.List.{join_with_byte}
use Rattle.vcd_model.specs.Bytes.{decimal_value, is_decimal}
use Rattle.vcd_model.specs.Declarations.{Variable}
use Rattle.vcd_model.specs.Input.{Input}
use Rattle.vcd_model.specs.Keywords.{Keyword, is_end, keyword_text}
use Rattle.vcd_model.specs.HeaderPhrases.{HeaderPhrase, declarations_of}
use Rattle.vcd_model.specs.Reading.{Placed, phrases_of}
use Rattle.vcd_text.specs.Feed.{token_of, value_of}
use Rattle.vcd_text.specs.declared.device.Source.{Ghosts}
use Rattle.vcd_text.specs.declared.feed.Feed.{Feed}
use Rattle.vcd_head.specs.Calls.{OrFails}
use Rattle.vcd_head.specs.Draft.{CodeHeld, HasCodes}
use Rattle.vcd_head.specs.Reads.{Reads}
use Rattle.vcd_head.specs.Texts.{EndsThere}
use Rattle.vcd_head.specs.declared.codes.Codes.{Codes}
use Rattle.vcd_head.specs.declared.fault.HeadFault.{HeadFault}
use Rattle.vcd_head.specs.Words.{size_in}

-- type and size are read, and the size is this
pub record SizeRead {X : Type 0} {g : Ghosts X} (most : ℕ) (i : Input) (placed : List (Placed HeaderPhrase)) (type : List ℕ) (f : Feed X g) (size : ℕ) : Type 0 where
  pub reads : Reads most i placed (keyword_text Keyword.Var ∷ type ∷ (token_of f).bytes ∷ []) f
  pub size_is : size_in (token_of f).bytes ≡ Some size

-- after keyword and type the size was read
abbrev pub ReadsSize : {X : Type 0} {g : Ghosts X} → (old new : Feed X g) → Result ℕ HeadFault → Type 0
ReadsSize old new r = (most : ℕ) (i : Input) (placed : List (Placed HeaderPhrase)) (type : List ℕ)
    → Reads most i placed (keyword_text Keyword.Var ∷ type ∷ []) old → OrFails most i new (SizeRead most i placed type new) r

-- the variable that has this type, these digits and this code
abbrev pub variable : (type digits code : List ℕ) → List (List ℕ) → Variable
variable type digits code reference = record { type = type; size = decimal_value digits; code = code; reference = reference }

-- type, size and code are read; the code is held at this index, and the feed keeps the type
pub record CodeRead {X : Type 0} {g : Ghosts X} (most : ℕ) (i : Input) (placed : List (Placed HeaderPhrase)) (old new : List ℕ) (codes : Codes) (f : Feed X g) (position : ℕ) : Type 0 where
  pub digits : List ℕ
  pub code : List ℕ
  pub decimal : is_decimal digits ≡ true
  pub reads : Reads most i placed (keyword_text Keyword.Var ∷ value_of f ∷ digits ∷ code ∷ []) f
  pub held : (reference : List (List ℕ)) → CodeHeld old new codes (declarations_of (phrases_of placed)) (variable (value_of f) digits code reference) position

-- after the keyword, type, size and code were read, and the code was entered beside the known ones
abbrev pub ReadsCode : {X : Type 0} {g : Ghosts X} → List ℕ → Codes → Feed X g → List ℕ → Codes → Feed X g → Result ℕ HeadFault → Type 0
ReadsCode old known before new codes after r = (most : ℕ) (i : Input) (placed : List (Placed HeaderPhrase))
    → HasCodes old known (declarations_of (phrases_of placed)) → length (declarations_of (phrases_of placed)) < 2 ^ 64
    → Reads most i placed (keyword_text Keyword.Var ∷ []) before → OrFails most i after (CodeRead most i placed old new codes after) r

-- the reference is read, up to the first `$end`; its first token has this length, and the text has
-- grown by its tokens with a space between
pub record ReferenceRead {X : Type 0} {g : Ghosts X} (most : ℕ) (i : Input) (placed : List (Placed HeaderPhrase)) (type digits code old new : List ℕ) (f : Feed X g) (name : ℕ) : Type 0 where
  pub first : List ℕ
  pub first_on : is_end first ≡ false
  pub name_is : name ≡ length first
  pub ends : EndsThere most i placed (keyword_text Keyword.Var ∷ type ∷ digits ∷ code ∷ first ∷ []) f (λ inner. new ≡ old ++ join_with_byte 32 (first ∷ inner))

-- after keyword, type, size and code the reference was read
abbrev pub ReadsReference : {X : Type 0} {g : Ghosts X} → List ℕ → Feed X g → List ℕ → Feed X g → Result ℕ HeadFault → Type 0
ReadsReference old before new after r = (most : ℕ) (i : Input) (placed : List (Placed HeaderPhrase)) (type digits code : List ℕ)
    → Reads most i placed (keyword_text Keyword.Var ∷ type ∷ digits ∷ code ∷ []) before
    → OrFails most i after (ReferenceRead most i placed type digits code old new after) r
