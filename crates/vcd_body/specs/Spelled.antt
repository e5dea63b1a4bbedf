-- The bytes that an item was taken from, ahead of the feed.
use Rattle.std.specs.Prelude.{◌≡◌, ℕ, ◌+◌, ◌-◌, ◌^◌, ◌<◌, ◌≤◌, true, List, [], ◌∷◌, ◌++◌, length, slice_get, slice_range, Some}
use Rattle.vcd_model.specs.Bytes.{decimal_value, is_decimal}
use Rattle.vcd_model.specs.Header.{Header}
use Rattle.vcd_model.specs.Declarations.{IdCode}
use Rattle.vcd_text.specs.Passed.{AreWhite}
use Rattle.vcd_view.specs.declared.view.HeadView.{HeadView}
use Rattle.vcd_view.specs.Views.{IsViewOf}
use Rattle.vcd_body.specs.declared.ahead.ScannedItem.{ScannedItem}
use Rattle.vcd_body.specs.declared.item.Form.{Form}
use Rattle.vcd_body.specs.declared.item.Form.TheVariants.{Scalar, Vector, RealText}
use Rattle.vcd_body.specs.declared.item.Item.{Item}
use Rattle.vcd_body.specs.declared.item.Item.TheVariants.{Time, Change}

-- from one offset up to another: white bytes, none or more, then this token, and one byte after it
pub record HasToken (bytes : List ℕ) (from to : ℕ) (token : List ℕ) : Type 0 where
  pub start : ℕ
  pub before : AreWhite bytes from start
  pub ends : to ≡ start + length token + 1
  pub within : to ≤ length bytes
  pub token_is : token ≡ slice_range bytes start (to - 1)

-- there is a change of this form with this text and this code: a digit and the code right after it,
-- or a letter and the text, and then the code
abbrev pub HasChange : List ℕ → ℕ → ℕ → Form → List ℕ → List ℕ → Type 0
HasChange bytes from to Scalar text code = (digit : ℕ) × (text ≡ digit ∷ []) × HasToken bytes from to (digit ∷ code)
HasChange bytes from to Vector text code = (letter : ℕ) × (middle : ℕ) × HasToken bytes from middle (letter ∷ text) × HasToken bytes middle to code
HasChange bytes from to RealText text code = (letter : ℕ) × (middle : ℕ) × HasToken bytes from middle (letter ∷ text) × HasToken bytes middle to code

-- the code at this index has these bytes, in each header that the view shows
abbrev pub Names : HeadView → ℕ → List ℕ → Type 0
Names v position text = (h : Header) (c : IdCode) → IsViewOf v h → slice_get h.codes position ≡ Some c → c.text ≡ text

-- the text of the change is at one offset, and its code after it at another, up to the last byte
pub record HasPlaces (bytes : List ℕ) (from to at code_at : ℕ) (text code : List ℕ) : Type 0 where
  pub after : from ≤ at
  pub apart : at + length text ≤ code_at
  pub ends : to ≡ code_at + length code + 1
  pub within : to ≤ length bytes
  pub text_is : text ≡ slice_range bytes at (at + length text)
  pub code_is : code ≡ slice_range bytes code_at (code_at + length code)

-- the decimal digits of a timestamp are at this offset, up to the last byte
pub record HasTimestamp (bytes : List ℕ) (from to at time : ℕ) : Type 0 where
  pub after : from < at
  pub before : at < to
  pub within : to ≤ length bytes
  pub digits : is_decimal (slice_range bytes at (to - 1)) ≡ true
  pub value : decimal_value (slice_range bytes at (to - 1)) ≡ time
  pub fits : time < 2 ^ 64

-- the bytes of an item, from its first one up to its end, are a change with its text and its code
-- at its offsets; or the digits of a timestamp; of a section's keyword only the order of its offsets
-- is said
abbrev pub IsSpelledAs : HeadView → ScannedItem → Item → Type 0
IsSpelledAs v p (Time time) = HasTimestamp p.bytes.now p.begin p.end p.at time
IsSpelledAs v p (Change position form) = (code : List ℕ) × HasChange p.bytes.now p.begin p.end form p.text.now code × Names v position code
    × HasPlaces p.bytes.now p.begin p.end p.at p.code_at p.text.now code
IsSpelledAs v p item = p.begin ≤ p.end

-- its bytes are what it is
abbrev pub IsSpelled : HeadView → ScannedItem → Type 0
IsSpelled v p = IsSpelledAs v p p.item

-- the bytes from one offset up to another, without this many after the first one
abbrev pub bytes_without : List ℕ → ℕ → ℕ → ℕ → List ℕ
bytes_without bytes from to n = slice_range bytes from (from + 1) ++ slice_range bytes (from + 1 + n) to

-- those up to the last one before another offset, without this many after the first one, and a line
-- feed
abbrev pub line_without : List ℕ → ℕ → ℕ → ℕ → List ℕ
line_without bytes from to n = bytes_without bytes from (to - 1) n ++ 10 ∷ []

-- a text is at an offset of these bytes
pub record StandsAt (bytes : List ℕ) (at : ℕ) (text : List ℕ) : Type 0 where
  pub within : at ≤ length bytes
  pub position : text ≡ slice_range bytes at (at + length text)
