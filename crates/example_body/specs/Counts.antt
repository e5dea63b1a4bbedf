-- How many changes of each kind a dump has.
use Rattle.std.specs.Prelude.{◌≡◌, ℕ, ◌+◌, Bool, true, false, List, None, count_by}
use Rattle.vcd_head.specs.Model.Declarations.{IdCode}
use Rattle.vcd_head.specs.Model.Header.{header_of}
use Rattle.vcd_head.specs.Model.HeaderPhrases.{HeaderPhrase}
use Rattle.vcd_head.specs.Model.HeaderReading.{header_grammar}
use Rattle.vcd_head.specs.Model.Input.{Input}
use Rattle.vcd_head.specs.Model.Items.{BodyItem, ChangeForm}
use Rattle.vcd_head.specs.Model.Reading.{Placed, phrases_of}
use Rattle.vcd_head.specs.Model.SoFar.{IsWhole}
use Rattle.vcd_head.specs.Model.Tokens.{Token}
use Rattle.vcd_text.specs.Answer.{whole}
use Rattle.vcd_body.specs.Reads.{BodyHas}
use Rattle.vcd_body.specs.declared.item.Form.TheVariants.{Scalar, Vector, RealText}
use Rattle.vcd_body.specs.declared.item.Item.{Item}
use Rattle.vcd_body.specs.declared.item.Item.TheVariants.{Change}
use Rattle.example_body.specs.declared.Forms.{Forms}

abbrev pub is_scalar : ChangeForm → Bool
is_scalar ChangeForm.Scalar = true
is_scalar form = false

abbrev pub is_vector : ChangeForm → Bool
is_vector ChangeForm.Vector = true
is_vector form = false

abbrev pub is_real : ChangeForm → Bool
is_real ChangeForm.RealText = true
is_real form = false

-- the item is a change that is written so
abbrev pub is_change : (ChangeForm → Bool) → BodyItem → Bool
is_change written (BodyItem.Changes c) = written c.form
is_change written item = false

-- the counts are those of these items
pub record AreForms (items : List BodyItem) (f : Forms) : Type 0 where
  pub scalars : f.scalars ≡ count_by (is_change is_scalar) items
  pub vectors : f.vectors ≡ count_by (is_change is_vector) items
  pub reals : f.reals ≡ count_by (is_change is_real) items

-- one more item
abbrev pub counted : Forms → Item → Forms
counted f (Change code Scalar) = record f { scalars = f.scalars + 1 }
counted f (Change code Vector) = record f { vectors = f.vectors + 1 }
counted f (Change code RealText) = record f { reals = f.reals + 1 }
counted f other = f

-- the body after these tokens has no fault, and this many changes
pub record BodyCounts (codes : List IdCode) (i : Input) (front : List Token) (limit : ℕ) (f : Forms) : Type 0 where
  pub items : List BodyItem
  pub body : BodyHas codes i front limit items None
  pub counts : AreForms items f

-- the text begins with a whole header with no fault, and its body has this many changes
pub record DumpCounts (text : List ℕ) (f : Forms) : Type 0 where
  pub front : List Token
  pub placed : List (Placed HeaderPhrase)
  pub header : IsWhole (header_grammar 16777216) front placed
  pub body : BodyCounts (header_of (phrases_of placed)).codes (whole text) front 65536 f
