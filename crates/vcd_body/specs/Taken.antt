-- What is taken ahead: a token where a phrase begins, and then the whole item.
use Rattle.std.specs.Prelude.{◌≡◌, ℕ, ◌-◌, ◌^◌, ◌<◌, ◌≤◌, Bool, false, true, List, [], ◌∷◌, ◌++◌, MatchOption, Option, drop, length, take}
use Rattle.vcd_model.specs.BodyPhrases.{BodyPhrase, section_keyword}
use Rattle.vcd_model.specs.Bytes.{decimal_value, is_decimal}
use Rattle.vcd_model.specs.Header.{Header}
use Rattle.vcd_model.specs.Items.{BodyItem}
use Rattle.vcd_model.specs.Keywords.{Keyword, keyword_text}
use Rattle.vcd_model.specs.Tokens.{Token}
use Rattle.vcd_text.specs.Ahead.{TakesToken, bytes_of, longest_of, passed_of}
use Rattle.vcd_text.specs.Passed.{AreWhite, Passed}
use Rattle.vcd_text.specs.declared.ahead.Ahead.{Ahead}
use Rattle.vcd_view.specs.Views.{IsViewOf}
use Rattle.vcd_view.specs.declared.view.HeadView.{HeadView}
use Rattle.vcd_view.specs.Finds.{IsSized}
use Rattle.vcd_view.specs.declared.look_up.Found.{Found}
use Rattle.vcd_body.specs.Ahead.{GaveAhead, GivesBoth, HasBits, IsPlain, IsSizedItem, LooksOver}
use Rattle.vcd_body.specs.Changes.{AreBinaryIf}
use Rattle.vcd_body.specs.Given.{HasGoodText, IsGoodText, IsItem}
use Rattle.vcd_body.specs.Items.{AreRegsAfter, model_form, model_section, regs_after}
use Rattle.vcd_body.specs.Reads.{PassesScalar}
use Rattle.vcd_body.specs.Spelled.{IsSpelled, Names}
use Rattle.vcd_body.specs.Words.{Begins}
use Rattle.vcd_body.specs.declared.ahead.Opening.{Opening}
use Rattle.vcd_body.specs.declared.ahead.ScannedItem.{ScannedItem}
use Rattle.vcd_body.specs.declared.ahead.VectorTokens.{VectorTokens}
use Rattle.vcd_body.specs.declared.item.Form.{Form}
use Rattle.vcd_body.specs.declared.item.Form.TheVariants as form
use Rattle.vcd_body.specs.declared.item.Item.{Item}
use Rattle.vcd_body.specs.declared.item.Item.TheVariants.{Begin, Change, End}
use Rattle.vcd_body.specs.declared.item.Regs.{Regs}
use Rattle.vcd_body.specs.declared.words.PhraseKind.TheVariants as kind

-- a token was taken, from one position ahead to another, and this is what it begins
pub record Opens (a a' : Ahead) (o : Opening) : Type 0 where
  pub token : TakesToken a a' o.token.now
  pub begins : Begins o.token.now o.kind

-- a timestamp's digits spell this time
abbrev pub HasTime : Opening → ℕ → Type 0
HasTime o time = (is_decimal (drop 1 o.token.now) ≡ true) × (decimal_value (drop 1 o.token.now) ≡ time) × (time < 2 ^ 64)

-- the tokens of a vector's change were taken, and where they begin
pub record OpensVector (a a' : Ahead) (t : VectorTokens) : Type 0 where
  pub middle : Ahead
  pub token : TakesToken a middle t.token.now
  pub begins : Begins t.token.now kind.Vector
  pub code : TakesToken middle a' t.code.now
  pub at : t.at ≡ passed_of middle - 1 - length t.token.now
  pub code_at : t.code_at ≡ passed_of a' - 1 - length t.code.now

-- the code after a digit was found: the token is the change of this code, which may have the digit
pub record IsFoundScalar (v : HeadView) (token : List ℕ) (found : Found) : Type 0 where
  pub code : (h : Header) (earlier : List BodyPhrase) → IsViewOf v h → PassesScalar h.codes earlier token found.position
  pub sound : IsGoodText v.codes.now found.position form.Scalar (take 1 token)
  pub names : Names v found.position (drop 1 token)
  pub sized : IsSized v.codes.now found

-- the code that a token names was found, after that of a change's text in this form: the two are a
-- phrase, and the code may have the text
pub record IsFound (v : HeadView) (form : Form) (first second : List ℕ) (found : Found) : Type 0 where
  pub code : (h : Header) → IsViewOf v h → GivesBoth h.codes (model_form form) first second found
  pub sound : IsGoodText v.codes.now found.position form (drop 1 first)
  pub names : Names v found.position second
  pub sized : IsSized v.codes.now found

-- an item was taken, from one position ahead to another, if the registers before it are these
pub record TakesItem (v : HeadView) (a a' : Ahead) (r : Regs) (p : ScannedItem) : Type 0 where
  -- it comes after the items given before and those taken ahead so far
  pub gives : (h : Header) (limit lines : ℕ) (bytes : List ℕ) (before items : List BodyItem) → IsViewOf v h → LooksOver limit bytes a
      → AreRegsAfter (before ++ items) r → GaveAhead h.codes limit lines bytes (passed_of a) before items
      → (x : BodyItem) × IsItem h.codes p.text.now p.item x × GaveAhead h.codes limit lines bytes (passed_of a') before (items ++ x ∷ [])
      × AreRegsAfter (before ++ (items ++ x ∷ [])) (regs_after r p.item)
  -- whatever the view is of, whole tokens were passed
  pub passes : (limit lines : ℕ) (bytes : List ℕ) (ts : List Token) → LooksOver limit bytes a → Passed limit lines bytes (passed_of a) ts
      → (more : List Token) × Passed limit lines bytes (passed_of a') (ts ++ more)
  pub sound : HasGoodText v.codes.now p.text.now p.item
  pub scanned : IsPlain p.text.now p.item
  pub sized : IsSizedItem v.codes.now p.item p.size_or_zero
  pub bits : HasBits p.item p.text.now p.bits
  pub binary : AreBinaryIf p.binary p.text.now
  -- it lies in these bytes after white space, up to what was passed, and they spell it
  pub bytes : p.bytes.now ≡ bytes_of a'
  pub before : AreWhite (bytes_of a) (passed_of a) p.begin
  pub ends : p.end ≡ passed_of a'
  pub spelled : IsSpelled v p
  pub further : passed_of a < passed_of a'
  pub within : passed_of a' ≤ length (bytes_of a')
  pub same : (bytes_of a' ≡ bytes_of a) × (longest_of a' ≡ longest_of a)

-- an item is a change by this form
abbrev pub IsChangeBy : Form → ScannedItem → Type 0
IsChangeBy form p = (position : ℕ) × (p.item ≡ Change position form)

-- an item is the begin or the end of a section
abbrev pub IsSection : Item → Type 0
IsSection (Begin s) = Unit {0}
IsSection End = Unit {0}
IsSection item = ⊥

-- a token is the keyword of a section's begin, outside any section, or of its end, inside one
abbrev pub IsSectionAt : Bool → List ℕ → Item → Type 0
IsSectionAt inside token (Begin s) = (token ≡ keyword_text (section_keyword (model_section s))) × (inside ≡ false)
IsSectionAt inside token End = (token ≡ keyword_text Keyword.End) × (inside ≡ true)
IsSectionAt inside token item = ⊥

-- wherever its first token was taken from, up to the first of these positions, the item was taken
-- from there up to the second, whatever the registers before it are
abbrev pub TakesOpened : HeadView → (middle to : Ahead) → Opening → ScannedItem → Type 0
TakesOpened v middle to o p = (a : Ahead) (r : Regs) → Opens a middle o → TakesItem v a to r p

-- an item of one token that names no code was taken after these registers, wherever its token was
-- taken from, whatever the view is of
abbrev pub TakesOpenedAfter : Ahead → Regs → Opening → ScannedItem → Type 0
TakesOpenedAfter to r o p = (a : Ahead) (v : HeadView) → Opens a to o → TakesItem v a to r p

-- the registers are those after the item that was taken; with none they stay
abbrev pub LeavesRegs : Regs → Regs → Option ScannedItem → Type 0
LeavesRegs old new o = MatchOption o (new ≡ old) (λ p. new ≡ regs_after old p.item)
