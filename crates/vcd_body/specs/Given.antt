-- What a call gives: an item, its text, and what the body has when it ends.
use Rattle.std.specs.Prelude.{◌≡◌, ℕ, ◌<◌, ◌≤◌, false, IsTrue, List, [], ◌∷◌, length, take, drop, Option, Some, Result, IfOk, MatchOption, MatchResult, slice_get}
use Rattle.std.specs.List.{list_all}
use Rattle.vcd_model.specs.Input.{Input}
use Rattle.vcd_model.specs.Tokens.{Token}
use Rattle.vcd_model.specs.Declarations.{IdCode}
use Rattle.vcd_model.specs.Items.{BodyItem}
use Rattle.vcd_model.specs.BodyPhrases.{is_value_digit}
use Rattle.vcd_text.specs.Feed.{token_of, value_of}
use Rattle.vcd_text.specs.declared.device.Source.{Ghosts}
use Rattle.vcd_text.specs.declared.feed.Feed.{Feed}
use Rattle.vcd_view.specs.declared.view.Code.{Code}
use Rattle.vcd_body.specs.declared.item.Form.{Form}
use Rattle.vcd_body.specs.declared.item.Form.TheVariants.{Scalar, Vector, RealText}
use Rattle.vcd_body.specs.declared.item.Item.{Item}
use Rattle.vcd_body.specs.declared.item.Item.TheVariants.{Time, Begin, End, Change, Finish}
use Rattle.vcd_body.specs.declared.item.Regs.{Regs}
use Rattle.vcd_body.specs.Items.{model_section, model_form, regs_after}
use Rattle.vcd_body.specs.Reads.{Fails, GaveAll, GaveItem, GaveItems}
use Rattle.vcd_body.specs.declared.fault.BodyFault.{BodyFault}

-- the text of the change that was read last
abbrev pub text_of : {X : Type 0} {g : Ghosts X} → Form → Feed X g → List ℕ
text_of Scalar f = take 1 (token_of f).bytes
text_of Vector f = drop 1 (value_of f)
text_of RealText f = drop 1 (value_of f)

-- one more item was given; at the end the body has all of them, and no fault
abbrev pub GivesItem : {X : Type 0} {g : Ghosts X} → List IdCode → Input → List Token → List BodyItem → Feed X g → Regs → Item → Type 0
GivesItem codes i front items f r (Time t) = GaveItem codes i front items (BodyItem.Time t) f r
GivesItem codes i front items f r (Begin s) = GaveItem codes i front items (BodyItem.Begin (model_section s)) f r
GivesItem codes i front items f r End = GaveItem codes i front items BodyItem.End f r
GivesItem codes i front items f r (Change code form) =
    (c : IdCode) × (slice_get codes code ≡ Some c) × GaveItem codes i front items (BodyItem.Changes (record { code = c; form = model_form form; text = text_of form f })) f r
GivesItem codes i front items f r Finish = GaveAll codes i front items f r

-- the definitions' item that an item with this text is; the text is that of a change
abbrev pub IsItem : List IdCode → List ℕ → Item → BodyItem → Type 0
IsItem codes text (Time t) x = x ≡ BodyItem.Time t
IsItem codes text (Begin s) x = x ≡ BodyItem.Begin (model_section s)
IsItem codes text End x = x ≡ BodyItem.End
IsItem codes text (Change code form) x = (c : IdCode) × (slice_get codes code ≡ Some c) × (x ≡ BodyItem.Changes (record { code = c; form = model_form form; text = text }))
IsItem codes text Finish x = ⊥

-- a text that a change may give this code: a digit; one or more digits, of which no more than its
-- size unless it is an event; or 1 to 64 bytes
abbrev pub IsText : Form → Code → List ℕ → Type 0
IsText Scalar code text = (d : ℕ) × IsTrue (is_value_digit d) × (text ≡ d ∷ [])
IsText Vector code text = (0 < length text) × IsTrue (list_all is_value_digit text) × (code.event ≡ false → length text ≤ code.size)
IsText RealText code text = (0 < length text) × (length text ≤ 64)

-- the code at this index may have this text
abbrev pub IsGoodText : List Code → ℕ → Form → List ℕ → Type 0
IsGoodText codes position form text = (code : Code) × (slice_get codes position ≡ Some code) × IsText form code text

-- a change is one of these codes, and this text is one that the code may have
abbrev pub HasGoodText : List Code → List ℕ → Item → Type 0
HasGoodText codes text (Time t) = Unit {0}
HasGoodText codes text (Begin s) = Unit {0}
HasGoodText codes text End = Unit {0}
HasGoodText codes text (Change position form) = IsGoodText codes position form text
HasGoodText codes text Finish = Unit {0}

-- the text of the item that was read last; only a change has one
abbrev pub item_text : {X : Type 0} {g : Ghosts X} → Feed X g → Item → List ℕ
item_text f (Time t) = []
item_text f (Begin s) = []
item_text f End = []
item_text f (Change position form) = text_of form f
item_text f Finish = []

-- a change is one of these codes, and has a text that the code may have
abbrev pub IsGoodChange : {X : Type 0} {g : Ghosts X} → List Code → Feed X g → Item → Type 0
IsGoodChange codes f item = HasGoodText codes (item_text f item) item

-- a phrase was read: it gives an item, or none as a comment does; or it has a fault
abbrev pub GivesPhrase : {X : Type 0} {g : Ghosts X} → List IdCode → Input → List Token → List BodyItem → Feed X g → Regs → Result (Option Item) BodyFault → Type 0
GivesPhrase codes i front items f r result = MatchResult result
    (λ item. MatchOption item (GaveItems codes i front items f r) (λ x. GivesItem codes i front items f r x))
    (λ fault. Fails codes i front items fault f)

-- if it gives a change, that is one of these codes, and has a text that the code may have
abbrev pub IsGoodPhrase : {X : Type 0} {g : Ghosts X} → List Code → Feed X g → Result (Option Item) BodyFault → Type 0
IsGoodPhrase codes f result = IfOk result (λ item. MatchOption item (Unit {0}) (IsGoodChange codes f))

-- the registers are those after it
abbrev pub AreRegsPast : Regs → Regs → Result (Option Item) BodyFault → Type 0
AreRegsPast old new result = MatchResult result (λ item. MatchOption item (new ≡ old) (λ x. new ≡ regs_after old x)) (λ _. new ≡ old)
