-- What the calls that read tokens and phrases of a body say, each over any input.
use Rattle.std.specs.Prelude.{◌≡◌, ℕ, ◌≤◌, List, [], ◌∷◌, drop, slice_get, Some, IsSome, Option, Bool, true, Result, Ok, IfOk, MatchBool, MatchResult}
use Rattle.vcd_model.specs.BodyPhrases.{BodyPhrase, declared_code, items_of}
use Rattle.vcd_model.specs.Declarations.{IdCode}
use Rattle.vcd_model.specs.Header.{Header}
use Rattle.vcd_model.specs.Input.{Input}
use Rattle.vcd_model.specs.Items.{BodyItem, ChangeForm, time_after}
use Rattle.vcd_model.specs.Keywords.{Keyword, keyword_text}
use Rattle.vcd_model.specs.Reading.{Placed, phrases_of}
use Rattle.vcd_model.specs.Tokens.{Token}
use Rattle.vcd_text.specs.Calls.{LieAhead, TakesFirst}
use Rattle.vcd_text.specs.Feed.{source_of, token_of, value_of}
use Rattle.vcd_text.specs.declared.device.Source.{Ghosts}
use Rattle.vcd_text.specs.declared.feed.Feed.{Feed}
use Rattle.vcd_view.specs.Views.{IsViewOf}
use Rattle.vcd_view.specs.declared.look_up.Found.{Found}
use Rattle.vcd_view.specs.declared.view.HeadView.{HeadView}
use Rattle.vcd_body.specs.Given.{GivesItem, GivesPhrase, IsGoodText}
use Rattle.vcd_body.specs.Items.{AreRegsAfter}
use Rattle.vcd_body.specs.Reads.{AsksForCode, Begun, Fails, FailsAfter, GaveItems, Looks, OpensPhrase, Passes, Reads, ReadsAll, ReadsChange, ReadsPhrase, Refuses}
use Rattle.vcd_body.specs.declared.fault.BodyFault.{BodyFault}
use Rattle.vcd_body.specs.declared.item.Form.{Form}
use Rattle.vcd_body.specs.declared.item.Item.{Item}
use Rattle.vcd_body.specs.declared.item.Regs.{Regs}

-- a timestamp is taken if one may come
abbrev pub ReadsTimestamp : List ℕ → Regs → Result ℕ BodyFault → Type 0
ReadsTimestamp token r result = (codes : List IdCode) (earlier : List BodyPhrase) → AreRegsAfter (items_of earlier) r
    → MatchResult result (λ time. Passes codes earlier token (BodyItem.Time time) × (time_after (items_of earlier) ≤ time))
    (Refuses codes earlier token)

-- the token has this fault, in each header that the view shows
abbrev pub RefusesIn : HeadView → List ℕ → BodyFault → Type 0
RefusesIn v token fault = (h : Header) (earlier : List BodyPhrase) → IsViewOf v h → Refuses h.codes earlier token fault

-- a token begins a phrase, or has a fault
abbrev pub OpensOrRefuses : {A : Type 0} → List ℕ → Result A BodyFault → Type 0
OpensOrRefuses token result = (codes : List IdCode) (earlier : List BodyPhrase) → MatchResult result (λ _. OpensPhrase codes earlier token) (Refuses codes earlier token)

-- one more token, or the end if there is none
abbrev pub ReadsToken : {X : Type 0} {g : Ghosts X} → (old new : Feed X g) → Result Bool BodyFault → Type 0
ReadsToken old new result = (codes : List IdCode) (i : Input) (front : List Token) (placed : List (Placed BodyPhrase)) (before : List (List ℕ)) → Reads codes i front placed before old
    → MatchResult result (λ more. MatchBool more (Looks codes i front placed before new) (ReadsAll codes i front placed before new)) (FailsAfter codes i front placed new)

-- if whole tokens lie ahead, the next one is given, and nothing is read for it
abbrev pub TakesToken : {X : Type 0} {g : Ghosts X} → (old new : Feed X g) → Result Bool BodyFault → Type 0
TakesToken old new result = (t : Token) (ts : List Token) → LieAhead old (t ∷ ts) → (result ≡ Ok true) × TakesFirst old new t ts

-- if a whole token lies ahead, nothing is read
abbrev pub NeedsOneToken : {X : Type 0} {g : Ghosts X} → (old new : Feed X g) → Type 0
NeedsOneToken old new = (t : Token) (ts : List Token) → LieAhead old (t ∷ ts) → source_of new ≡ source_of old

-- no comment was passed over, and nothing was read
abbrev pub EndsUnread : {X : Type 0} {g : Ghosts X} → (old new : Feed X g) → Result (Option Item) BodyFault → Type 0
EndsUnread old new result = IfOk result IsSome × (source_of new ≡ source_of old)

-- one more token of a phrase that has begun
abbrev pub ReadsInner : {A X : Type 0} {g : Ghosts X} → (old new : Feed X g) → Result A BodyFault → Type 0
ReadsInner old new result = (codes : List IdCode) (i : Input) (front : List Token) (placed : List (Placed BodyPhrase)) (first : List ℕ)
    (before : List (List ℕ)) → Reads codes i front placed (first ∷ before) old
    → MatchResult result (λ _. Looks codes i front placed (first ∷ before) new) (FailsAfter codes i front placed new)

-- the rest of a comment
abbrev pub ReadsComment : {A X : Type 0} {g : Ghosts X} → (old new : Feed X g) → Result A BodyFault → Type 0
ReadsComment old new result = (codes : List IdCode) (i : Input) (front : List Token) (placed : List (Placed BodyPhrase)) → Reads codes i front placed (keyword_text Keyword.Comment ∷ []) old
    → MatchResult result (λ _. (inner : List (List ℕ)) × ReadsPhrase codes i front placed new (BodyPhrase.Comment inner)) (FailsAfter codes i front placed new)

-- the code after a token that asks for one
abbrev pub ReadsCode : {X : Type 0} {g : Ghosts X} → HeadView → (old new : Feed X g) → Result Found BodyFault → Type 0
ReadsCode v old new result = (h : Header) (i : Input) (front : List Token) (placed : List (Placed BodyPhrase)) (first : List ℕ) → IsViewOf v h
    → AsksForCode h.codes (phrases_of placed) first → Reads h.codes i front placed (first ∷ []) old
    → MatchResult result (λ found. (c : IdCode) × (slice_get h.codes found.position ≡ Some c) × (declared_code h.codes (token_of new).bytes ≡ Some c)
    × Looks h.codes i front placed (first ∷ []) new) (FailsAfter h.codes i front placed new)

-- a change in this form, whose first token is the feed's
abbrev pub ReadsRest : {X : Type 0} {g : Ghosts X} → HeadView → ChangeForm → (old new : Feed X g) → Result ℕ BodyFault → Type 0
ReadsRest v form old new result = (h : Header) (i : Input) (front : List Token) (placed : List (Placed BodyPhrase)) → IsViewOf v h → Looks h.codes i front placed [] old
    → MatchResult result (ReadsChange h.codes i front placed new form) (FailsAfter h.codes i front placed new)

-- the code of the change may have the text that was kept
abbrev pub HasGoodValue : {X : Type 0} {g : Ghosts X} → HeadView → Form → Feed X g → Result ℕ BodyFault → Type 0
HasGoodValue v form new result = IfOk result (λ position. IsGoodText v.codes.now position form (drop 1 (value_of new)))

-- a phrase that begins with a command, whose token is the feed's
abbrev pub ReadsCommand : {X : Type 0} {g : Ghosts X} → (old new : Feed X g) → (r r' : Regs) → Result (Option Item) BodyFault → Type 0
ReadsCommand old new r r' result = (codes : List IdCode) (i : Input) (front : List Token) (items : List BodyItem) → Begun codes i front items old r → GivesPhrase codes i front items new r' result

-- one more phrase, or the end
abbrev pub ReadsOne : {X : Type 0} {g : Ghosts X} → HeadView → (old new : Feed X g) → (r r' : Regs) → Result (Option Item) BodyFault → Type 0
ReadsOne v old new r r' result = (h : Header) (i : Input) (front : List Token) (items : List BodyItem) → IsViewOf v h
    → GaveItems h.codes i front items old r → GivesPhrase h.codes i front items new r' result

-- one more item, after the items given so far; at the end they are all of the body's, and it has no
-- fault. A fault is the body's, after exactly these items
abbrev pub ReadsItem : {X : Type 0} {g : Ghosts X} → HeadView → (old new : Feed X g) → (r r' : Regs) → Result Item BodyFault → Type 0
ReadsItem v old new r r' result = (h : Header) (i : Input) (front : List Token) (items : List BodyItem) → IsViewOf v h
    → GaveItems h.codes i front items old r → MatchResult result (GivesItem h.codes i front items new r')
    (λ fault. Fails h.codes i front items fault new)
