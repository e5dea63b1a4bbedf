-- How far the reading of a body has come, by what its feed has given.
use Rattle.std.specs.Prelude.{◌≡◌, ◌≢◌, ℕ, List, [], ◌∷◌, ◌++◌, drop, slice_get, take, Option, Some, None}
use Rattle.vcd_model.specs.Input.{Input}
use Rattle.vcd_model.specs.Tokens.{Token, stream_of}
use Rattle.vcd_model.specs.Declarations.{IdCode}
use Rattle.vcd_model.specs.Items.{BodyItem, ChangeForm}
use Rattle.vcd_model.specs.BodyPhrases.{BodyPhrase, body_phrase, declared_code, items_of}
use Rattle.vcd_model.specs.BodyChecks.{body_fault}
use Rattle.vcd_model.specs.BodyReading.{body_grammar, read_body, body_items, body_fault_of}
use Rattle.vcd_model.specs.Reading.{Fault, Placed, phrases_of}
use Rattle.vcd_model.specs.SoFar.{IsSoFar}
use Rattle.vcd_text.specs.Answer.{failed_after, Ends}
use Rattle.vcd_text.specs.Feed.{HasGiven, HasReadTo, GaveOnlySeen, token_of, limit_of, seen, value_of}
use Rattle.vcd_text.specs.declared.device.Source.{Ghosts}
use Rattle.vcd_text.specs.declared.feed.Feed.{Feed}
use Rattle.vcd_body.specs.declared.fault.BodyFault.{BodyFault}
use Rattle.vcd_body.specs.declared.fault.BodyFault.TheVariants.{ReadFailed}
use Rattle.vcd_body.specs.declared.item.Regs.{Regs}
use Rattle.vcd_body.specs.Fault.{fault_number}
use Rattle.vcd_body.specs.Items.{AreRegsAfter}

-- the body after these first tokens has these items and this fault, or none
pub record BodyHas (codes : List IdCode) (i : Input) (front : List Token) (limit : ℕ) (items : List BodyItem) (fault : Option Fault) : Type 0 where
  pub rest : List Token
  pub tokens : (stream_of limit i).tokens ≡ front ++ rest
  pub items_are : body_items (read_body codes rest) ≡ items
  pub fault_is : body_fault_of (stream_of limit i) (read_body codes rest) ≡ fault

module _ {X : Type 0} {g : Ghosts X} (codes : List IdCode) (i : Input) (front : List Token) where
  -- After these tokens, those of the header, the feed has given whole phrases with these items, and
  -- the registers say what is known of them.
  pub record GaveItems (items : List BodyItem) (f : Feed X g) (r : Regs) : Type 0 where
    pub given : List Token
    pub placed : List (Placed BodyPhrase)
    pub stands : HasGiven i (front ++ given) f
    pub so_far : IsSoFar (body_grammar codes) given placed []
    pub items_are : items_of (phrases_of placed) ≡ items
    pub known : AreRegsAfter items r

  -- The last of these phrases is an item that ends with the feed's last token, at its line, and at
  -- most a chunk was read past it.
  pub record GaveItem (items : List BodyItem) (x : BodyItem) (f : Feed X g) (r : Regs) : Type 0 where
    pub gave : GaveItems (items ++ x ∷ []) f r
    pub before : List (Placed BodyPhrase)
    pub before_are : items_of (phrases_of before) ≡ items
    pub last : gave.placed ≡ before ++ record { phrase = BodyPhrase.Gives x; line = (token_of f).line } ∷ []
    pub near : HasReadTo i (front ++ gave.given) f

  -- these are all tokens, and the body has exactly these items and no fault
  pub record GaveAll (items : List BodyItem) (f : Feed X g) (r : Regs) : Type 0 where
    pub gave : GaveItems items f r
    pub all : (stream_of (limit_of f) i).tokens ≡ front ++ gave.given
    pub has : BodyHas codes i front (limit_of f) items None

  -- ---- within a phrase

  -- after the first tokens those given are these good phrases, and then these first tokens of the
  -- next one
  pub record Reads (placed : List (Placed BodyPhrase)) (before : List (List ℕ)) (f : Feed X g) : Type 0 where
    pub given : List Token
    pub stands : HasGiven i (front ++ given) f
    pub so_far : IsSoFar (body_grammar codes) given placed before

  -- after them one more token was given, which was not looked at
  pub record Looks (placed : List (Placed BodyPhrase)) (before : List (List ℕ)) (f : Feed X g) : Type 0 where
    pub given : List Token
    pub stands : HasGiven i (front ++ given ++ token_of f ∷ []) f
    pub so_far : IsSoFar (body_grammar codes) given placed before

  -- no other token was given, and the input has come to its clean end
  pub record ReadsAll (placed : List (Placed BodyPhrase)) (before : List (List ℕ)) (f : Feed X g) : Type 0 where
    pub given : List Token
    pub stands : HasGiven i (front ++ given) f
    pub all : Ends (limit_of f) i (front ++ given) None (token_of f).line
    pub so_far : IsSoFar (body_grammar codes) given placed before

  -- no other token was given, and the input has no others
  pub record ReadsToEnd (placed : List (Placed BodyPhrase)) (before : List (List ℕ)) (f : Feed X g) : Type 0 where
    pub reads : Reads placed before f
    pub all : (stream_of (limit_of f) i).tokens ≡ front ++ reads.given

  -- one more phrase was given, which ends with the feed's last token; at most a chunk was read past
  -- it
  pub record ReadsPhrase (placed : List (Placed BodyPhrase)) (f : Feed X g) (p : BodyPhrase) : Type 0 where
    pub reads : Reads (placed ++ record { phrase = p; line = (token_of f).line } ∷ []) [] f
    pub near : HasReadTo i (front ++ reads.given) f

  -- where a body is refused after these items: at the feed's token, which was not looked at, or
  -- where no token is left
  pub data StopsAt (items : List BodyItem) (f : Feed X g) : Type 0 where
    AtToken : (placed : List (Placed BodyPhrase)) (before : List (List ℕ)) (items_are : items_of (phrases_of placed) ≡ items) (looks : Looks placed before f)
        (near : HasReadTo i (front ++ looks.given ++ token_of f ∷ []) f) → StopsAt items f
    AtEnd : (placed : List (Placed BodyPhrase)) (before : List (List ℕ)) (items_are : items_of (phrases_of placed) ≡ items) (ends : ReadsToEnd placed before f) → StopsAt items f

-- items were given, and then a token, which was not looked at, where a phrase begins
pub record Begun {X : Type 0} {g : Ghosts X} (codes : List IdCode) (i : Input) (front : List Token) (items : List BodyItem) (f : Feed X g) (r : Regs) : Type 0 where
  pub placed : List (Placed BodyPhrase)
  pub looks : Looks codes i front placed [] f
  pub items_are : items_of (phrases_of placed) ≡ items
  pub known : AreRegsAfter items r

-- over this input the body has these items and then this fault, at the feed's line, and the reading
-- stopped there
abbrev pub FailsOver : {X : Type 0} {g : Ghosts X} → List IdCode → Input → List Token → List BodyItem → ℕ → Feed X g → Type 0
FailsOver codes i front items number f = BodyHas codes i front (limit_of f) items (Some (record { number = number; line = (token_of f).line })) × StopsAt codes i front items f

-- why a body is refused: its fault; if the source failed, that of what it gave until then
abbrev pub Fails : {X : Type 0} {g : Ghosts X} → List IdCode → Input → List Token → List BodyItem → BodyFault → Feed X g → Type 0
Fails codes i front items ReadFailed f = FailsOver codes (failed_after (seen f) i) front items 31 f × GaveOnlySeen i f
Fails codes i front items fault f = FailsOver codes i front items (fault_number fault) f

-- a token is a phrase of its own, which gives this item
abbrev pub Passes : List IdCode → List BodyPhrase → List ℕ → BodyItem → Type 0
Passes codes earlier token x = (body_fault codes earlier [] token ≡ None) × (body_phrase codes (token ∷ []) ≡ Some (BodyPhrase.Gives x))

-- a token that begins a phrase has this fault
abbrev pub Refuses : List IdCode → List BodyPhrase → List ℕ → BodyFault → Type 0
Refuses codes earlier token fault = (fault ≢ ReadFailed) × (body_fault codes earlier [] token ≡ Some (fault_number fault))

-- a token begins a phrase, and is not a whole one
abbrev pub OpensPhrase : List IdCode → List BodyPhrase → List ℕ → Type 0
OpensPhrase codes earlier token = (body_fault codes earlier [] token ≡ None) × (body_phrase codes (token ∷ []) ≡ None)

-- a token after this one that is no declared code has the fault of an unknown code
abbrev pub AsksForCode : List IdCode → List BodyPhrase → List ℕ → Type 0
AsksForCode codes earlier first = (t : List ℕ) → declared_code codes t ≡ None → body_fault codes earlier (first ∷ []) t ≡ Some 16

-- these phrases are all that is good before this fault
abbrev pub FailsAfter : {X : Type 0} {g : Ghosts X} → List IdCode → Input → List Token → List (Placed BodyPhrase) → Feed X g → BodyFault → Type 0
FailsAfter codes i front placed f fault = Fails codes i front (items_of (phrases_of placed)) fault f

-- a token is the change of the code at this index by a digit
abbrev pub PassesScalar : List IdCode → List BodyPhrase → List ℕ → ℕ → Type 0
PassesScalar codes earlier token position = (c : IdCode) × (slice_get codes position ≡ Some c)
    × Passes codes earlier token (BodyItem.Changes (record { code = c; form = ChangeForm.Scalar; text = take 1 token }))

-- a change of the code at this index was read, by the kept value
abbrev pub ReadsChange : {X : Type 0} {g : Ghosts X} → List IdCode → Input → List Token → List (Placed BodyPhrase) → Feed X g → ChangeForm → ℕ → Type 0
ReadsChange codes i front placed f form position = (c : IdCode) × (slice_get codes position ≡ Some c)
    × ReadsPhrase codes i front placed f (BodyPhrase.Gives (BodyItem.Changes (record { code = c; form = form; text = drop 1 (value_of f) })))
