-- Items that are taken ahead of the feed, and what they leave once it has passed them.
use Rattle.std.specs.Prelude.{◌≡◌, ℕ, ◌<◌, ◌≤◌, drop, slice_get, List, [], ◌∷◌, ◌++◌, length, map, Option, Some, None, IfSome}
use Rattle.vcd_model.specs.Input.{Input}
use Rattle.vcd_model.specs.Tokens.{Token}
use Rattle.vcd_model.specs.Declarations.{IdCode}
use Rattle.vcd_model.specs.Items.{BodyItem, ChangeForm}
use Rattle.vcd_model.specs.BodyPhrases.{BodyPhrase, body_phrase, items_of}
use Rattle.vcd_model.specs.BodyChecks.{body_fault}
use Rattle.vcd_model.specs.BodyReading.{body_grammar}
use Rattle.vcd_model.specs.Reading.{Placed, phrases_of}
use Rattle.vcd_model.specs.SoFar.{IsSoFar}
use Rattle.vcd_text.specs.Ahead.{ahead_of, bytes_of, lines_of, longest_of, passed_of}
use Rattle.vcd_text.specs.Passed.{Passed}
use Rattle.vcd_text.specs.declared.ahead.Ahead.{Ahead}
use Rattle.vcd_text.specs.Feed.{HasGiven, HasReadTo, limit_of}
use Rattle.vcd_text.specs.declared.device.Source.{Ghosts}
use Rattle.vcd_text.specs.declared.feed.Feed.{Feed}
use Rattle.vcd_view.specs.declared.view.Code.{Code}
use Rattle.vcd_view.specs.Finds.{IsSized}
use Rattle.vcd_view.specs.Keywords.{NoEnds}
use Rattle.vcd_view.specs.declared.look_up.Found.{Found}
use Rattle.vcd_body.specs.declared.values.bits.Bits.{Bits}
use Rattle.vcd_body.specs.declared.item.Form.TheVariants as form
use Rattle.vcd_body.specs.declared.item.Item.{Item}
use Rattle.vcd_body.specs.declared.item.Item.TheVariants.{Change, Finish}
use Rattle.vcd_body.specs.declared.item.Regs.{Regs}
use Rattle.vcd_body.specs.Binary.{binary_digits}
use Rattle.vcd_body.specs.Items.{AreRegsAfter}
use Rattle.vcd_body.specs.Reads.{GaveItems}

-- a change, or another item of a body, with no text
abbrev pub IsPlain : List ℕ → Item → Type 0
IsPlain text (Change position form) = Unit {0}
IsPlain text Finish = ⊥
IsPlain text item = text ≡ []

-- a change's code is one of these and has this size, as a look-up returns it; no other item has one
abbrev pub IsSizedItem : List Code → Item → ℕ → Type 0
IsSizedItem codes (Change position form) most = IsSized codes (record { position = position; size_or_zero = most })
IsSizedItem codes item most = most ≡ 0

-- if there are bits, the item is a change by a vector, and the text is their digits
abbrev pub HasBits : Item → List ℕ → Option Bits → Type 0
HasBits item text bits = IfSome bits (λ b. (code : ℕ) × (item ≡ Change code form.Vector) × (text ≡ binary_digits b.len b.number))

-- it looks over these bytes, for tokens of at most this many
abbrev pub LooksOver : ℕ → List ℕ → Ahead → Type 0
LooksOver limit bytes a = (longest_of a ≡ limit) × (bytes_of a ≡ bytes)

-- two tokens are a phrase, which gives this item
pub record PassBoth (codes : List IdCode) (earlier : List BodyPhrase) (first second : List ℕ) (x : BodyItem) : Type 0 where
  pub begins : body_fault codes earlier [] first ≡ None
  pub open_after : body_phrase codes (first ∷ []) ≡ None
  pub goes_on : body_fault codes earlier (first ∷ []) second ≡ None
  pub whole : body_phrase codes (first ∷ second ∷ []) ≡ Some (BodyPhrase.Gives x)

-- a token and that of the code that was found are the phrase of a change
abbrev pub GivesBoth : List IdCode → ChangeForm → List ℕ → List ℕ → Found → Type 0
GivesBoth codes form first second found = (c : IdCode) × (slice_get codes found.position ≡ Some c)
    × ((earlier : List BodyPhrase) → PassBoth codes earlier first second (BodyItem.Changes (record { code = c; form = form; text = drop 1 first })))

-- whatever phrases with the items before come first, the reading continues with these tokens, as
-- these phrases
abbrev pub ReadsOn : List IdCode → List BodyItem → List Token → List (Placed BodyPhrase) → Type 0
ReadsOn codes before tokens placed = (given : List Token) (earlier : List (Placed BodyPhrase)) → items_of (phrases_of earlier) ≡ before
    → IsSoFar (body_grammar codes) given earlier [] → IsSoFar (body_grammar codes) (given ++ tokens) (earlier ++ placed) []

-- After these items one more lies ahead: its phrase ends with the last of some first ones of these
-- tokens.
pub record EndsAhead (codes : List IdCode) (limit lines : ℕ) (bytes : List ℕ) (before items : List BodyItem) (x : BodyItem) (tokens : List Token) : Type 0 where
  pub end : ℕ
  pub some : 0 < end
  pub first : List Token
  pub rest : List Token
  pub tokens_are : tokens ≡ first ++ rest
  pub passed : Passed limit lines bytes end first
  pub placed : List (Placed BodyPhrase)
  pub items_are : items_of (phrases_of placed) ≡ items
  pub line : ℕ
  pub so_far : ReadsOn codes before first (placed ++ record { phrase = BodyPhrase.Gives x; line = line } ∷ [])

-- The first n bytes ahead are whole phrases with these items, if the items before them are these:
-- each phrase gives an item or is a comment. Whatever was given with those, the reading continues
-- with these.
pub record GaveAhead (codes : List IdCode) (limit lines : ℕ) (bytes : List ℕ) (n : ℕ) (before items : List BodyItem) : Type 0 where
  pub tokens : List Token
  pub passed : Passed limit lines bytes n tokens
  pub placed : List (Placed BodyPhrase)
  pub items_are : items_of (phrases_of placed) ≡ items
  pub so_far : ReadsOn codes before tokens placed
  -- where the last item ends, after which only comments come
  pub last : (front : List BodyItem) (x : BodyItem) → items ≡ front ++ x ∷ [] → EndsAhead codes limit lines bytes before front x tokens
  -- there are no more of them than bytes
  pub few : length items ≤ n

-- No item was passed, from one position ahead to another: comments, or nothing.
pub record PassesNoItem (a a' : Ahead) : Type 0 where
  pub gives : (codes : List IdCode) (limit lines : ℕ) (bytes : List ℕ) (before items : List BodyItem) → LooksOver limit bytes a
      → GaveAhead codes limit lines bytes (passed_of a) before items → GaveAhead codes limit lines bytes (passed_of a') before items
  pub passes : (limit lines : ℕ) (bytes : List ℕ) (ts : List Token) → LooksOver limit bytes a → Passed limit lines bytes (passed_of a) ts
      → (more : List Token) × Passed limit lines bytes (passed_of a') (ts ++ more)
  pub further : passed_of a ≤ passed_of a'
  pub within : passed_of a ≤ length (bytes_of a) → passed_of a' ≤ length (bytes_of a')
  pub same : (bytes_of a' ≡ bytes_of a) × (longest_of a' ≡ longest_of a)

-- After these items one more was given; its phrase ends with the last of these first tokens, and at
-- most a chunk was read past that. Only comments were given after it.
pub record GaveLast {X : Type 0} {g : Ghosts X} (codes : List IdCode) (i : Input) (front : List Token) (items : List BodyItem) (x : BodyItem) (f : Feed X g) (r : Regs) : Type 0 where
  pub gave : GaveItems codes i front (items ++ x ∷ []) f r
  pub first : List Token
  pub rest : List Token
  pub given_are : gave.given ≡ first ++ rest
  pub before : List (Placed BodyPhrase)
  pub before_are : items_of (phrases_of before) ≡ items
  pub line : ℕ
  pub so_far : IsSoFar (body_grammar codes) first (before ++ record { phrase = BodyPhrase.Gives x; line = line } ∷ []) []
  pub near : HasReadTo i (front ++ first) f

-- Whatever items were given before, those that the next n bytes are were given after them.
abbrev pub GivesAhead : {X : Type 0} {g : Ghosts X} → ℕ → (old new : Feed X g) → Type 0
GivesAhead n old new = (codes : List IdCode) (i : Input) (front : List Token) (before items : List BodyItem) (first last : Regs)
    → GaveItems codes i front before old first → GaveAhead codes (limit_of old) (lines_of old) (ahead_of old) n before items
    → AreRegsAfter (before ++ items) last
    → GaveItems codes i front (before ++ items) new last

-- With the last of them no more than a chunk was read past it.
abbrev pub GivesToLast : {X : Type 0} {g : Ghosts X} → ℕ → (old new : Feed X g) → Type 0
GivesToLast n old new = (codes : List IdCode) (i : Input) (front : List Token) (before items : List BodyItem) (x : BodyItem) (first last : Regs)
    → GaveItems codes i front before old first → GaveAhead codes (limit_of old) (lines_of old) (ahead_of old) n before (items ++ x ∷ [])
    → AreRegsAfter (before ++ (items ++ x ∷ [])) last
    → GaveLast codes i front (before ++ items) x new last

-- Comments were given, and no item.
abbrev pub GivesNoItem : {X : Type 0} {g : Ghosts X} → (old new : Feed X g) → Type 0
GivesNoItem old new = (codes : List IdCode) (i : Input) (front : List Token) (items : List BodyItem) (r : Regs) → GaveItems codes i front items old r → GaveItems codes i front items new r

-- ---- words up to an `$end`

-- the bytes of these tokens
abbrev pub texts_of : List Token → List (List ℕ)
texts_of ts = map (λ (t : Token). t.bytes) ts

-- tokens of which none is `$end`
abbrev pub AreWords : List Token → Type 0
AreWords ts = NoEnds (texts_of ts)

-- the first n bytes ahead are exactly some tokens, of which none is `$end`
abbrev pub PassesWordsTo : Ahead → ℕ → Type 0
PassesWordsTo a n = (lines : ℕ) → (ts : List Token) × AreWords ts × Passed (longest_of a) lines (bytes_of a) n ts

-- if some tokens were given, some more were given too, of which none is `$end`
abbrev pub PassesWords : {X : Type 0} {g : Ghosts X} → (old new : Feed X g) → Type 0
PassesWords old new = (ts : List Token) × AreWords ts × ((i : Input) (given : List Token) → HasGiven i given old → HasGiven i (given ++ ts) new)
