-- What the calls that read the tokens of a header promise.
use Rattle.std.specs.Prelude.{◌≡◌, ℕ, Bool, true, false, List, [], ◌∷◌, ◌++◌, Option, Result, MatchBool, MatchResult}
use Rattle.vcd_model.specs.HeaderPhrases.{HeaderPhrase}
use Rattle.vcd_model.specs.Input.{Input}
use Rattle.vcd_model.specs.Keywords.{Keyword, is_end}
use Rattle.vcd_model.specs.Reading.{Placed}
use Rattle.vcd_text.specs.Advances.{Advances, GoesFurther}
use Rattle.vcd_text.specs.Feed.{token_of}
use Rattle.vcd_text.specs.declared.device.Source.{Ghosts}
use Rattle.vcd_text.specs.declared.feed.Feed.{Feed}
use Rattle.vcd_view.specs.declared.keyword.Keyword.{Keyword as WordOf}
use Rattle.vcd_head.specs.Draft.{AtFirstToken, AtKeyword, AtOther, DraftsAll, DraftsUpTo, goes_on}
use Rattle.vcd_head.specs.Fault.{call_end, fault_number}
use Rattle.vcd_head.specs.Reads.{Fails, FailsAtToken, Reads, ReadsToken}
use Rattle.vcd_head.specs.Texts.{AsksEnd, EndsThere, RunsOn, Welcomes}
use Rattle.vcd_head.specs.declared.draft.Draft.{Draft}
use Rattle.vcd_head.specs.declared.fault.HeadFault.{HeadFault}

-- the feed has moved on as far as a call with this end says
abbrev pub MovesOn : {X A : Type 0} {g : Ghosts X} → (X → ℕ) → (old new : Feed X g) → Result A HeadFault → Type 0
MovesOn failures old new r = Advances failures old new (call_end r)

-- the same, and by a byte or more if the call succeeds
abbrev pub MovesFurther : {X A : Type 0} {g : Ghosts X} → (X → ℕ) → (old new : Feed X g) → Result A HeadFault → Type 0
MovesFurther failures old new r = GoesFurther failures old new (call_end r) r

-- the result is this, or the header's fault
abbrev pub OrFails : {X A : Type 0} {g : Ghosts X} → ℕ → Input → Feed X g → (A → Type 0) → Result A HeadFault → Type 0
OrFails most i f Q r = MatchResult r Q (λ fault. Fails most i fault f)

-- after this keyword the rest of its phrase was read, which the draft now holds
abbrev pub ReadsPhrase : {X A : Type 0} {g : Ghosts X} → ℕ → Keyword → (old : Draft) → Feed X g → (new : Draft) → Feed X g → Result A HeadFault → Type 0
ReadsPhrase most k old before new after r = (i : Input) → AtKeyword most i k old before → OrFails most i after (λ _. DraftsUpTo most i new after) r

-- the same, however many declarations are allowed
abbrev pub ReadsText : {X A : Type 0} {g : Ghosts X} → Keyword → (old : Draft) → Feed X g → (new : Draft) → Feed X g → Result A HeadFault → Type 0
ReadsText k old before new after r = (most : ℕ) → ReadsPhrase most k old before new after r

-- if a phrase runs on, its tokens were read up to the first `$end`
abbrev pub ReadsToEnd : {X A : Type 0} {g : Ghosts X} → (old new : Feed X g) → (A → List (List ℕ) → Type 0) → Result A HeadFault → Type 0
ReadsToEnd old new Grows r = (most : ℕ) (i : Input) (placed : List (Placed HeaderPhrase)) (before : List (List ℕ)) → RunsOn most placed before
    → Reads most i placed before old → OrFails most i new (λ x. EndsThere most i placed before new (Grows x)) r

-- after these first tokens of a phrase one more was read
abbrev pub ReadsNext : {X A : Type 0} {g : Ghosts X} → Feed X g → Feed X g → Result A HeadFault → Type 0
ReadsNext old new r = (most : ℕ) (i : Input) (placed : List (Placed HeaderPhrase)) (before : List (List ℕ)) → Reads most i placed before old
    → OrFails most i new (λ _. ReadsToken most i placed before new) r

-- this is the header's fault, if it has it at the token that the feed shows
abbrev pub IsFault : {X : Type 0} {g : Ghosts X} → ℕ → Input → HeadFault → Feed X g → Type 0
IsFault most i fault f = FailsAtToken most i (fault_number fault) f → Fails most i fault f

-- after these first tokens, which a word may follow, one was read; `$end` is this fault
abbrev pub ReadsWord : {X A : Type 0} {g : Ghosts X} → HeadFault → Feed X g → Feed X g → Result A HeadFault → Type 0
ReadsWord fault old new r = (most : ℕ) (i : Input) (placed : List (Placed HeaderPhrase)) (before : List (List ℕ))
    → Welcomes most placed before (fault_number fault) → IsFault most i fault new → Reads most i placed before old
    → OrFails most i new (λ _. Reads most i placed (before ++ (token_of new).bytes ∷ []) new × (is_end (token_of new).bytes ≡ false)) r

-- after these first tokens `$end` was read; another token is this fault
abbrev pub ReadsEnd : {X A : Type 0} {g : Ghosts X} → HeadFault → Feed X g → Feed X g → Result A HeadFault → Type 0
ReadsEnd fault old new r = (most : ℕ) (i : Input) (placed : List (Placed HeaderPhrase)) (before : List (List ℕ))
    → AsksEnd most placed before (fault_number fault) → IsFault most i fault new → Reads most i placed before old
    → OrFails most i new (λ _. ReadsToken most i placed before new × (is_end (token_of new).bytes ≡ true)) r

-- after a token that is no keyword the rest of its phrase was read, which changes no draft
abbrev pub ReadsOther : {X A : Type 0} {g : Ghosts X} → Feed X g → Feed X g → Result A HeadFault → Type 0
ReadsOther before after r = (most : ℕ) (i : Input) (draft : Draft) → AtOther most i draft before → OrFails most i after (λ _. DraftsUpTo most i draft after) r

-- after its first token, which is this keyword or none, the rest of a phrase was read
abbrev pub ReadsRest : {X A : Type 0} {g : Ghosts X} → ℕ → Option WordOf → (old : Draft) → Feed X g → (new : Draft) → Feed X g → Result A HeadFault → Type 0
ReadsRest most k old before new after r = (i : Input) → AtFirstToken most i k old before
    → MatchResult r (λ _. MatchBool (goes_on k) (DraftsUpTo most i new after) (DraftsAll most i new after)) (λ fault. Fails most i fault after)

-- a whole phrase was read, and this is whether others may follow it
abbrev pub ReadsAny : {X : Type 0} {g : Ghosts X} → ℕ → (old : Draft) → Feed X g → (new : Draft) → Feed X g → Result Bool HeadFault → Type 0
ReadsAny most old before new after r = (i : Input) → DraftsUpTo most i old before
    → MatchResult r (λ more. MatchBool more (DraftsUpTo most i new after) (DraftsAll most i new after)) (λ fault. Fails most i fault after)

-- all phrases were read, up to the one that ends the header
abbrev pub ReadsAll : {X A : Type 0} {g : Ghosts X} → ℕ → (old : Draft) → Feed X g → (new : Draft) → Feed X g → Result A HeadFault → Type 0
ReadsAll most old before new after r = (i : Input) → DraftsUpTo most i old before → OrFails most i after (λ _. DraftsAll most i new after) r
