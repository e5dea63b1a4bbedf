-- How far the reading of a header has come, by what its feed has given.
use Rattle.std.specs.Prelude.{◌≡◌, ◌≢◌, ℕ, ◌+◌, List, [], ◌∷◌, ◌++◌, true, Some, Result, Err, MatchResult, OnOk}
use Rattle.vcd_model.specs.Input.{Input}
use Rattle.vcd_model.specs.Tokens.{Token, stream_of}
use Rattle.vcd_model.specs.HeaderPhrases.{HeaderPhrase}
use Rattle.vcd_model.specs.HeaderReading.{header_grammar, read_header, header_fault_of}
use Rattle.vcd_model.specs.Reading.{Placed, Ending, phrases_of, reading_of}
use Rattle.vcd_model.specs.Reading.Ending.{AtFault, AtEnd, AtLast}
use Rattle.vcd_model.specs.SoFar.{IsSoFar, IsWhole}
use Rattle.vcd_text.specs.Answer.{failed_after}
use Rattle.vcd_text.specs.Advances.{HasNotFailed}
use Rattle.vcd_text.specs.Feed.{HasGiven, HasReadTo, GaveOnlySeen, SameLoans, token_of, limit_of, chunk_len_of, seen, source_of}
use Rattle.vcd_text.specs.declared.device.Source.{Ghosts}
use Rattle.vcd_text.specs.declared.feed.Feed.{Feed}
use Rattle.vcd_head.specs.declared.fault.HeadFault.{HeadFault}
use Rattle.vcd_head.specs.declared.fault.HeadFault.TheVariants.{TokenTooLong, EndOfInput, InputTooLong, ReadFailed, OutOfMemory}
use Rattle.vcd_head.specs.declared.head.Head.{Head}
use Rattle.vcd_head.specs.Fault.{fault_number}
use Rattle.vcd_head.specs.Shown.{shown}
use Rattle.vcd_view.specs.Shown.{HeadShown}
use Rattle.vcd_view.specs.Views.{Views}
use Rattle.vcd_model.specs.Header.{header_of}

-- the tokens given so far have no fault, and the header continues after them
abbrev pub IsGoing : ℕ → List Token → Type 0
IsGoing most given = (reading_of (header_grammar most) given).ending ≡ AtEnd

-- the tokens given are these good phrases, and then these first tokens of the next one; the feed
-- shows the last
pub record Reads {X : Type 0} {g : Ghosts X} (most : ℕ) (i : Input) (placed : List (Placed HeaderPhrase)) (before : List (List ℕ)) (f : Feed X g) : Type 0 where
  pub given : List Token
  pub stands : HasGiven i given f
  pub so_far : IsSoFar (header_grammar most) given placed before
  pub last : given ≢ [] → (front : List Token) × (given ≡ front ++ token_of f ∷ [])

-- the tokens given but the last are these good phrases, and then these first tokens of the next
-- one; the last one was not looked at
pub record ReadsToken {X : Type 0} {g : Ghosts X} (most : ℕ) (i : Input) (placed : List (Placed HeaderPhrase)) (before : List (List ℕ)) (f : Feed X g) : Type 0 where
  pub given : List Token
  pub stands : HasGiven i (given ++ token_of f ∷ []) f
  pub so_far : IsSoFar (header_grammar most) given placed before

-- the tokens given are these good phrases, of which the last one ends the header; the feed shows
-- the last token
pub record ReadsWhole {X : Type 0} {g : Ghosts X} (most : ℕ) (i : Input) (placed : List (Placed HeaderPhrase)) (f : Feed X g) : Type 0 where
  pub given : List Token
  pub stands : HasGiven i (given ++ token_of f ∷ []) f
  pub going : IsGoing most given
  pub whole : IsWhole (header_grammar most) (given ++ token_of f ∷ []) placed

-- a reading with this ending has met no fault
abbrev pub IsNoFault : Ending → Type 0
IsNoFault (AtFault f) = ⊥
IsNoFault AtEnd = Unit {0}
IsNoFault AtLast = Unit {0}

-- the tokens given so far have no fault
abbrev pub IsFaultless : ℕ → List Token → Type 0
IsFaultless most given = IsNoFault (reading_of (header_grammar most) given).ending

-- the header of this input has this fault
abbrev pub HasFault : ℕ → ℕ → Input → ℕ → ℕ → Type 0
HasFault most limit i number line = header_fault_of (stream_of limit i) (read_header most (stream_of limit i)) ≡ Some (record { number = number; line = line })

-- the tokens given end with the one that the feed shows, and at most a chunk was read past it
abbrev pub HasReadToShown : {X : Type 0} {g : Ghosts X} → Input → List Token → Feed X g → Type 0
HasReadToShown i given f = HasGiven i (given ++ token_of f ∷ []) f × HasReadTo i (given ++ token_of f ∷ []) f

-- the header has this fault at the last token given, which the feed shows; no token before it has
-- one
abbrev pub FailsAtToken : {X : Type 0} {g : Ghosts X} → ℕ → Input → ℕ → Feed X g → Type 0
FailsAtToken most i number f = HasFault most (limit_of f) i number (token_of f).line × (given : List Token) × HasReadToShown i given f × IsGoing most given

-- the header has this fault if no token is left, and the feed shows none; no token before it has a
-- fault
abbrev pub FailsAtEnd : {X : Type 0} {g : Ghosts X} → ℕ → Input → ℕ → Feed X g → Type 0
FailsAtEnd most i number f =
    HasFault most (limit_of f) i number (token_of f).line × ((token_of f).bytes ≡ [])
    × (given : List Token) × HasGiven i given f × ((stream_of (limit_of f) i).tokens ≡ given) × IsGoing most given

-- no token given so far has a fault, and the feed shows the last; without it the header is not
-- whole
abbrev pub IsGoodSoFar : {X : Type 0} {g : Ghosts X} → ℕ → Input → Feed X g → Type 0
IsGoodSoFar most i f = (given : List Token) × HasReadToShown i given f × IsGoing most given × IsFaultless most (given ++ token_of f ∷ [])

-- Why a header is refused: its fault, if a source that failed counts as the end of the input. If
-- memory is refused, no token given so far has a fault.
abbrev pub Fails : {X : Type 0} {g : Ghosts X} → ℕ → Input → HeadFault → Feed X g → Type 0
Fails most i OutOfMemory f = IsGoodSoFar most i f
Fails most i ReadFailed f = FailsAtEnd most (failed_after (seen f) i) 31 f × GaveOnlySeen i f
Fails most i TokenTooLong f = FailsAtEnd most i 1 f
Fails most i EndOfInput f = FailsAtEnd most i 2 f
Fails most i InputTooLong f = FailsAtEnd most i 21 f
Fails most i fault f = FailsAtToken most i (fault_number fault) f

-- the tokens given are a whole header, and the head shows it
pub record GivesHead {X : Type 0} {g : Ghosts X} (most : ℕ) (i : Input) (f : Feed X g) (s : HeadShown) : Type 0 where
  pub given : List Token
  pub placed : List (Placed HeaderPhrase)
  pub stands : HasGiven i given f
  pub whole : IsWhole (header_grammar most) given placed
  -- at most a chunk was read past the last of them, without which the header is not whole
  pub near : HasReadTo i given f
  pub front : List Token
  pub last : Token
  pub is : given ≡ front ++ last ∷ []
  pub going : IsGoing most front
  pub views : Views s (header_of (phrases_of placed))

-- What a call that reads a header, of at most this many declarations, leaves of its feed.
pub record ReadsHead {X : Type 0} {g : Ghosts X} (failures : X → ℕ) (most : ℕ) (old new : Feed X g) (result : Result Head HeadFault) : Type 0 where
  -- A head shows the header of the phrases that were read. A fault is the header's, at the feed's
  -- line and token, the first token given that has one, or empty if none was left; if memory is
  -- refused, no token given so far has a fault.
  pub reads : (i : Input) → HasGiven i [] old → MatchResult result (λ head. GivesHead most i new (shown head)) (λ fault. Fails most i fault new)
  -- a failed read is returned only if the source failed now, in its last read, or had failed before
  pub failed : HasNotFailed old → result ≡ Err ReadFailed → failures (source_of new) ≡ failures (source_of old) + 1
  pub last : HasNotFailed old → result ≡ Err ReadFailed → g.last_failed (source_of new) ≡ true
  pub same : result ≢ Err ReadFailed → failures (source_of new) ≡ failures (source_of old)
  pub «open» : HasNotFailed old → OnOk result (HasNotFailed new)
  pub lengths : (limit_of new ≡ limit_of old) × (chunk_len_of new ≡ chunk_len_of old)
  pub loans : SameLoans old new
