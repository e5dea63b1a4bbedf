-- What the calls of a feed require and leave, and under the same path the other names that the
-- contracts of a feed cite.
use Rattle.std.specs.Prelude.{◌≡◌, ◌≢◌, ℕ, ◌<◌, List, [], ◌∷◌, ◌++◌, length, IfSome, None, Some, Result, Ok, Err}
pub use Rattle.vcd_model.specs.Input.{Input}
use Rattle.vcd_model.specs.Tokens.{Token}
pub use Rattle.vcd_text.specs.Advances.{Advances, CallEnd, GoesOn, Ends, Fails}
pub use Rattle.vcd_text.specs.Ahead.{ahead_of, bytes_of, lines_of, longest_of, passed_of}
use Rattle.vcd_text.specs.Passed.{AreFirst, Passed}
use Rattle.vcd_text.specs.Answer.{NextGives, whole}
pub use Rattle.vcd_text.specs.Feed.{Borrows, GaveOnlySeen, HasGiven, HasGivenTo, HasReadTo, SameLoans, Shows, answer_of, chunk_len_of, limit_of, parked_answer, parked_of, parked_seen, seen, source_of, token_of, value_of}
pub use Rattle.vcd_text.specs.Registers.{Fits, IsOffset}
use Rattle.vcd_text.specs.declared.device.Source.{Ghosts}
use Rattle.vcd_text.specs.declared.answer.Halt.{Halt}
use Rattle.vcd_text.specs.declared.answer.Halt.TheVariants.{ReadFailed}
use Rattle.vcd_text.specs.declared.answer.Next.{Next}
use Rattle.vcd_text.specs.declared.answer.Next.TheVariants.{Token as token}
use Rattle.vcd_text.specs.declared.feed.Feed.{Feed}

-- a feed may be lent these
pub record MayLend (chunk token value : List ℕ) : Type 0 where
  pub chunk_some : 0 < length chunk
  pub token_some : 0 < length token
  pub same_limit : length value ≡ length token

-- the source is lent with these, and nothing of it was read
pub record Begins {X : Type 0} {g : Ghosts X} (source : X) (chunk window : List ℕ) (f : Feed X g) : Type 0 where
  pub stands : IfSome (g.rest source) (λ text. HasGiven (whole text) [] f)
  pub no_token : token_of f ≡ record { bytes = []; line = 1 }
  pub no_value : value_of f ≡ []
  pub no_bytes : seen f ≡ 0
  pub going : answer_of f ≡ None
  pub source_is : source_of f ≡ source
  pub limit : limit_of f ≡ length window
  pub chunk_len : chunk_len_of f ≡ length chunk

-- nothing is read, and no token is given
pub record StandsStill {X : Type 0} {g : Ghosts X} (old new : Feed X g) : Type 0 where
  pub stands : (i : Input) (given : List Token) → HasGiven i given old → HasGiven i given new
  pub same_seen : seen new ≡ seen old
  pub same_answer : answer_of new ≡ answer_of old
  pub same_source : source_of new ≡ source_of old
  pub same_ahead : ahead_of new ≡ ahead_of old
  pub limit : limit_of new ≡ limit_of old
  pub chunk_len : chunk_len_of new ≡ chunk_len_of old
  pub loans : SameLoans old new

-- the first n bytes ahead are exactly these whole tokens
abbrev pub PassesTo : {X : Type 0} {g : Ghosts X} → Feed X g → ℕ → List Token → Type 0
PassesTo f n tokens = Passed (limit_of f) (lines_of f) (ahead_of f) n tokens

-- the bytes ahead begin with these whole tokens
abbrev pub LieAhead : {X : Type 0} {g : Ghosts X} → Feed X g → List Token → Type 0
LieAhead f tokens = AreFirst (limit_of f) (ahead_of f) tokens

-- if some tokens were given, these were given too
abbrev pub GivesAllTo : {X : Type 0} {g : Ghosts X} → ℕ → (old new : Feed X g) → Type 0
GivesAllTo n old new = (ts : List Token) → PassesTo old n ts → (i : Input) (given : List Token) → HasGiven i given old → HasGiven i (given ++ ts) new

-- at most a chunk was read past the last of them
abbrev pub ReadsOnlyTo : {X : Type 0} {g : Ghosts X} → ℕ → (old new : Feed X g) → Type 0
ReadsOnlyTo n old new = (ts : List Token) → PassesTo old n ts → ts ≢ [] → (i : Input) (given : List Token) → HasGiven i given old → HasReadTo i (given ++ ts) new

-- how a call of `next` ends
abbrev pub answer_end : Result Next Halt → CallEnd
answer_end (Ok next) = GoesOn
answer_end (Err ReadFailed) = Fails
answer_end (Err halt) = Ends

-- the answer is right for each input of which tokens have been given, and the feed is after it
abbrev pub GivesNext : {X : Type 0} {g : Ghosts X} → (old new : Feed X g) → Result Next Halt → Type 0
GivesNext old new result = (i : Input) (given : List Token) → HasGiven i given old
    → NextGives (λ j ts. HasGiven j ts new) (limit_of old) i given result (token_of new) (seen new)

-- what a failed read leaves is what the source gave: it still has all that was not looked at
abbrev pub LeavesUnseen : {X : Type 0} {g : Ghosts X} → (old new : Feed X g) → Result Next Halt → Type 0
LeavesUnseen old new result = result ≡ Err ReadFailed → (i : Input) (given : List Token) → HasGiven i given old → GaveOnlySeen i new

-- of whole tokens ahead this one was given, nothing was read, and the others lie ahead
pub record TakesFirst {X : Type 0} {g : Ghosts X} (old new : Feed X g) (t : Token) (ts : List Token) : Type 0 where
  pub given : (token_of new).bytes ≡ t.bytes
  pub source : source_of new ≡ source_of old
  pub rest : LieAhead new ts

-- if whole tokens lie ahead, the next one is given, and nothing is read for it
abbrev pub TakesAhead : {X : Type 0} {g : Ghosts X} → (old new : Feed X g) → Result Next Halt → Type 0
TakesAhead old new result = (t : Token) (ts : List Token) → LieAhead old (t ∷ ts) → (result ≡ Ok token) × TakesFirst old new t ts

-- what is shown after an answer, and which answer comes again
pub record Answers {X : Type 0} {g : Ghosts X} (old new : Feed X g) (result : Result Next Halt) : Type 0 where
  -- the end and a halt are returned again, and nothing is read
  pub settles : result ≢ Ok token → answer_of new ≡ Some result
  pub again : IfSome (answer_of old) (λ answer. (result ≡ answer) × (source_of new ≡ source_of old))
  -- No halt is known yet if a token is returned. So a failed read is first returned by the call
  -- in which the source failed.
  pub going : result ≡ Ok token → (halt : Halt) → answer_of new ≢ Some (Err halt)
  pub shows : result ≡ Ok token → (token_of new).bytes ≢ []
  pub empty : result ≢ Ok token → (token_of new).bytes ≡ []
