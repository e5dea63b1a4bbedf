-- The inputs of a run while their headers are read: what was read of each, and why one of them ends
-- the run.
use Rattle.std.specs.List.{AllZip}
use Rattle.std.specs.Prelude.{◌≡◌, ◌==◌, ◌⊎◌, ℕ, suc, false, List, [], ◌∷◌, ◌++◌, length, map, Option, Some, None, Result, MatchResult, slice_get, slice_set, option_map}
use Rattle.vcd_job.specs.Cited.{Input, Token, end_of_tokens, stream_of, Header, header_of, HeaderPhrase, header_grammar, IsPrefixOf, allowed_after, Placed, phrases_of, is_header_over, IsWhole, whole, Supply, supply, HasGiven, token_of, Near, ReadsAsNeeded, Ghosts, Feed, Fails, GivesHead, HasFault, IsGoing, shown, Views, HeadFault, Head, AreParts, part, part_len, spot_of, IsLeft, GaveParked, IsSeated, Lane, Spot, Dump, Read, Seat, Windows}
use Rattle.vcd_job.specs.Failure.{failure_of, head_failure, CountsRead}
use Rattle.vcd_job.specs.declared.inputs.BegunInput.{BegunInput}
use Rattle.vcd_job.specs.declared.inputs.Inputs.{Inputs}
use Rattle.vcd_job.specs.declared.failure.Failure.{Failure}
use Rattle.vcd_job.specs.declared.failure.Failure.TheVariants.{Stopped, OutOfMemory}

-- ---- one input

-- the header of this input was read, with this many declarations allowed: these are its tokens, and
-- at most a chunk was read past the last of them, without which it is not whole
pub record IsBegun (most limit chunk : ℕ) (i : Input) (l : Lane) (old new : Supply) : Type 0 where
  pub input_is : l.input ≡ i
  pub placed : List (Placed HeaderPhrase)
  pub whole : IsWhole (header_grammar most) l.front placed
  pub header_is : l.header ≡ header_of (phrases_of placed)
  pub given_first : IsPrefixOf l.front (stream_of limit i).tokens
  pub near : Near chunk new.rest (end_of_tokens i.bytes (length l.front)) i
  pub before : List Token
  pub last : Token
  pub is : l.front ≡ before ++ last ∷ []
  pub going : IsGoing most before
  pub failures : new.failures ≡ old.failures

-- why the reading of a header ended the run: its fault, or that memory ran out
abbrev pub IsWhy : (most limit place : ℕ) → Input → Failure → Type 0
IsWhy most limit place left (Stopped (Dump input line fault)) = (input ≡ place) × ((fault == 31) ≡ false) × HasFault most limit left fault line
IsWhy most limit place left (Stopped (Read input)) = (input ≡ place) × (line : ℕ) × HasFault most limit left 31 line
IsWhy most limit place left (Stopped stop) = ⊥
IsWhy most limit place left OutOfMemory = Unit {0}

-- the reading of the header of this input ended the run, and no more was read than the header
pub record HasFailed (most limit chunk place : ℕ) (i : Input) (old new : Supply) (why : Failure) : Type 0 where
  pub left : Input
  pub is_left : IsLeft i old new left
  pub read : ReadsAsNeeded limit chunk old new left [] (is_header_over most)
  pub is_why : IsWhy most limit place left why

-- the header of this input was read: a head shows it, and a seat has its feed, which is after it
-- over these windows
pub record Begins (most limit chunk : ℕ) (i : Input) (head : Head) (seat : Seat) (read gathered : List ℕ) (old new : Supply) : Type 0 where
  pub lane : Lane
  pub begun : IsBegun most limit chunk i lane old new
  pub views : Views (shown head) lane.header
  pub gave : GaveParked lane.header.codes lane.input lane.front [] new.rest read gathered seat.parked seat.regs

-- the header of the input at this index was read by its feed, of which nothing was given, or has a
-- fault
abbrev pub OpensInput : {X : Type 0} {g : Ghosts X} → (most place : ℕ) → (old new : Feed X g) → Result Head Failure → Type 0
OpensInput most place old new result = (i : Input) → HasGiven i [] old → MatchResult result (λ head. GivesHead most i new (shown head))
    (λ failure. (fault : HeadFault) × (failure ≡ head_failure fault place (token_of new).line) × Fails most i fault new)

-- the header was read by its reader, over windows of these lengths, which then hold these bytes
abbrev pub BeginsBy : {X : Type 0} → Ghosts X → (most place limit chunk : ℕ) → (old new : X) → (read gathered : List ℕ) → Result BegunInput Failure → Type 0
BeginsBy g most place limit chunk old new read gathered result = (text : List ℕ) → g.rest old ≡ Some text → MatchResult result
    (λ begun. Begins most limit chunk (whole text) begun.head begun.seat read gathered (supply g.rest g.failures old) (supply g.rest g.failures new))
    (HasFailed most limit chunk place (whole text) (supply g.rest g.failures old) (supply g.rest g.failures new))

-- ---- the inputs in order

-- the headers of inputs
abbrev pub headers_in : List Lane → List Header
headers_in lanes = map (λ l. l.header) lanes

-- the headers of readers with these texts were read, after inputs with these headers
abbrev pub AreBegun : (limit chunk : ℕ) → List Header → List (List ℕ) → (old new : List Supply) → List Lane → Type 0
AreBegun limit chunk earlier [] [] [] [] = Unit {0}
AreBegun limit chunk earlier (text ∷ texts) (s ∷ old) (t ∷ new) (l ∷ lanes) =
    IsBegun (allowed_after earlier) limit chunk (whole text) l s t × AreBegun limit chunk (earlier ++ l.header ∷ []) texts old new lanes
AreBegun limit chunk earlier texts old new lanes = ⊥

-- the headers of readers with these texts were read in order until one of them ended the run; those
-- after it were not read
abbrev pub Stops : (limit chunk place : ℕ) → List Header → List (List ℕ) → (old new : List Supply) → Failure → Type 0
Stops limit chunk place earlier (text ∷ texts) (s ∷ old) (t ∷ new) why =
    (HasFailed (allowed_after earlier) limit chunk place (whole text) s t why × (new ≡ old) × (length old ≡ length texts))
    ⊎ ((l : Lane) × IsBegun (allowed_after earlier) limit chunk (whole text) l s t × Stops limit chunk (suc place) (earlier ++ l.header ∷ []) texts old new why)
Stops limit chunk place earlier texts old new why = ⊥

-- ---- heads, seats and windows

-- a seat as it is made
pub record IsNew (s : Seat) : Type 0 where
  pub regs_are : s.regs ≡ record { time = 0; marked = false; section = None }
  pub unfinished : s.finished ≡ false

-- a seat is as it was made, and belongs to windows of these lengths, or to the parts of these among
-- n
abbrev pub IsNewOver : (chunk limit : ℕ) → Seat → Type 0
IsNewOver chunk limit seat = IsSeated chunk limit seat × IsNew seat

abbrev pub IsNewIn : ℕ → Windows → Seat → Type 0
IsNewIn n windows seat = IsNewOver (part_len n windows.chunks.now) (part_len n windows.tokens.now) seat

-- what belongs to the input at an index among n, if it was begun
abbrev pub place_of : {X : Type 0} → ℕ → (X → Option (List ℕ)) → List Seat → List X → List ℕ → List ℕ → ℕ → Option Spot
place_of n rest seats sources chunks tokens place =
    spot_of (slice_get seats place) (option_map rest (slice_get sources place)) (part (part_len n chunks) place chunks) (part (part_len n tokens) place tokens)

-- each head shows the header of its input
abbrev pub AreShown : List Head → List Lane → Type 0
AreShown heads lanes = AllZip (λ (head : Head) (h : Header). Views (shown head) h) heads (headers_in lanes)

-- the feed of each input is after its header, over its parts of the windows
abbrev pub AreParked : {X : Type 0} → ℕ → (X → Option (List ℕ)) → List Lane → List Seat → List X → List ℕ → List ℕ → Type 0
AreParked n rest lanes seats sources chunks tokens =
    (k : ℕ) (l : Lane) (s : Spot) → slice_get lanes k ≡ Some l → place_of n rest seats sources chunks tokens k ≡ Some s
    → GaveParked l.header.codes l.input l.front [] s.rest s.chunk s.token s.seat.parked s.seat.regs

-- all headers of readers with these texts were read
pub record HaveBegun {X : Type 0} (limit chunk n : ℕ) (rest : X → Option (List ℕ)) (failures : X → ℕ) (texts : List (List ℕ)) (old new : List X)
    (heads : List Head) (seats : List Seat) (chunks tokens : List ℕ) : Type 0 where
  pub lanes : List Lane
  pub begun : AreBegun limit chunk [] texts (map (supply rest failures) old) (map (supply rest failures) new) lanes
  pub views : AreShown heads lanes
  pub parked : AreParked n rest lanes seats new chunks tokens

-- ---- one input of several

-- the parts of the input at an index among n stay
pub record SameParts (n place : ℕ) (old new : Windows) : Type 0 where
  pub chunks : part (part_len n old.chunks.now) place new.chunks.now ≡ part (part_len n old.chunks.now) place old.chunks.now
  pub tokens : part (part_len n old.tokens.now) place new.tokens.now ≡ part (part_len n old.tokens.now) place old.tokens.now

-- The reading of the header of the input at an index among n, over this reader and its parts of the
-- windows. No other reader is used, and a failed read is one of this reader.
pub record BeginsAt {X : Type 0} (n place most : ℕ) (rest : X → Option (List ℕ)) (failures : X → ℕ) (reader : X) (old new : List X)
    (windows windows' : Windows) (result : Result BegunInput Failure) : Type 0 where
  pub after : X
  pub readers : new ≡ slice_set old place after
  pub counts : CountsRead place (failures reader) (failures after) (failure_of result)
  pub gives : (text : List ℕ) → rest reader ≡ Some text → MatchResult result
      (λ begun. Begins most (part_len n windows.tokens.now) (part_len n windows.chunks.now) (whole text) begun.head begun.seat
      (part (part_len n windows.chunks.now) place windows'.chunks.now) (part (part_len n windows.tokens.now) place windows'.tokens.now) (supply rest failures reader) (supply rest failures after))
      (HasFailed most (part_len n windows.tokens.now) (part_len n windows.chunks.now) place (whole text) (supply rest failures reader) (supply rest failures after))

-- the same for the reader at an index, whichever it is
abbrev pub BeginsAmong : {X : Type 0} → Ghosts X → (most place : ℕ) → (old new : List X) → (windows windows' : Windows) → Result BegunInput Failure → Type 0
BeginsAmong {X} g most place old new windows windows' result = (r : X) → slice_get old place ≡ Some r → BeginsAt (length old) place most g.rest g.failures r old new windows windows' result

-- ---- all of them

-- the headers of all readers were read over their parts of the windows, or of those up to one that
-- has a fault
abbrev pub OpensAll : {X : Type 0} → Ghosts X → (old new : List X) → (windows windows' : Windows) → Result Inputs Failure → Type 0
OpensAll g old new windows windows' result = (texts : List (List ℕ)) → map g.rest old ≡ map (λ text. Some text) texts → MatchResult result
    (λ inputs. HaveBegun (part_len (length old) windows.tokens.now) (part_len (length old) windows.chunks.now)
    (length old) g.rest g.failures texts old new inputs.heads.items inputs.seats.items windows'.chunks.now windows'.tokens.now)
    (Stops (part_len (length old) windows.tokens.now) (part_len (length old) windows.chunks.now) 0 [] texts (map (supply g.rest g.failures) old) (map (supply g.rest g.failures) new))

-- an input that was begun was added to these
abbrev pub AddsBegun : BegunInput → (old new : Inputs) → Type 0
AddsBegun begun old new = (new.heads.items ≡ old.heads.items ++ begun.head ∷ []) × (new.seats.items ≡ old.seats.items ++ begun.seat ∷ [])

-- the windows are made of as many parts as there are inputs
abbrev pub HasParts : ℕ → Windows → Type 0
HasParts n windows = AreParts n windows.chunks.now windows.tokens.now windows.values.now
