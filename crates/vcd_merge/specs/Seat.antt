-- Where an input of a merge is, and what a step of it gives.
use Rattle.std.specs.Prelude.{◌≡◌, ◌≢◌, ℕ, ◌+◌, ◌*◌, ◌^◌, ◌<◌, ◌==◌, ◌⊎◌, Bool, true, false, List, [], ◌∷◌, ◌++◌, length, Option, Some, None, Result, Ok, Err}
use Rattle.std.specs.List.{AllByRecursion}
use Rattle.vcd_model.specs.Input.{Clean, Input}
use Rattle.vcd_model.specs.Tokens.{Token, stream_of}
use Rattle.vcd_model.specs.Header.{Header}
use Rattle.vcd_model.specs.Declarations.{IdCode}
use Rattle.vcd_model.specs.Items.{BodyItem, time_after}
use Rattle.vcd_model.specs.BodyPhrases.{BodyPhrase, items_of}
use Rattle.vcd_model.specs.BodyReading.{body_grammar, read_body, body_fault_of}
use Rattle.vcd_model.specs.Merge.{dump_of, is_too_large}
use Rattle.vcd_model.specs.MergeByInput.{due_with, entry_for, written_with}
use Rattle.vcd_model.specs.Reading.{Fault, Placed, phrases_of}
use Rattle.vcd_model.specs.SoFar.{IsSoFar}
use Rattle.vcd_text.specs.Answer.{failed_after}
use Rattle.vcd_text.specs.Feed.{HasGivenParked, parked_answer}
use Rattle.vcd_text.specs.Registers.{Fits}
use Rattle.vcd_text.specs.declared.device.Source.{Ghosts}
use Rattle.vcd_text.specs.declared.feed.Feed.{Feed}
use Rattle.vcd_text.specs.declared.registers.Parked.{Parked}
use Rattle.vcd_text.specs.declared.answer.Halt.TheVariants as halt
use Rattle.vcd_body.specs.Asked.{HaveJust}
use Rattle.vcd_body.specs.Items.{AreRegsAfter}
use Rattle.vcd_body.specs.declared.item.Regs.{Regs}
use Rattle.vcd_text.specs.Device.{Device, Supply, Writes, WritesSome}
use Rattle.vcd_text.specs.ReadAhead.{HasRest, ReadsAsNeeded}
use Rattle.vcd_body.specs.declared.answer.Stop.{Stop}
use Rattle.vcd_body.specs.declared.answer.Stop.TheVariants.{Dump as Faulty, Read, Write, Unmatched}
use Rattle.vcd_merge.specs.declared.seat.Seat.{Seat}

-- an input in the definitions: its header, what its source gives, and the tokens of its header
pub record Lane : Type 0 where
  pub header : Header
  pub input : Input
  pub front : List Token

-- what a merge keeps of an input: its seat, what its source still gives, and its parts of the
-- windows
pub record Spot : Type 0 where
  pub seat : Seat
  pub rest : Option (List ℕ)
  pub chunk : List ℕ
  pub token : List ℕ

abbrev pub spot : Seat → Option (List ℕ) → List ℕ → List ℕ → Spot
spot seat rest chunk token = record { seat = seat; rest = rest; chunk = chunk; token = token }

-- a seat while its feed is out
abbrev pub spot_with : {X : Type 0} {g : Ghosts X} → Seat → Feed X g → Spot
spot_with {X} {g} s f = record { seat = record s { parked = f.parked }; rest = g.rest f.source.now; chunk = f.chunk.now; token = f.token.now }

-- after the tokens of its header an input has given whole phrases with these items, and the
-- registers say what is known of them
pub record GaveParked (codes : List IdCode) (i : Input) (front : List Token) (items : List BodyItem) (rest : Option (List ℕ)) (chunk token : List ℕ) (p : Parked) (r : Regs) : Type 0 where
  pub given : List Token
  pub placed : List (Placed BodyPhrase)
  pub stands : HasGivenParked rest chunk token p i (front ++ given)
  pub so_far : IsSoFar (body_grammar codes) given placed []
  pub items_are : items_of (phrases_of placed) ≡ items
  pub known : AreRegsAfter items r

-- an input is this dump: its items up to its first timestamp that is too large, or up to its own
-- fault
pub record HasDump (scale limit : ℕ) (h : Header) (front : List Token) (i : Input) (items : List BodyItem) (fault : Option Fault) : Type 0 where
  pub rest : List Token
  pub tokens : (stream_of limit i).tokens ≡ front ++ rest
  pub is : dump_of scale h (body_fault_of (stream_of limit i) (read_body h.codes rest)) (read_body h.codes rest) ≡ record { header = h; items = items; fault = fault }

-- what holds of an input after these items: `scale` is the factor of its times, `first` the number
-- of its first code
pub record AtSeat (scale first : ℕ) (l : Lane) (items : List BodyItem) (s : Spot) : Type 0 where
  pub gave : GaveParked l.header.codes l.input l.front items s.rest s.chunk s.token s.seat.parked s.seat.regs
  pub small : AllByRecursion (λ x. is_too_large scale x ≡ false) items
  pub factor_is : s.seat.factor ≡ scale
  pub time_is : s.seat.time ≡ scale * time_after items
  pub first_is : s.seat.first ≡ first
  -- no number of a code is too great
  pub few : first + length l.header.codes < 2 ^ 64
  -- if it has finished, these are all its items, and it has no fault
  pub finished : s.seat.finished ≡ true → HasDump scale (length s.token) l.header l.front l.input items None

-- whatever the input is: the parked feed fits its windows, and no failed read was returned
pub record IsSeated (chunk limit : ℕ) (s : Seat) : Type 0 where
  pub fits : Fits s.parked chunk limit
  pub on : parked_answer s.parked ≢ Some (Err halt.ReadFailed)

-- ---- a step of one input

-- the seat is still that of the same input
pub record SameSeat (old new : Seat) : Type 0 where
  pub factor : new.factor ≡ old.factor
  pub first : new.first ≡ old.first

-- Of an input, of which this is left and whose source has this rest, at most a chunk was read past
-- a token that was asked for after tokens with exactly these items. So no more was read than what
-- settles any work that such tokens do not settle, whatever the source was before, and however many
-- of its reads have failed.
abbrev pub ReadsNoMore : (limit chunk : ℕ) → Lane → List BodyItem → Input → Option (List ℕ) → Type 0
ReadsNoMore limit chunk l items left rest = (old : Supply) (failures : ℕ) (settled : List Token → Bool) → ((ts : List Token) → HaveJust l.header.codes items ts → settled ts ≡ false)
    → ReadsAsNeeded limit chunk old (record { rest = rest; failures = failures }) left l.front settled

-- no more of an input was read, by where it is
abbrev pub HasReadNoMore : Lane → List BodyItem → Input → Spot → Type 0
HasReadNoMore l items left s = ReadsNoMore (length s.token) (length s.chunk) l items left s.rest

-- one more item was given, and what is due with it was written
abbrev pub GivesOne : ℕ → ℕ → Lane → List BodyItem → Option ℕ → Option ℕ → Spot → BodyItem → Type 0
GivesOne scale first l items written written' s x = (s.seat.finished ≡ false) × AtSeat scale first l (items ++ x ∷ []) s
    × (written' ≡ written_with written (entry_for scale first l.header items x)) × HasReadNoMore l items l.input s

-- what the step of input number k after these items leaves: one more item, or that it has finished,
-- or why the merge stops
abbrev pub Turns : {A : Type 0} → ℕ → ℕ → ℕ → Lane → List BodyItem → Option ℕ → Option ℕ → Spot → Device → Device → Result A Stop → Type 0
Turns k scale first l items written written' s out out' (Ok u) =
    ((x : BodyItem) × GivesOne scale first l items written written' s x × Writes out out' (due_with written (entry_for scale first l.header items x)))
    ⊎ ((s.seat.finished ≡ true) × AtSeat scale first l items s × (written' ≡ written) × Writes out out' [] × HasReadNoMore l items l.input s)
Turns k scale first l items written written' s out out' (Err (Faulty input line fault)) =
    (input ≡ k) × ((fault == 31) ≡ false) × HasDump scale (length s.token) l.header l.front l.input items
    (Some (record { number = fault; line = line })) × Writes out out' [] × HasReadNoMore l items l.input s
Turns k scale first l items written written' s out out' (Err (Read input)) =
    (input ≡ k)
    × ((n : ℕ) × (line : ℕ) × HasDump scale (length s.token) l.header l.front (failed_after n l.input) items
    (Some (record { number = 31; line = line })) × HasReadNoMore l items (failed_after n l.input) s
    × (l.input.mark ≡ Clean → HasRest s.rest n l.input))
    × Writes out out' []
Turns k scale first l items written written' s out out' (Err Write) =
    (x : BodyItem) × AtSeat scale first l (items ++ x ∷ []) s × WritesSome out out' (due_with written (entry_for scale first l.header items x)) × HasReadNoMore l items l.input s
Turns k scale first l items written written' s out out' (Err (Unmatched name)) = ⊥
