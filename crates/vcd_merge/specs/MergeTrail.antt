-- Several items of one input of a merge, taken one after another.
use Rattle.std.specs.Prelude.{◌≡◌, ◌≢◌, ℕ, ◌<◌, ◌⊎◌, Bool, true, false, List, [], ◌∷◌, ◌++◌, length, map, slice_get, Option, Some, Result, Ok, Err}
use Rattle.std.specs.List.{AllByRecursion}
use Rattle.vcd_model.specs.Header.{Header}
use Rattle.vcd_model.specs.Items.{BodyItem}
use Rattle.vcd_model.specs.Input.{Input}
use Rattle.vcd_model.specs.Merge.{Dump, Key, factor, is_too_large, key_after, key_lt, merge_open, merged_items}
use Rattle.vcd_model.specs.MergeByInput.{due_with, entry_for}
use Rattle.vcd_text.specs.Device.{Device, Writes, WritesSome}
use Rattle.vcd_text.specs.declared.device.Source.{Ghosts}
use Rattle.vcd_text.specs.declared.feed.Feed.{Feed}
use Rattle.vcd_body.specs.Answer.{NamesInput}
use Rattle.vcd_merge.specs.SeatStep.{CountsWrites}
use Rattle.vcd_body.specs.Device.{Grows}
use Rattle.vcd_merge.specs.MergeOrder.{IsNext}
use Rattle.vcd_merge.specs.MergeParts.{part, part_len, spot_at}
use Rattle.vcd_merge.specs.MergeStep.{Gives, Holds, IsReady, Standing, failures_with, left_of}
use Rattle.vcd_merge.specs.Seat.{AtSeat, GivesOne, IsSeated, Lane, ReadsNoMore, Spot, Turns, spot_with}
use Rattle.vcd_body.specs.declared.answer.More.{More}
use Rattle.vcd_body.specs.declared.answer.More.TheVariants.{Again}
use Rattle.vcd_body.specs.declared.answer.Stop.{Stop}
use Rattle.vcd_body.specs.declared.answer.Stop.TheVariants.{Write}
use Rattle.vcd_merge.specs.declared.seat.Seat.{Seat}

-- where an input is after some of its items, and the output with it
pub record Stage (X : Type 0) : Type 0 where
  pub items : List BodyItem
  pub written : Option ℕ
  pub seat : Seat
  pub source : X
  pub chunk : List ℕ
  pub token : List ℕ
  pub out : Device

abbrev pub stage : {X : Type 0} → List BodyItem → Option ℕ → Seat → X → List ℕ → List ℕ → Device → Stage X
stage items written seat source chunk token out = record { items = items; written = written; seat = seat; source = source; chunk = chunk; token = token; out = out }

abbrev pub spot_in : {X : Type 0} → (X → Option (List ℕ)) → Stage X → Spot
spot_in rest a = record { seat = a.seat; rest = rest a.source; chunk = a.chunk; token = a.token }

-- while its feed is out
abbrev pub stage_with : {X : Type 0} {g : Ghosts X} → List BodyItem → Option ℕ → Seat → Feed X g → Device → Stage X
stage_with items written s f out = stage items written (record s { parked = f.parked }) f.source.now f.chunk.now f.token.now out

-- one more item, after which the time of the input is before this one
pub record TakesOn {X : Type 0} (rest : X → Option (List ℕ)) (failures : X → ℕ) (scale first : ℕ) (l : Lane) (before : ℕ) (a b : Stage X) : Type 0 where
  pub item : BodyItem
  pub items_are : b.items ≡ a.items ++ item ∷ []
  pub one : GivesOne scale first l a.items a.written b.written (spot_in rest b) item
  pub writes : Writes a.out b.out (due_with a.written (entry_for scale first l.header a.items item))
  pub early : b.seat.time < before
  pub failures_are : failures b.source ≡ failures a.source
  pub seated : IsSeated (length b.chunk) (length b.token) b.seat
  pub chunk : length b.chunk ≡ length a.chunk
  pub token : length b.token ≡ length a.token

-- any number of such items
pub data Trail {X : Type 0} (rest : X → Option (List ℕ)) (failures : X → ℕ) (scale first : ℕ) (l : Lane) (before : ℕ) (a : Stage X) : Stage X → Type 0 where
  Stands : Trail rest failures scale first l before a a
  Further : (b c : Stage X) (so_far : Trail rest failures scale first l before a b) (on : TakesOn rest failures scale first l before b c) → Trail rest failures scale first l before a c

-- such items lead to a stage like this one: after the same items, with the same output, the same
-- rest of the source and windows
pub record Reaches {X : Type 0} (rest : X → Option (List ℕ)) (failures : X → ℕ) (scale first : ℕ) (l : Lane) (before : ℕ) (a b : Stage X) : Type 0 where
  pub mid : Stage X
  pub trail : Trail rest failures scale first l before a mid
  pub items_are : mid.items ≡ b.items
  pub written_is : mid.written ≡ b.written
  pub out_is : mid.out ≡ b.out
  pub rest_is : rest mid.source ≡ rest b.source
  pub failures_are : failures mid.source ≡ failures b.source
  pub chunk : length mid.chunk ≡ length b.chunk
  pub token : length mid.token ≡ length b.token

-- what is kept back could not be passed on before the next item: nothing was read or written
abbrev pub StaysBack : {X A : Type 0} → (X → Option (List ℕ)) → Stage X → Spot → Device → Result A Stop → Type 0
StaysBack rest a s out (Err Write) = WritesSome a.out out [] × (s.rest ≡ rest a.source)
StaysBack rest a s out result = ⊥

-- items, and then the step that ends them
pub record RunTurns {X A : Type 0} (rest : X → Option (List ℕ)) (failures : X → ℕ) (k scale first : ℕ) (l : Lane) (before : ℕ) (a : Stage X)
    (written : Option ℕ) (s : Spot) (out : Device) (result : Result A Stop) : Type 0 where
  pub mid : Stage X
  pub trail : Trail rest failures scale first l before a mid
  pub last : Turns k scale first l mid.items mid.written written s mid.out out result ⊎ StaysBack rest mid s out result

-- what the items that lie ahead leave: all of them were taken; or, with the last of them, the turn
-- has ended, or a write failed
abbrev pub AheadTurns : {X E : Type 0} {g : Ghosts X} → (X → Option (List ℕ)) → (X → ℕ) → (k scale first : ℕ) → Lane → ℕ → Stage X → Option ℕ → Seat
    → Feed X g → Device → Result Bool E → Type 0
AheadTurns rest failures k scale first l before a written s f out (Ok false) = (xs : List BodyItem) × AtSeat scale first l xs (spot_with s f)
    × Reaches rest failures scale first l before a (stage_with xs written s f out)
AheadTurns rest failures k scale first l before a written s f out (Ok true) = RunTurns {A = Bool} rest failures k scale first l before a written (spot_with s f) out (Ok true)
AheadTurns rest failures k scale first l before a written s f out (Err e) = RunTurns {A = Bool} rest failures k scale first l before a written (spot_with s f) out (Err Write)

-- how a turn ends, from what the input has in a merge
pub record TurnsAt {X A : Type 0} (rest : X → Option (List ℕ)) (failures : X → ℕ) (sources : List X) (k scale first : ℕ) (l : Lane) (before : ℕ)
    (items : List BodyItem) (written written' : Option ℕ) (s s' : Spot) (out out' : Device) (result : Result A Stop) : Type 0 where
  pub seat : Seat
  pub source : X
  pub chunk : List ℕ
  pub token : List ℕ
  pub spot_is : s ≡ record { seat = seat; rest = rest source; chunk = chunk; token = token }
  pub source_at : slice_get sources k ≡ Some source
  pub turns : RunTurns rest failures k scale first l before (record { items = items; written = written; seat = seat; source = source; chunk = chunk; token = token; out = out }) written' s' out' result

-- ---- whose turn it was

-- an input that has not finished had not before, and has the items that it had, and maybe more
pub record GoesOn (ds : List Dump) (seats : List Seat) (k : ℕ) (d' : Dump) : Type 0 where
  pub dump : Dump
  pub seat : Seat
  pub dump_at : slice_get ds k ≡ Some dump
  pub seat_at : slice_get seats k ≡ Some seat
  pub unfinished : seat.finished ≡ false
  pub header : d'.header ≡ dump.header
  pub more : List BodyItem
  pub items : d'.items ≡ dump.items ++ more

abbrev pub GoOn : (ds : List Dump) (seats : List Seat) → (ds' : List Dump) (seats' : List Seat) → Type 0
GoOn ds seats ds' seats' = (k : ℕ) (d' : Dump) (s' : Seat) → slice_get ds' k ≡ Some d' → slice_get seats' k ≡ Some s' → s'.finished ≡ false → GoesOn ds seats k d'

-- no other input that has not finished comes before this key of the input number k
abbrev pub IsReached : List Header → List Dump → List Seat → ℕ → Key → Type 0
IsReached hs ds seats k key = (j : ℕ) (d : Dump) (s : Seat) → j ≢ k → slice_get ds j ≡ Some d → slice_get seats j ≡ Some s → s.finished ≡ false
    → key_lt key (key_after (factor hs d.header) j d.items) ≡ true

-- of the input number k, of which this is left, was read on its turn, no more than a chunk past a
-- token that came after these items
pub record ReadInTurn (limit chunk : ℕ) (hs : List Header) (ds : List Dump) (seats : List Seat) (k : ℕ) (l : Lane) (left : Input) (rest : Option (List ℕ)) : Type 0 where
  pub items : List BodyItem
  pub small : AllByRecursion (λ x. is_too_large (factor hs l.header) x ≡ false) items
  pub reached : IsReached hs ds seats k (key_after (factor hs l.header) k items)
  pub no_more : ReadsNoMore limit chunk l items left rest

-- What a turn of one input leaves: it has taken some items, to `mid`, and the last step gives this.
-- If it takes only one item, there is only that step.
pub record RunGives {X : Type 0} (rest : X → Option (List ℕ)) (failures : X → ℕ) (hs : List Header) (lanes : List Lane) (alone : Bool)
    (ds : List Dump) (s s' : Standing X) (out out' : Device) (result : Result More Stop) : Type 0 where
  pub dumps : List Dump
  pub mid : Standing X
  pub between : Device
  pub input : ℕ
  pub holds : Holds rest hs lanes dumps mid
  pub ready : IsReady mid
  pub next : IsNext mid.seats input
  pub turn : IsNext s.seats input
  pub seats : length mid.seats ≡ length s.seats
  pub chunks : length mid.chunks ≡ length s.chunks
  pub tokens : length mid.tokens ≡ length s.tokens
  pub failures_are : map failures mid.sources ≡ map failures s.sources
  pub grows : Grows out between (merge_open hs (merged_items ds)) (merge_open hs (merged_items dumps))
  pub goes : GoOn ds s.seats dumps mid.seats
  pub reads : (j : ℕ) (l : Lane) (x : X) → slice_get lanes j ≡ Some l → slice_get mid.sources j ≡ Some x
      → (slice_get s.sources j ≡ Some x) ⊎ ReadInTurn (part_len (length s.seats) s.tokens) (part_len (length s.seats) s.chunks) hs dumps mid.seats j l l.input (rest x)
  pub last : Gives rest hs lanes dumps mid s' between out' result
  pub by_one : alone ≡ true → (dumps ≡ ds) × (mid ≡ s) × (between ≡ out)

-- What the turn of an input leaves whatever the inputs are: only that input was used, the lengths
-- stay, and its failed calls are counted.
pub record Touches {X A : Type 0} (rest : X → Option (List ℕ)) (failures : X → ℕ) (s s' : Standing X) (out out' : Device) (k : ℕ) (result : Result A Stop) : Type 0 where
  pub seats : length s'.seats ≡ length s.seats
  pub chunks : length s'.chunks ≡ length s.chunks
  pub tokens : length s'.tokens ≡ length s.tokens
  pub values : length s'.values ≡ length s.values
  pub reads : map failures s'.sources ≡ failures_with (map failures s.sources) k result
  pub named : NamesInput k result
  pub others : (j : ℕ) → j ≢ k → spot_at rest s'.seats s'.sources s'.chunks s'.tokens j ≡ spot_at rest s.seats s.sources s.chunks s.tokens j
  pub untouched : (j : ℕ) → j ≢ k → (slice_get s'.sources j ≡ slice_get s.sources j)
      × (part (part_len (length s.seats) s.tokens) j s'.values ≡ part (part_len (length s.seats) s.tokens) j s.values)
  pub writes : CountsWrites out out' result

-- What a step of a merge leaves whatever the inputs are: the input whose turn it was was used, and
-- if the merge has not ended, less is left to be looked at.
pub record RunLeaves {X : Type 0} (rest : X → Option (List ℕ)) (failures : X → ℕ) (s s' : Standing X) (out out' : Device) (k : ℕ) (result : Result More Stop) : Type 0 where
  pub ready : result ≡ Ok Again → IsReady s'
  pub touches : Touches rest failures s s' out out' k result
  pub left : result ≡ Ok Again → left_of s'.seats < left_of s.seats

-- What the turn of the next input gives and leaves, if each turn ends at this time at the latest.
pub record Runs {X : Type 0} (rest : X → Option (List ℕ)) (failures : X → ℕ) (until : ℕ) (s s' : Standing X) (out out' : Device) (result : Result More Stop) : Type 0 where
  pub gives : (alone : Bool) (hs : List Header) (lanes : List Lane) (ds : List Dump) → (alone ≡ true → until ≡ 0) → Holds rest hs lanes ds s
      → RunGives rest failures hs lanes alone ds s s' out out' result
  pub input : ℕ
  pub next : IsNext s.seats input
  pub leaves : RunLeaves rest failures s s' out out' input result
