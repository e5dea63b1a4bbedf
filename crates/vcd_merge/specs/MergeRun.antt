-- What a whole merge leaves: what is left of its inputs, how much of each was read, and what is on
-- the output.
use Rattle.std.specs.Prelude.{◌≡◌, ◌≢◌, ◌==◌, ◌⊎◌, Bool, true, false, ℕ, List, [], ◌∷◌, ◌++◌, map, slice_get, slice_set, Option, Some, None, Result, Ok, Err}
use Rattle.vcd_model.specs.Header.{Header}
use Rattle.vcd_model.specs.Input.{Input}
use Rattle.vcd_model.specs.Items.{BodyItem}
use Rattle.vcd_model.specs.Merge.{Dump, Key, factor, headers_of, key_after, key_lt, merge_open, merged_items}
use Rattle.vcd_model.specs.Reading.{Fault}
use Rattle.vcd_model.specs.Tokens.{Token, stream_of}
use Rattle.vcd_model.specs.Outcome.{Opened, Outcome, Request, clean_outcome, dumps_of, fault_outcome, merge_outcome, name_at}
use Rattle.vcd_model.specs.Settled.{is_settled_behind}
use Rattle.vcd_model.specs.SettledMerge.{SeenBody, bodies_settle}
use Rattle.vcd_text.specs.Device.{Appends, Device, Supply, Writes, WritesSome}
use Rattle.vcd_text.specs.ReadAhead.{ReadsAsNeeded}
use Rattle.vcd_body.specs.Answer.{IsLeft}
use Rattle.vcd_merge.specs.Seat.{HasDump, Lane, ReadsNoMore}
use Rattle.vcd_body.specs.declared.answer.Done.{Done}
use Rattle.vcd_body.specs.declared.answer.Done.TheVariants.{Whole, Early}
use Rattle.vcd_body.specs.declared.answer.Stop.{Stop}
use Rattle.vcd_body.specs.declared.answer.Stop.TheVariants.{Dump as Faulty, Read, Write, Unmatched}

-- the inputs after their headers, one by one: what is left of each, and that no more was read of it
-- than what settles it
abbrev pub AreLeft : (limit chunk : ℕ) → List Lane → (old new : List Supply) → List Input → Type 0
AreLeft limit chunk [] old new lefts = lefts ≡ []
AreLeft limit chunk (l ∷ ls) [] new lefts = ⊥
AreLeft limit chunk (l ∷ ls) (s ∷ ss) [] lefts = ⊥
AreLeft limit chunk (l ∷ ls) (s ∷ ss) (t ∷ ts) [] = ⊥
AreLeft limit chunk (l ∷ ls) (s ∷ ss) (t ∷ ts) (i ∷ is) = IsLeft l.input s t i
    × ReadsAsNeeded limit chunk s t i l.front (is_settled_behind Request.Merge l.header) × AreLeft limit chunk ls ss ts is

-- the inputs after their headers, one by one, over what is left of them
abbrev pub AreOpened : ℕ → List Lane → List Input → List Opened → Type 0
AreOpened limit [] lefts os = os ≡ []
AreOpened limit (l ∷ ls) [] os = ⊥
AreOpened limit (l ∷ ls) (i ∷ is) [] = ⊥
AreOpened limit (l ∷ ls) (i ∷ is) (o ∷ os) = (o ≡ record { header = l.header; stream = stream_of limit i; rest = o.rest })
    × ((stream_of limit i).tokens ≡ l.front ++ o.rest) × AreOpened limit ls is os

-- an input after its header of which all is known, and one of which these first tokens are
abbrev pub known_whole : Opened → SeenBody
known_whole o = record { header = o.header; rest = o.rest; whole = Some o.stream }

abbrev pub known_first : Header → List Token → SeenBody
known_first h ts = record { header = h; rest = ts; whole = None }

-- these first tokens of the input at an index would settle the merge if all of the others were
-- known
abbrev pub settles_among : List Opened → ℕ → Header → List Token → Bool
settles_among os k h ts = bodies_settle (slice_set (map known_whole os) k (known_first h ts))

-- the answer and the output of a merge of inputs with these names that has this outcome; a failed
-- write leaves a prefix of the output
abbrev pub Belongs : Outcome → List (List ℕ) → Device → Device → Result Done Stop → Type 0
Belongs o names out out' (Ok Whole) = (o ≡ clean_outcome o.output) × Writes out out' o.output
Belongs o names out out' (Ok Early) = ⊥
Belongs o names out out' (Err (Faulty input line fault)) = (o ≡ fault_outcome o.output (name_at names input)
    (record { number = fault; line = line })) × ((fault == 31) ≡ false) × Writes out out' o.output
Belongs o names out out' (Err (Read input)) = ((line : ℕ) × (o ≡ fault_outcome o.output (name_at names input) (record { number = 31; line = line }))) × Writes out out' o.output
Belongs o names out out' (Err Write) = WritesSome out out' o.output
Belongs o names out out' (Err (Unmatched index)) = ⊥

-- ---- whose turn it was

-- these are all items of an input after its header, and it has no fault
abbrev pub HasEnded : (limit : ℕ) → List Header → Lane → List BodyItem → Type 0
HasEnded limit hs l items = HasDump (factor hs l.header) limit l.header l.front l.input items None

-- these are its first items
abbrev pub BeginsWith : (limit : ℕ) → List Header → Lane → List BodyItem → Type 0
BeginsWith limit hs l items = (more : List BodyItem) × (fault : Option Fault) × HasDump (factor hs l.header) limit l.header l.front l.input (items ++ more) fault

-- the inputs have given these items, and no other input than the one at this index has an item
-- before this key: its next item comes after the key, or it has ended
abbrev pub NoneBefore : (limit : ℕ) → List Header → List Lane → List Dump → ℕ → Key → Type 0
NoneBefore limit hs lanes merged k key = (j : ℕ) (l : Lane) (d : Dump) → j ≢ k → slice_get lanes j ≡ Some l → slice_get merged j ≡ Some d
    → HasEnded limit hs l d.items ⊎ (key_lt key (key_after (factor hs l.header) j d.items) ≡ true)

-- What the source of the input at an index still has, once the inputs have given these items: no
-- more was read of it than a chunk past a token for which it was asked after `items` of its own, in
-- its turn.
pub record ReadOnTurn (limit chunk : ℕ) (hs : List Header) (lanes : List Lane) (merged : List Dump) (k : ℕ) (l : Lane) (left : Input) (rest : Option (List ℕ)) : Type 0 where
  pub items : List BodyItem
  pub first : NoneBefore limit hs lanes merged k (key_after (factor hs l.header) k items)
  pub no_more : ReadsNoMore limit chunk l items left rest

-- Each input was read only in its turn. No read runs ahead of the output: the inputs have these
-- first items, what is due with them is on the output, and each was read in its turn after them.
pub data AreReadOnTurn (limit chunk : ℕ) (hs : List Header) (lanes : List Lane) (old new : List Supply) (lefts : List Input) (out out' : Device) : Type 0 where
  Unread : (same : new ≡ old) → AreReadOnTurn limit chunk hs lanes old new lefts out out'
  OnTurn : (merged : List Dump) (headers : headers_of merged ≡ hs) (begins : (k : ℕ) (l : Lane) (d : Dump) → slice_get lanes k ≡ Some l
      → slice_get merged k ≡ Some d → BeginsWith limit hs l d.items)
      (more : List ℕ) (written : Appends out.held out'.held (merge_open hs (merged_items merged) ++ more))
      (each : (k : ℕ) (l : Lane) (s t : Supply) (i : Input) → slice_get lanes k ≡ Some l → slice_get old k ≡ Some s → slice_get new k ≡ Some t
      → slice_get lefts k ≡ Some i → (t ≡ s) ⊎ ReadOnTurn limit chunk hs lanes merged k l i t.rest)
      → AreReadOnTurn limit chunk hs lanes old new lefts out out'

-- After these headers and their tokens, a merge over these inputs has this outcome; `old` and `new`
-- are their sources before and after it. Of each input no more was read than what settles the
-- merge, and a chunk, even if all of the others were known. Nor was any read before its turn.
pub record Follows (limit chunk : ℕ) (lanes : List Lane) (names : List (List ℕ)) (old new : List Supply) (out out' : Device) (result : Result Done Stop) : Type 0 where
  pub lefts : List Input
  pub are_left : AreLeft limit chunk lanes old new lefts
  pub opened : List Opened
  pub are_opened : AreOpened limit lanes lefts opened
  pub needed : (k : ℕ) (l : Lane) (s t : Supply) (i : Input) → slice_get lanes k ≡ Some l → slice_get old k ≡ Some s → slice_get new k ≡ Some t
      → slice_get lefts k ≡ Some i → ReadsAsNeeded limit chunk s t i l.front (settles_among opened k l.header)
  pub on_turn : AreReadOnTurn limit chunk (map (λ (l : Lane). l.header) lanes) lanes old new lefts out out'
  pub belongs : Belongs (merge_outcome names (dumps_of opened)) names out out' result
