-- What a run leaves.
use Rattle.std.specs.Prelude.{◌≡◌, ◌==◌, false, ℕ, Bool, List, [], ◌∷◌, ◌++◌, codes, map, slice_get, slice_set, Some, Result, Ok, Err}
use Rattle.vcdkit.specs.Cited.{Input, Header, header_of, read_header, due, Outcome, allowed_after, clean_outcome, declarations_allowed, fault_outcome, name_at, phrases_of, is_header_over, is_settled, Token, stream_of, Seen, is_settled_merge, whole, Device, Supply, Writes, WritesSome, ReadsAsNeeded, IsLeft, KeepsUp, Done, Dump, Read, Write, AreReadOnTurn, Lane, AreBegun, Stops, headers_in, Failure, Stopped, OutOfMemory, Tells, settled_for}
pub use Rattle.vcdkit.specs.Cited.{IsOutcome}
use Rattle.vcdkit.specs.Work.{program_name}
use Rattle.vcd_model.specs.Job as model

-- ---- all inputs

-- the header of an input after others with these headers
abbrev pub header_behind : List Header → ℕ → Input → Header
header_behind earlier limit i = header_of (phrases_of (read_header (allowed_after earlier) (stream_of limit i)).placed)

-- The inputs of readers with these texts, one by one: all of a text; or, if a read failed, what the
-- reader gave until then. No more was read of each than what settles it, if this many declarations
-- are allowed.
abbrev pub AreRead : (ℕ → List Token → Bool) → (limit chunk : ℕ) → List Header → List (List ℕ) → (old new : List Supply) → List Input → Type 0
AreRead settled limit chunk earlier [] old new inputs = inputs ≡ []
AreRead settled limit chunk earlier (text ∷ texts) [] new inputs = ⊥
AreRead settled limit chunk earlier (text ∷ texts) (s ∷ old) [] inputs = ⊥
AreRead settled limit chunk earlier (text ∷ texts) (s ∷ old) (t ∷ new) [] = ⊥
AreRead settled limit chunk earlier (text ∷ texts) (s ∷ old) (t ∷ new) (i ∷ inputs) =
    IsLeft (whole text) s t i × ReadsAsNeeded limit chunk s t i [] (settled (allowed_after earlier))
    × AreRead settled limit chunk (earlier ++ header_behind earlier limit i ∷ []) texts old new inputs

-- ---- the end of a run

-- The output of a merge of inputs with these names that returns this and has this outcome. A failed
-- write leaves a prefix of it; if memory ran out it leaves nothing.
abbrev pub LeavesAll : (names : List (List ℕ)) → Outcome → Device → Device → Result Done Failure → Type 0
LeavesAll names o out out' (Ok done) = (o ≡ clean_outcome o.output) × Writes out out' o.output
LeavesAll names o out out' (Err (Stopped (Dump input line fault))) =
    (o ≡ fault_outcome o.output (name_at names input) (record { number = fault; line = line })) × ((fault == 31) ≡ false) × Writes out out' o.output
LeavesAll names o out out' (Err (Stopped (Read input))) = ((line : ℕ) × (o ≡ fault_outcome o.output (name_at names input) (record { number = 31; line = line }))) × Writes out out' o.output
LeavesAll names o out out' (Err (Stopped Write)) = WritesSome out out' o.output
LeavesAll names o out out' (Err (Stopped stop)) = ⊥
LeavesAll names o out out' (Err OutOfMemory) = Writes out out' []

-- all that these inputs are
abbrev pub known : ℕ → List Input → List Seen
known limit inputs = map (λ (i : Input). Seen.All (stream_of limit i)) inputs

-- these first tokens of the input at an index settle a merge whose other inputs are all known
abbrev pub settles_among : ℕ → List Input → ℕ → List Token → Bool
settles_among limit inputs k ts = is_settled_merge (slice_set (known limit inputs) k (Seen.First ts))

-- of each input of a merge no more was read than what settles the merge, and a chunk, even if all
-- of the others are known
abbrev pub AreNeeded : model.Want → (limit chunk : ℕ) → (old new : List Supply) → List Input → Type 0
AreNeeded model.Want.Merge limit chunk old new inputs = (k : ℕ) (s t : Supply) (i : Input) → slice_get old k ≡ Some s → slice_get new k ≡ Some t
    → slice_get inputs k ≡ Some i → ReadsAsNeeded limit chunk s t i [] (settles_among limit inputs k)
AreNeeded want limit chunk old new inputs = Unit {0}

-- How the inputs of a merge were read: their headers one after the other, up to one that ended the
-- merge, and nothing of those after it; or all of the headers, and then each body only on its turn.
pub data AreMergedInTurn (limit chunk : ℕ) (texts : List (List ℕ)) (old new : List Supply) (inputs : List Input) (out out' : Device) : Type 0 where
  InHeaders : (why : Failure) (stops : Stops limit chunk 0 [] texts old new why) → AreMergedInTurn limit chunk texts old new inputs out out'
  InBodies : (lanes : List Lane) (mid : List Supply) (begun : AreBegun limit chunk [] texts old mid lanes)
      (bodies : AreReadOnTurn limit chunk (headers_in lanes) lanes mid new inputs out out')
      → AreMergedInTurn limit chunk texts old new inputs out out'

-- the output of any other job keeps up with the reads of its one input
abbrev pub OneKeepsUp : model.Want → (limit chunk : ℕ) → (old new : List Supply) → List Input → (out out' : Device) → Type 0
OneKeepsUp want limit chunk old new inputs out out' = (s t : Supply) (i : Input) → old ≡ s ∷ [] → new ≡ t ∷ [] → inputs ≡ i ∷ []
    → KeepsUp (due want declarations_allowed) limit chunk i [] s t out out'

-- no read of a job runs ahead of its output
abbrev pub AreInTurn : model.Want → (limit chunk : ℕ) → List (List ℕ) → (old new : List Supply) → List Input → (out out' : Device) → Type 0
AreInTurn model.Want.Merge limit chunk texts old new inputs out out' = AreMergedInTurn limit chunk texts old new inputs out out'
AreInTurn want limit chunk texts old new inputs out out' = OneKeepsUp want limit chunk old new inputs out out'

-- how a merge over readers with these texts ends: with the outcome of what is left of them; no more
-- was read of each than what settles it, and no read ran ahead of the output
pub record EndsAll (limit chunk : ℕ) (names texts : List (List ℕ)) (old new : List Supply) (out out' : Device) (result : Result Done Failure) : Type 0 where
  pub lefts : List Input
  pub read : AreRead (λ most. settled_for result (is_settled model.Want.Merge most) (is_header_over most)) limit chunk [] texts old new lefts
  pub needed : AreNeeded model.Want.Merge limit chunk old new lefts
  pub in_turn : AreMergedInTurn limit chunk texts old new lefts out out'
  pub leaves : LeavesAll names (model.outcome model.Want.Merge limit names lefts) out out' result

-- no read of these readers failed
abbrev pub NoneFailed : (old new : List Supply) → Type 0
NoneFailed old new = map (λ (s : Supply). s.failures) new ≡ map (λ (s : Supply). s.failures) old

-- how a job ends over readers with these texts
pub data HasRun (want : model.Want) (limit chunk : ℕ) (names texts : List (List ℕ)) (old new : List Supply) (out out' err err' : Device) (status : ℕ) : Type 0 where
  -- with the outcome of its inputs
  WithOutcome : (inputs : List Input) (read : AreRead (is_settled want) limit chunk [] texts old new inputs)
      (needed : AreNeeded want limit chunk old new inputs) (in_turn : AreInTurn want limit chunk texts old new inputs out out')
      (leaves : IsOutcome program_name (model.outcome want limit names inputs) out out' err err' status)
      → HasRun want limit chunk names texts old new out out' err err' status
  -- without output, if memory ran out and no read failed; no more was read than the headers
  NoMemory : (inputs : List Input) (read : AreRead is_header_over limit chunk [] texts old new inputs)
      (needed : AreNeeded want limit chunk old new inputs) (in_turn : AreInTurn want limit chunk texts old new inputs out out')
      (same : NoneFailed old new) (written : Writes out out' []) (shown : Tells program_name err err' (codes "out of memory"))
      (status_is : status ≡ 3)
      → HasRun want limit chunk names texts old new out out' err err' status
