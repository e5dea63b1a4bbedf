-- What a merge holds after the items that its inputs have given, and what a step of it leaves.
use Rattle.std.specs.Prelude.{◌≡◌, ◌≢◌, ℕ, ◌+◌, ◌==◌, ◌⊎◌, ◌*◌, ◌-◌, ◌^◌, cond, sum_by, Bool, true, false, not, List, [], ◌∷◌, ◌++◌, length, take, map, slice_get, slice_set, get_or, Option, Some, None, IfSome, option_map, Result, Ok, Err, All}
use Rattle.std.specs.List.{AllByRecursion, last_or}
use Rattle.vcd_model.specs.Header.{Header}
use Rattle.vcd_model.specs.Input.{Clean, Input}
use Rattle.vcd_model.specs.HeadText.{first_number, renamed}
use Rattle.vcd_model.specs.Items.{BodyItem, marks, time_after}
use Rattle.vcd_model.specs.Bytes.{is_empty}
use Rattle.vcd_model.specs.Merge.{Dump, Keyed, factor, headers_of, key_after, key_lt, keyed_after, merge_close, merge_kept, merge_open, merged_items}
use Rattle.vcd_model.specs.MergeByInput.{keyed_rest, with_item}
use Rattle.vcd_text.specs.Answer.{failed_after}
use Rattle.vcd_text.specs.Feed.{parked_seen}
use Rattle.vcd_text.specs.ReadAhead.{HasRest}
use Rattle.vcd_head.specs.Shown.{shown}
use Rattle.vcd_view.specs.Views.{Views}
use Rattle.vcd_head.specs.declared.head.Head.{Head}
use Rattle.vcd_text.specs.Device.{Device, Writes, WritesSome}
use Rattle.vcd_body.specs.Device.{Grows, GrowsSome}
use Rattle.vcd_body.specs.Answer.{reads_failed}
use Rattle.vcd_merge.specs.MergeOrder.{IsNext}
use Rattle.vcd_merge.specs.MergeParts.{AreParts, AreSeated, part_len, spot_at}
use Rattle.vcd_merge.specs.Seat.{AtSeat, HasDump, Lane, ReadsNoMore, Spot}
use Rattle.vcd_body.specs.declared.answer.Done.TheVariants.{Whole, Early}
use Rattle.vcd_body.specs.declared.answer.More.{More}
use Rattle.vcd_body.specs.declared.answer.More.TheVariants.{Again, Ended}
use Rattle.vcd_body.specs.declared.answer.Stop.{Stop}
use Rattle.vcd_body.specs.declared.answer.Stop.TheVariants.{Dump as Faulty, Read, Write, Unmatched}
use Rattle.vcd_merge.specs.declared.merge_state.Merge.{Merge}
use Rattle.vcd_merge.specs.declared.seat.Seat.{Seat}
use Rattle.vcd_merge.specs.declared.windows.Windows.{Windows}

-- the merge has begun, and no step of it has ended it
abbrev pub is_going : Merge → Bool
is_going m = m.going

-- how many bytes and ends are left to be looked at, at most: each step takes some of them
abbrev pub left_of : List Seat → ℕ
left_of seats = sum_by (λ (s : Seat). cond s.finished 0 (2 ^ 63 - parked_seen s.parked)) seats

-- the failures of the sources after a step of the input at an index
abbrev pub failures_with : {A : Type 0} → List ℕ → ℕ → Result A Stop → List ℕ
failures_with ns k result = slice_set ns k (get_or ns k 0 + reads_failed result)

-- a failed read was the last one of the source that it names; `last_failed` says of each source
-- whether its last read failed
abbrev pub EndsAtReadOf : {A : Type 0} → List Bool → Result A Stop → Type 0
EndsAtReadOf last_failed result = (input : ℕ) → result ≡ Err (Read input) → slice_get last_failed input ≡ Some true

-- the time whose line was written last among the changes of these items
abbrev pub last_written : List Keyed → Option ℕ
last_written ks = last_or None (map (λ e. e.time) (merge_kept ks))

-- all that a merge works on: heads, seats, the time written last, sources and windows
pub record Standing (X : Type 0) : Type 0 where
  pub heads : List Head
  pub seats : List Seat
  pub written : Option ℕ
  pub sources : List X
  pub chunks : List ℕ
  pub tokens : List ℕ
  pub values : List ℕ

abbrev pub standing : {X : Type 0} → List Head → List Seat → Option ℕ → List X → Windows → Standing X
standing heads seats written sources w = record { heads = heads; seats = seats; written = written; sources = sources; chunks = w.chunks.now; tokens = w.tokens.now; values = w.values.now }

abbrev pub standing_of : {X : Type 0} → Merge → List X → Windows → Standing X
standing_of m sources w = standing m.heads.now m.seats.now m.written sources w

-- whatever the inputs are: there are as many heads and sources as seats, some input has not
-- finished, and each feed fits its parts
pub record IsReady {X : Type 0} (s : Standing X) : Type 0 where
  pub heads : length s.heads ≡ length s.seats
  pub sources : length s.sources ≡ length s.seats
  pub parts : AreParts (length s.seats) s.chunks s.tokens s.values
  pub seated : AreSeated s.chunks s.tokens s.seats
  pub some : (k : ℕ) × IsNext s.seats k

-- what is left of an input if a read failed after n bytes
abbrev pub cut_at : Option ℕ → Input → Input
cut_at None i = i
cut_at (Some n) i = failed_after n i

-- What a step from s to s' has read after these items. It is the turn of the input at this index:
-- only of it something was read, and no more than a chunk past a token that comes after its items.
-- If a read failed after n bytes, its source still has the others. The other sources and seats
-- stay.
pub record ReadsOne {X : Type 0} (rest : X → Option (List ℕ)) (lanes : List Lane) (ds : List Dump) (s s' : Standing X) (k : ℕ) (cut : Option ℕ) : Type 0 where
  pub next : IsNext s.seats k
  pub lane : Lane
  pub dump : Dump
  pub source : X
  pub lane_at : slice_get lanes k ≡ Some lane
  pub dump_at : slice_get ds k ≡ Some dump
  pub source_at : slice_get s'.sources k ≡ Some source
  pub no_more : ReadsNoMore (part_len (length s.seats) s.tokens) (part_len (length s.seats) s.chunks) lane dump.items (cut_at cut lane.input) (rest source)
  pub has_rest : IfSome cut (λ n. lane.input.mark ≡ Clean → HasRest (rest source) n lane.input)
  pub others : (j : ℕ) → j ≢ k → slice_get s'.sources j ≡ slice_get s.sources j
  pub seats : (j : ℕ) → j ≢ k → slice_get s'.seats j ≡ slice_get s.seats j

-- an input finishes: it did not count as finished before, and does so after
pub record Finishes (old new : List Seat) (k : ℕ) : Type 0 where
  pub before : Seat
  pub after : Seat
  pub before_at : slice_get old k ≡ Some before
  pub after_at : slice_get new k ≡ Some after
  pub unfinished : before.finished ≡ false
  pub finished : after.finished ≡ true

-- an item may come after these: those of the merged list go before the index after the items of
-- each input that has not finished
abbrev pub GoBefore : List Header → List Dump → List Seat → Type 0
GoBefore hs ds seats = (k : ℕ) (d : Dump) (s : Seat) → slice_get ds k ≡ Some d → slice_get seats k ≡ Some s → s.finished ≡ false
    → AllByRecursion (λ y. key_lt y.key (key_after (factor hs d.header) k d.items) ≡ true) (keyed_rest hs 0 [] ds)

-- each seat says the time of its input, and whether there was a timestamp
pub record AreMarked (hs : List Header) (ds : List Dump) (seats : List Seat) : Type 0 where
  pub dumps_are : headers_of ds ≡ hs
  pub many : length ds ≡ length seats
  pub time : (k : ℕ) (d : Dump) (s : Seat) → slice_get ds k ≡ Some d → slice_get seats k ≡ Some s → s.time ≡ factor hs d.header * time_after d.items
  pub marked : (k : ℕ) (d : Dump) (s : Seat) → slice_get ds k ≡ Some d → slice_get seats k ≡ Some s → s.regs.marked ≡ not (is_empty (marks d.items))

module _ {X : Type 0} (rest : X → Option (List ℕ)) (hs : List Header) (lanes : List Lane) where
  -- each input, with its header, has given the items of its dump, and its seat says where it is
  pub record AreGiven (ds : List Dump) (s : Standing X) : Type 0 where
    pub lanes_are : map (λ l. l.header) lanes ≡ hs
    pub dumps_are : headers_of ds ≡ hs
    pub many : length hs ≡ length s.seats
    pub sources_are : length s.sources ≡ length s.seats
    pub views : (k : ℕ) (h : Head) (l : Lane) → slice_get s.heads k ≡ Some h → slice_get lanes k ≡ Some l → Views (shown h) l.header
    pub at : (k : ℕ) (l : Lane) (d : Dump) (p : Spot) → slice_get lanes k ≡ Some l → slice_get ds k ≡ Some d → spot_at rest s.seats s.sources s.chunks s.tokens k ≡ Some p
        → AtSeat (factor hs l.header) (first_number (take k hs)) l d.items p
    pub before : GoBefore hs ds s.seats

  -- the merge knows the time whose line was written last
  pub record Holds (ds : List Dump) (s : Standing X) : Type 0 where
    pub given : AreGiven ds s
    pub written : s.written ≡ last_written (merged_items ds)

  -- the item that comes next, of the input at an index
  abbrev pub next_item : ℕ → Dump → BodyItem → Keyed
  next_item k d x = keyed_after (factor hs d.header) k (renamed (take k hs) d.header) d.items x

  -- it is the turn of the input at this index, and after its items it has this fault; if a read
  -- failed, what is left of it is cut
  pub record HasFault (ds : List Dump) (s : Standing X) (input line fault : ℕ) (cut : Option ℕ) : Type 0 where
    pub next : IsNext s.seats input
    pub lane : Lane
    pub dump : Dump
    pub lane_at : slice_get lanes input ≡ Some lane
    pub dump_at : slice_get ds input ≡ Some dump
    pub has : HasDump (factor hs lane.header) (part_len (length s.seats) s.tokens) lane.header lane.front (cut_at cut lane.input) dump.items (Some (record { number = fault; line = line }))

  -- one item of one input was taken, and it is the next of the merged list
  pub record Takes (ds : List Dump) (s : Standing X) (k : ℕ) (d : Dump) (x : BodyItem) : Type 0 where
    pub dump_at : slice_get ds k ≡ Some d
    pub merged : merged_items (with_item ds k d x) ≡ merged_items ds ++ next_item k d x ∷ []
    pub given : AreGiven (with_item ds k d x) s

  -- no item was taken: an input has finished, the same items are held, and nothing was written
  pub record HasEnded (ds : List Dump) (s s' : Standing X) (out out' : Device) : Type 0 where
    pub holds : Holds ds s'
    pub writes : Writes out out' []
    pub input : ℕ
    pub finishes : Finishes s.seats s'.seats input
    pub reads : ReadsOne rest lanes ds s s' input None

  -- all inputs have finished, after one more item or after these; and what follows was written, all
  -- of it or a prefix
  pub record IsEnd (ds : List Dump) (s s' : Standing X) (out out' : Device) : Type 0 where
    pub given : AreGiven ds s'
    pub finished : All (λ (x : Seat). x.finished ≡ true) s'.seats
    pub closes : Writes out out' (merge_close (merged_items ds))
    pub input : ℕ
    pub reads : ReadsOne rest lanes ds s s' input None

  pub record IsEndSome (ds : List Dump) (s s' : Standing X) (out out' : Device) : Type 0 where
    pub given : AreGiven ds s'
    pub finished : All (λ (x : Seat). x.finished ≡ true) s'.seats
    pub closes : GrowsSome out out' [] (merge_close (merged_items ds))
    pub input : ℕ
    pub reads : ReadsOne rest lanes ds s s' input None

  -- what is kept back could not be passed on before the input whose turn it is was read: nothing
  -- was read or written
  pub record KeepsBack (s s' : Standing X) (out out' : Device) : Type 0 where
    pub input : ℕ
    pub next : IsNext s.seats input
    pub writes : WritesSome out out' []
    pub unread : (j : ℕ) → option_map rest (slice_get s'.sources j) ≡ option_map rest (slice_get s.sources j)

  -- What a step from s after these items returns, by what it leaves. If the merge has not ended, an
  -- item was taken, or an input has finished that had not. A write fails with an item, at the end,
  -- or before a read.
  abbrev pub Gives : List Dump → Standing X → Standing X → Device → Device → Result More Stop → Type 0
  Gives ds s s' out out' (Ok Again) =
      ((k : ℕ) × (d : Dump) × (x : BodyItem) × Takes ds s' k d x × (s'.written ≡ last_written (merged_items (with_item ds k d x)))
      × Grows out out' (merge_open hs (merged_items ds)) (merge_open hs (merged_items (with_item ds k d x))) × ReadsOne rest lanes ds s s' k None)
      ⊎ HasEnded ds s s' out out'
  Gives ds s s' out out' (Ok (Ended Whole)) = IsEnd ds s s' out out'
  Gives ds s s' out out' (Ok (Ended Early)) = ⊥
  Gives ds s s' out out' (Err (Faulty input line fault)) = HasFault ds s input line fault None × ((fault == 31) ≡ false) × Writes out out' [] × ReadsOne rest lanes ds s s' input None
  Gives ds s s' out out' (Err (Read input)) = ((n : ℕ) × (line : ℕ) × HasFault ds s input line 31 (Some n) × ReadsOne rest lanes ds s s' input (Some n)) × Writes out out' []
  Gives ds s s' out out' (Err Write) =
      ((k : ℕ) × (d : Dump) × (x : BodyItem) × Takes ds s' k d x × GrowsSome out out' (merge_open hs (merged_items ds))
      (merge_open hs (merged_items (with_item ds k d x))) × ReadsOne rest lanes ds s s' k None)
      ⊎ (IsEndSome ds s s' out out' ⊎ KeepsBack s s' out out')
  Gives ds s s' out out' (Err (Unmatched name)) = ⊥
