-- A merge as a loop over steps.
use Rattle.vcd_merge.proofs.Cited.{◌≡◌, ◌≢◌, ◌∙◌, ℕ, zero, suc, ◌+◌, ◌-◌, ◌^◌, ◌<◌, ◌++◌, true, false, List, [], ◌∷◌, length, map, slice_get, slice_set, Some, None, ap, ap₂, sym, subst, refl, Result, Ok, Err, arith, ◌⊎◌, inl, inr, append-nil, All, Option, get_or, option_map, list_any, set-get_or, Header, BodyItem, body_fault_of, read_body, is_settled_behind, Dump, factor, headers_of, key_after, key_lt, merge_close, merge_open, merged_items, with_item, Opened, Request, ends_early, fault_outcome, merge_outcome, name_at, Fault, Token, stream_of, ReadsAsNeeded, Nothing, Appends, Device, Supply, Writes, WritesSome, supply, appends-twice, both-written, some-behind, some-first, IsLeft, reads_failed, IsNext, part_len, AreReadOnTurn, Belongs, Follows, settles_among, OnTurn, Unread, Gives, HasFault, HasDump, IsReady, ReadsOne, RunGives, cut_at, Standing, failures_with, GoOn, ReadInTurn, HaveJust, Lane, Seat, Done, Early, More, Again, Ended, Stop, Read, Write, Unmatched, fault_output, head_first, same_or_not, get_mapped}
use Rattle.vcd_model.specs.Merge.{dump_of}
use Rattle.vcd_body.proofs.AskedLemmas.{unsettled as unsettled_alone}
use Rattle.vcd_body.specs.declared.answer.Done.TheVariants.{Whole}
use Rattle.vcd_body.specs.declared.answer.Stop.TheVariants.{Dump as Faulty}
use Rattle.vcd_merge.proofs.MergeReads as reads
use Rattle.vcd_merge.proofs.InTurn.{go_item, go_same, go_still}
use Rattle.vcd_merge.proofs.OnTurn.{begins, on_turn}
use Rattle.vcd_merge.proofs.MergeReads.{AreReadSoFar, IsRead, IsReadSo, cut_left, left_whole, other_left, read_more, reads_for}
use Rattle.vcd_merge.proofs.MergeSteps.{AtTurn, all_before, len_map}
use Rattle.vcd_merge.proofs.MergeRunOn.{IsSoFar, run_on}
use Rattle.vcd_merge.proofs.MergeStops.{EndFits, HasLaterFault, StopFits, WriteFits, all_up_to, behind, clean_is, ends, fault_merged, late_behind, late_next, place_next, stops, writes, written_some}
use Rattle.vcd_merge.proofs.MergeWholes as whole
use Rattle.vcd_merge.proofs.MergeWholes.{Wholes, choose_all, entire, entire_of, fit_at, opened_of}
use Rattle.vcd_merge.proofs.WholesFit.{left_all}
use Rattle.vcd_merge.proofs.WholesOpened.{AreNeeded, entire_headers, follows, opened_dumps, opened_headers}
use Rattle.vcd_merge.proofs.SpotLemmas.{IsLong, found, long_of, same_next}
use Rattle.vcd_merge.proofs.PartLemmas.{same_part}
use Rattle.vcd_merge.specs.MergeTrail.{Runs}
use Rattle.vcd_merge.proofs.Unsettled.{unsettled}

-- ---- what is counted

-- where no read failed, whichever input's turn it was
scanned : {A : Type 0} (ns : List ℕ) (k : ℕ) (r : Result A Stop) → reads_failed r ≡ 0 → failures_with ns k r ≡ ns
scanned ns k r e = let z : get_or ns k 0 + reads_failed r ≡ get_or ns k 0 = omega (arith, e) in ap (slice_set ns k) z ∙ set-get_or ns k 0

at_any : {A : Type 0} (ns ms : List ℕ) (k j : ℕ) (r : Result A Stop) → reads_failed r ≡ 0 → ms ≡ failures_with ns k r → ms ≡ failures_with ns j r
at_any ns ms k j r none e = e ∙ scanned ns k r none ∙ sym (scanned ns j r none)

-- a step that continues leaves the failures
pub same_failures : (ns ms : List ℕ) (k : ℕ) (r : Result More Stop) → r ≡ Ok Again → ms ≡ failures_with ns k r → ms ≡ ns
same_failures ns ms k r again e = e ∙ scanned ns k r (ap (λ (x : Result More Stop). reads_failed x) again)

-- so that they are as low as they were
pub still_low : {X : Type 0} (f : X → ℕ) (xs ys : List X) → map f ys ≡ map f xs → All (λ s. f s < 2 ^ 64 - 1) xs → All (λ s. f s < 2 ^ 64 - 1) ys
still_low f xs [] e h = λ k d l. absurd (omega arith)
still_low f [] (y ∷ ys) e h = cc
still_low f (x ∷ xs) (y ∷ ys) e h =
    let a : f y ≡ f x = cc in
    let b : map f ys ≡ map f xs = cc in
    let more = still_low f xs ys b (λ k d l. h (suc k) d (omega arith)) in
    λ k d l. by_place k d l more
  where
    by_place : (k : ℕ) (d : _) → k < length (y ∷ ys) → All (λ s. f s < 2 ^ 64 - 1) ys → f (get_or (y ∷ ys) k d) < 2 ^ 64 - 1
    by_place zero d l more = let a : f y ≡ f x = cc in let b = h 0 d (omega arith) in omega (arith, a, b)
    by_place (suc k) d l more = more k d (omega arith)

-- tokens with just these items do not settle an input
open_behind : (h : Header) (items : List BodyItem) (ts : List Token) → HaveJust h.codes items ts → is_settled_behind Request.Merge h ts ≡ false
open_behind h items ts have = unsettled_alone Request.Merge h items ts refl (none_early items) have
  where
    none_early : (xs : List BodyItem) → list_any (ends_early Request.Merge) xs ≡ false
    none_early [] = refl
    none_early (x ∷ xs) = none_early xs

-- standings whose windows are parted alike
record SameParts {X : Type 0} (s s' : Standing X) : Type 0 where
  seats : length s'.seats ≡ length s.seats
  tokens : length s'.tokens ≡ length s.tokens
  limit : part_len (length s'.seats) s'.tokens ≡ part_len (length s.seats) s.tokens
  chunk : part_len (length s'.seats) s'.chunks ≡ part_len (length s.seats) s.chunks

same_parts : {X : Type 0} (s s' : Standing X) → length s'.seats ≡ length s.seats → length s'.chunks ≡ length s.chunks → length s'.tokens ≡ length s.tokens → SameParts s s'
same_parts s s' seats chunks tokens = record {
  seats = seats;
  tokens = tokens;
  limit = same_part (length s.seats)
      (length s'.seats) s.tokens s'.tokens seats tokens;
  chunk = same_part (length s.seats) (length s'.seats) s.chunks s'.chunks seats chunks;
}

module _ {X : Type 0} {rest : X → Option (List ℕ)} {failures : X
    → ℕ} {hs : List Header} {lanes : List Lane} {limit chunk : ℕ} {olds : List Supply} {begin : Device} {ds : List Dump} {s : Standing X} {out : Device}
    (b : IsSoFar rest failures hs lanes limit chunk olds begin ds s out) where
  -- there are as many sources as lanes
  as_many : (xs : List X) → length xs ≡ length s.sources → length (map (supply rest failures) xs) ≡ length lanes
  as_many xs e =
      let j = len_map (supply rest failures) xs in
      let c = b.ready.sources in
      let d = b.holds.given.many in
      let l = ap (λ (x : List Header). length x) b.holds.given.lanes_are in
      let n = len_map (λ (x : Lane). x.header) lanes in
      omega (arith, e, c, d, l, n, j)

  pub as_many_olds : (xs : List X) → map failures s.sources ≡ map failures xs → length (map (supply rest failures) xs) ≡ length lanes
  as_many_olds xs e = as_many xs (sym (len_map failures xs) ∙ sym (ap length e) ∙ len_map failures s.sources)

  abbrev AreReadTo : Standing X → List Dump → List Seat → Type 0
  AreReadTo s' es seats = AreReadSoFar rest failures hs limit chunk lanes olds es seats s'.sources

  -- a step
  module _ (s' : Standing X) (k : ℕ) (r : Result More Stop) (counts : map failures s'.sources ≡ failures_with (map failures s.sources) k r) where
    -- .. in which no read failed
    read_on : (es : List Dump) (news : List Seat) (j : ℕ) → GoOn ds s.seats es news → reads_failed r ≡ 0 → ReadsOne rest lanes ds s s' j None → AreReadTo s' es news
    read_on es news j go none one = read_more rest failures hs limit chunk lanes olds ds es news s s' j r None b.holds go b.reads one
        (at_any (map failures s.sources) (map failures s'.sources) k j r none counts) b.limit_is b.chunk_is refl none

    -- .. by which no item was taken
    read_same : (j : ℕ) → reads_failed r ≡ 0 → ReadsOne rest lanes ds s s' j None → AreReadTo s' ds s'.seats
    read_same j none one = read_on ds s'.seats j (go_same ds s.seats s'.seats j one.next one.seats one.dump one.dump_at) none one

    -- .. by which this one was
    read_item : (j : ℕ) (d : Dump) (x : BodyItem) → slice_get ds j ≡ Some d → reads_failed r ≡ 0 → ReadsOne rest lanes ds s s' j None → AreReadTo s' (with_item ds j d x) s'.seats
    read_item j d x at none one = read_on (with_item ds j d x) s'.seats j (go_item ds s.seats s'.seats j one.next one.seats d x at) none one

    -- by it one input was read on its turn
    turn_of : (j : ℕ) → reads_failed r ≡ 0 → ReadsOne rest lanes ds s s' j None → AreReadTo s' ds s.seats
    turn_of j none one = read_on ds s.seats j (go_still ds s.seats) none one

    -- nothing was read
    unread : reads_failed r ≡ 0 → ((j : ℕ) → option_map rest (slice_get s'.sources j) ≡ option_map rest (slice_get s.sources j)) → AreReadTo s' ds s.seats
    unread none rests = record {
      each = λ j l old new at_l at_old at_new.
          let same = counts ∙ scanned (map failures s.sources) k r none in
          let x = reads.unmap (supply rest failures) s'.sources j new at_new in
          let y = reads.unmap failures s.sources j (failures x.0) (ap (λ (ns : List ℕ). slice_get ns j) (sym same) ∙ get_mapped failures s'.sources j x.0 x.1) in
          let both : Some (rest y.0) ≡ Some (rest x.0) = ap (option_map rest) (sym y.1) ∙ sym (rests j) ∙ ap (option_map rest) x.1 in
          let is : rest y.0 ≡ rest x.0 = cc in
          let supplies : supply rest failures y.0 ≡ new = ap₂ (λ (r : Option (List ℕ)) (n : ℕ). record { rest = r; failures = n }) is y.2 ∙ x.2 in
          b.reads.each j l old new at_l at_old (get_mapped (supply rest failures) s.sources j y.0 y.1 ∙ ap (λ (z : Supply). Some z) supplies);
    }

    new_many : length (map (supply rest failures) s'.sources) ≡ length lanes
    new_many = as_many s'.sources (reads.as_many failures s.sources s'.sources k r counts)

  -- what is due is on the output, and this with it
  wrote : (new : Device) (more : List ℕ) → Writes out new more → Writes begin new (merge_open hs (merged_items ds) ++ more)
  wrote new more w = both-written begin out new (merge_open hs (merged_items ds)) more b.writes w

  wrote_none : (new : Device) → Writes out new [] → Writes begin new (merge_open hs (merged_items ds))
  wrote_none new w = subst (Writes begin new) (append-nil (merge_open hs (merged_items ds))) (wrote new [] w)

  -- the merge continues: it holds an item more, or the same
  advances : (s' : Standing X) (new : Device) (k : ℕ) → IsReady s' → SameParts s s'
      → map failures s'.sources ≡ failures_with {A = More} (map failures s.sources) k (Ok Again) → Gives rest hs lanes ds s s' out new (Ok Again)
      → (es : List Dump) × IsSoFar rest failures hs lanes limit chunk olds begin es s' new
  advances s' new k ready same counts (inl t) = (
    with_item ds t.0 t.1 t.2,
    record {
      holds = record { given = t.3.given; written = t.4 };
      ready = ready;
      limit_is = same.limit ∙ b.limit_is;
      chunk_is = same.chunk
          ∙ b.chunk_is;
      reads = read_item s' k (Ok Again) counts t.0 t.1 t.2 t.3.dump_at refl t.6;
      writes = rw t.5.1 (wrote new t.5.0 t.5.2);
    },
  )
  advances s' new k ready same counts (inr t) = (
    ds,
    record {
      holds = t.holds;
      ready = ready;
      limit_is = same.limit
          ∙ b.limit_is;
      chunk_is = same.chunk ∙ b.chunk_is;
      reads = read_same s' k
          (Ok Again) counts t.input refl t.reads;
      writes = wrote_none new t.writes;
    },
  )

  -- ---- the exits: what a last step takes the run to

  module _ (names : List (List ℕ)) (many : length olds ≡ length lanes) (s' : Standing X) (new : Device) (same : SameParts s s') where
    abbrev news : List Supply
    news = map (supply rest failures) s'.sources

    abbrev IsFollowed : Result Done Stop → Type 0
    IsFollowed r = Follows limit chunk lanes names olds news begin new r

    -- the output has what is due before the last step, and maybe more
    abbrev IsOut : Type 0
    IsOut = (more : List ℕ) × Appends begin.held new.held (merge_open hs (merged_items ds) ++ more)

    out_with : (more : List ℕ) → Appends out.held new.held more → IsOut
    out_with more then = (more, appends-twice begin.held out.held new.held (merge_open hs (merged_items ds)) more b.writes.0 then)

    long : IsLong rest limit s
    long = long_of rest s s limit b.limit_is b.ready refl refl

    new_long : IsLong rest limit s'
    new_long = long_of rest s s' limit b.limit_is b.ready same.seats same.tokens

    -- by what is left of each input, which was read on its turn alone
    module _ (P : ℕ → whole.Whole hs limit → Type 0) (es : List Dump) (ends : List Seat) (ws : Wholes hs limit P 0 lanes es)
        (later : (k : ℕ) (x : whole.Whole hs limit) → P k x → HasLaterFault hs limit ends k x) where
      abbrev os : List Opened
      os = map (opened_of hs limit) ws.list

      abbrev AreAllRead : Type 0
      AreAllRead = (k : ℕ) (x : whole.Whole hs limit) (old new : Supply) → P k x → slice_get lanes k ≡ Some x.lane → slice_get olds k ≡ Some old
          → slice_get news k ≡ Some new → IsRead limit chunk hs es ends k x.lane old new x.left

      lane_of : (k : ℕ) (x : whole.Whole hs limit) → slice_get ws.list k ≡ Some x → slice_get lanes k ≡ Some x.lane
      lane_of k x at = ap (λ (ls : List Lane). slice_get ls k) (sym ws.lanes_are) ∙ get_mapped (λ (y : whole.Whole hs limit). y.lane) ws.list k x at

      fits : (k : ℕ) (x : whole.Whole hs limit) → slice_get ws.list k ≡ Some x → P k x
      fits k x at = let i : 0 + k ≡ k = omega arith in subst (λ (j : ℕ). P j x) i (fit_at hs limit P 0 k ws.list x at ws.fit)

      -- the faults of the others come after its position
      others_later : (k : ℕ) (x : whole.Whole hs limit) (old new : Supply) (r : ReadInTurn limit chunk hs es ends k x.lane x.left new.rest) (i : ℕ)
          (d : Dump) (f : Fault) → i ≢ k → slice_get (entire_of hs limit ws.list) i ≡ Some d → d.fault ≡ Some f
          → key_lt (key_after (factor hs x.lane.header) k r.items) (key_after (factor hs d.header) i d.items) ≡ true
      others_later k x old new r i d f other at e =
          let v = reads.unmap (entire hs limit) ws.list i d at in
          let there = ap (λ (l : List Dump). slice_get l i) (sym ws.dumps_are) ∙ get_mapped (λ (y : whole.Whole hs limit). y.dump) ws.list i v.0 v.1 in
          let place = key_after (factor hs x.lane.header) k r.items in
          let behind = later i v.0 (fits i v.0 v.1) place (λ y at_y on. r.reached i v.0.dump y other there at_y on) f (ap (λ (z : Dump). z.fault) v.2 ∙ e) in
          subst (λ (z : Dump). key_lt place (key_after (factor hs z.header) i z.items) ≡ true) v.2 behind

      -- of each no more was read than what settles the merge
      needed : AreAllRead → AreNeeded hs limit chunk ws.list olds news
      needed each = λ k x old new at at_old at_new.
          let y = reads.unmap (supply rest failures) s'.sources k new at_new in
          reads_for rest failures limit chunk hs es ends k x.lane old new x.left y.0 y.2 (settles_among os k x.lane.header)
          (λ r ts have. unsettled hs os (entire_of hs limit ws.list) k (opened_of hs limit x) r.items (opened_headers hs limit ws.list
          ∙ ap (map (λ (l : Lane). l.header)) ws.lanes_are ∙ b.holds.given.lanes_are) (opened_dumps hs limit ws.list)
          (get_mapped (opened_of hs limit) ws.list k x at) r.small (others_later k x old new r) ts have)
          (each k x old new (fits k x at) (lane_of k x at) at_old at_new).1

      -- and than what settles it alone
      settled_behind : AreAllRead → (k : ℕ) (x : whole.Whole hs limit) (old new : Supply) → P k x → slice_get ws.list k ≡ Some x
          → slice_get olds k ≡ Some old → slice_get news k ≡ Some new
          → IsLeft x.lane.input old new x.left × ReadsAsNeeded limit chunk old new x.left x.lane.front (is_settled_behind Request.Merge x.lane.header)
      settled_behind each k x old new p at at_old at_new =
          let one = each k x old new p (lane_of k x at) at_old at_new in
          let y = reads.unmap (supply rest failures) s'.sources k new at_new in (
            one.0,
            reads_for rest failures limit chunk hs es ends k x.lane old new x.left y.0 y.2 (is_settled_behind Request.Merge x.lane.header)
                (λ r ts have. open_behind x.lane.header r.items ts have) one.1,
          )

      abbrev AreAllOnTurn : Type 0
      AreAllOnTurn = (k : ℕ) (x : whole.Whole hs limit) (old new : Supply) → P k x → slice_get lanes k ≡ Some x.lane → slice_get olds k ≡ Some old
          → slice_get news k ≡ Some new → IsReadSo limit chunk hs ds s.seats k x.lane old new x.left

      -- each was read on its turn, and what is due before the last step is on the output
      all_on_turn : IsOut → AreAllOnTurn → AreReadOnTurn limit chunk hs (map (λ (x : whole.Whole hs limit). x.lane) ws.list) olds news
          (map (λ (x : whole.Whole hs limit). x.left) ws.list) begin new
      all_on_turn due turns =
          subst (λ (ls : List Lane). AreReadOnTurn limit chunk hs ls olds news (map (λ (x : whole.Whole hs limit). x.left) ws.list) begin new) (sym ws.lanes_are)
          (OnTurn ds b.holds.given.dumps_are (begins b.holds.given long) due.0 due.1 (λ k l old new i at_l at_old at_new at_i.
          let x = reads.unmap (λ (x : whole.Whole hs limit). x.left) ws.list k i at_i in
          let lane : Some x.0.lane ≡ Some l = sym (lane_of k x.0 x.1) ∙ at_l in
          let is : x.0.lane ≡ l = cc in
          let so = turns k x.0 old new (fits k x.0 x.1) (lane_of k x.0 x.1) at_old at_new in
          on_turn b.holds.given long chunk k l old new i
          (subst (λ (j : _). IsReadSo limit chunk hs ds s.seats k l old new j) x.2 (subst (λ (m : Lane). IsReadSo limit chunk hs ds s.seats k m old new x.0.left) is so))))

      all_follow : (r : Result Done Stop) → length news ≡ length lanes → AreAllRead → IsOut → AreAllOnTurn
          → Belongs (merge_outcome names (entire_of hs limit ws.list)) names begin new r → IsFollowed r
      all_follow r as_many each due turns belongs =
          let len = len_map (λ (x : whole.Whole hs limit). x.lane) ws.list in
          let same = ap (λ (ls : List Lane). length ls) ws.lanes_are in
          let left = left_all hs limit P chunk 0 ws.list olds news (omega (arith, len, same, many)) (omega (arith, len, same, as_many)) ws.fit
          (λ k x old new p at at_old at_new. let i : 0 + k ≡ k = omega arith in settled_behind each k x old new (subst (λ (j : ℕ). P j x) i p) at at_old at_new) in
          follows hs limit chunk ws.list lanes names olds news begin new r ws.lanes_are b.holds.given.lanes_are left (needed each) (all_on_turn due turns) belongs

      -- where each input is left whole
      all_whole : (r : Result Done Stop) → length news ≡ length lanes → AreReadTo s' es ends → AreReadTo s' ds s.seats → IsOut
          → ((k : ℕ) (x : whole.Whole hs limit) → P k x → x.left ≡ x.lane.input)
          → Belongs (merge_outcome names (entire_of hs limit ws.list)) names begin new r → IsFollowed r
      all_whole r as_many more turns due left belongs =
          all_follow r as_many
          (λ k x old new p at at_old at_new. subst (IsRead limit chunk hs es ends k x.lane old new) (sym (left k x p))
          (left_whole rest failures hs limit chunk lanes olds es ends s'.sources more k x.lane old new at at_old at_new))
          due
          (λ k x old new p at at_old at_new. subst (IsReadSo limit chunk hs ds s.seats k x.lane old new) (sym (left k x p))
          (left_whole rest failures hs limit chunk lanes olds ds s.seats s'.sources turns k x.lane old new at at_old at_new).1)
          belongs

    -- all inputs have ended
    ended_merge : (done : Done) (k : ℕ) → map failures s'.sources ≡ failures_with {A = More} (map failures s.sources) k (Ok (Ended done))
        → Gives rest hs lanes ds s s' out new (Ok (Ended done)) → IsFollowed (Ok done)
    ended_merge Early k counts gives = absurd gives
    ended_merge Whole k counts gives =
        let r : Result More Stop = Ok (Ended Whole) in
        all_whole (EndFits gives.given new_long) ds s'.seats (ends gives.given new_long gives.finished) (λ j x p. p.later) (Ok Whole)
        (new_many s' k r counts) (read_same s' k r counts gives.input refl gives.reads) (turn_of s' k r counts gives.input refl gives.reads)
        (out_with _ gives.closes.0) (λ j x p. p.left)
        (rw (clean_is gives.given new_long gives.finished names) (refl, wrote new (merge_close (merged_items ds)) gives.closes))

    -- what is on the output before this fault is that of its outcome
    output_is : (input : ℕ) (f : Fault) → Writes out new [] → let o = fault_outcome (merge_open hs (merged_items ds)) (name_at names input) f in
        (o ≡ fault_outcome o.output (name_at names input) f) × Writes begin new o.output
    output_is input f none =
        let e = fault_output (merge_open hs (merged_items ds)) (name_at names input) f in
        (ap (λ l. fault_outcome l (name_at names input) f) (sym e), subst (Writes begin new) (sym e) (wrote_none new none))

    -- the input whose turn it was has a fault, or a read of it failed
    module _ (input line fault k : ℕ) (cut : Option ℕ) (has : HasFault rest hs lanes ds s input line fault cut) where
      turn : AtTurn rest hs lanes ds s input has.lane has.dump
      turn = record { holds = b.holds; next = has.next; dump_at = has.dump_at; lane_at = has.lane_at }

      own : HasDump (factor hs has.lane.header) limit has.lane.header has.lane.front (cut_at cut has.lane.input) has.dump.items (Some (record { number = fault; line = line }))
      own = rw (← b.limit_is) has.has

      abbrev Fits : ℕ → whole.Whole hs limit → Type 0
      Fits = StopFits turn long line fault cut own

      abbrev inputs : Wholes hs limit Fits 0 lanes ds
      inputs = stops turn long line fault cut own

      outcome : merge_outcome names (entire_of hs limit inputs.list) ≡ fault_outcome (merge_open hs (merged_items ds)) (name_at names input) (record { number = fault; line = line })
      outcome = fault_merged turn long line fault cut own names

    -- it has stopped: the fault is the first of the merged inputs, and the output is what comes
    -- before it; or a write failed
    stopped_merge : (stop : Stop) (k : ℕ) → IsNext s.seats k → map failures s'.sources ≡ failures_with {A = More} (map failures s.sources) k
        (Err stop) → Gives rest hs lanes ds s s' out new (Err stop) → IsFollowed (Err stop)
    stopped_merge (Faulty input line fault) k next counts gives =
        let r : Result More Stop = Err (Faulty input line fault) in
        let has = gives.0 in
        let o = output_is input (record { number = fault; line = line }) gives.2 in
        let turns = turn_of s' k r counts input refl gives.3 in
        all_whole (Fits input line fault k None has) ds s.seats (inputs input line fault k None has) (λ j x p. p.behind)
        (Err (Faulty input line fault)) (new_many s' k r counts) turns turns (out_with [] gives.2.0)
        (λ j x p. elim (same_or_not j input) [ inl e ↦ p.cut_is e | inr other ↦ p.left other ])
        (rw (outcome input line fault k None has) (o.0, gives.1, o.1))
    stopped_merge (Read input) k next counts gives =
        let stop : Stop = Read input in
        let n = gives.0.0 in
        let line = gives.0.1 in
        let has = gives.0.2 in
        let o = output_is input (record { number = 31; line = line }) gives.1 in
        all_follow (Fits input line 31 k (Some n) has) ds s.seats (inputs input line 31 k (Some n) has) (λ j x p. p.behind) (Err stop) (new_many s' k (Err stop) counts)
        (λ j x old new p at at_old at_new. by_place j x old new p (same_or_not j input) at at_old at_new)
        (out_with [] gives.1.0)
        (λ j x old new p at at_old at_new. (by_place j x old new p (same_or_not j input) at at_old at_new).1)
        (rw (outcome input line 31 k (Some n) has) ((line, o.0), o.1))
      where
        counted : map failures s'.sources ≡ failures_with {A = More} (map failures s.sources) input (Err (Read input))
        counted = counts ∙ ap (λ i. failures_with {A = More} (map failures s.sources) i (Err (Read input))) (same_next s.seats k input next gives.0.2.next)

        by_place : (j : ℕ) (x : whole.Whole hs limit) (old new : Supply) → Fits input gives.0.1 31 k (Some gives.0.0) gives.0.2 j x → (j ≡ input)
            ⊎ (j ≢ input) → slice_get lanes j ≡ Some x.lane → slice_get olds j ≡ Some old → slice_get news j ≡ Some new
            → IsRead limit chunk hs ds s.seats j x.lane old new x.left
        by_place j x old new p (inl e) at at_old at_new =
            let left = cut_left rest failures hs limit chunk lanes olds {A = More} ds ds s.seats s s' input (Err (Read input))
            (Some gives.0.0) b.holds (go_still ds s.seats) b.reads gives.0.3 counted b.limit_is b.chunk_is gives.0.0 refl refl x.lane old new
            (ap (slice_get lanes) (sym e) ∙ at) (ap (slice_get olds) (sym e) ∙ at_old) (ap (slice_get news) (sym e) ∙ at_new) in
            rw (p.cut_is e, e) left
        by_place j x old new p (inr other) at at_old at_new =
            rw (p.left other) (other_left rest failures hs limit chunk lanes olds {A = More} ds ds s.seats s s' input (Err (Read input))
            (Some gives.0.0) b.holds
            (go_still ds s.seats) b.reads gives.0.3 counted b.limit_is b.chunk_is j x.lane old new other at at_old at_new)
    stopped_merge Write k next counts (inl t) =
        let r : Result More Stop = Err Write in
        let some = some-behind begin out new (merge_open hs (merged_items ds)) t.4.0 b.writes t.4.2 in
        all_whole (WriteFits t.3.given new_long (behind t.3) (late_behind t.3)) (with_item ds t.0 t.1 t.2) s'.seats
        (writes t.3.given new_long (behind t.3) (late_behind t.3)) (λ j x p. p.later) (Err Write) (new_many s' k r counts)
        (read_item s' k r counts t.0 t.1 t.2 t.3.dump_at refl t.5) (turn_of s' k r counts t.0 refl t.5) (out_with _ t.4.2.0.1) (λ j x p. p.left)
        (written_some t.3.given new_long (behind t.3) (late_behind t.3) (all_up_to t.3) names begin new (rw t.4.1 some))
    stopped_merge Write k next counts (inr (inl t)) =
        let r : Result More Stop = Err Write in
        let some : WritesSome begin new (merge_open hs (merged_items ds) ++ merge_close (merged_items ds)) = some-behind begin out new
        (merge_open hs (merged_items ds)) (merge_close (merged_items ds)) b.writes (subst (WritesSome out new) (sym t.closes.1) t.closes.2) in
        all_whole (EndFits t.given new_long) ds s'.seats (ends t.given new_long t.finished) (λ j x p. p.later) (Err Write) (new_many s' k r counts)
        (read_same s' k r counts t.input refl t.reads) (turn_of s' k r counts t.input refl t.reads) (out_with _ t.closes.2.0.1) (λ j x p. p.left)
        (rw (clean_is t.given new_long t.finished names) some)
    stopped_merge Write k next counts (inr (inr t)) =
        let r : Result More Stop = Err Write in
        let f = found rest hs lanes ds s t.input b.holds b.ready t.next in
        let some = subst (WritesSome begin new) (append-nil (merge_open hs (merged_items ds))) (some-behind begin out new (merge_open hs (merged_items ds)) [] b.writes t.writes) in
        all_whole (WriteFits b.holds.given long (place_next f.turn) (late_next f.turn)) ds s.seats
        (writes b.holds.given long (place_next f.turn) (late_next f.turn)) (λ j x p. p.later) (Err Write) (new_many s' k r counts)
        (unread s' k r counts refl t.unread) (unread s' k r counts refl t.unread) (out_with _ t.writes.0.1) (λ j x p. p.left)
        (written_some b.holds.given long (place_next f.turn) (late_next f.turn) (all_before f.turn) names begin new some)
    stopped_merge (Unmatched place) k next counts gives = absurd gives

-- ---- a turn of the input that comes next

module _ {X : Type 0} {rest : X → Option (List ℕ)} {failures : X
    → ℕ} {hs : List Header} {lanes : List Lane} {limit chunk : ℕ} {olds : List Supply} {begin : Device} {ds : List Dump} {s s' : Standing X} {out new : Device}
    (until : ℕ) (b : IsSoFar rest failures hs lanes limit chunk olds begin ds s out) where
  module _ {r : Result More Stop} (runs : Runs rest failures until s s' out new r) where
    turned : RunGives rest failures hs lanes false ds s s' out new r
    turned = runs.gives false hs lanes ds (λ f. cc) b.holds

    counted : map failures s'.sources ≡ failures_with (map failures turned.mid.sources) runs.input r
    counted = runs.leaves.touches.reads ∙ ap (λ (ns : List ℕ). failures_with ns runs.input r) (sym turned.failures_are)

    mid_same : SameParts turned.mid s'
    mid_same = same_parts turned.mid s' (runs.leaves.touches.seats ∙ sym turned.seats) (runs.leaves.touches.chunks ∙ sym turned.chunks) (runs.leaves.touches.tokens ∙ sym turned.tokens)

  pub advances_on : Runs rest failures until s s' out new (Ok Again) → (es : List Dump) × IsSoFar rest failures hs lanes limit chunk olds begin es s' new
  advances_on runs = advances (run_on b (turned runs)) s' new runs.input (runs.leaves.ready refl) (mid_same runs) (counted runs) (turned runs).last

  module _ (names : List (List ℕ)) (many : length olds ≡ length lanes) where
    pub ended_on : (done : Done) → Runs rest failures until s s' out new (Ok (Ended done)) → Follows limit chunk lanes names olds (map (supply rest failures) s'.sources) begin new (Ok done)
    ended_on done runs = ended_merge (run_on b (turned runs)) names many s' new (mid_same runs) done runs.input (counted runs) (turned runs).last

    pub stopped_on : (stop : Stop) → Runs rest failures until s s' out new (Err stop) → Follows limit chunk lanes names olds (map (supply rest failures) s'.sources) begin new (Err stop)
    stopped_on stop runs = let t = turned runs in stopped_merge (run_on b t) names many s' new (mid_same runs) stop runs.input
        (subst (IsNext t.mid.seats) (same_next s.seats t.input runs.input t.turn runs.next) t.next) (counted runs) t.last

-- ---- a write failed in the head, before any step

module _ (hs : List Header) (lanes : List Lane) (limit chunk : ℕ) (headers : map (λ (l : Lane). l.header) lanes ≡ hs) (begun : (k : ℕ) (l : Lane)
    → slice_get lanes k ≡ Some l → (more : List Token) × ((stream_of limit l.input).tokens ≡ l.front ++ more)) where
  abbrev none_yet : List Dump
  none_yet = map (λ (l : Lane). record { header = l.header; items = []; fault = None }) lanes

  -- whatever its body is, an input is some dump
  any_at : (k : ℕ) (l : Lane) (d : Dump) → slice_get lanes k ≡ Some l → slice_get none_yet k ≡ Some d → (x : whole.Whole hs limit) × (x.lane ≡ l)
      × (x.dump ≡ d) × (x.left ≡ x.lane.input)
  unfolding dump_of
  any_at k l d at_l at_d =
      let more = begun k l at_l in
      let r = read_body l.header.codes more.0 in
      let dump = dump_of (factor hs l.header) l.header (body_fault_of (stream_of limit l.input) r) r in
      let e : Some (record { header = l.header; items = []; fault = None }) ≡ Some d = sym
      (get_mapped (λ (m : Lane). record { header = m.header; items = []; fault = None }) lanes k l at_l) ∙ at_d in
      let is : record { header = l.header; items = []; fault = None } ≡ d = cc in (
        record { lane = l; dump = d; same = ap (λ (x : Dump). x.header) is; left = l.input; items = dump.items; fault = dump.fault; has = record { rest = more.0; tokens = more.1; is = refl } },
        refl,
        refl,
        refl,
      )

  pub unwritten_head : (names : List (List ℕ)) (olds : List Supply) (begin new : Device) → length olds ≡ length lanes
      → WritesSome begin new (merge_open hs []) → Follows limit chunk lanes names olds olds begin new (Err Write)
  unwritten_head names olds begin new many some =
      let ws = choose_all hs limit (λ k x. x.left ≡ x.lane.input) lanes none_yet (len_map (λ (l : Lane). record { header = l.header; items = []; fault = None }) lanes) any_at in
      let len = len_map (λ (x : whole.Whole hs limit). x.lane) ws.list in
      let same = ap (λ (ls : List Lane). length ls) ws.lanes_are in
      let left = left_all hs limit (λ k x. x.left ≡ x.lane.input) chunk 0 ws.list olds olds (omega (arith, len, same, many)) (omega (arith, len, same, many)) ws.fit
      (λ k x old new p at at_old at_new. let e : new ≡ old = cc (sym at_new ∙ at_old) in (inl (ap (λ (z : Supply). z.failures) e, p), Nothing e)) in
      let under : headers_of (entire_of hs limit ws.list) ≡ hs = entire_headers hs limit ws.list ∙ ap headers_of ws.dumps_are ∙ headers_none lanes ∙ headers in
      let first = head_first names hs (entire_of hs limit ws.list) under in
      follows hs limit chunk ws.list lanes names olds olds begin new (Err Write) ws.lanes_are headers left (λ k x old new at at_old at_new.
      let e : new ≡ old = cc (sym at_new ∙ at_old) in Nothing e) (Unread refl)
      (subst (WritesSome begin new) (sym first.1) (some-first begin new (merge_open hs []) first.0 some))
    where
      headers_none : (ls : List Lane) → headers_of (map (λ (l : Lane). record { header = l.header; items = []; fault = None }) ls) ≡ map (λ (l : Lane). l.header) ls
      headers_none [] = refl
      headers_none (l ∷ ls) = ap (λ (h : List Header). l.header ∷ h) (headers_none ls)
