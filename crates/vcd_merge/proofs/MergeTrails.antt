-- What a merge holds after several items of the input whose turn it is.
use Rattle.vcd_merge.proofs.Cited.{◌≡◌, ◌≢◌, ℕ, ◌+◌, ◌<◌, ◌≤◌, ◌⊎◌, Bool, true, List, [], ◌∷◌, ◌++◌, length, map, take, slice_get, slice_set, Option, Some, None, Result, Ok, Err, refl, sym, ap, subst, ◌∙◌, arith, inl, inr, append-nil, append_assoc, All, option_map, set-get_or, get_or_from_slice_get, slice_get_within, length-set, Header, first_number, BodyItem, Dump, factor, merge_close, merge_open, merged_items, due_with, entry_for, with_item, Device, Writes, WritesSome, both-written, some-behind, Grows, IsNext, part_len, spot_at, AreMarked, Gives, Holds, IsReady, ReadsOne, Standing, last_written, GoOn, ReadInTurn, RunGives, Stage, StaysBack, TakesOn, Trail, Stands, Further, TurnsAt, spot_in, IsFirstBefore, GivesOne, IsSeated, Lane, ReadsNoMore, Spot, Turns, More, Again, Ended, Stop, Read, Write, Unmatched, Seat, AreSeated, AtSeat, Head, NamesInput, Views, failures_then, failures_with, left_of, shown, writes-none, same_or_not, get_other, get_set, get_mapped}
use Rattle.vcd_body.specs.declared.answer.Done.TheVariants.{Whole}
use Rattle.vcd_body.specs.declared.answer.Stop.TheVariants.{Dump as Faulty}
use Rattle.vcd_merge.proofs.MergeAnswers.{again, are_marked, ended, open_with, stopped, taken, written_with_it}
use Rattle.vcd_merge.proofs.MergeSteps.{AtTurn, Leaves}
use Rattle.vcd_merge.proofs.InTurn.{go_item, go_still, go_through, in_turn, turn_on}
use Rattle.vcd_merge.proofs.MergeCounts.{map_set, still_counted, still_named, still_written}
use Rattle.vcd_merge.proofs.PartLemmas.{AreOwn, len_chunks, len_tokens, lent, parts_same, same_part, seated_put, spot_other, spot_put}
use Rattle.vcd_merge.proofs.SpotLemmas.{Found, chunk_len, found, spot_source, token_len}
use Rattle.vcd_merge.specs.MergeTrail.{Runs, Touches}
use Rattle.vcd_merge.specs.SeatStep.{CountsWrites}

-- the merge with one input at a stage
abbrev put_at : {X : Type 0} → Standing X → ℕ → Stage X → Standing X
put_at m k c = record {
  heads = m.heads;
  seats = slice_set m.seats k c.seat;
  written = c.written;
  sources = slice_set m.sources k c.source;
  chunks = lent (length m.seats) k m.chunks c.chunk;
  tokens = lent (length m.seats) k m.tokens c.token;
  values = m.values;
}

-- what the merge would hold, were the input parked at this stage
pub record Arrives {X : Type 0} (rest : X → Option (List ℕ)) (failures : X → ℕ) (hs : List Header) (lanes : List Lane) (ds : List Dump)
    (s : Standing X) (k before : ℕ) (l : Lane) (out : Device) (b : Stage X) : Type 0 where
  pub dumps : List Dump
  pub mid : Standing X
  pub dump : Dump
  pub turn : AtTurn rest hs lanes dumps mid k l dump
  pub ready : IsReady mid
  pub heads : mid.heads ≡ s.heads
  pub seats : length mid.seats ≡ length s.seats
  pub chunks : length mid.chunks ≡ length s.chunks
  pub tokens : length mid.tokens ≡ length s.tokens
  pub items_are : dump.items ≡ b.items
  pub written_is : mid.written ≡ b.written
  pub source_at : slice_get mid.sources k ≡ Some b.source
  pub chunk : length b.chunk ≡ part_len (length s.seats) s.chunks
  pub token : length b.token ≡ part_len (length s.seats) s.tokens
  pub other_seats : (j : ℕ) → j ≢ k → slice_get mid.seats j ≡ slice_get s.seats j
  pub others : (j : ℕ) → j ≢ k → spot_at rest mid.seats mid.sources mid.chunks mid.tokens j ≡ spot_at rest s.seats s.sources s.chunks s.tokens j
  pub stay : (j : ℕ) → j ≢ k → slice_get mid.sources j ≡ slice_get s.sources j
  pub failures_are : map failures mid.sources ≡ map failures s.sources
  pub grows : Grows out b.out (merge_open hs (merged_items ds)) (merge_open hs (merged_items dumps))
  pub goes : GoOn ds s.seats dumps mid.seats
  pub reads : (j : ℕ) (l : Lane) (x : X) → slice_get lanes j ≡ Some l → slice_get mid.sources j ≡ Some x
      → (slice_get s.sources j ≡ Some x) ⊎ ReadInTurn (part_len (length s.seats) s.tokens) (part_len (length s.seats) s.chunks) hs dumps mid.seats j l l.input (rest x)
  pub by_one : before ≡ 0 → (dumps ≡ ds) × (mid ≡ s) × (b.out ≡ out)

module _ {X : Type 0} (rest : X → Option (List ℕ)) (failures : X → ℕ) (hs : List Header) (lanes : List Lane) (ds : List Dump) (s : Standing X)
    (k before : ℕ) (l : Lane) (early : IsFirstBefore s.seats k before) (out : Device) where
  abbrev scale : ℕ
  scale = factor hs l.header

  abbrev first : ℕ
  first = first_number (take k hs)

  abbrev IsAt : Stage X → Type 0
  IsAt b = Arrives rest failures hs lanes ds s k before l out b

  -- an item more
  module _ (b c : Stage X) (m : IsAt b) (on : TakesOn rest failures scale first l before b c) where
    abbrev new : Standing X
    new = put_at m.mid k c

    abbrev item : BodyItem
    item = on.item

    abbrev es : List Dump
    es = with_item m.dumps k m.dump item

    own : AreOwn m.mid.seats m.mid.sources m.mid.chunks m.mid.tokens k c.chunk c.token
    own = record {
      in_seats = slice_get_within m.mid.seats k m.turn.next.seat m.turn.next.there;
      in_sources = slice_get_within m.mid.sources k b.source m.source_at;
      chunks_are = m.ready.parts.chunks_are;
      tokens_are = m.ready.parts.tokens_are;
      chunk = on.chunk ∙ m.chunk ∙ sym (same_part (length s.seats) (length m.mid.seats) s.chunks m.mid.chunks m.seats m.chunks);
      token = on.token ∙ m.token ∙ sym (same_part (length s.seats) (length m.mid.seats) s.tokens m.mid.tokens m.seats m.tokens);
    }

    new_seats : length new.seats ≡ length m.mid.seats
    new_seats = length-set m.mid.seats k c.seat

    new_chunks : length new.chunks ≡ length m.mid.chunks
    new_chunks = len_chunks own c.seat c.source

    new_tokens : length new.tokens ≡ length m.mid.tokens
    new_tokens = len_tokens own c.seat c.source

    after : Leaves rest m.mid new k (spot_in rest c)
    after = record {
      heads = refl;
      many = new_seats;
      sources = length-set m.mid.sources k c.source ∙ m.ready.sources ∙ sym new_seats;
      spot = spot_put own c.seat c.source rest;
      others = spot_other own c.seat c.source rest;
      stay = λ j other. get_other m.mid.sources k j c.source other;
      token = own.token;
      chunk = own.chunk;
    }

    one : GivesOne scale first l m.dump.items m.mid.written c.written (spot_in rest c) item
    one = rw (m.written_is, m.items_are) on.one

    abbrev due : List ℕ
    due = due_with m.mid.written (entry_for scale first l.header m.dump.items item)

    writes : Writes b.out c.out due
    writes = rw (m.written_is, m.items_are) on.writes

    new_next : IsNext (slice_set m.mid.seats k c.seat) k
    new_next = record {
      seat = c.seat;
      there = get_set m.mid.seats k c.seat own.in_seats;
      unfinished = on.one.0;
      least = λ j y at_y going. elim (same_or_not j k) [
        | inl e ↦
            let is : Some c.seat ≡ Some y = sym (get_set m.mid.seats k c.seat own.in_seats) ∙ ap (slice_get (slice_set m.mid.seats k c.seat)) (sym e) ∙ at_y in
            let same : c.seat ≡ y = cc in
            inr (ap (λ (z : Seat). z.time) same, omega (arith, e))
        | inr other ↦ early c.seat.time on.early j y other (sym (m.other_seats j other) ∙ sym (get_other m.mid.seats k j c.seat other) ∙ at_y) going
      ];
    }

    own_seated : IsSeated (part_len (length m.mid.seats) m.mid.chunks) (part_len (length m.mid.seats) m.mid.tokens) c.seat
    own_seated = rw (← own.chunk, ← own.token) on.seated

    new_ready : IsReady new
    new_ready = record {
      heads = m.ready.heads ∙ sym new_seats;
      sources = after.sources;
      parts = parts_same (length m.mid.seats) (length new.seats) m.mid.chunks new.chunks m.mid.tokens new.tokens m.mid.values m.mid.values m.ready.parts new_seats new_chunks new_tokens refl;
      seated = seated_put own c.seat c.source own_seated m.ready.seated;
      some = (k, new_next);
    }

    failures_still : map failures new.sources ≡ map failures m.mid.sources
    failures_still =
        let own = get_or_from_slice_get (map failures m.mid.sources) k (failures b.source) 0 (get_mapped failures m.mid.sources k b.source m.source_at) in
        map_set failures m.mid.sources k c.source ∙ ap (slice_set (map failures m.mid.sources) k) (on.failures_are ∙ sym own) ∙ set-get_or (map failures m.mid.sources) k 0

    step_goes : GoOn m.dumps m.mid.seats es new.seats
    step_goes = go_item m.dumps m.mid.seats new.seats k m.turn.next (λ j other. get_other m.mid.seats k j c.seat other) m.dump item m.turn.dump_at

    abbrev IsReadIn : List Dump → List Seat → ℕ → Lane → X → Type 0
    IsReadIn dumps seats j n x = ReadInTurn (part_len (length s.seats) s.tokens) (part_len (length s.seats) s.chunks) hs dumps seats j n n.input (rest x)

    own_read : IsReadIn es new.seats k l c.source
    own_read =
        let more : ReadsNoMore (part_len (length s.seats) s.tokens) (part_len (length s.seats) s.chunks) l m.dump.items l.input (rest c.source) = rw
        (← m.token, ← on.token, ← m.chunk, ← on.chunk) one.3 in
        in_turn m.turn (part_len (length s.seats) s.tokens) (part_len (length s.seats) s.chunks) l.input (rest c.source) es new.seats step_goes more

    new_reads : (j : ℕ) (n : Lane) (x : X) → slice_get lanes j ≡ Some n → slice_get new.sources j ≡ Some x → (slice_get s.sources j ≡ Some x) ⊎ IsReadIn es new.seats j n x
    new_reads j n x at_n at_x = elim (same_or_not j k) [
      | inr other ↦ elim (m.reads j n x at_n (sym (after.stay j other) ∙ at_x)) [
        | inl same ↦ inl same
        | inr r ↦ inr (turn_on (part_len (length s.seats) s.tokens) (part_len (length s.seats) s.chunks) hs m.dumps es m.mid.seats new.seats j n n.input (rest x) step_goes r)
      ]
      | inl e ↦
          let is : Some c.source ≡ Some x = sym (get_set m.mid.sources k c.source own.in_sources) ∙ ap (slice_get new.sources) (sym e) ∙ at_x in
          let same : c.source ≡ x = cc in
          let lane_is : Some l ≡ Some n = sym m.turn.lane_at ∙ ap (slice_get lanes) (sym e) ∙ at_n in
          let lane : l ≡ n = cc in
          inr (rw (← same, ← lane, e) own_read)
    ]

    one_more : IsAt c
    one_more =
        let took = taken m.turn after item one.1 in
        record {
          dumps = es;
          mid = new;
          dump = record { header = m.dump.header; items = m.dump.items ++ item ∷ []; fault = m.dump.fault };
          turn = record {
            holds = record { given = took.given; written = written_with_it m.turn item c.written one.2 };
            next = new_next;
            dump_at = get_set m.dumps k _ (slice_get_within m.dumps k m.dump m.turn.dump_at);
            lane_at = m.turn.lane_at;
          };
          ready = new_ready;
          heads = m.heads;
          seats = new_seats ∙ m.seats;
          chunks = new_chunks ∙ m.chunks;
          tokens = new_tokens ∙ m.tokens;
          items_are = ap (λ (xs : List BodyItem). xs ++ item ∷ []) m.items_are ∙ sym on.items_are;
          written_is = refl;
          source_at = get_set m.mid.sources k c.source own.in_sources;
          chunk = on.chunk ∙ m.chunk;
          token = on.token ∙ m.token;
          other_seats = λ j other. get_other m.mid.seats k j c.seat other ∙ m.other_seats j other;
          others = λ j other. after.others j other ∙ m.others j other;
          stay = λ j other. after.stay j other ∙ m.stay j other;
          failures_are = failures_still ∙ m.failures_are;
          grows = (
            m.grows.0 ++ due,
            open_with m.turn item ∙ ap (λ (t : List ℕ). t ++ due) m.grows.1
                ∙ append_assoc (merge_open hs (merged_items ds)) m.grows.0 due,
            both-written out b.out c.out m.grows.0 due m.grows.2 writes,
          );
          goes = go_through ds m.dumps es s.seats m.mid.seats new.seats m.goes step_goes;
          reads = new_reads;
          by_one = λ none. let e = on.early in absurd (omega (arith, e, none));
        }

  pub arrives : (a b : Stage X) → IsAt a → Trail rest failures scale first l before a b → IsAt b
  arrives a b m Stands = m
  arrives a _ m (Further b c so_far on) = one_more b c (arrives a b m so_far) on

-- the turn of an input, whatever the merge holds: from where, what was used, and how it ended
pub record TookTurn {X A : Type 0} (rest : X → Option (List ℕ)) (failures : X → ℕ) (s s' : Standing X) (k before until : ℕ) (out out' : Device) (r : Result A Stop) : Type 0 where
  pub ready : IsReady s
  pub next : IsNext s.seats k
  pub early : IsFirstBefore s.seats k before
  pub within : before ≤ until
  pub heads : s'.heads ≡ s.heads
  pub sources : length s'.sources ≡ length s.sources
  pub touches : Touches rest failures s s' out out' k r
  pub turns : (scale first : ℕ) (l : Lane) (items : List BodyItem) (h : Head) (p : Spot) → slice_get s.heads k ≡ Some h → Views (shown h) l.header
      → spot_at rest s.seats s.sources s.chunks s.tokens k ≡ Some p → AtSeat scale first l items p
      → (q : Spot) × (spot_at rest s'.seats s'.sources s'.chunks s'.tokens k ≡ Some q) × TurnsAt rest failures s.sources k scale first l before items s.written s'.written p q out out' r

-- what it leaves, where the merge holds these items
module _ {X A : Type 0} {rest : X → Option (List ℕ)} {failures : X
    → ℕ} {s s' : Standing X} {k before until : ℕ} {out out' : Device} {r : Result A Stop}
    (u : TookTurn rest failures s s' k before until out out' r) {hs : List Header} {lanes : List Lane} {ds : List Dump}
    (holds : Holds rest hs lanes ds s) where
  start : Found rest hs lanes ds s k
  start = found rest hs lanes ds s k holds u.ready u.next

  run : (q : Spot) × (spot_at rest s'.seats s'.sources s'.chunks s'.tokens k ≡ Some q)
      × TurnsAt rest failures s.sources k (factor hs start.lane.header)
      (first_number (take k hs)) start.lane before start.dump.items s.written s'.written start.spot q out out' r
  run = u.turns (factor hs start.lane.header) (first_number (take k hs)) start.lane start.dump.items start.head start.spot start.head_there start.views start.spot_there start.is

  within : k < length s.seats
  within = slice_get_within s.seats k u.next.seat u.next.there

  -- where its last step begins
  arrived : Arrives rest failures hs lanes ds s k before start.lane out run.2.turns.mid
  arrived =
      let x = run.2 in
      arrives rest failures hs lanes ds s k before start.lane u.early out
      (record { items = start.dump.items; written = s.written; seat = x.seat; source = x.source; chunk = x.chunk; token = x.token; out = out })
      x.turns.mid (record {
        dumps = ds;
        mid = s;
        dump = start.dump;
        turn = start.turn;
        ready = u.ready;
        heads = refl;
        seats = refl;
        chunks = refl;
        tokens = refl;
        items_are = refl;
        written_is = refl;
        source_at = x.source_at;
        chunk = ap (λ (q : Spot). length q.chunk) (sym x.spot_is) ∙ chunk_len rest s s k start.spot u.ready within refl start.spot_there refl;
        token = ap (λ (q : Spot). length q.token) (sym x.spot_is) ∙ token_len rest s s k start.spot u.ready within refl start.spot_there refl;
        other_seats = λ j other. refl;
        others = λ j other. refl;
        stay = λ j other. refl;
        failures_are = refl;
        grows = ([], sym (append-nil _), writes-none out);
        goes = go_still ds s.seats;
        reads = λ j l x at_l at_x. inl at_x;
        by_one = λ none. (refl, refl, refl);
      }) x.turns.trail

  last : Leaves rest arrived.mid s' k run.0
  last = record {
    heads = u.heads ∙ sym arrived.heads;
    many = u.touches.seats ∙ sym arrived.seats;
    sources = u.sources ∙ u.ready.sources ∙ sym u.touches.seats;
    spot = run.1;
    others = λ j other. u.touches.others j other ∙ sym (arrived.others j other);
    stay = λ j other. (u.touches.untouched j other).0 ∙ sym (arrived.stay j other);
    token = token_len rest s s' k run.0 u.ready within u.touches.seats run.1 u.touches.tokens
        ∙ sym (same_part (length s.seats) (length arrived.mid.seats) s.tokens arrived.mid.tokens arrived.seats arrived.tokens);
    chunk = chunk_len rest s s' k run.0 u.ready within u.touches.seats run.1 u.touches.chunks
        ∙ sym (same_part (length s.seats) (length arrived.mid.seats) s.chunks arrived.mid.chunks arrived.seats arrived.chunks);
  }

  -- what the last step gave, over the dump that it began with
  told : Turns {A = A} k (factor hs start.lane.header) (first_number (take k hs))
      start.lane run.2.turns.mid.items run.2.turns.mid.written s'.written run.0 run.2.turns.mid.out out' r
      → Turns {A = A} k (factor hs start.lane.header) (first_number (take k hs))
      start.lane arrived.dump.items arrived.mid.written s'.written run.0 run.2.turns.mid.out out' r
  told gave = rw (arrived.items_are, arrived.written_is) gave

  runs : (alone : Bool) → (alone ≡ true → until ≡ 0) → (result : Result More Stop) (after : Device)
      → Gives rest hs lanes arrived.dumps arrived.mid s' run.2.turns.mid.out after result
      → RunGives rest failures hs lanes alone ds s s' out after result
  runs alone none result after gives = record {
    dumps = arrived.dumps;
    mid = arrived.mid;
    between = run.2.turns.mid.out;
    input = k;
    holds = arrived.turn.holds;
    ready = arrived.ready;
    next = arrived.turn.next;
    turn = u.next;
    seats = arrived.seats;
    chunks = arrived.chunks;
    tokens = arrived.tokens;
    failures_are = arrived.failures_are;
    grows = arrived.grows;
    goes = arrived.goes;
    reads = arrived.reads;
    last = gives;
    by_one = λ e. arrived.by_one (let z = none e in let w = u.within in omega (arith, z, w));
  }

  -- before a read, since what is kept back was not passed on
  unread : run.0.rest ≡ rest run.2.turns.mid.source → (j : ℕ) → option_map rest (slice_get s'.sources j) ≡ option_map rest (slice_get arrived.mid.sources j)
  unread same j = elim (same_or_not j k) [
    | inr other ↦ ap (option_map rest) (last.stay j other)
    | inl here ↦ let y = spot_source rest s' k run.0 run.1 in rw here (ap (option_map rest) y.1
        ∙ ap (λ (q : Option (List ℕ)). Some q) (sym y.2 ∙ same) ∙ sym (ap (option_map rest) arrived.source_at))
  ]

-- what it has used, by what is counted
touches_with : {X A : Type 0} {rest : X → Option (List ℕ)} {failures : X → ℕ} {s s' : Standing X} {out out' : Device} {k : ℕ} {r : Result A Stop}
    → Touches rest failures s s' out out' k r → (after : Device) (result : Result More Stop)
    → map failures s'.sources ≡ failures_with (map failures s.sources) k result → NamesInput k result → CountsWrites out after result → Touches rest failures s s' out after k result
touches_with t after result reads named writes = record { seats = t.seats; chunks = t.chunks; tokens = t.tokens; values = t.values; reads = reads; named = named; others = t.others; untouched = t.untouched; writes = writes }

module _ {X A : Type 0} {rest : X → Option (List ℕ)} {failures : X → ℕ} {s s' : Standing X} {k before until : ℕ} {out out' : Device} where
  -- it stops
  was_kept : (stop : Stop) (u : TookTurn {A = A} rest failures s s' k before until out out' (Err stop))
      {hs : List Header} {lanes : List Lane} {ds : List Dump} (holds : Holds rest hs lanes ds s) (alone : Bool) → (alone ≡ true → until ≡ 0)
      → StaysBack {A = A} rest (run u holds).2.turns.mid (run u holds).0 out' (Err stop) → RunGives rest failures hs lanes alone ds s s' out out' (Err stop)
  was_kept Write u holds alone none back = runs u holds alone none (Err Write) out'
      (inr (inr (record { input = k; next = (arrived u holds).turn.next; writes = back.0; unread = unread u holds back.1 })))
  was_kept (Faulty input line fault) u holds alone none back = absurd back
  was_kept (Read input) u holds alone none back = absurd back
  was_kept (Unmatched place) u holds alone none back = absurd back

  pub was_stopped : (stop : Stop) → TookTurn {A = A} rest failures s s' k before until out out' (Err stop) → Runs rest failures until s s' out out' (Err stop)
  was_stopped stop u = record {
    gives = λ alone hs lanes ds none holds. elim (run u holds).2.turns.last [
      | inl gave ↦ runs u holds alone none (Err stop) out' (stopped (arrived u holds).turn (last u holds) A (run u holds).2.turns.mid.out out' stop (told u holds gave))
      | inr back ↦ was_kept stop u holds alone none back
    ];
    input = k;
    next = u.next;
    leaves = record {
      ready = λ again. cc;
      touches = touches_with u.touches out' (Err stop) (still_counted A More stop _ _ k u.touches.reads) (still_named A More k stop u.touches.named)
          (subst (λ n. failures_then n out' ≡ out.failures + n) (still_written A More stop) u.touches.writes);
      left = λ again. cc;
    };
  }

  module _ {v : A} (u : TookTurn rest failures s s' k before until out out' (Ok v)) where
    gave : {hs : List Header} {lanes : List Lane} {ds : List Dump} (holds : Holds rest hs lanes ds s)
        → Turns {A = A} k (factor hs (start u holds).lane.header) (first_number (take k hs)) (start u holds).lane (arrived u holds).dump.items
        (arrived u holds).mid.written s'.written (run u holds).0 (run u holds).2.turns.mid.out out' (Ok v)
    gave holds = elim (run u holds).2.turns.last [ inl x ↦ told u holds x | inr back ↦ absurd back ]

    -- it continues
    pub went_on : AreSeated s'.chunks s'.tokens s'.seats → (j : ℕ) × IsNext s'.seats j → left_of s'.seats < left_of s.seats → Runs rest failures until s s' out out' (Ok Again)
    went_on seated some left = record {
      gives = λ alone hs lanes ds none holds. runs u holds alone none (Ok Again) out' (again (arrived u holds).turn (last u holds) A (run u holds).2.turns.mid.out out' v (gave holds));
      input = k;
      next = u.next;
      leaves = record {
        ready = λ again. record {
          heads = ap length u.heads ∙ u.ready.heads ∙ sym u.touches.seats;
          sources = u.sources ∙ u.ready.sources ∙ sym u.touches.seats;
          parts = parts_same (length s.seats) (length s'.seats) _ _ _ _ _ _ u.ready.parts u.touches.seats u.touches.chunks u.touches.tokens u.touches.values;
          seated = seated;
          some = some;
        };
        touches = touches_with u.touches out' (Ok Again) u.touches.reads tt u.touches.writes;
        left = λ again. left;
      };
    }

    -- all inputs have ended
    module _ (all : All (λ (x : Seat). x.finished ≡ true) s'.seats) (new : Device) where
      -- what closes it, where this is what it has written
      abbrev Closes : (List ℕ → Type 0) → Type 0
      Closes Written = (hs : List Header) (es : List Dump) → AreMarked hs es s'.seats → s'.written ≡ last_written (merged_items es) → Written (merge_close (merged_items es))

      module _ {hs : List Header} {lanes : List Lane} {ds : List Dump} (holds : Holds rest hs lanes ds s) where
        done : Holds rest hs lanes (arrived u holds).dumps s' × Writes (run u holds).2.turns.mid.out out' [] × ReadsOne rest lanes (arrived u holds).dumps (arrived u holds).mid s' k None
        done = ended (arrived u holds).turn (last u holds) A (run u holds).2.turns.mid.out out' v all (gave holds)

        closing : (Written : List ℕ → Type 0) → Closes Written → Written (merge_close (merged_items (arrived u holds).dumps))
        closing Written closes = closes hs (arrived u holds).dumps (are_marked rest hs lanes (arrived u holds).dumps s' done.0.given) done.0.written

      pub has_ended : CountsWrites {A = More} out new (Ok (Ended Whole)) → Closes (Writes out' new) → Runs rest failures until s s' out new (Ok (Ended Whole))
      has_ended counts closes = record {
        gives = λ alone hs lanes ds none holds.
            let close = merge_close (merged_items (arrived u holds).dumps) in
            runs u holds alone none (Ok (Ended Whole)) new (record {
              given = (done holds).0.given;
              finished = all;
              closes = both-written
                  (run u holds).2.turns.mid.out out' new [] close (done holds).1 (closing holds (Writes out' new) closes);
              input = k;
              reads =
                  (done holds).2;
            });
        input = k;
        next = u.next;
        leaves = record { ready = λ again. cc; touches = touches_with u.touches new (Ok (Ended Whole)) u.touches.reads tt counts; left = λ again. cc };
      }

      pub was_cut : CountsWrites {A = More} out new (Err Write) → Closes (WritesSome out' new) → Runs rest failures until s s' out new (Err Write)
      was_cut counts closes = record {
        gives = λ alone hs lanes ds none holds.
            let close = merge_close (merged_items (arrived u holds).dumps) in
            runs u holds alone none (Err Write) new (inr (inl (record {
              given = (done holds).0.given;
              finished = all;
              closes = (
                close,
                refl,
                some-behind (run u holds).2.turns.mid.out out' new [] close (done holds).1
                    (closing holds (WritesSome out' new) closes),
              );
              input = k;
              reads = (done holds).2;
            })));
        input = k;
        next = u.next;
        leaves = record { ready = λ again. cc; touches = touches_with u.touches new (Err Write) u.touches.reads tt counts; left = λ again. cc };
      }

-- one item alone is one step
pub one_step : {X : Type 0} (rest : X → Option (List ℕ)) (failures : X → ℕ) (hs : List Header) (lanes : List Lane) (ds : List Dump)
    (s s' : Standing X) (out out' : Device) (result : Result More Stop) → RunGives rest failures hs lanes true ds s s' out out' result
    → Gives rest hs lanes ds s s' out out' result
one_step {X} rest failures hs lanes ds s s' out out' result r =
    let e = r.by_one refl in
    subst (λ (es : List Dump). Gives rest hs lanes es s s' out out' result) e.0
    (subst (λ (m : Standing X). Gives rest hs lanes r.dumps m s' out out' result) e.1 (subst (λ (o : Device). Gives rest hs lanes r.dumps r.mid s' o out' result) e.2 r.last))
