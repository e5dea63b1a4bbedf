-- How a merge ends: all inputs have ended, the input whose turn it is has a fault or a failed read,
-- or a write fails.
use Rattle.vcd_merge.proofs.Cited.{◌≡◌, ◌≢◌, ℕ, ◌+◌, Bool, true, false, List, [], ◌∷◌, ◌++◌, length, take, map, slice_get, Option, Some, None, All, refl, sym, ap, subst, ◌∙◌, arith, ◌⊎◌, inl, inr, append-nil, AllByRecursion, get_or_from_slice_get, slice_get_within, Header, first_number, BodyItem, Fault, Dump, Key, Keyed, key_lt, factor, first_fault, headers_of, key_after, merge_close, merge_open, merged_items, keyed_rest, with_item, clean_outcome, fault_outcome, merge_outcome, name_at, all_back, merged_by, AreGrown, GrownOne, first_is, IsSorted, all_by_key, key_never, sorted_by_key, clean, clear, Device, WritesSome, some-first, AreGiven, Standing, cut_at, next_item, HasDump, Lane, Seat, after_key, all_keyed, fault_outcome_is, none_between, outcome_begins, still_late, still_later, up_to_last, there, same_or_not, get_mapped}
use Rattle.vcd_merge.specs.MergeStep.{Takes}
use Rattle.vcd_merge.proofs.SpotLemmas.{IsLong, Known, known}
use Rattle.vcd_merge.proofs.MergeSteps.{AtTurn, all_before, by_flag, len_map, next_first, same_header}
use Rattle.vcd_merge.proofs.MergeWholes.{AllFit, Whole, Wholes, choose_all, entire, entire_of, fit_at, so_far}
use Rattle.vcd_merge.proofs.WholesFit.{grown_all, late_all, others_all}
use Rattle.vcd_merge.proofs.WholesOpened.{entire_headers}
use Rattle.vcd_merge.proofs.WholeInputs.{finished, goes_on}

-- a fault of the input comes after any position that was reached while it had not finished
abbrev pub HasLaterFault : (hs : List Header) (limit : ℕ) → List Seat → (k : ℕ) → Whole hs limit → Type 0
HasLaterFault hs limit seats k w = (b : Key) → ((y : Seat) → slice_get seats k ≡ Some y → y.finished ≡ false
    → key_lt b (key_after (factor hs w.dump.header) k w.dump.items) ≡ true) → (f : Fault) → w.fault ≡ Some f
    → key_lt b (key_after (factor hs w.dump.header) k w.items) ≡ true

module _ {X : Type 0} {rest : X → Option (List ℕ)} {hs : List Header} {lanes : List Lane} {ds : List Dump} {s : Standing X}
    (g : AreGiven rest hs lanes ds s) {limit : ℕ} (long : IsLong rest limit s) where
  as_many : length ds ≡ length lanes
  as_many =
      let a = ap (λ (x : List Header). length x) g.dumps_are in
      let b = len_map (λ (x : Dump). x.header) ds in
      let c = ap (λ (x : List Header). length x) g.lanes_are in
      let d = len_map (λ (x : Lane). x.header) lanes in
      omega (arith, a, b, c, d)

  -- the input at an index has more items, or it has finished
  record MayGo (k : ℕ) (w : Whole hs limit) : Type 0 where
    seat : Seat
    there : slice_get s.seats k ≡ Some seat
    more : List BodyItem
    items : w.items ≡ w.dump.items ++ more
    ended : seat.finished ≡ true → (more ≡ []) × (w.fault ≡ None)
    left : w.left ≡ w.lane.input

  -- these inputs, by the dump of each and what holds of it
  abbrev Some_at : (ℕ → Whole hs limit → Type 0) → ℕ → Lane → Dump → Type 0
  Some_at P k l d = (w : Whole hs limit) × (w.lane ≡ l) × (w.dump ≡ d) × P k w

  may_go : (k : ℕ) (l : Lane) (d : Dump) → slice_get lanes k ≡ Some l → slice_get ds k ≡ Some d → Some_at MayGo k l d
  may_go k l d at_l at_d = by_end p.spot.seat.finished refl
    where
      p : Known hs limit s k l d
      p = known g long k l d at_l at_d

      by_end : (b : Bool) → p.spot.seat.finished ≡ b → Some_at MayGo k l d
      by_end true e = (
        record {
          lane = l;
          dump = d;
          same = p.same;
          left = l.input;
          items = d.items ++ [];
          fault = None;
          has = finished (factor hs l.header)
              (first_number (take k hs)) limit l d.items p.spot p.at p.long e;
        },
        refl,
        refl,
        record { seat = p.spot.seat; there = p.there; more = []; items = refl; ended = λ f. (refl, refl); left = refl },
      )
      by_end false e =
          let o = goes_on (factor hs l.header) (first_number (take k hs)) limit l d.items p.spot p.at p.long in (
            record { lane = l; dump = d; same = p.same; left = l.input; items = d.items ++ o.more; fault = o.fault; has = o.has },
            refl,
            refl,
            record { seat = p.spot.seat; there = p.there; more = o.more; items = refl; ended = λ f. cc; left = refl },
          )

  module _ (b : Key) (k : ℕ) (w : Whole hs limit) (m : MayGo k w) where
    abbrev here : Key
    here = key_after (factor hs w.dump.header) k w.dump.items

    -- it has no more items before a key that is not after its position
    grown_of : (m.seat.finished ≡ false → key_lt here b ≡ false) → GrownOne b hs k w.dump (entire hs limit w)
    grown_of late = record { header = refl; more = m.more; items = m.items; late = by_flag m.seat.finished (λ e. inl (m.ended e).0) (λ e. inr (late e)) }

    -- where it has a fault it has not finished
    unfinished : (f : Fault) → w.fault ≡ Some f → m.seat.finished ≡ false
    unfinished f e = by_flag m.seat.finished (λ h. let n = (m.ended h).1 in cc) (λ h. h)

    fault_later : (m.seat.finished ≡ false → key_lt b here ≡ true) → (f : Fault) → w.fault ≡ Some f → key_lt b (key_after (factor hs w.dump.header) k w.items) ≡ true
    fault_later later f e = rw m.items (still_later b (factor hs w.dump.header) k w.dump.items m.more (later (unfinished f e)))

    fault_late : (m.seat.finished ≡ false → key_lt here b ≡ false) → (f : Fault) → w.fault ≡ Some f → key_lt (key_after (factor hs w.dump.header) k w.items) b ≡ false
    fault_late late f e = rw m.items (still_late b (factor hs w.dump.header) k w.dump.items m.more (late (unfinished f e)))

  -- a fault of it comes after any position that was reached
  faults_after : (k : ℕ) (w : Whole hs limit) → MayGo k w → HasLaterFault hs limit s.seats k w
  faults_after k w m = λ b later f e. fault_later b k w m (later m.seat m.there) f e

  -- ---- all inputs have finished

  pub record EndFits (k : ℕ) (w : Whole hs limit) : Type 0 where
    pub all : entire hs limit w ≡ clear w.dump
    pub left : w.left ≡ w.lane.input
    pub later : HasLaterFault hs limit s.seats k w

  module _ (finish : All (λ (x : Seat). x.finished ≡ true) s.seats) where
    end_at : (k : ℕ) (l : Lane) (d : Dump) → slice_get lanes k ≡ Some l → slice_get ds k ≡ Some d → Some_at EndFits k l d
    end_at k l d at_l at_d =
        let p = known g long k l d at_l at_d in
        let done = finish k p.spot.seat (slice_get_within s.seats k p.spot.seat p.there) in
        let e : p.spot.seat.finished ≡ true = ap (λ (x : Seat). x.finished) (sym (get_or_from_slice_get s.seats k p.spot.seat p.spot.seat p.there)) ∙ done in (
          record {
            lane = l;
            dump = d;
            same = p.same;
            left = l.input;
            items = d.items;
            fault = None;
            has = subst
                (λ (n : ℕ). HasDump (factor hs l.header) n l.header l.front l.input d.items None) p.long (p.at.finished e);
          },
          refl,
          refl,
          record { all = refl; left = refl; later = λ b later f none. cc },
        )

    pub ends : Wholes hs limit EndFits 0 lanes ds
    ends = choose_all hs limit EndFits lanes ds as_many end_at

    clear_all : (n : ℕ) (ws : List (Whole hs limit)) → AllFit hs limit EndFits n ws → entire_of hs limit ws ≡ map clear (so_far hs limit ws)
    clear_all n [] fit = refl
    clear_all n (w ∷ ws) fit = ap (λ (x : Dump). x ∷ entire_of hs limit ws) fit.0.all ∙ ap (λ (l : List Dump). clear w.dump ∷ l) (clear_all (n + 1) ws fit.1)

    pub clean_is : (names : List (List ℕ)) → merge_outcome names (entire_of hs limit ends.list) ≡ clean_outcome (merge_open hs (merged_items ds) ++ merge_close (merged_items ds))
    clean_is names =
        ap (merge_outcome names) (clear_all 0 ends.list ends.fit ∙ ap (map clear) ends.dumps_are)
        ∙ clean names ds
        ∙ ap (λ (h : List Header). clean_outcome (merge_open h (merged_items ds) ++ merge_close (merged_items ds))) g.dumps_are

  -- ---- a write failed: the outcome begins with what is on the output

  -- all items come before this key, and no position does
  module _ (place : Key) (late_at : (j : ℕ) (c : Dump) (y : Seat) → slice_get ds j ≡ Some c → slice_get s.seats j ≡ Some y → y.finished ≡ false
      → key_lt (key_after (factor hs c.header) j c.items) place ≡ false) where
    pub record WriteFits (n : ℕ) (w : Whole hs limit) : Type 0 where
      pub grown : GrownOne place hs n w.dump (entire hs limit w)
      pub late : (f : Fault) → w.fault ≡ Some f → key_lt (key_after (factor hs w.dump.header) n w.items) place ≡ false
      pub left : w.left ≡ w.lane.input
      pub later : HasLaterFault hs limit s.seats n w

    write_at : (j : ℕ) (l : Lane) (c : Dump) → slice_get lanes j ≡ Some l → slice_get ds j ≡ Some c → Some_at WriteFits j l c
    write_at j l c at_l at_c =
        let o = may_go j l c at_l at_c in
        let late = λ (on : o.3.seat.finished ≡ false). late_at j o.0.dump o.3.seat (at_c ∙ ap (λ (z : Dump). Some z) (sym o.2)) o.3.there on in
        (o.0, o.1, o.2, record { grown = grown_of place j o.0 o.3 late; late = fault_late place j o.0 o.3 late; left = o.3.left; later = faults_after j o.0 o.3 })

    pub writes : Wholes hs limit WriteFits 0 lanes ds
    writes = choose_all hs limit WriteFits lanes ds as_many write_at

    pub written_some : AllByRecursion (λ y. key_lt y.key place ≡ true) (keyed_rest hs 0 [] ds) → (names : List (List ℕ)) (begin new : Device)
        → WritesSome begin new (merge_open hs (merged_items ds)) → WritesSome begin new (merge_outcome names (entire_of hs limit writes.list)).output
    written_some all names begin new some =
        let headers = ap headers_of writes.dumps_are ∙ g.dumps_are in
        let grown = subst (λ (l : List Dump). AreGrown place hs 0 l (entire_of hs limit writes.list)) writes.dumps_are
        (grown_all hs limit WriteFits place (λ n v fit. fit.grown) 0 writes.list writes.fit) in
        let late = late_all hs limit WriteFits place (λ n v fit. fit.late) 0 writes.list writes.fit in
        let begins = outcome_begins names hs ds (entire_of hs limit writes.list) place g.dumps_are (entire_headers hs limit writes.list ∙ headers) grown all late in
        subst (WritesSome begin new) (sym begins.1) (some-first begin new (merge_open hs (merged_items ds)) begins.0 some)

-- .. after an item: no other position comes before its end
module _ {X : Type 0} {rest : X
    → Option (List ℕ)} {hs : List Header} {lanes : List Lane} {ds : List Dump} {s : Standing X} {k : ℕ} {d : Dump} {x : BodyItem}
    (t : Takes rest hs lanes ds s k d x) where
  abbrev es : List Dump
  es = with_item ds k d x

  abbrev item : Keyed
  item = next_item rest hs lanes k d x

  abbrev pub behind : Key
  behind = after_key item.key

  pub late_behind : (j : ℕ) (c : Dump) (y : Seat) → slice_get es j ≡ Some c → slice_get s.seats j ≡ Some y → y.finished ≡ false
      → key_lt (key_after (factor hs c.header) j c.items) behind ≡ false
  late_behind j c y at_c at_y on =
      let b = key_after (factor hs c.header) j c.items in
      let all = all_by_key (λ z. key_lt z.key b ≡ true) (keyed_rest hs 0 [] es) (t.given.before j c y at_c at_y on) in
      let merged : AllByRecursion (λ z. key_lt z.key b ≡ true) (merged_items ds ++ item ∷ []) = subst (AllByRecursion (λ z. key_lt z.key b ≡ true))
      (sym (merged_by hs es t.given.dumps_are) ∙ t.merged) all in
      none_between item.key b (all_back (λ z. key_lt z.key b ≡ true) (merged_items ds) (item ∷ []) merged).0

  pub all_up_to : AllByRecursion (λ y. key_lt y.key behind ≡ true) (keyed_rest hs 0 [] es)
  all_up_to =
      let b = merged_by hs es t.given.dumps_are in
      let sorted : IsSorted (merged_items ds ++ item ∷ []) = subst IsSorted (sym b ∙ t.merged) (sorted_by_key (keyed_rest hs 0 [] es)) in
      all_keyed (λ y. key_lt y.key behind ≡ true) (keyed_rest hs 0 [] es)
      (subst (AllByRecursion (λ y. key_lt y.key behind ≡ true)) (sym t.merged ∙ b) (up_to_last (merged_items ds) item sorted))

-- no key comes before itself
not_itself : (a : Key) → key_lt a a ≡ false
not_itself a = by_flag (key_lt a a) (λ e. let n = key_never a a e in cc) (λ e. e)

module _ {X : Type 0} {rest : X
    → Option (List ℕ)} {hs : List Header} {lanes : List Lane} {ds : List Dump} {s : Standing X} {k : ℕ} {l : Lane} {d : Dump}
    (t : AtTurn rest hs lanes ds s k l d) where
  -- the position of the input whose turn it is
  abbrev pub place_next : Key
  place_next = key_after (factor hs d.header) k d.items

  -- .. before it was read, since what is kept back was not passed on: no position comes before it
  pub late_next : (j : ℕ) (c : Dump) (y : Seat) → slice_get ds j ≡ Some c → slice_get s.seats j ≡ Some y → y.finished ≡ false
      → key_lt (key_after (factor hs c.header) j c.items) place_next ≡ false
  late_next j c y at_c at_y on = elim (same_or_not j k) [
    | inr other ↦ key_never place_next (key_after (factor hs c.header) j c.items) (next_first t j c y other at_c at_y on)
    | inl here ↦
        let both : Some d ≡ Some c = sym t.dump_at ∙ ap (slice_get ds) (sym here) ∙ at_c in
        let is : d ≡ c = cc in
        rw (← is, here) (not_itself place_next)
  ]

  -- ---- a fault of it

  module _ {limit : ℕ} (long : IsLong rest limit s) (line fault : ℕ) (cut : Option ℕ)
      (has : HasDump (factor hs l.header) limit l.header l.front (cut_at cut l.input) d.items (Some (record { number = fault; line = line }))) where
    abbrev fault_is : Fault
    fault_is = record { number = fault; line = line }

    abbrev own_dump : Dump
    own_dump = record { header = d.header; items = d.items; fault = Some fault_is }

    pub record StopFits (n : ℕ) (w : Whole hs limit) : Type 0 where
      pub grown : GrownOne place_next hs n w.dump (entire hs limit w)
      pub later : n ≢ k → (f : Fault) → w.fault ≡ Some f → key_lt place_next (key_after (factor hs w.dump.header) n w.items) ≡ true
      pub own : n ≡ k → entire hs limit w ≡ own_dump
      pub cut_is : n ≡ k → w.left ≡ cut_at cut w.lane.input
      pub left : n ≢ k → w.left ≡ w.lane.input
      pub behind : HasLaterFault hs limit s.seats n w

    stop_at : (j : ℕ) (m : Lane) (c : Dump) → slice_get lanes j ≡ Some m → slice_get ds j ≡ Some c → (j ≡ k) ⊎ (j ≢ k) → (w : Whole hs limit)
        × (w.lane ≡ m) × (w.dump ≡ c) × StopFits j w
    stop_at j m c at_m at_c (inl e) =
        let el : l ≡ m = cc (sym t.lane_at ∙ ap (λ i. slice_get lanes i) (sym e) ∙ at_m) in
        let ed : d ≡ c = cc (sym t.dump_at ∙ ap (λ i. slice_get ds i) (sym e) ∙ at_c) in (
          record { lane = l; dump = d; same = same_header rest hs lanes ds s t.holds.given k l d t.lane_at t.dump_at; left = cut_at cut l.input; items = d.items; fault = Some fault_is; has = has },
          el,
          ed,
          record {
            grown = record { header = refl; more = []; items = sym (append-nil d.items); late = inl refl };
            later = λ other. absurd (other e);
            own = λ same. refl;
            cut_is = λ same. refl;
            left = λ other. absurd (other e);
            behind = λ b later f is. later t.next.seat (ap (slice_get s.seats) e ∙ t.next.there) t.next.unfinished;
          },
        )
    stop_at j m c at_m at_c (inr other) =
        let o = may_go t.holds.given long j m c at_m at_c in
        let later : o.3.seat.finished ≡ false → key_lt place_next (key_after (factor hs o.0.dump.header) j o.0.dump.items)
        ≡ true = λ on. next_first t j o.0.dump o.3.seat other (at_c ∙ ap (λ (z : Dump). Some z) (sym o.2)) o.3.there on in (
          o.0,
          o.1,
          o.2,
          record {
            grown = grown_of t.holds.given long place_next j o.0 o.3 (λ on. key_never place_next (key_after (factor hs o.0.dump.header) j o.0.dump.items) (later on));
            later = λ n. fault_later t.holds.given long place_next j o.0 o.3 later;
            own = λ e. absurd (other e);
            cut_is = λ e. absurd (other e);
            left = λ n. o.3.left;
            behind = faults_after t.holds.given long j o.0 o.3;
          },
        )

    pub stops : Wholes hs limit StopFits 0 lanes ds
    stops = choose_all hs limit StopFits lanes ds (as_many t.holds.given long) (λ j m c a b. stop_at j m c a b (same_or_not j k))

    own_at : slice_get (entire_of hs limit stops.list) k ≡ Some own_dump
    own_at =
        let a = ap (λ (x : List Lane). length x) stops.lanes_are in
        let b = len_map (λ (w : Whole hs limit). w.lane) stops.list in
        let c = slice_get_within lanes k l t.lane_at in
        let w = there stops.list k (omega (arith, a, b, c)) in
        let fit = fit_at hs limit StopFits 0 k stops.list w.0 w.1 stops.fit in
        let i : 0 + k ≡ k = omega arith in
        get_mapped (entire hs limit) stops.list k w.0 w.1 ∙ ap (λ (x : Dump). Some x) (fit.own i)

    pub fault_merged : (names : List (List ℕ)) → merge_outcome names (entire_of hs limit stops.list) ≡ fault_outcome (merge_open hs (merged_items ds)) (name_at names k) fault_is
    fault_merged names =
        let all = entire_of hs limit stops.list in
        let headers = entire_headers hs limit stops.list ∙ ap headers_of stops.dumps_are ∙ t.holds.given.dumps_are in
        let grown = subst (λ (x : List Dump). AreGrown place_next hs 0 x all) stops.dumps_are (grown_all hs limit StopFits place_next (λ n v fit. fit.grown) 0 stops.list stops.fit) in
        let i : k ≡ 0 + k = omega arith in
        let later = others_all hs limit StopFits place_next k (λ n v fit. fit.later) 0 k stops.list i stops.fit in
        let first : first_fault all ≡ Some (record { key = place_next; fault = fault_is }) = first_is hs all k own_dump fault_is headers own_at refl later in
        fault_outcome_is names hs ds all place_next t.holds.given.dumps_are headers grown (all_before t) fault_is first
