-- What a step of a merge answers, by what the step of its input gave.
use Rattle.vcd_merge.proofs.Cited.{true≢false, ◌≡◌, ℕ, true, List, [], ◌∷◌, ◌++◌, length, take, Option, Some, None, Ok, Err, refl, sym, ap, subst, ◌∙◌, inl, inr, All, IfSome, AllByRecursion, get_or_from_slice_get, slice_get_within, Header, first_number, Clean, BodyItem, Entry, Dump, key_lt, factor, merge_open, merged_items, due_with, entry_for, keyed_rest, with_item, written_with, IsSorted, sorted_by_key, all_by_key, merged_by, merged_more, IsTimed, text_more, timed_rest, written_more, HasRest, Device, Writes, AreGiven, AreMarked, Gives, HasFault, Holds, ReadsOne, Standing, cut_at, last_written, next_item, AtSeat, HasDump, HasReadNoMore, Lane, Spot, Turns, Again, Stop, Read, Write, Unmatched, Seat}
use Rattle.vcd_merge.specs.MergeStep.{Takes}
use Rattle.vcd_body.specs.declared.answer.Stop.TheVariants.{Dump as Faulty}
use Rattle.vcd_merge.proofs.MergeSteps.{AtTurn, Leaves, all_before, given_more, given_still, lane_at, len_map, same_header, seat_spot, spot_seat, time_at}
use Rattle.vcd_merge.proofs.SpotLemmas.{seats_stay, spot_source}

module _ {X : Type 0} {rest : X
    → Option (List ℕ)} {hs : List Header} {lanes : List Lane} {ds : List Dump} {s : Standing X} {k : ℕ} {l : Lane} {d : Dump}
    (t : AtTurn rest hs lanes ds s k l d) where
  abbrev scale : ℕ
  scale = factor hs l.header

  abbrev first : ℕ
  first = first_number (take k hs)

  -- the item as it is written, in the definitions of one input and of the merge
  entry_is : (x : BodyItem) → entry_for scale first l.header d.items x ≡ (next_item rest hs lanes k d x).entry
  entry_is x = ap (λ (h : Header). entry_for (factor hs h) first h d.items x) (same_header rest hs lanes ds s t.holds.given k l d t.lane_at t.dump_at)

  merged_is : (x : BodyItem) → merged_items (with_item ds k d x) ≡ merged_items ds ++ next_item rest hs lanes k d x ∷ []
  merged_is x = merged_more hs ds k d x t.holds.given.dumps_are t.dump_at (all_before t)

  -- the text with it
  pub open_with : (x : BodyItem) → merge_open hs (merged_items (with_item ds k d x)) ≡ merge_open hs (merged_items ds) ++ due_with s.written (entry_for scale first l.header d.items x)
  open_with x =
      let b = merged_by hs ds t.holds.given.dumps_are in
      let y = next_item rest hs lanes k d x in
      let sorted : IsSorted (merged_items ds) = subst IsSorted (sym b) (sorted_by_key (keyed_rest hs 0 [] ds)) in
      let timed : AllByRecursion IsTimed (merged_items ds) = subst (AllByRecursion IsTimed) (sym b) (all_by_key IsTimed (keyed_rest hs 0 [] ds) (timed_rest hs 0 [] ds)) in
      let less : AllByRecursion (λ z. key_lt z.key y.key ≡ true) (merged_items ds) = subst (AllByRecursion (λ z. key_lt z.key y.key ≡ true)) (sym b)
      (all_by_key (λ z. key_lt z.key y.key ≡ true) (keyed_rest hs 0 [] ds) (all_before t)) in
      ap (merge_open hs) (merged_is x)
      ∙ text_more hs (merged_items ds) y s.written t.holds.written sorted timed refl less
      ∙ ap (λ (e : Entry). merge_open hs (merged_items ds) ++ due_with s.written e) (sym (entry_is x))

  pub written_with_it : (x : BodyItem) (written : Option ℕ) → written ≡ written_with s.written (entry_for scale first l.header d.items x)
      → written ≡ last_written (merged_items (with_item ds k d x))
  written_with_it x written e = e ∙ ap (written_with s.written) (entry_is x)
      ∙ written_more (merged_items ds) (next_item rest hs lanes k d x) s.written t.holds.written ∙ ap last_written (sym (merged_is x))

  module _ {s' : Standing X} {p : Spot} (v : Leaves rest s s' k p) where
    pub taken : (x : BodyItem) → AtSeat scale first l (d.items ++ x ∷ []) p → Takes rest hs lanes ds s' k d x
    taken x a = record { dump_at = t.dump_at; merged = merged_is x; given = given_more t v x a }

    -- what was read, by the spot of the input
    reads_one : (cut : Option ℕ) → HasReadNoMore l d.items (cut_at cut l.input) p → IfSome cut (λ n. l.input.mark ≡ Clean → HasRest p.rest n l.input) → ReadsOne rest lanes ds s s' k cut
    reads_one cut more has =
        let y = spot_source rest s' k p v.spot in
        record {
          next = t.next;
          lane = l;
          dump = d;
          source = y.0;
          lane_at = t.lane_at;
          dump_at = t.dump_at;
          source_at = y.1;
          no_more = rw (← v.token, ← v.chunk, ← y.2) more;
          has_rest = subst (λ (r : Option (List ℕ)). IfSome cut (λ n. l.input.mark ≡ Clean → HasRest r n l.input)) y.2 has;
          others = v.stay;
          seats = λ j other. seats_stay rest s s' j t.holds.given.sources_are v.sources (v.others j other);
        }

    -- where no read failed
    all_read : HasReadNoMore l d.items l.input p → ReadsOne rest lanes ds s s' k None
    all_read more = reads_one None more tt

    still : p.seat.finished ≡ true → AtSeat scale first l d.items p → AreGiven rest hs lanes ds s'
    still done a = given_still t v done a

    module _ (A : Type 0) (out out' : Device) where
      pub again : (u : A) → Turns {A = A} k scale first l d.items s.written s'.written p out out' (Ok u) → Gives rest hs lanes ds s s' out out' (Ok Again)
      again u (inl e) = inl (k, d, e.0, taken e.0 e.1.1, written_with_it e.0 s'.written e.1.2, (due_with s.written (entry_for scale first l.header d.items e.0), open_with e.0, e.2), all_read e.1.3)
      again u (inr e) = inr (record {
        holds = record { given = still e.0 e.1; written = e.2 ∙ t.holds.written };
        writes = e.3;
        input = k;
        finishes = record { before = t.next.seat; after = p.seat; before_at = t.next.there; after_at = spot_seat rest s' k p v.spot; unfinished = t.next.unfinished; finished = e.0 };
        reads = all_read e.4;
      })

      -- none is left: then it has finished
      pub ended : (u : A) → All (λ (x : Seat). x.finished ≡ true) s'.seats
          → Turns {A = A} k scale first l d.items s.written s'.written p out out' (Ok u) → Holds rest hs lanes ds s' × Writes out out' []
          × ReadsOne rest lanes ds s s' k None
      ended u all (inr e) = (record { given = still e.0 e.1; written = e.2 ∙ t.holds.written }, e.3, all_read e.4)
      ended u all (inl e) =
          let seat = spot_seat rest s' k p v.spot in
          let done = all k p.seat (slice_get_within s'.seats k p.seat seat) in
          let is = ap (λ (x : Seat). x.finished) (get_or_from_slice_get s'.seats k p.seat p.seat seat) in
          absurd (true≢false (sym done ∙ is ∙ e.1.0))

      -- it stops
      fault_at : (line fault : ℕ) (cut : Option ℕ) → HasDump scale (length p.token) l.header l.front (cut_at cut l.input) d.items
          (Some (record { number = fault; line = line })) → HasFault rest hs lanes ds s k line fault cut
      fault_at line fault cut has = record { next = t.next; lane = l; dump = d; lane_at = t.lane_at; dump_at = t.dump_at; has = rw (← v.token) has }

      pub stopped : (stop : Stop) → Turns {A = A} k scale first l d.items s.written s'.written p out out' (Err stop) → Gives rest hs lanes ds s s' out out' (Err stop)
      stopped (Faulty input line fault) e = rw e.0 (fault_at line fault None e.2, e.1, e.3, all_read e.4)
      stopped (Read input) e = rw e.0 ((e.1.0, e.1.1, fault_at e.1.1 31 (Some e.1.0) e.1.2, reads_one (Some e.1.0) e.1.3 e.1.4), e.2)
      stopped Write e = inl (k, d, e.0, taken e.0 e.1, (due_with s.written (entry_for scale first l.header d.items e.0), open_with e.0, e.2), all_read e.3)
      stopped (Unmatched name) e = e

-- the timestamps, by the seats
pub are_marked : {X : Type 0} (rest : X → Option (List ℕ)) (hs : List Header) (lanes : List Lane) (ds : List Dump) (s : Standing X) → AreGiven rest hs lanes ds s → AreMarked hs ds s.seats
are_marked rest hs lanes ds s g = record {
  dumps_are = g.dumps_are;
  many = sym (len_map (λ (d : Dump). d.header) ds) ∙ ap (λ (h : List Header). length h) g.dumps_are ∙ g.many;
  time = λ k d x a b. time_at rest hs lanes ds s g k d x a b;
  marked = λ k d x a b.
      let w = slice_get_within s.seats k x b in
      let l = lane_at rest hs lanes ds s g k w in
      let p = seat_spot rest s k x g.sources_are b in
      ap (λ (y : Seat). y.regs.marked) (sym p.2) ∙ (g.at k l.0 d p.0 l.1 a p.1).gave.known.marked_is;
}
