-- The closing line of a merge: the greatest timestamp of the merged items is that of the seats.
use Rattle.vcd_merge.proofs.Cited.{◌≡◌, ℕ, suc, ◌+◌, ◌*◌, ◌≤◌, max, Bool, true, false, cond, not, List, [], ◌∷◌, ◌++◌, length, map, slice_get, Option, Some, None, refl, sym, ap, subst, ◌∙◌, arith, fold, ⊤, AllByRecursion, is_empty, Header, renamed, BodyItem, marks, time_after, closing, Dump, factor, greatest_mark, merge_kept, merged_items, IsSorted, sorted_by_key, all_by_key, time_due, keyed_own, keyed_rest, all_append, merged_by, append_greatest, greater_assoc, greater_of, greatest_in, keyed_greatest, marks_greatest, own_greatest, own_most, reduce_is, sorted_greatest, IsTimed, timed_rest, unless_last, AreMarked, last_written, greater_time, greatest_from, greatest_time, Seat}
use Rattle.vcd_model.specs.Merge.{merge_close}

-- ---- of the seats

abbrev gs : List Seat → Option ℕ
gs [] = None
gs (s ∷ ss) = greater_of (cond s.regs.marked (Some s.time) None) (gs ss)

seats_gs : (t : Option ℕ) (ss : List Seat) → greatest_from t ss ≡ greater_of t (gs ss)
seats_gs None [] = refl
seats_gs (Some t) [] = refl
seats_gs t (s ∷ ss) = by_mark s.regs.marked t (λ u. seats_gs u ss) ∙ greater_assoc t (cond s.regs.marked (Some s.time) None) (gs ss)
  where
    by_mark : (b : Bool) (t : Option ℕ) → ((u : Option ℕ) → greatest_from u ss ≡ greater_of u (gs ss))
        → greatest_from (cond b (greater_time s t) t) ss ≡ greater_of (greater_of t (cond b (Some s.time) None)) (gs ss)
    by_mark true None more = more (Some s.time)
    by_mark true (Some u) more = more (Some (max u s.time))
    by_mark false None more = more None
    by_mark false (Some u) more = more (Some u)

-- no seat that is marked has a greater time
abbrev Most : ℕ → List Seat → Type 0
Most t [] = ⊤
Most t (s ∷ ss) = (s.regs.marked ≡ true → s.time ≤ t) × Most t ss

most_more : (t u : ℕ) (ss : List Seat) → t ≤ u → Most t ss → Most u ss
most_more t u [] l m = tt
most_more t u (s ∷ ss) l m = ((λ e. let a = m.0 e in omega arith), most_more t u ss l m.1)

all_low : (t : ℕ) (ss : List Seat) → gs ss ≡ None → Most t ss
all_low t [] e = tt
all_low t (s ∷ ss) e = by_mark s.regs.marked (gs ss) refl e (λ f. all_low t ss f)
  where
    by_mark : (b : Bool) (o : Option ℕ) → gs ss ≡ o → greater_of (cond b (Some s.time) None) o ≡ None → (gs ss ≡ None → Most t ss) → (b ≡ true → s.time ≤ t) × Most t ss
    by_mark true None f e more = cc
    by_mark true (Some u) f e more = cc
    by_mark false None f e more = ((λ g. cc), more f)
    by_mark false (Some u) f e more = cc

most_of : (t : ℕ) (ss : List Seat) → gs ss ≡ Some t → Most t ss
most_of t [] e = tt
most_of t (s ∷ ss) e = by_mark s.regs.marked (gs ss) refl e (λ u f. most_of u ss f)
  where
    by_mark : (b : Bool) (o : Option ℕ) → gs ss ≡ o → greater_of (cond b (Some s.time) None) o ≡ Some t → ((u : ℕ) → gs ss ≡ Some u → Most u ss)
        → (b ≡ true → s.time ≤ t) × Most t ss
    by_mark true None f e more = let g : s.time ≡ t = cc in ((λ h. omega arith), all_low t ss f)
    by_mark true (Some u) f e more = let g : max s.time u ≡ t = cc in ((λ h. omega arith), most_more u t ss (omega arith) (more u f))
    by_mark false None f e more = cc
    by_mark false (Some u) f e more = let g : u ≡ t = cc in ((λ h. cc), most_more u t ss (omega arith) (more u f))

-- an input without a timestamp is at 0
own_low : (t : ℕ) (s : Seat) → (s.regs.marked ≡ true → s.time ≤ t) → (scale : ℕ) (items : List BodyItem) → s.time ≡ scale * time_after items
    → s.regs.marked ≡ not (is_empty (marks items)) → s.time ≤ t
own_low t s most scale items time marked = by_marks (marks items) refl
  where
    by_marks : (ms : List ℕ) → marks items ≡ ms → s.time ≤ t
    by_marks [] e = let z : s.time ≡ scale * 0 = time ∙ ap (λ (l : List ℕ). scale * fold max 0 l) e in omega (arith, z)
    by_marks (m ∷ ms) e = most (marked ∙ ap (λ (l : List ℕ). not (is_empty l)) e)

-- inputs and seats, one by one
same_marks : (hs : List Header) (n : ℕ) (es : List Header) (ds : List Dump) (ss : List Seat) → length ds ≡ length ss
    → ((k : ℕ) (d : Dump) (s : Seat) → slice_get ds k ≡ Some d → slice_get ss k ≡ Some s → s.time ≡ factor hs d.header * time_after d.items)
    → ((k : ℕ) (d : Dump) (s : Seat) → slice_get ds k ≡ Some d → slice_get ss k ≡ Some s → s.regs.marked ≡ not (is_empty (marks d.items)))
    → greatest_in (keyed_rest hs n es ds) ≡ gs ss
same_marks hs n es [] [] len time marked = refl
same_marks hs n es [] (s ∷ ss) len time marked = absurd (omega arith)
same_marks hs n es (d ∷ ds) [] len time marked = absurd (omega arith)
same_marks hs n es (d ∷ ds) (s ∷ ss) len time marked =
    let t = time 0 d s refl refl in
    let m = marked 0 d s refl refl in
    let more = same_marks hs (n + 1) (es ++ d.header ∷ []) ds ss (omega arith) (λ k. time (suc k)) (λ k. marked (suc k)) in
    append_greatest (keyed_own hs n es d) (keyed_rest hs (n + 1) (es ++ d.header ∷ []) ds)
    ∙ ap (λ o. greater_of o (greatest_in (keyed_rest hs (n + 1) (es ++ d.header ∷ []) ds)))
    (keyed_greatest (factor hs d.header) n (renamed es d.header) [] d.items ∙ own_greatest (factor hs d.header) d.items ∙ rw (sym t, sym m) refl)
    ∙ ap (greater_of (cond s.regs.marked (Some s.time) None)) more

pub greatest_is : (hs : List Header) (ds : List Dump) (seats : List Seat) → AreMarked hs ds seats → greatest_mark (merged_items ds) ≡ greatest_time seats
greatest_is hs ds seats m =
    reduce_is (marks (map (λ k. k.entry.item) (merged_items ds)))
    ∙ marks_greatest (merged_items ds)
    ∙ ap greatest_in (merged_by hs ds m.dumps_are)
    ∙ sorted_greatest (keyed_rest hs 0 [] ds)
    ∙ same_marks hs 0 [] ds seats m.many m.time m.marked
    ∙ sym (seats_gs None seats)

-- ---- no item is later

rest_most : (hs : List Header) (n t : ℕ) (es : List Header) (ds : List Dump) (ss : List Seat) → length ds ≡ length ss
    → ((k : ℕ) (d : Dump) (s : Seat) → slice_get ds k ≡ Some d → slice_get ss k ≡ Some s → s.time ≡ factor hs d.header * time_after d.items)
    → ((k : ℕ) (d : Dump) (s : Seat) → slice_get ds k ≡ Some d → slice_get ss k ≡ Some s → s.regs.marked ≡ not (is_empty (marks d.items)))
    → Most t ss → AllByRecursion (λ y. y.key.time ≤ t) (keyed_rest hs n es ds)
rest_most hs n t es [] ss len time marked most = tt
rest_most hs n t es (d ∷ ds) [] len time marked most = absurd (omega arith)
rest_most hs n t es (d ∷ ds) (s ∷ ss) len time marked most =
    let e = time 0 d s refl refl in
    let m = marked 0 d s refl refl in
    all_append (λ y. y.key.time ≤ t) (keyed_own hs n es d) (keyed_rest hs (n + 1) (es ++ d.header ∷ []) ds)
    (own_most (factor hs d.header) n t (renamed es d.header) [] d.items (omega (arith, e, own_low t s most.0 (factor hs d.header) d.items e m)))
    (rest_most hs (n + 1) t (es ++ d.header ∷ []) ds ss (omega arith) (λ k. time (suc k)) (λ k. marked (suc k)) most.1)

-- what follows at the end
pub closes_none : (hs : List Header) (ds : List Dump) (seats : List Seat) → AreMarked hs ds seats → greatest_time seats ≡ None → merge_close (merged_items ds) ≡ []
unfolding merge_close
closes_none hs ds seats m e = ap (closing (map (λ e. e.time) (merge_kept (merged_items ds)))) (greatest_is hs ds seats m ∙ e)

pub closes_some : (hs : List Header) (ds : List Dump) (seats : List Seat) (written : Option ℕ) (t : ℕ) → AreMarked hs ds seats
    → written ≡ last_written (merged_items ds) → greatest_time seats ≡ Some t → merge_close (merged_items ds) ≡ time_due written t
unfolding merge_close
closes_some hs ds seats written t m is e =
    let b = merged_by hs ds m.dumps_are in
    let sorted : IsSorted (merged_items ds) = subst IsSorted (sym b) (sorted_by_key (keyed_rest hs 0 [] ds)) in
    let timed : AllByRecursion IsTimed (merged_items ds) = subst (AllByRecursion IsTimed) (sym b) (all_by_key IsTimed (keyed_rest hs 0 [] ds) (timed_rest hs 0 [] ds)) in
    let most = rest_most hs 0 t [] ds seats m.many m.time m.marked (most_of t seats (sym (seats_gs None seats) ∙ e)) in
    let all : AllByRecursion (λ y. y.key.time ≤ t) (merged_items ds) = subst (AllByRecursion (λ y. y.key.time ≤ t)) (sym b) (all_by_key (λ y. y.key.time ≤ t) (keyed_rest hs 0 [] ds) most) in
    ap (closing (map (λ e. e.time) (merge_kept (merged_items ds)))) (greatest_is hs ds seats m ∙ e)
    ∙ unless_last (merged_items ds) t sorted timed all
    ∙ ap (λ o. time_due o t) (sym is)
