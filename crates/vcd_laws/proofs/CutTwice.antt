-- `cut` of what `cut` wrote, from a later time on, is `cut` of its input.
use Rattle.vcd_laws.proofs.Cited.{◌≡◌, ℕ, ◌+◌, ◌-◌, ◌<◌, ◌≤◌, ◌==◌, Bool, true, false, cond, not, ◌&&◌, ◌||◌, nat_lt, nat_le, List, [], ◌∷◌, ◌++◌, map, filter, flat_map, Option, Some, None, Result, Ok, Err, ◌⊎◌, inl, inr, refl, sym, ap, ◌∙◌, subst, arith, bytes_eq, AllByRecursion, list_any, last_or, append-nil, cases_lt, and_right, lt-ltb, le-ltb, le-leb, lt-leb, eq-eqb, eqb-true, not-true, each_some, Input, Declaration, Variable, IdCode, variables_of, code_of, Header, BodyItem, Entry, entries, Vars, Value, value_at, value_before, kept_by, time_unless, text_after, closing, last_mark, head_for, Selected, selected, ends_cut, within, cut_kept, start_section, times_of, Fault, Moment, moment_ticks, Request, Outcome, Opened, items_in, fault_in, clean_outcome, at_end, over_dumps, Want, IsJob, Refusal, cut_request, has_unit, refusal_outcome, Opens, written_by, cut_text, input_of, IsReadable, as_list, CutTwice, CutPastEnd, requests_are_valid, AreFit, time_behind, entries_from, at_start, entries_are, plain_line, gives_at, latest_agree, last_time, written_items, AreWritable, Stand, closing_items, time_behind_le, last_mark_from, last_mark_is, filter_words, all_within, times_within, item_if_set, set_items, start_items, start_text, start_behind, cuts, above, cut_mark, last_below, before_is, later_none}
use Rattle.vcd_model.specs.Declarations.{codes_of}
use Rattle.vcd_model.specs.Outcome.{over_body, over_dump}
use Rattle.vcd_model.specs.Job.{request_of}
use Rattle.vcd_laws.proofs.OpenedBodies.{opens_good, opened_fit}
use Rattle.vcd_laws.proofs.CutLaw.{cut_body, within_fit, cut_entries, cut_start, cut_end, cut_text_after_head}
use Rattle.vcd_laws.proofs.WrittenCodes.{In, from_filter, to_contained}
use Rattle.vcd_laws.proofs.HeadBack.{variables_are, opens_header}
use Rattle.vcd_laws.proofs.RunLaws.{cut_run, opened_run}
use Rattle.vcd_laws.proofs.SampleText.{above_less}
use Rattle.vcd_laws.proofs.WrittenCounts.{parts_counts}
use Rattle.vcd_laws.proofs.PickTwice.{reread, head_twice, last_push}
use Rattle.vcd_laws.proofs.CheckOfCut.{CutItems, cut_items, same_ok, set_none, start_marks}
use Rattle.vcd_laws.proofs.CutAgain.{between, kept_between, cut_insides, cut_may, written_again, start_over, text_again, times_again}

-- ---- where items end

-- a timestamp above a time ends a cut if the time after the items is above it
ends_is : (codes : List IdCode) (b t : ℕ) (o : Bool) (xs : List BodyItem) → AreFit codes t o xs
    → t ≤ b → ends_cut b xs ≡ nat_lt b (time_behind t xs)
ends_is codes b t o [] fit l = sym (le-ltb b t l)
ends_is codes b t o (BodyItem.Time u ∷ xs) fit l =
    by_time (cases_lt b u) (ends_is codes b u o xs fit.1)
  where
    by_time : (b < u) ⊎ (u ≤ b) → (u ≤ b → ends_cut b xs ≡ nat_lt b (time_behind u xs))
        → ends_cut b (BodyItem.Time u ∷ xs) ≡ nat_lt b (time_behind u xs)
    by_time (inl m) next =
        let more = time_behind_le codes u o xs fit.1 in
        rw (lt-ltb b u m, lt-ltb b (time_behind u xs) (omega arith)) refl
    by_time (inr m) next = rw (le-ltb b u m) (next m)
ends_is codes b t o (BodyItem.Begin s ∷ xs) fit l = ends_is codes b t true xs fit.1 l
ends_is codes b t o (BodyItem.End ∷ xs) fit l = ends_is codes b t false xs fit.1 l
ends_is codes b t o (BodyItem.Changes c ∷ xs) fit l = ends_is codes b t o xs fit.1 l

-- the last timestamp is the time after the items, if there is a timestamp
abbrev LastMark : ℕ → List BodyItem → Type 0
LastMark t xs = ((last_mark xs ≡ None) × (time_behind t xs ≡ t))
    ⊎ (last_mark xs ≡ Some (time_behind t xs))

mark_case : (t : ℕ) (xs : List BodyItem) → LastMark t xs
mark_case t [] = inl (refl, refl)
mark_case t (BodyItem.Time u ∷ xs) = inr (last_mark_from u xs)
mark_case t (BodyItem.Begin s ∷ xs) = mark_case t xs
mark_case t (BodyItem.End ∷ xs) = mark_case t xs
mark_case t (BodyItem.Changes c ∷ xs) = mark_case t xs

-- the line of a time that is later than a
abbrev late : ℕ → List ℕ → ℕ → List ℕ
late a w n = cond (nat_lt a n) (time_unless w n) []

end_past : (codes : List IdCode) (a b : ℕ) (xs : List BodyItem) (ts : List ℕ)
    → AreFit codes 0 false xs → a ≤ b → b < time_behind 0 xs
    → closing (a ∷ ts) (cut_end a b xs) ≡ late a (a ∷ ts) b
end_past codes a b xs ts fit l m =
    let ends : ends_cut b xs ≡ true = ends_is codes b 0 false xs fit (omega arith)
    ∙ lt-ltb b (time_behind 0 xs) m in
    ap (λ e. closing (a ∷ ts) (cut_mark a b e (last_mark (within b xs)))) ends
    ∙ by_order (cases_lt a b)
  where
    by_order : (a < b) ⊎ (b ≤ a) → time_unless (a ∷ ts) b ≡ late a (a ∷ ts) b
    by_order (inl k) = rw (lt-ltb a b k) refl
    by_order (inr k) = rw (le-ltb a b k, eq-eqb a b (omega arith)) refl

end_up_to : (codes : List IdCode) (a b : ℕ) (xs : List BodyItem) (ts : List ℕ)
    → AreFit codes 0 false xs → time_behind 0 xs ≤ b
    → closing (a ∷ ts) (cut_end a b xs) ≡ late a (a ∷ ts) (time_behind 0 xs)
end_up_to codes a b xs ts fit m =
    let ends : ends_cut b xs ≡ false = ends_is codes b 0 false xs fit (omega arith)
    ∙ le-ltb b (time_behind 0 xs) m in
    ap (λ e. closing (a ∷ ts) (cut_mark a b e (last_mark (within b xs)))) ends
    ∙ ap (λ (l : List BodyItem). closing (a ∷ ts) (above a (last_mark l))) (all_within b xs ends)
    ∙ by_mark (mark_case 0 xs)
  where
    by_test : (x : Bool) → closing (a ∷ ts) (cond x (Some (time_behind 0 xs)) None)
        ≡ cond x (time_unless (a ∷ ts) (time_behind 0 xs)) []
    by_test true = refl
    by_test false = refl

    by_mark : LastMark 0 xs
        → closing (a ∷ ts) (above a (last_mark xs)) ≡ late a (a ∷ ts) (time_behind 0 xs)
    by_mark (inl e) = rw (e.0, e.1, le-ltb a 0 (omega arith)) refl
    by_mark (inr e) = ap (λ o. closing (a ∷ ts) (above a o)) e
        ∙ by_test (nat_lt a (time_behind 0 xs))

-- ---- where what was cut ends

-- the end of what was cut, of items with this end
abbrev EndsAt : ℕ → ℕ → ℕ → ℕ → Type 0
EndsAt a b was n = ((b < was) × (n ≡ b)) ⊎ (((was ≤ b) × (n ≡ was)) ⊎ ((was ≤ a) × (n ≤ a)))

last_times : (t : ℕ) (es : List Entry)
    → last_or (Some t) (map (λ (e : Entry). e.time) es) ≡ Some (last_time t es)
last_times t [] = refl
last_times t (e ∷ es) = last_times e.time es

last_with : (t : ℕ) (es : List Entry) (mark : Option ℕ)
    → last_or (Some t) (map (λ (e : Entry). e.time) es ++ as_list mark)
    ≡ Some (elim mark [ Some e ↦ e | None ↦ last_time t es ])
last_with t es None = ap (last_or (Some t)) (append-nil (map (λ (e : Entry). e.time) es))
    ∙ last_times t es
last_with t es (Some e) = last_push (map (λ (x : Entry). x.time) es) (Some t) e

ends_at : (codes : List IdCode) (a b n : ℕ) (items : List BodyItem) → AreFit codes 0 false items
    → a ≤ b → n ≡ elim (cut_end a b items) [
      | Some e ↦ e
      | None ↦ last_time a
          (cut_entries a b items)
    ] → EndsAt a b (time_behind 0 items) n
ends_at codes a b n items fit l e = by_end (cases_lt b (time_behind 0 items))
  where
    was : ℕ
    was = time_behind 0 items

    end_of : Option ℕ → ℕ
    end_of o = elim o [ Some x ↦ x | None ↦ last_time a (cut_entries a b items) ]

    by_start : ends_cut b items ≡ false → was ≤ b → cut_end a b items ≡ above a (last_mark items)
        → (a < was) ⊎ (was ≤ a) → EndsAt a b was n
    by_start ends m same (inl k) =
        let some : last_mark items ≡ Some was = by_mark (mark_case 0 items) in
        let now : above a (Some was) ≡ Some was = rw (lt-ltb a was k) refl in
        inr (inl (m, e ∙ ap end_of (same ∙ ap (above a) some ∙ now)))
      where
        by_mark : LastMark 0 items → last_mark items ≡ Some was
        by_mark (inl x) = let z = x.1 in absurd (omega arith)
        by_mark (inr x) = x
    by_start ends m same (inr k) =
        let none : above a (last_mark items) ≡ None = by_mark (mark_case 0 items) in
        let ends_a : ends_cut a items ≡ false = ends_is codes a 0 false items fit (omega arith)
        ∙ le-ltb a was k in
        let low : AllByRecursion (λ x. x.time ≤ a) (entries_from 0 false (within b items))
        = subst (λ (l : List BodyItem). AllByRecursion (λ x. x.time ≤ a) (entries_from 0 false l))
        (all_within a items ends_a ∙ sym (all_within b items ends))
        (times_within a 0 false items (omega arith)) in
        let last = last_below a a (cut_entries a b items) (omega arith)
        (filter_words (λ x. x.time ≤ a) (cuts a) (entries_from 0 false (within b items)) low) in
        let is : n ≡ last_time a (cut_entries a b items) = e ∙ ap end_of (same ∙ none) in
        inr (inr (k, omega arith))
      where
        by_mark : LastMark 0 items → above a (last_mark items) ≡ None
        by_mark (inl x) = ap (above a) x.0
        by_mark (inr x) =
            let now : above a (Some was) ≡ None = rw (le-ltb a was k) refl in ap (above a) x ∙ now

    by_end : (b < was) ⊎ (was ≤ b) → EndsAt a b was n
    by_end (inl m) =
        let ends : ends_cut b items ≡ true = ends_is codes b 0 false items fit (omega arith)
        ∙ lt-ltb b was m in
        inl (m, e ∙ ap (λ x. end_of (cut_mark a b x (last_mark (within b items)))) ends)
    by_end (inr m) =
        let ends : ends_cut b items ≡ false = ends_is codes b 0 false items fit (omega arith)
        ∙ le-ltb b was m in
        let same : cut_end a b items ≡ above a (last_mark items)
        = ap (λ x. cut_mark a b x (last_mark (within b items))) ends
        ∙ ap (λ (l : List BodyItem). above a (last_mark l)) (all_within b items ends) in
        by_start ends m same (cases_lt a was)

-- the closing line of the second cut
same_end : (codes codes' : List IdCode) (a b c d : ℕ) (items others : List BodyItem) (ts : List ℕ)
    → AreFit codes 0 false items → AreFit codes' 0 false others → a < c → c ≤ d → d ≤ b
    → EndsAt a b (time_behind 0 items) (time_behind 0 others)
    → closing (c ∷ ts) (cut_end c d others) ≡ closing (c ∷ ts) (cut_end c d items)
same_end codes codes' a b c d items others ts fit fit' l m k is = by_case is
  where
    was : ℕ
    was = time_behind 0 items

    now : ℕ
    now = time_behind 0 others

    by_whole : was ≤ b → now ≡ was → (d < was) ⊎ (was ≤ d)
        → closing (c ∷ ts) (cut_end c d others) ≡ closing (c ∷ ts) (cut_end c d items)
    by_whole h e (inl p) = end_past codes' c d others ts fit' m (omega arith)
        ∙ sym (end_past codes c d items ts fit m p)
    by_whole h e (inr p) = end_up_to codes' c d others ts fit' (omega arith)
        ∙ ap (late c (c ∷ ts)) e ∙ sym (end_up_to codes c d items ts fit p)

    by_cut : b < was → now ≡ b → (d < b) ⊎ (b ≤ d)
        → closing (c ∷ ts) (cut_end c d others) ≡ closing (c ∷ ts) (cut_end c d items)
    by_cut h e (inl p) = end_past codes' c d others ts fit' m (omega arith)
        ∙ sym (end_past codes c d items ts fit m (omega arith))
    by_cut h e (inr p) =
        let same : now ≡ d = omega arith in
        end_up_to codes' c d others ts fit' (omega arith)
        ∙ ap (late c (c ∷ ts)) same ∙ sym (end_past codes c d items ts fit m (omega arith))

    by_case : EndsAt a b was now
        → closing (c ∷ ts) (cut_end c d others) ≡ closing (c ∷ ts) (cut_end c d items)
    by_case (inl h) = by_cut h.0 h.1 (cases_lt d b)
    by_case (inr (inl h)) = by_whole h.0 h.1 (cases_lt d was)
    by_case (inr (inr h)) =
        let p = h.0 in
        let q = h.1 in
        let here : late c (c ∷ ts) now ≡ [] = rw (le-ltb c now (omega arith)) refl in
        let there : late c (c ∷ ts) was ≡ [] = rw (le-ltb c was (omega arith)) refl in
        end_up_to codes' c d others ts fit' (omega arith) ∙ here
        ∙ sym (end_up_to codes c d items ts fit (omega arith) ∙ there)

-- ---- values before a time

lt_next : (u n : ℕ) → nat_lt u (n + 1) ≡ nat_le u n
lt_next u n = by_order (cases_lt n u)
  where
    by_order : (n < u) ⊎ (u ≤ n) → nat_lt u (n + 1) ≡ nat_le u n
    by_order (inl l) = rw (le-ltb u (n + 1) (omega arith), lt-leb u n l) refl
    by_order (inr l) = rw (lt-ltb u (n + 1) (omega arith), le-leb u n l) refl

pub all_agree : (c : IdCode) (n : ℕ) (es : List Entry)
    → AllByRecursion (λ e. gives_at c (λ u. nat_lt u (n + 1)) e ≡ gives_at c (λ u. nat_le u n) e) es
all_agree c n [] = tt
all_agree c n (e ∷ es) = (rw (lt_next e.time n) refl, all_agree c n es)

-- the value before a time is that at the time before it
pub before_at : (codes : List IdCode) (b n : ℕ) (items : List BodyItem) (c : IdCode)
    → AreFit codes 0 false items → n ≤ b
    → value_before (within b items) c (n + 1) ≡ value_at items c n
before_at codes b n items c fit l =
    before_is codes (within b items) c (n + 1) (within_fit codes b items fit)
    ∙ latest_agree (gives_at c (λ u. nat_lt u (n + 1))) (gives_at c (λ u. nat_le u n))
    (entries_from 0 false (within b items)) (all_agree c n (entries_from 0 false (within b items)))
    ∙ sym (later_none codes b items c n fit l)

-- ---- the head and the codes

codes_same : (ds es : List Declaration) → variables_of ds ≡ variables_of es
    → codes_of ds ≡ codes_of es
unfolding codes_of
codes_same ds es e =
    ap (λ (vs : List Variable). each_some (λ earlier v. cond
    (list_any (λ u. bytes_eq u.code v.code) earlier) None (Some (code_of v))) vs) e

pub same_codes : (h k : Header) → selected [] k.declarations ≡ selected [] h.declarations
    → h.codes ≡ codes_of h.declarations → k.codes ≡ codes_of k.declarations → k.codes ≡ h.codes
same_codes h k e own back =
    back
    ∙ codes_same k.declarations h.declarations (sym (variables_are k.declarations)
    ∙ ap (map (λ (s : Selected). s.variable)) e ∙ variables_are h.declarations)
    ∙ sym own

set_same : (vals others : IdCode → Option Value) (cs : List IdCode)
    → ((c : IdCode) → In c cs → vals c ≡ others c) → set_items vals cs ≡ set_items others cs
set_same vals others [] same = refl
set_same vals others (c ∷ cs) same =
    ap (λ v. item_if_set c v ++ set_items vals cs) (same c (inl refl))
    ∙ ap (λ l. item_if_set c (others c) ++ l) (set_same vals others cs (λ d i. same d (inr i)))

-- ---- the run

cut_body_run : (a b : ℕ) (h : Header) (items : List BodyItem) (name : List ℕ) (fault : Option Fault)
    (ends : Bool) → ends_cut b items ≡ ends → (ends_cut b items ≡ true) ⊎ (fault ≡ None)
    → over_body (Request.Cut a b) h items name fault ≡ clean_outcome (cut_text h a b items)
unfolding over_body
cut_body_run a b h items name fault true e clean = rw (e, over_body, cut_text) refl
cut_body_run a b h items name fault false e (inl ends) = cc
cut_body_run a b h items name fault false e (inr none) =
    rw (e, over_body, cut_text) (ap (at_end (Request.Cut a b) h items name) none)

cut_over : (a b : ℕ) (name : List ℕ) (o : Opened)
    → (ends_cut b (items_in o) ≡ true) ⊎ (fault_in o ≡ None)
    → over_dumps (Request.Cut a b) (name ∷ []) (o ∷ [])
    ≡ clean_outcome (cut_text o.header a b (items_in o))
unfolding over_dump
cut_over a b name o clean =
    cut_body_run a b o.header (items_in o) name (fault_in o) (ends_cut b (items_in o)) refl clean

-- what a cut asks for
abbrev CutAsks : Result Request Refusal → ℕ → ℕ → Type 0
CutAsks r c d = ((why : Refusal) × (r ≡ Err why)) ⊎ (r ≡ Ok (Request.Cut c d))

cut_asks : (units : Bool) (x y : Result ℕ ℕ) (c d : ℕ) → x ≡ Ok c → y ≡ Ok d
    → CutAsks (cut_request units x y) c d
cut_asks units x y c d e f =
    subst (λ (r : Result ℕ ℕ). CutAsks (cut_request units r y) c d) (sym e)
    (subst (λ (r : Result ℕ ℕ). CutAsks (cut_request units (Ok c) r) c d) (sym f)
    (by_test (units && nat_lt d c)))
  where
    by_test : (b : Bool)
        → CutAsks (cond b (Err Refusal.FromAboveTo) (Ok (Request.Cut c d))) c d
    by_test true = inl (Refusal.FromAboveTo, refl)
    by_test false = inr refl

-- ---- the law

-- the values before the second cut
before_same : (limit : ℕ) (name : List ℕ) (from to : Moment) (input : Input) (o : Opened)
    (a b c d : ℕ) (p : CutItems limit name from to input o a b) (x : IdCode)
    → AreFit o.header.codes 0 false (items_in o)
    → AreFit p.dump.dump.header.codes 0 false (items_in p.dump.dump)
    → In x p.dump.dump.header.codes → x.event ≡ false → a < c → c ≤ d → d ≤ b
    → value_before (within d (items_in p.dump.dump)) x c ≡ value_before (within d (items_in o)) x c
before_same limit name from to input o a b c d p x fit fit' i quiet l m k =
    let dump = p.dump in
    let read = dump.dump in
    let n = c - 1 in
    let e : n + 1 ≡ c = omega arith in
    subst (λ (t : ℕ). value_before (within d (items_in read)) x t
    ≡ value_before (within d (items_in o)) x t) e
    (before_at read.header.codes d n (items_in read) x fit' (omega arith)
    ∙ dump.values x n (to_contained read.header.codes x i) quiet ((omega arith), (omega arith))
    ∙ sym (before_at o.header.codes d n (items_in o) x fit (omega arith)))

-- where the items of the first cut end
read_end : (limit : ℕ) (name : List ℕ) (from to : Moment) (input : Input) (o : Opened) (a b : ℕ)
    (p : CutItems limit name from to input o a b) → AreFit o.header.codes 0 false (items_in o)
    → a ≤ b → EndsAt a b (time_behind 0 (items_in o)) (time_behind 0 (items_in p.dump.dump))
read_end limit name from to input o a b p fit l =
    let h = o.header in
    let items = items_in o in
    let others = items_in p.dump.dump in
    let vals : IdCode → Option Value = λ x. value_before (within b items) x a in
    let cs = filter (λ x. not x.event) h.codes in
    let start = cut_start h a b items in
    let ks = cut_entries a b items in
    let mark = cut_end a b items in
    let behind = p.behind in
    let none = set_none vals cs in
    let counts = parts_counts h.codes start (a ∷ []) ks mark behind.parts (start_marks a
    (set_items vals cs) none.1) refl
    (λ e. ap Some (eqb-true a (time_behind 0 start) (or_false (a == time_behind 0 start) e))) in
    let now : time_behind 0 others ≡ elim mark [ Some e ↦ e | None ↦ last_time a ks ]
    = sym (last_mark_is 0 others (elim mark [ Some e ↦ e | None ↦ last_time a ks ])
    (ap last_mark p.items ∙ counts.last_is ∙ last_with a ks mark)) in
    ends_at h.codes a b (time_behind 0 others) items fit l now
  where
    or_false : (x : Bool) → (x || false) ≡ true → x ≡ true
    or_false true e = refl
    or_false false e = cc

-- the text of the second cut
text_twice : (limit : ℕ) (name : List ℕ) (from to : Moment) (input : Input) (o : Opened)
    (a b c d : ℕ) → IsJob (Want.Cut from to)
    → (can : IsReadable (Want.Cut from to) limit name input o)
    → (p : CutItems limit name from to input o a b) → a < c → c ≤ d → d ≤ b
    → cut_text p.dump.dump.header c d (items_in p.dump.dump) ≡ cut_text o.header c d (items_in o)
text_twice limit name from to input o a b c d job can p l m k =
    let dump = p.dump in
    let read = dump.dump in
    let head = dump.head in
    let h = o.header in
    let g = read.header in
    let items = items_in o in
    let others = items_in read in
    let text = written_by (Want.Cut from to) limit name input in
    let good = opens_good limit input o can.opens in
    let again = opens_good limit (input_of text) read dump.opens in
    let fit = opened_fit o good in
    let fit' : AreFit g.codes 0 false others = opened_fit read again in
    let own = opens_header limit input o can.opens in
    let back = opens_header limit (input_of text) read dump.opens in
    let behind = p.behind in
    let parts = behind.parts in
    let q = within b items in
    let vals : IdCode → Option Value = λ x. value_before q x a in
    let cs = filter (λ x. not x.event) h.codes in
    let start = cut_start h a b items in
    let ks = cut_entries a b items in
    let mark = cut_end a b items in
    let ts = map (λ (e : Entry). e.time) ks in
    let heads : head_for g [] ≡ head_for h [] = head_twice [] h g head own.declared p.rows in
    let codes : g.codes ≡ h.codes = same_codes h g head.variables own.codes back.codes in
    let before : (x : IdCode) → In x cs
    → value_before (within d others) x c ≡ value_before (within d items) x c = λ x i.
    let in_codes = from_filter (λ (y : IdCode). not y.event) h.codes x i in
    before_same limit name from to input o a b c d p x fit fit'
    (subst (In x) (sym codes) in_codes.0) (not-true x.event in_codes.1) l m k in
    let started : start_section g c (within d others) ≡ start_section h c (within d items)
    = start_text g c (within d others)
    ∙ ap (λ (l : List IdCode). flat_map plain_line (start_items c
    (λ x. value_before (within d others) x c) (filter (λ x. not x.event) l))) codes
    ∙ ap (λ l. flat_map plain_line (BodyItem.Time c ∷ BodyItem.Begin Vars ∷ (l ++ BodyItem.End
    ∷ []))) (set_same (λ x. value_before (within d others) x c)
    (λ x. value_before (within d items) x c) cs before)
    ∙ sym (start_text h c (within d items)) in
    let entries_here : cut_kept c d others ≡ filter (between c d) (reread false ks)
    = ap (filter (cuts c)) (entries_are g.codes [] 0 false (within d others) at_start
    (within_fit g.codes d others fit'))
    ∙ ap (λ (l : List BodyItem). filter (cuts c) (entries_from 0 false (within d l))) p.items
    ∙ start_over c d a vals cs (written_items (a ∷ []) ks ++ closing_items ((a ∷ []) ++ ts) mark) l (omega arith)
    ∙ written_again h.codes c d a false (a ∷ []) ((a ∷ []) ++ ts) ks mark
    (subst (λ (n : ℕ). AreWritable h.codes n false ks) (start_behind a vals cs).1 parts.writable)
    (subst (λ (n : ℕ). Stand (a ∷ []) n false) (start_behind a vals cs).1 parts.stand)
    (cut_insides h.codes a q behind.fit) (cut_may a (entries_from 0 false q)) (omega arith) in
    let entries_there : cut_kept c d items ≡ filter (between c d) ks
    = ap (filter (cuts c)) (entries_are h.codes [] 0 false (within d items) at_start
    (within_fit h.codes d items fit))
    ∙ kept_between h.codes a b c d items fit (omega arith) k in
    let writable = subst (λ (n : ℕ). AreWritable h.codes n false ks) (start_behind a vals cs).1
    parts.writable in
    let kept_text : text_after (c ∷ []) (cut_kept c d others)
    ≡ text_after (c ∷ []) (cut_kept c d items)
    = ap (text_after (c ∷ [])) entries_here
    ∙ text_again h.codes c d a false (c ∷ []) ks writable
    ∙ ap (text_after (c ∷ [])) (sym entries_there) in
    let kept_times : times_of (cut_kept c d others) ≡ times_of (cut_kept c d items)
    = ap times_of entries_here ∙ times_again c d false ks ∙ ap times_of (sym entries_there) in
    let ended = same_end h.codes g.codes a b c d items others (times_of (cut_kept c d items)) fit fit'
    l m k (read_end limit name from to input o a b p fit (omega arith)) in
    cut_text_after_head read c d m again
    ∙ ap (λ x. x ++ cut_body g c d others) heads
    ∙ ap (λ x. head_for h [] ++ (x ++ (text_after (c ∷ []) (cut_kept c d others)
    ++ closing (c ∷ times_of (cut_kept c d others)) (cut_end c d others)))) started
    ∙ ap (λ x. head_for h [] ++ (start_section h c (within d items) ++ (x
    ++ closing (c ∷ times_of (cut_kept c d others)) (cut_end c d others)))) kept_text
    ∙ ap (λ x. head_for h [] ++ (start_section h c (within d items)
    ++ (text_after (c ∷ []) (cut_kept c d items) ++ closing (c ∷ x) (cut_end c d others)))) kept_times
    ∙ ap (λ x. head_for h [] ++ (start_section h c (within d items)
    ++ (text_after (c ∷ []) (cut_kept c d items) ++ x))) ended
    ∙ sym (cut_text_after_head o c d m good)

pub cut_twice : CutTwice
unfolding request_of
cut_twice limit name from to start stop input o a b c d job again can first last begins stops l k =
    let opens = can.opens in
    let p = cut_items limit name from to input o a b job can first last in
    let dump = p.dump in
    let read = dump.dump in
    let head = dump.head in
    let run = cut_run limit name from to input o job
    (opened_run (Want.Cut from to) limit name input o opens) can.clean in
    let bound : run.b ≡ b = same_ok (moment_ticks o.header.scale to false) run.b b run.last last in
    let text = written_by (Want.Cut from to) limit name input in
    let ends : (ends_cut b (items_in o) ≡ true) ⊎ (fault_in o ≡ None)
    = subst (λ (n : ℕ). (ends_cut n (items_in o) ≡ true) ⊎ (fault_in o ≡ None)) bound run.ends in
    let want = Want.Cut start stop in
    opened_run want limit name (input_of text) read dump.opens
    ∙ ap (λ scale. over (request_of scale want) read) head.scale
    ∙ by_request (cut_asks (has_unit (start ∷ stop ∷ [])) (moment_ticks o.header.scale start true)
    (moment_ticks o.header.scale stop false) c d begins stops) p dump.whole (earlier ends)
    ∙ sym (opened_run want limit name input o opens)
  where
    over : Result Request Refusal → Opened → Outcome
    over r q = elim r [
      | Err why ↦ refusal_outcome name why
      | Ok request ↦ over_dumps request
          (name ∷ []) (q ∷ [])
    ]

    earlier : (ends_cut b (items_in o) ≡ true) ⊎ (fault_in o ≡ None)
        → (ends_cut d (items_in o) ≡ true) ⊎ (fault_in o ≡ None)
    earlier (inl e) = inl (above_less b d (items_in o) k e)
    earlier (inr e) = inr e

    by_request : CutAsks (request_of o.header.scale (Want.Cut start stop)) c d
        → (p : CutItems limit name from to input o a b) → fault_in p.dump.dump ≡ None
        → (ends_cut d (items_in o) ≡ true) ⊎ (fault_in o ≡ None)
        → over (request_of o.header.scale (Want.Cut start stop)) p.dump.dump
        ≡ over (request_of o.header.scale (Want.Cut start stop)) o
    by_request (inl why) p whole ends =
        ap (λ r. over r p.dump.dump) why.1 ∙ ap (λ r. over r o) (sym why.1)
    by_request (inr asks) p whole ends =
        let order = requests_are_valid o.header.scale (Want.Cut start stop) (Request.Cut c d) again
        asks in
        ap (λ r. over r p.dump.dump) asks
        ∙ cut_over c d name p.dump.dump (inr whole)
        ∙ ap clean_outcome (text_twice limit name from to input o a b c d job can p l order k)
        ∙ sym (cut_over c d name o ends)
        ∙ ap (λ r. over r o) (sym asks)

-- ---- past the end

cut_ok : (units : Bool) (x y : Result ℕ ℕ) (c d : ℕ) → x ≡ Ok c → y ≡ Ok d → c ≤ d
    → cut_request units x y ≡ Ok (Request.Cut c d)
cut_ok units x y c d e f l =
    subst (λ (r : Result ℕ ℕ). cut_request units r y ≡ Ok (Request.Cut c d)) (sym e)
    (subst (λ (r : Result ℕ ℕ). cut_request units (Ok c) r ≡ Ok (Request.Cut c d)) (sym f)
    (rw (le-ltb d c l, and_right units false refl) refl))

-- a cut that continues past the end of all items is one to any time from their end on
past_text : (limit : ℕ) (input : Input) (k : Opened) (b c d : ℕ) → Opens limit input k
    → time_behind 0 (items_in k) ≤ b → c ≤ b → b ≤ d
    → cut_text k.header c d (items_in k) ≡ cut_text k.header c b (items_in k)
past_text limit input k b c d opens e l m =
    let h = k.header in
    let items = items_in k in
    let good = opens_good limit input k opens in
    let fit = opened_fit k good in
    let ends : (t : ℕ) → time_behind 0 items ≤ t → ends_cut t items ≡ false = λ t n.
    ends_is h.codes t 0 false items fit (omega arith) ∙ le-ltb t (time_behind 0 items) n in
    let body = λ (q : List BodyItem) (mark : Option ℕ). start_section h c q
    ++ (text_after (c ∷ []) (kept_by (λ e. nat_le c e.time) (entries q))
    ++ closing (c ∷ times_of (kept_by (λ e. nat_le c e.time) (entries q))) mark) in
    let whole : (t : ℕ) → time_behind 0 items ≤ t
    → cut_body h c t items ≡ body items (above c (last_mark items)) = λ t n.
    ap (λ x. body (within t items) (cut_mark c t x (last_mark (within t items)))) (ends t n)
    ∙ ap (λ (q : List BodyItem). body q (above c (last_mark q))) (all_within t items (ends t n)) in
    cut_text_after_head k c d (omega arith) good
    ∙ ap (λ x. head_for h [] ++ x) (whole d (omega arith) ∙ sym (whole b e))
    ∙ sym (cut_text_after_head k c b l good)

-- what was cut ends at its end
ends_by : (a b was n : ℕ) → a ≤ b → EndsAt a b was n → n ≤ b
ends_by a b was n l (inl e) = let s = e.1 in omega arith
ends_by a b was n l (inr (inl e)) = let s = e.1 in let t = e.0 in omega arith
ends_by a b was n l (inr (inr e)) = let s = e.1 in omega arith

pub cut_past_end : CutPastEnd
unfolding request_of
cut_past_end limit name from to start stop input o a b c d job can first last begins stops l m k =
    let opens = can.opens in
    let p = cut_items limit name from to input o a b job can first last in
    let dump = p.dump in
    let read = dump.dump in
    let head = dump.head in
    let scale = o.header.scale in
    let run = cut_run limit name from to input o job
    (opened_run (Want.Cut from to) limit name input o opens) can.clean in
    let bound : run.b ≡ b = same_ok (moment_ticks scale to false) run.b b run.last last in
    let text = written_by (Want.Cut from to) limit name input in
    let ends : (ends_cut b (items_in o) ≡ true) ⊎ (fault_in o ≡ None)
    = subst (λ (n : ℕ). (ends_cut n (items_in o) ≡ true) ⊎ (fault_in o ≡ None)) bound run.ends in
    let fit = opened_fit o (opens_good limit input o opens) in
    let end = read_end limit name from to input o a b p fit (omega arith) in
    let low = ends_by a b (time_behind 0 (items_in o)) (time_behind 0 (items_in read)) (omega arith)
    end in
    let want = Want.Cut start stop in
    let other = Want.Cut start to in
    let asks : request_of scale want ≡ Ok (Request.Cut c d)
    = cut_ok (has_unit (start ∷ stop ∷ [])) (moment_ticks scale start true)
    (moment_ticks scale stop false) c d begins stops (omega arith) in
    let asked : request_of scale other ≡ Ok (Request.Cut c b)
    = cut_ok (has_unit (start ∷ to ∷ [])) (moment_ticks scale start true)
    (moment_ticks scale to false) c b begins last m in
    opened_run want limit name (input_of text) read dump.opens
    ∙ ap (λ s. over (request_of s want) read) head.scale
    ∙ ap (λ r. over r read) asks
    ∙ cut_over c d name read (inr dump.whole)
    ∙ ap clean_outcome (past_text limit (input_of text) read b c d dump.opens low m k
    ∙ text_twice limit name from to input o a b c b job can p l m (omega arith))
    ∙ sym (cut_over c b name o ends)
    ∙ ap (λ r. over r o) (sym asked)
    ∙ sym (opened_run other limit name input o opens)
  where
    over : Result Request Refusal → Opened → Outcome
    over r q = elim r [
      | Err why ↦ refusal_outcome name why
      | Ok request ↦ over_dumps request
          (name ∷ []) (q ∷ [])
    ]
