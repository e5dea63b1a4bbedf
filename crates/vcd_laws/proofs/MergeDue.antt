-- What is due once something is known of the inputs of a merge, and the output of that merge.
use Rattle.vcd_laws.proofs.Cited.{◌≡◌, ◌≢◌, ℕ, ◌+◌, Bool, true, false, cond, ◌||◌, is_some, List, [], ◌∷◌, ◌++◌, map, filter, find, Option, Some, None, option_map, Result, Ok, Err, ◌⊎◌, inl, inr, refl, sym, ap, ◌∙◌, subst, AllByRecursion, cons_option, and_parts, filter-append, each_after, Header, header_of, header_grammar, renamed, Input, BodyItem, BodyPhrase, read_body, body_fault_of, Token, Stream, stream_of, Fault, Placed, phrases_of, Ending, reading_of, AtFault, AtEnd, AtLast, Want, outcome, Dump, Key, Keyed, KeyedFault, dump_of, placed_is_too_large, key_lt, key_after, keyed_after, by_key, factor, first_fault, headers_of, merged_items, items_before, merge_open, merge_close, keyed_own, keyed_rest, Outcome, Opened, name_at, merge_outcome, allowed_after, with_opened, dumps_of, Faulty, NotWhole, Whole, Seen, SeenBody, SeenHeaders, seen_before, tokens_seen, whole_of, header_ends, seen_at, headers_seen, fault_seen, dump_seen, is_at_its_end, is_past, are_past, bodies_settle, settles_merge, IsPrefixOf, IsSeen, AreSeen, dump_cut_off, due_by_headers, GivesNoMore, GiveNoMore, CanBeKnown, IsMore, AreMore, MergeDueGrows, MergeDueIsNeverRevised, MergeDueIsLeftAtHalts, MergeDueIsAllThatIsKnown, SettledMergeDueIsAll, mark_or, each_after-append, merge_grows, IsSorted, sorted_by_key, filter-by_key, key_trans, merged_by, GrownOne, AreGrown, late_none, sorted_begins, faults_rest, still_late, first_all, with_fault, without_fault}
use Rattle.std.proofs.Common.{append-nil, append_assoc}
use Rattle.vcd_model.specs.Job.{request_of}
use Rattle.vcd_model.specs.Outcome.{open_from, body_of}
use Rattle.vcd_model.specs.SettledMerge.{is_settled_merge}
use Rattle.vcd_laws.specs.Due.{due_of_merge}
use Rattle.vcd_laws.proofs.Settling.{opened_at, run_over, run_is, dump_in, dumps_in}
use Rattle.vcd_laws.proofs.SettlingMerge.{GoesOn, GoOn, outcome_stays, dump_with, dump_is, IsSoFar, IsRest, DumpOf, dump_seen_of, AllSoFar, ended_same, seen_headers, opened_headers, merge_known, opens_faulty, opens_missing, opens_whole, BothOpen, both_open}
use Rattle.vcd_laws.proofs.Unsettled.{two_ends}
use Rattle.vcd_laws.proofs.UnsettledMerge.{least, faults_of, none_reduced}
use Rattle.vcd_laws.proofs.DueText.{same_text, longer_text, fault_output, halted_fault}

-- ---- inputs that continue if they have a fault

-- a dump without a fault is the same; one with a fault may have more items, and any fault or none
record Grows (d d' : Dump) : Type 0 where
  header : d'.header ≡ d.header
  more : List BodyItem
  items : d'.items ≡ d.items ++ more
  ended : d.fault ≡ None → (more ≡ []) × (d'.fault ≡ None)

abbrev AllGrow : List Dump → List Dump → Type 0
AllGrow [] [] = Unit {0}
AllGrow [] (d' ∷ ds') = ⊥
AllGrow (d ∷ ds) [] = ⊥
AllGrow (d ∷ ds) (d' ∷ ds') = Grows d d' × AllGrow ds ds'

headers_grow : (ds ds' : List Dump) → AllGrow ds ds' → headers_of ds' ≡ headers_of ds
headers_grow [] [] g = refl
headers_grow [] (d' ∷ ds') g = absurd g
headers_grow (d ∷ ds) [] g = absurd g
headers_grow (d ∷ ds) (d' ∷ ds') g =
    let h = g.0.header in
    ap (λ (k : Header). k ∷ headers_of ds') h ∙ ap (λ (l : List Header). d.header ∷ l) (headers_grow ds ds' g.1)

same_dump : (d d' : Dump) → Grows d d' → d.fault ≡ None → d' ≡ d
same_dump d d' g none =
    let e = g.ended none in
    ap (λ (h : Header). record { header = h; items = d'.items; fault = d'.fault }) g.header
    ∙ ap (λ (l : List BodyItem). record { header = d.header; items = l; fault = d'.fault }) (g.items ∙ ap (λ (l : List BodyItem). d.items ++ l) e.0 ∙ append-nil d.items)
    ∙ ap (λ (o : Option Fault). record { header = d.header; items = d.items; fault = o }) (e.1 ∙ sym none)

-- a fault with its key before others
abbrev with_key : Key → Option Fault → List KeyedFault → List KeyedFault
with_key k o gs = cons_option (option_map (λ f. record { key = k; fault = f }) o) gs

no_fault : (k : Key) (o : Option Fault) (gs : List KeyedFault) → with_key k o gs ≡ [] → (o ≡ None) × (gs ≡ [])
no_fault k None gs e = (refl, e)
no_fault k (Some x) gs e = cc

all_same : (hs : List Header) (n : ℕ) (ds ds' : List Dump) → AllGrow ds ds' → faults_rest hs n ds ≡ [] → ds' ≡ ds
all_same hs n [] [] g e = refl
all_same hs n [] (d' ∷ ds') g e = absurd g
all_same hs n (d ∷ ds) [] g e = absurd g
all_same hs n (d ∷ ds) (d' ∷ ds') g e =
    let parts = no_fault (key_after (factor hs d.header) n d.items) d.fault (faults_rest hs (n + 1) ds) e in
    ap (λ (c : Dump). c ∷ ds') (same_dump d d' g.0 parts.0)
    ∙ ap (λ (l : List Dump). d ∷ l) (all_same hs (n + 1) ds ds' g.1 parts.1)

-- no fault of these inputs is before this key
abbrev NoneBefore : Key → List Header → ℕ → List Dump → Type 0
NoneBefore b hs n ds = AllByRecursion (λ y. key_lt y.key b ≡ false) (faults_rest hs n ds)

-- so none of the grown inputs is, and what they have more is not before it either
grow_late : (b : Key) (hs : List Header) (n : ℕ) (ds ds' : List Dump) → AllGrow ds ds' → NoneBefore b hs n ds
    → AreGrown b hs n ds ds' × NoneBefore b hs n ds'
grow_late b hs n [] [] g low = (tt, tt)
grow_late b hs n [] (d' ∷ ds') g low = absurd g
grow_late b hs n (d ∷ ds) [] g low = absurd g
grow_late b hs n (d ∷ ds) (d' ∷ ds') g low = by_fault d.fault refl low (grow_late b hs (n + 1) ds ds' g.1)
  where
    one : Grows d d'
    one = g.0

    here : (o : Option Fault) → key_lt (key_after (factor hs d'.header) n d'.items) b ≡ false → NoneBefore b hs (n + 1) ds'
        → AllByRecursion (λ y. key_lt y.key b ≡ false) (with_key (key_after (factor hs d'.header) n d'.items) o (faults_rest hs (n + 1) ds'))
    here None late more = more
    here (Some x) late more = (late, more)

    by_fault : (o : Option Fault) → d.fault ≡ o
        → AllByRecursion (λ y. key_lt y.key b ≡ false) (with_key (key_after (factor hs d.header) n d.items) o (faults_rest hs (n + 1) ds))
        → (NoneBefore b hs (n + 1) ds → AreGrown b hs (n + 1) ds ds' × NoneBefore b hs (n + 1) ds')
        → AreGrown b hs n (d ∷ ds) (d' ∷ ds') × NoneBefore b hs n (d' ∷ ds')
    by_fault None e low others =
        let more = others low in
        let ended = one.ended e in (
          (record { header = one.header; more = one.more; items = one.items; late = inl ended.0 }, more.0),
          subst (λ (o : Option Fault). AllByRecursion (λ y. key_lt y.key b ≡ false) (with_key (key_after (factor hs d'.header) n d'.items) o (faults_rest hs (n + 1) ds'))) (sym ended.1) more.1,
        )
    by_fault (Some x) e low others =
        let more = others low.1 in
        let late : key_lt (key_after (factor hs d'.header) n d'.items) b ≡ false =
        ap (λ (h : Header). key_lt (key_after (factor hs h) n d'.items) b) one.header
        ∙ ap (λ (l : List BodyItem). key_lt (key_after (factor hs d.header) n l) b) one.items
        ∙ still_late b (factor hs d.header) n d.items one.more low.0 in (
          (record { header = one.header; more = one.more; items = one.items; late = inr low.0 }, more.0),
          here d'.fault late more.1,
        )

-- ---- what is before a key stays

own_stays : (b : Key) (hs : List Header) (n : ℕ) (es : List Header) (d d' : Dump) → GrownOne b hs n d d'
    → filter (λ y. key_lt y.key b) (keyed_own hs n es d') ≡ filter (λ y. key_lt y.key b) (keyed_own hs n es d)
own_stays b hs n es d d' g =
    let test = λ (y : Keyed). key_lt y.key b in
    let from = λ (h : Header) (before items : List BodyItem). each_after (keyed_after (factor hs h) n (renamed es h)) before items in
    ap (λ (h : Header). filter test (from h [] d'.items)) g.header
    ∙ ap (λ (l : List BodyItem). filter test (from d.header [] l)) g.items
    ∙ ap (filter test) (each_after-append (keyed_after (factor hs d.header) n (renamed es d.header)) [] d.items g.more)
    ∙ filter-append test (from d.header [] d.items) (from d.header d.items g.more)
    ∙ ap (λ l. filter test (from d.header [] d.items) ++ l) (by_late g.late)
    ∙ append-nil (filter test (from d.header [] d.items))
  where
    by_late : (g.more ≡ []) ⊎ (key_lt (key_after (factor hs d.header) n d.items) b ≡ false)
        → filter (λ y. key_lt y.key b) (each_after (keyed_after (factor hs d.header) n (renamed es d.header)) d.items g.more) ≡ []
    by_late (inl e) = ap (λ l. filter (λ y. key_lt y.key b) (each_after (keyed_after (factor hs d.header) n (renamed es d.header)) d.items l)) e
    by_late (inr e) = late_none b hs n es d.header d.items g.more e

rest_stays : (b : Key) (hs : List Header) (n : ℕ) (es : List Header) (ds ds' : List Dump) → AreGrown b hs n ds ds'
    → filter (λ y. key_lt y.key b) (keyed_rest hs n es ds') ≡ filter (λ y. key_lt y.key b) (keyed_rest hs n es ds)
rest_stays b hs n es [] [] g = refl
rest_stays b hs n es [] (d' ∷ ds') g = absurd g
rest_stays b hs n es (d ∷ ds) [] g = absurd g
rest_stays b hs n es (d ∷ ds) (d' ∷ ds') g =
    let test = λ (y : Keyed). key_lt y.key b in
    filter-append test (keyed_own hs n es d') (keyed_rest hs (n + 1) (es ++ d'.header ∷ []) ds')
    ∙ ap (λ l. l ++ filter test (keyed_rest hs (n + 1) (es ++ d'.header ∷ []) ds')) (own_stays b hs n es d d' g.0)
    ∙ ap (λ (h : Header). filter test (keyed_own hs n es d) ++ filter test (keyed_rest hs (n + 1) (es ++ h ∷ []) ds')) g.0.header
    ∙ ap (λ l. filter test (keyed_own hs n es d) ++ l) (rest_stays b hs (n + 1) (es ++ d.header ∷ []) ds ds' g.1)
    ∙ sym (filter-append test (keyed_own hs n es d) (keyed_rest hs (n + 1) (es ++ d.header ∷ []) ds))

-- ---- the text of a merge

-- what is before a key is also before one that is not before it
both_before : (b c : Key) (ks : List Keyed) → key_lt c b ≡ false
    → filter (λ y. key_lt y.key b) (filter (λ y. key_lt y.key c) ks) ≡ filter (λ y. key_lt y.key b) ks
both_before b c [] h = refl
both_before b c (k ∷ ks) h = by_key_of (key_lt k.key b) refl (key_lt k.key c) refl (both_before b c ks h)
  where
    by_key_of : (x : Bool) → key_lt k.key b ≡ x → (y : Bool) → key_lt k.key c ≡ y
        → filter (λ y. key_lt y.key b) (filter (λ y. key_lt y.key c) ks) ≡ filter (λ y. key_lt y.key b) ks
        → filter (λ y. key_lt y.key b) (cond y (k ∷ filter (λ y. key_lt y.key c) ks) (filter (λ y. key_lt y.key c) ks)) ≡ cond x
        (k ∷ filter (λ y. key_lt y.key b) ks) (filter (λ y. key_lt y.key b) ks)
    by_key_of true e true f more = rw e (ap (λ l. k ∷ l) more)
    by_key_of true e false f more = let g = key_trans k.key b c e h in cc
    by_key_of false e true f more = rw e more
    by_key_of false e false f more = more

-- a sorted list has what is before a key first
open_before : (hs : List Header) (b : Key) (ks : List Keyed) → IsSorted ks
    → IsPrefixOf (merge_open hs (filter (λ y. key_lt y.key b) ks)) (merge_open hs ks)
open_before hs b ks sorted =
    let s = sorted_begins b ks sorted in
    subst (λ (l : List Keyed). IsPrefixOf (merge_open hs (filter (λ y. key_lt y.key b) ks)) (merge_open hs l)) (sym s.1)
    (merge_grows hs (filter (λ y. key_lt y.key b) ks) s.0)

merged_sorted : (ds : List Dump) (b : Key) → IsSorted (merged_items ds) × IsSorted (filter (λ y. key_lt y.key b) (merged_items ds))
merged_sorted ds b =
    let hs = headers_of ds in
    let l = keyed_rest hs 0 [] ds in
    let e = merged_by hs ds refl in (
      subst IsSorted (sym e) (sorted_by_key l),
      subst IsSorted (sym (ap (filter (λ y. key_lt y.key b)) e ∙ filter-by_key (λ y. key_lt y.key b) l)) (sorted_by_key (filter (λ y. key_lt y.key b) l)),
    )

-- the output, with a fault and without one
fault_text : (names : List (List ℕ)) (ds : List Dump) (f : KeyedFault) → first_fault ds ≡ Some f
    → (merge_outcome names ds).output ≡ merge_open (headers_of ds) (items_before f (merged_items ds))
fault_text names ds f e =
    ap (λ (o : Outcome). o.output) (with_fault names ds f e) ∙ fault_output _ _ f.fault

whole_text : (names : List (List ℕ)) (ds : List Dump) → first_fault ds ≡ None
    → (merge_outcome names ds).output ≡ merge_open (headers_of ds) (merged_items ds) ++ merge_close (merged_items ds)
whole_text names ds e = ap (λ (o : Outcome). o.output) (without_fault names ds e)

-- names are not on the output
name_free : (names others : List (List ℕ)) (ds : List Dump) → (merge_outcome names ds).output ≡ (merge_outcome others ds).output
name_free names others ds = by_first (first_fault ds) refl
  where
    by_first : (o : Option KeyedFault) → first_fault ds ≡ o → (merge_outcome names ds).output ≡ (merge_outcome others ds).output
    by_first None e = whole_text names ds e ∙ sym (whole_text others ds e)
    by_first (Some f) e = fault_text names ds f e ∙ sym (fault_text others ds f e)

-- if inputs continue, so does the output
text_grows : (names others : List (List ℕ)) (ds ds' : List Dump) → AllGrow ds ds'
    → IsPrefixOf (merge_outcome names ds).output (merge_outcome others ds').output
text_grows names others ds ds' g = by_first (first_fault ds) refl
  where
    headers : headers_of ds' ≡ headers_of ds
    headers = headers_grow ds ds' g

    by_other : (f : KeyedFault) → NoneBefore f.key (headers_of ds) 0 ds'
        → (o : Option KeyedFault) → first_fault ds' ≡ o
        → IsPrefixOf (merge_open (headers_of ds) (items_before f (merged_items ds'))) (merge_outcome others ds').output
    by_other f low None e =
        let hs = headers_of ds in
        let text : (merge_outcome others ds').output ≡ merge_open hs (merged_items ds') ++ merge_close (merged_items ds') =
        whole_text others ds' e ∙ ap (λ (h : List Header). merge_open h (merged_items ds') ++ merge_close (merged_items ds')) headers in
        longer_text _ _ _ (open_before hs f.key (merged_items ds') (merged_sorted ds' f.key).0) (merge_close (merged_items ds'), text)
    by_other f low (Some x) e =
        let hs = headers_of ds in
        let ks = merged_items ds' in
        let text : (merge_outcome others ds').output ≡ merge_open hs (items_before x ks) =
        fault_text others ds' x e ∙ ap (λ (h : List Header). merge_open h (items_before x ks)) headers in
        let after : key_lt x.key f.key ≡ false =
        first_all (λ y. key_lt y.key f.key ≡ false) (faults_rest hs 0 ds') x (sym (faults_of hs ds' headers) ∙ e) low in
        let begins = open_before hs f.key (items_before x ks) (merged_sorted ds' x.key).1 in
        subst (λ (l : List ℕ). IsPrefixOf (merge_open hs (items_before f ks)) l) (sym text)
        (subst (λ (l : List Keyed). IsPrefixOf (merge_open hs l) (merge_open hs (items_before x ks))) (both_before f.key x.key ks after) begins)

    by_first : (o : Option KeyedFault) → first_fault ds ≡ o
        → IsPrefixOf (merge_outcome names ds).output (merge_outcome others ds').output
    by_first None e =
        let hs = headers_of ds in
        let same = all_same hs 0 ds ds' g (none_reduced (faults_rest hs 0 ds) (sym (faults_of hs ds refl) ∙ e)) in
        same_text _ _ (ap (λ (l : List Dump). (merge_outcome others l).output) same ∙ name_free others names ds)
    by_first (Some f) e =
        let hs = headers_of ds in
        let low = least (faults_rest hs 0 ds) f (sym (faults_of hs ds refl) ∙ e) in
        let late = grow_late f.key hs 0 ds ds' g low in
        let test = λ (y : Keyed). key_lt y.key f.key in
        let same : items_before f (merged_items ds') ≡ items_before f (merged_items ds) =
        ap (filter test) (merged_by hs ds' headers) ∙ filter-by_key test (keyed_rest hs 0 [] ds')
        ∙ ap by_key (rest_stays f.key hs 0 [] ds ds' late.0)
        ∙ sym (ap (filter test) (merged_by hs ds refl) ∙ filter-by_key test (keyed_rest hs 0 [] ds)) in
        subst (λ (l : List ℕ). IsPrefixOf l (merge_outcome others ds').output)
        (ap (merge_open hs) same ∙ sym (fault_text names ds f e))
        (by_other f late.1 (first_fault ds') refl)

-- ---- an input as far as it is known

abbrev failed_there : Dump → Dump
failed_there d = record { header = d.header; items = d.items; fault = Some (record { number = 31; line = 1 }) }

-- the dump of an input of which this is known
left_grows : (hs : List Header) (s : SeenBody) (o : Opened) → IsSoFar s o → Grows (dump_cut_off hs s) (dump_in hs o)
left_grows hs s o is = by_end (is_at_its_end s (dump_seen hs s)) refl (dump_in hs o) (dump_seen_of hs s o is)
  where
    by_end : (b : Bool) → is_at_its_end s (dump_seen hs s) ≡ b → (d' : Dump) → DumpOf hs s d'
        → Grows (cond b (dump_seen hs s) (failed_there (dump_seen hs s))) d'
    by_end true e d' is =
        let same = ended_same hs s d' e is in record {
          header = ap (λ (d : Dump). d.header) same;
          more = [];
          items = ap (λ (d : Dump). d.items) same ∙ sym (append-nil (dump_seen hs s).items);
          ended = λ none. (refl, ap (λ (d : Dump). d.fault) same ∙ none);
        }
    by_end false e d' (inl same) = record {
      header = ap (λ (d : Dump). d.header) same;
      more = [];
      items = ap (λ (d : Dump). d.items) same ∙ sym (append-nil (dump_seen hs s).items);
      ended = λ none. cc;
    }
    by_end false e d' (inr h) = record { header = h.1; more = h.3.0; items = h.3.1; ended = λ none. cc }

all_left_grow : (hs : List Header) (ss : List SeenBody) (os : List Opened) → AllSoFar ss os
    → AllGrow (map (dump_cut_off hs) ss) (map (dump_in hs) os)
all_left_grow hs [] [] all = tt
all_left_grow hs [] (o ∷ os) all = absurd all
all_left_grow hs (s ∷ ss) [] all = absurd all
all_left_grow hs (s ∷ ss) (o ∷ os) all = (left_grows hs s o all.0, all_left_grow hs ss os all.1)

-- the dumps of opened inputs of which this is known
known_dumps : (ss : List SeenBody) (os : List Opened) → AllSoFar ss os
    → dumps_of os ≡ map (dump_in (map (λ s. s.header) ss)) os
known_dumps ss os all = dumps_in os ∙ ap (λ (l : List Header). map (dump_in l) os) (opened_headers ss os all)

nothing_due : (text : List ℕ) → IsPrefixOf [] text
nothing_due text = (text, refl)

pub merge_due_is_never_revised : MergeDueIsNeverRevised
unfolding due_of_merge request_of
merge_due_is_never_revised limit names seen inputs are =
    subst (λ (d : Outcome). IsPrefixOf (due_of_merge seen) d.output) (sym (run_is Want.Merge limit names inputs))
    (by_headers (headers_seen [] seen) (both_open limit [] seen inputs inputs are are))
  where
    by_headers : (k : SeenHeaders) → BothOpen limit [] inputs inputs k
        → IsPrefixOf (due_by_headers k) (run_over Want.Merge names (open_from limit [] inputs)).output
    by_headers Faulty both = nothing_due _
    by_headers NotWhole both = nothing_due _
    by_headers (Whole ss) (os, ps, p, q, ao, bo) =
        let hs = map (λ (s : SeenBody). s.header) ss in
        subst (λ (r : Result (List Opened) (ℕ × Fault)). IsPrefixOf (due_by_headers (Whole ss)) (run_over Want.Merge names r).output) (sym p)
        (subst (λ (ds : List Dump). IsPrefixOf (due_by_headers (Whole ss)) (merge_outcome names ds).output) (sym (known_dumps ss os ao))
        (text_grows [] names (map (dump_cut_off hs) ss) (map (dump_in hs) os) (all_left_grow hs ss os ao)))

-- ---- inputs that are halted

-- after what is known the source is halted
abbrev Halts : Option Stream → Opened → Type 0
Halts None o = o.stream.halt ≢ None
Halts (Some stream) o = o.stream ≡ stream

record IsLeftBody (s : SeenBody) (o : Opened) : Type 0 where
  header : o.header ≡ s.header
  rest : o.rest ≡ s.rest
  halt : Halts s.whole o

is_so_far : (s : SeenBody) (o : Opened) → IsLeftBody s o → IsSoFar s o
is_so_far s o is = record { header = is.header; rest = by_whole s.whole is.halt }
  where
    by_whole : (w : Option Stream) → Halts w o → IsRest w s.rest o
    by_whole None h = same_text s.rest o.rest is.rest
    by_whole (Some stream) h = (is.rest, h)

marked_fault : (own : Option Fault) (o : Option (Placed BodyPhrase)) → own ≢ None → mark_or own o ≢ None
marked_fault own None h e = h e
marked_fault own (Some p) h e = cc

grows_left : (hs : List Header) (s : SeenBody) (o : Opened) → IsLeftBody s o → Grows (dump_in hs o) (dump_cut_off hs s)
unfolding body_of
grows_left hs s o is = by_whole s.whole refl is.halt
  where
    parts : (b : Bool) (d : Dump) → ((cond b d (failed_there d)).header ≡ d.header) × ((cond b d (failed_there d)).items ≡ d.items)
    parts true d = (refl, refl)
    parts false d = (refl, refl)

    there : dump_in hs o ≡ dump_with (factor hs s.header) s.header (body_fault_of o.stream (read_body s.header.codes s.rest)) (read_body s.header.codes s.rest).placed
    there =
        let r = read_body s.header.codes s.rest in
        ap (λ (k : Header). dump_in hs (opened_at k o.stream o.rest)) is.header
        ∙ ap (λ (l : List Token). dump_in hs (opened_at s.header o.stream l)) is.rest
        ∙ dump_is (factor hs s.header) s.header (body_fault_of o.stream r) r

    here : (w : Option Stream) → s.whole ≡ w
        → dump_seen hs s ≡ dump_with (factor hs s.header) s.header (fault_seen w (read_body s.header.codes s.rest)) (read_body s.header.codes s.rest).placed
    here w e =
        let r = read_body s.header.codes s.rest in
        ap (λ (x : Option Stream). dump_of (factor hs s.header) s.header (fault_seen x r) r) e
        ∙ dump_is (factor hs s.header) s.header (fault_seen w r) r

    by_whole : (w : Option Stream) → s.whole ≡ w → Halts w o → Grows (dump_in hs o) (dump_cut_off hs s)
    by_whole None e halted =
        let r = read_body s.header.codes s.rest in
        let p = parts (is_at_its_end s (dump_seen hs s)) (dump_seen hs s) in record {
          header = p.0 ∙ ap (λ (d : Dump). d.header) (here None e) ∙ sym (ap (λ (d : Dump). d.header) there);
          more = [];
          items = p.1 ∙ ap (λ (d : Dump). d.items) (here None e) ∙ sym (ap (λ (d : Dump). d.items) there) ∙ sym (append-nil (dump_in hs o).items);
          ended = λ none. absurd (marked_fault (body_fault_of o.stream r) (find (placed_is_too_large (factor hs s.header)) r.placed)
              (halted_fault o.stream s.header.codes s.rest halted) (sym (ap (λ (d : Dump). d.fault) there) ∙ none));
        }
    by_whole (Some stream) e same =
        let r = read_body s.header.codes s.rest in
        let known : dump_seen hs s ≡ dump_in hs o =
        here (Some stream) e ∙ ap (λ (u : Stream). dump_with (factor hs s.header) s.header (body_fault_of u r) r.placed) (sym same) ∙ sym there in
        let left : dump_cut_off hs s ≡ dump_seen hs s =
        ap (λ (w : Option Stream). cond (is_some w || is_some (dump_seen hs s).fault) (dump_seen hs s) (failed_there (dump_seen hs s))) e in
        let all = left ∙ known in record {
          header = ap (λ (d : Dump). d.header) all;
          more = [];
          items = ap (λ (d : Dump). d.items) all ∙ sym (append-nil (dump_in hs o).items);
          ended = λ none. (refl, ap (λ (d : Dump). d.fault) all ∙ none);
        }

abbrev AllLeft : List SeenBody → List Opened → Type 0
AllLeft [] [] = Unit {0}
AllLeft [] (o ∷ os) = ⊥
AllLeft (s ∷ ss) [] = ⊥
AllLeft (s ∷ ss) (o ∷ os) = IsLeftBody s o × AllLeft ss os

all_grow_left : (hs : List Header) (ss : List SeenBody) (os : List Opened) → AllLeft ss os
    → AllGrow (map (dump_in hs) os) (map (dump_cut_off hs) ss)
all_grow_left hs [] [] all = tt
all_grow_left hs [] (o ∷ os) all = absurd all
all_grow_left hs (s ∷ ss) [] all = absurd all
all_grow_left hs (s ∷ ss) (o ∷ os) all = (grows_left hs s o all.0, all_grow_left hs ss os all.1)

all_so_far : (ss : List SeenBody) (os : List Opened) → AllLeft ss os → AllSoFar ss os
all_so_far [] [] all = tt
all_so_far [] (o ∷ os) all = absurd all
all_so_far (s ∷ ss) [] all = absurd all
all_so_far (s ∷ ss) (o ∷ os) all = (is_so_far s o all.0, all_so_far ss os all.1)

-- ---- headers of inputs that are halted

-- a header that is not whole is a fault
abbrev OpenLeft : ℕ → List Header → List Input → SeenHeaders → Type 0
OpenLeft limit hs is Faulty = (e : ℕ × Fault) × (open_from limit hs is ≡ Err e)
OpenLeft limit hs is NotWhole = (e : ℕ × Fault) × (open_from limit hs is ≡ Err e)
OpenLeft limit hs is (Whole ss) = (os : List Opened) × (open_from limit hs is ≡ Ok os) × AllLeft ss os

left_seen : (limit : ℕ) (s : Seen) (i : Input) → GivesNoMore limit s i → IsSeen limit s i
left_seen limit (Seen.First ts) i (e, halted) = same_text ts (stream_of limit i).tokens e
left_seen limit (Seen.All stream) i e = e

all_left_seen : (limit : ℕ) (ss : List Seen) (is : List Input) → GiveNoMore limit ss is → AreSeen limit ss is
all_left_seen limit [] [] all = tt
all_left_seen limit [] (i ∷ is) all = absurd all
all_left_seen limit (s ∷ ss) [] all = absurd all
all_left_seen limit (s ∷ ss) (i ∷ is) all = (left_seen limit s i all.0, all_left_seen limit ss is all.1)

-- all that its source gives is known of such an input
left_stream : (limit : ℕ) (s : Seen) (i : Input) → GivesNoMore limit s i → (stream_of limit i).tokens ≡ tokens_seen s
left_stream limit (Seen.First ts) i (e, halted) = e
left_stream limit (Seen.All stream) i e = ap (λ (u : Stream). u.tokens) e

-- one input whose header is whole
one_left : (limit : ℕ) (hs : List Header) (s : Seen) (i : Input) (is : List Input) → GivesNoMore limit s i
    → (reading_of (header_grammar (allowed_after hs)) (tokens_seen s)).ending ≡ AtLast
    → (o : Opened) × IsLeftBody (record {
      header = header_of (phrases_of (reading_of (header_grammar (allowed_after hs)) (tokens_seen s)).placed);
      rest = (reading_of (header_grammar (allowed_after hs)) (tokens_seen s)).rest;
      whole = whole_of s;
    }) o
    × (open_from limit hs (i ∷ is) ≡ with_opened o (open_from limit (hs ++ header_of (phrases_of (reading_of (header_grammar (allowed_after hs)) (tokens_seen s)).placed) ∷ []) is))
one_left limit hs (Seen.First ts) i is (e, halted) ending =
    let read = λ (l : List Token). reading_of (header_grammar (allowed_after hs)) l in
    let o = opens_whole limit hs (Seen.All (stream_of limit i)) i is refl (ap (λ (l : List Token). (read l).ending) e ∙ ending) in
    let known = o.1 in
    let rest = known.rest in (
      o.0,
      record {
        header = known.header ∙ ap (λ (l : List Token). header_of (phrases_of (read l).placed)) e;
        rest = rest.0 ∙ ap (λ (l : List Token). (read l).rest) e;
        halt = λ none. halted (sym (ap (λ (u : Stream). u.halt) rest.1) ∙ none);
      },
      o.2 ∙ ap (λ (l : List Token). with_opened o.0 (open_from limit (hs ++ header_of (phrases_of (read l).placed) ∷ []) is)) e,
    )
one_left limit hs (Seen.All stream) i is e ending =
    let o = opens_whole limit hs (Seen.All stream) i is e ending in
    let known = o.1 in
    let rest = known.rest in
    (o.0, record { header = known.header; rest = rest.0; halt = rest.1 }, o.2)

opens_left : (limit : ℕ) (hs : List Header) (ss : List Seen) (is : List Input) → GiveNoMore limit ss is
    → OpenLeft limit hs is (headers_seen hs ss)
unfolding open_from
opens_left limit hs [] [] all = ([], refl, tt)
opens_left limit hs [] (i ∷ is) all = absurd all
opens_left limit hs (s ∷ ss) [] all = absurd all
opens_left limit hs (s ∷ ss) (i ∷ is) all =
    let r = reading_of (header_grammar (allowed_after hs)) (tokens_seen s) in
    let h = header_of (phrases_of r.placed) in
    by_ending r.ending refl (headers_seen (hs ++ h ∷ []) ss) (opens_left limit (hs ++ h ∷ []) ss is all.1)
  where
    by_others : (o : Opened) (one : SeenBody) (h : Header) → IsLeftBody one o
        → open_from limit hs (i ∷ is) ≡ with_opened o (open_from limit (hs ++ h ∷ []) is)
        → (others : SeenHeaders) → OpenLeft limit (hs ++ h ∷ []) is others → OpenLeft limit hs (i ∷ is) (seen_before one others)
    by_others o one h left eo Faulty (e, x) = (e, eo ∙ ap (with_opened o) x)
    by_others o one h left eo NotWhole (e, x) = (e, eo ∙ ap (with_opened o) x)
    by_others o one h left eo (Whole qs) (os, x, y) = (o ∷ os, eo ∙ ap (with_opened o) x, (left, y))

    ended : (w : Option Stream) → (e : ℕ × Fault) × (open_from limit hs (i ∷ is) ≡ Err e) → OpenLeft limit hs (i ∷ is) (header_ends w)
    ended None x = x
    ended (Some stream) x = x

    by_ending : (x : Ending) → (reading_of (header_grammar (allowed_after hs)) (tokens_seen s)).ending ≡ x
        → (others : SeenHeaders)
        → OpenLeft limit (hs ++ header_of (phrases_of (reading_of (header_grammar (allowed_after hs)) (tokens_seen s)).placed) ∷ []) is others
        → OpenLeft limit hs (i ∷ is) (seen_at s (reading_of (header_grammar (allowed_after hs)) (tokens_seen s)) x others)
    by_ending (AtFault f) e others so =
        (_, opens_faulty limit hs s i is f (left_seen limit s i all.0) e)
    by_ending AtEnd e others so =
        let same = left_stream limit s i all.0 in
        ended (whole_of s) (
          _,
          opens_missing limit hs (stream_of limit i) i is refl
              (ap (λ (l : List Token). (reading_of (header_grammar (allowed_after hs)) l).ending) same ∙ e),
        )
    by_ending AtLast e others so =
        let o = one_left limit hs s i is all.0 e in
        by_others o.0 _ _ o.1 o.2 others so

-- ---- the other laws

-- texts that begin each other are the same
same_both : (xs ys : List ℕ) → IsPrefixOf xs ys → IsPrefixOf ys xs → xs ≡ ys
same_both xs ys a b = by_rest a.0 b.0 (b.1 ∙ ap (λ l. l ++ b.0) a.1 ∙ append_assoc xs a.0 b.0) a.1
  where
    none_more : (zs rest : List ℕ) → zs ≡ zs ++ rest → rest ≡ []
    none_more [] rest e = sym e
    none_more (z ∷ zs) rest e = let t : zs ≡ zs ++ rest = cc in none_more zs rest t

    none_first : (p q : List ℕ) → p ++ q ≡ [] → p ≡ []
    none_first [] q e = refl
    none_first (z ∷ p) q e = cc

    by_rest : (p q : List ℕ) → xs ≡ xs ++ (p ++ q) → ys ≡ xs ++ p → xs ≡ ys
    by_rest p q e f = sym (f ∙ ap (λ l. xs ++ l) (none_first p q (none_more xs (p ++ q) e)) ∙ append-nil xs)

pub merge_due_is_left_at_halts : MergeDueIsLeftAtHalts
unfolding due_of_merge request_of
merge_due_is_left_at_halts limit names seen inputs left =
    same_both _ _
    (subst (λ (d : Outcome). IsPrefixOf d.output (due_of_merge seen)) (sym (run_is Want.Merge limit names inputs))
    (by_headers (headers_seen [] seen) (opens_left limit [] seen inputs left)))
    (merge_due_is_never_revised limit names seen inputs (all_left_seen limit seen inputs left))
  where
    no_output : (e : ℕ × Fault) (text : List ℕ) → open_from limit [] inputs ≡ Err e
        → IsPrefixOf (run_over Want.Merge names (open_from limit [] inputs)).output text
    no_output e text same =
        subst (λ (l : List ℕ). IsPrefixOf l text)
        (sym (ap (λ (r : Result (List Opened) (ℕ × Fault)). (run_over Want.Merge names r).output) same ∙ fault_output [] (name_at names e.0) e.1))
        (nothing_due text)

    by_headers : (k : SeenHeaders) → OpenLeft limit [] inputs k
        → IsPrefixOf (run_over Want.Merge names (open_from limit [] inputs)).output (due_by_headers k)
    by_headers Faulty (e, same) = no_output e _ same
    by_headers NotWhole (e, same) = no_output e _ same
    by_headers (Whole ss) (os, p, all) =
        let hs = map (λ (s : SeenBody). s.header) ss in
        subst (λ (r : Result (List Opened) (ℕ × Fault)). IsPrefixOf (run_over Want.Merge names r).output (due_by_headers (Whole ss))) (sym p)
        (subst (λ (ds : List Dump). IsPrefixOf (merge_outcome names ds).output (due_by_headers (Whole ss))) (sym (known_dumps ss os (all_so_far ss os all)))
        (text_grows names [] (map (dump_in hs) os) (map (dump_cut_off hs) ss) (all_grow_left hs ss os all)))

-- inputs of which no more than this comes
some_left : (limit : ℕ) (ss : List Seen) → AllByRecursion (CanBeKnown limit) ss → (is : List Input) × GiveNoMore limit ss is
some_left limit [] can = ([], tt)
some_left limit (Seen.First ts ∷ ss) ((f, short, e), can) =
    let two = two_ends limit f short in
    let more = some_left limit ss can in (
      two.failed ∷ more.0,
      (
        (
          ap (λ (u : Stream). u.tokens) two.fails ∙ sym e,
          λ none. let some = sym (ap (λ (u : Stream). u.halt) two.fails) ∙ none in cc,
        ),
        more.1,
      ),
    )
some_left limit (Seen.All stream ∷ ss) ((i, e), can) =
    let more = some_left limit ss can in (i ∷ more.0, (e, more.1))

pub merge_due_is_all_that_is_known : MergeDueIsAllThatIsKnown
merge_due_is_all_that_is_known limit names seen text can = (to, back)
  where
    to : ((inputs : List Input) → AreSeen limit seen inputs → IsPrefixOf text (outcome Want.Merge limit names inputs).output)
        → IsPrefixOf text (due_of_merge seen)
    to known =
        let left = some_left limit seen can in
        subst (λ (l : List ℕ). IsPrefixOf text l) (merge_due_is_left_at_halts limit names seen left.0 left.1)
        (known left.0 (all_left_seen limit seen left.0 left.1))

    back : IsPrefixOf text (due_of_merge seen) → (inputs : List Input) → AreSeen limit seen inputs
        → IsPrefixOf text (outcome Want.Merge limit names inputs).output
    back begins inputs are = longer_text _ _ _ begins (merge_due_is_never_revised limit names seen inputs are)

less_seen : (limit : ℕ) (s m : Seen) (i : Input) → IsMore s m → IsSeen limit m i → IsSeen limit s i
less_seen limit (Seen.First ts) (Seen.First us) i more is = longer_text ts us (stream_of limit i).tokens more is
less_seen limit (Seen.First ts) (Seen.All stream) i more is =
    subst (λ (u : Stream). IsPrefixOf ts u.tokens) (sym is) more
less_seen limit (Seen.All stream) (Seen.First us) i more is = absurd more
less_seen limit (Seen.All stream) (Seen.All other) i more is = is ∙ more

all_less_seen : (limit : ℕ) (ss ms : List Seen) (is : List Input) → AreMore ss ms → AreSeen limit ms is → AreSeen limit ss is
all_less_seen limit [] [] [] more are = tt
all_less_seen limit [] [] (i ∷ is) more are = absurd are
all_less_seen limit [] (m ∷ ms) is more are = absurd more
all_less_seen limit (s ∷ ss) [] is more are = absurd more
all_less_seen limit (s ∷ ss) (m ∷ ms) [] more are = absurd are
all_less_seen limit (s ∷ ss) (m ∷ ms) (i ∷ is) more are =
    (less_seen limit s m i more.0 are.0, all_less_seen limit ss ms is more.1 are.1)

pub merge_due_grows : MergeDueGrows
merge_due_grows limit seen more can are =
    (merge_due_is_all_that_is_known limit [] more (due_of_merge seen) can).0
    (λ inputs known. merge_due_is_never_revised limit [] seen inputs (all_less_seen limit seen more inputs are known))

-- ---- a merge that is settled

left_at_end : (hs : List Header) (s : SeenBody) → is_at_its_end s (dump_seen hs s) ≡ true → dump_cut_off hs s ≡ dump_seen hs s
left_at_end hs s e = ap (λ b. cond b (dump_seen hs s) (failed_there (dump_seen hs s))) e

all_at_end : (hs : List Header) (n : ℕ) (ss : List SeenBody) → are_past None hs n ss ≡ true
    → map (dump_cut_off hs) ss ≡ map (dump_seen hs) ss
all_at_end hs n [] e = refl
all_at_end hs n (s ∷ ss) e =
    let parts = and_parts (is_at_its_end s (dump_seen hs s) || false) (are_past None hs (n + 1) ss) e in
    ap (λ (d : Dump). d ∷ map (dump_cut_off hs) ss) (left_at_end hs s (or_never (is_at_its_end s (dump_seen hs s)) parts.0))
    ∙ ap (λ (l : List Dump). dump_seen hs s ∷ l) (all_at_end hs (n + 1) ss parts.1)
  where
    or_never : (b : Bool) → (b || false) ≡ true → b ≡ true
    or_never true e = refl
    or_never false e = cc

left_past : (f : KeyedFault) (hs : List Header) (n : ℕ) (ss : List SeenBody) → are_past (Some f) hs n ss ≡ true
    → GoOn f hs n (map (dump_seen hs) ss) (map (dump_cut_off hs) ss)
left_past f hs n [] e = tt
left_past f hs n (s ∷ ss) e =
    let parts = and_parts (is_at_its_end s (dump_seen hs s) || is_past (Some f) hs n (dump_seen hs s)) (are_past (Some f) hs (n + 1) ss) e in
    (by_end (is_at_its_end s (dump_seen hs s)) refl parts.0, left_past f hs (n + 1) ss parts.1)
  where
    open_fault : (o : Option Fault) → (is_some s.whole || is_some o) ≡ false → o ≡ None
    open_fault None e = refl
    open_fault (Some x) e = absurd (never (is_some s.whole) e)
      where
        never : (b : Bool) → (b || true) ≡ false → ⊥
        never true e = cc
        never false e = cc

    by_end : (b : Bool) → is_at_its_end s (dump_seen hs s) ≡ b → (b || is_past (Some f) hs n (dump_seen hs s)) ≡ true
        → (cond b (dump_seen hs s) (failed_there (dump_seen hs s)) ≡ dump_seen hs s) ⊎ GoesOn f hs n (dump_seen hs s) (cond b (dump_seen hs s) (failed_there (dump_seen hs s)))
    by_end true e past = inl refl
    by_end false e past = inr (record {
      header = refl;
      fault = open_fault (dump_seen hs s).fault e;
      more = [];
      items = sym (append-nil (dump_seen hs s).items);
      late = past;
    })

-- what may come makes no difference
left_settled : (names : List (List ℕ)) (ss : List SeenBody) → bodies_settle ss ≡ true
    → merge_outcome names (map (dump_cut_off (map (λ s. s.header) ss)) ss) ≡ merge_outcome names (map (dump_seen (map (λ s. s.header) ss)) ss)
left_settled names ss e = by_first (first_fault (map (dump_seen (map (λ s. s.header) ss)) ss)) refl e
  where
    by_first : (f : Option KeyedFault) → first_fault (map (dump_seen (map (λ s. s.header) ss)) ss) ≡ f
        → are_past f (map (λ s. s.header) ss) 0 ss ≡ true
        → merge_outcome names (map (dump_cut_off (map (λ s. s.header) ss)) ss) ≡ merge_outcome names (map (dump_seen (map (λ s. s.header) ss)) ss)
    by_first None first e = ap (merge_outcome names) (all_at_end (map (λ s. s.header) ss) 0 ss e)
    by_first (Some f) first e =
        let hs = map (λ (s : SeenBody). s.header) ss in
        outcome_stays names hs (map (dump_seen hs) ss) (map (dump_cut_off hs) ss) f (seen_headers hs ss) first (left_past f hs 0 ss e)

pub settled_merge_due_is_all : SettledMergeDueIsAll
unfolding is_settled_merge due_of_merge request_of
settled_merge_due_is_all limit names seen inputs e are =
    ap (λ (d : Outcome). d.output) (run_is Want.Merge limit names inputs)
    ∙ by_headers (headers_seen [] seen) (both_open limit [] seen inputs inputs are are) e
  where
    by_headers : (k : SeenHeaders) → BothOpen limit [] inputs inputs k → settles_merge k ≡ true
        → (run_over Want.Merge names (open_from limit [] inputs)).output ≡ due_by_headers k
    by_headers Faulty (x, p, q) e =
        ap (λ (r : Result (List Opened) (ℕ × Fault)). (run_over Want.Merge names r).output) p ∙ fault_output [] (name_at names x.0) x.1
    by_headers NotWhole both e = cc
    by_headers (Whole ss) (os, ps, p, q, ao, bo) e =
        let ds = map (dump_cut_off (map (λ (s : SeenBody). s.header) ss)) ss in
        ap (λ (r : Result (List Opened) (ℕ × Fault)). (run_over Want.Merge names r).output) p
        ∙ ap (λ (d : Outcome). d.output) (merge_known names ss os ao e ∙ sym (left_settled names ss e))
        ∙ name_free names [] ds
