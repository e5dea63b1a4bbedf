-- What settles a merge: nothing that may come of its inputs changes its outcome.
use Rattle.vcd_laws.proofs.Cited.{◌≡◌, ℕ, ◌+◌, Bool, true, false, cond, ◌||◌, is_some, List, [], ◌∷◌, ◌++◌, length, map, filter, filter_map, find, fold, Option, Some, None, option_map, Ok, Err, ◌⊎◌, inl, inr, refl, sym, ap, ◌∙◌, subst, one-add, AllByRecursion, reduce, before_first, cons_option, and_parts, filter-append, each_after, Header, header_of, BodyItem, renamed, Input, Token, Stream, stream_of, header_grammar, header_fault_of, BodyPhrase, items_of, body_grammar, body_fault_of, Fault, missing, Placed, phrases_of, Ending, Reading, reading_of, AtFault, AtEnd, AtLast, Want, is_faulty, is_over, Faulty, NotWhole, Whole, Seen, SeenBody, SeenHeaders, seen_before, tokens_seen, whole_of, header_ends, seen_at, headers_seen, fault_met, fault_seen, dump_seen, is_at_its_end, is_past, are_past, bodies_settle, settles_merge, IsPrefixOf, IsSeen, AreSeen, SettledMergeIsFinal, mark_or, before_past, items_append, Dump, Key, Keyed, KeyedFault, placed_is_too_large, key_lt, key_after, keyed_after, by_key, factor, earlier_fault, keyed_fault, headers_of, merged_items, items_before, merge_open, keyed_own, keyed_rest, Opened, fault_outcome, name_at, merge_outcome, allowed_after, with_opened, dumps_of, each_after-append, filter-by_key, key_chain, key_never, key_trans, merged_by_input, late_none, faults_rest, faults_are, still_later, with_fault}
use Rattle.std.proofs.Common.{append-nil}
use Rattle.vcd_model.specs.HeaderReading.{read_header}
use Rattle.vcd_model.specs.BodyReading.{read_body}
use Rattle.vcd_model.specs.Job.{request_of}
use Rattle.vcd_model.specs.SettledMerge.{is_settled_merge}
use Rattle.vcd_laws.proofs.Settling.{with_more, placed_first, faulty_body, at_fault, opened_at, opened_with, opening, opening_with, opens_by, header_read, opening_faulty, opening_whole, run_over, run_is, dump_in, dumps_in}
use Rattle.vcd_model.specs.Merge.{dump_of, first_fault}
use Rattle.vcd_model.specs.Outcome.{open_from, body_of}

-- ---- more faults after the first

abbrev Later : KeyedFault → KeyedFault → Type 0
Later f g = key_lt f.key g.key ≡ true

-- the second list has the faults of the first, and others after f
data Extends (f : KeyedFault) : List KeyedFault → List KeyedFault → Type 0 where
  Nothing : Extends f [] []
  Same : (x : KeyedFault) (xs ys : List KeyedFault) (more : Extends f xs ys) → Extends f (x ∷ xs) (x ∷ ys)
  More : (y : KeyedFault) (xs ys : List KeyedFault) (late : Later f y) (more : Extends f xs ys) → Extends f xs (y ∷ ys)

-- the lesser of two faults, one of them after f
either : (f a x : KeyedFault) (P : KeyedFault → Type 0) → P a → P x → P (earlier_fault a x)
either f a x P p q = by_test (key_lt x.key a.key)
  where
    by_test : (b : Bool) → P (cond b x a)
    by_test true = q
    by_test false = p

-- if x is not after f and a is, x is the lesser
lesser : (f a x : KeyedFault) → key_lt f.key x.key ≡ false → Later f a → earlier_fault a x ≡ x
lesser f a x n l = by_test (key_lt x.key a.key) refl
  where
    by_test : (b : Bool) → key_lt x.key a.key ≡ b → cond b x a ≡ x
    by_test true e = refl
    by_test false e = let g = key_trans f.key a.key x.key l e in cc

never_later : (f : KeyedFault) → Later f f → ⊥
never_later f l = let n = key_never f.key f.key l in cc

-- the same fault so far, or two that come after f
abbrev Follow : KeyedFault → KeyedFault → KeyedFault → Type 0
Follow f a b = (b ≡ a) ⊎ (Later f a × Later f b)

follow_same : (f a b x : KeyedFault) → Follow f a b → Follow f (earlier_fault a x) (earlier_fault b x)
follow_same f a b x (inl e) = inl (ap (λ (c : KeyedFault). earlier_fault c x) e)
follow_same f a b x (inr (l, m)) = by_test (key_lt f.key x.key) refl
  where
    by_test : (c : Bool) → key_lt f.key x.key ≡ c → Follow f (earlier_fault a x) (earlier_fault b x)
    by_test true e = inr (either f a x (Later f) l e, either f b x (Later f) m e)
    by_test false e = inl (lesser f b x e m ∙ sym (lesser f a x e l))

follow_more : (f a b y : KeyedFault) → Later f y → Follow f a b → Follow f a (earlier_fault b y)
follow_more f a b y late (inr (l, m)) = inr (l, either f b y (Later f) m late)
follow_more f a b y late (inl e) = by_test (key_lt y.key b.key) refl
  where
    by_test : (c : Bool) → key_lt y.key b.key ≡ c → Follow f a (cond c y b)
    by_test true g = inr (subst (λ (d : KeyedFault). Later f d) e (key_chain f.key y.key b.key late g), late)
    by_test false g = inl e

follows : (f a b : KeyedFault) (xs ys : List KeyedFault) → Extends f xs ys → Follow f a b
    → fold earlier_fault a xs ≡ f → fold earlier_fault b ys ≡ f
follows f a b xs ys (Nothing) (inl e) h = e ∙ h
follows f a b xs ys (Nothing) (inr (l, m)) h = absurd (never_later f (subst (λ (d : KeyedFault). Later f d) h l))
follows f a b xs ys (Same x xs' ys' more) w h = follows f (earlier_fault a x) (earlier_fault b x) xs' ys' more (follow_same f a b x w) h
follows f a b xs ys (More y xs' ys' late more) w h = follows f a (earlier_fault b y) xs' ys' more (follow_more f a b y late w) h

-- if a fault after f came before all others
starts : (f b : KeyedFault) (xs ys : List KeyedFault) → Extends f xs ys → Later f b
    → reduce earlier_fault xs ≡ Some f → fold earlier_fault b ys ≡ f
starts f b xs ys (Nothing) l h = cc
starts f b xs ys (Same x xs' ys' more) l h =
    follows f x (earlier_fault b x) xs' ys' more (by_test (key_lt f.key x.key) refl) (some h)
  where
    by_test : (c : Bool) → key_lt f.key x.key ≡ c → Follow f x (earlier_fault b x)
    by_test true e = inr (e, either f b x (Later f) l e)
    by_test false e = inl (lesser f b x e l)

    some : ◌≡◌ {A = Option KeyedFault} (Some (fold earlier_fault x xs')) (Some f) → fold earlier_fault x xs' ≡ f
    some e = cc
starts f b xs ys (More y xs' ys' late more) l h =
    starts f (earlier_fault b y) xs' ys' more (either f b y (Later f) l late) h

-- the first fault stays the first
first_stays : (f : KeyedFault) (xs ys : List KeyedFault) → Extends f xs ys
    → reduce earlier_fault xs ≡ Some f → reduce earlier_fault ys ≡ Some f
first_stays f xs ys (Nothing) h = h
first_stays f xs ys (Same x xs' ys' more) h = ap (λ g. Some g) (follows f x x xs' ys' more (inl refl) (some h))
  where
    some : ◌≡◌ {A = Option KeyedFault} (Some (fold earlier_fault x xs')) (Some f) → fold earlier_fault x xs' ≡ f
    some e = cc
first_stays f xs ys (More y xs' ys' late more) h = ap (λ g. Some g) (starts f y xs' ys' more late h)

-- ---- inputs that continue after the first fault

-- an input is the same, or continues after f
pub record GoesOn (f : KeyedFault) (hs : List Header) (n : ℕ) (d d' : Dump) : Type 0 where
  pub header : d'.header ≡ d.header
  pub fault : d.fault ≡ None
  pub more : List BodyItem
  pub items : d'.items ≡ d.items ++ more
  pub late : key_lt f.key (key_after (factor hs d.header) n d.items) ≡ true

abbrev pub GoOn : KeyedFault → List Header → ℕ → List Dump → List Dump → Type 0
GoOn f hs n [] [] = Unit {0}
GoOn f hs n [] (d' ∷ ds') = ⊥
GoOn f hs n (d ∷ ds) [] = ⊥
GoOn f hs n (d ∷ ds) (d' ∷ ds') = ((d' ≡ d) ⊎ GoesOn f hs n d d') × GoOn f hs (n + 1) ds ds'

headers_go_on : (f : KeyedFault) (hs : List Header) (n : ℕ) (ds ds' : List Dump) → GoOn f hs n ds ds'
    → headers_of ds' ≡ headers_of ds
headers_go_on f hs n [] [] g = refl
headers_go_on f hs n [] (d' ∷ ds') g = absurd g
headers_go_on f hs n (d ∷ ds) [] g = absurd g
headers_go_on f hs n (d ∷ ds) (d' ∷ ds') g = by_case g.0 (headers_go_on f hs (n + 1) ds ds' g.1)
  where
    by_case : (d' ≡ d) ⊎ GoesOn f hs n d d' → headers_of ds' ≡ headers_of ds → headers_of (d' ∷ ds') ≡ headers_of (d ∷ ds)
    by_case (inl e) more = rw (more, e) refl
    by_case (inr e) more = let h = e.header in rw (more, h) refl

-- their faults
faults_go_on : (f : KeyedFault) (hs : List Header) (n : ℕ) (ds ds' : List Dump) → GoOn f hs n ds ds'
    → Extends f (faults_rest hs n ds) (faults_rest hs n ds')
faults_go_on f hs n [] [] g = Nothing
faults_go_on f hs n [] (d' ∷ ds') g = absurd g
faults_go_on f hs n (d ∷ ds) [] g = absurd g
faults_go_on f hs n (d ∷ ds) (d' ∷ ds') g = by_case g.0 (faults_go_on f hs (n + 1) ds ds' g.1)
  where
    xs : List KeyedFault
    xs = faults_rest hs (n + 1) ds

    ys : List KeyedFault
    ys = faults_rest hs (n + 1) ds'

    by_same : (k : Key) (o : Option Fault) → Extends f (faults_rest hs (n + 1) ds) (faults_rest hs (n + 1) ds')
        → Extends f (cons_option (option_map (λ x. record { key = k; fault = x }) o) (faults_rest hs (n + 1) ds))
        (cons_option (option_map (λ x. record { key = k; fault = x }) o) (faults_rest hs (n + 1) ds'))
    by_same k None more = more
    by_same k (Some x) more = Same (record { key = k; fault = x }) _ _ more

    by_more : (k : Key) (o : Option Fault) → key_lt f.key k ≡ true → Extends f (faults_rest hs (n + 1) ds) (faults_rest hs (n + 1) ds')
        → Extends f (faults_rest hs (n + 1) ds) (cons_option (option_map (λ x. record { key = k; fault = x }) o) (faults_rest hs (n + 1) ds'))
    by_more k None late more = more
    by_more k (Some x) late more = More (record { key = k; fault = x }) _ _ late more

    by_case : (d' ≡ d) ⊎ GoesOn f hs n d d' → Extends f (faults_rest hs (n + 1) ds) (faults_rest hs (n + 1) ds')
        → Extends f (faults_rest hs n (d ∷ ds)) (faults_rest hs n (d' ∷ ds'))
    by_case (inl e) more =
        subst (λ (c : Dump). Extends f (faults_rest hs n (d ∷ ds)) (faults_rest hs n (c ∷ ds'))) (sym e)
        (by_same (key_after (factor hs d.header) n d.items) d.fault more)
    by_case (inr e) more =
        let h = e.header in
        let i = e.items in
        let none = e.fault in
        let late : key_lt f.key (key_after (factor hs d'.header) n d'.items) ≡ true =
        rw (h, i) (still_later f.key (factor hs d.header) n d.items e.more e.late) in
        subst (λ (o : Option Fault). Extends f (cons_option (option_map
        (λ x. record { key = key_after (factor hs d.header) n d.items; fault = x }) o) (faults_rest hs (n + 1) ds))
        (faults_rest hs n (d' ∷ ds'))) (sym none)
        (by_more (key_after (factor hs d'.header) n d'.items) d'.fault late more)

-- their items before f
own_go_on : (f : KeyedFault) (hs : List Header) (n : ℕ) (es : List Header) (d d' : Dump) → GoesOn f hs n d d'
    → filter (λ y. key_lt y.key f.key) (keyed_own hs n es d') ≡ filter (λ y. key_lt y.key f.key) (keyed_own hs n es d)
own_go_on f hs n es d d' g =
    let test = λ (y : Keyed). key_lt y.key f.key in
    let from = λ (h : Header) (before items : List BodyItem). each_after (keyed_after (factor hs h) n (renamed es h)) before items in
    ap (λ (h : Header). filter test (from h [] d'.items)) g.header
    ∙ ap (λ (l : List BodyItem). filter test (from d.header [] l)) g.items
    ∙ ap (filter test) (each_after-append (keyed_after (factor hs d.header) n (renamed es d.header)) [] d.items g.more)
    ∙ filter-append test (from d.header [] d.items) (from d.header d.items g.more)
    ∙ ap (λ l. filter test (from d.header [] d.items) ++ l) (late_none f.key hs n es d.header d.items g.more (key_never f.key (key_after (factor hs d.header) n d.items) g.late))
    ∙ append-nil (filter test (from d.header [] d.items))

rest_go_on : (f : KeyedFault) (hs : List Header) (n : ℕ) (es : List Header) (ds ds' : List Dump) → GoOn f hs n ds ds'
    → filter (λ y. key_lt y.key f.key) (keyed_rest hs n es ds') ≡ filter (λ y. key_lt y.key f.key) (keyed_rest hs n es ds)
rest_go_on f hs n es [] [] g = refl
rest_go_on f hs n es [] (d' ∷ ds') g = absurd g
rest_go_on f hs n es (d ∷ ds) [] g = absurd g
rest_go_on f hs n es (d ∷ ds) (d' ∷ ds') g =
    let test = λ (y : Keyed). key_lt y.key f.key in
    let more = rest_go_on f hs (n + 1) (es ++ d.header ∷ []) ds ds' g.1 in
    let one = by_case g.0 in
    filter-append test (keyed_own hs n es d') (keyed_rest hs (n + 1) (es ++ d'.header ∷ []) ds')
    ∙ ap (λ l. l ++ filter test (keyed_rest hs (n + 1) (es ++ d'.header ∷ []) ds')) one.1
    ∙ ap (λ (h : Header). filter test (keyed_own hs n es d) ++ filter test (keyed_rest hs (n + 1) (es ++ h ∷ []) ds')) one.0
    ∙ ap (λ l. filter test (keyed_own hs n es d) ++ l) more
    ∙ sym (filter-append test (keyed_own hs n es d) (keyed_rest hs (n + 1) (es ++ d.header ∷ []) ds))
  where
    by_case : (d' ≡ d) ⊎ GoesOn f hs n d d' → (d'.header ≡ d.header) × (filter (λ y. key_lt y.key f.key) (keyed_own hs n es d') ≡ filter (λ y. key_lt y.key f.key) (keyed_own hs n es d))
    by_case (inl e) = (ap (λ (c : Dump). c.header) e, ap (λ (c : Dump). filter (λ y. key_lt y.key f.key) (keyed_own hs n es c)) e)
    by_case (inr e) = (e.header, own_go_on f hs n es d d' e)

-- the outcome stays
module _ (names : List (List ℕ)) (hs : List Header) (ds ds' : List Dump) (f : KeyedFault) (headers : headers_of ds ≡ hs) (first : first_fault ds ≡ Some f) (on : GoOn f hs 0 ds ds') where
  headers' : headers_of ds' ≡ hs
  headers' = headers_go_on f hs 0 ds ds' on ∙ headers

  faults_of : (cs : List Dump) → headers_of cs ≡ hs → first_fault cs ≡ reduce earlier_fault (faults_rest hs 0 cs)
  unfolding first_fault
  faults_of cs e =
      ap (λ (h : List Header). reduce earlier_fault (filter_map (λ o. o) (each_after (keyed_fault h) [] cs))) e
      ∙ ap (reduce earlier_fault) (faults_are hs [] cs)

  first' : first_fault ds' ≡ Some f
  first' = faults_of ds' headers' ∙ first_stays f (faults_rest hs 0 ds) (faults_rest hs 0 ds') (faults_go_on f hs 0 ds ds' on) (sym (faults_of ds headers) ∙ first)

  before_of : (cs : List Dump) → headers_of cs ≡ hs → items_before f (merged_items cs) ≡ by_key (filter (λ y. key_lt y.key f.key) (keyed_rest hs 0 [] cs))
  before_of cs e =
      ap (items_before f) (merged_by_input cs ∙ ap (λ (h : List Header). by_key (keyed_rest h 0 [] cs)) e)
      ∙ filter-by_key (λ y. key_lt y.key f.key) (keyed_rest hs 0 [] cs)

  pub outcome_stays : merge_outcome names ds' ≡ merge_outcome names ds
  outcome_stays =
      let name = name_at names f.key.input in
      with_fault names ds' f first'
      ∙ ap (λ (h : List Header). fault_outcome (merge_open h (items_before f (merged_items ds'))) name f.fault) (headers' ∙ sym headers)
      ∙ ap (λ (l : List Keyed). fault_outcome (merge_open (headers_of ds) l) name f.fault)
      (before_of ds' headers' ∙ ap by_key (rest_go_on f hs 0 [] ds ds' on) ∙ sym (before_of ds headers))
      ∙ sym (with_fault names ds f first)

-- ---- a body as far as it is known

-- the tokens after a header begin so, or are these and the source is this
abbrev pub IsRest : Option Stream → List Token → Opened → Type 0
IsRest None rest o = IsPrefixOf rest o.rest
IsRest (Some stream) rest o = (o.rest ≡ rest) × (o.stream ≡ stream)

-- an opened input of which this is known
pub record IsSoFar (s : SeenBody) (o : Opened) : Type 0 where
  pub header : o.header ≡ s.header
  pub rest : IsRest s.whole s.rest o

before_step : {X : Type 0} (test : X → Bool) (x : X) (xs : List X) → test x ≡ false
    → before_first test (x ∷ xs) ≡ x ∷ before_first test xs
before_step test x xs e = rw (e, one-add) refl

before_stop : {X : Type 0} (test : X → Bool) (x : X) (xs : List X) → test x ≡ true → before_first test (x ∷ xs) ≡ []
before_stop test x xs e = rw e refl

found_first : {X : Type 0} (test : X → Bool) (xs ys : List X) (x : X) → find test xs ≡ Some x
    → (find test (xs ++ ys) ≡ Some x) × (before_first test (xs ++ ys) ≡ before_first test xs)
found_first test [] ys x e = cc
found_first test (y ∷ xs) ys x e = by_test (test y) refl e (found_first test xs ys x)
  where
    by_test : (b : Bool) → test y ≡ b → cond b (Some y) (find test xs) ≡ Some x
        → (find test xs ≡ Some x → (find test (xs ++ ys) ≡ Some x) × (before_first test (xs ++ ys) ≡ before_first test xs))
        → (find test (y ∷ xs ++ ys) ≡ Some x) × (before_first test (y ∷ xs ++ ys) ≡ before_first test (y ∷ xs))
    by_test true f e more = (rw f e, before_stop test y (xs ++ ys) f ∙ sym (before_stop test y xs f))
    by_test false f e more =
        let m = more e in
        (rw f m.0, before_step test y (xs ++ ys) f ∙ ap (λ l. y ∷ l) m.1 ∙ sym (before_step test y xs f))

none_found : {X : Type 0} (test : X → Bool) (xs : List X) → find test xs ≡ None → AllByRecursion (λ x. test x ≡ false) xs
none_found test [] e = tt
none_found test (x ∷ xs) e = by_test (test x) refl e (none_found test xs)
  where
    by_test : (b : Bool) → test x ≡ b → cond b (Some x) (find test xs) ≡ None
        → (find test xs ≡ None → AllByRecursion (λ x. test x ≡ false) xs) → AllByRecursion (λ x. test x ≡ false) (x ∷ xs)
    by_test true f e more = cc
    by_test false f e more = (f, more e)

-- a dump from its phrases and its own fault
abbrev pub dump_with : ℕ → Header → Option Fault → List (Placed BodyPhrase) → Dump
dump_with scale h own ps = record {
  header = h;
  items = items_of (phrases_of (before_first (placed_is_too_large scale) ps));
  fault = mark_or own (find (placed_is_too_large scale) ps);
}

pub dump_is : (scale : ℕ) (h : Header) (own : Option Fault) (r : Reading BodyPhrase)
    → dump_of scale h own r ≡ dump_with scale h own r.placed
unfolding dump_of
dump_is scale h own r = refl

-- if a timestamp is too large, or the fault is known, the dump is known
mark_known : (scale : ℕ) (h : Header) (a b : Option Fault) (ps more : List (Placed BodyPhrase)) (p : Placed BodyPhrase)
    → find (placed_is_too_large scale) ps ≡ Some p → dump_with scale h a (ps ++ more) ≡ dump_with scale h b ps
mark_known scale h a b ps more p e =
    let f = found_first (placed_is_too_large scale) ps more p e in
    ap (λ (l : List (Placed BodyPhrase)). record { header = h; items = items_of (phrases_of l); fault = mark_or a (find (placed_is_too_large scale) (ps ++ more)) }) f.1
    ∙ ap (λ (o : Option (Placed BodyPhrase)). record { header = h; items = items_of (phrases_of (before_first (placed_is_too_large scale) ps)); fault = mark_or a o }) f.0
    ∙ ap (λ (o : Option (Placed BodyPhrase)). record { header = h; items = items_of (phrases_of (before_first (placed_is_too_large scale) ps)); fault = mark_or b o }) (sym e)

-- a dump is this one, or it continues from it
abbrev Continues : Dump → Dump → Type 0
Continues d d' = (d' ≡ d) ⊎ ((d'.header ≡ d.header) × (d.fault ≡ None) × ((more : List BodyItem) × (d'.items ≡ d.items ++ more)))

-- if no timestamp is too large
none_known : (scale : ℕ) (h : Header) (a b : Option Fault) (ps more : List (Placed BodyPhrase))
    → find (placed_is_too_large scale) ps ≡ None → b ≡ None
    → Continues (dump_with scale h b ps) (dump_with scale h a (ps ++ more))
none_known scale h a b ps more e none =
    let test = placed_is_too_large scale in
    let small = none_found test ps e in
    let all : before_first test ps ≡ ps =
    ap (before_first test) (sym (append-nil ps)) ∙ before_past test ps [] small ∙ append-nil ps in
    inr (
      refl,
      ap (mark_or b) e ∙ none,
      (
        items_of (phrases_of (before_first test more)),
        ap (λ l. items_of (phrases_of l)) (before_past test ps more small)
            ∙ items_append ps (before_first test more)
            ∙ ap (λ l. items_of (phrases_of l) ++ items_of (phrases_of (before_first test more))) (sym all),
      ),
    )

body_known : (scale : ℕ) (h : Header) (s : Stream) (rest xs : List Token)
    → Continues (dump_with scale h (fault_met (read_body h.codes rest).ending) (read_body h.codes rest).placed)
    (dump_with scale h (body_fault_of s (read_body h.codes (rest ++ xs))) (read_body h.codes (rest ++ xs)).placed)
unfolding read_body
body_known scale h s rest xs =
    let k = placed_first (body_grammar h.codes) rest xs in
    subst (λ (ps : List (Placed BodyPhrase)). Continues (dump_with scale h (fault_met (read_body h.codes rest).ending) (read_body h.codes rest).placed)
    (dump_with scale h (body_fault_of s (read_body h.codes (rest ++ xs))) ps)) (sym k.1)
    (by_mark (find (placed_is_too_large scale) (read_body h.codes rest).placed) refl k.0 k.1)
  where
    r : Reading BodyPhrase
    r = read_body h.codes rest

    own : Option Fault
    own = body_fault_of s (read_body h.codes (rest ++ xs))

    by_ending : (x : Ending) → (read_body h.codes rest).ending ≡ x → find (placed_is_too_large scale) (read_body h.codes rest).placed ≡ None
        → (more : List (Placed BodyPhrase)) → (read_body h.codes (rest ++ xs)).placed ≡ (read_body h.codes rest).placed ++ more
        → Continues (dump_with scale h (fault_met (read_body h.codes rest).ending) (read_body h.codes rest).placed)
        (dump_with scale h (body_fault_of s (read_body h.codes (rest ++ xs))) ((read_body h.codes rest).placed ++ more))
    by_ending (AtFault g) e none more parts =
        let same = faulty_body h.codes rest xs (ap is_faulty e) in
        let fault : body_fault_of s (read_body h.codes (rest ++ xs)) ≡ fault_met (read_body h.codes rest).ending =
        at_fault s (read_body h.codes (rest ++ xs)) g (ap (λ (q : Reading BodyPhrase). q.ending) same ∙ e) ∙ sym (ap fault_met e) in
        let placed : (read_body h.codes rest).placed ++ more ≡ (read_body h.codes rest).placed =
        sym parts ∙ ap (λ (q : Reading BodyPhrase). q.placed) same in
        inl (ap (λ (o : Option Fault). dump_with scale h o ((read_body h.codes rest).placed ++ more)) fault
        ∙ ap (dump_with scale h (fault_met (read_body h.codes rest).ending)) placed)
    by_ending AtEnd e none more parts =
        none_known scale h (body_fault_of s (read_body h.codes (rest ++ xs))) (fault_met (read_body h.codes rest).ending) (read_body h.codes rest).placed more none (ap fault_met e)
    by_ending AtLast e none more parts =
        none_known scale h (body_fault_of s (read_body h.codes (rest ++ xs))) (fault_met (read_body h.codes rest).ending) (read_body h.codes rest).placed more none (ap fault_met e)

    by_mark : (o : Option (Placed BodyPhrase)) → find (placed_is_too_large scale) (read_body h.codes rest).placed ≡ o
        → (more : List (Placed BodyPhrase)) → (read_body h.codes (rest ++ xs)).placed ≡ (read_body h.codes rest).placed ++ more
        → Continues (dump_with scale h (fault_met (read_body h.codes rest).ending) (read_body h.codes rest).placed)
        (dump_with scale h (body_fault_of s (read_body h.codes (rest ++ xs))) ((read_body h.codes rest).placed ++ more))
    by_mark (Some p) e more parts =
        inl (mark_known scale h (body_fault_of s (read_body h.codes (rest ++ xs))) (fault_met (read_body h.codes rest).ending) (read_body h.codes rest).placed more p e)
    by_mark None e more parts = by_ending (read_body h.codes rest).ending refl e more parts

-- an input of which this is known: its dump is the known one, or it continues from that; and not
-- if all is known
abbrev pub DumpOf : List Header → SeenBody → Dump → Type 0
DumpOf hs s d' = (d' ≡ dump_seen hs s) ⊎ ((is_some s.whole ≡ false) × (d'.header ≡ (dump_seen hs s).header) × ((dump_seen hs s).fault ≡ None)
    × ((more : List BodyItem) × (d'.items ≡ (dump_seen hs s).items ++ more)))

same_opened : (o : Opened) (h : Header) (ts : List Token) → o.header ≡ h → o.rest ≡ ts → o ≡ opened_at h o.stream ts
same_opened o h ts e f =
    ap (λ (k : Header). opened_at k o.stream o.rest) e ∙ ap (opened_at h o.stream) f

pub dump_seen_of : (hs : List Header) (s : SeenBody) (o : Opened) → IsSoFar s o → DumpOf hs s (dump_in hs o)
unfolding body_of
dump_seen_of hs s o is = by_whole s.whole refl is.rest
  where
    by_whole : (w : Option Stream) → s.whole ≡ w → IsRest w s.rest o → DumpOf hs s (dump_in hs o)
    by_whole (Some stream) e (same, source) =
        inl (ap (dump_in hs) (same_opened o s.header s.rest is.header same)
        ∙ ap (λ (u : Stream). dump_in hs (opened_at s.header u s.rest)) source
        ∙ ap (λ (w : Option Stream). dump_of (factor hs s.header) s.header (fault_seen w (read_body s.header.codes s.rest)) (read_body s.header.codes s.rest)) (sym e))
    by_whole None e (xs, parts) =
        let r = read_body s.header.codes s.rest in
        let r' = read_body s.header.codes (s.rest ++ xs) in
        let scale = factor hs s.header in
        let there : dump_in hs o ≡ dump_with scale s.header (body_fault_of o.stream r') r'.placed =
        ap (dump_in hs) (same_opened o s.header (s.rest ++ xs) is.header parts)
        ∙ dump_is scale s.header (body_fault_of o.stream r') r' in
        let here : dump_seen hs s ≡ dump_with scale s.header (fault_met r.ending) r.placed =
        ap (λ (w : Option Stream). dump_of scale s.header (fault_seen w r) r) e
        ∙ dump_is scale s.header (fault_met r.ending) r in
        subst (DumpOf hs s) (sym there)
        (by_case (dump_with scale s.header (body_fault_of o.stream r') r'.placed)
        (subst (λ (d : Dump). Continues d (dump_with scale s.header (body_fault_of o.stream r') r'.placed)) (sym here) (body_known scale s.header o.stream s.rest xs)) (ap is_some e))
      where
        by_case : (d' : Dump) → Continues (dump_seen hs s) d' → is_some s.whole ≡ false → DumpOf hs s d'
        by_case d' (inl e) w = inl e
        by_case d' (inr e) w = inr (w, e.0, e.1, e.2)

-- ---- all bodies

abbrev pub AllSoFar : List SeenBody → List Opened → Type 0
AllSoFar [] [] = Unit {0}
AllSoFar [] (o ∷ os) = ⊥
AllSoFar (s ∷ ss) [] = ⊥
AllSoFar (s ∷ ss) (o ∷ os) = IsSoFar s o × AllSoFar ss os

pub or_parts : (a b : Bool) → (a || b) ≡ true → (a ≡ true) ⊎ (b ≡ true)
or_parts true b e = inl refl
or_parts false b e = inr e

-- an input at its end does not continue
pub ended_same : (hs : List Header) (s : SeenBody) (d' : Dump) → is_at_its_end s (dump_seen hs s) ≡ true → DumpOf hs s d'
    → d' ≡ dump_seen hs s
ended_same hs s d' e (inl same) = same
ended_same hs s d' e (inr h) = by_parts (or_parts (is_some s.whole) (is_some (dump_seen hs s).fault) e)
  where
    by_parts : (is_some s.whole ≡ true) ⊎ (is_some (dump_seen hs s).fault ≡ true) → d' ≡ dump_seen hs s
    by_parts (inl a) = let b = h.0 in cc
    by_parts (inr a) = let b = ap is_some h.2 in cc

all_ended : (hs : List Header) (n : ℕ) (ss : List SeenBody) (os : List Opened) → are_past None hs n ss ≡ true
    → AllSoFar ss os → map (dump_in hs) os ≡ map (dump_seen hs) ss
all_ended hs n [] [] e all = refl
all_ended hs n [] (o ∷ os) e all = absurd all
all_ended hs n (s ∷ ss) [] e all = absurd all
all_ended hs n (s ∷ ss) (o ∷ os) e all =
    let parts = and_parts (is_at_its_end s (dump_seen hs s) || false) (are_past None hs (n + 1) ss) e in
    let one = ended_same hs s (dump_in hs o) (or_never (is_at_its_end s (dump_seen hs s)) parts.0) (dump_seen_of hs s o all.0) in
    ap (λ (d : Dump). d ∷ map (dump_in hs) os) one
    ∙ ap (λ (l : List Dump). dump_seen hs s ∷ l) (all_ended hs (n + 1) ss os parts.1 all.1)
  where
    or_never : (b : Bool) → (b || false) ≡ true → b ≡ true
    or_never true e = refl
    or_never false e = cc

all_past : (f : KeyedFault) (hs : List Header) (n : ℕ) (ss : List SeenBody) (os : List Opened)
    → are_past (Some f) hs n ss ≡ true → AllSoFar ss os
    → GoOn f hs n (map (dump_seen hs) ss) (map (dump_in hs) os)
all_past f hs n [] [] e all = tt
all_past f hs n [] (o ∷ os) e all = absurd all
all_past f hs n (s ∷ ss) [] e all = absurd all
all_past f hs n (s ∷ ss) (o ∷ os) e all =
    let parts = and_parts (is_at_its_end s (dump_seen hs s) || is_past (Some f) hs n (dump_seen hs s)) (are_past (Some f) hs (n + 1) ss) e in (
      by_parts (dump_in hs o) (dump_seen_of hs s o all.0) (or_parts (is_at_its_end s (dump_seen hs s)) (is_past (Some f) hs n (dump_seen hs s)) parts.0),
      all_past f hs (n + 1) ss os parts.1 all.1,
    )
  where
    by_parts : (d' : Dump) → DumpOf hs s d' → (is_at_its_end s (dump_seen hs s) ≡ true) ⊎ (is_past (Some f) hs n (dump_seen hs s) ≡ true)
        → (d' ≡ dump_seen hs s) ⊎ GoesOn f hs n (dump_seen hs s) d'
    by_parts d' is (inl a) = inl (ended_same hs s d' a is)
    by_parts d' (inl same) (inr a) = inl same
    by_parts d' (inr h) (inr a) = inr (record { header = h.1; fault = h.2; more = h.3.0; items = h.3.1; late = a })

pub seen_headers : (hs : List Header) (ss : List SeenBody) → headers_of (map (dump_seen hs) ss) ≡ map (λ s. s.header) ss
unfolding dump_of
seen_headers hs [] = refl
seen_headers hs (s ∷ ss) = ap (λ l. s.header ∷ l) (seen_headers hs ss)

pub opened_headers : (ss : List SeenBody) (os : List Opened) → AllSoFar ss os → map (λ (o : Opened). o.header) os ≡ map (λ (s : SeenBody). s.header) ss
opened_headers [] [] all = refl
opened_headers [] (o ∷ os) all = absurd all
opened_headers (s ∷ ss) [] all = absurd all
opened_headers (s ∷ ss) (o ∷ os) all =
    let h = all.0 in
    let e = h.header in
    rw (e, opened_headers ss os all.1) refl

-- bodies that settle a merge give it this outcome
pub merge_known : (names : List (List ℕ)) (ss : List SeenBody) (os : List Opened) → AllSoFar ss os
    → bodies_settle ss ≡ true
    → merge_outcome names (dumps_of os) ≡ merge_outcome names (map (dump_seen (map (λ s. s.header) ss)) ss)
merge_known names ss os all e =
    let hs = map (λ (s : SeenBody). s.header) ss in
    ap (merge_outcome names) (dumps_in os ∙ ap (λ (l : List Header). map (dump_in l) os) (opened_headers ss os all))
    ∙ by_first (first_fault (map (dump_seen hs) ss)) refl e
  where
    by_first : (f : Option KeyedFault) → first_fault (map (dump_seen (map (λ s. s.header) ss)) ss) ≡ f
        → are_past f (map (λ s. s.header) ss) 0 ss ≡ true
        → merge_outcome names (map (dump_in (map (λ s. s.header) ss)) os) ≡ merge_outcome names (map (dump_seen (map (λ s. s.header) ss)) ss)
    by_first None first e = ap (merge_outcome names) (all_ended (map (λ s. s.header) ss) 0 ss os e all)
    by_first (Some f) first e =
        let hs = map (λ (s : SeenBody). s.header) ss in
        outcome_stays names hs (map (dump_seen hs) ss) (map (dump_in hs) os) f (seen_headers hs ss) first (all_past f hs 0 ss os e all)

-- ---- headers as far as they are known

-- the reading of a header that is over, or of which all is known
seen_reading : (limit most : ℕ) (s : Seen) (input : Input) → IsSeen limit s input
    → is_over (reading_of (header_grammar most) (tokens_seen s)).ending ≡ true
    → (xs : List Token) × (read_header most (stream_of limit input) ≡ with_more (reading_of (header_grammar most) (tokens_seen s)) xs)
    × IsRest (whole_of s) (reading_of (header_grammar most) (tokens_seen s)).rest
    (opened_with (stream_of limit input) (with_more (reading_of (header_grammar most) (tokens_seen s)) xs))
unfolding read_header
seen_reading limit most (Seen.First ts) input (xs, parts) over =
    (xs, header_read most (stream_of limit input) ts xs parts over, (xs, refl))
seen_reading limit most (Seen.All stream) input same over =
    let r = reading_of (header_grammar most) stream.tokens in (
      [],
      ap (λ (u : Stream). reading_of (header_grammar most) u.tokens) same
          ∙ ap (λ (l : List Token). record { placed = r.placed; before = r.before; ending = r.ending; rest = l }) (sym (append-nil r.rest)),
      (append-nil r.rest, same),
    )

-- what is known of the headers is true of two lists of inputs
abbrev pub BothOpen : ℕ → List Header → List Input → List Input → SeenHeaders → Type 0
BothOpen limit hs is js Faulty =
    (e : ℕ × Fault) × (open_from limit hs is ≡ Err e) × (open_from limit hs js ≡ Err e)
BothOpen limit hs is js NotWhole = Unit {0}
BothOpen limit hs is js (Whole ss) =
    (os : List Opened) × (ps : List Opened) × (open_from limit hs is ≡ Ok os) × (open_from limit hs js ≡ Ok ps)
    × AllSoFar ss os × AllSoFar ss ps

-- an input whose header has a fault
pub opens_faulty : (limit : ℕ) (hs : List Header) (s : Seen) (input : Input) (inputs : List Input) (f : Fault)
    → IsSeen limit s input → (reading_of (header_grammar (allowed_after hs)) (tokens_seen s)).ending ≡ AtFault f
    → open_from limit hs (input ∷ inputs) ≡ Err (length hs, f)
opens_faulty limit hs s input inputs f is e =
    let r = reading_of (header_grammar (allowed_after hs)) (tokens_seen s) in
    let seen = seen_reading limit (allowed_after hs) s input is (ap is_over e) in
    opens_by limit hs input inputs
    ∙ ap (opening_with limit hs inputs (stream_of limit input)) seen.1
    ∙ opening_faulty limit hs inputs (stream_of limit input) (with_more r seen.0) f e

-- an input whose header does not end
pub opens_missing : (limit : ℕ) (hs : List Header) (stream : Stream) (input : Input) (inputs : List Input)
    → stream_of limit input ≡ stream → (reading_of (header_grammar (allowed_after hs)) stream.tokens).ending ≡ AtEnd
    → open_from limit hs (input ∷ inputs) ≡ Err (length hs, missing stream)
unfolding read_header
opens_missing limit hs stream input inputs same e =
    let r = reading_of (header_grammar (allowed_after hs)) stream.tokens in
    let fault : header_fault_of stream r ≡ Some (missing stream) = rw (e, header_fault_of) refl in
    opens_by limit hs input inputs
    ∙ ap (λ (u : Stream). opening_with limit hs inputs u (reading_of (header_grammar (allowed_after hs)) u.tokens)) same
    ∙ ap (λ (x : Option Fault). opening (length hs) (opened_with stream r) x (open_from limit (hs ++ header_of (phrases_of r.placed) ∷ []) inputs)) fault

-- an input whose header is whole
pub opens_whole : (limit : ℕ) (hs : List Header) (s : Seen) (input : Input) (inputs : List Input)
    → IsSeen limit s input → (reading_of (header_grammar (allowed_after hs)) (tokens_seen s)).ending ≡ AtLast
    → (o : Opened) × IsSoFar (record {
      header = header_of (phrases_of (reading_of (header_grammar (allowed_after hs)) (tokens_seen s)).placed);
      rest = (reading_of (header_grammar (allowed_after hs)) (tokens_seen s)).rest;
      whole = whole_of s;
    }) o
    × (open_from limit hs (input ∷ inputs) ≡ with_opened o (open_from limit (hs ++ header_of (phrases_of (reading_of (header_grammar (allowed_after hs)) (tokens_seen s)).placed) ∷ []) inputs))
opens_whole limit hs s input inputs is e =
    let r = reading_of (header_grammar (allowed_after hs)) (tokens_seen s) in
    let seen = seen_reading limit (allowed_after hs) s input is (ap is_over e) in (
      opened_with (stream_of limit input) (with_more r seen.0),
      record { header = refl; rest = seen.2 },
      opens_by limit hs input inputs
          ∙ ap (opening_with limit hs inputs (stream_of limit input)) seen.1
          ∙ opening_whole limit hs inputs (stream_of limit input) (with_more r seen.0) e,
    )

pub both_open : (limit : ℕ) (hs : List Header) (ss : List Seen) (is js : List Input) → AreSeen limit ss is
    → AreSeen limit ss js → BothOpen limit hs is js (headers_seen hs ss)
unfolding open_from
both_open limit hs [] [] [] a b = ([], [], refl, refl, tt, tt)
both_open limit hs [] [] (j ∷ js) a b = absurd b
both_open limit hs [] (i ∷ is) js a b = absurd a
both_open limit hs (s ∷ ss) [] js a b = absurd a
both_open limit hs (s ∷ ss) (i ∷ is) [] a b = absurd b
both_open limit hs (s ∷ ss) (i ∷ is) (j ∷ js) a b =
    let r = reading_of (header_grammar (allowed_after hs)) (tokens_seen s) in
    let h = header_of (phrases_of r.placed) in
    by_ending r.ending refl (headers_seen (hs ++ h ∷ []) ss) (both_open limit (hs ++ h ∷ []) ss is js a.1 b.1)
  where
    ahead : Header → List Header
    ahead h = hs ++ h ∷ []

    by_all : (o p : Opened) (one : SeenBody) (h : Header) → IsSoFar one o → IsSoFar one p
        → open_from limit hs (i ∷ is) ≡ with_opened o (open_from limit (hs ++ h ∷ []) is)
        → open_from limit hs (j ∷ js) ≡ with_opened p (open_from limit (hs ++ h ∷ []) js)
        → (others : SeenHeaders) → BothOpen limit (hs ++ h ∷ []) is js others
        → BothOpen limit hs (i ∷ is) (j ∷ js) (seen_before one others)
    by_all o p one h io ip eo ep Faulty (e, x, y) =
        (e, eo ∙ ap (with_opened o) x, ep ∙ ap (with_opened p) y)
    by_all o p one h io ip eo ep NotWhole both = tt
    by_all o p one h io ip eo ep (Whole qs) (os, ps, x, y, ao, ap') =
        (o ∷ os, p ∷ ps, eo ∙ ap (with_opened o) x, ep ∙ ap (with_opened p) y, (io, ao), (ip, ap'))

    by_seen : (t : Seen) → IsSeen limit t i → IsSeen limit t j
        → (reading_of (header_grammar (allowed_after hs)) (tokens_seen t)).ending ≡ AtEnd
        → BothOpen limit hs (i ∷ is) (j ∷ js) (header_ends (whole_of t))
    by_seen (Seen.First ts) x y e = tt
    by_seen (Seen.All stream) x y e =
        ((length hs, missing stream), opens_missing limit hs stream i is x e, opens_missing limit hs stream j js y e)

    by_ending : (x : Ending) → (reading_of (header_grammar (allowed_after hs)) (tokens_seen s)).ending ≡ x
        → (others : SeenHeaders)
        → BothOpen limit (hs ++ header_of (phrases_of (reading_of (header_grammar (allowed_after hs)) (tokens_seen s)).placed) ∷ []) is js others
        → BothOpen limit hs (i ∷ is) (j ∷ js) (seen_at s (reading_of (header_grammar (allowed_after hs)) (tokens_seen s)) x others)
    by_ending (AtFault f) e others both =
        ((length hs, f), opens_faulty limit hs s i is f a.0 e, opens_faulty limit hs s j js f b.0 e)
    by_ending AtEnd e others both = by_seen s a.0 b.0 e
    by_ending AtLast e others both =
        let o = opens_whole limit hs s i is a.0 e in
        let p = opens_whole limit hs s j js b.0 e in
        by_all o.0 p.0 _ _ o.1 p.1 o.2 p.2 others both

pub settled_merge_is_final : SettledMergeIsFinal
unfolding is_settled_merge request_of
settled_merge_is_final limit names seen inputs others e a b =
    run_is Want.Merge limit names inputs
    ∙ by_headers (headers_seen [] seen) (both_open limit [] seen inputs others a b) e
    ∙ sym (run_is Want.Merge limit names others)
  where
    by_headers : (k : SeenHeaders) → BothOpen limit [] inputs others k → settles_merge k ≡ true
        → run_over Want.Merge names (open_from limit [] inputs) ≡ run_over Want.Merge names (open_from limit [] others)
    by_headers Faulty (x, p, q) e = ap (run_over Want.Merge names) (p ∙ sym q)
    by_headers NotWhole both e = cc
    by_headers (Whole ss) (os, ps, p, q, ao, bo) e =
        ap (run_over Want.Merge names) p
        ∙ merge_known names ss os ao e
        ∙ sym (merge_known names ss ps bo e)
        ∙ sym (ap (run_over Want.Merge names) q)
