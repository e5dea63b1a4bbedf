-- The merged list of whole inputs, by what was merged of them so far: what comes before a position,
-- and the first fault.
use Rattle.vcd_model.proofs.Cited.{◌≡◌, ℕ, zero, suc, ◌+◌, Bool, true, false, cond, List, [], ◌∷◌, ◌++◌, length, slice_get, Option, Some, None, refl, sym, ap, ◌∙◌, arith, ◌⊎◌, inl, inr, filter, filter_map, fold, option_map, ⊤, AllByRecursion, reduce, cons_option, length_push, filter-append, each_after, Header, renamed, BodyItem, Dump, Key, key_lt, Keyed, KeyedFault, earlier_fault, factor, headers_of, items_before, key_after, keyed_after, keyed_fault, by_key, merged_items, keyed_own, keyed_rest, Fault}
use Rattle.std.proofs.Common.{append-nil}
use Rattle.vcd_model.specs.Merge.{first_fault}
use Rattle.vcd_model.proofs.BodyFacts.{all_front, all_back}
use Rattle.vcd_model.proofs.Growing.{each_after-append}
use Rattle.vcd_model.proofs.MergeChanges.{later_key}
use Rattle.vcd_model.proofs.MergeOrder.{IsSorted, filter-by_key, key_chain, key_never, key_trans}
use Rattle.vcd_model.proofs.MergedLists.{merged_by_input}

-- ---- inputs that continue after a position

-- an input has more items, but none before this key
pub record GrownOne (b : Key) (hs : List Header) (n : ℕ) (d d' : Dump) : Type 0 where
  pub header : d'.header ≡ d.header
  pub more : List BodyItem
  pub items : d'.items ≡ d.items ++ more
  pub late : (more ≡ []) ⊎ (key_lt (key_after (factor hs d.header) n d.items) b ≡ false)

abbrev pub AreGrown : Key → List Header → ℕ → List Dump → List Dump → Type 0
AreGrown b hs n [] [] = ⊤
AreGrown b hs n [] (d' ∷ ds') = ⊥
AreGrown b hs n (d ∷ ds) [] = ⊥
AreGrown b hs n (d ∷ ds) (d' ∷ ds') = GrownOne b hs n d d' × AreGrown b hs (n + 1) ds ds'

abbrev from : List Header → ℕ → List Header → Header → List BodyItem → List BodyItem → List Keyed
from hs n es h before items = each_after (keyed_after (factor hs h) n (renamed es h)) before items

filter_all : {X : Type 0} (test : X → Bool) (xs : List X) → AllByRecursion (λ x. test x ≡ true) xs → filter test xs ≡ xs
filter_all test [] h = refl
filter_all test (x ∷ xs) h = rw h.0 (ap (λ l. x ∷ l) (filter_all test xs h.1))

-- the items after a position that is not before the key
pub late_none : (b : Key) (hs : List Header) (n : ℕ) (es : List Header) (h : Header) (before items : List BodyItem)
    → key_lt (key_after (factor hs h) n before) b ≡ false → filter (λ y. key_lt y.key b) (from hs n es h before items) ≡ []
late_none b hs n es h before [] e = refl
late_none b hs n es h before (x ∷ items) e =
    let here = key_after (factor hs h) n before in
    let next = key_after (factor hs h) n (before ++ x ∷ []) in
    rw e (late_none b hs n es h (before ++ x ∷ []) items (by_test (key_lt next b) refl))
  where
    by_test : (c : Bool) → key_lt (key_after (factor hs h) n (before ++ x ∷ [])) b ≡ c → c ≡ false
    by_test false f = refl
    by_test true f = let g = key_chain (key_after (factor hs h) n before) (key_after (factor hs h) n (before ++ x ∷ [])) b (later_key (factor hs h) n before x []) f in cc

own_whole : (b : Key) (hs : List Header) (n : ℕ) (es : List Header) (d d' : Dump) → GrownOne b hs n d d'
    → AllByRecursion (λ y. key_lt y.key b ≡ true) (keyed_own hs n es d) → filter (λ y. key_lt y.key b) (keyed_own hs n es d') ≡ keyed_own hs n es d
own_whole b hs n es d d' g all =
    ap (λ (h : Header). filter (λ y. key_lt y.key b) (from hs n es h [] d'.items)) g.header
    ∙ ap (λ l. filter (λ y. key_lt y.key b) (from hs n es d.header [] l)) g.items
    ∙ ap (filter (λ y. key_lt y.key b)) (each_after-append (keyed_after (factor hs d.header) n (renamed es d.header)) [] d.items g.more)
    ∙ filter-append (λ y. key_lt y.key b) (from hs n es d.header [] d.items) (from hs n es d.header d.items g.more)
    ∙ ap (λ l. l ++ filter (λ y. key_lt y.key b) (from hs n es d.header d.items g.more)) (filter_all (λ y. key_lt y.key b) (from hs n es d.header [] d.items) all)
    ∙ ap (λ l. from hs n es d.header [] d.items ++ l) (by_late g.late)
    ∙ append-nil (from hs n es d.header [] d.items)
  where
    by_late : (g.more ≡ []) ⊎ (key_lt (key_after (factor hs d.header) n d.items) b ≡ false) → filter (λ y. key_lt y.key b) (from hs n es d.header d.items g.more) ≡ []
    by_late (inl e) = ap (λ l. filter (λ y. key_lt y.key b) (from hs n es d.header d.items l)) e
    by_late (inr e) = late_none b hs n es d.header d.items g.more e

filter_whole : (b : Key) (hs : List Header) (n : ℕ) (es : List Header) (ds ds' : List Dump) → AreGrown b hs n ds ds'
    → AllByRecursion (λ y. key_lt y.key b ≡ true) (keyed_rest hs n es ds)
    → filter (λ y. key_lt y.key b) (keyed_rest hs n es ds') ≡ keyed_rest hs n es ds
filter_whole b hs n es [] [] g all = refl
filter_whole b hs n es [] (d' ∷ ds') g all = absurd g
filter_whole b hs n es (d ∷ ds) [] g all = absurd g
filter_whole b hs n es (d ∷ ds) (d' ∷ ds') g all =
    let test = λ (y : Keyed). key_lt y.key b in
    filter-append test (keyed_own hs n es d') (keyed_rest hs (n + 1) (es ++ d'.header ∷ []) ds')
    ∙ ap (λ l. l ++ filter test (keyed_rest hs (n + 1) (es ++ d'.header ∷ []) ds'))
    (own_whole b hs n es d d' g.0 (all_front (λ y. key_lt y.key b ≡ true) (keyed_own hs n es d) (keyed_rest hs (n + 1) (es ++ d.header ∷ []) ds) all))
    ∙ ap (λ (h : Header). keyed_own hs n es d ++ filter test (keyed_rest hs (n + 1) (es ++ h ∷ []) ds')) g.0.header
    ∙ ap (λ l. keyed_own hs n es d ++ l) (filter_whole b hs (n + 1) (es ++ d.header ∷ []) ds ds' g.1
    (all_back (λ y. key_lt y.key b ≡ true) (keyed_own hs n es d) (keyed_rest hs (n + 1) (es ++ d.header ∷ []) ds) all))

module _ (hs : List Header) (ds ds' : List Dump) (b : Key) (headers : headers_of ds ≡ hs) (headers' : headers_of ds' ≡ hs)
    (grown : AreGrown b hs 0 ds ds') (all : AllByRecursion (λ y. key_lt y.key b ≡ true) (keyed_rest hs 0 [] ds)) where
  -- what was merged so far is what comes before this key
  pub before_is : filter (λ y. key_lt y.key b) (merged_items ds') ≡ merged_items ds
  before_is =
      ap (filter (λ y. key_lt y.key b)) (merged_by_input ds' ∙ ap (λ (h : List Header). by_key (keyed_rest h 0 [] ds')) headers')
      ∙ filter-by_key (λ y. key_lt y.key b) (keyed_rest hs 0 [] ds')
      ∙ ap by_key (filter_whole b hs 0 [] ds ds' grown all)
      ∙ sym (merged_by_input ds ∙ ap (λ (h : List Header). by_key (keyed_rest h 0 [] ds)) headers)

  -- so the items before a fault of this key are those
  pub before_fault : (f : KeyedFault) → f.key ≡ b → items_before f (merged_items ds') ≡ merged_items ds
  before_fault f e = ap (λ (k : Key). filter (λ y. key_lt y.key k) (merged_items ds')) e ∙ before_is

-- ---- a sorted list begins with what comes before a key

later_fail : (b : Key) (x : Keyed) (xs : List Keyed) → key_lt x.key b ≡ false → AllByRecursion (λ y. key_lt y.key x.key ≡ false) xs → filter (λ y. key_lt y.key b) xs ≡ []
later_fail b x [] e h = refl
later_fail b x (y ∷ xs) e h = rw (by_test (key_lt y.key b) refl) (later_fail b x xs e h.1)
  where
    by_test : (c : Bool) → key_lt y.key b ≡ c → c ≡ false
    by_test false f = refl
    by_test true f = let g = key_trans y.key b x.key f e in let n = h.0 in cc

pub sorted_begins : (b : Key) (ks : List Keyed) → IsSorted ks → (rest : List Keyed) × (ks ≡ filter (λ y. key_lt y.key b) ks ++ rest)
sorted_begins b [] s = ([], refl)
sorted_begins b (x ∷ xs) s = by_test (key_lt x.key b) refl (sorted_begins b xs s.1)
  where
    by_test : (c : Bool) → key_lt x.key b ≡ c → (rest : List Keyed) × (xs ≡ filter (λ y. key_lt y.key b) xs ++ rest) → (rest : List Keyed)
        × (x ∷ xs ≡ cond c (x ∷ filter (λ y. key_lt y.key b) xs) (filter (λ y. key_lt y.key b) xs) ++ rest)
    by_test true e r = (r.0, ap (λ l. x ∷ l) r.1)
    by_test false e r = (x ∷ xs, ap (λ l. l ++ x ∷ xs) (sym (later_fail b x xs e s.0)))

-- ---- the first fault

abbrev pub faults_rest : List Header → ℕ → List Dump → List KeyedFault
faults_rest hs n [] = []
faults_rest hs n (d ∷ ds) = cons_option (option_map (λ f. record { key = key_after (factor hs d.header) n d.items; fault = f }) d.fault) (faults_rest hs (n + 1) ds)

pub faults_are : (hs : List Header) (earlier ds : List Dump) → filter_map (λ o. o) (each_after (keyed_fault hs) earlier ds) ≡ faults_rest hs (length earlier) ds
faults_are hs earlier [] = refl
faults_are hs earlier (d ∷ ds) =
    ap (cons_option (keyed_fault hs earlier d)) (faults_are hs (earlier ++ d ∷ []) ds ∙ ap (λ n. faults_rest hs n ds) (length_push earlier d))

stays : (f : KeyedFault) (xs : List KeyedFault) → AllByRecursion (λ g. key_lt f.key g.key ≡ true) xs → fold earlier_fault f xs ≡ f
stays f [] h = refl
stays f (x ∷ xs) h = rw (key_never f.key x.key h.0) (stays f xs h.1)

reaches : (f a : KeyedFault) (xs ys : List KeyedFault) → key_lt f.key a.key ≡ true → AllByRecursion (λ g. key_lt f.key g.key ≡ true) xs
    → AllByRecursion (λ g. key_lt f.key g.key ≡ true) ys → fold earlier_fault a (xs ++ f ∷ ys) ≡ f
reaches f a [] ys e h k = ap (λ c. fold earlier_fault (cond c f a) ys) e ∙ stays f ys k
reaches f a (x ∷ xs) ys e h k = by_test (key_lt x.key a.key) (reaches f x xs ys h.0 h.1 k) (reaches f a xs ys e h.1 k)
  where
    by_test : (c : Bool) → fold earlier_fault x (xs ++ f ∷ ys) ≡ f → fold earlier_fault a (xs ++ f ∷ ys) ≡ f → fold earlier_fault (cond c x a) (xs ++ f ∷ ys) ≡ f
    by_test true p q = p
    by_test false p q = q

first_of : (f : KeyedFault) (xs ys : List KeyedFault) → AllByRecursion (λ g. key_lt f.key g.key ≡ true) xs
    → AllByRecursion (λ g. key_lt f.key g.key ≡ true) ys → reduce earlier_fault (xs ++ f ∷ ys) ≡ Some f
first_of f [] ys h k = ap (λ g. Some g) (stays f ys k)
first_of f (x ∷ xs) ys h k = ap (λ g. Some g) (reaches f x xs ys h.0 h.1 k)

-- no fault of these inputs is at or before this key
abbrev pub NoneBefore : Key → List Header → ℕ → List Dump → Type 0
NoneBefore b hs n [] = ⊤
NoneBefore b hs n (d ∷ ds) = ((f : Fault) → d.fault ≡ Some f → key_lt b (key_after (factor hs d.header) n d.items) ≡ true) × NoneBefore b hs (n + 1) ds

-- .. but for the input at an index
abbrev pub OthersLater : Key → List Header → ℕ → ℕ → List Dump → Type 0
OthersLater b hs n k [] = ⊤
OthersLater b hs n zero (d ∷ ds) = NoneBefore b hs (n + 1) ds
OthersLater b hs n (suc k) (d ∷ ds) = ((f : Fault) → d.fault ≡ Some f → key_lt b (key_after (factor hs d.header) n d.items) ≡ true) × OthersLater b hs (n + 1) k ds

none_before : (b : Key) (hs : List Header) (n : ℕ) (ds : List Dump) → NoneBefore b hs n ds → AllByRecursion (λ g. key_lt b g.key ≡ true) (faults_rest hs n ds)
none_before b hs n [] h = tt
none_before b hs n (d ∷ ds) h = by_fault d.fault h.0 (none_before b hs (n + 1) ds h.1)
  where
    by_fault : (o : Option Fault) → ((f : Fault) → o ≡ Some f → key_lt b (key_after (factor hs d.header) n d.items) ≡ true)
        → AllByRecursion (λ g. key_lt b g.key ≡ true) (faults_rest hs (n + 1) ds)
        → AllByRecursion (λ g. key_lt b g.key ≡ true) (cons_option (option_map (λ f. record { key = key_after (factor hs d.header) n d.items; fault = f }) o) (faults_rest hs (n + 1) ds))
    by_fault None h more = more
    by_fault (Some f) h more = (h f refl, more)

-- the fault of the input at an index, among the others
fault_among : (b : Key) (hs : List Header) (n m k : ℕ) (ds : List Dump) (d : Dump) (f : Fault) → m ≡ n + k → slice_get ds k ≡ Some d
    → d.fault ≡ Some f → b ≡ key_after (factor hs d.header) m d.items → OthersLater b hs n k ds
    → (xs : List KeyedFault) × (ys : List KeyedFault) × (faults_rest hs n ds ≡ xs ++ record { key = b; fault = f } ∷ ys)
    × AllByRecursion (λ g. key_lt b g.key ≡ true) xs × AllByRecursion (λ g. key_lt b g.key ≡ true) ys
fault_among b hs n m k [] d f e at fault key later = cc
fault_among b hs n m zero (c ∷ ds) d f e at fault key later =
    let same : c ≡ d = cc in
    let here : n ≡ m = omega arith in
    let own : c.fault ≡ Some f = ap (λ (x : Dump). x.fault) same ∙ fault in
    let place : key_after (factor hs c.header) n c.items ≡ b = ap (λ (x : Dump). key_after (factor hs x.header) n x.items) same
    ∙ ap (λ i. key_after (factor hs d.header) i d.items) here ∙ sym key in (
      [],
      faults_rest hs (n + 1) ds,
      ap (λ (o : Option Fault). cons_option (option_map (λ g. record { key = key_after (factor hs c.header) n c.items; fault = g }) o)
          (faults_rest hs (n + 1) ds)) own ∙ ap (λ (x : Key). record { key = x; fault = f } ∷ faults_rest hs (n + 1) ds) place,
      tt,
      none_before b hs (n + 1) ds later,
    )
fault_among b hs n m (suc k) (c ∷ ds) d f e at fault key later =
    let r = fault_among b hs (n + 1) m k ds d f (omega arith) at fault key later.1 in
    by_fault c.fault later.0 r
  where
    by_fault : (o : Option Fault) → ((g : Fault) → o ≡ Some g → key_lt b (key_after (factor hs c.header) n c.items) ≡ true)
        → ((xs : List KeyedFault) × (ys : List KeyedFault) × (faults_rest hs (n + 1) ds ≡ xs ++ record { key = b; fault = f } ∷ ys)
        × AllByRecursion (λ g. key_lt b g.key ≡ true) xs × AllByRecursion (λ g. key_lt b g.key ≡ true) ys)
        → (xs : List KeyedFault) × (ys : List KeyedFault) × (cons_option
        (option_map (λ g. record { key = key_after (factor hs c.header) n c.items; fault = g }) o) (faults_rest hs (n + 1) ds)
        ≡ xs ++ record { key = b; fault = f } ∷ ys) × AllByRecursion (λ g. key_lt b g.key ≡ true) xs × AllByRecursion (λ g. key_lt b g.key ≡ true) ys
    by_fault None h r = r
    by_fault (Some g) h r = let x : KeyedFault = record { key = key_after (factor hs c.header) n c.items; fault = g } in (x ∷ r.0, r.1, ap (λ l. x ∷ l) r.2, (h g refl, r.3), r.4)

-- it is the first fault
pub first_is : (hs : List Header) (ds : List Dump) (k : ℕ) (d : Dump) (f : Fault) → headers_of ds ≡ hs → slice_get ds k ≡ Some d → d.fault ≡ Some f
    → OthersLater (key_after (factor hs d.header) k d.items) hs 0 k ds
    → first_fault ds ≡ Some (record { key = key_after (factor hs d.header) k d.items; fault = f })
unfolding first_fault
first_is hs ds k d f headers at fault later =
    let b = key_after (factor hs d.header) k d.items in
    let r = fault_among b hs 0 k k ds d f (omega arith) at fault refl later in
    ap (reduce earlier_fault) (ap (λ (h : List Header). filter_map (λ o. o) (each_after (keyed_fault h) [] ds)) headers ∙ faults_are hs [] ds ∙ r.2)
    ∙ first_of (record { key = b; fault = f }) r.0 r.1 r.3 r.4
