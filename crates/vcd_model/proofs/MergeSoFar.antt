-- The outcome of a merge, by what was merged of its inputs: if one of them has the first fault,
-- and where they continue.
use Rattle.vcd_model.proofs.Cited.{◌≡◌, ℕ, ◌+◌, ◌<◌, ◌≤◌, Bool, true, false, cond, ◌==◌, List, [], ◌∷◌, ◌++◌, Option, Some, None, refl, sym, ap, subst, ◌∙◌, arith, ◌⊎◌, inl, inr, filter, filter_map, fold, option_map, ⊤, AllByRecursion, reduce, cons_option, cases_lt, filter-append, each_after, Header, BodyItem, IsPrefixOf, Dump, Key, key_lt, Keyed, KeyedFault, earlier_fault, factor, headers_of, items_before, insert_by_key, key_after, keyed_fault, by_key, merge_close, merge_open, merged_items, keyed_rest, Outcome, clean_outcome, fault_outcome, name_at, Fault}
use Rattle.std.proofs.Common.{append-nil, append_assoc}
use Rattle.vcd_model.specs.Merge.{first_fault}
use Rattle.vcd_model.specs.Outcome.{merge_outcome}
use Rattle.vcd_model.proofs.BodyFacts.{all_back}
use Rattle.vcd_model.proofs.Growing.{merge_grows}
use Rattle.vcd_model.proofs.MergeChanges.{later_key}
use Rattle.vcd_model.proofs.MergedLists.{merged_by}
use Rattle.vcd_model.proofs.MergedPrefix.{AreGrown, before_fault, before_is, faults_are, faults_rest, sorted_begins}
use Rattle.vcd_model.proofs.MergeOrder.{Before, IsSorted, NotBehind, all_by_key, before_key, key_before, key_chain, key_trans, not_behind, sorted_by_key}
use Rattle.vcd_model.proofs.MergeOrder as order

-- ---- the key right after another

abbrev pub after_key : Key → Key
after_key a = record { time = a.time; input = a.input; place = a.place + 1 }

-- nothing is between them
pub none_between : (a b : Key) → key_lt a b ≡ true → key_lt b (after_key a) ≡ false
none_between a b h = by_other (key_lt b (after_key a)) refl
  where
    clash : Before a b → Before b (after_key a) → ⊥
    clash (inl l) (inl m) = omega arith
    clash (inl l) (inr (e, m)) = omega arith
    clash (inr (e, l)) (inl m) = omega arith
    clash (inr (e, inl l)) (inr (f, inl m)) = omega arith
    clash (inr (e, inl l)) (inr (f, inr (g, m))) = omega arith
    clash (inr (e, inr (g, l))) (inr (f, inl m)) = omega arith
    clash (inr (e, inr (g, l))) (inr (f, inr (k, m))) = omega arith

    by_other : (c : Bool) → key_lt b (after_key a) ≡ c → c ≡ false
    by_other true e = absurd (clash (key_before a b h) (key_before b (after_key a) e))
    by_other false e = refl

-- what is not after a key is before the one after it
pub up_to : (y a : Key) → key_lt a y ≡ false → key_lt y (after_key a) ≡ true
up_to y a h = before_key y (after_key a) (by_time (not_behind a y h) (cases_lt y.time a.time))
  where
    by_input : NotBehind y a → y.time ≡ a.time → (y.input < a.input) ⊎ (a.input ≤ y.input) → Before y (after_key a)
    by_input n e (inl l) = inr (e, inl l)
    by_input n e (inr l) = let i = n.input e in let f : y.input ≡ a.input = omega arith in let p = n.place e f in inr (e, inr (f, omega arith))

    by_time : NotBehind y a → (y.time < a.time) ⊎ (a.time ≤ y.time) → Before y (after_key a)
    by_time n (inl l) = inl l
    by_time n (inr l) = let t = n.time in let e : y.time ≡ a.time = omega arith in by_input n e (cases_lt y.input a.input)

-- ---- a position after more items

pub still_later : (b : Key) (scale input : ℕ) (items more : List BodyItem) → key_lt b (key_after scale input items) ≡ true → key_lt b (key_after scale input (items ++ more)) ≡ true
still_later b scale input items [] h = rw append-nil h
still_later b scale input items (x ∷ more) h = key_chain b (key_after scale input items) (key_after scale input (items ++ x ∷ more)) h (later_key scale input items x more)

pub still_late : (b : Key) (scale input : ℕ) (items more : List BodyItem) → key_lt (key_after scale input items) b ≡ false → key_lt (key_after scale input (items ++ more)) b ≡ false
still_late b scale input items [] h = rw append-nil h
still_late b scale input items (x ∷ more) h = by_test (key_lt (key_after scale input (items ++ x ∷ more)) b) refl
  where
    by_test : (c : Bool) → key_lt (key_after scale input (items ++ x ∷ more)) b ≡ c → c ≡ false
    by_test false f = refl
    by_test true f = let g = key_chain (key_after scale input items) (key_after scale input (items ++ x ∷ more)) b (later_key scale input items x more) f in cc

-- ---- sorted lists

inserted : (P : Keyed → Type 0) (x : Keyed) (ys : List Keyed) → AllByRecursion P (insert_by_key x ys) → P x × AllByRecursion P ys
inserted P x [] h = (h.0, tt)
inserted P x (y ∷ ys) h = by_test (key_lt x.key y.key) h (inserted P x ys)
  where
    by_test : (b : Bool) → AllByRecursion P (cond b (x ∷ y ∷ ys) (y ∷ insert_by_key x ys))
        → (AllByRecursion P (insert_by_key x ys) → P x × AllByRecursion P ys) → P x × AllByRecursion P (y ∷ ys)
    by_test true h more = (h.0, h.1)
    by_test false h more = let r = more h.1 in (r.0, (h.0, r.1))

-- what holds of a list by key holds of the list
pub all_keyed : (P : Keyed → Type 0) (xs : List Keyed) → AllByRecursion P (by_key xs) → AllByRecursion P xs
all_keyed P [] h = tt
all_keyed P (x ∷ xs) h = let r = inserted P x (by_key xs) h in (r.0, all_keyed P xs r.1)

-- all up to the last of a sorted list
pub up_to_last : (xs : List Keyed) (x : Keyed) → IsSorted (xs ++ x ∷ []) → AllByRecursion (λ y. key_lt y.key (after_key x.key) ≡ true) (xs ++ x ∷ [])
up_to_last [] x s = (before_key x.key (after_key x.key) (inr (refl, inr (refl, omega arith))), tt)
up_to_last (y ∷ xs) x s = (up_to y.key x.key (all_back (λ z. key_lt z.key y.key ≡ false) xs (x ∷ []) s.0).0, up_to_last xs x s.1)

-- ---- faults

-- no fault of these inputs comes before this key
abbrev pub AreLate : Key → List Header → ℕ → List Dump → Type 0
AreLate b hs n [] = ⊤
AreLate b hs n (d ∷ ds) = ((f : Fault) → d.fault ≡ Some f → key_lt (key_after (factor hs d.header) n d.items) b ≡ false) × AreLate b hs (n + 1) ds

late_faults : (b : Key) (hs : List Header) (n : ℕ) (ds : List Dump) → AreLate b hs n ds → AllByRecursion (λ g. key_lt g.key b ≡ false) (faults_rest hs n ds)
late_faults b hs n [] h = tt
late_faults b hs n (d ∷ ds) h = by_fault d.fault h.0 (late_faults b hs (n + 1) ds h.1)
  where
    by_fault : (o : Option Fault) → ((f : Fault) → o ≡ Some f → key_lt (key_after (factor hs d.header) n d.items) b ≡ false)
        → AllByRecursion (λ g. key_lt g.key b ≡ false) (faults_rest hs (n + 1) ds)
        → AllByRecursion (λ g. key_lt g.key b ≡ false) (cons_option (option_map (λ f. record { key = key_after (factor hs d.header) n d.items; fault = f }) o) (faults_rest hs (n + 1) ds))
    by_fault None h more = more
    by_fault (Some f) h more = (h f refl, more)

kept_by_fold : (P : KeyedFault → Type 0) (a : KeyedFault) (xs : List KeyedFault) → P a → AllByRecursion P xs → P (fold earlier_fault a xs)
kept_by_fold P a [] p h = p
kept_by_fold P a (x ∷ xs) p h = kept_by_fold P (earlier_fault a x) xs (by_test (key_lt x.key a.key)) h.1
  where
    by_test : (b : Bool) → P (cond b x a)
    by_test true = h.0
    by_test false = p

pub first_all : (P : KeyedFault → Type 0) (xs : List KeyedFault) (f : KeyedFault) → reduce earlier_fault xs ≡ Some f → AllByRecursion P xs → P f
first_all P [] f e h = cc
first_all P (x ∷ xs) f e h = let same : fold earlier_fault x xs ≡ f = cc in subst P same (kept_by_fold P x xs h.0 h.1)

-- the first fault does not come before it either
pub first_late : (b : Key) (hs : List Header) (ds : List Dump) (f : KeyedFault) → headers_of ds ≡ hs → first_fault ds ≡ Some f → AreLate b hs 0 ds → key_lt f.key b ≡ false
unfolding first_fault
first_late b hs ds f headers e late =
    let all : filter_map (λ o. o) (each_after (keyed_fault (headers_of ds)) [] ds) ≡ faults_rest hs 0 ds = ap
    (λ (h : List Header). filter_map (λ o. o) (each_after (keyed_fault h) [] ds)) headers ∙ faults_are hs [] ds in
    first_all (λ g. key_lt g.key b ≡ false) (faults_rest hs 0 ds) f (sym (ap (reduce earlier_fault) all) ∙ e) (late_faults b hs 0 ds late)

-- ---- outcomes

pub fault_output : (output name : List ℕ) (f : Fault) → (fault_outcome output name f).output ≡ output
fault_output output name f = by_kind (f.number == 31) refl
  where
    by_kind : (b : Bool) → (f.number == 31) ≡ b → (fault_outcome output name f).output ≡ output
    by_kind true e = rw (e, fault_outcome) refl
    by_kind false e = rw (e, fault_outcome) refl

-- with a first fault
pub with_fault : (names : List (List ℕ)) (ds : List Dump) (f : KeyedFault) → first_fault ds ≡ Some f
    → merge_outcome names ds ≡ fault_outcome (merge_open (headers_of ds) (items_before f (merged_items ds))) (name_at names f.key.input) f.fault
unfolding merge_outcome
with_fault names ds f e = rw (e, merge_outcome) refl

-- without a fault
pub without_fault : (names : List (List ℕ)) (ds : List Dump) → first_fault ds ≡ None
    → merge_outcome names ds ≡ clean_outcome (merge_open (headers_of ds) (merged_items ds) ++ merge_close (merged_items ds))
unfolding merge_outcome
without_fault names ds e = rw (e, merge_outcome) refl

filter_all : (test : Keyed → Bool) (xs : List Keyed) → AllByRecursion (λ x. test x ≡ true) xs → filter test xs ≡ xs
filter_all test [] h = refl
filter_all test (x ∷ xs) h = rw h.0 (ap (λ l. x ∷ l) (filter_all test xs h.1))

module _ (names : List (List ℕ)) (hs : List Header) (ds ds' : List Dump) (b : Key) (headers : headers_of ds ≡ hs) (headers' : headers_of ds' ≡ hs)
    (grown : AreGrown b hs 0 ds ds') (all : AllByRecursion (λ y. key_lt y.key b ≡ true) (keyed_rest hs 0 [] ds)) where
  -- the first fault is at this key: the output is that of what was merged so far
  pub fault_outcome_is : (f : Fault) → first_fault ds' ≡ Some (record { key = b; fault = f })
      → merge_outcome names ds' ≡ fault_outcome (merge_open hs (merged_items ds)) (name_at names b.input) f
  fault_outcome_is f e =
      with_fault names ds' (record { key = b; fault = f }) e
      ∙ ap (λ (h : List Header). fault_outcome (merge_open h (items_before (record { key = b; fault = f }) (merged_items ds'))) (name_at names b.input) f) headers'
      ∙ ap (λ (l : List Keyed). fault_outcome (merge_open hs l) (name_at names b.input) f) (before_fault hs ds ds' b headers headers' grown all (record { key = b; fault = f }) refl)

  -- no fault comes before this key: the output begins with that of what was merged so far
  pub outcome_begins : AreLate b hs 0 ds' → IsPrefixOf (merge_open hs (merged_items ds)) (merge_outcome names ds').output
  outcome_begins late = by_fault (first_fault ds') refl
    where
      sorted : IsSorted (merged_items ds')
      sorted = subst IsSorted (sym (merged_by hs ds' headers')) (sorted_by_key (keyed_rest hs 0 [] ds'))

      more : (rest : List Keyed) × (merged_items ds' ≡ merged_items ds ++ rest)
      more =
          let s = sorted_begins b (merged_items ds') sorted in
          (s.0, s.1 ∙ ap (λ l. l ++ s.0) (before_is hs ds ds' b headers headers' grown all))

      less : AllByRecursion (λ y. key_lt y.key b ≡ true) (merged_items ds)
      less = subst (AllByRecursion (λ y. key_lt y.key b ≡ true)) (sym (merged_by hs ds headers)) (all_by_key (λ y. key_lt y.key b ≡ true) (keyed_rest hs 0 [] ds) all)

      by_fault : (o : Option KeyedFault) → first_fault ds' ≡ o → IsPrefixOf (merge_open hs (merged_items ds)) (merge_outcome names ds').output
      by_fault None e =
          let g = merge_grows hs (merged_items ds) more.0 in (
            g.0 ++ merge_close (merged_items ds'),
            ap (λ (o : Outcome). o.output) (without_fault names ds' e)
                ∙ ap (λ (h : List Header). merge_open h (merged_items ds') ++ merge_close (merged_items ds')) headers'
                ∙ ap (λ (l : List Keyed). merge_open hs l ++ merge_close (merged_items ds')) more.1
                ∙ ap (λ l. l ++ merge_close (merged_items ds')) g.1
                ∙ append_assoc (merge_open hs (merged_items ds)) g.0 (merge_close (merged_items ds')),
          )
      by_fault (Some f) e =
          let test = λ (y : Keyed). key_lt y.key f.key in
          let last = first_late b hs ds' f headers' e late in
          let own = filter_all test (merged_items ds) (order.all_more (λ y. key_lt y.key b ≡ true) (λ y. key_lt y.key f.key ≡ true) (merged_items ds)
          (λ y h. key_trans y.key b f.key h last) less) in
          let g = merge_grows hs (merged_items ds) (filter test more.0) in (
            g.0,
            ap (λ (o : Outcome). o.output) (with_fault names ds' f e)
                ∙ fault_output (merge_open (headers_of ds') (items_before f (merged_items ds'))) (name_at names f.key.input) f.fault
                ∙ ap (λ (h : List Header). merge_open h (items_before f (merged_items ds'))) headers'
                ∙ ap (λ (l : List Keyed). merge_open hs (filter test l)) more.1
                ∙ ap (merge_open hs) (filter-append test (merged_items ds) more.0 ∙ ap (λ l. l ++ filter test more.0) own)
                ∙ g.1,
          )

-- the output of any merge under these headers begins with the head
pub head_first : (names : List (List ℕ)) (hs : List Header) (ds : List Dump) → headers_of ds ≡ hs → IsPrefixOf (merge_open hs []) (merge_outcome names ds).output
head_first names hs ds headers = by_fault (first_fault ds) refl
  where
    by_fault : (o : Option KeyedFault) → first_fault ds ≡ o → IsPrefixOf (merge_open hs []) (merge_outcome names ds).output
    by_fault None e =
        let g = merge_grows hs [] (merged_items ds) in (
          g.0 ++ merge_close (merged_items ds),
          ap (λ (o : Outcome). o.output) (without_fault names ds e)
              ∙ ap (λ (h : List Header). merge_open h (merged_items ds) ++ merge_close (merged_items ds)) headers
              ∙ ap (λ l. l ++ merge_close (merged_items ds)) g.1
              ∙ append_assoc (merge_open hs []) g.0 (merge_close (merged_items ds)),
        )
    by_fault (Some f) e =
        let g = merge_grows hs [] (items_before f (merged_items ds)) in (
          g.0,
          ap (λ (o : Outcome). o.output) (with_fault names ds f e)
              ∙ fault_output (merge_open (headers_of ds) (items_before f (merged_items ds))) (name_at names f.key.input) f.fault
              ∙ ap (λ (h : List Header). merge_open h (items_before f (merged_items ds))) headers
              ∙ g.1,
        )
