-- In a merge without a fault each input is whole.
use Rattle.vcd_laws.proofs.Cited.{◌≡◌, Bool, true, false, cond, List, [], ◌∷◌, ◌++◌, length, map, filter_map, find, Option, Some, None, option_map, refl, ap, ◌∙◌, one-add, AllByRecursion, before_first, reduce, cons_option, each_after, Header, BodyPhrase, items_of, Fault, Placed, phrases_of, Dump, KeyedFault, keyed_fault, key_after, earlier_fault, factor, headers_of, placed_is_too_large, Opened, body_of, items_in, fault_in}
use Rattle.vcd_model.specs.Merge.{first_fault, dump_of}
use Rattle.vcd_model.specs.Outcome.{dumps_of}

-- an input with all its items
abbrev pub whole_dump : Opened → Dump
whole_dump o = record { header = o.header; items = items_in o; fault = None }

-- ---- no input has a fault

reduce_none : {X : Type 0} (f : X → X → X) (xs : List X) → reduce f xs ≡ None → xs ≡ []
reduce_none f [] e = refl
reduce_none f (x ∷ xs) e = cc

none_in : (hs : List Header) (earlier ds : List Dump)
    → filter_map (λ o. o) (each_after (keyed_fault hs) earlier ds) ≡ []
    → AllByRecursion (λ d. d.fault ≡ None) ds
none_in hs earlier [] e = tt
none_in hs earlier (d ∷ ds) e = by_fault d.fault refl e (none_in hs (earlier ++ d ∷ []) ds)
  where
    rest : List KeyedFault
    rest = filter_map (λ o. o) (each_after (keyed_fault hs) (earlier ++ d ∷ []) ds)

    by_fault : (o : Option Fault) → d.fault ≡ o
        → cons_option (option_map (λ f. record {
          key = key_after (factor hs d.header) (length earlier) d.items;
          fault = f;
        }) o) rest ≡ []
        → (rest ≡ [] → AllByRecursion (λ x. x.fault ≡ None) ds)
        → AllByRecursion (λ x. x.fault ≡ None) (d ∷ ds)
    by_fault None f g more = (f, more g)
    by_fault (Some x) f g more = cc

no_faults : (ds : List Dump) → first_fault ds ≡ None → AllByRecursion (λ d. d.fault ≡ None) ds
unfolding first_fault
no_faults ds e = none_in (headers_of ds) [] ds
    (reduce_none earlier_fault (filter_map (λ o. o)
    (each_after (keyed_fault (headers_of ds)) [] ds)) e)

-- ---- so each has all its items

all_before : {X : Type 0} (test : X → Bool) (xs : List X) → find test xs ≡ None
    → before_first test xs ≡ xs
all_before test [] e = refl
all_before test (x ∷ xs) e = by_test (test x) refl e (all_before test xs)
  where
    by_test : (b : Bool) → test x ≡ b → cond b (Some x) (find test xs) ≡ None
        → (find test xs ≡ None → before_first test xs ≡ xs) → before_first test (x ∷ xs) ≡ x ∷ xs
    by_test true f g more = cc
    by_test false f g more = rw (f, one-add) (ap (λ l. x ∷ l) (more g))

one_whole : (hs : List Header) (o : Opened)
    → (dump_of (factor hs o.header) o.header (fault_in o) (body_of o)).fault ≡ None
    → dump_of (factor hs o.header) o.header (fault_in o) (body_of o) ≡ whole_dump o
unfolding dump_of
one_whole hs o e = by_find (find (placed_is_too_large (factor hs o.header)) (body_of o).placed) refl
    e
  where
    fault_of : Option (Placed BodyPhrase) → Option Fault
    fault_of f = elim f [
      | Some p ↦ Some (record { number = 20; line = p.line })
      | None ↦ fault_in
          o
    ]

    by_find : (f : Option (Placed BodyPhrase))
        → find (placed_is_too_large (factor hs o.header)) (body_of o).placed ≡ f → fault_of f ≡ None
        → ◌≡◌ {A = Dump} (record {
          header = o.header;
          items =
              items_of (phrases_of (before_first (placed_is_too_large (factor hs o.header))
              (body_of o).placed));
          fault = fault_of (find (placed_is_too_large (factor hs o.header)) (body_of o).placed);
        })
        (whole_dump o)
    by_find None f g =
        ap (λ (l : List (Placed BodyPhrase)). record {
          header = o.header;
          items = items_of (phrases_of l);
          fault = fault_of (find (placed_is_too_large (factor hs o.header)) (body_of o).placed);
        })
        (all_before (placed_is_too_large (factor hs o.header)) (body_of o).placed f)
        ∙ ap (λ (x : Option (Placed BodyPhrase)). record {
          header = o.header;
          items = items_in o;
          fault = fault_of x;
        }) f
        ∙ ap (λ (x : Option Fault). record { header = o.header; items = items_in o; fault = x }) g
    by_find (Some p) f g = cc

all_whole : (hs : List Header) (os : List Opened)
    → AllByRecursion (λ d. d.fault ≡ None) (map
    (λ o. dump_of (factor hs o.header) o.header (fault_in o) (body_of o)) os)
    → map (λ o. dump_of (factor hs o.header) o.header (fault_in o) (body_of o)) os
    ≡ map whole_dump os
all_whole hs [] h = refl
all_whole hs (o ∷ os) h =
    ap (λ d. d ∷ map (λ x. dump_of (factor hs x.header) x.header (fault_in x) (body_of x)) os)
    (one_whole hs o h.0) ∙ ap (λ l. whole_dump o ∷ l) (all_whole hs os h.1)

pub dumps_whole : (os : List Opened) → first_fault (dumps_of os) ≡ None
    → dumps_of os ≡ map whole_dump os
unfolding dumps_of
dumps_whole os e = all_whole (map (λ (o : Opened). o.header) os) os
    (no_faults (map (λ o. dump_of (factor (map (λ (x : Opened). x.header) os) o.header) o.header
    (fault_in o) (body_of o)) os) e)
