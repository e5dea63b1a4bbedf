-- A merge of inputs that `check` passes.
use Rattle.vcd_laws.proofs.Cited.{◌≡◌, ℕ, ◌+◌, ◌≤◌, false, List, [], ◌∷◌, ◌++◌, length, map, find, filter_map, is_none, sum_by, Option, Some, None, option_map, Ok, Err, ◌⊎◌, inl, inr, refl, sym, ap, ◌∙◌, subst, arith, AllByRecursion, reduce, cons_option, length_push, sum_by-append, sum_by-cons, each_after, Input, Stream, stream_of, Header, HeaderPhrase, declarations_of, read_header, header_fault_of, BodyPhrase, Fault, Placed, phrases_of, Ending, Reading, AtFault, AtEnd, AtLast, Dump, KeyedFault, factor, placed_is_too_large, scaled_fault, earlier_fault, keyed_fault, key_after, headers_of, merged_items, items_before, merge_open, Outcome, Opened, fault_outcome, declarations_allowed, allowed_after, body_of, fault_in, name_at, dumps_of, merge_outcome, Want, outcome, OpenAll, Opens, run_of, EndsWell, header_in, first_too_large, NamesTooLarge, CheckedMergeIsSafe, all_back, faults_rest, faults_are, first_all, with_fault, without_fault}
use Rattle.std.proofs.Common.{append_assoc}
use Rattle.vcd_model.specs.Header.{header_of}
use Rattle.vcd_model.specs.Merge.{dump_of, first_fault}
use Rattle.vcd_model.specs.Outcome.{open_from}
use Rattle.vcd_model.specs.Job.{request_of}
use Rattle.vcd_laws.proofs.RunLaws.{fault_status}
use Rattle.vcd_laws.proofs.Safe.{header_run, check_ends, no_fault, names_fault}
use Rattle.vcd_laws.proofs.Settling.{Opening, opening, opened_with, opening_with, opens_by, opening_whole, run_over, run_is, dump_in, dumps_in}
use Rattle.vcd_laws.proofs.FewDeclarations.{few_declarations}

-- ---- one input

-- an input that is read alone
abbrev pub own : ℕ → Input → Opened
own limit input = opened_with (stream_of limit input) (read_header declarations_allowed (stream_of limit input))

-- its header ends, and its body has no fault
record IsClean (limit : ℕ) (input : Input) : Type 0 where
  header : (read_header declarations_allowed (stream_of limit input)).ending ≡ AtLast
  body : fault_in (own limit input) ≡ None

whole_header : (stream : Stream) (r : Reading HeaderPhrase) → header_fault_of stream r ≡ None → r.ending ≡ AtLast
whole_header stream r e = by_ending r.ending refl
  where
    by_ending : (x : Ending) → r.ending ≡ x → x ≡ AtLast
    by_ending (AtFault f) h = let g : header_fault_of stream r ≡ Some f = rw (h, header_fault_of) refl in cc
    by_ending AtEnd h = let g : is_none (header_fault_of stream r) ≡ false = rw (h, header_fault_of) refl in let i = ap is_none e in cc
    by_ending AtLast h = refl

is_clean : (limit : ℕ) (name : List ℕ) (input : Input) → (run_of Want.Check limit name input).status ≡ 0
    → IsClean limit input
unfolding open_from
is_clean limit name input h =
    let stream = stream_of limit input in
    let r = read_header declarations_allowed stream in
    by_fault (header_fault_of stream r) refl
  where
    r : Reading HeaderPhrase
    r = read_header declarations_allowed (stream_of limit input)

    by_fault : (f : Option Fault) → header_fault_of (stream_of limit input) (read_header declarations_allowed (stream_of limit input)) ≡ f → IsClean limit input
    by_fault (Some f) e =
        let opens : open_from limit [] (input ∷ []) ≡ Err (0, f) =
        opens_by limit [] input []
        ∙ ap (λ (f : Option Fault). opening 0 (own limit input) f (open_from limit (header_in limit input ∷ []) [])) e in
        absurd (fault_status [] name f (sym (ap (λ (d : Outcome). d.status) (header_run Want.Check limit name input f opens)) ∙ h))
    by_fault None e =
        let opens : Opens limit input (own limit input) =
        opens_by limit [] input []
        ∙ ap (λ (f : Option Fault). opening 0 (own limit input) f (open_from limit (header_in limit input ∷ []) [])) e in
        let check = check_ends limit name input (own limit input) opens in
        record {
          header = whole_header (stream_of limit input) (read_header declarations_allowed (stream_of limit input)) e;
          body = no_fault check.0 name (fault_in (own limit input)) (sym (ap (λ (d : Outcome). d.status) check.1) ∙ h);
        }

-- ---- all inputs open

abbrev pub count : Header → ℕ
count h = length h.declarations

opens_each : (limit : ℕ) (hs : List Header) (inputs : List Input) → AllByRecursion (IsClean limit) inputs
    → sum_by count hs + sum_by (λ i. count (header_in limit i)) inputs ≤ declarations_allowed
    → open_from limit hs inputs ≡ Ok (map (own limit) inputs)
unfolding open_from header_of
opens_each limit hs [] clean few = refl
opens_each limit hs (input ∷ inputs) clean few =
    let stream = stream_of limit input in
    let r = read_header declarations_allowed stream in
    let h = header_in limit input in
    let one = clean.0 in
    let last = one.header in
    let more : sum_by (λ i. count (header_in limit i)) (input ∷ inputs) ≡ count h + sum_by (λ i. count (header_in limit i)) inputs
    = sum_by-cons (λ i. count (header_in limit i)) input inputs in
    let fits : length (declarations_of (phrases_of r.placed)) ≤ allowed_after hs = omega arith in
    let same = few_declarations declarations_allowed (allowed_after hs) stream last fits in
    let sums : sum_by count (hs ++ h ∷ []) ≡ sum_by count hs + count h
    = sum_by-append count hs (h ∷ []) ∙ ap (λ n. sum_by count hs + n) (sum_by-cons count h [] ∙ omega arith) in
    opens_by limit hs input inputs
    ∙ ap (opening_with limit hs inputs stream) same
    ∙ opening_whole limit hs inputs stream r last
    ∙ ap (λ (t : Opening). opening 0 (own limit input) None t)
    (opens_each limit (hs ++ h ∷ []) inputs clean.1 (omega arith))

-- ---- the faults of a merge

abbrev pub headers : List Opened → List Header
headers os = map (λ (o : Opened). o.header) os

-- the fault of an input that has none of its own
scaled : (scale : ℕ) (own : Option Fault) (r : Reading BodyPhrase) → own ≡ None
    → ((find (placed_is_too_large scale) r.placed ≡ None) × (scaled_fault scale own r ≡ None))
    ⊎ ((p : Placed BodyPhrase) × (find (placed_is_too_large scale) r.placed ≡ Some p)
    × (scaled_fault scale own r ≡ Some (record { number = 20; line = p.line })))
scaled scale own r e = by_mark (find (placed_is_too_large scale) r.placed) refl
  where
    by_mark : (o : Option (Placed BodyPhrase)) → find (placed_is_too_large scale) r.placed ≡ o
        → ((find (placed_is_too_large scale) r.placed ≡ None) × (scaled_fault scale own r ≡ None))
        ⊎ ((p : Placed BodyPhrase) × (find (placed_is_too_large scale) r.placed ≡ Some p)
        × (scaled_fault scale own r ≡ Some (record { number = 20; line = p.line })))
    by_mark None f = inl (f, rw (f, scaled_fault) e)
    by_mark (Some p) f = inr (p, f, rw (f, scaled_fault) refl)

-- a fault of one of these inputs
pub record IsOf (hs : List Header) (os : List Opened) (f : KeyedFault) : Type 0 where
  pub earlier : List Opened
  pub input : Opened
  pub later : List Opened
  pub inputs : os ≡ earlier ++ input ∷ later
  pub place : f.key.input ≡ length earlier
  pub fault : (dump_in hs input).fault ≡ Some f.fault

pub each_is_of : (hs : List Header) (done os : List Opened) (n : ℕ) → n ≡ length done
    → AllByRecursion (IsOf hs (done ++ os)) (faults_rest hs n (map (dump_in hs) os))
unfolding dump_of
each_is_of hs done [] n e = tt
each_is_of hs done (o ∷ os) n e =
    by_fault (dump_in hs o).fault refl
    (subst (λ (l : List Opened). AllByRecursion (IsOf hs l) (faults_rest hs (n + 1) (map (dump_in hs) os)))
    (append_assoc done (o ∷ []) os) (each_is_of hs (done ++ o ∷ []) os (n + 1) (omega (arith, length_push done o))))
  where
    by_fault : (x : Option Fault) → (dump_in hs o).fault ≡ x
        → AllByRecursion (IsOf hs (done ++ o ∷ os)) (faults_rest hs (n + 1) (map (dump_in hs) os))
        → AllByRecursion (IsOf hs (done ++ o ∷ os)) (cons_option (option_map
        (λ f. record { key = key_after (factor hs (dump_in hs o).header) n (dump_in hs o).items; fault = f }) x)
        (faults_rest hs (n + 1) (map (dump_in hs) os)))
    by_fault None f more = more
    by_fault (Some x) f more =
        (record { earlier = done; input = o; later = os; inputs = refl; place = e; fault = f }, more)

-- if there is no fault, no timestamp is too large
none_large : (hs : List Header) (os : List Opened) (n : ℕ) → AllByRecursion (λ o. fault_in o ≡ None) os
    → faults_rest hs n (map (dump_in hs) os) ≡ []
    → AllByRecursion (λ o. find (placed_is_too_large (factor hs o.header)) (body_of o).placed ≡ None) os
unfolding dump_of
none_large hs [] n clean e = tt
none_large hs (o ∷ os) n clean e =
    by_case (scaled (factor hs o.header) (fault_in o) (body_of o) clean.0)
    (none_large hs os (n + 1) clean.1)
  where
    d : Dump
    d = dump_in hs o

    by_case : ((find (placed_is_too_large (factor hs o.header)) (body_of o).placed ≡ None) × (scaled_fault (factor hs o.header) (fault_in o) (body_of o) ≡ None))
        ⊎ ((p : Placed BodyPhrase) × (find (placed_is_too_large (factor hs o.header)) (body_of o).placed ≡ Some p)
        × (scaled_fault (factor hs o.header) (fault_in o) (body_of o) ≡ Some (record { number = 20; line = p.line })))
        → (faults_rest hs (n + 1) (map (dump_in hs) os) ≡ [] → AllByRecursion (λ o. find (placed_is_too_large (factor hs o.header)) (body_of o).placed ≡ None) os)
        → AllByRecursion (λ o. find (placed_is_too_large (factor hs o.header)) (body_of o).placed ≡ None) (o ∷ os)
    by_case (inl h) more = (h.0, more (rw (h.1) at e))
    by_case (inr h) more = let f = rw (h.2) at e in cc

none_reduced : (xs : List KeyedFault) → reduce earlier_fault xs ≡ None → xs ≡ []
none_reduced [] e = refl
none_reduced (x ∷ xs) e = cc

headers_same : (hs : List Header) (os : List Opened) → headers_of (map (dump_in hs) os) ≡ headers os
unfolding dump_of
headers_same hs [] = refl
headers_same hs (o ∷ os) = ap (λ l. o.header ∷ l) (headers_same hs os)

-- the list whose first fault counts
pub first_is : (os : List Opened) → first_fault (dumps_of os) ≡ reduce earlier_fault (faults_rest (headers os) 0 (map (dump_in (headers os)) os))
unfolding first_fault
first_is os =
    let hs = headers os in
    let ds = map (dump_in hs) os in
    ap first_fault (dumps_in os)
    ∙ ap (λ (h : List Header). reduce earlier_fault (filter_map (λ o. o) (each_after (keyed_fault h) [] ds))) (headers_same hs os)
    ∙ ap (reduce earlier_fault) (faults_are hs [] ds)

pub checked_merge_is_safe : CheckedMergeIsSafe
unfolding request_of dump_of
checked_merge_is_safe limit name names inputs checked few =
    let os = map (own limit) inputs in
    let clean = all_clean inputs checked in
    let opens : OpenAll limit inputs os = opens_each limit [] inputs clean (omega arith) in
    let done : outcome Want.Merge limit names inputs ≡ merge_outcome names (dumps_of os) =
    run_is Want.Merge limit names inputs ∙ ap (run_over Want.Merge names) opens in
    (os, opens, by_first os (bodies inputs clean) (outcome Want.Merge limit names inputs) done (first_fault (dumps_of os)) refl)
  where
    all_clean : (is : List Input) → AllByRecursion (λ i. (run_of Want.Check limit name i).status ≡ 0) is → AllByRecursion (IsClean limit) is
    all_clean [] h = tt
    all_clean (i ∷ is) h = (is_clean limit name i h.0, all_clean is h.1)

    bodies : (is : List Input) → AllByRecursion (IsClean limit) is → AllByRecursion (λ o. fault_in o ≡ None) (map (own limit) is)
    bodies [] h = tt
    bodies (i ∷ is) h = let c = h.0 in (c.body, bodies is h.1)

    by_first : (os : List Opened) → AllByRecursion (λ o. fault_in o ≡ None) os → (done : Outcome)
        → done ≡ merge_outcome names (dumps_of os) → (f : Option KeyedFault) → first_fault (dumps_of os) ≡ f
        → (AllByRecursion (λ o. first_too_large os o ≡ None) os × EndsWell done) ⊎ NamesTooLarge os names done
    by_first os clean done e None first =
        inl (
          none_large (headers os) os 0 clean (none_reduced (faults_rest (headers os) 0 (map (dump_in (headers os)) os)) (sym (first_is os) ∙ first)),
          subst EndsWell (sym (e ∙ without_fault names (dumps_of os) first)) (refl, refl),
        )
    by_first os clean done e (Some f) first =
        let hs = headers os in
        let is : IsOf hs os f = first_all (IsOf hs os) (faults_rest hs 0 (map (dump_in hs) os)) f (sym (first_is os) ∙ first) (each_is_of hs [] os 0 refl) in
        let o = is.input in
        let none : fault_in o ≡ None = (all_back (λ o. fault_in o ≡ None) is.earlier (o ∷ is.later) (subst (AllByRecursion (λ o. fault_in o ≡ None)) is.inputs clean)).0 in
        by_mark os done f is (e ∙ with_fault names (dumps_of os) f first) (scaled (factor hs o.header) (fault_in o) (body_of o) none)
      where
        by_mark : (os : List Opened) (done : Outcome) (f : KeyedFault) (is : IsOf (headers os) os f)
            → done ≡ fault_outcome (merge_open (headers_of (dumps_of os)) (items_before f (merged_items (dumps_of os)))) (name_at names f.key.input) f.fault
            → ((find (placed_is_too_large (factor (headers os) is.input.header)) (body_of is.input).placed ≡ None)
            × (scaled_fault (factor (headers os) is.input.header) (fault_in is.input) (body_of is.input) ≡ None))
            ⊎ ((p : Placed BodyPhrase) × (find (placed_is_too_large (factor (headers os) is.input.header)) (body_of is.input).placed ≡ Some p)
            × (scaled_fault (factor (headers os) is.input.header) (fault_in is.input) (body_of is.input) ≡ Some (record { number = 20; line = p.line })))
            → (AllByRecursion (λ o. first_too_large os o ≡ None) os × EndsWell done) ⊎ NamesTooLarge os names done
        by_mark os done f is e (inl h) = let g = is.fault in cc
        by_mark os done f is e (inr h) =
            let p = h.0 in
            let g : f.fault ≡ record { number = 20; line = p.line } = let x = is.fault in let y = h.2 in cc in
            inr (record {
              earlier = is.earlier;
              input = is.input;
              later = is.later;
              inputs = is.inputs;
              mark = p;
              first = h.1;
              named = names_fault done _ (name_at names (length is.earlier)) (record { number = 20; line = p.line })
                  (e ∙ ap (λ n. fault_outcome (merge_open (headers_of (dumps_of os)) (items_before f (merged_items (dumps_of os)))) (name_at names n) f.fault) is.place
                  ∙ ap (fault_outcome (merge_open (headers_of (dumps_of os)) (items_before f (merged_items (dumps_of os)))) (name_at names (length is.earlier))) g);
            })
