-- What `check` passes ends well for the other commands, and the fault that it names is theirs.
use Rattle.vcd_laws.proofs.Cited.{◌≡◌, ◌≢◌, ℕ, zero, suc, ◌+◌, ◌<◌, ◌≤◌, Bool, true, false, ◌&&◌, nat_lt, List, [], ◌∷◌, ◌++◌, map, filter_map, slice_index, Option, Some, None, Result, Ok, Err, is_ok, IsTrue, ◌⊎◌, inl, inr, refl, sym, ap, ◌∙◌, subst, arith, list_any, list_all, IsStrictlyIncreasing, lt-ltb, ltb-true, Input, stream_of, Header, header_of, read_header, header_fault_of, BodyItem, Fault, phrases_of, first_unmatched, moment_ticks, list_text, Request, Outcome, Opened, fault_outcome, clean_outcome, allowed_after, items_in, fault_in, name_at, names_of, ends_early, open_text, close_text, at_end, unmatched_outcome, over_dumps, dumps_of, merge_outcome, Want, Refusal, cut_request, has_unit, do_rise, ok_of, sample_request, refusal_outcome, over_opened, Opens, run_of, EndsWell, NamesFault, Suits, EndsBefore, CheckedIsSafe, CheckNamesTheFault, CleanIsChecked, fault_output}
use Rattle.vcd_model.specs.Outcome.{open_from, over_body, over_dump}
use Rattle.vcd_model.specs.Job.{request_of, outcome}
use Rattle.vcd_laws.proofs.MergeAlone.{ended, merge_alone}
use Rattle.vcd_laws.proofs.OpenedBodies.{opens_good}
use Rattle.vcd_laws.proofs.RunLaws.{fault_status, opened_run}

-- ---- what is asked for, in ticks

above : (a b : ℕ) → a ≤ b → nat_lt b a ≡ false
above a b h = by_test (nat_lt b a) refl
  where
    by_test : (c : Bool) → nat_lt b a ≡ c → c ≡ false
    by_test true e = let l = ltb-true b a e in absurd (omega arith)
    by_test false e = refl

and_never : (b : Bool) → (b && false) ≡ false
and_never true = refl
and_never false = refl

cut_is : (units : Bool) (a b : ℕ) → a ≤ b → cut_request units (Ok a) (Ok b) ≡ Ok (Request.Cut a b)
cut_is units a b h = rw (above a b h, and_never units) refl

abbrev oks : List ℕ → List (Result ℕ ℕ)
oks ts = map (λ t. Ok t) ts

all_ok : (ts : List ℕ) → list_all is_ok (oks ts) ≡ true
all_ok [] = refl
all_ok (t ∷ ts) = all_ok ts

own_ticks : (ts : List ℕ) → filter_map ok_of (oks ts) ≡ ts
own_ticks [] = refl
own_ticks (t ∷ ts) = ap (λ l. t ∷ l) (own_ticks ts)

shifted : (t : ℕ) (ts : List ℕ) → IsStrictlyIncreasing (t ∷ ts) → IsStrictlyIncreasing ts
shifted t ts rising k h =
    let n : suc k + 1 ≡ suc (k + 1) = omega arith in
    let r : slice_index (t ∷ ts) (suc k) < slice_index (t ∷ ts) (suc k + 1) = rising (suc k) (omega arith) in
    rw n at r

do_they_rise : (ts : List ℕ) → IsStrictlyIncreasing ts → do_rise ts ≡ true
do_they_rise [] rising = refl
do_they_rise (t ∷ []) rising = refl
do_they_rise (t ∷ u ∷ ts) rising =
    let first : t < u = rising zero (omega arith) in
    let more = do_they_rise (u ∷ ts) (shifted t (u ∷ ts) rising) in
    rw (lt-ltb t u first, more) refl

sample_is_asked : (units : Bool) (ks : List (Result ℕ ℕ)) (ts : List ℕ) (names : List (List ℕ))
    → ks ≡ oks ts → IsStrictlyIncreasing ts
    → sample_request units ks names ≡ Ok (Request.Sample ts names)
sample_is_asked units ks ts names e rising =
    ap (λ l. sample_request units l names) e
    ∙ rw (all_ok ts, own_ticks ts, do_they_rise ts rising, and_never units) refl

-- ---- the body

at_the_end : (task : Request) (h : Header) (items : List BodyItem) (name : List ℕ)
    (fault : Option Fault) → (output : List ℕ) × (at_end task h items name fault ≡ ended output name fault)
at_the_end task h items name None = (open_text task h items ++ close_text task h items, refl)
at_the_end task h items name (Some f) = (open_text task h items, refl)

over_items : (task : Request) (h : Header) (items : List BodyItem) (name : List ℕ)
    (fault : Option Fault)
    → (IsTrue (list_any (ends_early task) items) × EndsWell (over_body task h items name fault))
    ⊎ ((output : List ℕ) × (over_body task h items name fault ≡ ended output name fault))
unfolding over_body
over_items task h items name fault = by_end (list_any (ends_early task) items) refl
  where
    by_end : (b : Bool) → list_any (ends_early task) items ≡ b
        → (IsTrue (list_any (ends_early task) items) × EndsWell (over_body task h items name fault))
        ⊎ ((output : List ℕ) × (over_body task h items name fault ≡ ended output name fault))
    by_end true e = inl (e, (rw (e, over_body) refl, rw (e, over_body) refl))
    by_end false e =
        let at = at_the_end task h items name fault in
        inr (at.0, rw (e, over_body) at.1)

never : (task : Request) (items : List BodyItem) → ((item : BodyItem) → ends_early task item ≡ false)
    → list_any (ends_early task) items ≡ false
never task [] h = refl
never task (item ∷ items) h = rw (h item, never task items h) refl

-- ---- one input

module _ (limit : ℕ) (name : List ℕ) (input : Input) (o : Opened) (opens : Opens limit input o) where
  -- a run ends before these items end, or as they end
  abbrev Ends : Want → Type 0
  Ends want =
      (EndsBefore o.header (items_in o) want × EndsWell (run_of want limit name input))
      ⊎ ((output : List ℕ) × (run_of want limit name input ≡ ended output name (fault_in o)))

  -- with this outcome
  ends_so : (want : Want) (done : Outcome) → over_opened want (name ∷ []) (o ∷ []) ≡ done
      → (EndsBefore o.header (items_in o) want × EndsWell done)
      ⊎ ((output : List ℕ) × (done ≡ ended output name (fault_in o))) → Ends want
  ends_so want done e (inl h) =
      inl (h.0, subst EndsWell (sym (opened_run want limit name input o opens ∙ e)) h.1)
  ends_so want done e (inr h) = inr (h.0, opened_run want limit name input o opens ∙ e ∙ h.1)

  -- if names select something, and a timestamp ends the run only if it is one that may
  over_names : (want : Want) (task : Request) (place : Option ℕ) → place ≡ None
      → (IsTrue (list_any (ends_early task) (items_in o)) → EndsBefore o.header (items_in o) want)
      → over_opened want (name ∷ []) (o ∷ []) ≡ elim place [
        | Some i ↦ unmatched_outcome (name_at (names_of task) i)
        | None ↦ over_body task o.header (items_in o) name (fault_in o)
      ] → Ends want
  over_names want task place e before same =
      ends_so want (over_body task o.header (items_in o) name (fault_in o)) (same ∙ none place e)
      (either (over_items task o.header (items_in o) name (fault_in o)))
    where
      none : (p : Option ℕ) → p ≡ None → ◌≡◌ {A = Outcome} (elim p [
        | Some i ↦ unmatched_outcome (name_at (names_of task) i)
        | None ↦ over_body task o.header (items_in o) name (fault_in o)
      ]) (over_body task o.header (items_in o) name (fault_in o))
      none (Some i) f = cc
      none None f = refl

      either : (IsTrue (list_any (ends_early task) (items_in o)) × EndsWell (over_body task o.header (items_in o) name (fault_in o)))
          ⊎ ((output : List ℕ) × (over_body task o.header (items_in o) name (fault_in o) ≡ ended output name (fault_in o)))
          → (EndsBefore o.header (items_in o) want × EndsWell (over_body task o.header (items_in o) name (fault_in o)))
          ⊎ ((output : List ℕ) × (over_body task o.header (items_in o) name (fault_in o) ≡ ended output name (fault_in o)))
      either (inl h) = inl (before h.0, h.1)
      either (inr h) = inr h

  no_mark : (task : Request) → ((item : BodyItem) → ends_early task item ≡ false)
      → IsTrue (list_any (ends_early task) (items_in o)) → ⊥
  no_mark task h e = let f = never task (items_in o) h in cc

  abbrev over : Result Request Refusal → Outcome
  over r = elim r [ Err why ↦ refusal_outcome name why | Ok request ↦ over_dumps request (name ∷ []) (o ∷ []) ]

  suits_ends : (want : Want) → Suits o.header want → Ends want
  unfolding request_of over_dump
  suits_ends Want.Check s =
      over_names Want.Check Request.Check None refl (no_mark Request.Check (λ item. refl)) refl
  suits_ends Want.Listing s =
      ends_so Want.Listing (clean_outcome (list_text o.header)) refl (inl (tt, (refl, refl)))
  suits_ends (Want.Pick names) s =
      over_names (Want.Pick names) (Request.Pick names) (first_unmatched names o.header.declarations) s
      (no_mark (Request.Pick names) (λ item. refl)) refl
  suits_ends (Want.Cut from to) s =
      let a = s.0 in
      let b = s.1 in
      let units = has_unit (from ∷ to ∷ []) in
      let asked : request_of o.header.scale (Want.Cut from to) ≡ Ok (Request.Cut a b) =
      ap (λ (r : Result ℕ ℕ). cut_request units r (moment_ticks o.header.scale to false)) s.2
      ∙ ap (λ (r : Result ℕ ℕ). cut_request units (Ok a) r) s.3 ∙ cut_is units a b s.4 in
      over_names (Want.Cut from to) (Request.Cut a b) None refl (λ e. (b, s.3, e)) (ap over asked)
  suits_ends (Want.Sample times names) s =
      let ts = s.0 in
      let asked : request_of o.header.scale (Want.Sample times names) ≡ Ok (Request.Sample ts names) =
      sample_is_asked (has_unit times) (map (λ m. moment_ticks o.header.scale m false) times) ts names s.1 s.2 in
      over_names (Want.Sample times names) (Request.Sample ts names) (first_unmatched names o.header.declarations) s.3
      (λ e. (ts, s.1, e)) (ap over asked)
  suits_ends (Want.Edges names) s =
      over_names (Want.Edges names) (Request.Edges names) (first_unmatched names o.header.declarations) s
      (no_mark (Request.Edges names) (λ item. refl)) refl
  suits_ends Want.Merge s =
      ends_so Want.Merge (merge_outcome (name ∷ []) (dumps_of (o ∷ []))) refl
      (inr (merge_alone name o (opens_good limit input o opens)))

  -- the fault that `check` names, if there is one
  pub check_ends : (output : List ℕ) × (run_of Want.Check limit name input ≡ ended output name (fault_in o))
  check_ends = by_case (suits_ends Want.Check tt)
    where
      by_case : Ends Want.Check → (output : List ℕ) × (run_of Want.Check limit name input ≡ ended output name (fault_in o))
      by_case (inl h) = absurd h.0
      by_case (inr h) = h

pub no_fault : (output name : List ℕ) (fault : Option Fault) → (ended output name fault).status ≡ 0 → fault ≡ None
no_fault output name None h = refl
no_fault output name (Some f) h = absurd (fault_status output name f h)

a_fault : (output name : List ℕ) (fault : Option Fault) → (ended output name fault).status ≢ 0
    → (f : Fault) × (fault ≡ Some f)
a_fault output name None h = absurd (h refl)
a_fault output name (Some f) h = (f, refl)

pub names_fault : (done : Outcome) (output name : List ℕ) (f : Fault) → done ≡ fault_outcome output name f
    → NamesFault done name f
names_fault done output name f e =
    let same : done.output ≡ output = ap (λ (d : Outcome). d.output) e ∙ fault_output output name f in
    e ∙ ap (λ l. fault_outcome l name f) (sym same)

-- one input opens, or its header has a fault
pub opens_or_not : (limit : ℕ) (input : Input)
    → ((f : Fault) × (open_from limit [] (input ∷ []) ≡ Err (0, f)))
    ⊎ ((o : Opened) × Opens limit input o)
unfolding open_from
opens_or_not limit input =
    let stream = stream_of limit input in
    let reading = read_header (allowed_after []) stream in
    by_fault (record { header = header_of (phrases_of reading.placed); stream = stream; rest = reading.rest })
    (header_fault_of stream reading)
  where
    result : Opened → Option Fault → Result (List Opened) (ℕ × Fault)
    result o f = elim f [ Some g ↦ Err (0, g) | None ↦ Ok (o ∷ []) ]

    by_fault : (o : Opened) (f : Option Fault)
        → ((g : Fault) × (result o f ≡ Err (0, g))) ⊎ ((p : Opened) × (result o f ≡ Ok (p ∷ [])))
    by_fault o (Some g) = inl (g, refl)
    by_fault o None = inr (o, refl)

-- a fault of the header is that of every run
pub header_run : (want : Want) (limit : ℕ) (name : List ℕ) (input : Input) (f : Fault)
    → open_from limit [] (input ∷ []) ≡ Err (0, f)
    → run_of want limit name input ≡ fault_outcome [] name f
unfolding outcome
header_run want limit name input f e = rw (e, outcome) refl

pub checked_is_safe : CheckedIsSafe
checked_is_safe limit name input h = by_case (opens_or_not limit input)
  where
    by_case : ((f : Fault) × (open_from limit [] (input ∷ []) ≡ Err (0, f))) ⊎ ((o : Opened) × Opens limit input o)
        → (o : Opened) × Opens limit input o
        × ((want : Want) → Suits o.header want → EndsWell (run_of want limit name input))
    by_case (inl (f, e)) =
        absurd (fault_status [] name f (sym (ap (λ (d : Outcome). d.status) (header_run Want.Check limit name input f e)) ∙ h))
    by_case (inr (o, opens)) =
        let check = check_ends limit name input o opens in
        let none = no_fault check.0 name (fault_in o) (sym (ap (λ (d : Outcome). d.status) check.1) ∙ h) in
        (o, opens, λ want s. by_end want none (suits_ends limit name input o opens want s))
      where
        by_end : (want : Want) → fault_in o ≡ None → Ends limit name input o opens want
            → EndsWell (run_of want limit name input)
        by_end want none (inl e) = e.1
        by_end want none (inr e) =
            subst EndsWell (sym (e.1 ∙ ap (ended e.0 name) none)) (refl, refl)

pub check_names_the_fault : CheckNamesTheFault
check_names_the_fault limit name input h = by_case (opens_or_not limit input)
  where
    by_end : (o : Opened) (opens : Opens limit input o) (f : Fault) (want : Want) → fault_in o ≡ Some f
        → Ends limit name input o opens want
        → (EndsBefore o.header (items_in o) want × EndsWell (run_of want limit name input))
        ⊎ NamesFault (run_of want limit name input) name f
    by_end o opens f want e (inl b) = inl b
    by_end o opens f want e (inr b) =
        inr (names_fault (run_of want limit name input) b.0 name f (b.1 ∙ ap (ended b.0 name) e))

    by_case : ((f : Fault) × (open_from limit [] (input ∷ []) ≡ Err (0, f))) ⊎ ((o : Opened) × Opens limit input o)
        → (f : Fault) × NamesFault (run_of Want.Check limit name input) name f
        × (((want : Want) → NamesFault (run_of want limit name input) name f)
        ⊎ ((o : Opened) × Opens limit input o × (fault_in o ≡ Some f)
        × ((want : Want) → Suits o.header want
        → (EndsBefore o.header (items_in o) want × EndsWell (run_of want limit name input))
        ⊎ NamesFault (run_of want limit name input) name f)))
    by_case (inl (f, e)) =
        let all : (want : Want) → NamesFault (run_of want limit name input) name f =
        λ want. names_fault (run_of want limit name input) [] name f (header_run want limit name input f e) in
        (f, all Want.Check, inl all)
    by_case (inr (o, opens)) =
        let check = check_ends limit name input o opens in
        let some = a_fault check.0 name (fault_in o) (λ s. h (ap (λ (d : Outcome). d.status) check.1 ∙ s)) in
        let f = some.0 in (
          f,
          names_fault (run_of Want.Check limit name input) check.0 name f (check.1 ∙ ap (ended check.0 name) some.1),
          inr (o, opens, some.1, λ want s. by_end o opens f want some.1 (suits_ends limit name input o opens want s)),
        )

-- a name that selects nothing ends the run
unmatched_status : (task : Request) (o : Opened) (name : List ℕ) (i : ℕ) (place : Option ℕ) → place ≡ Some i
    → (elim place as (λ _. Outcome) [
      | Some j ↦ unmatched_outcome (name_at (names_of task) j)
      | None ↦ over_body task o.header (items_in o) name (fault_in o)
    ]).status ≢ 0
unmatched_status task o name i (Some j) e h = cc
unmatched_status task o name i None e h = cc

module _ (limit : ℕ) (name : List ℕ) (names : List (List ℕ)) (input : Input) (o : Opened) (opens : Opens limit input o) where
  -- names that a run with status 0 was given select something
  pick_matched : (i : ℕ) → first_unmatched names o.header.declarations ≡ Some i → (run_of (Want.Pick names) limit name input).status ≢ 0
  unfolding request_of over_dump
  pick_matched i e h =
      unmatched_status (Request.Pick names) o name i (first_unmatched names o.header.declarations) e
      (sym (ap (λ (d : Outcome). d.status) (opened_run (Want.Pick names) limit name input o opens)) ∙ h)

  edges_matched : (i : ℕ) → first_unmatched names o.header.declarations ≡ Some i → (run_of (Want.Edges names) limit name input).status ≢ 0
  unfolding request_of over_dump
  edges_matched i e h =
      unmatched_status (Request.Edges names) o name i (first_unmatched names o.header.declarations) e
      (sym (ap (λ (d : Outcome). d.status) (opened_run (Want.Edges names) limit name input o opens)) ∙ h)

  -- such a run has no fault
  pick_clean : (place : Option ℕ) → first_unmatched names o.header.declarations ≡ place
      → (run_of (Want.Pick names) limit name input).status ≡ 0 → fault_in o ≡ None
  pick_clean (Some i) e h = absurd (pick_matched i e h)
  pick_clean None e h = by_end (suits_ends limit name input o opens (Want.Pick names) e)
    where
      by_end : Ends limit name input o opens (Want.Pick names) → fault_in o ≡ None
      by_end (inl b) = absurd b.0
      by_end (inr b) = no_fault b.0 name (fault_in o) (sym (ap (λ (d : Outcome). d.status) b.1) ∙ h)

  edges_clean : (place : Option ℕ) → first_unmatched names o.header.declarations ≡ place
      → (run_of (Want.Edges names) limit name input).status ≡ 0 → fault_in o ≡ None
  edges_clean (Some i) e h = absurd (edges_matched i e h)
  edges_clean None e h = by_end (suits_ends limit name input o opens (Want.Edges names) e)
    where
      by_end : Ends limit name input o opens (Want.Edges names) → fault_in o ≡ None
      by_end (inl b) = absurd b.0
      by_end (inr b) = no_fault b.0 name (fault_in o) (sym (ap (λ (d : Outcome). d.status) b.1) ∙ h)

pub clean_is_checked : CleanIsChecked
clean_is_checked limit name names input h = by_case (opens_or_not limit input) h
  where
    by_case : ((f : Fault) × (open_from limit [] (input ∷ []) ≡ Err (0, f))) ⊎ ((o : Opened) × Opens limit input o)
        → ((run_of (Want.Pick names) limit name input).status ≡ 0) ⊎ ((run_of (Want.Edges names) limit name input).status ≡ 0)
        → EndsWell (run_of Want.Check limit name input)
    by_case (inl (f, e)) (inl h) =
        absurd (fault_status [] name f (sym (ap (λ (d : Outcome). d.status) (header_run (Want.Pick names) limit name input f e)) ∙ h))
    by_case (inl (f, e)) (inr h) =
        absurd (fault_status [] name f (sym (ap (λ (d : Outcome). d.status) (header_run (Want.Edges names) limit name input f e)) ∙ h))
    by_case (inr (o, opens)) h =
        let check = check_ends limit name input o opens in
        let none = clean h in
        subst EndsWell (sym (check.1 ∙ ap (ended check.0 name) none)) (refl, refl)
      where
        clean : ((run_of (Want.Pick names) limit name input).status ≡ 0) ⊎ ((run_of (Want.Edges names) limit name input).status ≡ 0)
            → fault_in o ≡ None
        clean (inl h) = pick_clean limit name names input o opens (first_unmatched names o.header.declarations) refl h
        clean (inr h) = edges_clean limit name names input o opens (first_unmatched names o.header.declarations) refl h
