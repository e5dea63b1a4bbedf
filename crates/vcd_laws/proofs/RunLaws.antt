-- What runs with status 0 have written keeps values.
use Rattle.vcd_laws.proofs.Cited.{◌≡◌, ◌≢◌, ℕ, ◌^◌, ◌<◌, ◌≤◌, ◌==◌, ℤ, Bool, true, false, cond, ◌&&◌, nat_lt, List, [], ◌∷◌, ◌++◌, filter, decimal, codes, Option, Some, None, Result, Ok, Err, IsTrue, ◌⊎◌, inl, inr, refl, sym, ap, ◌∙◌, subst, list_any, ltb-true, Input, stream_of, Header, header_of, read_header, header_fault_of, BodyItem, Fault, phrases_of, head_for, merged_head, selected, selects_code, first_unmatched, ends_cut, Dump, KeyedFault, headers_of, merged_items, first_fault, items_before, merge_open, merge_close, Moment, in_range, unit_ticks, number_ticks, ticks, Request, Outcome, Opened, fault_text, fault_outcome, clean_outcome, allowed_after, items_in, fault_in, name_at, ends_early, open_text, close_text, at_end, unmatched_outcome, dumps_of, over_dumps, Want, IsJob, IsTime, Refusal, cut_request, first_refusal, has_unit, refusal_outcome, over_opened, IsBehind, KeepsValues, Opens, cut_text, PickRunKeeps, CutRunKeeps, MergeRunKeeps, MergeKeepsValues, requests_are_valid}
use Rattle.vcd_model.specs.Ticks.{moment_ticks}
use Rattle.vcd_model.specs.Outcome.{open_from, over_body, over_dump, merge_outcome}
use Rattle.vcd_model.specs.Job.{request_of, outcome}
use Rattle.vcd_laws.proofs.PickLaw.{pick_keeps}
use Rattle.vcd_laws.proofs.CutLaw.{cut_keeps}
use Rattle.vcd_laws.proofs.MergeLaw.{merge_keeps}

-- a fault has another status
pub fault_status : (output name : List ℕ) (f : Fault) → (fault_outcome output name f).status ≢ 0
fault_status output name f e = by_number (f.number == 31) e
  where
    by_number : (b : Bool) → (elim b as (λ _. Outcome) [
      | true ↦ record { output = output; message = name ++ codes ": read failed"; status = 3 }
      | false ↦ record { output = output; message = name ++ codes ":" ++ decimal f.line ++ codes ": " ++ fault_text f.number; status = 1 }
    ]).status ≡ 0 → ⊥
    by_number true e = cc
    by_number false e = cc

-- one input gives one header
pub opened_one : (limit : ℕ) (input : Input) (os : List Opened) → open_from limit [] (input ∷ []) ≡ Ok os → (o : Opened) × (os ≡ o ∷ [])
unfolding open_from
opened_one limit input os e =
    let stream = stream_of limit input in
    let reading = read_header (allowed_after []) stream in
    by_fault (record { header = header_of (phrases_of reading.placed); stream = stream; rest = reading.rest }) (header_fault_of stream reading) e
  where
    by_fault : (o : Opened) (f : Option Fault) → ◌≡◌ {A = Result (List Opened) (ℕ × Fault)} (elim f [ Some g ↦ Err (0, g) | None ↦ Ok (o ∷ []) ])
        (Ok os) → (o : Opened) × (os ≡ o ∷ [])
    by_fault o (Some g) e = cc
    by_fault o None e = let same : o ∷ [] ≡ os = cc in (o, sym same)

-- the outcome after headers
behind_headers : Want → List (List ℕ) → Result (List Opened) (ℕ × Fault) → Outcome
behind_headers want names r = elim r [ Err e ↦ fault_outcome [] (name_at names e.0) e.1 | Ok os ↦ over_opened want names os ]

headers_good : (want : Want) (names : List (List ℕ)) (r : Result (List Opened) (ℕ × Fault)) → (behind_headers want names r).status ≡ 0
    → (os : List Opened) × (r ≡ Ok os) × (behind_headers want names r ≡ over_opened want names os)
unfolding behind_headers
headers_good want names (Err e) h = absurd (fault_status [] (name_at names e.0) e.1 h)
headers_good want names (Ok os) h = (os, refl, refl)

pub run_behind : (want : Want) (limit : ℕ) (names : List (List ℕ)) (inputs : List Input) → (outcome want limit names inputs).status ≡ 0
    → (os : List Opened) × (open_from limit [] inputs ≡ Ok os) × (outcome want limit names inputs ≡ over_opened want names os)
unfolding outcome behind_headers
run_behind want limit names inputs h = headers_good want names (open_from limit [] inputs) h

-- ---- merge

-- the outcome of a merge with this fault
merge_of : List (List ℕ) → List Dump → Option KeyedFault → Outcome
merge_of names ds fault =
    elim fault [
      | Some f ↦ fault_outcome (merge_open (headers_of ds) (items_before f (merged_items ds))) (name_at names f.key.input) f.fault
      | None ↦ clean_outcome (merge_open (headers_of ds) (merged_items ds) ++ merge_close (merged_items ds))
    ]

merge_clean : (names : List (List ℕ)) (ds : List Dump) (fault : Option KeyedFault) → (merge_of names ds fault).status ≡ 0
    → (fault ≡ None) × ((merge_of names ds fault).output ≡ merge_open (headers_of ds) (merged_items ds) ++ merge_close (merged_items ds))
unfolding merge_of
merge_clean names ds (Some f) h = absurd (fault_status (merge_open (headers_of ds) (items_before f (merged_items ds))) (name_at names f.key.input) f.fault h)
merge_clean names ds None h = (refl, refl)

pub merge_case : (names : List (List ℕ)) (os : List Opened) → (over_opened Want.Merge names os).status ≡ 0
    → (first_fault (dumps_of os) ≡ None) × ((over_opened Want.Merge names os).output ≡ merge_open (headers_of (dumps_of os))
    (merged_items (dumps_of os)) ++ merge_close (merged_items (dumps_of os)))
unfolding request_of merge_outcome merge_of
merge_case names os h = merge_clean names (dumps_of os) (first_fault (dumps_of os)) h

-- an outcome that is another has its status, and its output comes after the same head
pub same_status : (done other : Outcome) → done ≡ other → done.status ≡ 0 → other.status ≡ 0
same_status done other e h = subst (λ (d : Outcome). d.status ≡ 0) e h

behind_same : (done other : Outcome) (head text : List ℕ) (P : List ℕ → Type 0) → done ≡ other → other.output ≡ text → IsBehind head text P → IsBehind head done.output P
behind_same done other head text P e f is = subst (λ (d : Outcome). IsBehind head d.output P) (sym e) (subst (λ (l : List ℕ). IsBehind head l P) (sym f) is)

pub merge_run_keeps : MergeRunKeeps
merge_run_keeps limit names inputs h =
    let run = run_behind Want.Merge limit names inputs h in
    let os = run.0 in
    let done = outcome Want.Merge limit names inputs in
    let other = over_opened Want.Merge names os in
    let clean = merge_case names os (same_status done other run.2 h) in
    let hs = headers_of (dumps_of os) in
    let text = merge_open hs (merged_items (dumps_of os)) ++ merge_close (merged_items (dumps_of os)) in (
      os,
      run.1,
      clean.0,
      behind_same done other (merged_head hs) text (MergeKeepsValues (dumps_of os)) run.2 clean.1 (merge_keeps limit inputs os run.1 clean.0),
    )

-- ---- one input

-- an outcome if some name may select nothing
named : List (List ℕ) → Option ℕ → Outcome → Outcome
named names place done = elim place [ Some i ↦ unmatched_outcome (name_at names i) | None ↦ done ]

all_named : (names : List (List ℕ)) (place : Option ℕ) (done : Outcome) → (named names place done).status ≡ 0 → named names place done ≡ done
unfolding named
all_named names (Some i) done h = cc
all_named names None done h = refl

-- a run that no timestamp ended has no fault
clean_end : (task : Request) (h : Header) (items : List BodyItem) (name : List ℕ) (fault : Option Fault) → (at_end task h items name fault).status ≡ 0
    → (fault ≡ None) × ((at_end task h items name fault).output ≡ open_text task h items ++ close_text task h items)
clean_end task h items name (Some f) e = absurd (fault_status (open_text task h items) name f e)
clean_end task h items name None e = (refl, refl)

-- ---- pick

no_end : (names : List (List ℕ)) (items : List BodyItem) → list_any (ends_early (Request.Pick names)) items ≡ false
no_end names [] = refl
no_end names (BodyItem.Time t ∷ items) = no_end names items
no_end names (BodyItem.Begin s ∷ items) = no_end names items
no_end names (BodyItem.End ∷ items) = no_end names items
no_end names (BodyItem.Changes c ∷ items) = no_end names items

-- no timestamp ends a run of `pick`
pub pick_body : (names : List (List ℕ)) (h : Header) (items : List BodyItem) (name : List ℕ) (fault : Option Fault)
    → over_body (Request.Pick names) h items name fault ≡ at_end (Request.Pick names) h items name fault
unfolding over_body
pick_body names h items name fault = rw (no_end names items, over_body) refl

-- one input whose header is good
one_run : (want : Want) (limit : ℕ) (name : List ℕ) (input : Input) → (outcome want limit (name ∷ []) (input ∷ [])).status ≡ 0
    → (o : Opened) × Opens limit input o × (outcome want limit (name ∷ []) (input ∷ []) ≡ over_opened want (name ∷ []) (o ∷ []))
one_run want limit name input h =
    let run = run_behind want limit (name ∷ []) (input ∷ []) h in
    let one = opened_one limit input run.0 run.1 in
    let pair : Opens limit input one.0 × (outcome want limit (name ∷ []) (input ∷ []) ≡ over_opened want (name ∷ []) (one.0 ∷ []))
    = subst (λ (l : List Opened). (open_from limit [] (input ∷ []) ≡ Ok l) × (outcome want limit (name ∷ []) (input ∷ []) ≡ over_opened want (name ∷ []) l)) one.1 (run.1, run.2) in
    (one.0, pair.0, pair.1)

pub pick_case : (names : List (List ℕ)) (name : List ℕ) (o : Opened) → (over_opened (Want.Pick names) (name ∷ []) (o ∷ [])).status ≡ 0
    → (fault_in o ≡ None) × ((over_opened (Want.Pick names) (name ∷ []) (o ∷ [])).output ≡ open_text (Request.Pick names) o.header
    (items_in o) ++ close_text (Request.Pick names) o.header (items_in o))
unfolding request_of over_dump named
pick_case names name o h =
    let task = Request.Pick names in
    let shown = name_at (name ∷ []) 0 in
    let done = over_body task o.header (items_in o) shown (fault_in o) in
    let same = all_named names (first_unmatched names o.header.declarations) done h ∙ pick_body names o.header (items_in o) shown (fault_in o) in
    let ends : (at_end task o.header (items_in o) shown (fault_in o)).status ≡ 0 = sym (ap (λ (d : Outcome). d.status) same) ∙ h in
    let clean = clean_end task o.header (items_in o) shown (fault_in o) ends in
    (clean.0, ap (λ (d : Outcome). d.output) same ∙ clean.1)

-- each name of a pick with status 0 selects something
pub pick_matched : (names : List (List ℕ)) (name : List ℕ) (o : Opened) → (over_opened (Want.Pick names) (name ∷ []) (o ∷ [])).status ≡ 0
    → first_unmatched names o.header.declarations ≡ None
unfolding request_of over_dump named
pick_matched names name o h =
    by_place (first_unmatched names o.header.declarations) (over_body (Request.Pick names) o.header (items_in o) (name_at (name ∷ []) 0) (fault_in o)) h
  where
    by_place : (place : Option ℕ) (done : Outcome) → (named names place done).status ≡ 0 → place ≡ None
    by_place (Some i) done s = cc
    by_place None done s = refl

pub pick_run_keeps : PickRunKeeps
pick_run_keeps limit name names input h =
    let run = one_run (Want.Pick names) limit name input h in
    let o = run.0 in
    let done = outcome (Want.Pick names) limit (name ∷ []) (input ∷ []) in
    let other = over_opened (Want.Pick names) (name ∷ []) (o ∷ []) in
    let clean = pick_case names name o (same_status done other run.2 h) in
    let text = open_text (Request.Pick names) o.header (items_in o) ++ close_text (Request.Pick names) o.header (items_in o) in (
      o,
      run.1,
      clean.0,
      behind_same done other (head_for o.header names) text
          (λ l. KeepsValues (filter (selects_code (selected names o.header.declarations)) o.header.codes) l (λ t. Unit {0}) (items_in o))
          run.2 clean.1 (pick_keeps limit input o names run.1 clean.0),
    )

-- ---- cut

-- a time in ticks is below 2^64
ranged : (n k : ℕ) → in_range n ≡ Ok k → k < 2 ^ 64
ranged n k e = decided (nat_lt n (2 ^ 64)) (ltb-true n (2 ^ 64)) e
  where
    decided : (b : Bool) → (b ≡ true → n < 2 ^ 64) → ◌≡◌ {A = Result ℕ ℕ} (cond b (Ok n) (Err 22)) (Ok k) → k < 2 ^ 64
    decided true h e = let same : n ≡ k = cc in subst (λ j. j < 2 ^ 64) same (h refl)
    decided false h e = cc

unit_small : (scale : Option ℤ) (n : ℕ) (unit : ℤ) (up : Bool) (k : ℕ) → unit_ticks scale n unit up ≡ Ok k → k < 2 ^ 64
unit_small None n unit up k e = cc
unit_small (Some scale) n unit up k e = ranged (ticks n unit scale up) k e

ticks_small : (scale : Option ℤ) (n : ℕ) (unit : Option ℤ) (up : Bool) (k : ℕ) → n < 2 ^ 64 → number_ticks scale n unit up ≡ Ok k → k < 2 ^ 64
ticks_small scale n None up k small e = let same : n ≡ k = cc in subst (λ j. j < 2 ^ 64) same small
ticks_small scale n (Some unit) up k small e = unit_small scale n unit up k e

moment_small : (scale : Option ℤ) (m : Moment) (up : Bool) (k : ℕ) → IsTime m → moment_ticks scale m up ≡ Ok k → k < 2 ^ 64
unfolding moment_ticks
moment_small scale m up k is e = ticks_small scale m.number m.unit up k is.0 e

-- the outcome of a cut with these times
asked : List (List ℕ) → Opened → Result Request Refusal → Outcome
asked names o r = elim r [ Err why ↦ refusal_outcome (name_at names 0) why | Ok request ↦ over_dumps request names (o ∷ []) ]

-- a refusal has another status
refused : (name : List ℕ) (why : Refusal) → (refusal_outcome name why).status ≢ 0
refused name Refusal.NoTimescale h = cc
refused name Refusal.OutOfRange h = cc
refused name Refusal.FromAboveTo h = cc
refused name Refusal.NotRising h = cc

-- the ticks of a cut that is not refused
cut_ticks : (units : Bool) (a b : Result ℕ ℕ) (names : List (List ℕ)) (o : Opened) → (asked names o (cut_request units a b)).status ≡ 0
    → (from : ℕ) × (to : ℕ) × (a ≡ Ok from) × (b ≡ Ok to) × (cut_request units a b ≡ Ok (Request.Cut from to))
unfolding asked
cut_ticks units (Ok from) (Ok to) names o h = decided (units && nat_lt to from) h
  where
    decided : (c : Bool) → (asked names o (cond c (Err Refusal.FromAboveTo) (Ok (Request.Cut from to)))).status ≡ 0
        → (f : ℕ) × (t : ℕ) × (◌≡◌ {A = Result ℕ ℕ} (Ok from) (Ok f)) × (◌≡◌ {A = Result ℕ ℕ} (Ok to) (Ok t))
        × (cond c (Err Refusal.FromAboveTo) (Ok (Request.Cut from to)) ≡ Ok (Request.Cut f t))
    decided true h = cc
    decided false h = (from, to, refl, refl, refl)
cut_ticks units (Ok from) (Err n) names o h = absurd (refused (name_at names 0) (first_refusal (Ok from ∷ Err n ∷ [])) h)
cut_ticks units (Err n) (Ok to) names o h = absurd (refused (name_at names 0) (first_refusal (Err n ∷ Ok to ∷ [])) h)
cut_ticks units (Err n) (Err m) names o h = absurd (refused (name_at names 0) (first_refusal (Err n ∷ Err m ∷ [])) h)

-- the body of a cut
cut_end : (a b : ℕ) (h : Header) (items : List BodyItem) (name : List ℕ) (fault : Option Fault) (ends : Bool) → ends_cut b items ≡ ends
    → (over_body (Request.Cut a b) h items name fault).status ≡ 0
    → (IsTrue (ends_cut b items) ⊎ (fault ≡ None)) × ((over_body (Request.Cut a b) h items name fault).output ≡ cut_text h a b items)
unfolding over_body
cut_end a b h items name fault true e s = (inl e, rw (e, over_body, cut_text) refl)
cut_end a b h items name fault false e s =
    let same : over_body (Request.Cut a b) h items name fault ≡ at_end (Request.Cut a b) h items name fault = rw (e, over_body) refl in
    let ends : (at_end (Request.Cut a b) h items name fault).status ≡ 0 = sym (ap (λ (d : Outcome). d.status) same) ∙ s in
    let clean = clean_end (Request.Cut a b) h items name fault ends in
    let text : cut_text h a b items ≡ open_text (Request.Cut a b) h items ++ close_text (Request.Cut a b) h items = rw (e, cut_text) refl in
    (inr clean.0, ap (λ (d : Outcome). d.output) same ∙ clean.1 ∙ sym text)

cut_case : (a b : ℕ) (name : List ℕ) (o : Opened) → (over_dumps (Request.Cut a b) (name ∷ []) (o ∷ [])).status ≡ 0
    → (IsTrue (ends_cut b (items_in o)) ⊎ (fault_in o ≡ None)) × ((over_dumps (Request.Cut a b) (name ∷ []) (o ∷ [])).output ≡ cut_text o.header a b (items_in o))
unfolding over_dump
cut_case a b name o h = cut_end a b o.header (items_in o) (name_at (name ∷ []) 0) (fault_in o) (ends_cut b (items_in o)) refl h

-- what a run of `cut` with status 0 has written, from the first to the second of its times in ticks
pub record IsCutRun (limit : ℕ) (name : List ℕ) (from to : Moment) (input : Input) (o : Opened) : Type 0 where
  pub a : ℕ
  pub b : ℕ
  pub first : moment_ticks o.header.scale from true ≡ Ok a
  pub last : moment_ticks o.header.scale to false ≡ Ok b
  pub small : a < 2 ^ 64
  pub order : a ≤ b
  pub ends : IsTrue (ends_cut b (items_in o)) ⊎ (fault_in o ≡ None)
  pub output : (outcome (Want.Cut from to) limit (name ∷ []) (input ∷ [])).output ≡ cut_text o.header a b (items_in o)

pub cut_run : (limit : ℕ) (name : List ℕ) (from to : Moment) (input : Input) (o : Opened) → IsJob (Want.Cut from to)
    → outcome (Want.Cut from to) limit (name ∷ []) (input ∷ []) ≡ over_opened (Want.Cut from to) (name ∷ []) (o ∷ [])
    → (outcome (Want.Cut from to) limit (name ∷ []) (input ∷ [])).status ≡ 0 → IsCutRun limit name from to input o
unfolding request_of asked
cut_run limit name from to input o job run h =
    let scale = o.header.scale in
    let done = outcome (Want.Cut from to) limit (name ∷ []) (input ∷ []) in
    let opened = over_opened (Want.Cut from to) (name ∷ []) (o ∷ []) in
    let ends = same_status done opened run h in
    let times = cut_ticks (has_unit (from ∷ to ∷ [])) (moment_ticks scale from true) (moment_ticks scale to false) (name ∷ []) o ends in
    let a = times.0 in
    let b = times.1 in
    let other = over_dumps (Request.Cut a b) (name ∷ []) (o ∷ []) in
    let same : opened ≡ other = ap (asked (name ∷ []) o) times.4 in
    let is = cut_case a b name o (same_status opened other same ends) in
    record {
      a = a;
      b = b;
      first = times.2;
      last = times.3;
      small = moment_small scale from true a job.0 times.2;
      order = requests_are_valid scale (Want.Cut from to) (Request.Cut a b) job times.4;
      ends = is.0;
      output = ap (λ (d : Outcome). d.output) (run ∙ same) ∙ is.1;
    }

pub cut_run_keeps : CutRunKeeps
cut_run_keeps limit name from to input job h =
    let run = one_run (Want.Cut from to) limit name input h in
    let o = run.0 in
    let is = cut_run limit name from to input o job run.2 h in
    let keeps = cut_keeps limit input o is.a is.b is.small is.order run.1 is.ends in
    let P : List ℕ → Type 0 = λ l. KeepsValues o.header.codes l (λ t. (is.a ≤ t) × (t ≤ is.b)) (items_in o) in
    (o, is.a, is.b, run.1, is.first, is.last, subst (λ (l : List ℕ). IsBehind (head_for o.header []) l P) (sym is.output) keeps)

-- ---- runs over an opened input

pub opened_run : (want : Want) (limit : ℕ) (name : List ℕ) (input : Input) (o : Opened) → Opens limit input o
    → outcome want limit (name ∷ []) (input ∷ []) ≡ over_opened want (name ∷ []) (o ∷ [])
unfolding outcome
opened_run want limit name input o opens = rw (opens, outcome) refl

pub same_opened : (limit : ℕ) (input : Input) (o p : Opened) → Opens limit input o → Opens limit input p → o ≡ p
same_opened limit input o p a b = let c = sym a ∙ b in cc
