-- What `pick` wrote is read by `list` and `sample` as its input was.
use Rattle.vcd_laws.proofs.Cited.{◌≡◌, ℕ, Bool, true, false, cond, ◌&&◌, ◌||◌, List, [], ◌∷◌, ◌++◌, map, filter, filter_map, flat_map, Option, Some, None, ◌⊎◌, Result, Ok, Err, is_ok, not, inl, inr, refl, sym, ap, ◌∙◌, subst, AllByRecursion, list_all, list_any, cons_option, is_empty, each_after, Input, Declaration, code_of, path_of, Header, BodyItem, value_at, Selected, selects_path, with_path, first_unmatched, list_line, sample_lines, moment_ticks, Request, Outcome, Opened, clean_outcome, name_at, items_in, fault_in, ends_early, over_body, unmatched_outcome, over_dumps, Want, Refusal, first_refusal, do_rise, ok_of, sample_at, has_unit, refusal_outcome, sample_request, IsValid, written_by, input_of, IsReadable, SelectWithin, ListOfPick, SampleOfPick, requests_are_valid}
use Rattle.vcd_model.specs.Selection.{selected}
use Rattle.vcd_model.specs.CheckAndList.{list_text}
use Rattle.vcd_model.specs.Outcome.{over_dump}
use Rattle.vcd_model.specs.Job.{request_of}
use Rattle.vcd_laws.proofs.WrittenCodes.{In, from_filter, to_filter, from_contained, to_contained, in_map, any_of, to_codes_of}
use Rattle.vcd_laws.proofs.HeadBack.{variables_are, opens_header}
use Rattle.vcd_laws.proofs.SampleText.{sample_is}
use Rattle.vcd_laws.proofs.RunLaws.{pick_run_keeps, opened_run, same_opened}
use Rattle.vcd_laws.proofs.DumpLaws.{pick_is_a_dump}

-- ---- selections

-- a selected variable that names select
abbrev pub chosen : List (List ℕ) → Selected → Bool
chosen names s = is_empty names || list_any (selects_path s.path) names

selected_from : (names : List (List ℕ)) (earlier ds : List Declaration)
    → filter_map (λ o. o) (each_after (with_path names) earlier ds)
    ≡ filter (chosen names) (filter_map (λ o. o) (each_after (with_path []) earlier ds))
selected_from names earlier [] = refl
selected_from names earlier (Declaration.Scope type name ∷ ds) =
    selected_from names (earlier ++ Declaration.Scope type name ∷ []) ds
selected_from names earlier (Declaration.Up ∷ ds) =
    selected_from names (earlier ++ Declaration.Up ∷ []) ds
selected_from names earlier (Declaration.Var v ∷ ds) =
    by_test (chosen names (record { path = path_of earlier (Declaration.Var v); variable = v }))
    (selected_from names (earlier ++ Declaration.Var v ∷ []) ds)
  where
    s : Selected
    s = record { path = path_of earlier (Declaration.Var v); variable = v }

    xs : List Selected
    xs = filter_map (λ o. o) (each_after (with_path names) (earlier ++ Declaration.Var v ∷ []) ds)

    ys : List Selected
    ys = filter (chosen names) (filter_map (λ o. o)
        (each_after (with_path []) (earlier ++ Declaration.Var v ∷ []) ds))

    by_test : (b : Bool) → xs ≡ ys → cons_option (cond b (Some s) None) xs ≡ cond b (s ∷ ys) ys
    by_test true e = ap (λ l. s ∷ l) e
    by_test false e = e

pub selected_is : (names : List (List ℕ)) (ds : List Declaration)
    → selected names ds ≡ filter (chosen names) (selected [] ds)
unfolding selected
selected_is names ds = selected_from names [] ds

filter_filter : {X : Type 0} (p q : X → Bool) (xs : List X)
    → ((x : X) → In x xs → p x ≡ true → q x ≡ true) → filter p (filter q xs) ≡ filter p xs
filter_filter p q [] h = refl
filter_filter p q (x ∷ xs) h =
    by_tests (p x) (q x) refl refl (filter_filter p q xs (λ y i e. h y (inr i) e))
  where
    by_tests : (a b : Bool) → p x ≡ a → q x ≡ b → filter p (filter q xs) ≡ filter p xs
        → filter p (filter q (x ∷ xs)) ≡ filter p (x ∷ xs)
    by_tests true true e f more = rw (f, e) (ap (λ l. x ∷ l) more)
    by_tests true false e f more = let g = h x (inl refl) e in cc
    by_tests false true e f more = rw (f, e) more
    by_tests false false e f more = rw (f, e) more

-- names that select within others select the same among what these selected
pub same_selected : (wanted names : List (List ℕ)) (h k : Header)
    → selected [] k.declarations ≡ selected names h.declarations
    → ((s : Selected) → In s (selected [] h.declarations) → chosen wanted s ≡ true
    → chosen names s ≡ true) → selected wanted k.declarations ≡ selected wanted h.declarations
same_selected wanted names h k e within =
    selected_is wanted k.declarations
    ∙ ap (filter (chosen wanted)) (e ∙ selected_is names h.declarations)
    ∙ filter_filter (chosen wanted) (chosen names) (selected [] h.declarations) within
    ∙ sym (selected_is wanted h.declarations)

pub are_within : (wanted names : List (List ℕ)) (h : Header) → SelectWithin wanted names h
    → (s : Selected) → In s (selected [] h.declarations) → chosen wanted s ≡ true
    → chosen names s ≡ true
are_within wanted names h within s i e =
    let there = within s (to_contained (selected wanted h.declarations) s
    (subst (In s) (sym (selected_is wanted h.declarations))
    (to_filter (chosen wanted) (selected [] h.declarations) s i e))) in
    (from_filter (chosen names) (selected [] h.declarations) s
    (subst (In s) (selected_is names h.declarations)
    (from_contained (selected names h.declarations) s there))).1

one_chosen : (wanted : List (List ℕ)) (n : List ℕ) (s : Selected) → In n wanted
    → chosen (n ∷ []) s ≡ true → chosen wanted s ≡ true
one_chosen [] n s i e = refl
one_chosen (w ∷ ws) n s i e =
    any_of (selects_path s.path) (w ∷ ws) n i (or_false (selects_path s.path n) e)
  where
    or_false : (b : Bool) → (b || false) ≡ true → b ≡ true
    or_false true e = refl
    or_false false e = cc

-- the names that select nothing are the same
pub same_unmatched : (ns wanted names : List (List ℕ)) (h k : Header)
    → selected [] k.declarations ≡ selected names h.declarations
    → ((s : Selected) → In s (selected [] h.declarations) → chosen wanted s ≡ true
    → chosen names s ≡ true)
    → ((n : List ℕ) → In n ns → In n wanted)
    → first_unmatched ns k.declarations ≡ first_unmatched ns h.declarations
same_unmatched [] wanted names h k e within sub = refl
same_unmatched (n ∷ ns) wanted names h k e within sub =
    let one = same_selected (n ∷ []) names h k e
    (λ s i c. within s i (one_chosen wanted n s (sub n (inl refl)) c)) in
    let more = same_unmatched ns wanted names h k e within (λ m i. sub m (inr i)) in
    rw (one, more) refl

-- ---- what a pick wrote

-- an input that was picked with status 0 has no fault
pub pick_none : (limit : ℕ) (name : List ℕ) (names : List (List ℕ)) (input : Input) (o : Opened)
    → IsReadable (Want.Pick names) limit name input o → fault_in o ≡ None
pick_none limit name names input o can =
    let run = pick_run_keeps limit name names input can.clean in
    subst (λ (p : Opened). fault_in p ≡ None) (same_opened limit input run.0 o run.1 can.opens)
    run.2

-- ---- `list`

pub list_of_pick : ListOfPick
unfolding request_of over_dump list_text
list_of_pick limit name names input o can =
    let d = pick_is_a_dump limit name names input o can in
    let head = d.head in
    opened_run Want.Listing limit name (input_of (written_by (Want.Pick names) limit name input))
    d.dump d.opens
    ∙ ap (λ l. clean_outcome (flat_map list_line l)) head.variables

-- ---- `sample`

-- items in which these variables have the same values at some times
abbrev pub SameWhere : (ℕ → Type 0) → List BodyItem → List BodyItem → Selected → Type 0
SameWhere InTime items others s = (code_of s.variable).event ≡ false → (t : ℕ) → InTime t
    → value_at items (code_of s.variable) t ≡ value_at others (code_of s.variable) t

lines_same : (InTime : ℕ → Type 0) (vs : List Selected) (items others : List BodyItem) (t : ℕ)
    → InTime t → ((s : Selected) → In s vs → SameWhere InTime items others s)
    → sample_lines vs items t ≡ sample_lines vs others t
lines_same InTime [] items others t is h = refl
lines_same InTime (s ∷ vs) items others t is h =
    by_event (code_of s.variable).event refl (lines_same InTime vs items others t is
    (λ x i. h x (inr i)))
  where
    by_event : (b : Bool) → (code_of s.variable).event ≡ b
        → sample_lines vs items t ≡ sample_lines vs others t
        → sample_lines (s ∷ vs) items t ≡ sample_lines (s ∷ vs) others t
    by_event true e more = rw e more
    by_event false e more = rw (e, h s (inl refl) e t is, more) refl

pub all_same : (InTime : ℕ → Type 0) (vs : List Selected) (items others : List BodyItem)
    (ts : List ℕ) → AllByRecursion InTime ts
    → ((s : Selected) → In s vs → SameWhere InTime items others s)
    → flat_map (sample_lines vs items) ts ≡ flat_map (sample_lines vs others) ts
all_same InTime vs items others [] is h = refl
all_same InTime vs items others (t ∷ ts) is h =
    rw (lines_same InTime vs items others t is.0 h, all_same InTime vs items others ts is.1 h) refl

-- a sample whose names select something
unfoldable pub sampled : List (List ℕ) → Option ℕ → List ℕ → Outcome
sampled wanted place text =
    elim place [ Some i ↦ unmatched_outcome (name_at wanted i) | None ↦ clean_outcome text ]

pub sample_run : (times : List ℕ) (wanted : List (List ℕ)) (name : List ℕ) (o : Opened)
    → (list_any (ends_early (Request.Sample times wanted)) (items_in o) ≡ true)
    ⊎ (fault_in o ≡ None) → IsValid (Request.Sample times wanted)
    → over_dumps (Request.Sample times wanted) (name ∷ []) (o ∷ [])
    ≡ sampled wanted (first_unmatched wanted o.header.declarations)
    (flat_map (sample_lines (selected wanted o.header.declarations) (items_in o)) times)
unfolding over_dump sampled
sample_run times wanted name o clean valid = by_place (first_unmatched wanted o.header.declarations)
  where
    text : List ℕ
    text = flat_map (sample_lines (selected wanted o.header.declarations) (items_in o)) times

    by_place : (place : Option ℕ)
        → ◌≡◌ {A = Outcome} (elim place [
          | Some i ↦ unmatched_outcome
              (name_at wanted i)
          | None ↦ over_body (Request.Sample times wanted) o.header (items_in o)
              name (fault_in o)
        ]) (sampled wanted place text)
    by_place (Some i) = refl
    by_place None = sample_is o.header times wanted (items_in o) name (fault_in o) valid.0 valid.1
        clean

-- two samples that select the same and have the same lines
pub samples_agree : (ts : List ℕ) (wanted : List (List ℕ)) (name : List ℕ) (k o : Opened)
    → IsValid (Request.Sample ts wanted)
    → (list_any (ends_early (Request.Sample ts wanted)) (items_in k) ≡ true) ⊎ (fault_in k ≡ None)
    → (list_any (ends_early (Request.Sample ts wanted)) (items_in o) ≡ true) ⊎ (fault_in o ≡ None)
    → selected wanted k.header.declarations ≡ selected wanted o.header.declarations
    → first_unmatched wanted k.header.declarations ≡ first_unmatched wanted o.header.declarations
    → flat_map (sample_lines (selected wanted o.header.declarations) (items_in k)) ts
    ≡ flat_map (sample_lines (selected wanted o.header.declarations) (items_in o)) ts
    → over_dumps (Request.Sample ts wanted) (name ∷ []) (k ∷ [])
    ≡ over_dumps (Request.Sample ts wanted) (name ∷ []) (o ∷ [])
samples_agree ts wanted name k o valid clean own selection unmatched lines =
    let text = λ (vs : List Selected) (items : List BodyItem). flat_map (sample_lines vs items)
    ts in
    sample_run ts wanted name k clean valid
    ∙ ap (λ vs. sampled wanted (first_unmatched wanted k.header.declarations)
    (text vs (items_in k))) selection
    ∙ ap (λ place. sampled wanted place (text (selected wanted o.header.declarations) (items_in k)))
    unmatched
    ∙ ap (sampled wanted (first_unmatched wanted o.header.declarations)) lines
    ∙ sym (sample_run ts wanted name o own valid)

-- what a sample asks for, in ticks
pub sample_shape : (units : Bool) (ks : List (Result ℕ ℕ)) (wanted : List (List ℕ))
    (request : Request) → sample_request units ks wanted ≡ Ok request
    → (times : List ℕ) × (request ≡ Request.Sample times wanted)
sample_shape units ks wanted request e = by_all (list_all is_ok ks) e
  where
    by_rise : (b : Bool) → ◌≡◌ {A = Result Request Refusal}
        (cond b (Err Refusal.NotRising) (Ok (Request.Sample (filter_map ok_of ks) wanted)))
        (Ok request) → (times : List ℕ) × (request ≡ Request.Sample times wanted)
    by_rise true f = cc
    by_rise false f = (
      filter_map ok_of ks,
      (let same : Request.Sample (filter_map ok_of ks) wanted
          ≡ request = cc in sym same),
    )

    by_all : (b : Bool) → ◌≡◌ {A = Result Request Refusal}
        (cond b (sample_at units (filter_map ok_of ks) wanted) (Err (first_refusal ks)))
        (Ok request) → (times : List ℕ) × (request ≡ Request.Sample times wanted)
    by_all true f = by_rise (units && not (do_rise (filter_map ok_of ks))) f
    by_all false f = cc

pub any_time : (ts : List ℕ) → AllByRecursion (λ t. Unit {0}) ts
any_time [] = tt
any_time (t ∷ ts) = (tt, any_time ts)

pub sample_of_pick : SampleOfPick
unfolding request_of
sample_of_pick limit name names wanted times input o job can within =
    let d = pick_is_a_dump limit name names input o can in
    let k = d.dump in
    let head = d.head in
    let text = written_by (Want.Pick names) limit name input in
    let inside = are_within wanted names o.header within in
    let selection = same_selected wanted names o.header k.header head.variables inside in
    let unmatched = same_unmatched wanted wanted names o.header k.header head.variables inside
    (λ n i. i) in
    let back = opens_header limit (input_of text) k d.opens in
    let values : (s : Selected) → In s (selected wanted o.header.declarations)
    → SameWhere (λ t. Unit {0}) (items_in k) (items_in o) s = λ s i quiet t is.
    let parts = from_filter (chosen wanted) (selected [] o.header.declarations) s
    (subst (In s) (selected_is wanted o.header.declarations) i) in
    let there : In s (selected [] k.header.declarations) =
    subst (In s) (sym (head.variables ∙ selected_is names o.header.declarations))
    (to_filter (chosen names) (selected [] o.header.declarations) s parts.0
    (inside s parts.0 parts.1)) in
    let own = to_codes_of k.header.declarations s.variable back.declared
    (subst (In s.variable) (variables_are k.header.declarations)
    (in_map (λ (x : Selected). x.variable) (selected [] k.header.declarations) s there)) in
    d.values (code_of s.variable) t (to_contained k.header.codes (code_of s.variable)
    (subst (In (code_of s.variable)) (sym back.codes) own)) quiet tt in
    let none = pick_none limit name names input o can in
    let sampled_same : (ts : List ℕ) → IsValid (Request.Sample ts wanted)
    → over_dumps (Request.Sample ts wanted) (name ∷ []) (k ∷ [])
    ≡ over_dumps (Request.Sample ts wanted) (name ∷ []) (o ∷ [])
    = λ ts valid. samples_agree ts wanted name k o valid (inr d.whole) (inr none) selection
    unmatched
    (all_same (λ t. Unit {0}) (selected wanted o.header.declarations) (items_in k) (items_in o) ts
    (any_time ts) values) in
    opened_run (Want.Sample times wanted) limit name (input_of text) k d.opens
    ∙ ap (λ scale. over (request_of scale (Want.Sample times wanted)) k) head.scale
    ∙ by_request (request_of o.header.scale (Want.Sample times wanted)) refl k sampled_same
    ∙ sym (opened_run (Want.Sample times wanted) limit name input o can.opens)
  where
    over : Result Request Refusal → Opened → Outcome
    over r p = elim r [
      | Err why ↦ refusal_outcome name why
      | Ok request ↦ over_dumps request
          (name ∷ []) (p ∷ [])
    ]

    by_request : (r : Result Request Refusal)
        → request_of o.header.scale (Want.Sample times wanted) ≡ r → (k : Opened)
        → ((ts : List ℕ) → IsValid (Request.Sample ts wanted)
        → over_dumps (Request.Sample ts wanted) (name ∷ []) (k ∷ [])
        ≡ over_dumps (Request.Sample ts wanted) (name ∷ []) (o ∷ [])) → over r k ≡ over r o
    by_request (Err why) e k same = refl
    by_request (Ok request) e k same =
        let shape = sample_shape (has_unit times)
        (map (λ m. moment_ticks o.header.scale m false) times) wanted request e in
        let valid = requests_are_valid o.header.scale (Want.Sample times wanted) request job e in
        ap (λ r. over_dumps r (name ∷ []) (k ∷ [])) shape.1
        ∙ same shape.0 (subst IsValid shape.1 valid)
        ∙ ap (λ r. over_dumps r (name ∷ []) (o ∷ [])) (sym shape.1)
