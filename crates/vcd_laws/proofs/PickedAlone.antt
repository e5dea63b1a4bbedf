-- What `pick` wrote is read by `sample` and `edges` as its input was, whichever names select what
-- was picked.
use Rattle.vcd_laws.proofs.Cited.{◌≡◌, ℕ, Bool, true, false, cond, ◌&&◌, not, List, [], ◌∷◌, filter, filter_map, flat_map, Some, None, Result, Ok, Err, is_ok, map, ◌⊎◌, inl, inr, refl, sym, ap, ◌∙◌, subst, list_all, Input, is_empty, code_of, Header, BodyItem, Selected, selected, first_unmatched, sample_lines, edges_line, declared_code, Moment, moment_ticks, Request, Outcome, Opened, clean_outcome, items_in, fault_in, over_dumps, Want, IsJob, Refusal, first_refusal, do_rise, ok_of, sample_at, has_unit, refusal_outcome, sample_request, outcome, written_by, input_of, over_written, IsReadable, SelectBoth, SampleOfAllPicked, EdgesOfAllPicked, SampleOfSomePicked, EdgesOfSomePicked, requests_are_valid}
use Rattle.vcd_model.specs.Job.{request_of}
use Rattle.vcd_laws.proofs.OpenedBodies.{opens_good, opened_fit, opened_shut}
use Rattle.vcd_laws.proofs.WrittenCodes.{In, from_filter, to_filter, from_contained, to_contained, to_codes_of, found_in}
use Rattle.vcd_laws.proofs.HeadBack.{in_selected, opens_header}
use Rattle.vcd_laws.proofs.RunLaws.{pick_matched, opened_run}
use Rattle.vcd_laws.proofs.DumpLaws.{pick_is_a_dump}
use Rattle.vcd_laws.proofs.PickUses.{chosen, selected_is, pick_none, SameWhere, all_same, any_time, sampled, sample_run}
use Rattle.vcd_laws.proofs.PickCounts.{KeepsCounts, picked_counts}
use Rattle.vcd_laws.proofs.EdgesOfPick.{counted, edges_run, lines_same, picked_items}

-- ---- names that select alike

-- what some names select of one header, others select of another, and each selects something
pub record SelectAlike (wanted both : List (List ℕ)) (k h : Header) : Type 0 where
  pub selection : selected wanted k.declarations ≡ selected both h.declarations
  pub here : first_unmatched wanted k.declarations ≡ None
  pub there : first_unmatched both h.declarations ≡ None

-- without names all of what was picked is selected
alone_alike : (names : List (List ℕ)) (k h : Header)
    → selected [] k.declarations ≡ selected names h.declarations
    → first_unmatched names h.declarations ≡ None → SelectAlike [] names k h
alone_alike names k h e matched = record { selection = e; here = refl; there = matched }

-- a test that holds if two others hold
pub both_tests : {X : Type 0} (p q r : X → Bool) (xs : List X)
    → ((x : X) → In x xs → r x ≡ (p x && q x)) → filter p (filter q xs) ≡ filter r xs
both_tests p q r [] h = refl
both_tests p q r (x ∷ xs) h =
    by_tests (p x) (q x) refl refl (h x (inl refl)) (both_tests p q r xs (λ y i. h y (inr i)))
  where
    by_tests : (a b : Bool) → p x ≡ a → q x ≡ b → r x ≡ (p x && q x)
        → filter p (filter q xs) ≡ filter r xs
        → filter p (filter q (x ∷ xs)) ≡ filter r (x ∷ xs)
    by_tests true true e f s more =
        let g : r x ≡ true = s ∙ rw (e, f) refl in rw (f, e, g) (ap (λ l. x ∷ l) more)
    by_tests true false e f s more =
        let g : r x ≡ false = s ∙ rw (e, f) refl in rw (f, g) more
    by_tests false true e f s more =
        let g : r x ≡ false = s ∙ rw e refl in rw (f, e, g) more
    by_tests false false e f s more =
        let g : r x ≡ false = s ∙ rw e refl in rw (f, g) more

both_true : (a b c : Bool) → (c ≡ true → (a ≡ true) × (b ≡ true))
    → (a ≡ true → b ≡ true → c ≡ true) → c ≡ (a && b)
both_true true true c f g = g refl refl
both_true true false true f g = let e = (f refl).1 in cc
both_true true false false f g = refl
both_true false b true f g = let e = (f refl).0 in cc
both_true false b false f g = refl

-- a selected variable is one of all that a name selects
pub in_chosen : (names : List (List ℕ)) (h : Header) (s : Selected)
    → In s (selected names h.declarations)
    → In s (selected [] h.declarations) × (chosen names s ≡ true)
in_chosen names h s i = from_filter (chosen names) (selected [] h.declarations) s
    (subst (In s) (selected_is names h.declarations) i)

to_chosen : (names : List (List ℕ)) (h : Header) (s : Selected)
    → In s (selected [] h.declarations) → chosen names s ≡ true
    → In s (selected names h.declarations)
to_chosen names h s i e = subst (In s) (sym (selected_is names h.declarations))
    (to_filter (chosen names) (selected [] h.declarations) s i e)

pub all_matched : (ws : List (List ℕ)) (k : Header)
    → ((w : List ℕ) → In w ws → (s : Selected) × In s (selected (w ∷ []) k.declarations))
    → first_unmatched ws k.declarations ≡ None
all_matched [] k f = refl
all_matched (w ∷ ws) k f =
    let s = f w (inl refl) in
    rw (some s.0 (selected (w ∷ []) k.declarations) s.1, all_matched ws k (λ v i. f v (inr i))) refl
  where
    some : (s : Selected) (vs : List Selected) → In s vs → is_empty vs ≡ false
    some s [] i = absurd i
    some s (v ∷ vs) i = refl

pub both_chosen : (wanted names both : List (List ℕ)) (h : Header) → SelectBoth wanted names both h
    → (s : Selected) → In s (selected [] h.declarations)
    → chosen both s ≡ (chosen wanted s && chosen names s)
both_chosen wanted names both h is s i =
    let together = is.together in
    both_true (chosen wanted s) (chosen names s) (chosen both s)
    (λ c. let t = (together s).0 (to_contained (selected both h.declarations) s
    (to_chosen both h s i c)) in (
      (in_chosen wanted h s (from_contained (selected wanted h.declarations) s t.0)).1,
      (in_chosen names h s (from_contained (selected names h.declarations) s t.1)).1,
    ))
    (λ a b. (in_chosen both h s (from_contained (selected both h.declarations) s
    ((together s).1 (
      to_contained (selected wanted h.declarations) s (to_chosen wanted h s i a),
      to_contained (selected names h.declarations) s (to_chosen names h s i b),
    )))).1)

pub both_alike : (names wanted both : List (List ℕ)) (k h : Header)
    → selected [] k.declarations ≡ selected names h.declarations
    → SelectBoth wanted names both h → SelectAlike wanted both k h
both_alike names wanted both k h e is =
    let each = is.each_selects in
    record {
      selection = selected_is wanted k.declarations
          ∙ ap (filter (chosen wanted)) (e ∙ selected_is names h.declarations)
          ∙ both_tests (chosen wanted) (chosen names) (chosen both) (selected [] h.declarations)
          (both_chosen wanted names both h is)
          ∙ sym (selected_is both h.declarations);
      here = all_matched wanted k (λ w i.
          let s = each w (to_contained wanted w i) in
          let one = in_chosen (w ∷ []) h s.0
          (from_contained (selected (w ∷ []) h.declarations) s.0 s.1) in (
            s.0,
            to_chosen (w ∷ []) k s.0 (subst (In s.0) (sym e)
                (from_contained (selected names h.declarations) s.0 s.2)) one.1,
          ));
      there = is.alone;
    }

-- ---- `sample`

-- names are taken into what a sample asks for as they are
abbrev Asks : (List (List ℕ) → Result Request Refusal) → Type 0
Asks f = ((why : Refusal) × ((ns : List (List ℕ)) → f ns ≡ Err why))
    ⊎ ((ts : List ℕ) × ((ns : List (List ℕ)) → f ns ≡ Ok (Request.Sample ts ns)))

sample_asks : (units : Bool) (ks : List (Result ℕ ℕ)) → Asks (sample_request units ks)
sample_asks units ks = by_all (list_all is_ok ks)
  where
    by_rise : (b : Bool) → Asks (λ ns. cond b (Err Refusal.NotRising)
        (Ok (Request.Sample (filter_map ok_of ks) ns)))
    by_rise true = inl (Refusal.NotRising, λ ns. refl)
    by_rise false = inr (filter_map ok_of ks, λ ns. refl)

    by_all : (b : Bool) → Asks (λ ns. cond b (sample_at units (filter_map ok_of ks) ns)
        (Err (first_refusal ks)))
    by_all true = by_rise (units && not (do_rise (filter_map ok_of ks)))
    by_all false = inl (first_refusal ks, λ ns. refl)

sample_alike : (limit : ℕ) (name : List ℕ) (names wanted both : List (List ℕ))
    (times : List Moment) (input : Input) (o : Opened)
    → IsJob (Want.Sample times both) → (can : IsReadable (Want.Pick names) limit name input o)
    → SelectAlike wanted both (pick_is_a_dump limit name names input o can).dump.header o.header
    → over_written (Want.Sample times wanted) (Want.Pick names) limit name input
    ≡ outcome (Want.Sample times both) limit (name ∷ []) (input ∷ [])
unfolding request_of sampled
sample_alike limit name names wanted both times input o job can alike =
    let d = pick_is_a_dump limit name names input o can in
    let k = d.dump in
    let head = d.head in
    let text = written_by (Want.Pick names) limit name input in
    let back = opens_header limit (input_of text) k d.opens in
    let none = pick_none limit name names input o can in
    let scale = o.header.scale in
    let values : (s : Selected) → In s (selected both o.header.declarations)
    → SameWhere (λ t. Unit {0}) (items_in k) (items_in o) s = λ s i quiet t is.
    let own = to_codes_of k.header.declarations s.variable back.declared
    (in_selected wanted k.header.declarations s (subst (In s) (sym alike.selection) i)) in
    d.values (code_of s.variable) t (to_contained k.header.codes (code_of s.variable)
    (subst (In (code_of s.variable)) (sym back.codes) own)) quiet tt in
    let done : over (request_of scale (Want.Sample times wanted)) k
    ≡ over (request_of scale (Want.Sample times both)) o
    = by_request (sample_asks (has_unit times) (map (λ m. moment_ticks scale m false) times)) k
    d.whole none alike values in
    opened_run (Want.Sample times wanted) limit name (input_of text) k d.opens
    ∙ ap (λ x. over (request_of x (Want.Sample times wanted)) k) head.scale
    ∙ done
    ∙ sym (opened_run (Want.Sample times both) limit name input o can.opens)
  where
    over : Result Request Refusal → Opened → Outcome
    over r p = elim r [
      | Err why ↦ refusal_outcome name why
      | Ok request ↦ over_dumps request
          (name ∷ []) (p ∷ [])
    ]

    ks : List (Result ℕ ℕ)
    ks = map (λ m. moment_ticks o.header.scale m false) times

    by_request : Asks (sample_request (has_unit times) ks) → (k : Opened)
        → fault_in k ≡ None → fault_in o ≡ None → SelectAlike wanted both k.header o.header
        → ((s : Selected) → In s (selected both o.header.declarations)
        → SameWhere (λ t. Unit {0}) (items_in k) (items_in o) s)
        → over (sample_request (has_unit times) ks wanted) k
        ≡ over (sample_request (has_unit times) ks both) o
    by_request (inl why) k whole none alike values =
        ap (λ r. over r k) (why.1 wanted) ∙ ap (λ r. over r o) (sym (why.1 both))
    by_request (inr asks) k whole none alike values =
        let ts = asks.0 in
        let valid = requests_are_valid o.header.scale (Want.Sample times both)
        (Request.Sample ts both) job (asks.1 both) in
        let vs = selected both o.header.declarations in
        ap (λ r. over r k) (asks.1 wanted)
        ∙ sample_run ts wanted name k (inr whole) valid
        ∙ ap (λ (l : List Selected). sampled wanted (first_unmatched wanted k.header.declarations)
        (flat_map (sample_lines l (items_in k)) ts)) alike.selection
        ∙ ap (λ place. sampled wanted place (flat_map (sample_lines vs (items_in k)) ts)) alike.here
        ∙ ap clean_outcome (all_same (λ t. Unit {0}) vs (items_in k) (items_in o) ts (any_time ts)
        values)
        ∙ ap (λ place. sampled both place (flat_map (sample_lines vs (items_in o)) ts))
        (sym alike.there)
        ∙ sym (sample_run ts both name o (inr none) valid)
        ∙ ap (λ r. over r o) (sym (asks.1 both))

-- each name of a pick that can be read again selects something
matched : (limit : ℕ) (name : List ℕ) (names : List (List ℕ)) (input : Input) (o : Opened)
    → IsReadable (Want.Pick names) limit name input o
    → first_unmatched names o.header.declarations ≡ None
matched limit name names input o can =
    pick_matched names name o (ap (λ (d : Outcome). d.status)
    (sym (opened_run (Want.Pick names) limit name input o can.opens)) ∙ can.clean)

pub sample_of_all_picked : SampleOfAllPicked
sample_of_all_picked limit name names times input o job can =
    let d = pick_is_a_dump limit name names input o can in
    let head = d.head in
    sample_alike limit name names [] names times input o job can
    (alone_alike names d.dump.header o.header head.variables
    (matched limit name names input o can))

pub sample_of_some_picked : SampleOfSomePicked
sample_of_some_picked limit name names wanted both times input o job can is =
    let d = pick_is_a_dump limit name names input o can in
    let head = d.head in
    sample_alike limit name names wanted both times input o job can
    (both_alike names wanted both d.dump.header o.header head.variables is)

-- ---- `edges`

edges_alike : (limit : ℕ) (name : List ℕ) (names wanted both : List (List ℕ)) (input : Input)
    (o : Opened) → IsReadable (Want.Pick names) limit name input o
    → ((k : Header) → selected [] k.declarations ≡ selected names o.header.declarations
    → SelectAlike wanted both k o.header)
    → over_written (Want.Edges wanted) (Want.Pick names) limit name input
    ≡ outcome (Want.Edges both) limit (name ∷ []) (input ∷ [])
unfolding request_of counted
edges_alike limit name names wanted both input o can are =
    let opens = can.opens in
    let p = picked_items limit name names input o can in
    let d = p.dump in
    let k = d.dump in
    let head = d.head in
    let text = written_by (Want.Pick names) limit name input in
    let good = opens_good limit input o opens in
    let fit = opened_fit o good in
    let shut = opened_shut o good p.none in
    let vs = selected both o.header.declarations in
    let alike : SelectAlike wanted both k.header o.header = are k.header head.variables in
    let back = opens_header limit (input_of text) k d.opens in
    let codes = head.codes in
    let counts : (s : Selected) → In s vs
    → KeepsCounts (items_in k) (items_in o) (code_of s.variable) = λ s i.
    let own = to_codes_of k.header.declarations s.variable back.declared
    (in_selected wanted k.header.declarations s (subst (In s) (sym alike.selection) i)) in
    let c = code_of s.variable in
    let both = (codes c).0 (to_contained k.header.codes c (subst (In c) (sym back.codes) own)) in
    let declared : declared_code o.header.codes c.text ≡ Some c =
    found_in o.header.codes c good.codes (from_contained o.header.codes c both.0) in
    subst (λ (l : List BodyItem). KeepsCounts l (items_in o) c) (sym p.items)
    (picked_counts o.header.codes (selected names o.header.declarations) (items_in o) c good.codes
    fit shut declared both.1) in
    opened_run (Want.Edges wanted) limit name (input_of text) k d.opens
    ∙ edges_run wanted name k d.whole
    ∙ ap (λ (l : List Selected). counted wanted (first_unmatched wanted k.header.declarations)
    (flat_map (edges_line (items_in k)) l)) alike.selection
    ∙ ap (λ place. counted wanted place (flat_map (edges_line (items_in k)) vs)) alike.here
    ∙ ap clean_outcome (lines_same vs (items_in k) (items_in o) counts)
    ∙ ap (λ place. counted both place (flat_map (edges_line (items_in o)) vs)) (sym alike.there)
    ∙ sym (edges_run both name o p.none)
    ∙ sym (opened_run (Want.Edges both) limit name input o opens)

pub edges_of_all_picked : EdgesOfAllPicked
edges_of_all_picked limit name names input o can =
    edges_alike limit name names [] names input o can
    (λ k e. alone_alike names k o.header e (matched limit name names input o can))

pub edges_of_some_picked : EdgesOfSomePicked
edges_of_some_picked limit name names wanted both input o can is =
    edges_alike limit name names wanted both input o can
    (λ k e. both_alike names wanted both k o.header e is)
