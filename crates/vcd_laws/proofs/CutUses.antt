-- What `cut` wrote is read by `list` as its input was, and by `sample` at times that were kept.
use Rattle.vcd_laws.proofs.Cited.{◌≡◌, ◌≢◌, ℕ, ◌≤◌, true, false, List, [], ◌∷◌, None, Result, Ok, Err, ◌⊎◌, inl, inr, IsTrue, flat_map, refl, sym, ap, ◌∙◌, subst, AllByRecursion, list_any, code_of, Selected, selected, ends_cut, list_line, moment_ticks, Request, Outcome, Opened, items_in, fault_in, ends_early, clean_outcome, over_dumps, Want, Refusal, refusal_outcome, outcome, written_by, input_of, IsDumpFor, ListOfCut, SampleOfCut, requests_are_valid}
use Rattle.vcd_model.specs.CheckAndList.{list_text}
use Rattle.vcd_model.specs.Outcome.{over_dump}
use Rattle.vcd_model.specs.Job.{request_of}
use Rattle.vcd_laws.proofs.WrittenCodes.{In, from_filter, to_contained, in_map, to_codes_of}
use Rattle.vcd_laws.proofs.HeadBack.{variables_are, opens_header}
use Rattle.vcd_laws.proofs.RunLaws.{cut_run, opened_run}
use Rattle.vcd_laws.proofs.DumpLaws.{cut_is_a_dump}
use Rattle.vcd_laws.proofs.SampleText.{ends_sample}
use Rattle.vcd_laws.proofs.PickUses.{chosen, selected_is, same_selected, same_unmatched, samples_agree, SameWhere, all_same}

-- the same ticks, whichever way they are named
same_ok : (r : Result ℕ ℕ) (a b : ℕ) → r ≡ Ok a → r ≡ Ok b → a ≡ b
same_ok r a b e f = let g = sym e ∙ f in cc

ups_to : (a b : ℕ) (ts : List ℕ) → AllByRecursion (λ t. (a ≤ t) × (t ≤ b)) ts
    → AllByRecursion (λ t. t ≤ b) ts
ups_to a b [] h = tt
ups_to a b (t ∷ ts) h = (h.0.1, ups_to a b ts h.1)

pub sample_of_cut : SampleOfCut
unfolding request_of
sample_of_cut limit name from to times wanted input o a b ts cuts job can first last asks inside =
    let opens = can.opens in
    let text = written_by (Want.Cut from to) limit name input in
    let run = cut_run limit name from to input o cuts
    (opened_run (Want.Cut from to) limit name input o opens) can.clean in
    let law = cut_is_a_dump limit name from to input o cuts can in
    let begins : law.0 ≡ a = same_ok (moment_ticks o.header.scale from true) law.0 a law.2 first in
    let stops : law.1 ≡ b = same_ok (moment_ticks o.header.scale to false) law.1 b law.3 last in
    let d : IsDumpFor limit o [] (λ t. (a ≤ t) × (t ≤ b)) text =
    subst (λ (n : ℕ). IsDumpFor limit o [] (λ t. (a ≤ t) × (t ≤ n)) text) stops
    (subst (λ (n : ℕ). IsDumpFor limit o [] (λ t. (n ≤ t) × (t ≤ law.1)) text) begins law.4) in
    let k = d.dump in
    let head = d.head in
    let bound : run.b ≡ b = same_ok (moment_ticks o.header.scale to false) run.b b run.last last in
    let valid = requests_are_valid o.header.scale (Want.Sample times wanted)
    (Request.Sample ts wanted) job asks in
    let clean : (list_any (ends_early (Request.Sample ts wanted)) (items_in o) ≡ true)
    ⊎ (fault_in o ≡ None) = by_end (subst
    (λ (n : ℕ). IsTrue (ends_cut n (items_in o)) ⊎ (fault_in o ≡ None)) bound run.ends)
    valid.0 in
    let selection = same_selected wanted [] o.header k.header head.variables (λ s i e. refl) in
    let unmatched = same_unmatched wanted wanted [] o.header k.header head.variables (λ s i e. refl)
    (λ n i. i) in
    let back = opens_header limit (input_of text) k d.opens in
    let values : (s : Selected) → In s (selected wanted o.header.declarations)
    → SameWhere (λ t. (a ≤ t) × (t ≤ b)) (items_in k) (items_in o) s = λ s i quiet t is.
    let parts = from_filter (chosen wanted) (selected [] o.header.declarations) s
    (subst (In s) (selected_is wanted o.header.declarations) i) in
    let there : In s (selected [] k.header.declarations) =
    subst (In s) (sym head.variables) parts.0 in
    let own = to_codes_of k.header.declarations s.variable back.declared
    (subst (In s.variable) (variables_are k.header.declarations)
    (in_map (λ (x : Selected). x.variable) (selected [] k.header.declarations) s there)) in
    d.values (code_of s.variable) t (to_contained k.header.codes (code_of s.variable)
    (subst (In (code_of s.variable)) (sym back.codes) own)) quiet is in
    let done : over_dumps (Request.Sample ts wanted) (name ∷ []) (k ∷ [])
    ≡ over_dumps (Request.Sample ts wanted) (name ∷ []) (o ∷ [])
    = samples_agree ts wanted name k o valid (inr d.whole) clean selection unmatched
    (all_same (λ t. (a ≤ t) × (t ≤ b)) (selected wanted o.header.declarations) (items_in k)
    (items_in o) ts inside values) in
    let want = Want.Sample times wanted in
    let after : outcome want limit (name ∷ []) (input_of text ∷ [])
    ≡ over_dumps (Request.Sample ts wanted) (name ∷ []) (k ∷ [])
    = opened_run want limit name (input_of text) k d.opens
    ∙ ap (λ r. over r k) (ap (λ scale. request_of scale want) head.scale ∙ asks) in
    let before : outcome want limit (name ∷ []) (input ∷ [])
    ≡ over_dumps (Request.Sample ts wanted) (name ∷ []) (o ∷ [])
    = opened_run want limit name input o opens ∙ ap (λ r. over r o) asks in
    after ∙ done ∙ sym before
  where
    over : Result Request Refusal → Opened → Outcome
    over r p = elim r [
      | Err why ↦ refusal_outcome name why
      | Ok request ↦ over_dumps request
          (name ∷ []) (p ∷ [])
    ]

    by_end : IsTrue (ends_cut b (items_in o)) ⊎ (fault_in o ≡ None) → ts ≢ []
        → (list_any (ends_early (Request.Sample ts wanted)) (items_in o) ≡ true)
        ⊎ (fault_in o ≡ None)
    by_end (inl ends) some =
        inl (ends_sample b ts wanted (items_in o) some (ups_to a b ts inside) ends)
    by_end (inr none) some = inr none

pub list_of_cut : ListOfCut
unfolding request_of over_dump list_text
list_of_cut limit name from to input o cuts can =
    let law = cut_is_a_dump limit name from to input o cuts can in
    let d = law.4 in
    let head = d.head in
    opened_run Want.Listing limit name (input_of (written_by (Want.Cut from to) limit name input))
    d.dump d.opens
    ∙ ap (λ l. clean_outcome (flat_map list_line l)) head.variables
    ∙ sym (opened_run Want.Listing limit name input o can.opens)
