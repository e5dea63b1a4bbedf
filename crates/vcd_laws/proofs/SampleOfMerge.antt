-- `sample` of what `merge` wrote gives the values of its inputs.
use Rattle.vcd_laws.proofs.Cited.{◌≡◌, ℕ, ◌+◌, ◌*◌, ◌<◌, ◌^◌, Bool, true, false, cond, List, [], ◌∷◌, ◌++◌, length, map, flat_map, decimal, Option, Some, None, Result, Ok, Err, inl, inr, refl, sym, ap, ◌∙◌, subst, arith, AllByRecursion, map-append, length-map, Input, each_after, code_of, Header, BodyItem, Value, value_at, words, least_exponent, shown, sample_lines, Selected, selected, first_unmatched, Dump, factor, headers_of, Request, Outcome, Opened, items_in, clean_outcome, dumps_of, over_dumps, Want, Refusal, refusal_outcome, outcome, renamed_code, under_input, merged_variable, input_of, AreReadable, merged_lines, names_under, SampleOfMerge, requests_are_valid, all_back}
use Rattle.vcd_model.specs.Job.{request_of}
use Rattle.vcd_laws.proofs.WrittenCodes.{In, to_contained, to_codes_of}
use Rattle.vcd_laws.proofs.HeadBack.{in_selected}
use Rattle.vcd_laws.proofs.MergedHead.{CanMerge, merged_selected}
use Rattle.vcd_laws.proofs.MergedBack.{all_can, many}
use Rattle.vcd_laws.proofs.RunLaws.{opened_run}
use Rattle.vcd_laws.proofs.PickUses.{sampled, sample_run}
use Rattle.vcd_laws.proofs.DumpLaws.{merge_is_a_dump}
use Rattle.vcd_laws.proofs.MergedPaths.{selected_under, unmatched_under}
use Rattle.vcd_laws.proofs.WholeDumps.{whole_dump, dumps_whole}

-- ---- one input among others

-- where an input of a merge is
pub record Among (os : List Opened) (earlier later : List Opened) (o : Opened) : Type 0 where
  pub dumps : dumps_of os ≡ map whole_dump earlier ++ whole_dump o ∷ map whole_dump later
  pub headers : headers_of (dumps_of os) ≡ headers_of (map whole_dump earlier)
      ++ o.header ∷ headers_of (map whole_dump later)
  pub count : length (headers_of (map whole_dump earlier)) ≡ length earlier

pub among : (limit : ℕ) (names : List (List ℕ)) (inputs : List Input)
    (os earlier later : List Opened) (o : Opened) → AreReadable limit names inputs os
    → os ≡ earlier ++ o ∷ later → Among os earlier later o
among limit names inputs os earlier later o can e =
    let law = merge_is_a_dump limit names inputs os can in
    let dumps : dumps_of os ≡ map whole_dump earlier ++ whole_dump o ∷ map whole_dump later =
    dumps_whole os law.0 ∙ ap (map whole_dump) e ∙ map-append whole_dump earlier (o ∷ later) in
    record {
      dumps = dumps;
      headers = ap headers_of dumps
          ∙ map-append (λ (d : Dump). d.header) (map whole_dump earlier)
          (whole_dump o ∷ map whole_dump later);
      count = length-map (map whole_dump earlier) (λ (d : Dump). d.header)
          ∙ length-map earlier whole_dump;
    }

-- a selected variable's code is one of its header
pub code_in : (h : Header) (wanted : List (List ℕ)) (s : Selected) → CanMerge h
    → In s (selected wanted h.declarations) → In (code_of s.variable) h.codes
code_in h wanted s can i = let good = can.good in
    subst (In (code_of s.variable)) (sym good.codes)
    (to_codes_of h.declarations s.variable good.declared (in_selected wanted h.declarations s i))

-- ---- lines

module _ (front : List Header) (h : Header) (scale : ℕ) (items others : List BodyItem) where
  -- a merged variable has the values of its own at scaled times
  abbrev SameScaled : Selected → Type 0
  SameScaled s = (code_of s.variable).event ≡ false → (t : ℕ)
      → value_at others (renamed_code front h (code_of s.variable)) (scale * t)
      ≡ value_at items (code_of s.variable) t

  lines_same : (vs : List Selected) (t : ℕ) → ((s : Selected) → In s vs → SameScaled s)
      → sample_lines (map (merged_variable front h) vs) others (scale * t)
      ≡ merged_lines (length front + 1) scale vs items t
  lines_same [] t same = refl
  lines_same (s ∷ vs) t same =
      by_event (code_of s.variable).event refl (lines_same vs t (λ x i. same x (inr i)))
    where
      line : Option Value → List ℕ
      line o = words (decimal (scale * t) ∷ under_input (length front + 1) s.path ∷ shown o ∷ [])

      by_event : (b : Bool) → (code_of s.variable).event ≡ b
          → sample_lines (map (merged_variable front h) vs) others (scale * t)
          ≡ merged_lines (length front + 1) scale vs items t
          → cond (code_of s.variable).event []
          (line (value_at others (renamed_code front h (code_of s.variable)) (scale * t)))
          ++ sample_lines (map (merged_variable front h) vs) others (scale * t)
          ≡ cond (code_of s.variable).event [] (line (value_at items (code_of s.variable) t))
          ++ merged_lines (length front + 1) scale vs items t
      by_event true e more = rw e more
      by_event false e more = rw (e, same s (inl refl) e t)
          (ap (λ l. line (value_at items (code_of s.variable) t) ++ l) more)

  all_lines_same : (vs : List Selected) (ts : List ℕ) → ((s : Selected) → In s vs → SameScaled s)
      → flat_map (sample_lines (map (merged_variable front h) vs) others) (map (λ t. scale * t) ts)
      ≡ flat_map (merged_lines (length front + 1) scale vs items) ts
  all_lines_same vs [] same = refl
  all_lines_same vs (t ∷ ts) same =
      ap (λ l. l ++ flat_map (sample_lines (map (merged_variable front h) vs) others)
      (map (λ t. scale * t) ts)) (lines_same vs t same)
      ∙ ap (λ l. merged_lines (length front + 1) scale vs items t ++ l) (all_lines_same vs ts same)

-- ---- the law

pub sample_of_merge : SampleOfMerge
unfolding request_of sampled
sample_of_merge limit name names inputs os earlier later o times wanted ts can e some each job
    asks =
    let law = merge_is_a_dump limit names inputs os can in
    let d = law.1 in
    let k = d.dump in
    let head = d.head in
    let h = o.header in
    let hs = headers_of (dumps_of os) in
    let f = factor hs h in
    let at = among limit names inputs os earlier later o can e in
    let front = headers_of (map whole_dump earlier) in
    let back = headers_of (map whole_dump later) in
    let n = length earlier + 1 in
    let text = (outcome Want.Merge limit names inputs).output in
    let more = many hs in
    let few = can.few in
    let small : length (front ++ h ∷ back) < 2 ^ 63 =
    subst (λ (l : List Header). length l < 2 ^ 63) at.headers (omega arith) in
    let count = at.count in
    let variables = head.variables
    ∙ ap (λ (l : List Header). flat_map (λ vs. vs) (each_after merged_selected [] l))
    at.headers in
    let selection : selected (names_under n wanted) k.header.declarations
    ≡ map (merged_variable front h) (selected wanted h.declarations)
    = subst (λ (m : ℕ). selected (names_under (m + 1) wanted) k.header.declarations
    ≡ map (merged_variable front h) (selected wanted h.declarations)) count
    (selected_under front back h wanted k.header.declarations some small variables) in
    let unmatched : first_unmatched (names_under n wanted) k.header.declarations ≡ None
    = subst (λ (m : ℕ). first_unmatched (names_under (m + 1) wanted) k.header.declarations ≡ None)
    count (unmatched_under front back h wanted k.header.declarations small variables ∙ each) in
    let one : CanMerge h = (all_back CanMerge front (h ∷ back)
    (subst (AllByRecursion CanMerge) at.headers
    (all_can limit inputs os can.opens can.shallow))).0 in
    let same : (s : Selected) → In s (selected wanted h.declarations)
    → SameScaled front h f (items_in o) (items_in k) s
    = λ s i quiet t. d.values (map whole_dump earlier) (map whole_dump later) (whole_dump o)
    at.dumps (code_of s.variable) t (to_contained h.codes (code_of s.variable)
    (code_in h wanted s one i)) quiet in
    let lines : flat_map (sample_lines (map (merged_variable front h)
    (selected wanted h.declarations)) (items_in k)) (map (λ t. f * t) ts)
    ≡ flat_map (merged_lines n f (selected wanted h.declarations) (items_in o)) ts
    = subst (λ (m : ℕ). flat_map (sample_lines
    (map (merged_variable front h) (selected wanted h.declarations)) (items_in k))
    (map (λ t. f * t) ts) ≡ flat_map (merged_lines (m + 1) f (selected wanted h.declarations)
    (items_in o)) ts) count
    (all_lines_same front h f (items_in o) (items_in k) (selected wanted h.declarations) ts same) in
    let valid = requests_are_valid (Some (least_exponent hs))
    (Want.Sample times (names_under n wanted))
    (Request.Sample (map (λ t. f * t) ts) (names_under n wanted)) job asks in
    opened_run (Want.Sample times (names_under n wanted)) limit name (input_of text) k d.opens
    ∙ ap (λ scale. over (request_of scale (Want.Sample times (names_under n wanted))) k) head.scale
    ∙ ap (λ r. over r k) asks
    ∙ sample_run (map (λ t. f * t) ts) (names_under n wanted) name k (inr d.whole) valid
    ∙ ap (λ (l : List Selected). sampled (names_under n wanted)
    (first_unmatched (names_under n wanted) k.header.declarations)
    (flat_map (sample_lines l (items_in k)) (map (λ t. f * t) ts))) selection
    ∙ ap (λ place. sampled (names_under n wanted) place
    (flat_map (sample_lines (map (merged_variable front h) (selected wanted h.declarations))
    (items_in k)) (map (λ t. f * t) ts))) unmatched
    ∙ ap clean_outcome lines
  where
    over : Result Request Refusal → Opened → Outcome
    over r p = elim r [
      | Err why ↦ refusal_outcome name why
      | Ok request ↦ over_dumps request
          (name ∷ []) (p ∷ [])
    ]
