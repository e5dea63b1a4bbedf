-- `sample` at any times, and `edges`, of what `merge` wrote, for whole inputs.
use Rattle.vcd_laws.proofs.Cited.{◌≡◌, ◌≢◌, ℕ, suc, ◌+◌, ◌/◌, ◌<◌, ◌^◌, Bool, true, false, cond, ◌||◌, Contains, List, [], ◌∷◌, ◌++◌, length, map, filter, flat_map, decimal, None, Some, Result, Ok, Err, inl, inr, refl, sym, ap, ◌∙◌, subst, arith, AllByRecursion, list_any, append_assoc, map-append, flat_map-append, filter-append, is_empty, each_after, Input, IdCode, code_of, Header, BodyItem, value_at, words, least_exponent, shown, sample_lines, edges_line, Selected, selects_path, selected, first_unmatched, Dump, factor, headers_of, Moment, Request, Outcome, Opened, items_in, clean_outcome, dumps_of, over_dumps, Want, IsJob, Refusal, refusal_outcome, outcome, renamed_code, under_input, merged_variable, input_of, over_merged, AreReadable, names_in, line_in, merged_row, SampleOfOneMerged, SampleOfAllMerged, selected_in_merge, EachSelects, EdgesOfOneMerged, EdgesOfAllMerged, SampleOfAnyMerged, EdgesOfAnyMerged, requests_are_valid, all_back, inputs_good, each_after-append}
use Rattle.vcd_model.specs.Job.{request_of}
use Rattle.vcd_laws.proofs.MergeDumps.{dumps_good}
use Rattle.vcd_laws.proofs.MergeLaw.{merge_values_at}
use Rattle.vcd_laws.proofs.WrittenCodes.{In, from_contained, to_contained, in_left, in_right, in_map, from_filter, to_filter}
use Rattle.vcd_laws.proofs.MergedHead.{CanMerge, merged_selected}
use Rattle.vcd_laws.proofs.MergedBack.{all_can, many}
use Rattle.vcd_laws.proofs.RunLaws.{opened_run}
use Rattle.vcd_laws.proofs.PickUses.{chosen, selected_is, sampled, sample_run}
use Rattle.vcd_laws.proofs.PickedAlone.{all_matched}
use Rattle.vcd_laws.proofs.EdgesOfPick.{counted, edges_run}
use Rattle.vcd_laws.proofs.DumpLaws.{merge_is_a_dump}
use Rattle.vcd_laws.proofs.CheckOfMerge.{MergeItems, merge_items}
use Rattle.vcd_laws.proofs.MergedPaths.{selected_in, unmatched_in}
use Rattle.vcd_laws.proofs.WholeDumps.{whole_dump, dumps_whole}
use Rattle.vcd_laws.proofs.SampleOfMerge.{Among, among, code_in}
use Rattle.vcd_laws.proofs.EdgesOfMerge.{SameCounts, counts_same, merged_counts}

-- ---- lines of lists

mapped_lines : (F : Selected → List ℕ) (M : Selected → Selected) (G : Selected → List ℕ)
    (vs : List Selected) → ((s : Selected) → In s vs → F (M s) ≡ G s)
    → flat_map F (map M vs) ≡ flat_map G vs
mapped_lines F M G [] same = refl
mapped_lines F M G (s ∷ vs) same =
    ap (λ l. l ++ flat_map F (map M vs)) (same s (inl refl))
    ∙ ap (λ l. G s ++ l) (mapped_lines F M G vs (λ x i. same x (inr i)))

at_times : (F G : ℕ → List ℕ) (ts : List ℕ) → ((t : ℕ) → F t ≡ G t) → flat_map F ts ≡ flat_map G ts
at_times F G [] same = refl
at_times F G (t ∷ ts) same =
    ap (λ l. l ++ flat_map F ts) (same t) ∙ ap (λ l. G t ++ l) (at_times F G ts same)

-- the headers of inputs
abbrev heads : List Opened → List Header
heads os = headers_of (map whole_dump os)

heads-push : (os : List Opened) (o : Opened) → heads (os ++ o ∷ []) ≡ heads os ++ o.header ∷ []
heads-push os o = ap headers_of (map-append whole_dump os (o ∷ []))
    ∙ map-append (λ (d : Dump). d.header) (map whole_dump os) (whole_dump o ∷ [])

-- the lines of all variables of a merge are those of each input
lines_of_all : (F : Selected → List ℕ) (G : List Opened → Opened → Selected → List ℕ)
    (os earlier rest : List Opened) → os ≡ earlier ++ rest
    → ((front back : List Opened) (o : Opened) → os ≡ front ++ o ∷ back → (s : Selected)
    → In s (selected [] o.header.declarations)
    → F (merged_variable (heads front) o.header s) ≡ G front o s)
    → flat_map F (flat_map (λ vs. vs) (each_after merged_selected (heads earlier) (heads rest)))
    ≡ flat_map (λ l. l) (each_after (λ front o. flat_map (G front o)
    (selected [] o.header.declarations)) earlier rest)
lines_of_all F G os earlier [] e same = refl
lines_of_all F G os earlier (o ∷ rest) e same =
    let vs = selected [] o.header.declarations in
    let more = λ (l : List Header). flat_map (λ xs. xs) (each_after merged_selected l (heads rest)) in
    flat_map-append F (map (merged_variable (heads earlier) o.header) vs)
    (more (heads earlier ++ o.header ∷ []))
    ∙ ap (λ l. l ++ flat_map F (more (heads earlier ++ o.header ∷ [])))
    (mapped_lines F (merged_variable (heads earlier) o.header) (G earlier o) vs
    (same earlier rest o e))
    ∙ ap (λ (l : List Header). flat_map (G earlier o) vs ++ flat_map F (more l))
    (sym (heads-push earlier o))
    ∙ ap (λ l. flat_map (G earlier o) vs ++ l)
    (lines_of_all F G os (earlier ++ o ∷ []) rest (e ∙ sym (append_assoc earlier (o ∷ []) rest))
    same)

-- ---- names of any input

heads-length : (os : List Opened) → length (heads os) ≡ length os
heads-length [] = refl
heads-length (o ∷ os) = ap suc (heads-length os)

filter_mapped : (test : Selected → Bool) (M : Selected → Selected) (vs : List Selected)
    → filter test (map M vs) ≡ map M (filter (λ s. test (M s)) vs)
filter_mapped test M [] = refl
filter_mapped test M (s ∷ vs) = by_test (test (M s)) (filter_mapped test M vs)
  where
    by_test : (b : Bool) → filter test (map M vs) ≡ map M (filter (λ x. test (M x)) vs)
        → cond b (M s ∷ filter test (map M vs)) (filter test (map M vs))
        ≡ map M (cond b (s ∷ filter (λ x. test (M x)) vs) (filter (λ x. test (M x)) vs))
    by_test true more = ap (λ l. M s ∷ l) more
    by_test false more = more

-- what names select of one input's variables in a merge
chosen_in : (front : List Opened) (h : Header) (wanted : List (List ℕ))
    → filter (chosen wanted) (merged_selected (heads front) h)
    ≡ map (merged_variable (heads front) h) (selected_in_merge (length front + 1) wanted h)
chosen_in front h wanted =
    filter_mapped (chosen wanted) (merged_variable (heads front) h) (selected [] h.declarations)
    ∙ ap (λ n. map (merged_variable (heads front) h) (selected_in_merge (n + 1) wanted h))
    (heads-length front)

lines_of_any : (F : Selected → List ℕ) (G : List Opened → Opened → Selected → List ℕ)
    (wanted : List (List ℕ)) (os earlier rest : List Opened) → os ≡ earlier ++ rest
    → ((front back : List Opened) (o : Opened) → os ≡ front ++ o ∷ back → (s : Selected)
    → In s (selected [] o.header.declarations)
    → F (merged_variable (heads front) o.header s) ≡ G front o s)
    → flat_map F (filter (chosen wanted) (flat_map (λ vs. vs)
    (each_after merged_selected (heads earlier) (heads rest))))
    ≡ flat_map (λ l. l) (each_after (λ front o. flat_map (G front o)
    (selected_in_merge (length front + 1) wanted o.header)) earlier rest)
lines_of_any F G wanted os earlier [] e same = refl
lines_of_any F G wanted os earlier (o ∷ rest) e same =
    let own = merged_selected (heads earlier) o.header in
    let vs = selected_in_merge (length earlier + 1) wanted o.header in
    let test = λ (s : Selected). is_empty wanted || list_any (selects_path
    (under_input (length earlier + 1) s.path)) wanted in
    let more = λ (l : List Header). flat_map (λ xs. xs) (each_after merged_selected l (heads rest)) in
    let some = λ (l : List Header). flat_map F (filter (chosen wanted) (more l)) in
    ap (flat_map F) (filter-append (chosen wanted) own (more (heads earlier ++ o.header ∷ [])))
    ∙ flat_map-append F (filter (chosen wanted) own)
    (filter (chosen wanted) (more (heads earlier ++ o.header ∷ [])))
    ∙ ap (λ l. flat_map F l ++ some (heads earlier ++ o.header ∷ []))
    (chosen_in earlier o.header wanted)
    ∙ ap (λ l. l ++ some (heads earlier ++ o.header ∷ []))
    (mapped_lines F (merged_variable (heads earlier) o.header) (G earlier o) vs
    (λ s i. same earlier rest o e s (from_filter test (selected [] o.header.declarations) s i).0))
    ∙ ap (λ (l : List Header). flat_map (G earlier o) vs ++ some l) (sym (heads-push earlier o))
    ∙ ap (λ l. flat_map (G earlier o) vs ++ l)
    (lines_of_any F G wanted os (earlier ++ o ∷ []) rest
    (e ∙ sym (append_assoc earlier (o ∷ []) rest)) same)

-- a variable of one input is one of all
in_all : (front back : List Header) (h : Header) (s : Selected) → In s (merged_selected front h)
    → In s (flat_map (λ vs. vs) (each_after merged_selected [] (front ++ h ∷ back)))
in_all front back h s i =
    let more = each_after merged_selected (front ++ h ∷ []) back in
    subst (In s) (sym (ap (flat_map (λ (vs : List Selected). vs))
    (each_after-append merged_selected [] front (h ∷ back))
    ∙ flat_map-append (λ (vs : List Selected). vs) (each_after merged_selected [] front)
    (merged_selected front h ∷ more)))
    (in_right (flat_map (λ vs. vs) (each_after merged_selected [] front))
    (merged_selected front h ++ flat_map (λ vs. vs) more) s
    (in_left (merged_selected front h) (flat_map (λ vs. vs) more) s i))

-- ---- one input among others

-- a merge that was read again, and one of its inputs
module _ (limit : ℕ) (names : List (List ℕ)) (inputs : List Input) (os : List Opened)
    (can : AreReadable limit names inputs os) where
  abbrev read : MergeItems limit names inputs os
  read = merge_items limit names inputs os can

  abbrev scale_of : Header → ℕ
  scale_of h = factor (headers_of (dumps_of os)) h

  can_merge : (earlier later : List Opened) (o : Opened) → Among os earlier later o
      → CanMerge o.header
  can_merge earlier later o at =
      (all_back CanMerge (heads earlier) (o.header ∷ heads later)
      (subst (AllByRecursion CanMerge) at.headers
      (all_can limit inputs os can.opens can.shallow))).0

  few_heads : (earlier later : List Opened) (o : Opened) → Among os earlier later o
      → length (heads earlier ++ o.header ∷ heads later) < 2 ^ 63
  few_heads earlier later o at =
      let more = many (headers_of (dumps_of os)) in
      let few = can.few in
      subst (λ (l : List Header). length l < 2 ^ 63) at.headers (omega arith)

  -- all variables of the merge
  variables : selected [] read.dump.dump.header.declarations
      ≡ flat_map (λ vs. vs) (each_after merged_selected [] (headers_of (dumps_of os)))
  variables = let d = read.dump in let head = d.head in head.variables

  variables_at : (earlier later : List Opened) (o : Opened) → Among os earlier later o
      → selected [] read.dump.dump.header.declarations
      ≡ flat_map (λ vs. vs) (each_after merged_selected []
      (heads earlier ++ o.header ∷ heads later))
  variables_at earlier later o at =
      variables ∙ ap (λ (l : List Header). flat_map (λ vs. vs) (each_after merged_selected [] l))
      at.headers

  variables_all : selected [] read.dump.dump.header.declarations
      ≡ flat_map (λ vs. vs) (each_after merged_selected [] (heads os))
  variables_all = let law = merge_is_a_dump limit names inputs os can in
      variables ∙ ap (λ (l : List Dump). flat_map (λ vs. vs)
      (each_after merged_selected [] (headers_of l))) (dumps_whole os law.0)

  -- what an input's names select under its scope
  selection : (earlier later : List Opened) (o : Opened) (wanted : List (List ℕ))
      → Among os earlier later o
      → selected (names_in (length earlier + 1) wanted) read.dump.dump.header.declarations
      ≡ map (merged_variable (heads earlier) o.header) (selected wanted o.header.declarations)
  selection earlier later o wanted at =
      subst (λ (m : ℕ). selected (names_in (m + 1) wanted) read.dump.dump.header.declarations
      ≡ map (merged_variable (heads earlier) o.header) (selected wanted o.header.declarations))
      at.count
      (selected_in (heads earlier) (heads later) o.header wanted read.dump.dump.header.declarations
      (few_heads earlier later o at) (variables_at earlier later o at))

  matched : (earlier later : List Opened) (o : Opened) (wanted : List (List ℕ))
      → Among os earlier later o → selected wanted o.header.declarations ≢ []
      → first_unmatched wanted o.header.declarations ≡ None
      → first_unmatched (names_in (length earlier + 1) wanted)
      read.dump.dump.header.declarations ≡ None
  matched earlier later o wanted at some each =
      subst (λ (m : ℕ). first_unmatched (names_in (m + 1) wanted)
      read.dump.dump.header.declarations ≡ None) at.count
      (unmatched_in (heads earlier) (heads later) o.header wanted
      read.dump.dump.header.declarations (few_heads earlier later o at)
      (variables_at earlier later o at) some each)

  -- names of any inputs
  selection_any : (wanted : List (List ℕ))
      → selected wanted read.dump.dump.header.declarations
      ≡ filter (chosen wanted) (flat_map (λ vs. vs) (each_after merged_selected [] (heads os)))
  selection_any wanted = selected_is wanted read.dump.dump.header.declarations
      ∙ ap (filter (chosen wanted)) variables_all

  matched_any : (wanted : List (List ℕ)) → EachSelects wanted os
      → first_unmatched wanted read.dump.dump.header.declarations ≡ None
  matched_any wanted each =
      all_matched wanted read.dump.dump.header (λ w i. one w (each w (to_contained wanted w i)))
    where
      one : (w : List ℕ) → ((earlier : List Opened) × (later : List Opened) × (o : Opened)
          × (s : Selected) × (os ≡ earlier ++ o ∷ later)
          × Contains (selected_in_merge (length earlier + 1) (w ∷ []) o.header) s)
          → (s : Selected) × In s (selected (w ∷ []) read.dump.dump.header.declarations)
      one w x =
          let earlier = x.0 in
          let later = x.1 in
          let o = x.2 in
          let s = x.3 in
          let at = among limit names inputs os earlier later o can x.4 in
          let M = merged_variable (heads earlier) o.header in
          let there : In (M s) (filter (chosen (w ∷ [])) (merged_selected (heads earlier) o.header))
          = subst (In (M s)) (sym (chosen_in earlier o.header (w ∷ [])))
          (in_map M (selected_in_merge (length earlier + 1) (w ∷ []) o.header) s
          (from_contained (selected_in_merge (length earlier + 1) (w ∷ []) o.header) s x.5)) in
          let parts = from_filter (chosen (w ∷ [])) (merged_selected (heads earlier) o.header) (M s)
          there in
          let all : In (M s) (selected [] read.dump.dump.header.declarations)
          = subst (In (M s)) (sym (variables_at earlier later o at))
          (in_all (heads earlier) (heads later) o.header (M s) parts.0) in (
            M s,
            subst (In (M s)) (sym (selected_is (w ∷ []) read.dump.dump.header.declarations))
                (to_filter (chosen (w ∷ [])) (selected [] read.dump.dump.header.declarations) (M s)
                all parts.1),
          )

  -- ---- `sample`

  -- the line of a variable in a sample
  abbrev line_at : List BodyItem → ℕ → Selected → List ℕ
  line_at items t s = cond (code_of s.variable).event []
      (words (decimal t ∷ s.path ∷ shown (value_at items (code_of s.variable) t) ∷ []))

  line_same : (earlier later : List Opened) (o : Opened) (wanted : List (List ℕ)) (t : ℕ)
      → Among os earlier later o → (s : Selected) → In s (selected wanted o.header.declarations)
      → line_at (items_in read.dump.dump) t (merged_variable (heads earlier) o.header s)
      ≡ line_in (length earlier + 1) (scale_of o.header) (items_in o) t s
  line_same earlier later o wanted t at s i =
      by_event (code_of s.variable).event refl
    where
      c : IdCode
      c = code_of s.variable

      line : ℕ → List ℕ → List ℕ
      line m value = words (decimal t ∷ under_input (m + 1) s.path ∷ value ∷ [])

      value : c.event ≡ false
          → value_at (items_in read.dump.dump) (renamed_code (heads earlier) o.header c) t
          ≡ value_at (items_in o) c (t / scale_of o.header)
      value quiet =
          ap (λ (l : List BodyItem). value_at l (renamed_code (heads earlier) o.header c) t)
          read.items
          ∙ merge_values_at (dumps_of os) (map whole_dump earlier) (map whole_dump later)
          (whole_dump o) c t (dumps_good os (inputs_good limit [] inputs os can.opens)) at.dumps
          (to_contained o.header.codes c
          (code_in o.header wanted s (can_merge earlier later o at) i)) quiet

      by_event : (b : Bool) → c.event ≡ b
          → cond c.event [] (words (decimal t ∷ under_input (length (heads earlier) + 1) s.path
          ∷ shown (value_at (items_in read.dump.dump) (renamed_code (heads earlier) o.header c) t)
          ∷ [])) ≡ cond c.event [] (words (decimal t ∷ under_input (length earlier + 1) s.path
          ∷ shown (value_at (items_in o) c (t / scale_of o.header)) ∷ []))
      by_event true e = rw e refl
      by_event false e = rw e
          (ap (λ m. words (decimal t ∷ under_input (m + 1) s.path
          ∷ shown (value_at (items_in read.dump.dump) (renamed_code (heads earlier) o.header c) t)
          ∷ [])) at.count
          ∙ ap (λ v. words (decimal t ∷ under_input (length earlier + 1) s.path ∷ shown v ∷ []))
          (value e))

  sample_written : (name : List ℕ) (ns : List (List ℕ)) (times : List Moment) (ts : List ℕ)
      → IsJob (Want.Sample times ns)
      → request_of (Some (least_exponent (headers_of (dumps_of os)))) (Want.Sample times ns)
      ≡ Ok (Request.Sample ts ns)
      → first_unmatched ns read.dump.dump.header.declarations ≡ None
      → over_merged (Want.Sample times ns) limit name names inputs
      ≡ clean_outcome (flat_map (sample_lines (selected ns read.dump.dump.header.declarations)
      (items_in read.dump.dump)) ts)
  unfolding request_of sampled
  sample_written name ns times ts job asks each =
      let d = read.dump in
      let k = d.dump in
      let head = d.head in
      let text = (outcome Want.Merge limit names inputs).output in
      let valid = requests_are_valid (Some (least_exponent (headers_of (dumps_of os))))
      (Want.Sample times ns) (Request.Sample ts ns) job asks in
      opened_run (Want.Sample times ns) limit name (input_of text) k d.opens
      ∙ ap (λ scale. over (request_of scale (Want.Sample times ns)) k) head.scale
      ∙ ap (λ r. over r k) asks
      ∙ sample_run ts ns name k (inr d.whole) valid
      ∙ ap (λ place. sampled ns place (flat_map (sample_lines (selected ns k.header.declarations)
      (items_in k)) ts)) each
    where
      over : Result Request Refusal → Opened → Outcome
      over r p = elim r [
        | Err why ↦ refusal_outcome name why
        | Ok request ↦ over_dumps request
            (name ∷ []) (p ∷ [])
      ]

  -- ---- `edges`

  row_same : (earlier later : List Opened) (o : Opened) (wanted : List (List ℕ))
      → Among os earlier later o → (s : Selected) → In s (selected wanted o.header.declarations)
      → edges_line (items_in read.dump.dump) (merged_variable (heads earlier) o.header s)
      ≡ merged_row (length earlier + 1) (items_in o) s
  row_same earlier later o wanted at s i =
      let c = code_of s.variable in
      let same : SameCounts o.header (heads earlier) (items_in o) (items_in read.dump.dump) c
      = subst (λ (l : List BodyItem). SameCounts o.header (heads earlier) (items_in o) l c)
      (sym read.items) (merged_counts limit names inputs os earlier later o can at c
      (code_in o.header wanted s (can_merge earlier later o at) i)) in
      ap (λ n. words (under_input (length (heads earlier) + 1) s.path ∷ decimal n.changes
      ∷ decimal n.rises ∷ decimal n.falls ∷ []))
      (counts_same o.header (heads earlier) (items_in o) (items_in read.dump.dump) c same)
      ∙ ap (λ m. merged_row (m + 1) (items_in o) s) at.count

  edges_written : (name : List ℕ) (ns : List (List ℕ))
      → first_unmatched ns read.dump.dump.header.declarations ≡ None
      → over_merged (Want.Edges ns) limit name names inputs
      ≡ clean_outcome (flat_map (edges_line (items_in read.dump.dump))
      (selected ns read.dump.dump.header.declarations))
  unfolding request_of counted
  edges_written name ns each =
      let d = read.dump in
      let k = d.dump in
      let text = (outcome Want.Merge limit names inputs).output in
      opened_run (Want.Edges ns) limit name (input_of text) k d.opens
      ∙ edges_run ns name k d.whole
      ∙ ap (λ place. counted ns place (flat_map (edges_line (items_in k))
      (selected ns k.header.declarations))) each

-- ---- the laws

pub sample_of_one_merged : SampleOfOneMerged
sample_of_one_merged limit name names inputs os earlier later o times wanted ts can e some each job
    asks =
    let at = among limit names inputs os earlier later o can e in
    let n = length earlier + 1 in
    let items = items_in (merge_items limit names inputs os can).dump.dump in
    let vs = selected wanted o.header.declarations in
    let f = factor (headers_of (dumps_of os)) o.header in
    sample_written limit names inputs os can name (names_in n wanted) times ts job asks
    (matched limit names inputs os can earlier later o wanted at some each)
    ∙ ap clean_outcome
    (ap (λ (l : List Selected). flat_map (sample_lines l items) ts)
    (selection limit names inputs os can earlier later o wanted at)
    ∙ at_times (sample_lines (map (merged_variable (heads earlier) o.header) vs) items)
    (λ t. flat_map (line_in n f (items_in o) t) vs) ts
    (λ t. mapped_lines (line_at limit names inputs os can items t)
    (merged_variable (heads earlier) o.header) (line_in n f (items_in o) t) vs
    (line_same limit names inputs os can earlier later o wanted t at)))

pub sample_of_all_merged : SampleOfAllMerged
sample_of_all_merged limit name names inputs os times ts can job asks =
    let items = items_in (merge_items limit names inputs os can).dump.dump in
    let hs = headers_of (dumps_of os) in
    let G = λ (t : ℕ) (front : List Opened) (o : Opened).
    line_in (length front + 1) (factor hs o.header) (items_in o) t in
    let all = flat_map (λ vs. vs) (each_after merged_selected [] (heads os)) in
    sample_written limit names inputs os can name [] times ts job asks refl
    ∙ ap clean_outcome
    (ap (λ (l : List Selected). flat_map (sample_lines l items) ts)
    (variables_all limit names inputs os can)
    ∙ at_times (sample_lines all items)
    (λ t. flat_map (λ l. l) (each_after (λ front o. flat_map (G t front o)
    (selected [] o.header.declarations)) [] os)) ts
    (λ t. lines_of_all (line_at limit names inputs os can items t) (G t) os [] os refl
    (λ front back o e s i. line_same limit names inputs os can front back o [] t
    (among limit names inputs os front back o can e) s i)))

pub edges_of_one_merged : EdgesOfOneMerged
edges_of_one_merged limit name names inputs os earlier later o wanted can e some each =
    let at = among limit names inputs os earlier later o can e in
    let n = length earlier + 1 in
    let items = items_in (merge_items limit names inputs os can).dump.dump in
    let vs = selected wanted o.header.declarations in
    edges_written limit names inputs os can name (names_in n wanted)
    (matched limit names inputs os can earlier later o wanted at some each)
    ∙ ap clean_outcome
    (ap (flat_map (edges_line items)) (selection limit names inputs os can earlier later o wanted at)
    ∙ mapped_lines (edges_line items) (merged_variable (heads earlier) o.header)
    (merged_row n (items_in o)) vs
    (row_same limit names inputs os can earlier later o wanted at))

pub edges_of_all_merged : EdgesOfAllMerged
edges_of_all_merged limit name names inputs os can =
    let items = items_in (merge_items limit names inputs os can).dump.dump in
    edges_written limit names inputs os can name [] refl
    ∙ ap clean_outcome
    (ap (flat_map (edges_line items)) (variables_all limit names inputs os can)
    ∙ lines_of_all (edges_line items) (λ front o. merged_row (length front + 1) (items_in o)) os []
    os refl
    (λ front back o e s i. row_same limit names inputs os can front back o []
    (among limit names inputs os front back o can e) s i))

pub sample_of_any_merged : SampleOfAnyMerged
sample_of_any_merged limit name names inputs os times wanted ts can each job asks =
    let items = items_in (merge_items limit names inputs os can).dump.dump in
    let hs = headers_of (dumps_of os) in
    let G = λ (t : ℕ) (front : List Opened) (o : Opened).
    line_in (length front + 1) (factor hs o.header) (items_in o) t in
    let all = filter (chosen wanted)
    (flat_map (λ vs. vs) (each_after merged_selected [] (heads os))) in
    sample_written limit names inputs os can name wanted times ts job asks
    (matched_any limit names inputs os can wanted each)
    ∙ ap clean_outcome
    (ap (λ (l : List Selected). flat_map (sample_lines l items) ts)
    (selection_any limit names inputs os can wanted)
    ∙ at_times (sample_lines all items)
    (λ t. flat_map (λ l. l) (each_after (λ front o. flat_map (G t front o)
    (selected_in_merge (length front + 1) wanted o.header)) [] os)) ts
    (λ t. lines_of_any (line_at limit names inputs os can items t) (G t) wanted os [] os refl
    (λ front back o e s i. line_same limit names inputs os can front back o [] t
    (among limit names inputs os front back o can e) s i)))

pub edges_of_any_merged : EdgesOfAnyMerged
edges_of_any_merged limit name names inputs os wanted can each =
    let items = items_in (merge_items limit names inputs os can).dump.dump in
    edges_written limit names inputs os can name wanted
    (matched_any limit names inputs os can wanted each)
    ∙ ap clean_outcome
    (ap (flat_map (edges_line items)) (selection_any limit names inputs os can wanted)
    ∙ lines_of_any (edges_line items) (λ front o. merged_row (length front + 1) (items_in o)) wanted
    os [] os refl
    (λ front back o e s i. row_same limit names inputs os can front back o []
    (among limit names inputs os front back o can e) s i))
