-- Rows on what `merge` wrote, read again: that the premises of the laws can be met.
use Rattle.vcd_laws.proofs.Cited.{◌≡◌, ℕ, ◌+◌, ◌<◌, ◌≤◌, Bool, true, false, cond, List, [], ◌∷◌, length, count_by, map, codes, Result, Ok, Err, refl, ap, ◌∙◌, arith, zero, suc, flat_map, drop, AllByRecursion, length-append, sum_by-cons, IsStrictlyIncreasing, selected, each, String, Declaration, is_scope, Header, Fault, factor, headers_of, Outcome, Opened, open_from, dumps_of, clean_outcome, items_in, Want, IsJob, outcome, IsShallow, input_of, AreReadable, over_merged, names_under, merged_lines, line_in}
use Rattle.vcd_laws.proofs.SampleOfMerge.{sample_of_merge}
use Rattle.vcd_laws.proofs.AllMerged.{sample_of_all_merged}
use Rattle.vcd_laws.proofs.Computing.{model}
use Rattle.vcd_laws.proofs.RowText.{clean, limit, gives, on, sample, at}
use Rattle.vcd_laws.proofs.DumpBase.{stdin, aliased, some_names, opened}

-- a dump at a finer scale
abbrev finer : String
finer = "$timescale 100 ps $end $var reg 4 ! q $end $enddefinitions $end #5 bz ! #60 b1 !"

abbrev merged : Outcome
merged = outcome Want.Merge limit (codes "a.vcd" ∷ codes "b.vcd" ∷ [])
    (clean aliased ∷ clean finer ∷ [])

-- few declarations open few scopes
count_few : (ds : List Declaration) → count_by is_scope ds ≤ length ds
count_few [] = omega arith
count_few (d ∷ ds) = let n = sum_by-cons (λ e. cond (is_scope e) 1 0) d ds in
    by_kind (is_scope d) n (count_few ds)
  where
    by_kind : (b : Bool) → count_by is_scope (d ∷ ds) ≡ cond b 1 0 + count_by is_scope ds
        → count_by is_scope ds ≤ length ds → count_by is_scope (d ∷ ds) ≤ length (d ∷ ds)
    by_kind true n few = omega arith
    by_kind false n few = omega arith

are_shallow : (hs : List Header) → AllByRecursion (λ h. length h.declarations < 999) hs
    → AllByRecursion IsShallow hs
are_shallow [] few = tt
are_shallow (h ∷ hs) few = (
  λ front back type name e.
      let n = ap length e ∙ length-append front (Declaration.Scope type name ∷ back) in
      let m = count_few front in
      let l = few.0 in
      omega arith,
  are_shallow hs few.1,
)

abbrev opened_both : List Opened
opened_both = all_or (open_from limit [] (clean aliased ∷ clean finer ∷ []))
  where
    all_or : Result (List Opened) (ℕ × Fault) → List Opened
    all_or (Ok os) = os
    all_or (Err e) = []

-- the premises of the laws of `merge` are met
merged_within : AreReadable limit (codes "a.vcd" ∷ codes "b.vcd" ∷ [])
    (clean aliased ∷ clean finer ∷ []) opened_both
unfolding model
merged_within = record {
  opens = refl;
  clean = refl;
  least = omega arith;
  shallow = are_shallow (headers_of (dumps_of opened_both)) ((omega arith), ((omega arith), tt));
  bytes = omega arith;
  few = omega arith;
}

-- what a job gives for what a merge wrote
abbrev over_merge : Want → Outcome
over_merge want = outcome want limit (stdin ∷ []) (input_of merged.output ∷ [])

was_merged : merged
    ≡ gives "$timescale;^100ps;$end;$scope module in1 $end;$var wire 1 ! a $end;$var wire 1 \" b $end;$scope module m $end;$var wire 1 ! c $end;$upscope $end;$upscope $end;$scope module in2 $end;$var reg 4 # q $end;$upscope $end;$enddefinitions $end;#0;0!;1\";#5;bz #;#50;1!;#60;b1 #;" "" 0
unfolding model
was_merged = refl

merged_checked : over_merge Want.Check ≡ gives
    "scopes 3;variables 4;codes 3;times 4;sections 0;changes 5;last 60;" "" 0
unfolding model
merged_checked = refl

merged_listed : over_merge Want.Listing ≡ gives
    "in1.a wire 1 !;in1.b wire 1 \";in1.m.c wire 1 !;in2.q reg 4 #;" "" 0
unfolding model
merged_listed = refl

-- the times of the first input are ten times as many ticks
merged_sampled_one : over_merge (sample (40 ∷ 50 ∷ []) (codes "in1.b" ∷ codes "in1.m" ∷ []))
    ≡ gives "40 in1.b 1;40 in1.m.c 0;50 in1.b 1;50 in1.m.c 1;" "" 0
unfolding model
merged_sampled_one = refl

sampled_alone : on (sample (4 ∷ 5 ∷ []) some_names) aliased
    ≡ gives "4 b 1;4 m.c 0;5 b 1;5 m.c 1;" "" 0
unfolding model
sampled_alone = refl

merged_sampled : over_merge (sample (40 ∷ 50 ∷ []) (codes "in1.m" ∷ codes "in2" ∷ []))
    ≡ gives "40 in1.m.c 0;40 in2.q zzzz;50 in1.m.c 1;50 in2.q zzzz;" "" 0
unfolding model
merged_sampled = refl

-- the law on samples of a merge, with all its premises met
rising : IsStrictlyIncreasing (40 ∷ 50 ∷ [])
rising zero h = omega arith
rising (suc k) h = absurd (omega arith)

asked_of_merge : IsJob (sample (40 ∷ 50 ∷ []) (names_under 1 some_names))
asked_of_merge = (λ e. cc, (((omega arith), refl), (((omega arith), refl), tt)), λ e. rising)

merged_sample : over_merged (sample (40 ∷ 50 ∷ []) (names_under 1 some_names)) limit stdin
    (codes "a.vcd" ∷ codes "b.vcd" ∷ []) (clean aliased ∷ clean finer ∷ [])
    ≡ clean_outcome (flat_map (merged_lines 1 10 (selected some_names opened.header.declarations)
    (items_in opened)) (4 ∷ 5 ∷ []))
unfolding model
merged_sample = sample_of_merge limit stdin (codes "a.vcd" ∷ codes "b.vcd" ∷ [])
    (clean aliased ∷ clean finer ∷ []) opened_both [] (drop 1 opened_both) opened
    (map at (40 ∷ 50 ∷ [])) some_names (4 ∷ 5 ∷ []) merged_within refl (λ e. cc) refl
    asked_of_merge refl

merged_counted : over_merge (Want.Edges (codes "in1.b" ∷ codes "in1.m" ∷ []))
    ≡ gives "in1.b 0 0 0;in1.m.c 1 1 0;" "" 0
unfolding model
merged_counted = refl

-- the scope of an input alone
merged_counted_one : over_merge (Want.Edges (codes "in2" ∷ [])) ≡ gives "in2.q 1 0 0;" "" 0
unfolding model
merged_counted_one = refl

-- all inputs, at times that are no multiples of the factor of the first
merged_sampled_all : over_merge (sample (45 ∷ 59 ∷ []) [])
    ≡ gives "45 in1.a 0;45 in1.b 1;45 in1.m.c 0;45 in2.q zzzz;59 in1.a 1;59 in1.b 1;59 in1.m.c 1;59 in2.q zzzz;" "" 0
unfolding model
merged_sampled_all = refl

merged_counted_all : over_merge (Want.Edges [])
    ≡ gives "in1.a 1 1 0;in1.b 0 0 0;in1.m.c 1 1 0;in2.q 1 0 0;" "" 0
unfolding model
merged_counted_all = refl

-- the law without names, with all its premises met
rising_in_all : IsStrictlyIncreasing (45 ∷ 59 ∷ [])
rising_in_all zero h = omega arith
rising_in_all (suc k) h = absurd (omega arith)

asked_of_all : IsJob (sample (45 ∷ 59 ∷ []) [])
asked_of_all = (λ e. cc, (((omega arith), refl), (((omega arith), refl), tt)), λ e. rising_in_all)

merged_sample_all : over_merged (sample (45 ∷ 59 ∷ []) []) limit stdin
    (codes "a.vcd" ∷ codes "b.vcd" ∷ []) (clean aliased ∷ clean finer ∷ [])
    ≡ clean_outcome (flat_map (λ t. flat_map (λ l. l) (each (λ earlier o. flat_map
    (line_in (length earlier + 1) (factor (headers_of (dumps_of opened_both)) o.header)
    (items_in o) t) (selected [] o.header.declarations)) opened_both)) (45 ∷ 59 ∷ []))
unfolding model
merged_sample_all = sample_of_all_merged limit stdin (codes "a.vcd" ∷ codes "b.vcd" ∷ [])
    (clean aliased ∷ clean finer ∷ []) opened_both (map at (45 ∷ 59 ∷ [])) (45 ∷ 59 ∷ [])
    merged_within asked_of_all refl

-- names of two inputs
abbrev two_names : List (List ℕ)
two_names = codes "in1.m" ∷ codes "in2" ∷ []

merged_counted_any : over_merge (Want.Edges two_names) ≡ gives "in1.m.c 1 1 0;in2.q 1 0 0;" "" 0
unfolding model
merged_counted_any = refl
