-- Rows on what `check` says of the other commands, computed.
use Rattle.vcd_laws.proofs.Cited.{Some, ◌≡◌, ℕ, zero, suc, List, [], ◌∷◌, map, replicate, option_map, codes, Result, Ok, refl, subst, arith, IsStrictlyIncreasing, String, read_header, header_fault_of, header_of, Fault, Outcome, Opened, open_from, Want, outcome, stream_over, Opens, run_of, EndsWell, Suits}
use Rattle.vcd_laws.proofs.Computing.{model}
use Rattle.vcd_laws.proofs.RowText.{clean, limit, gives, on, cut, sample}
use Rattle.vcd_laws.proofs.RunLaws.{same_opened}
use Rattle.vcd_laws.proofs.Safe.{checked_is_safe}
use Rattle.vcd_laws.proofs.SafeMerge.{checked_merge_is_safe}
use Rattle.vcd_laws.proofs.MergeFaults.{EndsOrNames, merge_names_the_fault}

abbrev stdin : List ℕ
stdin = codes "(stdin)"

-- an input that is opened
abbrev first_or : Result (List Opened) (ℕ × Fault) → Opened
first_or (Ok (o ∷ os)) = o
first_or r = record { header = header_of []; stream = stream_over []; rest = [] }

-- ---- a dump that `check` passes

abbrev good : String
good = "$timescale 1 ns $end $scope module m $end $var wire 1 ! a $end $upscope $end $enddefinitions $end #5 1! #9 0! #20"

abbrev opened : Opened
opened = first_or (open_from limit [] (clean good ∷ []))

checked : on Want.Check good ≡ gives "scopes 1;variables 1;codes 1;times 3;sections 0;changes 2;last 20;" "" 0
unfolding model
checked = refl

-- the law, with its premises met
rising : IsStrictlyIncreasing (5 ∷ 10 ∷ [])
rising zero h = omega arith
rising (suc k) h = absurd (omega arith)

abbrev SafeFor : Opened → Type 0
SafeFor o = (want : Want) → Suits o.header want → EndsWell (run_of want limit stdin (clean good))

good_opens : Opens limit (clean good) opened
unfolding model
good_opens = refl

safe : SafeFor opened
unfolding model
safe =
    let law = checked_is_safe limit stdin (clean good) refl in
    subst SafeFor (same_opened limit (clean good) law.0 opened law.1 good_opens) law.2

safe_list : EndsWell (on Want.Listing good)
safe_list = safe Want.Listing tt

safe_pick : EndsWell (on (Want.Pick (codes "m.a" ∷ [])) good)
unfolding model
safe_pick = safe (Want.Pick (codes "m.a" ∷ [])) refl

safe_edges : EndsWell (on (Want.Edges []) good)
unfolding model
safe_edges = safe (Want.Edges []) refl

safe_cut : EndsWell (on (cut "5" "10000ps") good)
unfolding model
safe_cut = safe (cut "5" "10000ps") (5, 10, refl, refl, omega arith)

safe_sample : EndsWell (on (sample (5 ∷ 10 ∷ []) (codes "m" ∷ [])) good)
unfolding model
safe_sample = safe (sample (5 ∷ 10 ∷ []) (codes "m" ∷ [])) ((5 ∷ 10 ∷ []), refl, rising, refl)

-- a merge of it alone
safe_merge : EndsWell (on Want.Merge good)
safe_merge = safe Want.Merge tt

-- without the premises: a name that selects nothing, and times in the wrong order
unmatched : on (Want.Pick (codes "b" ∷ [])) good ≡ gives "" "b: selects nothing" 1
unfolding model
unmatched = refl

falling : on (cut "9ns" "5ns") good ≡ gives "" "--from is above --to" 2
unfolding model
falling = refl

-- ---- a dump with a fault

abbrev faulty : String
faulty = "$var wire 1 ! a $end $enddefinitions $end;#5 1!;#4 0!"

check_named : on Want.Check faulty ≡ gives "" "(stdin):3: time goes back" 1
unfolding model
check_named = refl

pick_named : on (Want.Pick (codes "a" ∷ [])) faulty ≡ gives "$var wire 1 ! a $end;$enddefinitions $end;#5;1!;" "(stdin):3: time goes back" 1
unfolding model
pick_named = refl

edges_named : on (Want.Edges []) faulty ≡ gives "" "(stdin):3: time goes back" 1
unfolding model
edges_named = refl

-- a cut and a sample name it if no timestamp is above their last time
cut_named : on (cut "0" "5") faulty ≡ gives "$var wire 1 ! a $end;$enddefinitions $end;#0;$dumpvars;$end;#5;1!;" "(stdin):3: time goes back" 1
unfolding model
cut_named = refl

cut_before : on (cut "0" "4") faulty ≡ gives "$var wire 1 ! a $end;$enddefinitions $end;#0;$dumpvars;$end;#4;" "" 0
unfolding model
cut_before = refl

sample_named : on (sample (4 ∷ 5 ∷ []) []) faulty ≡ gives "4 a -;" "(stdin):3: time goes back" 1
unfolding model
sample_named = refl

sample_before : on (sample (4 ∷ []) []) faulty ≡ gives "4 a -;" "" 0
unfolding model
sample_before = refl

merge_named : on Want.Merge faulty ≡ gives "$timescale;^1s;$end;$scope module in1 $end;$var wire 1 ! a $end;$upscope $end;$enddefinitions $end;#5;1!;" "(stdin):3: time goes back" 1
unfolding model
merge_named = refl

-- a list never does
list_before : on Want.Listing faulty ≡ gives "a wire 1 !;" "" 0
unfolding model
list_before = refl

-- a fault of the header is that of all
header_named : map (λ want. on want "$upscope $end") (Want.Check ∷ Want.Listing ∷ Want.Pick (codes "zz" ∷ []) ∷ cut "9" "5" ∷ Want.Merge ∷ [])
    ≡ replicate 5 (gives "" "(stdin):1: upscope without scope" 1)
unfolding model
header_named = refl

-- ---- a merge of dumps that `check` passes

-- a time that fits at the scale of its own dump
abbrev late : String
late = "$timescale 1 ns $end $var wire 1 ! a $end $enddefinitions $end #5 1!;#18446744073709551615 0!"

abbrev fine : String
fine = "$timescale 100 ps $end $var wire 1 ! b $end $enddefinitions $end #40 1! #60 0!"

late_checked : map (λ s. (on Want.Check s).status) (late ∷ fine ∷ []) ≡ 0 ∷ 0 ∷ []
unfolding model
late_checked = refl

abbrev merge_of : String → String → Outcome
merge_of a b = outcome Want.Merge limit (codes "a.vcd" ∷ codes "b.vcd" ∷ []) (clean a ∷ clean b ∷ [])

-- at the finer scale of the other it is too large
too_large : merge_of late fine
    ≡ gives "$timescale;^100ps;$end;$scope module in1 $end;$var wire 1 ! a $end;$upscope $end;$scope module in2 $end;$var wire 1 \" b $end;$upscope $end;$enddefinitions $end;#40;1\";#50;1!;" "a.vcd:2: time too large" 1
unfolding model
too_large = refl

-- the law, with its premises met: it names the timestamp here, and ends well there
named_by_merge : (os : List Opened) × (open_from limit [] (clean late ∷ clean fine ∷ []) ≡ Ok os)
unfolding model
named_by_merge =
    let law = checked_merge_is_safe limit stdin (codes "a.vcd" ∷ codes "b.vcd" ∷ []) (clean late ∷ clean fine ∷ [])
    (refl, (refl, tt)) (omega arith) in
    (law.0, law.1)

both_fine : (merge_of good fine).status ≡ 0
unfolding model
both_fine = refl

-- a merge names the fault that `check` names of one of its inputs
faulty_merged : merge_of good faulty
    ≡ gives "$timescale;^1ns;$end;$scope module in1 $end;$scope module m $end;$var wire 1 ! a $end;$upscope $end;$upscope $end;$scope module in2 $end;$var wire 1 \" a $end;$upscope $end;$enddefinitions $end;#5;1!;#9;0!;#5000000000;1\";" "b.vcd:3: time goes back" 1
unfolding model
faulty_merged = refl

-- the law, with its premise met
named_of_faulty : EndsOrNames limit stdin (codes "a.vcd" ∷ codes "b.vcd" ∷ []) (clean good ∷ clean faulty ∷ []) (merge_of good faulty)
unfolding model
named_of_faulty = merge_names_the_fault limit stdin (codes "a.vcd" ∷ codes "b.vcd" ∷ []) (clean good ∷ clean faulty ∷ []) (omega arith)

-- If no more declarations are left than were read, the next one has another fault than it has
-- alone: so there are to be fewer in all than may be read.
abbrev one_declaration : List ℕ
one_declaration = codes "$var wire 1 ! a $end $upscope $end"

none_left : map (λ most. option_map (λ f. f.number) (header_fault_of (stream_over one_declaration) (read_header most (stream_over one_declaration)))) (1 ∷ 2 ∷ []) ≡ Some 11 ∷ Some 9 ∷ []
unfolding model
none_left = refl
