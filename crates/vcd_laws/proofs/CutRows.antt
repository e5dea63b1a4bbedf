-- Rows on what `cut` wrote, read again: that the premises of the laws can be met.
use Rattle.vcd_laws.proofs.Cited.{◌≡◌, ◌<◌, true, false, [], ◌∷◌, ◌++◌, length, map, refl, arith, zero, suc, flat_map, IsStrictlyIncreasing, Declaration, selected, within, cut_kept, at_contained, clean_outcome, items_in, Want, IsJob, written_by, over_written, IsReadable, declarations_kept, given, given_before, IsWholeDump, line_of_cut, cut_row}
use Rattle.vcd_laws.proofs.CutUses.{sample_of_cut}
use Rattle.vcd_laws.proofs.CutTwice.{cut_twice}
use Rattle.vcd_laws.proofs.EdgesOfCut.{edges_of_cut}
use Rattle.vcd_laws.proofs.SampleOfCut.{sample_of_cut_anywhere}
use Rattle.vcd_laws.proofs.KeepsAll.{cut_keeps_all}
use Rattle.vcd_laws.proofs.Computing.{model}
use Rattle.vcd_laws.proofs.RowText.{clean, limit, gives, on, cut, sample, at, time}
use Rattle.vcd_laws.proofs.DumpBase.{stdin, aliased, some_names, opened, over_cut, rising_alone, bit}

-- the premises of the laws of `cut` are met
cut_asked : IsJob (cut "1" "5")
unfolding model
cut_asked = (((omega arith), refl), ((omega arith), refl), λ e. omega arith)

cut_within : IsReadable (cut "1" "5") limit stdin (clean aliased) opened
unfolding model
cut_within = record {
  opens = refl;
  clean = refl;
  least = omega arith;
  fits = λ c i. at_contained (λ d. length d.text < limit) opened.header.codes c
      ((omega arith), ((omega arith), tt)) i;
  bytes = omega arith;
  few = omega arith;
}

was_cut : on (cut "1" "5") aliased
    ≡ gives "$date;^$scope today;$end;$timescale;^1ns;$end;$var wire 1 x a $end;$var wire 1 y b $end;$scope module m $end;$var wire 1 x c $end;$upscope $end;$enddefinitions $end;#1;$dumpvars;0x;1y;$end;#5;1x;" "" 0
unfolding model
was_cut = refl

cut_checked : over_cut Want.Check
    ≡ gives "scopes 1;variables 3;codes 2;times 2;sections 1;changes 3;last 5;" "" 0
unfolding model
cut_checked = refl

cut_sampled : over_cut (sample (1 ∷ 4 ∷ 5 ∷ []) some_names)
    ≡ gives "1 b 1;1 m.c 0;4 b 1;4 m.c 0;5 b 1;5 m.c 1;" "" 0
unfolding model
cut_sampled = refl

sampled_as_cut : on (sample (1 ∷ 4 ∷ 5 ∷ []) some_names) aliased
    ≡ gives "1 b 1;1 m.c 0;4 b 1;4 m.c 0;5 b 1;5 m.c 1;" "" 0
unfolding model
sampled_as_cut = refl

-- before the cut nothing has a value, and after it the values stay
cut_sampled_outside : over_written (sample (0 ∷ 9 ∷ []) some_names) (cut "1" "4") limit stdin
    (clean aliased) ≡ gives "0 b -;0 m.c -;9 b 1;9 m.c 0;" "" 0
unfolding model
cut_sampled_outside = refl

asked_outside : IsJob (sample (0 ∷ 5 ∷ []) some_names)
asked_outside = (λ e. cc, (((omega arith), refl), (((omega arith), refl), tt)), λ e. rising_alone)

cut_sample_anywhere : over_cut (sample (0 ∷ 5 ∷ []) some_names)
    ≡ clean_outcome (flat_map (λ t. flat_map (line_of_cut 1 5 (items_in opened) t)
    (selected some_names opened.header.declarations)) (0 ∷ 5 ∷ []))
unfolding model
cut_sample_anywhere = sample_of_cut_anywhere limit stdin (time "1") (time "5")
    (map at (0 ∷ 5 ∷ [])) some_names (clean aliased) opened 1 5 (0 ∷ 5 ∷ []) cut_asked
    asked_outside cut_within refl refl refl refl

-- all declarations and changes, with the law's premises met
cut_declarations : declarations_kept [] opened.header.declarations
    ≡ opened.header.declarations ++ Declaration.Up ∷ []
unfolding model
cut_declarations = refl

cut_changes : given_before opened.header 1 (within 5 (items_in opened))
    ++ given (cut_kept 1 5 (items_in opened))
    ≡ bit 1 true "x" 48 ∷ bit 1 true "y" 49 ∷ bit 5 false "x" 49 ∷ []
unfolding model
cut_changes = refl

cut_all : IsWholeDump limit (written_by (cut "1" "5") limit stdin (clean aliased))
    (declarations_kept [] opened.header.declarations)
    (given_before opened.header 1 (within 5 (items_in opened))
    ++ given (cut_kept 1 5 (items_in opened)))
unfolding model
cut_all = cut_keeps_all limit stdin (time "1") (time "5") (clean aliased) opened 1 5 cut_asked
    cut_within refl refl

-- the law on samples of a cut, with all its premises met
rising_in_cut : IsStrictlyIncreasing (1 ∷ 5 ∷ [])
rising_in_cut zero h = omega arith
rising_in_cut (suc k) h = absurd (omega arith)

asked_of_cut : IsJob (sample (1 ∷ 5 ∷ []) some_names)
asked_of_cut = (λ e. cc, (((omega arith), refl), (((omega arith), refl), tt)), λ e. rising_in_cut)

cut_sample : over_cut (sample (1 ∷ 5 ∷ []) some_names) ≡ on (sample (1 ∷ 5 ∷ []) some_names) aliased
unfolding model
cut_sample = sample_of_cut limit stdin (time "1") (time "5") (map at (1 ∷ 5 ∷ [])) some_names
    (clean aliased) opened 1 5 (1 ∷ 5 ∷ []) cut_asked asked_of_cut cut_within refl refl refl
    (((omega arith), (omega arith)), (((omega arith), (omega arith)), tt))

cut_listed : over_cut Want.Listing ≡ gives "a wire 1 x;b wire 1 y;m.c wire 1 x;" "" 0
unfolding model
cut_listed = refl

-- the value before the cut counts as its first: the rise at 5 is one of a cut from 5, none of a cut
-- from 6
cut_counted : over_written (Want.Edges []) (cut "5" "9") limit stdin (clean aliased)
    ≡ gives "a 1 1 0;b 0 0 0;m.c 1 1 0;" "" 0
unfolding model
cut_counted = refl

later_counted : over_written (Want.Edges []) (cut "6" "9") limit stdin (clean aliased)
    ≡ gives "a 0 0 0;b 0 0 0;m.c 0 0 0;" "" 0
unfolding model
later_counted = refl

-- the law, with all its premises met
cut_edges : over_cut (Want.Edges some_names)
    ≡ clean_outcome (flat_map (cut_row 1 5 (items_in opened))
    (selected some_names opened.header.declarations))
unfolding model
cut_edges = edges_of_cut limit stdin (time "1") (time "5") some_names (clean aliased) opened 1 5
    cut_asked cut_within refl refl refl

-- a cut of a cut that begins later is a cut of the input
cut_again : over_cut (cut "2" "4")
    ≡ gives "$date;^$scope today;$end;$timescale;^1ns;$end;$var wire 1 x a $end;$var wire 1 y b $end;$scope module m $end;$var wire 1 x c $end;$upscope $end;$enddefinitions $end;#2;$dumpvars;0x;1y;$end;#4;" "" 0
unfolding model
cut_again = refl

asked_again : IsJob (cut "2" "4")
unfolding model
asked_again = (((omega arith), refl), ((omega arith), refl), λ e. omega arith)

-- the law, with all its premises met
cut_of_cut : over_cut (cut "2" "4") ≡ on (cut "2" "4") aliased
unfolding model
cut_of_cut = cut_twice limit stdin (time "1") (time "5") (time "2") (time "4") (clean aliased) opened
    1 5 2 4 cut_asked asked_again cut_within refl refl refl refl (omega arith) (omega arith)

-- One that begins with the first is not: nothing has a value before the first start section, which
-- becomes a section at its time.
cut_from_begin : over_cut (cut "1" "5")
    ≡ gives "$date;^$scope today;$end;$timescale;^1ns;$end;$var wire 1 x a $end;$var wire 1 y b $end;$scope module m $end;$var wire 1 x c $end;$upscope $end;$enddefinitions $end;#1;$dumpvars;$end;$dumpvars;0x;1y;$end;#5;1x;" "" 0
unfolding model
cut_from_begin = refl
