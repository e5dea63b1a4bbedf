-- Worked rows with commands that the standard does not have, and with times that have units,
-- computed.
use Rattle.vcd_laws.proofs.Cited.{◌≡◌, pos, negsuc, true, false, [], ◌∷◌, ◌++◌, map, codes, Some, None, Ok, Err, refl, moment_ticks, Want, is_unit, moment_of}
use Rattle.vcd_laws.proofs.Computing.{model}
use Rattle.vcd_laws.proofs.RowText.{on, gives, time, cut}

-- ---- commands that the standard does not have

unknown_in_header : on Want.Check "$foo a #0 $var $end;$var wire 1 ! c $end;$enddefinitions $end;#0;0!;" ≡ gives "scopes 0;variables 1;codes 1;times 1;sections 0;changes 1;last 0;" "" 0
unfolding model
unknown_in_header = refl

unknown_is_not_kept : on (Want.Pick (codes "c" ∷ [])) "$foo a #0 $var $end;$var wire 1 ! c $end;$enddefinitions $end;#0;0!;" ≡ gives "$var wire 1 ! c $end;$enddefinitions $end;#0;0!;" "" 0
unfolding model
unknown_is_not_kept = refl

unknown_in_body : on Want.Check "$timescale 1ns $end;$scope module tb $end;$var wire 1 ! clk $end;$var reg 4 \" q [3:0] $end;$upscope $end;$enddefinitions $end;$foo $end;"
    ≡ gives "" "(stdin):7: unknown command" 1
unfolding model
unknown_in_body = refl

no_command : on Want.Check "foo $end;" ≡ gives "" "(stdin):1: unknown command" 1
unfolding model
no_command = refl

dollar_alone : on Want.Check "$ $end;" ≡ gives "" "(stdin):1: unknown command" 1
unfolding model
dollar_alone = refl

-- ---- times with units

sample_with_units : on (Want.Sample (map time ("5ns" ∷ "15ns" ∷ "25ns" ∷ [])) [])
    "$timescale 10ns $end;$var wire 1 ! a $end;$enddefinitions $end;#0;0!;#1;1!;#2;0!;#3;1!;" ≡ gives "0 a 0;1 a 1;2 a 0;" "" 0
unfolding model
sample_with_units = refl

cut_with_units : on (cut "5ns" "29ns") "$timescale 10ns $end;$var wire 1 ! a $end;$enddefinitions $end;#0;0!;#1;1!;#2;0!;#3;1!;"
    ≡ gives "$timescale;^10ns;$end;$var wire 1 ! a $end;$enddefinitions $end;#1;$dumpvars;0!;$end;1!;#2;0!;" "" 0
unfolding model
cut_with_units = refl

cut_with_one_unit : on (cut "1" "29ns") "$timescale 10ns $end;$var wire 1 ! a $end;$enddefinitions $end;#0;0!;#1;1!;#2;0!;#3;1!;"
    ≡ gives "$timescale;^10ns;$end;$var wire 1 ! a $end;$enddefinitions $end;#1;$dumpvars;0!;$end;1!;#2;0!;" "" 0
unfolding model
cut_with_one_unit = refl

from_above_to : on (cut "11ns" "14ns") "$timescale 10ns $end;$var wire 1 ! a $end;$enddefinitions $end;#0;0!;#1;1!;#2;0!;#3;1!;" ≡ gives "" "--from is above --to" 2
unfolding model
from_above_to = refl

same_tick : on (Want.Sample (map time ("11ns" ∷ "12ns" ∷ [])) []) "$timescale 10ns $end;$var wire 1 ! a $end;$enddefinitions $end;#0;0!;#1;1!;#2;0!;#3;1!;" ≡ gives "" "times must rise" 2
unfolding model
same_tick = refl

no_scale : on (cut "10ns" "20ns")
    "$var wire 1 ! a $end;$var real 1 \" r $end;$var event 1 # e $end;$var wire 2 % u $end;$enddefinitions $end;#9;0!;r1.5 \";1#;#10;1!;1#;#20;r2 \";#21;0!;"
    ≡ gives "" "(stdin): no timescale" 1
unfolding model
no_scale = refl

too_many_ticks : on (Want.Sample (time "18446744073709551615s" ∷ []) []) "$timescale 10ns $end;$var wire 1 ! a $end;$enddefinitions $end;#0;0!;#1;1!;#2;0!;#3;1!;" ≡ gives "" "time out of range" 2
unfolding model
too_many_ticks = refl

cut_in_one_tick : on (cut "5ns" "15ns") "$timescale 10ns $end;$var wire 1 ! a $end;$enddefinitions $end;#0;0!;#1;1!;#2;0!;"
    ≡ gives "$timescale;^10ns;$end;$var wire 1 ! a $end;$enddefinitions $end;#1;$dumpvars;0!;$end;1!;" "" 0
unfolding model
cut_in_one_tick = refl

ticks_that_fall : on (Want.Sample (map time ("10ns" ∷ "30ns" ∷ "20ns" ∷ [])) []) "$timescale 10ns $end;$var wire 1 ! a $end;$enddefinitions $end;" ≡ gives "" "times must rise" 2
unfolding model
ticks_that_fall = refl

unit_on_the_end_alone : on (cut "2" "10ns") "$timescale 10ns $end;$var wire 1 ! a $end;$enddefinitions $end;" ≡ gives "" "--from is above --to" 2
unfolding model
unit_on_the_end_alone = refl

-- a fault of the header comes first, and then times come before names
units_before_names : on (Want.Sample (time "5ns" ∷ []) (codes "b" ∷ [])) "$var wire 1 ! a $end;$enddefinitions $end;" ≡ gives "" "(stdin): no timescale" 1
unfolding model
units_before_names = refl

header_before_units : on (Want.Sample (time "5ns" ∷ []) []) "$upscope $end;" ≡ gives "" "(stdin):1: upscope without scope" 1
unfolding model
header_before_units = refl

-- 2^64 - 1 seconds at the coarsest scale, and the largest time that is in range at the finest
coarsest : moment_ticks (Some (pos 2)) (record { number = 18446744073709551615; unit = Some (pos 0) }) true ≡ Ok 184467440737095517
unfolding model
coarsest = refl

finest : map (λ n. moment_ticks (Some (negsuc 14)) (record { number = n; unit = Some (pos 0) }) false) (18446 ∷ 18447 ∷ []) ≡ Ok 18446000000000000000 ∷ Err 22 ∷ []
unfolding model
finest = refl

greatest_ticks : map (λ n. moment_ticks (Some (negsuc 9)) (record { number = n; unit = Some (negsuc 8) }) false)
    (1844674407370955161 ∷ 1844674407370955162 ∷ []) ++ moment_ticks (Some (negsuc 8))
    (record { number = 18446744073709551615; unit = Some (negsuc 8) }) true ∷ [] ≡ Ok 18446744073709551610 ∷ Err 22 ∷ Ok 18446744073709551615 ∷ []
unfolding model
greatest_ticks = refl

-- ---- words

words : map (λ w. moment_of (codes w)) ("15ns" ∷ "20" ∷ "007ms" ∷ "1s" ∷ "18446744073709551615fs" ∷ [])
    ≡ Some (record { number = 15; unit = Some (negsuc 8) }) ∷ Some (record { number = 20; unit = None }) ∷ Some
    (record { number = 7; unit = Some (negsuc 2) }) ∷ Some (record { number = 1; unit = Some (pos 0) })
    ∷ Some (record { number = 18446744073709551615; unit = Some (negsuc 14) }) ∷ []
unfolding model
words = refl

no_words : map (λ w.
    moment_of (codes w)) ("15NS" ∷ "" ∷ "ns" ∷ "1 ns" ∷ "1.5ns" ∷ "-1" ∷ "18446744073709551616" ∷ "000000000000000000001" ∷ "1nss" ∷ [])
    ≡ None ∷ None ∷ None ∷ None ∷ None ∷ None ∷ None ∷ None ∷ None ∷ []
unfolding model
no_words = refl

units : map is_unit (None ∷ Some (pos 0) ∷ Some (negsuc 2) ∷ Some (negsuc 5) ∷ Some (negsuc 8) ∷ Some (negsuc 11) ∷ Some (negsuc 14) ∷ Some
    (negsuc 3) ∷ Some (pos 1) ∷ Some (negsuc 17) ∷ []) ≡ true ∷ true ∷ true ∷ true ∷ true ∷ true ∷ true ∷ false ∷ false ∷ false ∷ []
unfolding model
units = refl
