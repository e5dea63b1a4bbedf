-- The definitions, computed at more rows.
use Rattle.vcd_laws.proofs.Cited.{◌≡◌, [], ◌∷◌, codes, refl, Mark, Want, outcome}
use Rattle.vcd_laws.proofs.Computing.{model}
use Rattle.vcd_laws.proofs.RowText.{written, clean, limit, on, gives, cut, sample}

odd_code : on Want.Listing "$timescale 1 ns $end;$var wire 1 $end a [0] $end;$enddefinitions $end;" ≡ gives "a wire 1 $end;" "" 0
unfolding model
odd_code = refl

two_units : on Want.Check "$timescale 1ns ps $end;" ≡ gives "" "(stdin):1: bad timescale" 1
unfolding model
two_units = refl

event_then_wire : on Want.Check "$var event 1 ! a $end;$var wire 1 ! b $end;" ≡ gives "" "(stdin):2: code declared with another size or kind" 1
unfolding model
event_then_wire = refl

wire_then_event : on Want.Check "$var wire 1 ! a $end;$var event 1 ! b $end;" ≡ gives "" "(stdin):2: code declared with another size or kind" 1
unfolding model
wire_then_event = refl

no_reference : on Want.Check "$var wire 1 ! $end;" ≡ gives "" "(stdin):1: bad variable" 1
unfolding model
no_reference = refl

second_name_unmatched : on (Want.Pick (codes "tb.clk" ∷ codes "tb.zz" ∷ []))
    "$timescale 1ns $end;$scope module tb $end;$var wire 1 ! clk $end;$var reg 4 \" q [3:0] $end;$upscope $end;$enddefinitions $end;"
    ≡ gives "" "tb.zz: selects nothing" 1
unfolding model
second_name_unmatched = refl

pick_with_texts : on
    (Want.Pick (codes "tb.clk" ∷ []))
    "$date;^Tue Mar  5 10:00:00 2024;$end;$version;^Icarus Verilog;$end;$timescale;^1ns;$end;$scope module tb $end;$var wire 8 ! data [7:0] $end;$var reg 1 \" clk $end;$upscope $end;$enddefinitions $end;#0;$dumpvars;0\";bx !;$end;#5;1\";b101 !;#10;"
    ≡ gives "$date;^Tue Mar 5 10:00:00 2024;$end;$version;^Icarus Verilog;$end;$timescale;^1ns;$end;$scope module tb $end;$var reg 1 \" clk $end;$upscope $end;$enddefinitions $end;#0;$dumpvars;0\";$end;#5;1\";#10;" "" 0
unfolding model
pick_with_texts = refl

cut_at_one_time : on
    (cut "10" "10") "$var wire 1 ! a $end;$var real 1 \" r $end;$var event 1 # e $end;$var wire 2 % u $end;$enddefinitions $end;#9;0!;r1.5 \";1#;#10;1!;1#;#20;r2 \";#21;0!;"
    ≡ gives "$var wire 1 ! a $end;$var real 1 \" r $end;$var event 1 # e $end;$var wire 2 % u $end;$enddefinitions $end;#10;$dumpvars;0!;r1.5 \";$end;1!;1#;" "" 0
unfolding model
cut_at_one_time = refl

cut_fault_before_start : on
    (cut "30" "40") "$var wire 1 ! a $end;$var real 1 \" r $end;$var event 1 # e $end;$var wire 2 % u $end;$enddefinitions $end;#9;0!;?;"
    ≡ gives "$var wire 1 ! a $end;$var real 1 \" r $end;$var event 1 # e $end;$var wire 2 % u $end;$enddefinitions $end;" "(stdin):8: unknown command" 1
unfolding model
cut_fault_before_start = refl

sample_names : on (sample (9 ∷ 20 ∷ []) (codes "a" ∷ codes "r" ∷ []))
    "$var wire 1 ! a $end;$var real 1 \" r $end;$var event 1 # e $end;$var wire 2 % u $end;$enddefinitions $end;#9;0!;r1.5 \";1#;#10;1!;1#;#20;r2 \";#21;0!;"
    ≡ gives "9 a 0;9 r r1.5;20 a 1;20 r r2;" "" 0
unfolding model
sample_names = refl

sample_unset : on (sample
    (7 ∷ []) []) "$timescale 1ns $end;$scope module tb $end;$var wire 1 ! clk $end;$var reg 4 \" q [3:0] $end;$upscope $end;$enddefinitions $end;"
    ≡ gives "7 tb.clk -;7 tb.q -;" "" 0
unfolding model
sample_unset = refl

edges_at_fault : on (Want.Edges [])
    "$timescale 1ns $end;$scope module tb $end;$var wire 1 ! clk $end;$var reg 4 \" q [3:0] $end;$upscope $end;$enddefinitions $end;#0;0!;?;"
    ≡ gives "" "(stdin):9: unknown command" 1
unfolding model
edges_at_fault = refl

edges_of_event : on (Want.Edges
    (codes "e" ∷ [])) "$var wire 1 ! a $end;$var real 1 \" r $end;$var event 1 # e $end;$var wire 2 % u $end;$enddefinitions $end;#0;$dumpvars;1#;$end;1#;#1;1#;"
    ≡ gives "e 2 0 0;" "" 0
unfolding model
edges_of_event = refl

time_out_of_range : on Want.Check "$var wire 1 ! a $end;$enddefinitions $end;#18446744073709551616;" ≡ gives "" "(stdin):3: bad time" 1
unfolding model
time_out_of_range = refl

time_with_zeros : on Want.Check "$var wire 1 ! a $end;$enddefinitions $end;#000000000000000000000000000005;" ≡ gives "scopes 0;variables 1;codes 1;times 1;sections 0;changes 0;last 5;" "" 0
unfolding model
time_with_zeros = refl

glued_end : on Want.Check "$comment x$end;$enddefinitions $end;" ≡ gives "" "(stdin):3: unexpected end of input" 1
unfolding model
glued_end = refl

size_too_large : on Want.Check "$var wire 16777216 ! a $end;" ≡ gives "" "(stdin):1: bad variable" 1
unfolding model
size_too_large = refl

size_with_zeros : on Want.Check "$var wire 00000000000000000000000001 ! a $end;$enddefinitions $end;#0;1!;" ≡ gives "scopes 0;variables 1;codes 1;times 1;sections 0;changes 1;last 0;" "" 0
unfolding model
size_with_zeros = refl

mixed : on Want.Check "$var wire 1 ! a $end;$var real 1 \" r $end;$var event 1 # e $end;$var wire 2 % u $end;$enddefinitions $end;$dumpall;rnan \";$end;#0;$dumpvars;1#;bz0 %;$end;1#;"
    ≡ gives "scopes 0;variables 4;codes 4;times 1;sections 2;changes 4;last 0;" "" 0
unfolding model
mixed = refl

repeated_scope : on (Want.Pick
    (codes "tb" ∷ [])) "$scope module tb $end;$var wire 1 ! a $end;$upscope $end;$scope module tb $end;$scope module u $end;$upscope $end;$upscope $end;$scope module tb $end;$var wire 1 \" b $end;$enddefinitions $end;"
    ≡ gives "$scope module tb $end;$var wire 1 ! a $end;$upscope $end;$scope module tb $end;$var wire 1 \" b $end;$upscope $end;$enddefinitions $end;" "" 0
unfolding model
repeated_scope = refl

failed_after_line : outcome (Want.Pick (codes "tb" ∷ [])) limit (codes "(stdin)" ∷ [])
    (record { bytes = written "$timescale 1ns $end;$scope module tb $end;$var wire 1 ! clk $end;$var reg 4 \" q [3:0] $end;$upscope $end;$enddefinitions $end;#0;0!;"; mark = Mark.Failed } ∷ [])
    ≡ gives "$timescale;^1ns;$end;$scope module tb $end;$var wire 1 ! clk $end;$var reg 4 \" q [3:0] $end;$upscope $end;$enddefinitions $end;#0;0!;" "(stdin): read failed" 3
unfolding model
failed_after_line = refl

failed_in_token : outcome (Want.Pick (codes "tb" ∷ [])) limit (codes "(stdin)" ∷ [])
    (record { bytes = written "$timescale 1ns $end;$scope module tb $end;$var wire 1 ! clk $end;$var reg 4 \" q [3:0] $end;$upscope $end;$enddefinitions $end;#0;0!"; mark = Mark.Failed } ∷ [])
    ≡ gives "$timescale;^1ns;$end;$scope module tb $end;$var wire 1 ! clk $end;$var reg 4 \" q [3:0] $end;$upscope $end;$enddefinitions $end;" "(stdin): read failed" 3
unfolding model
failed_in_token = refl

failed_in_a_header : outcome Want.Check limit (codes "(stdin)" ∷ []) (record { bytes = written "$var wire 1 ! a"; mark = Mark.Failed } ∷ []) ≡ gives "" "(stdin): read failed" 3
unfolding model
failed_in_a_header = refl

merge_one : outcome Want.Merge limit (codes "a.vcd" ∷ []) (clean "$timescale 1ns $end;$var wire 1 ! clk $end;$enddefinitions $end;#0;0!;#5;1!;" ∷ [])
    ≡ gives "$timescale;^1ns;$end;$scope module in1 $end;$var wire 1 ! clk $end;$upscope $end;$enddefinitions $end;#0;0!;#5;1!;" "" 0
unfolding model
merge_one = refl
