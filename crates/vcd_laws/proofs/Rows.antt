-- The definitions, computed at worked rows.
use Rattle.vcd_laws.proofs.Cited.{◌≡◌, [], ◌∷◌, codes, refl, Want, outcome}
use Rattle.vcd_laws.proofs.Computing.{model}
use Rattle.vcd_laws.proofs.RowText.{clean, limit, on, gives, cut, sample}

empty_input : on Want.Check "" ≡ gives "" "(stdin):1: unexpected end of input" 1
unfolding model
empty_input = refl

check_counts : on Want.Check "$date;^Tue Mar  5 10:00:00 2024;$end;$version;^Icarus Verilog;$end;$timescale;^1ns;$end;$scope module tb $end;$var wire 8 ! data [7:0] $end;$var reg 1 \" clk $end;$upscope $end;$enddefinitions $end;#0;$dumpvars;0\";bx !;$end;#5;1\";b101 !;#10;"
    ≡ gives "scopes 1;variables 2;codes 2;times 3;sections 1;changes 4;last 10;" "" 0
unfolding model
check_counts = refl

check_of_header_alone : on Want.Check "$timescale 1ns $end;$scope module tb $end;$var wire 1 ! clk $end;$var reg 4 \" q [3:0] $end;$upscope $end;$enddefinitions $end;"
    ≡ gives "scopes 1;variables 2;codes 2;times 0;sections 0;changes 0;last -;" "" 0
unfolding model
check_of_header_alone = refl

sample_extends : on (sample
    (0 ∷ 1 ∷ 2 ∷ 3 ∷ 4 ∷ []) []) "$var wire 4 ! v $end;$var wire 8 \" w $end;$enddefinitions $end;#1;b10 !;b1 \";#2;bX10 !;#3;bZx0 !;#4;b0x10 !;"
    ≡ gives "0 v -;0 w -;1 v 0010;1 w 00000001;2 v xx10;2 w 00000001;3 v zzx0;3 w 00000001;4 v 0x10;4 w 00000001;" "" 0
unfolding model
sample_extends = refl

pick_shortens : on (Want.Pick
    (codes "tb" ∷ [])) "$timescale 1ns $end;$scope module tb $end;$var wire 1 ! clk $end;$var reg 4 \" q [3:0] $end;$upscope $end;$enddefinitions $end;#0;b0010 \";b1 !;"
    ≡ gives "$timescale;^1ns;$end;$scope module tb $end;$var wire 1 ! clk $end;$var reg 4 \" q [3:0] $end;$upscope $end;$enddefinitions $end;#0;b10 \";1!;" "" 0
unfolding model
pick_shortens = refl

list_of_scopes : on Want.Listing "$var event 1 % go $end;$scope module tb $end;$var wire 1 ! clk $end;$scope module u $end;$var reg 4 \" q [3:0] $end;$upscope $end;$var real 1 # r $end;$enddefinitions $end;"
    ≡ gives "go event 1 %;tb.clk wire 1 !;tb.u.q reg 4 \";tb.r real 1 #;" "" 0
unfolding model
list_of_scopes = refl

pick_by_alias : on (Want.Pick
    (codes "tb.u.b" ∷ []))
    "$scope module tb $end;$var wire 1 ! a $end;$scope module u $end;$var wire 1 ! b $end;$upscope $end;$upscope $end;$enddefinitions $end;#0;0!;#5;1!;#5;1!;#7;"
    ≡ gives "$scope module tb $end;$scope module u $end;$var wire 1 ! b $end;$upscope $end;$upscope $end;$enddefinitions $end;#0;0!;#5;1!;1!;#7;" "" 0
unfolding model
pick_by_alias = refl

name_selects_nothing : on
    (Want.Pick (codes "tc" ∷ []))
    "$scope module tb $end;$var wire 1 ! a $end;$scope module u $end;$var wire 1 ! b $end;$upscope $end;$upscope $end;$enddefinitions $end;#0;0!;#5;1!;#5;1!;#7;"
    ≡ gives "" "tc: selects nothing" 1
unfolding model
name_selects_nothing = refl

name_is_no_front : on
    (Want.Pick (codes "tb.a" ∷ [])) "$scope module tb $end;$var wire 1 ! a $end;$var wire 1 \" ab $end;$upscope $end;$enddefinitions $end;#0;0!;1\";"
    ≡ gives "$scope module tb $end;$var wire 1 ! a $end;$upscope $end;$enddefinitions $end;#0;0!;" "" 0
unfolding model
name_is_no_front = refl

cut_up_to_mark : on (cut "10" "20")
    "$var wire 1 ! a $end;$var real 1 \" r $end;$var event 1 # e $end;$var wire 2 % u $end;$enddefinitions $end;#9;0!;r1.5 \";1#;#10;1!;1#;#20;r2 \";#21;0!;"
    ≡ gives "$var wire 1 ! a $end;$var real 1 \" r $end;$var event 1 # e $end;$var wire 2 % u $end;$enddefinitions $end;#10;$dumpvars;0!;r1.5 \";$end;1!;1#;#20;r2 \";" "" 0
unfolding model
cut_up_to_mark = refl

cut_between_marks : on
    (cut "10" "15") "$var wire 1 ! a $end;$var real 1 \" r $end;$var event 1 # e $end;$var wire 2 % u $end;$enddefinitions $end;#9;0!;r1.5 \";1#;#10;1!;1#;#20;r2 \";#21;0!;"
    ≡ gives "$var wire 1 ! a $end;$var real 1 \" r $end;$var event 1 # e $end;$var wire 2 % u $end;$enddefinitions $end;#10;$dumpvars;0!;r1.5 \";$end;1!;1#;#15;" "" 0
unfolding model
cut_between_marks = refl

cut_behind_last_mark : on
    (cut "30" "40") "$var wire 1 ! a $end;$var real 1 \" r $end;$var event 1 # e $end;$var wire 2 % u $end;$enddefinitions $end;#9;0!;r1.5 \";1#;#10;1!;1#;#20;r2 \";#21;0!;"
    ≡ gives "$var wire 1 ! a $end;$var real 1 \" r $end;$var event 1 # e $end;$var wire 2 % u $end;$enddefinitions $end;#30;$dumpvars;0!;r2 \";$end;" "" 0
unfolding model
cut_behind_last_mark = refl

cut_from_zero : on (cut "0" "5")
    "$var wire 1 ! a $end;$var real 1 \" r $end;$var event 1 # e $end;$var wire 2 % u $end;$enddefinitions $end;1!;#0;0!;#9;"
    ≡ gives "$var wire 1 ! a $end;$var real 1 \" r $end;$var event 1 # e $end;$var wire 2 % u $end;$enddefinitions $end;#0;$dumpvars;$end;1!;0!;#5;" "" 0
unfolding model
cut_from_zero = refl

edges_through_x : on
    (Want.Edges []) "$timescale 1ns $end;$scope module tb $end;$var wire 1 ! clk $end;$var reg 4 \" q [3:0] $end;$upscope $end;$enddefinitions $end;#0;$dumpvars;0!;b0 \";$end;#1;x!;#2;1!;#3;0!;#4;1!;1!;b1 \";#5;$dumpoff;x!;bx \";$end;"
    ≡ gives "tb.clk 5 1 1;tb.q 2 1 0;" "" 0
unfolding model
edges_through_x = refl

edges_of_real_and_event : on
    (Want.Edges []) "$var wire 1 ! a $end;$var real 1 \" r $end;$var event 1 # e $end;$var wire 2 % u $end;$enddefinitions $end;#9;0!;r1.5 \";1#;#10;1!;1#;#20;r2 \";#21;0!;"
    ≡ gives "a 2 1 1;r 1 0 0;e 2 0 0;u 0 0 0;" "" 0
unfolding model
edges_of_real_and_event = refl

pick_up_to_fault : on
    (Want.Pick (codes "tb" ∷ []))
    "$timescale 1ns $end;$scope module tb $end;$var wire 1 ! clk $end;$var reg 4 \" q [3:0] $end;$upscope $end;$enddefinitions $end;#0;0!;#5;b10"
    ≡ gives "$timescale;^1ns;$end;$scope module tb $end;$var wire 1 ! clk $end;$var reg 4 \" q [3:0] $end;$upscope $end;$enddefinitions $end;#0;0!;" "(stdin):10: unexpected end of input" 1
unfolding model
pick_up_to_fault = refl

time_goes_back : on Want.Check "$timescale 1ns $end;$scope module tb $end;$var wire 1 ! clk $end;$var reg 4 \" q [3:0] $end;$upscope $end;$enddefinitions $end;#5;#5;1!;#4;"
    ≡ gives "" "(stdin):10: time goes back" 1
unfolding model
time_goes_back = refl

time_in_section : on Want.Check "$timescale 1ns $end;$scope module tb $end;$var wire 1 ! clk $end;$var reg 4 \" q [3:0] $end;$upscope $end;$enddefinitions $end;#5;$dumpvars;#4;"
    ≡ gives "" "(stdin):9: time inside a section" 1
unfolding model
time_in_section = refl

code_by_place : on Want.Check "$timescale 1ns $end;$scope module tb $end;$var wire 1 ! clk $end;$var reg 4 \" q [3:0] $end;$upscope $end;$enddefinitions $end;b101 $end;"
    ≡ gives "" "(stdin):7: unknown code" 1
unfolding model
code_by_place = refl

value_too_wide : on Want.Check "$timescale 1ns $end;$scope module tb $end;$var wire 1 ! clk $end;$var reg 4 \" q [3:0] $end;$upscope $end;$enddefinitions $end;b10110 \";"
    ≡ gives "" "(stdin):7: value too wide" 1
unfolding model
value_too_wide = refl

bad_time : on Want.Check "$timescale 1ns $end;$scope module tb $end;$var wire 1 ! clk $end;$var reg 4 \" q [3:0] $end;$upscope $end;$enddefinitions $end;#x;" ≡ gives "" "(stdin):7: bad time" 1
unfolding model
bad_time = refl

digit_without_code : on Want.Check "$timescale 1ns $end;$scope module tb $end;$var wire 1 ! clk $end;$var reg 4 \" q [3:0] $end;$upscope $end;$enddefinitions $end;1;"
    ≡ gives "" "(stdin):7: bad value" 1
unfolding model
digit_without_code = refl

bad_digit : on Want.Check "$timescale 1ns $end;$scope module tb $end;$var wire 1 ! clk $end;$var reg 4 \" q [3:0] $end;$upscope $end;$enddefinitions $end;b12 \";" ≡ gives "" "(stdin):7: bad value" 1
unfolding model
bad_digit = refl

number_missing : on Want.Check "$timescale 1ns $end;$scope module tb $end;$var wire 1 ! clk $end;$var reg 4 \" q [3:0] $end;$upscope $end;$enddefinitions $end;r \";"
    ≡ gives "" "(stdin):7: bad value" 1
unfolding model
number_missing = refl

end_outside_section : on Want.Check "$timescale 1ns $end;$scope module tb $end;$var wire 1 ! clk $end;$var reg 4 \" q [3:0] $end;$upscope $end;$enddefinitions $end;$end;"
    ≡ gives "" "(stdin):7: command out of place" 1
unfolding model
end_outside_section = refl

header_command_in_body : on Want.Check "$timescale 1ns $end;$scope module tb $end;$var wire 1 ! clk $end;$var reg 4 \" q [3:0] $end;$upscope $end;$enddefinitions $end;$var"
    ≡ gives "" "(stdin):7: command out of place" 1
unfolding model
header_command_in_body = refl

unknown_in_phrase_start : on Want.Check "$timescale 1ns $end;$scope module tb $end;$var wire 1 ! clk $end;$var reg 4 \" q [3:0] $end;$upscope $end;$enddefinitions $end;?;"
    ≡ gives "" "(stdin):7: unknown command" 1
unfolding model
unknown_in_phrase_start = refl

real_too_long : on Want.Check "$timescale 1ns $end;$scope module tb $end;$var wire 1 ! clk $end;$var reg 4 \" q [3:0] $end;$upscope $end;$enddefinitions $end;r11111111111111111111111111111111111111111111111111111111111111111 \";"
    ≡ gives "" "(stdin):7: real text too long" 1
unfolding model
real_too_long = refl

unfinished_command : on Want.Check "$foo $end;" ≡ gives "" "(stdin):2: unexpected end of input" 1
unfolding model
unfinished_command = refl

mark_in_header : on Want.Check "#0;" ≡ gives "" "(stdin):1: command out of place" 1
unfolding model
mark_in_header = refl

bad_scale : on Want.Check "$timescale 2ns $end;" ≡ gives "" "(stdin):1: bad timescale" 1
unfolding model
bad_scale = refl

scope_without_name : on Want.Check "$scope module $end;" ≡ gives "" "(stdin):1: bad scope" 1
unfolding model
scope_without_name = refl

size_zero : on Want.Check "$var wire 0 ! a $end;" ≡ gives "" "(stdin):1: bad variable" 1
unfolding model
size_zero = refl

size_differs : on Want.Check "$var wire 1 ! a $end;$var wire 2 ! b $end;" ≡ gives "" "(stdin):2: code declared with another size or kind" 1
unfolding model
size_differs = refl

no_scope_to_close : on Want.Check "$upscope $end;" ≡ gives "" "(stdin):1: upscope without scope" 1
unfolding model
no_scope_to_close = refl

sample_ends_early : on (sample (1 ∷ []) []) "$var wire 4 ! v $end;$var wire 8 \" w $end;$enddefinitions $end;#1;b1 !;#2;?;" ≡ gives "1 v 0001;1 w -;" "" 0
unfolding model
sample_ends_early = refl

sample_up_to_fault : on (sample (1 ∷ 2 ∷ []) []) "$var wire 4 ! v $end;$var wire 8 \" w $end;$enddefinitions $end;#1;b1 !;#2;?;" ≡ gives "1 v 0001;1 w -;" "(stdin):7: unknown command" 1
unfolding model
sample_up_to_fault = refl

event_in_section : on (Want.Pick (codes "a" ∷ codes "e" ∷ []))
    "$var wire 1 ! a $end;$var real 1 \" r $end;$var event 1 # e $end;$var wire 2 % u $end;$enddefinitions $end;#0;$dumpvars;1#;0!;$end;"
    ≡ gives "$var wire 1 ! a $end;$var event 1 # e $end;$enddefinitions $end;#0;$dumpvars;0!;$end;" "" 0
unfolding model
event_in_section = refl

check_plain : on Want.Check "$timescale 1ns $end;$var wire 1 ! clk $end;$enddefinitions $end;#0;0!;#5;1!;" ≡ gives "scopes 0;variables 1;codes 1;times 2;sections 0;changes 2;last 5;" "" 0
unfolding model
check_plain = refl

merge_same_twice : outcome Want.Merge limit (codes "d.vcd" ∷ codes "d.vcd" ∷ [])
    (clean "$timescale 1ns $end;$scope module tb $end;$var wire 1 ! clk $end;$var reg 4 \" q [3:0] $end;$upscope $end;$enddefinitions $end;#0;0!;#5;1!;" ∷ clean "$timescale 1ns $end;$scope module tb $end;$var wire 1 ! clk $end;$var reg 4 \" q [3:0] $end;$upscope $end;$enddefinitions $end;#0;0!;#5;1!;" ∷ [])
    ≡ gives "$timescale;^1ns;$end;$scope module in1 $end;$scope module tb $end;$var wire 1 ! clk $end;$var reg 4 \" q [3:0] $end;$upscope $end;$upscope $end;$scope module in2 $end;$scope module tb $end;$var wire 1 # clk $end;$var reg 4 $ q [3:0] $end;$upscope $end;$upscope $end;$enddefinitions $end;#0;0!;0#;#5;1!;1#;" "" 0
unfolding model
merge_same_twice = refl

merge_scales_times : outcome Want.Merge limit (codes "a.vcd" ∷ codes "b.vcd" ∷ [])
    (clean "$timescale 1ns $end;$var wire 1 ! a $end;$enddefinitions $end;#1;1!;#18446744073709551615;0!;" ∷ clean "$timescale 100ps $end;$var wire 1 ! b $end;$enddefinitions $end;#5;1!;#20;0!;" ∷ [])
    ≡ gives "$timescale;^100ps;$end;$scope module in1 $end;$var wire 1 ! a $end;$upscope $end;$scope module in2 $end;$var wire 1 \" b $end;$upscope $end;$enddefinitions $end;#5;1\";#10;1!;" "a.vcd:6: time too large" 1
unfolding model
merge_scales_times = refl

merge_waits : outcome Want.Merge limit (codes "a.vcd" ∷ codes "b.vcd" ∷ [])
    (clean "$var wire 1 ! a $end;$enddefinitions $end;#1;1!;#9;0!;" ∷ clean "$var wire 1 ! a $end;$enddefinitions $end;#5;?;" ∷ [])
    ≡ gives "$timescale;^1s;$end;$scope module in1 $end;$var wire 1 ! a $end;$upscope $end;$scope module in2 $end;$var wire 1 \" a $end;$upscope $end;$enddefinitions $end;#1;1!;" "b.vcd:4: unknown command" 1
unfolding model
merge_waits = refl

merge_tie : outcome Want.Merge limit (codes "a.vcd" ∷ codes "b.vcd" ∷ [])
    (clean "$var wire 1 ! a $end;$enddefinitions $end;#5;?;" ∷ clean "$var wire 1 ! a $end;$enddefinitions $end;#5;?;" ∷ [])
    ≡ gives "$timescale;^1s;$end;$scope module in1 $end;$var wire 1 ! a $end;$upscope $end;$scope module in2 $end;$var wire 1 \" a $end;$upscope $end;$enddefinitions $end;" "a.vcd:4: unknown command" 1
unfolding model
merge_tie = refl

longest_token : outcome Want.Check 64 (codes "(stdin)" ∷ [])
    (clean "$comment xxxxxxxxxxxxxxxxxxxxxxxxxxxxxxxxxxxxxxxxxxxxxxxxxxxxxxxxxxxxxxxx $end;$enddefinitions $end;" ∷ [])
    ≡ gives "scopes 0;variables 0;codes 0;times 0;sections 0;changes 0;last -;" "" 0
unfolding model
longest_token = refl

token_too_long : outcome Want.Check 64 (codes "(stdin)" ∷ [])
    (clean "$comment xxxxxxxxxxxxxxxxxxxxxxxxxxxxxxxxxxxxxxxxxxxxxxxxxxxxxxxxxxxxxxxxx $end;$enddefinitions $end;" ∷ [])
    ≡ gives "" "(stdin):1: token too long" 1
unfolding model
token_too_long = refl
