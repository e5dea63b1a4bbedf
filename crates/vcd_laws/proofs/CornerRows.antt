-- Rows at the corners of the rules, computed.
use Rattle.vcd_laws.proofs.Cited.{◌≡◌, [], ◌∷◌, ◌++◌, codes, Some, refl, Mark, stream_of, read_header, header_fault_of, Want, outcome, Command}
use Rattle.vcd_laws.proofs.Computing.{model}
use Rattle.vcd_laws.proofs.RowText.{written, clean, limit, on, gives, cut, sample, asked, merged}

-- ---- header texts and where they may be

empty_date_replaces : on
    (Want.Pick (codes "a" ∷ []))
    "$date x  y $end;$version v $end;$date $end;$timescale 1s $end;$timescale 10 us $end;$var wire 1 ! a $end;$enddefinitions $end;"
    ≡ gives "$version;^v;$end;$timescale;^10us;$end;$var wire 1 ! a $end;$enddefinitions $end;" "" 0
unfolding model
empty_date_replaces = refl

keywords_as_names : on Want.Listing "$scope $var $upscope $end;$var $comment 1 $scope $dumpvars x $end;$enddefinitions $end;" ≡ gives "$upscope.$dumpvars $comment 1 $scope;" "" 0
unfolding model
keywords_as_names = refl

event_by_type_alone : on Want.Listing "$var Event 1 ! a $end;$var event 4 \" b $end;$var event 4 \" c [0] $end;$enddefinitions $end;" ≡ gives "a Event 1 !;b event 4 \";c event 4 \";" "" 0
unfolding model
event_by_type_alone = refl

reference_ends_at_first_end : on Want.Check "$var wire 1 ! a $end b $end;$enddefinitions $end;" ≡ gives "" "(stdin):1: command out of place" 1
unfolding model
reference_ends_at_first_end = refl

third_scope_token : on Want.Check "$scope module t;u $end;$enddefinitions $end;" ≡ gives "" "(stdin):2: bad scope" 1
unfolding model
third_scope_token = refl

number_then_end : on Want.Check "$timescale 10;$end;$enddefinitions $end;" ≡ gives "" "(stdin):2: bad timescale" 1
unfolding model
number_then_end = refl

scale_then_unit : on Want.Check "$timescale 10ns;ns $end;$enddefinitions $end;" ≡ gives "" "(stdin):2: bad timescale" 1
unfolding model
scale_then_unit = refl

unit_behind_number : on Want.Check "$timescale 10 0ns $end;$enddefinitions $end;" ≡ gives "" "(stdin):1: bad timescale" 1
unfolding model
unit_behind_number = refl

number_100_alone : on (Want.Pick (codes "a" ∷ [])) "$timescale 100 ps $end;$var wire 1 ! a $end;$enddefinitions $end;"
    ≡ gives "$timescale;^100ps;$end;$var wire 1 ! a $end;$enddefinitions $end;" "" 0
unfolding model
number_100_alone = refl

last_version : on (Want.Pick (codes "a" ∷ [])) "$version a $end;$version b  c $end;$var wire 1 ! a $end;$enddefinitions $end;"
    ≡ gives "$version;^b c;$end;$var wire 1 ! a $end;$enddefinitions $end;" "" 0
unfolding model
last_version = refl

empty_version_replaces : on (Want.Pick (codes "a" ∷ [])) "$version v $end;$version $end;$var wire 1 ! a $end;$enddefinitions $end;" ≡ gives "$var wire 1 ! a $end;$enddefinitions $end;" "" 0
unfolding model
empty_version_replaces = refl

last_code_byte : on Want.Listing "$var wire 1 ~ a $end;$enddefinitions $end;" ≡ gives "a wire 1 ~;" "" 0
unfolding model
last_code_byte = refl

code_with_a_bad_byte : outcome Want.Check limit (codes "(stdin)" ∷ [])
    (record { bytes = written "$var wire 1;!" ++ (127 ∷ []) ++ written " a $end;$enddefinitions $end;"; mark = Mark.Clean } ∷ [])
    ≡ gives "" "(stdin):2: bad variable" 1
unfolding model
code_with_a_bad_byte = refl

no_event_by_case_or_front : on (Want.Pick (codes "a" ∷ codes "b" ∷ []))
    "$var Event 1 ! a $end;$var events 1 \" b $end;$enddefinitions $end;#0;0!;x\";$dumpvars;0!;$end;"
    ≡ gives "$var Event 1 ! a $end;$var events 1 \" b $end;$enddefinitions $end;#0;0!;x\";$dumpvars;0!;$end;" "" 0
unfolding model
no_event_by_case_or_front = refl

reference_of_many_tokens : on (Want.Pick (codes "a" ∷ [])) "$var wire 4 ! a [ 3 : 0 ] $end;$enddefinitions $end;" ≡ gives "$var wire 4 ! a [ 3 : 0 ] $end;$enddefinitions $end;" "" 0
unfolding model
reference_of_many_tokens = refl

two_scopes_left_open : on (Want.Pick (codes "t" ∷ [])) "$scope module t $end;$scope module u $end;$var wire 1 ! a $end;$enddefinitions $end;"
    ≡ gives "$scope module t $end;$scope module u $end;$var wire 1 ! a $end;$upscope $end;$upscope $end;$enddefinitions $end;" "" 0
unfolding model
two_scopes_left_open = refl

size_with_a_letter : asked Command.Check "$var wire 1x ! a $end;" ≡ gives "" "(stdin):1: bad variable" 1
unfolding model
size_with_a_letter = refl

event_of_another_size : asked Command.Check "$var event 1 ! a $end;$var event 2 ! b $end;" ≡ gives "" "(stdin):2: code declared with another size or kind" 1
unfolding model
event_of_another_size = refl

variable_after_scopes : asked Command.Check "$scope m s $end;$upscope $end;$var wire 1 ! a $end;$enddefinitions $end;"
    ≡ gives "scopes 1;variables 1;codes 1;times 0;sections 0;changes 0;last -;" "" 0
unfolding model
variable_after_scopes = refl

-- no type but `event` has a meaning
real_and_wire_of_one_code : asked Command.Check "$var real 1 ! a $end;$var wire 1 ! b $end;$enddefinitions $end;" ≡ gives "scopes 0;variables 2;codes 1;times 0;sections 0;changes 0;last -;" "" 0
unfolding model
real_and_wire_of_one_code = refl

code_of_two_before : asked Command.Check "$var wire 1 ! a $end;$var wire 1 \" b $end;$var wire 2 ! c $end;" ≡ gives "" "(stdin):3: code declared with another size or kind" 1
unfolding model
code_of_two_before = refl

keywords_in_a_reference : asked Command.Listing "$var wire 1 ! a $var $dumpoff $end;$enddefinitions $end;" ≡ gives "a wire 1 !;" "" 0
unfolding model
keywords_in_a_reference = refl

token_after_a_scale : asked Command.Check "$timescale 1 ns;ns $end;" ≡ gives "" "(stdin):2: bad timescale" 1
unfolding model
token_after_a_scale = refl

unit_alone : asked Command.Check "$timescale ns $end;" ≡ gives "" "(stdin):1: bad timescale" 1
unfolding model
unit_alone = refl

number_1000 : asked Command.Check "$timescale 1000;ns;$end;" ≡ gives "" "(stdin):1: bad timescale" 1
unfolding model
number_1000 = refl

unit_of_no_scale : asked Command.Check "$timescale 1 as;$end;" ≡ gives "" "(stdin):1: bad timescale" 1
unfolding model
unit_of_no_scale = refl

unit_in_upper_case : asked Command.Check "$timescale 1 NS;$end;" ≡ gives "" "(stdin):1: bad timescale" 1
unfolding model
unit_in_upper_case = refl

path_of_three_scopes : asked Command.Listing "$scope m x $end;$scope m y $end;$scope m z $end;$var wire 1 ! a $end;$enddefinitions $end;" ≡ gives "x.y.z.a wire 1 !;" "" 0
unfolding model
path_of_three_scopes = refl

list_of_aliases : asked Command.Listing "$var wire 2 ! a $end;$var reg 2 ! b $end;$enddefinitions $end;" ≡ gives "a wire 2 !;b reg 2 !;" "" 0
unfolding model
list_of_aliases = refl

-- ---- names

name_with_point : on (Want.Pick (codes "t." ∷ [])) "$scope module t $end;$var wire 1 ! a $end;$upscope $end;$enddefinitions $end;" ≡ gives "" "t.: selects nothing" 1
unfolding model
name_with_point = refl

empty_name : on (Want.Pick (codes "" ∷ [])) "$var wire 1 ! .a $end;$var wire 1 \" b $end;$enddefinitions $end;#0;0!;1\";" ≡ gives "$var wire 1 ! .a $end;$enddefinitions $end;#0;0!;" "" 0
unfolding model
empty_name = refl

alias_by_other_reference : on (Want.Edges (codes "b" ∷ [])) "$var wire 2 ! a $end;$var reg 2 ! b [1:0] $end;$enddefinitions $end;b01 !;b10 !;1!;" ≡ gives "b 2 1 1;" "" 0
unfolding model
alias_by_other_reference = refl

sample_selects_nothing : on (sample (1 ∷ []) (codes "a" ∷ codes "zz" ∷ [])) "$var wire 1 ! a $end;$enddefinitions $end;#1;1!;" ≡ gives "" "zz: selects nothing" 1
unfolding model
sample_selects_nothing = refl

edges_select_nothing : on (Want.Edges (codes "zz" ∷ [])) "$var wire 1 ! a $end;$enddefinitions $end;#1;1!;" ≡ gives "" "zz: selects nothing" 1
unfolding model
edges_select_nothing = refl

-- a name counts before a fault of the body, and `list` reads no body
name_before_body : on (Want.Pick (codes "zz" ∷ [])) "$var wire 1 ! a $end;$enddefinitions $end;?;" ≡ gives "" "zz: selects nothing" 1
unfolding model
name_before_body = refl

list_reads_no_body : on Want.Listing "$var wire 1 ! a $end;$enddefinitions $end;?;" ≡ gives "a wire 1 !;" "" 0
unfolding model
list_reads_no_body = refl

-- lines are in the order of declaration, each variable once
names_in_another_order : on (sample (1 ∷ []) (codes "u" ∷ codes "a" ∷ codes "u" ∷ []))
    "$var wire 1 ! a $end;$var real 1 \" r $end;$var event 1 # e $end;$var wire 2 % u $end;$enddefinitions $end;#1;bx %;0!;"
    ≡ gives "1 a 0;1 u xx;" "" 0
unfolding model
names_in_another_order = refl

edges_in_order_of_declaration : on (Want.Edges (codes "u" ∷ codes "a" ∷ []))
    "$var wire 1 ! a $end;$var real 1 \" r $end;$var event 1 # e $end;$var wire 2 % u $end;$enddefinitions $end;#1;bx %;0!;1!;b1 %;"
    ≡ gives "a 1 1 0;u 1 0 0;" "" 0
unfolding model
edges_in_order_of_declaration = refl

name_in_another_case : asked (Command.Pick (codes "A" ∷ [])) "$var wire 1 ! a $end;$enddefinitions $end;1!;" ≡ gives "" "A: selects nothing" 1
unfolding model
name_in_another_case = refl

first_of_two_unmatched : asked (Command.Pick (codes "zz" ∷ codes "yy" ∷ [])) "$var wire 1 ! a $end;$enddefinitions $end;" ≡ gives "" "zz: selects nothing" 1
unfolding model
first_of_two_unmatched = refl

scope_without_variables : asked (Command.Pick (codes "s.e" ∷ []))
    "$scope m s $end;$scope m e $end;$upscope $end;$var wire 1 ! a $end;$upscope $end;$enddefinitions $end;" ≡ gives "" "s.e: selects nothing" 1
unfolding model
scope_without_variables = refl

name_of_the_last_parts : asked (Command.Pick (codes "u.b" ∷ []))
    "$scope m t $end;$scope m u $end;$var wire 1 ! b $end;$upscope $end;$upscope $end;$enddefinitions $end;" ≡ gives "" "u.b: selects nothing" 1
unfolding model
name_of_the_last_parts = refl

codes_that_begin_alike : asked (Command.Pick (codes "a" ∷ [])) "$var wire 1 ! a $end;$var wire 1 !! b $end;$enddefinitions $end;#1;1!;0!!;"
    ≡ gives "$var wire 1 ! a $end;$enddefinitions $end;#1;1!;" "" 0
unfolding model
codes_that_begin_alike = refl

event_that_is_not_selected : asked (Command.Pick (codes "a" ∷ []))
    "$var wire 1 ! a $end;$var real 1 \" r $end;$var event 1 # e $end;$var wire 2 % u $end;$enddefinitions $end;#1;1#;0!;1#;"
    ≡ gives "$var wire 1 ! a $end;$enddefinitions $end;#1;0!;" "" 0
unfolding model
event_that_is_not_selected = refl

wide_event : asked (Command.Pick (codes "e" ∷ [])) "$var event 4 # e $end;$enddefinitions $end;#0;$dumpvars;b1 #;$end;b10 #;"
    ≡ gives "$var event 4 # e $end;$enddefinitions $end;#0;$dumpvars;$end;1#;" "" 0
unfolding model
wide_event = refl

event_by_a_real_text : asked (Command.Pick (codes "e" ∷ []))
    "$var wire 1 ! a $end;$var real 1 \" r $end;$var event 1 # e $end;$var wire 2 % u $end;$enddefinitions $end;#0;r1 #;"
    ≡ gives "$var event 1 # e $end;$enddefinitions $end;#0;1#;" "" 0
unfolding model
event_by_a_real_text = refl

edges_of_aliases : asked (Command.Edges []) "$var wire 1 ! a $end;$var reg 1 ! b $end;$enddefinitions $end;0!;1!;" ≡ gives "a 1 1 0;b 1 1 0;" "" 0
unfolding model
edges_of_aliases = refl

-- ---- cut

fault_with_start_at_zero : on
    (cut "0" "9") "$var wire 1 ! a $end;$var real 1 \" r $end;$var event 1 # e $end;$var wire 2 % u $end;$enddefinitions $end;?;"
    ≡ gives "$var wire 1 ! a $end;$var real 1 \" r $end;$var event 1 # e $end;$var wire 2 % u $end;$enddefinitions $end;#0;$dumpvars;$end;" "(stdin):6: unknown command" 1
unfolding model
fault_with_start_at_zero = refl

fault_behind_start : on
    (cut "3" "9") "$var wire 1 ! a $end;$var real 1 \" r $end;$var event 1 # e $end;$var wire 2 % u $end;$enddefinitions $end;1!;#2;bx0 %;#5;1#;b1 %;#4;"
    ≡ gives "$var wire 1 ! a $end;$var real 1 \" r $end;$var event 1 # e $end;$var wire 2 % u $end;$enddefinitions $end;#3;$dumpvars;1!;bx0 %;$end;#5;1#;b1 %;" "(stdin):12: time goes back" 1
unfolding model
fault_behind_start = refl

end_behind_start : on
    (cut "3" "9") "$var wire 1 ! a $end;$var real 1 \" r $end;$var event 1 # e $end;$var wire 2 % u $end;$enddefinitions $end;1!;#2;#3;#7;"
    ≡ gives "$var wire 1 ! a $end;$var real 1 \" r $end;$var event 1 # e $end;$var wire 2 % u $end;$enddefinitions $end;#3;$dumpvars;1!;$end;#7;" "" 0
unfolding model
end_behind_start = refl

end_at_start : on (cut "3" "9") "$var wire 1 ! a $end;$var real 1 \" r $end;$var event 1 # e $end;$var wire 2 % u $end;$enddefinitions $end;1!;#3;"
    ≡ gives "$var wire 1 ! a $end;$var real 1 \" r $end;$var event 1 # e $end;$var wire 2 % u $end;$enddefinitions $end;#3;$dumpvars;1!;$end;" "" 0
unfolding model
end_at_start = refl

fault_behind_end : on
    (cut "1" "2") "$var wire 1 ! a $end;$var real 1 \" r $end;$var event 1 # e $end;$var wire 2 % u $end;$enddefinitions $end;#1;1!;#3;?;"
    ≡ gives "$var wire 1 ! a $end;$var real 1 \" r $end;$var event 1 # e $end;$var wire 2 % u $end;$enddefinitions $end;#1;$dumpvars;$end;1!;#2;" "" 0
unfolding model
fault_behind_end = refl

mark_inside_section : on
    (sample (1 ∷ []) [])
    "$var wire 1 ! a $end;$var real 1 \" r $end;$var event 1 # e $end;$var wire 2 % u $end;$enddefinitions $end;#1;$dumpvars;1!;#2;$end;"
    ≡ gives "" "(stdin):9: time inside a section" 1
unfolding model
mark_inside_section = refl

start_section_of_aliases : on (cut "3" "9") "$var wire 2 ! a $end;$var reg 2 ! b $end;$enddefinitions $end;b10 !;#4;"
    ≡ gives "$var wire 2 ! a $end;$var reg 2 ! b $end;$enddefinitions $end;#3;$dumpvars;b10 !;$end;#4;" "" 0
unfolding model
start_section_of_aliases = refl

nothing_at_the_only_time : on (cut "10" "10") "$var wire 1 ! a $end;$enddefinitions $end;#9;0!;#20;1!;" ≡ gives "$var wire 1 ! a $end;$enddefinitions $end;#10;$dumpvars;0!;$end;" "" 0
unfolding model
nothing_at_the_only_time = refl

nothing_kept_before_a_later_mark : on (cut "5" "8") "$var wire 1 ! a $end;$enddefinitions $end;#1;1!;#9;0!;" ≡ gives "$var wire 1 ! a $end;$enddefinitions $end;#5;$dumpvars;1!;$end;#8;" "" 0
unfolding model
nothing_kept_before_a_later_mark = refl

sections_in_a_cut : asked (Command.Cut (codes "1") (codes "9"))
    "$var wire 1 ! a $end;$var real 1 \" r $end;$var event 1 # e $end;$var wire 2 % u $end;$enddefinitions $end;$dumpvars;0!;$end;#1;$dumpoff;x!;1#;bx %;$end;#4;$dumpon;1!;1#;$end;1#;#9;"
    ≡ gives "$var wire 1 ! a $end;$var real 1 \" r $end;$var event 1 # e $end;$var wire 2 % u $end;$enddefinitions $end;#1;$dumpvars;0!;$end;$dumpoff;x!;bx %;$end;#4;$dumpon;1!;$end;1#;#9;" "" 0
unfolding model
sections_in_a_cut = refl

short_digits_in_the_start_section : asked (Command.Cut (codes "5") (codes "9")) "$var wire 8 ! a $end;$enddefinitions $end;b00000101 !;#6;"
    ≡ gives "$var wire 8 ! a $end;$enddefinitions $end;#5;$dumpvars;b101 !;$end;#6;" "" 0
unfolding model
short_digits_in_the_start_section = refl

wide_value_in_the_start_section : asked (Command.Cut (codes "5") (codes "9")) "$var wire 100 ! a $end;$enddefinitions $end;b10 !;#6;"
    ≡ gives "$var wire 100 ! a $end;$enddefinitions $end;#5;$dumpvars;b10 !;$end;#6;" "" 0
unfolding model
wide_value_in_the_start_section = refl

cut_of_no_marks : asked (Command.Cut (codes "5") (codes "9")) "$var wire 1 ! a $end;$enddefinitions $end;1!;" ≡ gives "$var wire 1 ! a $end;$enddefinitions $end;#5;$dumpvars;1!;$end;" "" 0
unfolding model
cut_of_no_marks = refl

cut_of_no_items : asked (Command.Cut (codes "5") (codes "9")) "$var wire 1 ! a $end;$enddefinitions $end;" ≡ gives "$var wire 1 ! a $end;$enddefinitions $end;#5;$dumpvars;$end;" "" 0
unfolding model
cut_of_no_items = refl

scope_without_variables_in_a_cut : asked (Command.Cut (codes "0") (codes "9"))
    "$scope m s $end;$scope m e $end;$upscope $end;$var wire 1 ! a $end;$upscope $end;$enddefinitions $end;1!;"
    ≡ gives "$scope m s $end;$var wire 1 ! a $end;$upscope $end;$enddefinitions $end;#0;$dumpvars;$end;1!;" "" 0
unfolding model
scope_without_variables_in_a_cut = refl

last_mark_at_the_end_of_a_cut : asked (Command.Cut (codes "3") (codes "7")) "$var wire 1 ! a $end;$enddefinitions $end;1!;#7;"
    ≡ gives "$var wire 1 ! a $end;$enddefinitions $end;#3;$dumpvars;1!;$end;#7;" "" 0
unfolding model
last_mark_at_the_end_of_a_cut = refl

values_of_sections_in_the_start_section : asked (Command.Cut (codes "5") (codes "9"))
    "$var wire 1 ! a $end;$enddefinitions $end;$dumpvars;1!;$end;#6;"
    ≡ gives "$var wire 1 ! a $end;$enddefinitions $end;#5;$dumpvars;1!;$end;#6;" "" 0
unfolding model
values_of_sections_in_the_start_section = refl

codes_of_the_start_section_in_order : asked (Command.Cut (codes "5") (codes "9"))
    "$var wire 1 ! a $end;$var wire 1 \" b $end;$var wire 1 ! c $end;$enddefinitions $end;1\";0!;#6;"
    ≡ gives "$var wire 1 ! a $end;$var wire 1 \" b $end;$var wire 1 ! c $end;$enddefinitions $end;#5;$dumpvars;0!;1\";$end;#6;" "" 0
unfolding model
codes_of_the_start_section_in_order = refl

-- ---- merge

input_without_variables : outcome Want.Merge limit (codes "a.vcd" ∷ codes "b.vcd" ∷ [])
    (clean "$scope module t $end;$enddefinitions $end;#4;" ∷ clean "$var wire 1 ! a $end;$enddefinitions $end;1!;" ∷ [])
    ≡ gives "$timescale;^1s;$end;$scope module in1 $end;$upscope $end;$scope module in2 $end;$var wire 1 ! a $end;$upscope $end;$enddefinitions $end;#0;1!;#4;" "" 0
unfolding model
input_without_variables = refl

own_fault_before_too_large : outcome Want.Merge limit (codes "a.vcd" ∷ codes "b.vcd" ∷ [])
    (clean "$timescale 10s $end;$var wire 1 ! a $end;$enddefinitions $end;#3;1!;#1844674407370955162;" ∷ clean "$var wire 1 ! a $end;$enddefinitions $end;#29;?;" ∷ [])
    ≡ gives "$timescale;^1s;$end;$scope module in1 $end;$var wire 1 ! a $end;$upscope $end;$scope module in2 $end;$var wire 1 \" a $end;$upscope $end;$enddefinitions $end;" "b.vcd:4: unknown command" 1
unfolding model
own_fault_before_too_large = refl

too_large_before_fault : outcome Want.Merge limit (codes "a.vcd" ∷ codes "b.vcd" ∷ [])
    (clean "$timescale 10s $end;$var wire 1 ! a $end;$enddefinitions $end;#3;1!;#1844674407370955162;" ∷ clean "$var wire 1 ! a $end;$enddefinitions $end;#31;?;" ∷ [])
    ≡ gives "$timescale;^1s;$end;$scope module in1 $end;$var wire 1 ! a $end;$upscope $end;$scope module in2 $end;$var wire 1 \" a $end;$upscope $end;$enddefinitions $end;#30;1!;" "a.vcd:6: time too large" 1
unfolding model
too_large_before_fault = refl

events_in_sections : outcome Want.Merge limit (codes "a.vcd" ∷ codes "b.vcd" ∷ [])
    (clean "$var event 1 ! e $end;$enddefinitions $end;#1;$dumpall;1!;$end;#1;x!;" ∷ clean "$timescale 1s $end;$var wire 3 ! v $end;$enddefinitions $end;#1;bZ !;b0x !;#1;" ∷ [])
    ≡ gives "$timescale;^1s;$end;$scope module in1 $end;$var event 1 ! e $end;$upscope $end;$scope module in2 $end;$var wire 3 \" v $end;$upscope $end;$enddefinitions $end;#1;1!;bz \";b0x \";" "" 0
unfolding model
events_in_sections = refl

missing_scale_beside_a_finer_one : outcome Want.Merge limit (codes "a.vcd" ∷ codes "b.vcd" ∷ [])
    (clean "$var wire 1 ! a $end;$enddefinitions $end;#1;1!;" ∷ clean "$timescale 100ms $end;$var wire 1 ! a $end;$enddefinitions $end;#3;0!;" ∷ [])
    ≡ gives "$timescale;^100ms;$end;$scope module in1 $end;$var wire 1 ! a $end;$upscope $end;$scope module in2 $end;$var wire 1 \" a $end;$upscope $end;$enddefinitions $end;#3;0\";#10;1!;" "" 0
unfolding model
missing_scale_beside_a_finer_one = refl

merge_has_no_date : outcome Want.Merge limit (codes "a.vcd" ∷ codes "b.vcd" ∷ [])
    (clean "$date d $end;$version v $end;$var wire 1 ! a $end;$enddefinitions $end;1!;" ∷ clean "$date e $end;$var wire 1 ! a $end;$enddefinitions $end;" ∷ [])
    ≡ gives "$timescale;^1s;$end;$scope module in1 $end;$var wire 1 ! a $end;$upscope $end;$scope module in2 $end;$var wire 1 \" a $end;$upscope $end;$enddefinitions $end;#0;1!;" "" 0
unfolding model
merge_has_no_date = refl

codes_after_aliases : outcome Want.Merge limit (codes "a.vcd" ∷ codes "b.vcd" ∷ [])
    (clean "$var wire 1 ! a $end;$var reg 1 ! b $end;$enddefinitions $end;1!;" ∷ clean "$var wire 1 ! a $end;$enddefinitions $end;#1;0!;" ∷ [])
    ≡ gives "$timescale;^1s;$end;$scope module in1 $end;$var wire 1 ! a $end;$var reg 1 ! b $end;$upscope $end;$scope module in2 $end;$var wire 1 \" a $end;$upscope $end;$enddefinitions $end;#0;1!;#1;0\";" "" 0
unfolding model
codes_after_aliases = refl

greatest_mark_is_not_the_last : outcome Want.Merge limit (codes "a.vcd" ∷ codes "b.vcd" ∷ [])
    (clean "$var wire 1 ! a $end;$enddefinitions $end;#5;1!;#6;" ∷ clean "$var wire 1 ! a $end;$enddefinitions $end;#9;" ∷ [])
    ≡ gives "$timescale;^1s;$end;$scope module in1 $end;$var wire 1 ! a $end;$upscope $end;$scope module in2 $end;$var wire 1 \" a $end;$upscope $end;$enddefinitions $end;#5;1!;#9;" "" 0
unfolding model
greatest_mark_is_not_the_last = refl

too_large_before_its_own_fault : outcome Want.Merge limit (codes "a.vcd" ∷ codes "b.vcd" ∷ [])
    (clean "$timescale 10s $end;$var wire 1 ! a $end;$enddefinitions $end;#1844674407370955162;1!;?;" ∷ clean "$var wire 1 ! a $end;$enddefinitions $end;" ∷ [])
    ≡ gives "$timescale;^1s;$end;$scope module in1 $end;$var wire 1 ! a $end;$upscope $end;$scope module in2 $end;$var wire 1 \" a $end;$upscope $end;$enddefinitions $end;" "a.vcd:4: time too large" 1
unfolding model
too_large_before_its_own_fault = refl

greatest_scaled_mark_closes : merged
    ("$timescale 10s $end;$var wire 1 ! a $end;$enddefinitions $end;1!;#3;" ∷ "$var wire 1 ! a $end;$enddefinitions $end;0!;#5;" ∷ [])
    ≡ gives "$timescale;^1s;$end;$scope module in1 $end;$var wire 1 ! a $end;$upscope $end;$scope module in2 $end;$var wire 1 \" a $end;$upscope $end;$enddefinitions $end;#0;1!;0\";#30;" "" 0
unfolding model
greatest_scaled_mark_closes = refl

greatest_mark_of_the_first : merged ("$var wire 1 ! a $end;$enddefinitions $end;1!;#9;" ∷ "$var wire 1 ! a $end;$enddefinitions $end;0!;#5;" ∷ [])
    ≡ gives "$timescale;^1s;$end;$scope module in1 $end;$var wire 1 ! a $end;$upscope $end;$scope module in2 $end;$var wire 1 \" a $end;$upscope $end;$enddefinitions $end;#0;1!;0\";#9;" "" 0
unfolding model
greatest_mark_of_the_first = refl

three_inputs_at_one_time : merged
    ("$var wire 1 ! a $end;$enddefinitions $end;1!;" ∷ "$var wire 1 ! a $end;$enddefinitions $end;0!;" ∷ "$var wire 1 ! a $end;$enddefinitions $end;x!;" ∷ [])
    ≡ gives "$timescale;^1s;$end;$scope module in1 $end;$var wire 1 ! a $end;$upscope $end;$scope module in2 $end;$var wire 1 \" a $end;$upscope $end;$scope module in3 $end;$var wire 1 # a $end;$upscope $end;$enddefinitions $end;#0;1!;0\";x#;" "" 0
unfolding model
three_inputs_at_one_time = refl

all_of_an_input_before_the_next : merged
    ("$var wire 1 ! a $end;$enddefinitions $end;#1;$dumpall;1!;0!;$end;x!;" ∷ "$var wire 1 ! a $end;$enddefinitions $end;#1;z!;" ∷ [])
    ≡ gives "$timescale;^1s;$end;$scope module in1 $end;$var wire 1 ! a $end;$upscope $end;$scope module in2 $end;$var wire 1 \" a $end;$upscope $end;$enddefinitions $end;#1;1!;0!;x!;z\";" "" 0
unfolding model
all_of_an_input_before_the_next = refl

-- a change of an earlier input is kept, at the very time of the fault
earlier_input_at_the_time_of_a_fault : merged
    ("$var wire 1 ! a $end;$enddefinitions $end;#5;1!;#9;" ∷ "$var wire 1 ! a $end;$enddefinitions $end;#5;?;" ∷ [])
    ≡ gives "$timescale;^1s;$end;$scope module in1 $end;$var wire 1 ! a $end;$upscope $end;$scope module in2 $end;$var wire 1 \" a $end;$upscope $end;$enddefinitions $end;#5;1!;" "b.vcd:4: unknown command" 1
unfolding model
earlier_input_at_the_time_of_a_fault = refl

second_file_has_a_fault : merged ("$var wire 1 ! a $end;$enddefinitions $end;" ∷ "$var wire 1 ! a $end;$enddefinitions $end;?;" ∷ [])
    ≡ gives "$timescale;^1s;$end;$scope module in1 $end;$var wire 1 ! a $end;$upscope $end;$scope module in2 $end;$var wire 1 \" a $end;$upscope $end;$enddefinitions $end;" "b.vcd:3: unknown command" 1
unfolding model
second_file_has_a_fault = refl

first_of_two_bad_headers : merged ("$upscope $end;" ∷ "#0;" ∷ []) ≡ gives "" "a.vcd:1: upscope without scope" 1
unfolding model
first_of_two_bad_headers = refl

-- of three inputs with scales of their own: at one time the earlier input comes first
three_inputs : merged
    ("$timescale 10s $end;$var wire 1 ! a $end;$enddefinitions $end;#2;1!;#3;0!;" ∷ "$var wire 2 ! b $end;$enddefinitions $end;#5;b1 !;#20;b10 !;" ∷ "$timescale 100s $end;$var wire 1 ! c $end;$enddefinitions $end;1!;" ∷ [])
    ≡ gives "$timescale;^1s;$end;$scope module in1 $end;$var wire 1 ! a $end;$upscope $end;$scope module in2 $end;$var wire 2 \" b $end;$upscope $end;$scope module in3 $end;$var wire 1 # c $end;$upscope $end;$enddefinitions $end;#0;1#;#5;b1 \";#20;1!;b10 \";#30;0!;" "" 0
unfolding model
three_inputs = refl

-- the fault of the second of three ends the run before what the third has at its time
fault_of_the_second_of_three : merged
    ("$var wire 1 ! a $end;$enddefinitions $end;#5;1!;" ∷ "$var wire 1 ! a $end;$enddefinitions $end;#5;0!;?;" ∷ "$var wire 1 ! a $end;$enddefinitions $end;#4;x!;#5;z!;" ∷ [])
    ≡ gives "$timescale;^1s;$end;$scope module in1 $end;$var wire 1 ! a $end;$upscope $end;$scope module in2 $end;$var wire 1 \" a $end;$upscope $end;$scope module in3 $end;$var wire 1 # a $end;$upscope $end;$enddefinitions $end;#4;x#;#5;1!;0\";" "b.vcd:5: unknown command" 1
unfolding model
fault_of_the_second_of_three = refl

-- ---- the number of declarations that is allowed

second_declaration : let stream = stream_of limit (clean "$var wire 4 ! v $end;$var wire 8 \" w $end;$enddefinitions $end;") in
    header_fault_of stream (read_header 1 stream) ≡ Some (record { number = 11; line = 2 })
unfolding model
second_declaration = refl

-- ---- short bodies

mark_behind_mark : on Want.Check "$timescale 1ns $end;$var wire 1 ! clk $end;$enddefinitions $end;#5;#4;" ≡ gives "" "(stdin):5: time goes back" 1
unfolding model
mark_behind_mark = refl

digit_alone : on Want.Check "$timescale 1ns $end;$var wire 1 ! clk $end;$enddefinitions $end;1;" ≡ gives "" "(stdin):4: bad value" 1
unfolding model
digit_alone = refl

digit_of_unknown_code : on Want.Check "$timescale 1ns $end;$var wire 1 ! clk $end;$enddefinitions $end;1?;" ≡ gives "" "(stdin):4: unknown code" 1
unfolding model
digit_of_unknown_code = refl

mark_without_digits : on Want.Check "$timescale 1ns $end;$var wire 1 ! clk $end;$enddefinitions $end;#x;" ≡ gives "" "(stdin):4: bad time" 1
unfolding model
mark_without_digits = refl

mark_of_no_digits : on Want.Check "$var wire 1 ! a $end;$enddefinitions $end;#;" ≡ gives "" "(stdin):3: bad time" 1
unfolding model
mark_of_no_digits = refl

vector_without_digits : on Want.Check "$var wire 1 ! a $end;$enddefinitions $end;b !;" ≡ gives "" "(stdin):3: bad value" 1
unfolding model
vector_without_digits = refl

other_digits_are_none : on Want.Check "$var wire 1 ! a $end;$enddefinitions $end;b1- !;" ≡ gives "" "(stdin):3: bad value" 1
unfolding model
other_digits_are_none = refl

other_bytes_begin_nothing : on Want.Check "$var wire 1 ! a $end;$enddefinitions $end;-!;" ≡ gives "" "(stdin):3: unknown command" 1
unfolding model
other_bytes_begin_nothing = refl

repeated_marks_count : on Want.Check "$var wire 1 ! a $end;$enddefinitions $end;#5;#5;1!;#5;" ≡ gives "scopes 0;variables 1;codes 1;times 3;sections 0;changes 1;last 5;" "" 0
unfolding model
repeated_marks_count = refl

capital_b_and_r : on (Want.Pick (codes "u" ∷ codes "r" ∷ []))
    "$var wire 1 ! a $end;$var real 1 \" r $end;$var event 1 # e $end;$var wire 2 % u $end;$enddefinitions $end;B10 %;R-1.5E3 \";"
    ≡ gives "$var real 1 \" r $end;$var wire 2 % u $end;$enddefinitions $end;#0;b10 %;r-1.5E3 \";" "" 0
unfolding model
capital_b_and_r = refl

real_of_an_event : on Want.Check "$var wire 1 ! a $end;$var real 1 \" r $end;$var event 1 # e $end;$var wire 2 % u $end;$enddefinitions $end;r1 #;r2 %;"
    ≡ gives "scopes 0;variables 4;codes 4;times 0;sections 0;changes 2;last -;" "" 0
unfolding model
real_of_an_event = refl

scalar_of_a_wide_code : on (sample (0 ∷ []) []) "$var wire 4 ! a $end;$var wire 3 \" b $end;$enddefinitions $end;x!;1\";" ≡ gives "0 a xxxx;0 b 001;" "" 0
unfolding model
scalar_of_a_wide_code = refl

largest_size : on Want.Check "$var wire 16777215 ! a $end;$enddefinitions $end;#0;1!;" ≡ gives "scopes 0;variables 1;codes 1;times 1;sections 0;changes 1;last 0;" "" 0
unfolding model
largest_size = refl

time_with_a_letter : asked Command.Check "$var wire 1 ! a $end;$enddefinitions $end;#1x;" ≡ gives "" "(stdin):3: bad time" 1
unfolding model
time_with_a_letter = refl

digits_of_nine_states : asked Command.Check "$var wire 1 ! a $end;$enddefinitions $end;u!;" ≡ gives "" "(stdin):3: unknown command" 1
unfolding model
digits_of_nine_states = refl

unknown_code_on_a_line_of_its_own : asked Command.Check "$var wire 1 ! a $end;$enddefinitions $end;b1;h;" ≡ gives "" "(stdin):4: unknown code" 1
unfolding model
unknown_code_on_a_line_of_its_own = refl

dumpvars_before_any_mark : asked Command.Check "$var wire 1 ! a $end;$enddefinitions $end;$dumpvars;0!;$end;" ≡ gives "scopes 0;variables 1;codes 1;times 0;sections 1;changes 1;last -;" "" 0
unfolding model
dumpvars_before_any_mark = refl

dumpvars_twice : asked Command.Check "$var wire 1 ! a $end;$enddefinitions $end;#0;$dumpvars;0!;$end;#1;$dumpvars;1!;$end;"
    ≡ gives "scopes 0;variables 1;codes 1;times 2;sections 2;changes 2;last 1;" "" 0
unfolding model
dumpvars_twice = refl

-- zeros in front count too
zeros_before_too_many_digits : asked Command.Check "$var wire 1 ! a $end;$enddefinitions $end;b01 !;" ≡ gives "" "(stdin):3: value too wide" 1
unfolding model
zeros_before_too_many_digits = refl

-- a failed read after the timestamp that ends the run
failed_behind_end : outcome (cut "0" "5") limit (codes "(stdin)" ∷ [])
    (record { bytes = written "$var wire 1 ! a $end;$var real 1 \" r $end;$var event 1 # e $end;$var wire 2 % u $end;$enddefinitions $end;1!;#0;0!;#9;"; mark = Mark.Failed } ∷ [])
    ≡ gives "$var wire 1 ! a $end;$var real 1 \" r $end;$var event 1 # e $end;$var wire 2 % u $end;$enddefinitions $end;#0;$dumpvars;$end;1!;0!;#5;" "" 0
unfolding model
failed_behind_end = refl
