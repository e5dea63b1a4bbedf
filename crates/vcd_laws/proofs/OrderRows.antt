-- Rows on the order of checks, on ends of input and on reports, computed.
use Rattle.vcd_laws.proofs.Cited.{◌≡◌, ℕ, List, [], ◌∷◌, length, map, codes, Some, None, Err, refl, Input, Mark, stream_of, Declaration, Header, Fault, read_header, header_fault_of, Want, outcome, Command, allowed_after}
use Rattle.vcd_laws.proofs.Computing.{model}
use Rattle.vcd_model.specs.Outcome.{open_from}
use Rattle.vcd_laws.proofs.RowText.{written, clean, limit, on, gives, cut, sample, asked}

-- ---- of two checks that fail the first counts

bad_time_in_section : on Want.Check "$var wire 1 ! a $end;$enddefinitions $end;#1;$dumpall;#x;" ≡ gives "" "(stdin):5: bad time" 1
unfolding model
bad_time_in_section = refl

earlier_time_in_section : on Want.Check "$var wire 1 ! a $end;$enddefinitions $end;#5;$dumpall;#4;" ≡ gives "" "(stdin):5: time inside a section" 1
unfolding model
earlier_time_in_section = refl

earlier_time_out_of_range : on Want.Check "$var wire 1 ! a $end;$enddefinitions $end;#5;#18446744073709551616;" ≡ gives "" "(stdin):4: bad time" 1
unfolding model
earlier_time_out_of_range = refl

bad_digits_of_unknown_code : on Want.Check "$var wire 1 ! a $end;$enddefinitions $end;b12 ?;" ≡ gives "" "(stdin):3: bad value" 1
unfolding model
bad_digits_of_unknown_code = refl

-- the code is asked for on its own line
too_many_digits_of_unknown_code : on Want.Check "$var wire 1 ! a $end;$enddefinitions $end;b10;?;" ≡ gives "" "(stdin):4: unknown code" 1
unfolding model
too_many_digits_of_unknown_code = refl

too_many_digits : on Want.Check "$var wire 1 ! a $end;$enddefinitions $end;b10;!;" ≡ gives "" "(stdin):4: value too wide" 1
unfolding model
too_many_digits = refl

-- an event takes any digits, and every other code a real text
too_many_digits_of_event : on Want.Check "$var wire 1 ! a $end;$var real 1 \" r $end;$var event 1 # e $end;$var wire 2 % u $end;$enddefinitions $end;b10 #;r1 !;"
    ≡ gives "scopes 0;variables 4;codes 4;times 0;sections 0;changes 2;last -;" "" 0
unfolding model
too_many_digits_of_event = refl

long_real_of_unknown_code : on Want.Check "$var wire 1 ! a $end;$enddefinitions $end;r11111111111111111111111111111111111111111111111111111111111111111 ?;"
    ≡ gives "" "(stdin):3: real text too long" 1
unfolding model
long_real_of_unknown_code = refl

longest_real_of_unknown_code : on Want.Check "$var wire 1 ! a $end;$enddefinitions $end;r1111111111111111111111111111111111111111111111111111111111111111;?;" ≡ gives "" "(stdin):4: unknown code" 1
unfolding model
longest_real_of_unknown_code = refl

bad_size_before_code : on Want.Check "$var wire 1;!;a $end;$var reg 0;!;a $end;" ≡ gives "" "(stdin):4: bad variable" 1
unfolding model
bad_size_before_code = refl

-- at the code, before the missing reference
size_differs_at_code : on Want.Check "$var wire 1;!;a $end;$var reg 2;!;$end;" ≡ gives "" "(stdin):5: code declared with another size or kind" 1
unfolding model
size_differs_at_code = refl

missing_reference : on Want.Check "$var wire 1;!;a $end;$var reg 1;!;$end;" ≡ gives "" "(stdin):6: bad variable" 1
unfolding model
missing_reference = refl

same_code_again : on Want.Check "$var wire 4 ! a $end;$var reg 04 ! b $end;$enddefinitions $end;" ≡ gives "scopes 0;variables 2;codes 1;times 0;sections 0;changes 0;last -;" "" 0
unfolding model
same_code_again = refl

type_that_is_end : on Want.Check "$var $end;" ≡ gives "" "(stdin):1: bad variable" 1
unfolding model
type_that_is_end = refl

scope_type_that_is_end : on Want.Check "$scope $end;" ≡ gives "" "(stdin):1: bad scope" 1
unfolding model
scope_type_that_is_end = refl

upscope_with_name : on Want.Check "$scope module s $end;$upscope s $end;" ≡ gives "" "(stdin):2: bad scope" 1
unfolding model
upscope_with_name = refl

definitions_with_name : on Want.Check "$enddefinitions now $end;" ≡ gives "" "(stdin):1: command out of place" 1
unfolding model
definitions_with_name = refl

-- ---- where an input ends

end_in_section : on Want.Check "$var wire 1 ! a $end;$enddefinitions $end;#0;$dumpvars;0!;" ≡ gives "" "(stdin):6: unexpected end of input" 1
unfolding model
end_in_section = refl

end_in_comment : on Want.Check "$var wire 1 ! a $end;$enddefinitions $end;$comment;;;" ≡ gives "" "(stdin):6: unexpected end of input" 1
unfolding model
end_in_comment = refl

end_behind_value : on Want.Check "$var wire 1 ! a $end;$enddefinitions $end;b1" ≡ gives "" "(stdin):3: unexpected end of input" 1
unfolding model
end_behind_value = refl

end_in_header : on Want.Check "$var wire 1 ! a $end;" ≡ gives "" "(stdin):2: unexpected end of input" 1
unfolding model
end_in_header = refl

end_behind_comment : on Want.Check "$var wire 1 ! a $end;$enddefinitions $end;#3;$comment #2 1? $dumpvars $end" ≡ gives "scopes 0;variables 1;codes 1;times 1;sections 0;changes 0;last 3;" "" 0
unfolding model
end_behind_comment = refl

comment_in_section : on Want.Check "$var wire 1 ! a $end;$enddefinitions $end;$dumpoff $comment $dumpon $end x! $end" ≡ gives "scopes 0;variables 1;codes 1;times 0;sections 1;changes 1;last -;" "" 0
unfolding model
comment_in_section = refl

section_in_section : on Want.Check "$var wire 1 ! a $end;$enddefinitions $end;$dumpoff;$dumpon;" ≡ gives "" "(stdin):4: command out of place" 1
unfolding model
section_in_section = refl

dumpall_in_a_section : on Want.Check "$var wire 1 ! a $end;$enddefinitions $end;$dumpon;$dumpall;" ≡ gives "" "(stdin):4: command out of place" 1
unfolding model
dumpall_in_a_section = refl

dumpoff_in_a_section : on Want.Check "$var wire 1 ! a $end;$enddefinitions $end;$dumpon;$dumpoff;" ≡ gives "" "(stdin):4: command out of place" 1
unfolding model
dumpoff_in_a_section = refl

dumpvars_in_a_section : on Want.Check "$var wire 1 ! a $end;$enddefinitions $end;$dumpon;$dumpvars;" ≡ gives "" "(stdin):4: command out of place" 1
unfolding model
dumpvars_in_a_section = refl

dumpon_in_a_section : on Want.Check "$var wire 1 ! a $end;$enddefinitions $end;$dumpon;$dumpon;" ≡ gives "" "(stdin):4: command out of place" 1
unfolding model
dumpon_in_a_section = refl

-- ---- tokens where a phrase begins

real_in_header : on Want.Check "r1;" ≡ gives "" "(stdin):1: command out of place" 1
unfolding model
real_in_header = refl

section_in_header : on Want.Check "$dumpvars;" ≡ gives "" "(stdin):1: command out of place" 1
unfolding model
section_in_header = refl

upper_case_in_a_header : on Want.Check "X!;" ≡ gives "" "(stdin):1: command out of place" 1
unfolding model
upper_case_in_a_header = refl

end_in_place_of_a_command : on Want.Check "$end;" ≡ gives "" "(stdin):1: command out of place" 1
unfolding model
end_in_place_of_a_command = refl

dumpports_in_header : on Want.Check "$dumpports $comment ! $enddefinitions;$end;$enddefinitions $end;" ≡ gives "scopes 0;variables 0;codes 0;times 0;sections 0;changes 0;last -;" "" 0
unfolding model
dumpports_in_header = refl

upper_case_end : on Want.Check "$comment $End;$enddefinitions $end;" ≡ gives "" "(stdin):3: unexpected end of input" 1
unfolding model
upper_case_end = refl

comment_in_body_of_nothing : on Want.Check "$enddefinitions $end;$comment $end;$date;" ≡ gives "" "(stdin):3: command out of place" 1
unfolding model
comment_in_body_of_nothing = refl

dumpports_in_body : on Want.Check "$var wire 1 ! a $end;$enddefinitions $end;$dumpports;" ≡ gives "" "(stdin):3: unknown command" 1
unfolding model
dumpports_in_body = refl

date_in_body : on Want.Check "$var wire 1 ! a $end;$enddefinitions $end;$date $end;" ≡ gives "" "(stdin):3: command out of place" 1
unfolding model
date_in_body = refl

enddefinitions_in_body : on Want.Check "$var wire 1 ! a $end;$enddefinitions $end;$enddefinitions $end;" ≡ gives "" "(stdin):3: command out of place" 1
unfolding model
enddefinitions_in_body = refl

scope_in_body : on Want.Check "$var wire 1 ! a $end;$enddefinitions $end;$scope $end;" ≡ gives "" "(stdin):3: command out of place" 1
unfolding model
scope_in_body = refl

timescale_in_body : on Want.Check "$var wire 1 ! a $end;$enddefinitions $end;$timescale $end;" ≡ gives "" "(stdin):3: command out of place" 1
unfolding model
timescale_in_body = refl

upscope_in_body : on Want.Check "$var wire 1 ! a $end;$enddefinitions $end;$upscope $end;" ≡ gives "" "(stdin):3: command out of place" 1
unfolding model
upscope_in_body = refl

version_in_body : on Want.Check "$var wire 1 ! a $end;$enddefinitions $end;$version $end;" ≡ gives "" "(stdin):3: command out of place" 1
unfolding model
version_in_body = refl

-- ---- reports

-- digits and a real text always differ, and real texts if their bytes do
digits_and_reals : on (Want.Edges []) "$var wire 1 ! a $end;$enddefinitions $end;0!;r1 !;1!;r1 !;r1.0 !;" ≡ gives "a 4 0 0;" "" 0
unfolding model
digits_and_reals = refl

reals_by_their_bytes : on
    (Want.Edges (codes "r" ∷ []))
    "$var wire 1 ! a $end;$var real 1 \" r $end;$var event 1 # e $end;$var wire 2 % u $end;$enddefinitions $end;rNaN \";rnan \";rnan \";"
    ≡ gives "r 1 0 0;" "" 0
unfolding model
reals_by_their_bytes = refl

edges_of_extended_digits : on (Want.Edges []) "$var wire 4 ! a $end;$enddefinitions $end;b0001 !;b1 !;bx !;bxX !;1!;" ≡ gives "a 2 0 0;" "" 0
unfolding model
edges_of_extended_digits = refl

event_before_any_mark : on
    (Want.Edges (codes "e" ∷ []))
    "$var wire 1 ! a $end;$var real 1 \" r $end;$var event 1 # e $end;$var wire 2 % u $end;$enddefinitions $end;1#;#0;1#;#2;x#;"
    ≡ gives "e 3 0 0;" "" 0
unfolding model
event_before_any_mark = refl

aliases : on (sample (1 ∷ []) []) "$var wire 2 ! a $end;$var event 1 # e $end;$var reg 2 ! b $end;$enddefinitions $end;#1;bX !;" ≡ gives "1 a xx;1 b xx;" "" 0
unfolding model
aliases = refl

-- a name that selects only events is no fault
event_alone : on (sample (1 ∷ 2 ∷ []) (codes "e" ∷ [])) "$var wire 1 ! a $end;$var real 1 \" r $end;$var event 1 # e $end;$var wire 2 % u $end;$enddefinitions $end;#1;1#;" ≡ gives "" "" 0
unfolding model
event_alone = refl

second_time_at_end : on (sample (1 ∷ 5 ∷ []) (codes "a" ∷ []))
    "$var wire 1 ! a $end;$var real 1 \" r $end;$var event 1 # e $end;$var wire 2 % u $end;$enddefinitions $end;#1;0!;#4;1!;#5;"
    ≡ gives "1 a 0;5 a 1;" "" 0
unfolding model
second_time_at_end = refl

times_before_variables : on
    (sample (7 ∷ 8 ∷ []) []) "$var wire 1 ! a $end;$var real 1 \" r $end;$var event 1 # e $end;$var wire 2 % u $end;$enddefinitions $end;#3;0!;bx %;"
    ≡ gives "7 a 0;7 r -;7 u xx;8 a 0;8 r -;8 u xx;" "" 0
unfolding model
times_before_variables = refl

values_of_sections : asked (Command.Sample (codes "1") []) "$var wire 1 ! a $end;$enddefinitions $end;#0;$dumpvars;0!;$end;#1;$dumpoff;x!;$end;" ≡ gives "1 a x;" "" 0
unfolding model
values_of_sections = refl

-- a scope that was left open is closed
names_that_overlap : on (Want.Pick (codes "t.u" ∷ codes "t" ∷ []))
    "$scope m t $end;$scope m u $end;$var wire 1 ! a $end;$upscope $end;$enddefinitions $end;"
    ≡ gives "$scope m t $end;$scope m u $end;$var wire 1 ! a $end;$upscope $end;$upscope $end;$enddefinitions $end;" "" 0
unfolding model
names_that_overlap = refl

-- a change before any timestamp has time 0, and with no timestamp there is no closing line
no_marks : on (Want.Pick (codes "a" ∷ [])) "$var wire 1 ! a $end;$enddefinitions $end;1!;" ≡ gives "$var wire 1 ! a $end;$enddefinitions $end;#0;1!;" "" 0
unfolding model
no_marks = refl

marks_without_changes : on (Want.Pick (codes "a" ∷ [])) "$var wire 1 ! a $end;$enddefinitions $end;#2;#7;#7;" ≡ gives "$var wire 1 ! a $end;$enddefinitions $end;#7;" "" 0
unfolding model
marks_without_changes = refl

sections_as_they_were : on
    (Want.Pick (codes "a" ∷ [])) "$var wire 1 ! a $end;$enddefinitions $end;#1;$dumpvars;0!;$end;$dumpoff;x!;$end;$dumpon;1!;$end;$dumpall;$end;"
    ≡ gives "$var wire 1 ! a $end;$enddefinitions $end;#1;$dumpvars;0!;$end;$dumpoff;x!;$end;$dumpon;1!;$end;$dumpall;$end;" "" 0
unfolding model
sections_as_they_were = refl

cut_closes_above_start : on (cut "0" "9") "$var wire 1 ! a $end;$enddefinitions $end;1!;#0;" ≡ gives "$var wire 1 ! a $end;$enddefinitions $end;#0;$dumpvars;$end;1!;" "" 0
unfolding model
cut_closes_above_start = refl

cut_of_early_items : on (cut "5" "9") "$var wire 1 ! a $end;$enddefinitions $end;1!;#2;x!;" ≡ gives "$var wire 1 ! a $end;$enddefinitions $end;#5;$dumpvars;x!;$end;" "" 0
unfolding model
cut_of_early_items = refl

-- ---- several inputs

-- headers are read first: a fault in a later one counts before a fault in an earlier body
later_header : outcome Want.Merge limit (codes "a.vcd" ∷ codes "b.vcd" ∷ [])
    (clean "$var wire 1 ! a $end;$enddefinitions $end;?;" ∷ clean "$upscope $end;" ∷ []) ≡ gives "" "b.vcd:1: upscope without scope" 1
unfolding model
later_header = refl

-- the greatest timestamp closes, also if it is of an input without changes
greatest_mark_closes : outcome Want.Merge limit (codes "a.vcd" ∷ codes "b.vcd" ∷ [])
    (clean "$timescale 1us $end;$var wire 1 ! a $end;$enddefinitions $end;#1;1!;" ∷ clean "$timescale 10ns $end;$var wire 1 ! a $end;$enddefinitions $end;#3;#250;" ∷ [])
    ≡ gives "$timescale;^10ns;$end;$scope module in1 $end;$var wire 1 ! a $end;$upscope $end;$scope module in2 $end;$var wire 1 \" a $end;$upscope $end;$enddefinitions $end;#100;1!;#250;" "" 0
unfolding model
greatest_mark_closes = refl

-- a time that is too large ends an input that is alone
too_large_alone : outcome Want.Merge limit (codes "a.vcd" ∷ codes "b.vcd" ∷ [])
    (clean "$timescale 100s $end;$var wire 1 ! a $end;$enddefinitions $end;1!;#184467440737095516;0!;#184467440737095517;" ∷ clean "$var wire 1 ! a $end;$enddefinitions $end;#18446744073709551615;1!;" ∷ [])
    ≡ gives "$timescale;^1s;$end;$scope module in1 $end;$var wire 1 ! a $end;$upscope $end;$scope module in2 $end;$var wire 1 \" a $end;$upscope $end;$enddefinitions $end;#0;1!;#18446744073709551600;0!;" "a.vcd:7: time too large" 1
unfolding model
too_large_alone = refl

-- a fault ends a merge at its position; items of a later input at the same time come after it
failed_read_waits_in_a_merge : outcome Want.Merge limit (codes "a.vcd" ∷ codes "b.vcd" ∷ [])
    (clean "$var wire 1 ! a $end;$enddefinitions $end;#1;1!;#3;0!;#9;1!;" ∷ record { bytes = written "$var wire 1 ! a $end;$enddefinitions $end;#2;0!;#5;"; mark = Mark.Failed } ∷ [])
    ≡ gives "$timescale;^1s;$end;$scope module in1 $end;$var wire 1 ! a $end;$upscope $end;$scope module in2 $end;$var wire 1 \" a $end;$upscope $end;$enddefinitions $end;#1;1!;#2;0\";#3;0!;" "b.vcd: read failed" 3
unfolding model
failed_read_waits_in_a_merge = refl

fault_before_a_later_input : outcome Want.Merge limit (codes "a.vcd" ∷ codes "b.vcd" ∷ [])
    (clean "$var wire 1 ! a $end;$enddefinitions $end;#5;?;" ∷ clean "$var wire 1 ! a $end;$enddefinitions $end;#4;0!;#5;1!;" ∷ [])
    ≡ gives "$timescale;^1s;$end;$scope module in1 $end;$var wire 1 ! a $end;$upscope $end;$scope module in2 $end;$var wire 1 \" a $end;$upscope $end;$enddefinitions $end;#4;0\";" "a.vcd:4: unknown command" 1
unfolding model
fault_before_a_later_input = refl

-- a header with four declarations
abbrev four : Header
four = record {
  declarations = Declaration.Scope (codes "m") (codes "s") ∷ Declaration.Up ∷ Declaration.Scope (codes "m")
      (codes "s") ∷ Declaration.Up ∷ [];
  codes = [];
  date = [];
  version = [];
  scale = None;
}

-- the declarations of earlier inputs count, a file that is named twice twice
declarations_left : map allowed_after ([] ∷ (four ∷ []) ∷ (four ∷ four ∷ []) ∷ []) ≡ 16777216 ∷ 16777212 ∷ 16777208 ∷ []
unfolding model
declarations_left = refl

-- what earlier inputs leave limits the next one
next_header : (limit : ℕ) (earlier : List Header) (i : Input) (f : Fault)
    → header_fault_of (stream_of limit i) (read_header (allowed_after earlier) (stream_of limit i)) ≡ Some f
    → open_from limit earlier (i ∷ []) ≡ Err (length earlier, f)
unfolding open_from
next_header limit earlier i f e = rw (open_from, e) refl
