-- `strobe`: worked rows. `;` stands for a line feed.
use Rattle.vcd_laws.proofs.Cited.{◌≡◌, ℕ, List, [], ◌∷◌, ◌++◌, codes, refl, true, false, String, Some, None, Mark, Outcome, Want, outcome}
use Rattle.vcd_laws.proofs.Computing.{model}
use Rattle.vcd_laws.proofs.RowText.{at, dump, limit, written}
use Rattle.vcd_model.specs.Strobe.{ClockName, strobe}

-- the rising edges of a variable, and its falling edges
abbrev rise_of : String → ClockName
rise_of path = record { word = codes path; path = codes path; place = None; falls = false }

abbrev fall_of : String → ClockName
fall_of path = record { word = codes path; path = codes path; place = None; falls = true }

-- the rising edges of what an argument names, which as PATH@PLACE has this path and this place
abbrev bit_of : String → String → ℕ → List ClockName
bit_of word path place = record { word = codes word; path = codes path; place = Some place; falls = false } ∷ []

-- the rising edges of t.c
abbrev rise : List ClockName
rise = rise_of "t.c" ∷ []

-- its falling edges
abbrev fall : List ClockName
fall = fall_of "t.c" ∷ []

-- what `strobe` gives for a dump on standard input
abbrev of : List ClockName → String → String → String → Outcome
of clocks name front body = strobe (record { clocks = clocks; names = codes name ∷ [] }) limit (codes "(stdin)") (dump front body)

-- an output of a head and a body, a message, and a status
abbrev gives : String → String → String → ℕ → Outcome
gives head body message status = record { output = written head ++ written body; message = written message; status = status }

-- a clock, its alias, a vector, an event, a real number and another clock
abbrev front : String
front = "$date today $end $timescale 1 ns $end $scope module t $end $var reg 1 ! c $end $var wire 1 ! also $end $var reg 4 \" q $end $var event 1 # e $end $var real 64 $ r $end $var reg 1 % d $end $upscope $end $enddefinitions $end;"

-- what a head has for one name
abbrev q_head : String
q_head = "$scope module strobe $end;$var time 64 !! time $end;$upscope $end;$scope module t $end;$var reg 4 \" q $end;$upscope $end;$enddefinitions $end;"

abbrev e_head : String
e_head = "$scope module strobe $end;$var time 64 !! time $end;$upscope $end;$scope module t $end;$var event 1 # e $end;$upscope $end;$enddefinitions $end;"

abbrev r_head : String
r_head = "$scope module strobe $end;$var time 64 !! time $end;$upscope $end;$scope module t $end;$var real 64 $ r $end;$upscope $end;$enddefinitions $end;"

abbrev c_head : String
c_head = "$scope module strobe $end;$var time 64 !! time $end;$upscope $end;$scope module t $end;$var reg 1 ! c $end;$upscope $end;$enddefinitions $end;"

-- t.q at the rising edges of t.c
abbrev q : String → Outcome
q body = of rise "t.q" front body

abbrev q_gives : String → Outcome
q_gives body = gives q_head body "" 0

-- the value that a flip-flop takes: that before the edge, although the new one has the same time
plain : q "#0;$dumpvars;0!;b0 \";$end;#5;1!;b1 \";#10;0!;#15;1!;" ≡ q_gives "#1;b101 !!;b0 \";#2;b1111 !!;b1 \";"
unfolding model
plain = refl

-- no order within a time matters
before_the_clock : q "#0;0!;b0 \";#5;b1 \";1!;#10;0!;#15;b10 \";1!;" ≡ q_gives "#1;b101 !!;b0 \";#2;b1111 !!;b1 \";"
unfolding model
before_the_clock = refl

-- neither does a timestamp that is there twice
twice : q "#0;0!;b0 \";#5;b1 \";#5;1!;#5;b10 \";" ≡ q_gives "#1;b101 !!;b0 \";"
unfolding model
twice = refl

-- an edge is from 0 to 1 only
from_x : q "#0;x!;b0 \";#5;1!;#10;0!;#15;x!;#20;1!;#25;z!;#30;0!;#35;1!;" ≡ q_gives "#1;b100011 !!;b0 \";"
unfolding model
from_x = refl

-- no edge without a value before it
first_value : q "#0;1!;b0 \";#5;1!;" ≡ gives q_head "" "(stdin): no edge" 1
unfolding model
first_value = refl

-- a clock that is written as a vector
as_vector : q "#0;b0 !;b0 \";#5;b1 !;" ≡ q_gives "#1;b101 !!;b0 \";"
unfolding model
as_vector = refl

-- a glitch of the clock is an edge, and two in one time are one
clock_glitch : q "#0;0!;b0 \";#5;1!;b1 \";0!;1!;0!;#7;1!;" ≡ q_gives "#1;b101 !!;b0 \";#2;b111 !!;b1 \";"
unfolding model
clock_glitch = refl

-- a glitch of a value between two edges leaves no line, nor does one within a time
glitch : q "#0;0!;b1 \";#5;1!;#6;0!;b10 \";#7;b1 \";#8;b11 \";b1 \";#10;1!;" ≡ q_gives "#1;b101 !!;b1 \";#2;b1010 !!;"
unfolding model
glitch = refl

-- equal values of different texts are the same
widths : q "#0;0!;b1 \";#5;1!;#6;0!;b0001 \";#10;1!;#11;0!;bX \";#15;1!;#16;0!;bxxx \";#20;1!;" ≡ q_gives "#1;b101 !!;b1 \";#2;b1010 !!;#3;b1111 !!;bx \";#4;b10100 !!;"
unfolding model
widths = refl

-- at the first time the values of a `$dumpvars` are from before, others are not
at_start : q "#0;$dumpvars;0!;b1 \";$end;1!;b10 \";" ≡ q_gives "#1;b0 !!;b1 \";"
unfolding model
at_start = refl

without_section : q "#0;0!;b1 \";1!;#3;0!;#5;1!;" ≡ q_gives "#1;b0 !!;#2;b101 !!;b1 \";"
unfolding model
without_section = refl

-- a `$dumpvars` gives only first values from before its time, and only before the edge
later_section : q "#0;0!;b1 \";#5;$dumpvars;b10 \";$end;1!;" ≡ q_gives "#1;b101 !!;b1 \";"
unfolding model
later_section = refl

late_section : q "#0;0!;#5;1!;$dumpvars;b10 \";$end;#6;0!;#7;1!;" ≡ q_gives "#1;b101 !!;#2;b111 !!;b10 \";"
unfolding model
late_section = refl

-- the first value comes after the first edge
late : q "#0;0!;#5;1!;#6;0!;b1 \";#7;1!;" ≡ q_gives "#1;b101 !!;#2;b111 !!;b1 \";"
unfolding model
late = refl

-- falling edges, and both
falling : of fall "t.q" front "#0;0!;b0 \";#5;1!;#10;0!;b1 \";#15;1!;" ≡ q_gives "#1;b1010 !!;b0 \";"
unfolding model
falling = refl

both : of (rise_of "t.c" ∷ fall_of "t.c" ∷ []) "t.q" front "#0;0!;b0 \";#5;1!;b1 \";#10;0!;#15;1!;" ≡ q_gives "#1;b101 !!;b0 \";#2;b1010 !!;b1 \";#3;b1111 !!;"
unfolding model
both = refl

-- two clocks: edges at one time are one
two_clocks : of (rise_of "t.c" ∷ rise_of "t.d" ∷ []) "t.q" front "#0;0!;0%;b0 \";#5;1!;b1 \";1%;#7;0%;#8;1%;" ≡ q_gives "#1;b101 !!;b0 \";#2;b1000 !!;b1 \";"
unfolding model
two_clocks = refl

-- a bit of a vector: from 0 to 1 only, the digits on the left extended, whatever the others do
one_bit : of (bit_of "t.q@2" "t.q" 2) "t.q" front "#0;b1 \";#5;b100 \";#10;b111 \";#15;bx \";#20;b100 \";#25;b0 \";#30;b1100 \";" ≡ gives q_head "#1;b101 !!;b1 \";#2;b11110 !!;b0 \";" "" 0
unfolding model
one_bit = refl

extended_bit : of (bit_of "t.q@3" "t.q" 3) "t.q" front "#0;bz1 \";#5;b1 \";#10;b1000 \";#15;bx \";" ≡ gives q_head "#1;b1010 !!;b1 \";" "" 0
unfolding model
extended_bit = refl

-- a variable of one bit has one place
only_bit : of (bit_of "t.c@0" "t.c" 0) "t.q" front "#0;0!;b1 \";#5;1!;" ≡ q_gives "#1;b101 !!;b1 \";"
unfolding model
only_bit = refl

-- no place of a bit is beyond the size
no_such_bit : of (bit_of "t.q@4" "t.q" 4) "t.q" front "#0;" ≡ gives "" "" "t.q@4: the highest place is 3" 2
unfolding model
no_such_bit = refl

no_second_bit : of (bit_of "t.c@1" "t.c" 1) "t.q" front "#0;" ≡ gives "" "" "t.c@1: the highest place is 0" 2
unfolding model
no_second_bit = refl

-- an alias is the same clock
alias : of (rise_of "t.also" ∷ []) "t.q" front "#0;0!;b0 \";#5;1!;" ≡ q_gives "#1;b101 !!;b0 \";"
unfolding model
alias = refl

-- a gated clock has no edges for a while
gated : q "#0;0!;b0 \";#5;1!;#6;0!;b1 \";#100;b10 \";#105;1!;#106;0!;" ≡ q_gives "#1;b101 !!;b0 \";#2;b1101001 !!;b10 \";"
unfolding model
gated = refl

-- the clock itself
itself : of rise "t.c" front "#0;0!;#5;1!;#10;0!;#15;1!;" ≡ gives c_head "#1;b101 !!;0!;#2;b1111 !!;" "" 0
unfolding model
itself = refl

-- no edge at all, no item at all
no_edge : q "#0;0!;b0 \";#5;b1 \";#10;" ≡ gives q_head "" "(stdin): no edge" 1
unfolding model
no_edge = refl

no_item : q "" ≡ gives q_head "" "(stdin): no edge" 1
unfolding model
no_item = refl

-- one of two clocks has an edge
edge_of_one : of (rise_of "t.c" ∷ rise_of "t.d" ∷ []) "t.q" front "#0;0!;0%;b1 \";#5;1%;" ≡ q_gives "#1;b101 !!;b1 \";"
unfolding model
edge_of_one = refl

-- before a fault nobody knows whether there is an edge
fault_first : q "#0;0!;?" ≡ gives q_head "" "(stdin):4: unknown command" 2
unfolding model
fault_first = refl

-- `$dumpoff` gives x: what `$dumpon` gives then is no edge
off : q "#0;0!;b0 \";#5;1!;#10;$dumpoff;x!;bx \";$end;#20;$dumpon;1!;b1 \";$end;#25;0!;#30;1!;" ≡ q_gives "#1;b101 !!;b0 \";#2;b11110 !!;b1 \";"
unfolding model
off = refl

-- an event shows at the next edge, one of the edge's time at the one after that
events : of rise "t.e" front "#0;0!;#2;1#;#3;1#;#5;1#;1!;1#;#10;0!;#15;1!;#20;0!;#25;1!;" ≡ gives e_head "#1;b101 !!;1#;#2;b1111 !!;1#;#3;b11001 !!;" "" 0
unfolding model
events = refl

-- in a section it is not triggered
event_inside : of rise "t.e" front "#0;$dumpvars;0!;1#;$end;#5;1!;#6;$dumpall;1#;$end;0!;#9;1!;" ≡ gives e_head "#1;b101 !!;#2;b1001 !!;" "" 0
unfolding model
event_inside = refl

-- real numbers: other texts are other values
reals : of rise "t.r" front "#0;0!;r1.5 $;#5;1!;#6;0!;r1.50 $;#7;1!;#8;0!;r1.50 $;#9;1!;" ≡ gives r_head "#1;b101 !!;r1.5 $;#2;b111 !!;r1.50 $;#3;b1001 !!;" "" 0
unfolding model
reals = refl

-- a fault: the edges before it are there, also one of its time
fault : q "#0;0!;b1 \";#5;1!;?" ≡ gives q_head "#1;b101 !!;b1 \";" "(stdin):7: unknown command" 2
unfolding model
fault = refl

-- a dump that was cut off
cut_off : q "#0;0!;b1 \";#5;1!;#6;b1" ≡ gives q_head "#1;b101 !!;b1 \";" "(stdin):8: unexpected end of input" 2
unfolding model
cut_off = refl

-- the greatest time, and one that is too large
greatest : q "#0;0!;b1 \";#18446744073709551615;1!;#18446744073709551616;" ≡ gives q_head "#1;b1111111111111111111111111111111111111111111111111111111111111111 !!;b1 \";" "(stdin):7: bad time" 2
unfolding model
greatest = refl

-- no clock: of several bits, an event, a real number, of no such name, a scope
wide : of (rise_of "t.q" ∷ []) "t.q" front "#0;" ≡ gives "" "" "t.q: it has 4 bits: write PATH@PLACE" 2
unfolding model
wide = refl

event : of (rise_of "t.e" ∷ []) "t.q" front "#0;" ≡ gives "" "" "t.e: it is an event" 2
unfolding model
event = refl

real : of (rise_of "t.r" ∷ []) "t.q" front "#0;" ≡ gives "" "" "t.r: it is a real number" 2
unfolding model
real = refl

real_bit : of (bit_of "t.r@0" "t.r" 0) "t.q" front "#0;" ≡ gives "" "" "t.r@0: it is a real number" 2
unfolding model
real_bit = refl

missing : of (rise_of "t.x" ∷ []) "t.q" front "#0;" ≡ gives "" "" "t.x: no such variable" 2
unfolding model
missing = refl

missing_bit : of (bit_of "t.x@0" "t.x" 0) "t.q" front "#0;" ≡ gives "" "" "t.x@0: no such variable" 2
unfolding model
missing_bit = refl

scope : of (rise_of "t" ∷ []) "t.q" front "#0;" ≡ gives "" "" "t: no such variable" 2
unfolding model
scope = refl

-- the second of two clocks
second : of (rise_of "t.c" ∷ fall_of "t.q" ∷ []) "t.q" front "#0;" ≡ gives "" "" "t.q: it has 4 bits: write PATH@PLACE" 2
unfolding model
second = refl

-- a name that selects nothing is refused after the clocks
unselected : of rise "t.z" front "#0;" ≡ gives "" "" "t.z: selects nothing" 2
unfolding model
unselected = refl

clock_first : of (rise_of "t.q" ∷ []) "t.z" front "#0;" ≡ gives "" "" "t.q: it has 4 bits: write PATH@PLACE" 2
unfolding model
clock_first = refl

-- a variable with the name of a scope; one with an `@` in its name, beside one without; two of one
-- path and one code, and two of one path and different codes; a real number of one bit
abbrev odd : String
odd = "$scope module c $end $var wire 1 % d $end $upscope $end $var wire 1 ! c $end $var wire 1 # v@0 $end $var wire 2 \" v $end $var wire 1 ! a $end $var wire 1 ! a $end $var wire 1 & b [0] $end $var wire 1 ' b [1] $end $var real 1 ( r $end $var wire 8 ) w@0 $end $var wire 1 * w $end $enddefinitions $end;"

abbrev v_head : String
v_head = "$scope module strobe $end;$var time 64 !! time $end;$upscope $end;$var wire 2 \" v $end;$enddefinitions $end;"

abbrev v_at : List ClockName → Outcome
v_at clocks = of clocks "v" odd "#0;0!;0#;b0 \";#1;1!;#2;1#;#3;b11 \";"

named_as_a_scope : v_at (rise_of "c" ∷ []) ≡ gives v_head "#1;b1 !!;b0 \";" "" 0
unfolding model
named_as_a_scope = refl

-- the whole argument comes first
whole_argument : v_at (bit_of "v@0" "v" 0) ≡ gives v_head "#1;b10 !!;b0 \";" "" 0
unfolding model
whole_argument = refl

then_the_place : v_at (bit_of "v@1" "v" 1) ≡ gives v_head "#1;b11 !!;b0 \";" "" 0
unfolding model
then_the_place = refl

last_place : v_at (bit_of "v@0@0" "v@0" 0) ≡ gives v_head "#1;b10 !!;b0 \";" "" 0
unfolding model
last_place = refl

wide_argument : v_at (bit_of "w@0" "w" 0) ≡ gives "" "" "w@0: it has 8 bits: write PATH@PLACE" 2
unfolding model
wide_argument = refl

same_twice : v_at (rise_of "a" ∷ []) ≡ gives v_head "#1;b1 !!;b0 \";" "" 0
unfolding model
same_twice = refl

several : v_at (rise_of "b" ∷ []) ≡ gives "" "" "b: several variables have this path" 2
unfolding model
several = refl

real_of_one_bit : v_at (rise_of "r" ∷ []) ≡ gives "" "" "r: it is a real number" 2
unfolding model
real_of_one_bit = refl

-- a window by time is a cut: an edge at its first time has the values from before it
window : strobe (record { clocks = rise; names = codes "t.q" ∷ [] }) limit (codes "(stdin)")
    (record { bytes = (outcome (Want.Cut (at 5) (at 10)) limit (codes "(stdin)" ∷ []) (dump front "#0;0!;b0 \";#3;b1 \";#5;1!;b10 \";#7;0!;#9;1!;#11;0!;#12;1!;" ∷ [])).output; mark = Mark.Clean })
    ≡ q_gives "#1;b101 !!;b1 \";#2;b1001 !!;b10 \";"
unfolding model
window = refl
