-- Two dumps compared: worked rows. `;` stands for a line feed.
use Rattle.vcd_laws.proofs.Cited.{◌≡◌, ◌^◌, true, [], ◌∷◌, ◌-◌, codes, refl, String, Input, Outcome, Asked, Extent, compared, exactly}
use Rattle.vcd_laws.proofs.Computing.{model}
use Rattle.vcd_laws.proofs.RowText.{clean, dump, gives, limit}

-- all is compared, exactly, and the first difference of each pair is due
abbrev pub all : Asked
all = record { names = []; exceptions = []; from = 0; to = 2 ^ 64 - 1; rule = exactly; extent = Extent.EachPair }

abbrev both : Asked → Input → Input → Outcome
both q one other = compared q limit (codes "a.vcd" ∷ codes "b.vcd" ∷ []) (one ∷ other ∷ [])

-- ---- one header, and bodies over it

abbrev front : String
front = "$scope module t $end $var reg 4 ! q $end $var wire 1 \" c $end $var event 1 # e $end $upscope $end $enddefinitions $end;"

abbrev over : Asked → String → String → Outcome
over q one other = both q (dump front one) (dump front other)

-- no order within a time, no repeated value, no width of a text matters
same : over all "#0;b0 !;1\";#5;b0101 !;0\";#9;" "#0;1\";b0000 !;#3;1\";#5;0\";bx !;b101 !;#9;" ≡ gives "compared 3;" "" 0
unfolding model
same = refl

-- each pair once, at its first time
each_once : over all "#0;b0 !;1\";#5;b1 !;0\";#9;b11 !;#12;" "#0;b0 !;1\";#5;b10 !;#9;b0 !;1\";#12;" ≡ gives "differs 5 t.q 0001 0010;differs 5 t.c 0 1;compared 3;" "" 1
unfolding model
each_once = refl

-- a value that is not there yet differs from one that is, and an event that is triggered from one
-- that is not; a trigger inside a section is none
unset_and_events : over all "#0;b0 !;#5;1#;1\";#9;1#;$dumpall 1# $end;#12;" "#0;b0 !;#5;1#;#9;#12;1#;"
    ≡ gives "differs 5 t.c 1 -;differs 9 t.e 1 -;compared 3;" "" 1
unfolding model
unset_and_events = refl

-- in `$dumpvars` an event is not triggered
event_in_section : over all "#0;$dumpvars 1# b0 ! $end;#12;" "#0;b0 !;#12;" ≡ gives "compared 3;" "" 0
unfolding model
event_in_section = refl

-- the value that differs inside a time does not matter, only that at its end
glitch : over all "#0;1\";#5;0\";1\";#9;" "#0;1\";#9;" ≡ gives "compared 3;" "" 0
unfolding model
glitch = refl

-- values are compared up to the end of the shorter dump, also at that time
shorter : over all "#0;1\";#5;0\";#7;" "#0;1\";#5;0\";#7;1\";#8;b1 !;#9;" ≡ gives "differs 7 t.c 0 1;ends 7 9;compared 3;" "" 1
unfolding model
shorter = refl

-- a dump without a timestamp ends at 0
no_timestamp : over all "1\";" "0\";#5;1\";" ≡ gives "differs 0 t.c 1 0;ends - 5;compared 3;" "" 1
unfolding model
no_timestamp = refl

-- ---- what is due

once : Asked
once = record all { extent = Extent.First }

always : Asked
always = record all { extent = Extent.Always }

-- all lines of the first time, and nothing after it: no line about the ends, and no fault
first_time : over once "#0;1\";#5;0\";b1 !;#6;b0 !;?" "#0;1\";#5;b10 !;#6;1\";#99;" ≡ gives "differs 5 t.q 0001 0010;differs 5 t.c 0 1;compared 3;" "" 1
unfolding model once
first_time = refl

-- at each time at which one of the two has a change, also if it gives the same value again
each_time : over always "#0;1\";#5;0\";#6;b1 !;#7;0\";#8;#9;" "#0;1\";#6;b1 !;#9;0\";" ≡ gives "differs 5 t.c 0 1;differs 7 t.c 0 1;compared 3;" "" 1
unfolding model always
each_time = refl

-- the window: values of before it count at its begin
window : over (record all { from = 6; to = 8 }) "#0;1\";#5;0\";#8;b1 !;#9;1#;" "#0;1\";#8;#9;" ≡ gives "differs 6 t.c 0 1;differs 8 t.q 0001 -;compared 3;" "" 1
unfolding model
window = refl

-- a window after the end of one has no times
late_window : over (record all { from = 6 }) "#0;1\";#5;" "#0;0\";#9;" ≡ gives "ends 5 9;compared 3;" "" 1
unfolding model
late_window = refl

-- ---- faults

-- a fault in the second dump: what differs up to the time before it is due, and no ends
fault_in_other : over all "#0;1\";#5;0\";#9;b1 !;#12;" "#0;0\";#5;0\";#9;b0 !;?" ≡ gives "differs 0 t.c 1 0;" "b.vcd:8: unknown command" 2
unfolding model
fault_in_other = refl

-- of two faults the one of the lesser time, of equal times that in the first dump
two_faults : over all "#0;1\";#5;?" "#0;1\";#4;0$;" ≡ gives "" "b.vcd:5: unknown code" 2
unfolding model
two_faults = refl

-- a fault after the end of the other dump: all is due but the ends
fault_after_end : over all "#0;1\";#5;0\";" "#0;1\";#5;1\";#7;1\";#6;" ≡ gives "differs 5 t.c 0 1;" "b.vcd:8: time goes back" 2
unfolding model
fault_after_end = refl

-- no headers, no lines
fault_in_header : both all (clean "$var wire 1 ! a $end $enddefinitions $end") (clean "$var wire ") ≡ gives "" "b.vcd:1: unexpected end of input" 2
unfolding model
fault_in_header = refl

-- ---- headers

-- other codes, another order, other types of the same kind, aliases, two variables of one path
pairing : both all
    (clean "$scope module t $end $var reg 1 ! a $end $var wire 1 ! b $end $var wire 1 \" d $end $var wire 1 # d $end $upscope $end $enddefinitions $end #0 1! 0\" 1#")
    (clean "$scope module t $end $var wire 1 ! d $end $var wire 1 % d $end $var wire 1 & b $end $var wire 1 ' a $end $upscope $end $enddefinitions $end #0 0! 1% 0& 1'")
    ≡ gives "differs 0 t.b 1 0;compared 4;" "" 1
unfolding model
pairing = refl

-- what only one has, and what is of two kinds
headers_differ : both all
    (clean "$timescale 1 ns $end $scope module t $end $var reg 8 ! a $end $var real 64 r r $end $var wire 1 \" d $end $upscope $end $enddefinitions $end")
    (clean "$timescale 1 ps $end $scope module t $end $var wire 4 ! a $end $var realtime 1 r r $end $var wire 1 % n $end $upscope $end $enddefinitions $end")
    ≡ gives "timescale 1ns 1ps;alone A t.d;alone B t.n;size t.a 8 4;compared 1;" "" 1
unfolding model
headers_differ = refl

-- names, and what is left out
some_names : both (record all { names = codes "t" ∷ []; exceptions = codes "t.a" ∷ [] })
    (clean "$scope module t $end $var reg 1 ! a $end $var reg 1 \" b $end $upscope $end $var wire 1 # d $end $enddefinitions $end #0 1! 1\"")
    (clean "$scope module t $end $var reg 1 ! a $end $var reg 1 \" b $end $upscope $end $enddefinitions $end #0 0! 0\"")
    ≡ gives "differs 0 t.b 1 0;compared 1;" "" 1
unfolding model
some_names = refl

-- ---- time scales

fine : String
fine = "$timescale 100 ps $end $var wire 4 ! q $end $enddefinitions $end;"

coarse : String
coarse = "$timescale 1 ns $end $var wire 4 ! q $end $enddefinitions $end;"

unscaled : String
unscaled = "$var wire 4 ! q $end $enddefinitions $end;"

-- times are compared in ticks of the finer one, and shown in those of the first
scales : both all (dump coarse "#0 b0 ! #1 b1 ! #3 b0 !") (dump fine "#0 b0 ! #10 b1 ! #25 b0 ! #30") ≡ gives "timescale 1ns 100ps;differs 2 q 0001 0000;compared 1;" "" 1
unfolding model coarse fine
scales = refl

-- without a time scale in both, ticks are compared
ticks_alone : both all (dump coarse "#0 b0 ! #1 b1 ! #3 b0 !") (dump unscaled "#0 b0 ! #1 b1 ! #3 b0 !") ≡ gives "timescale 1ns -;compared 1;" "" 1
unfolding model coarse unscaled
ticks_alone = refl

-- ---- rules

x_of_one : Asked
x_of_one = record all { rule = record exactly { x_of_one = true } }

-- an x of the first dump matches every digit, and so does a value that is not there; an x of the
-- second does not, nor does a z
rules : over x_of_one "#0 b1x !; #1 bx !; #2 b1 !; #3 0\"; #4 z\"; #5" "#0 b10 ! 0\"; #1 b1zx0 !; #2 bx1 !; #4 1\"; #5"
    ≡ gives "differs 2 t.q 0001 xxx1;differs 4 t.c z 1;compared 3;" "" 1
unfolding model x_of_one
rules = refl

-- texts of real numbers, exactly or by another test
reals : both all
    (clean "$var real 64 r r $end $enddefinitions $end #0 r1.0 r #1 r2 r") (clean "$var real 1 r r $end $enddefinitions $end #0 r1 r #1 r2 r")
    ≡ gives "differs 0 r r1.0 r1;compared 1;" "" 1
unfolding model
reals = refl

-- without a pair that is compared, the status is 1
no_pairs : over (record all { exceptions = codes "t" ∷ [] }) "#0;1\";" "#0;1\";" ≡ gives "compared 0;" "" 1
unfolding model
no_pairs = refl
