-- Two parts of one dump compared, and what `merge` wrote: worked rows.
use Rattle.vcd_laws.proofs.Cited.{◌≡◌, List, [], ◌∷◌, codes, refl, String, Mark, Outcome, Want, outcome, Asked, Extent, compared, Names}
use Rattle.vcd_laws.proofs.Computing.{model}
use Rattle.vcd_laws.proofs.CompareRows.{all}
use Rattle.vcd_laws.proofs.RowText.{clean, dump, gives, limit}
use Rattle.vcd_model.specs.Within.{comparison, within}

abbrev cores : List Names
cores = (codes "t.a", codes "t.b") ∷ []

-- two parts; `n` is only in the first
abbrev two : String
two = "$scope module t $end $scope module a $end $var reg 4 ! q $end $var wire 1 \" c $end $var wire 1 # n $end $upscope $end $scope module b $end $var reg 4 $ q $end $var wire 1 % c $end $upscope $end $upscope $end $enddefinitions $end;"

abbrev on_two : Asked → String → Outcome
on_two q body = within q limit cores (codes "(stdin)") (dump two body)

by_scopes : on_two all "#0;b0 !;b0 $;1\";1%;#3;b1 !;#4;b1 $;0%;" ≡ gives "alone A t.a.n;differs 3 t.a.q 0001 0000;differs 4 t.a.c 1 0;compared 2;" "" 1
unfolding model
by_scopes = refl

-- a name and an exception that select nothing
abbrev asked_on_two : Asked → String → String → String → Outcome
asked_on_two q one other body = comparison q limit ((codes one, codes other) ∷ []) (codes "(stdin)") (dump two body)

nothing : asked_on_two all "t.a" "t.x" "#0;?" ≡ gives "" "t.x: selects nothing" 2
unfolding model
nothing = refl

nothing_left_out : asked_on_two (record all { exceptions = codes "t.a.n" ∷ codes "t.a.m" ∷ [] }) "t.a" "t.b" "#0;" ≡ gives "" "t.a.m: selects nothing" 2
unfolding model
nothing_left_out = refl

-- a first time after the end, and at the end
too_late : asked_on_two (record all { from = 4 }) "t.a.q" "t.b.q" "#0;b0 !;b1 $;#3;" ≡ gives "differs 4 t.a.q 0000 0001;" "--from: 4 is after the end of the dump, 3" 2
unfolding model
too_late = refl

in_time : asked_on_two (record all { from = 3 }) "t.a.q" "t.b.q" "#0;b0 !;b0 $;#3;" ≡ gives "compared 1;" "" 0
unfolding model
in_time = refl

-- slices in another order, a range that only one has, and two ranges of one path each
slices : String
slices = "$scope module t $end $scope module a $end $var reg 4 ! q [3:0] $end $var reg 4 \" q [7 :4] $end $var reg 2 # r [1:0] $end $var reg 2 $ s [1:0] $end $upscope $end $scope module b $end $var reg 4 % q [7:4] $end $var reg 4 & q [3:0] $end $var reg 2 ' r $end $var reg 2 ( s [0:1] $end $upscope $end $upscope $end $enddefinitions $end;"

by_range : within all limit cores (codes "(stdin)") (dump slices "#0;b1 !;b1 &;b10 \";b11 %;b0 #;b0 ';#3;b11 #;")
    ≡ gives "alone A t.a.s[1:0];alone B t.b.s[0:1];differs 0 t.a.q[7:4] 0010 0011;differs 3 t.a.r 11 00;compared 3;" "" 1
unfolding model slices
by_range = refl

-- several names: a variable may be in several pairs
several : within all limit ((codes "t.a.q", codes "t.b.q") ∷ (codes "t.b", codes "t.a") ∷ (codes "t.a.c", codes "t.b.q") ∷ []) (codes "(stdin)") (dump two "#0;b0 !;b1 $;1\";1%;")
    ≡ gives "alone B t.a.n;size t.a.c 1 4;differs 0 t.a.q 0000 0001;differs 0 t.b.q 0001 0000;compared 3;" "" 1
unfolding model
several = refl

-- names inside others, and equal ones: each pair once, where the outermost names have it
abbrev asked_for : List Names → String → Outcome
asked_for ns body = comparison all limit ns (codes "(stdin)") (dump two body)

once : asked_for ((codes "t.a.q", codes "t.b.q") ∷ (codes "t.a", codes "t.b") ∷ (codes "t.a.c", codes "t.b.c") ∷ (codes "t.a", codes "t.b") ∷ []) "#0;b0 !;b1 $;1\";1%;"
    ≡ gives "alone A t.a.n;differs 0 t.a.q 0000 0001;compared 2;" "" 1
unfolding model
once = refl

-- names of other pairs, and of the same ones the other way round
each_way : asked_for ((codes "t.a", codes "t.b") ∷ (codes "t.a.c", codes "t.b.q") ∷ (codes "t.b.q", codes "t.a.q") ∷ []) "#0;b0 !;b1 $;1\";1%;"
    ≡ gives "alone A t.a.n;size t.a.c 1 4;differs 0 t.a.q 0000 0001;differs 0 t.b.q 0001 0000;compared 3;" "" 1
unfolding model
each_way = refl

-- a name inside another one that selects nothing
nothing_inside : asked_for ((codes "t.a", codes "t.b") ∷ (codes "t.a.x", codes "t.b.x") ∷ []) "#0;" ≡ gives "" "t.a.x: selects nothing" 2
unfolding model
nothing_inside = refl

-- what ends early sees no fault that comes later
early : on_two (record all { extent = Extent.First }) "#0;1\";1%;#3;0\";#4;1\";0%;?" ≡ gives "alone A t.a.n;differs 3 t.a.c 0 1;compared 2;" "" 1
unfolding model
early = refl

-- a fault: what is settled before it is due
fault : on_two all "#0;1\";0%;#3;b1 !;?" ≡ gives "alone A t.a.n;differs 0 t.a.c 1 0;" "(stdin):7: unknown command" 2
unfolding model
fault = refl

-- nothing is due at a time at which nothing is known to follow, until the dump ends
to_the_last : on_two (record all { from = 1; to = 3 }) "#0;1\";0%;#3;b1 !;#4;b1 $;" ≡ gives "alone A t.a.n;differs 1 t.a.c 1 0;differs 3 t.a.q 0001 -;compared 2;" "" 1
unfolding model
to_the_last = refl

-- what `merge` wrote of two dumps, compared up to the end of the shorter one: the lines of values
-- are those of the two dumps, under the first scope
first : String
first = "$timescale 1 ns $end $var wire 4 ! q $end $var wire 1 a c $end $enddefinitions $end #0 b0 ! 1a #1 b1 ! #3 b0 ! 0a #9 1a"

second : String
second = "$timescale 100 ps $end $var wire 1 ! c $end $var wire 4 \" q $end $enddefinitions $end #0 1! b0 \" #10 b1 \" #25 b0 \" #40 0! #60"

of_merge : within (record all { to = 60 }) limit ((codes "in1", codes "in2") ∷ []) (codes "(stdin)")
    (record { bytes = (outcome Want.Merge limit (codes "a.vcd" ∷ codes "b.vcd" ∷ []) (clean first ∷ clean second ∷ [])).output; mark = Mark.Clean })
    ≡ gives "differs 25 in1.q 0001 0000;differs 30 in1.c 0 1;compared 2;" "" 1
unfolding model first second
of_merge = refl

of_dumps : compared all limit (codes "a.vcd" ∷ codes "b.vcd" ∷ []) (clean first ∷ clean second ∷ [])
    ≡ gives "timescale 1ns 100ps;differs 2 q 0001 0000;differs 3 c 0 1;ends 9 60;compared 2;" "" 1
unfolding model first second
of_dumps = refl
