-- Command lines, computed.
use Rattle.vcd_laws.proofs.Cited.{◌≡◌, ℕ, List, [], ◌∷◌, map, codes, replicate, negsuc, Option, Some, None, Result, Ok, Err, refl, String, Outcome, Want, Command, Job, UseFault, limit_of, want_of, job_of, command_outcome}
use Rattle.vcd_laws.proofs.Computing.{model}
use Rattle.vcd_laws.proofs.RowText.{clean, gives, at, asked}

-- a command with this token limit, of an empty standard input
abbrev said : Option (List ℕ) → Command → Outcome
said limit command = command_outcome (Some (record { command = command; limit = limit })) (codes "(stdin)" ∷ []) (clean "" ∷ [])

no_words : command_outcome None [] [] ≡ gives "" "bad words" 2
unfolding model
no_words = refl

pick_without_names : said None (Command.Pick []) ≡ gives "" "bad words" 2
unfolding model
pick_without_names = refl

merge_without_files : said None (Command.Merge []) ≡ gives "" "bad words" 2
unfolding model
merge_without_files = refl

small_limit : said (Some (codes "63")) Command.Check ≡ gives "" "bad token limit: 63" 2
unfolding model
small_limit = refl

-- missing words count before a bad limit
words_before_limit : said (Some (codes "63")) (Command.Pick []) ≡ gives "" "bad words" 2
unfolding model
words_before_limit = refl

from_above_to : said None (Command.Cut (codes "5") (codes "4")) ≡ gives "" "--from is above --to" 2
unfolding model
from_above_to = refl

cut_at_equal_words : job_of (Some (record { command = Command.Cut (codes "5") (codes "5"); limit = None })) ≡ Ok (record { want = Want.Cut (at 5) (at 5); limit = 1048576 })
unfolding model
cut_at_equal_words = refl

same_times : said None (Command.Sample (codes "5,5") []) ≡ gives "" "times must rise" 2
unfolding model
same_times = refl

empty_time : said None (Command.Sample (codes "5,") []) ≡ gives "" "bad time: " 2
unfolding model
empty_time = refl

upper_case_unit : said None (Command.Sample (codes "15NS") []) ≡ gives "" "bad time: 15NS" 2
unfolding model
upper_case_unit = refl

too_many_files : said None (Command.Merge (replicate 65 (codes "f.vcd"))) ≡ gives "" "too many files" 2
unfolding model
too_many_files = refl

as_many_files_as_can_be : job_of (Some (record { command = Command.Merge (replicate 64 (codes "f.vcd")); limit = None })) ≡ Ok (record { want = Want.Merge; limit = 1048576 })
unfolding model
as_many_files_as_can_be = refl

-- a merge of files with these names
abbrev merge_said : List String → Outcome
merge_said files = said None (Command.Merge (map codes files))

input_twice : merge_said ("-" ∷ "-" ∷ []) ≡ gives "" "standard input twice" 2
unfolding model
input_twice = refl

input_twice_among_files : merge_said ("a.vcd" ∷ "-" ∷ "b.vcd" ∷ "-" ∷ []) ≡ gives "" "standard input twice" 2
unfolding model
input_twice_among_files = refl

-- standard input once, and files whose names only look like it
input_once : map (λ files. want_of (Command.Merge (map codes files)))
    (("-" ∷ []) ∷ ("a.vcd" ∷ "-" ∷ []) ∷ ("-" ∷ "./-" ∷ "--" ∷ "" ∷ "-a" ∷ []) ∷ []) ≡ Ok Want.Merge ∷ Ok Want.Merge ∷ Ok Want.Merge ∷ []
unfolding model
input_once = refl

-- too many files count before standard input twice
too_many_inputs : said None (Command.Merge (replicate 65 (codes "-"))) ≡ gives "" "too many files" 2
unfolding model
too_many_inputs = refl

as_many_inputs_as_can_be : said None (Command.Merge (replicate 64 (codes "-"))) ≡ gives "" "standard input twice" 2
unfolding model
as_many_inputs_as_can_be = refl

-- a bad limit counts before a bad time, and the first bad time before the second
limit_before_time : said (Some (codes "1k")) (Command.Cut (codes "x") (codes "y")) ≡ gives "" "bad token limit: 1k" 2
unfolding model
limit_before_time = refl

first_time : said None (Command.Cut (codes "x") (codes "y")) ≡ gives "" "bad time: x" 2
unfolding model
first_time = refl

first_bad_time_of_two : said None (Command.Sample (codes "1,x,y") []) ≡ gives "" "bad time: x" 2
unfolding model
first_bad_time_of_two = refl

-- .. and before files and times that are refused
limit_before_files : said (Some (codes "63")) (Command.Merge (replicate 65 (codes "f.vcd"))) ≡ gives "" "bad token limit: 63" 2
unfolding model
limit_before_files = refl

limit_before_inputs : said (Some (codes "63")) (Command.Merge (codes "-" ∷ codes "-" ∷ [])) ≡ gives "" "bad token limit: 63" 2
unfolding model
limit_before_inputs = refl

limit_before_order : said (Some (codes "63")) (Command.Cut (codes "5") (codes "4")) ≡ gives "" "bad token limit: 63" 2
unfolding model
limit_before_order = refl

limit_of_no_digits : said (Some (codes "")) Command.Check ≡ gives "" "bad token limit: " 2
unfolding model
limit_of_no_digits = refl

no_times : said None (Command.Sample (codes "") []) ≡ gives "" "bad time: " 2
unfolding model
no_times = refl

time_before_order : said None (Command.Sample (codes "5,5,5x") []) ≡ gives "" "bad time: 5x" 2
unfolding model
time_before_order = refl

limits : map (λ w. limit_of (Some (codes w))) ("64" ∷ "16777216" ∷ "00000000000001048576" ∷ []) ≡ Ok 64 ∷ Ok 16777216 ∷ Ok 1048576 ∷ []
unfolding model
limits = refl

no_limits : map (λ w. limit_of (Some (codes w))) ("16777217" ∷ "000000000000001048576" ∷ "64ns" ∷ "" ∷ []) ≡ map
    (λ w. Err (UseFault.BadLimit (codes w))) ("16777217" ∷ "000000000000001048576" ∷ "64ns" ∷ "" ∷ [])
unfolding model
no_limits = refl

-- with a unit on some time the order of times waits for the time scale
cut_with_a_unit : job_of (Some (record { command = Command.Cut (codes "15ns") (codes "4"); limit = None })) ≡ Ok
    (record { want = Want.Cut (record { number = 15; unit = Some (negsuc 8) }) (at 4); limit = 1048576 })
unfolding model
cut_with_a_unit = refl

cut_with_a_unit_at_the_end : job_of (Some (record { command = Command.Cut (codes "15") (codes "4us"); limit = None })) ≡ Ok
    (record { want = Want.Cut (at 15) (record { number = 4; unit = Some (negsuc 5) }); limit = 1048576 })
unfolding model
cut_with_a_unit_at_the_end = refl

sample_with_a_unit : job_of (Some (record { command = Command.Sample (codes "5ns,1us") []; limit = None })) ≡ Ok
    (record {
      want = Want.Sample (record { number = 5; unit = Some (negsuc 8) } ∷ record { number = 1; unit = Some (negsuc 5) } ∷ [])
          [];
      limit = 1048576;
    })
unfolding model
sample_with_a_unit = refl

sample_of_three : job_of (Some (record { command = Command.Sample (codes "1,007,20") (codes "a" ∷ []); limit = Some (codes "64") })) ≡ Ok
    (record { want = Want.Sample (at 1 ∷ at 7 ∷ at 20 ∷ []) (codes "a" ∷ []); limit = 64 })
unfolding model
sample_of_three = refl

-- ---- command lines that are run

check_is_run : asked Command.Check "$var wire 1 ! a $end;$enddefinitions $end;#3;" ≡ gives "scopes 0;variables 1;codes 1;times 1;sections 0;changes 0;last 3;" "" 0
unfolding model
check_is_run = refl

list_is_run : asked Command.Listing "$var wire 1 ! a $end;$enddefinitions $end;" ≡ gives "a wire 1 !;" "" 0
unfolding model
list_is_run = refl

pick_is_run : asked (Command.Pick (codes "a" ∷ codes "b" ∷ [])) "$var wire 1 ! a $end;$var wire 1 \" b $end;$enddefinitions $end;"
    ≡ gives "$var wire 1 ! a $end;$var wire 1 \" b $end;$enddefinitions $end;" "" 0
unfolding model
pick_is_run = refl

edges_are_run : asked (Command.Edges (codes "b" ∷ [])) "$var wire 1 ! a $end;$var wire 1 \" b $end;$enddefinitions $end;" ≡ gives "b 0 0 0;" "" 0
unfolding model
edges_are_run = refl

edges_without_names_are_run : asked (Command.Edges []) "$var wire 1 ! a $end;$enddefinitions $end;" ≡ gives "a 0 0 0;" "" 0
unfolding model
edges_without_names_are_run = refl

token_limit_is_used : command_outcome (Some (record { command = Command.Check; limit = Some (codes "64") })) (codes "(stdin)" ∷ [])
    (clean "$comment xxxxxxxxxxxxxxxxxxxxxxxxxxxxxxxxxxxxxxxxxxxxxxxxxxxxxxxxxxxxxxxxx $end;$enddefinitions $end;" ∷ [])
    ≡ gives "" "(stdin):1: token too long" 1
unfolding model
token_limit_is_used = refl

-- a job with the default token limit
abbrev job : Command → Result Job UseFault
job command = job_of (Some (record { command = command; limit = None }))

jobs : map job (Command.Check ∷ Command.Listing ∷ Command.Pick (codes "a" ∷ codes "b" ∷ []) ∷ Command.Edges [] ∷ Command.Edges
    (codes "a" ∷ []) ∷ Command.Merge (codes "f" ∷ []) ∷ []) ≡ map (λ want. Ok (record { want = want; limit = 1048576 }))
    (Want.Check ∷ Want.Listing ∷ Want.Pick (codes "a" ∷ codes "b" ∷ []) ∷ Want.Edges [] ∷ Want.Edges (codes "a" ∷ []) ∷ Want.Merge ∷ [])
unfolding model
jobs = refl

-- the order of times is that of their numbers: the words may be longer or have zeros in front
times_by_their_numbers : job (Command.Cut (codes "9") (codes "10")) ∷ job (Command.Cut (codes "10") (codes "9")) ∷ job
    (Command.Cut (codes "010") (codes "9")) ∷ job (Command.Sample (codes "9,10") []) ∷ [] ≡ Ok
    (record { want = Want.Cut (at 9) (at 10); limit = 1048576 }) ∷ Err UseFault.FromAboveTo ∷ Err UseFault.FromAboveTo ∷ Ok
    (record { want = Want.Sample (at 9 ∷ at 10 ∷ []) []; limit = 1048576 }) ∷ []
unfolding model
times_by_their_numbers = refl
