-- Rows on which first tokens settle a run, computed.
use Rattle.vcd_laws.proofs.Cited.{◌≢◌, ◌≤◌, length, drop, arith, ◌≡◌, ℕ, Bool, true, false, List, [], ◌∷◌, codes, map, take, Some, refl, pos, nat_le, AllByRecursion, list_all, and_parts, leb-true, String, Input, Mark, Outcome, Want, outcome, input_of, run_of, is_header_over, is_settled, Seen, is_settled_merge, Moment, Token, stream_of, tokens_of}
use Rattle.vcd_laws.proofs.Computing.{model}
use Rattle.vcd_laws.proofs.RowText.{clean, limit, written, at}
use Rattle.vcd_laws.proofs.Settling.{settled_is_final}
use Rattle.vcd_laws.proofs.SettlingMerge.{settled_merge_is_final}
use Rattle.vcd_laws.proofs.SettledAlone.{settled_alone_settles_merge}
use Rattle.vcd_laws.proofs.Unsettled.{unsettled_is_open}
use Rattle.vcd_laws.proofs.UnsettledMerge.{unsettled_merge_is_open}

-- a header of 8 tokens; a timestamp, a change, a timestamp that goes back, and a change
abbrev dump : List ℕ
dump = written "$var wire 1 ! a $end $enddefinitions $end #5 1! #4 0!"

abbrev settled : Want → List ℕ → List ℕ → List Bool
settled want text ns = map (λ n. is_settled want 100 (take n (tokens_of text))) ns

-- the fault is that of token 11
check_to_the_fault : settled Want.Check dump (0 ∷ 7 ∷ 8 ∷ 10 ∷ 11 ∷ 12 ∷ []) ≡ false ∷ false ∷ false ∷ false ∷ true ∷ true ∷ []
unfolding model
check_to_the_fault = refl

pick_to_the_fault : settled (Want.Pick (codes "a" ∷ [])) dump (8 ∷ 10 ∷ 11 ∷ []) ≡ false ∷ false ∷ true ∷ []
unfolding model
pick_to_the_fault = refl

-- a list, and a name that selects nothing, need only the header
list_to_the_header : settled Want.Listing dump (7 ∷ 8 ∷ 9 ∷ []) ≡ false ∷ true ∷ true ∷ []
unfolding model
list_to_the_header = refl

unmatched_to_the_header : settled (Want.Pick (codes "a" ∷ codes "b" ∷ [])) dump (7 ∷ 8 ∷ []) ≡ false ∷ true ∷ []
unfolding model
unmatched_to_the_header = refl

unmatched_of_a_sample : settled (Want.Sample (at 1 ∷ []) (codes "zz" ∷ [])) (written "$enddefinitions $end #5") (1 ∷ 2 ∷ []) ≡ false ∷ true ∷ []
unfolding model
unmatched_of_a_sample = refl

unmatched_of_edges : settled (Want.Edges (codes "zz" ∷ [])) (written "$enddefinitions $end #5") (1 ∷ 2 ∷ []) ≡ false ∷ true ∷ []
unfolding model
unmatched_of_edges = refl

-- a clean dump is never settled for a check
check_to_the_end : settled Want.Check (written "$enddefinitions $end #1 #2") (2 ∷ 3 ∷ 4 ∷ []) ≡ false ∷ false ∷ false ∷ []
unfolding model
check_to_the_end = refl

-- a cut ends at the first timestamp above its end, not at its end
cut_to_the_mark : settled (Want.Cut (at 0) (at 5)) (written "$enddefinitions $end #5 #6 #7") (2 ∷ 3 ∷ 4 ∷ 5 ∷ []) ≡ false ∷ false ∷ true ∷ true ∷ []
unfolding model
cut_to_the_mark = refl

-- a sample at the first timestamp above its last time
sample_to_the_mark : settled (Want.Sample (at 1 ∷ at 5 ∷ []) []) (written "$enddefinitions $end #5 #6") (2 ∷ 3 ∷ 4 ∷ []) ≡ false ∷ false ∷ true ∷ []
unfolding model
sample_to_the_mark = refl

sample_past_its_first_time : settled (Want.Sample (at 1 ∷ at 5 ∷ []) []) (written "$enddefinitions $end #2 #5 #6") (3 ∷ 4 ∷ 5 ∷ []) ≡ false ∷ false ∷ true ∷ []
unfolding model
sample_past_its_first_time = refl

-- if a time has a unit and the header has no scale, the header settles it
cut_without_a_scale : settled (Want.Cut (record { number = 1; unit = Some (pos 0) }) (at 5)) (written "$enddefinitions $end #1") (1 ∷ 2 ∷ 3 ∷ []) ≡ false ∷ true ∷ true ∷ []
unfolding model
cut_without_a_scale = refl

-- a time in seconds
abbrev seconds : ℕ → Moment
seconds n = record { number = n; unit = Some (pos 0) }

-- a header of 6 tokens, with a scale
abbrev scaled : List ℕ
scaled = written "$timescale 1 ns $end $enddefinitions $end #1"

time_out_of_range : settled (Want.Sample (seconds 18446744073709551615 ∷ []) []) scaled (5 ∷ 6 ∷ 7 ∷ []) ≡ false ∷ true ∷ true ∷ []
unfolding model
time_out_of_range = refl

times_that_fall : settled (Want.Sample (seconds 2 ∷ seconds 1 ∷ []) []) scaled (5 ∷ 6 ∷ 7 ∷ []) ≡ false ∷ true ∷ true ∷ []
unfolding model
times_that_fall = refl

cut_that_ends_before_it_begins : settled (Want.Cut (seconds 2) (seconds 1)) scaled (5 ∷ 6 ∷ 7 ∷ []) ≡ false ∷ true ∷ true ∷ []
unfolding model
cut_that_ends_before_it_begins = refl

times_that_have_ticks : map (λ want. settled want scaled (6 ∷ 7 ∷ []))
    (Want.Sample (seconds 1 ∷ seconds 2 ∷ []) [] ∷ Want.Cut (seconds 1) (seconds 2) ∷ []) ≡ (false ∷ false ∷ []) ∷ (false ∷ false ∷ []) ∷ []
unfolding model
times_that_have_ticks = refl

-- a fault of the header, and its end
header_to_the_fault : map (λ n. is_header_over 100 (take n (tokens_of (written "$comment x $end $upscope $end")))) (0 ∷ 3 ∷ 4 ∷ 5 ∷ []) ≡ false ∷ false ∷ true ∷ true ∷ []
unfolding model
header_to_the_fault = refl

check_to_a_fault_of_the_header : settled Want.Check (written "$comment x $end $upscope $end") (0 ∷ 3 ∷ 4 ∷ []) ≡ false ∷ false ∷ true ∷ []
unfolding model
check_to_a_fault_of_the_header = refl

header_to_its_end : map (λ n. is_header_over 100 (take n (tokens_of dump))) (0 ∷ 7 ∷ 8 ∷ 12 ∷ []) ≡ false ∷ false ∷ true ∷ true ∷ []
unfolding model
header_to_its_end = refl

-- one declaration is one too many if none is allowed
no_declaration_allowed : map (λ n. is_settled Want.Check 0 (take n (tokens_of dump))) (0 ∷ 8 ∷ []) ≡ false ∷ true ∷ []
unfolding model
no_declaration_allowed = refl

one_declaration_allowed : map (λ most. is_header_over most (take 1 (tokens_of (written "$scope m s $end")))) (0 ∷ 1 ∷ []) ≡ true ∷ false ∷ []
unfolding model
one_declaration_allowed = refl

-- the body of each command has a fault at `?`, and nothing that names and times refuse
fault_of_a_cut : settled (Want.Cut (at 1) (at 9)) (written "$enddefinitions $end #5 ? #6") (2 ∷ 3 ∷ 4 ∷ 5 ∷ []) ≡ false ∷ false ∷ true ∷ true ∷ []
unfolding model
fault_of_a_cut = refl

faults_of_bodies : map (λ want. settled want (written "$var wire 1 ! a $end $enddefinitions $end #5 ? #6") (9 ∷ 10 ∷ 11 ∷ []))
    (Want.Check ∷ Want.Pick (codes "a" ∷ []) ∷ Want.Sample (at 9 ∷ []) [] ∷ Want.Edges [] ∷ Want.Merge ∷ []) ≡ (false ∷ true ∷ true ∷ []) ∷
    (false ∷ true ∷ true ∷ []) ∷ (false ∷ true ∷ true ∷ []) ∷ (false ∷ true ∷ true ∷ []) ∷ (false ∷ true ∷ true ∷ []) ∷ []
unfolding model
faults_of_bodies = refl

clean_input_of_a_merge : settled Want.Merge (written "$enddefinitions $end #5") (0 ∷ 1 ∷ 2 ∷ 3 ∷ []) ≡ false ∷ false ∷ false ∷ false ∷ []
unfolding model
clean_input_of_a_merge = refl

-- ---- tokens that are no longer than a limit

abbrev are_short : ℕ → List Token → Bool
are_short n ts = list_all (λ t. nat_le (length t.bytes) n) ts

all_short : (n : ℕ) (ts : List Token) → are_short n ts ≡ true → AllByRecursion (λ t. length t.bytes ≤ n) ts
all_short n [] e = tt
all_short n (t ∷ ts) e =
    let p = and_parts (nat_le (length t.bytes) n) (are_short n ts) e in
    (leb-true (length t.bytes) n p.0, all_short n ts p.1)

-- ---- a merge of several inputs

-- the first tokens of a text
abbrev first : ℕ → List ℕ → Seen
first n text = Seen.First (take n (tokens_of text))

-- all that a source gives of a text
abbrev all : List ℕ → Seen
all text = Seen.All (stream_of limit (input_of text))

-- headers of 12 tokens; the timestamp that is token 15 is too large at the scale of the other
abbrev late : List ℕ
late = written "$timescale 1 ns $end $var wire 1 ! a $end $enddefinitions $end #5 1! #18446744073709551615 0!"

abbrev fine : List ℕ
fine = written "$timescale 100 ps $end $var wire 1 ! b $end $enddefinitions $end #40 1! #60 0! #70 1!"

-- it settles the merge once the other input has come past the time before it, which is 50
late_and_fine : map (λ n. is_settled_merge (first 15 late ∷ first n fine ∷ [])) (0 ∷ 11 ∷ 12 ∷ 14 ∷ 15 ∷ 18 ∷ []) ≡ false ∷ false ∷ false ∷ false ∷ true ∷ true ∷ []
unfolding model
late_and_fine = refl

before_it : is_settled_merge (first 14 late ∷ first 18 fine ∷ []) ≡ false
unfolding model
before_it = refl

-- alone the timestamp settles nothing
late_alone : map (λ n. is_settled Want.Merge 100 (take n (tokens_of late))) (14 ∷ 15 ∷ 16 ∷ []) ≡ false ∷ false ∷ false ∷ []
unfolding model
late_alone = refl

-- an input that ends before it is known to go no further if all of it is known
ends_before_it : map is_settled_merge ((first 15 late ∷ all (written "$timescale 100 ps $end $enddefinitions $end #40") ∷ []) ∷
    (first 15 late ∷ first 7 (written "$timescale 100 ps $end $enddefinitions $end #40") ∷ []) ∷ []) ≡ true ∷ false ∷ []
unfolding model
ends_before_it = refl

-- a fault at the very time of the other's last timestamp: the first input comes before the second,
-- and the other way round
equal_times : map is_settled_merge ((first 4 (written "$enddefinitions $end #5 ?") ∷ first 3 (written "$enddefinitions $end #5 #6") ∷ []) ∷
    (first 3 (written "$enddefinitions $end #5 #6") ∷ first 4 (written "$enddefinitions $end #5 ?") ∷ []) ∷ []) ≡ true ∷ false ∷ []
unfolding model
equal_times = refl

-- each of two inputs has a fault, and so settles what it adds; the law, with its premises met
abbrev wrong : List ℕ
wrong = written "$var wire 1 ! a $end $enddefinitions $end #5 ? #6"

one_by_one : is_settled_merge (first 10 wrong ∷ first 10 wrong ∷ []) ≡ true
unfolding model
one_by_one = settled_alone_settles_merge (first 10 wrong ∷ first 10 wrong ∷ []) (refl, (refl, tt))

-- a fault of a header settles all, once the headers before it are whole
header_of_the_second : map (λ n. is_settled_merge (first n fine ∷ first 1 (written "$upscope") ∷ first 0 fine ∷ [])) (11 ∷ 12 ∷ []) ≡ false ∷ true ∷ []
unfolding model
header_of_the_second = refl

-- inputs of which all is known settle it, clean or not
all_known : is_settled_merge (all late ∷ all fine ∷ []) ≡ true
unfolding model
all_known = refl

-- ---- the laws on these, with their premises met

-- whatever follows the timestamp that goes back, `pick` has one outcome
abbrev backward : String
backward = "$var wire 1 ! a $end $enddefinitions $end #5 1! #4 0! #9"

-- the source fails after the timestamp
abbrev failing : Input
failing = record { bytes = written "$var wire 1 ! a $end $enddefinitions $end #5 1! #4 "; mark = Mark.Failed }

abbrev pick_of : Input → Outcome
pick_of input = run_of (Want.Pick (codes "a" ∷ [])) limit (codes "x.vcd") input

final_of_a_pick : pick_of (clean backward) ≡ pick_of failing
unfolding model
final_of_a_pick = settled_is_final (Want.Pick (codes "a" ∷ [])) limit (codes "x.vcd") (take 11 (tokens_of (written backward)))
    (clean backward) failing refl (drop 11 (tokens_of (written backward)), refl) ([], refl)

-- one token less leaves it open
open_of_a_pick : (a : Input) × (b : Input) × ((pick_of a).status ≢ (pick_of b).status)
unfolding model
open_of_a_pick =
    let law = unsettled_is_open (Want.Pick (codes "a" ∷ [])) limit (codes "x.vcd") (record { text = written backward; count = 10 })
    (omega arith, all_short limit (take 10 (tokens_of (written backward))) refl) refl in
    (law.0, law.1, law.4)

-- a merge that a timestamp settles which is too large, whatever follows in either input
abbrev merge_of : String → String → Outcome
merge_of a b = outcome Want.Merge limit (codes "a.vcd" ∷ codes "b.vcd" ∷ []) (clean a ∷ clean b ∷ [])

abbrev late_front : String
late_front = "$timescale 1 ns $end $var wire 1 ! a $end $enddefinitions $end #5 1! #18446744073709551615"

final_of_a_merge : merge_of late_front "$timescale 100 ps $end $var wire 1 ! b $end $enddefinitions $end #40 1! #60"
    ≡ merge_of "$timescale 1 ns $end $var wire 1 ! a $end $enddefinitions $end #5 1! #18446744073709551615 0! ?" "$timescale 100 ps $end $var wire 1 ! b $end $enddefinitions $end #40 1! #60 #50 1!"
unfolding model
final_of_a_merge = settled_merge_is_final limit (codes "a.vcd" ∷ codes "b.vcd" ∷ []) (first 15 late ∷ first 15 fine ∷ [])
    (clean late_front ∷ clean "$timescale 100 ps $end $var wire 1 ! b $end $enddefinitions $end #40 1! #60" ∷ [])
    (clean "$timescale 1 ns $end $var wire 1 ! a $end $enddefinitions $end #5 1! #18446744073709551615 0! ?" ∷ clean "$timescale 100 ps $end $var wire 1 ! b $end $enddefinitions $end #40 1! #60 #50 1!" ∷ [])
    refl (([], refl), (([], refl), tt)) (
      (drop 15 (tokens_of (written "$timescale 1 ns $end $var wire 1 ! a $end $enddefinitions $end #5 1! #18446744073709551615 0! ?")), refl),
      ((drop 15 (tokens_of (written "$timescale 100 ps $end $var wire 1 ! b $end $enddefinitions $end #40 1! #60 #50 1!")), refl), tt),
    )

-- if the other input has not come so far, it is open, also if all of the first is known
open_of_a_merge : (inputs : List Input) × (others : List Input)
    × ((outcome Want.Merge limit (codes "a.vcd" ∷ codes "b.vcd" ∷ []) inputs).status ≢ (outcome Want.Merge limit (codes "a.vcd" ∷ codes "b.vcd" ∷ []) others).status)
unfolding model
open_of_a_merge =
    let law = unsettled_merge_is_open limit (codes "a.vcd" ∷ codes "b.vcd" ∷ []) (all late ∷ first 14 fine ∷ [])
    ((input_of late, refl, λ e. cc), ((record { text = fine; count = 14 }, (omega arith, all_short limit (take 14 (tokens_of fine)) refl), refl), tt)) refl in
    (law.0, law.1, law.4)
