-- What is due with first tokens, computed.
use Rattle.vcd_laws.proofs.Cited.{◌≡◌, ℕ, List, [], ◌∷◌, ◌++◌, codes, drop, map, take, refl, String, Input, Mark, Want, IsPrefixOf, declarations_allowed, Seen, stream_of, tokens_of, run_of}
use Rattle.vcd_laws.proofs.Computing.{model}
use Rattle.vcd_laws.proofs.RowText.{clean, limit, written, at}
use Rattle.vcd_model.specs.Due.{due}
use Rattle.vcd_laws.specs.Due.{due_of_merge}
use Rattle.vcd_laws.proofs.CutOff.{cut_off_is_a_prefix}
use Rattle.vcd_laws.proofs.DueText.{due_is_never_revised, due_is_left_at_a_halt}

-- what is due with this many tokens of a text
abbrev dues : Want → String → List ℕ → List (List ℕ)
dues want s ns = map (λ n. due want 100 (take n (tokens_of (written s)))) ns

-- a header of 8 tokens, `#5 1!`, a timestamp that is left out, `#130`, and `0!` as token 13
abbrev dump : String
dump = "$var wire 1 ! a $end $enddefinitions $end #5 1! #120 #130 0!"

-- the head is due with the last token of the header, the line of a time with the first change that
-- is kept at it
pick_due : dues (Want.Pick (codes "a" ∷ [])) dump (0 ∷ 7 ∷ 8 ∷ 9 ∷ 10 ∷ 11 ∷ 12 ∷ 13 ∷ [])
    ≡ written "" ∷ written "" ∷ written "$var wire 1 ! a $end;$enddefinitions $end;"
    ∷ written "$var wire 1 ! a $end;$enddefinitions $end;"
    ∷ written "$var wire 1 ! a $end;$enddefinitions $end;#5;1!;"
    ∷ written "$var wire 1 ! a $end;$enddefinitions $end;#5;1!;"
    ∷ written "$var wire 1 ! a $end;$enddefinitions $end;#5;1!;"
    ∷ written "$var wire 1 ! a $end;$enddefinitions $end;#5;1!;#130;0!;" ∷ []
unfolding model due
pick_due = refl

-- a vector change with its second token
vector_due : dues (Want.Pick (codes "v" ∷ [])) "$var wire 2 ! v $end $enddefinitions $end #1 b10 !" (9 ∷ 10 ∷ 11 ∷ [])
    ≡ written "$var wire 2 ! v $end;$enddefinitions $end;" ∷ written "$var wire 2 ! v $end;$enddefinitions $end;"
    ∷ written "$var wire 2 ! v $end;$enddefinitions $end;#1;b10 !;" ∷ []
unfolding model due
vector_due = refl

-- the start section of a cut is due with the first timestamp that is not below its first time, the
-- line of its second time with one above that, and nothing after it
cut_due : dues (Want.Cut (at 10) (at 15)) "$var wire 1 ! a $end $enddefinitions $end #9 1! #10 0! #20 1!" (7 ∷ 8 ∷ 10 ∷ 11 ∷ 12 ∷ 13 ∷ 14 ∷ [])
    ≡ written "" ∷ written "$var wire 1 ! a $end;$enddefinitions $end;"
    ∷ written "$var wire 1 ! a $end;$enddefinitions $end;"
    ∷ written "$var wire 1 ! a $end;$enddefinitions $end;#10;$dumpvars;1!;$end;"
    ∷ written "$var wire 1 ! a $end;$enddefinitions $end;#10;$dumpvars;1!;$end;0!;"
    ∷ written "$var wire 1 ! a $end;$enddefinitions $end;#10;$dumpvars;1!;$end;0!;#15;"
    ∷ written "$var wire 1 ! a $end;$enddefinitions $end;#10;$dumpvars;1!;$end;0!;#15;" ∷ []
unfolding model due
cut_due = refl

-- .. of one from 0 with the header
cut_from_0_due : dues (Want.Cut (at 0) (at 15)) "$var wire 1 ! a $end $enddefinitions $end #9" (7 ∷ 8 ∷ 9 ∷ [])
    ≡ written "" ∷ written "$var wire 1 ! a $end;$enddefinitions $end;#0;$dumpvars;$end;"
    ∷ written "$var wire 1 ! a $end;$enddefinitions $end;#0;$dumpvars;$end;" ∷ []
unfolding model due
cut_from_0_due = refl

-- the lines of a sample with the first timestamp above their time
sample_due : dues (Want.Sample (at 5 ∷ at 9 ∷ []) []) "$var wire 1 ! a $end $enddefinitions $end #5 1! #7 0! #20 1!" (8 ∷ 10 ∷ 11 ∷ 12 ∷ 13 ∷ 14 ∷ [])
    ≡ written "" ∷ written "" ∷ written "5 a 1;" ∷ written "5 a 1;" ∷ written "5 a 1;9 a 0;" ∷ written "5 a 1;9 a 0;" ∷ []
unfolding model due
sample_due = refl

-- nothing of a check and of edges at any token: all of it comes with the clean end
end_due : map (λ want. dues want dump (8 ∷ 13 ∷ [])) (Want.Check ∷ Want.Edges [] ∷ []) ≡ ([] ∷ [] ∷ []) ∷ ([] ∷ [] ∷ []) ∷ []
unfolding model due
end_due = refl

-- a list with its header
list_due : dues Want.Listing dump (7 ∷ 8 ∷ 13 ∷ []) ≡ written "" ∷ written "a wire 1 !;" ∷ written "a wire 1 !;" ∷ []
unfolding model due
list_due = refl

-- nothing if a name selects nothing, and nothing if the header has a fault
nothing_due : dues (Want.Pick (codes "a" ∷ codes "b" ∷ [])) dump (8 ∷ 13 ∷ []) ++ dues
    (Want.Pick (codes "a" ∷ [])) "$upscope $end $enddefinitions $end" (1 ∷ 4 ∷ []) ≡ [] ∷ [] ∷ [] ∷ [] ∷ []
unfolding model due
nothing_due = refl

-- a fault makes nothing more due
fault_due : dues (Want.Pick (codes "a" ∷ [])) "$var wire 1 ! a $end $enddefinitions $end #5 1! #4 0!" (10 ∷ 11 ∷ 12 ∷ [])
    ≡ written "$var wire 1 ! a $end;$enddefinitions $end;#5;1!;"
    ∷ written "$var wire 1 ! a $end;$enddefinitions $end;#5;1!;"
    ∷ written "$var wire 1 ! a $end;$enddefinitions $end;#5;1!;" ∷ []
unfolding model due
fault_due = refl

-- ---- a merge

-- what is due with this many tokens of each of two texts
abbrev merged : String → String → ℕ → ℕ → List ℕ
merged a b m n = due_of_merge (Seen.First (take m (tokens_of (written a))) ∷ Seen.First (take n (tokens_of (written b))) ∷ [])

abbrev one : String
one = "$var wire 1 ! a $end $enddefinitions $end #5 1! #7"

abbrev two : String
two = "$var wire 1 ! b $end $enddefinitions $end #6 0! #9"

abbrev head : List ℕ
head = written "$timescale;^1s;$end;$scope module in1 $end;$var wire 1 ! a $end;$upscope $end;$scope module in2 $end;$var wire 1 \" b $end;$upscope $end;$enddefinitions $end;"

-- the head with the last header; a change once no other input can have an item before it
merge_due : map (λ n. merged one two 10 n) (7 ∷ 8 ∷ 9 ∷ 10 ∷ 11 ∷ []) ≡ [] ∷ head ∷ (head ++ written "#5;1!;") ∷ (head ++ written "#5;1!;") ∷ (head ++ written "#5;1!;") ∷ []
unfolding model due_of_merge
merge_due = refl

-- .. which needs a later timestamp of the first input for a change of the second
later_due : map (λ m. merged one two m 10) (7 ∷ 8 ∷ 9 ∷ 10 ∷ 11 ∷ []) ≡ [] ∷ head ∷ head ∷ (head ++ written "#5;1!;") ∷ (head ++ written "#5;1!;#6;0\";") ∷ []
unfolding model due_of_merge
later_due = refl

-- of which all is known holds nothing up
ended_due : due_of_merge (Seen.First (take 11 (tokens_of (written one))) ∷ Seen.All
    (stream_of limit (clean "$var wire 1 ! b $end $enddefinitions $end #6 0!")) ∷ []) ≡ head ++ written "#5;1!;#6;0\";"
unfolding model due_of_merge
ended_due = refl

-- .. and if it is so of all, what closes the text is due
closing_due : due_of_merge (Seen.All (stream_of limit (clean one)) ∷ Seen.All (stream_of limit (clean two)) ∷ []) ≡ head ++ written "#5;1!;#6;0\";#9;"
unfolding model due_of_merge
closing_due = refl

-- ---- the laws on these, with their premises met

-- the source fails inside the timestamp that is token 12
abbrev failing : Input
failing = record { bytes = written "$var wire 1 ! a $end $enddefinitions $end #5 1! #120 #13"; mark = Mark.Failed }

abbrev pick : Want
pick = Want.Pick (codes "a" ∷ [])

-- what is due with the tokens before it is left
left_of_a_pick : (run_of pick limit (codes "x.vcd") failing).output ≡ due pick declarations_allowed (take 11 (tokens_of (written dump)))
unfolding model
left_of_a_pick = due_is_left_at_a_halt pick limit (codes "x.vcd") failing (λ e. cc, λ e. cc) (λ e. cc)

-- it begins the output over the whole
first_of_a_pick : IsPrefixOf (due pick declarations_allowed (take 11 (tokens_of (written dump)))) (run_of pick limit (codes "x.vcd") (clean dump)).output
unfolding model
first_of_a_pick = due_is_never_revised pick limit (codes "x.vcd") (take 11 (tokens_of (written dump))) (clean dump) (λ e. cc, λ e. cc) (drop 11 (tokens_of (written dump)), refl)

-- if the source fails there, the output begins the one over the whole
cut_off_pick : IsPrefixOf (run_of pick limit (codes "x.vcd") failing).output (run_of pick limit (codes "x.vcd") (clean dump)).output
cut_off_pick = cut_off_is_a_prefix pick limit (codes "x.vcd") failing (clean dump) (λ e. cc, λ e. cc) (refl, (written "0 0!", refl))
