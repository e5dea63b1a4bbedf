-- What each item appends to what was written, computed.
use Rattle.vcd_laws.proofs.Cited.{◌≡◌, ℕ, ℤ, pos, ◌+◌, Bool, true, false, List, [], ◌∷◌, map, take, drop, length, codes, Option, Some, None, Ok, Err, refl, String, range_with_len, Fault, Header, BodyItem, ChangeForm, Entry, SectionKind, Dump, Keyed, headers_of, due_with, entry_for, keyed_own, keyed_rest, with_item, written_with, Request, Opened, open_from, items_in, fault_in, open_text}
use Rattle.vcd_laws.proofs.Computing.{model}
use Rattle.vcd_laws.proofs.RowText.{written, clean}

abbrev opened : String → List Opened
opened s = elim (open_from 1048576 [] (clean s ∷ [])) [ Ok os ↦ os | Err e ↦ [] ]

-- what comes before all items, then what each of these items appends
abbrev steps_of : (List BodyItem → List ℕ) → List BodyItem → List (List ℕ)
steps_of text items = text [] ∷ map (λ n. drop (length (text (take n items))) (text (take (n + 1) items))) (range_with_len 0 (length items))

-- the steps of a run, and the fault after them
pub record Steps : Type 0 where
  pub appended : List (List ℕ)
  pub fault : Option Fault

abbrev steps : Request → String → List Steps
steps task s = map (λ o. record { appended = steps_of (open_text task o.header) (items_in o); fault = fault_in o }) (opened s)

-- the change appends its time and its line, the timestamps nothing; after them the input ends in a
-- change
pick_steps : steps (Request.Pick
    (codes "tb" ∷ [])) "$timescale 1ns $end;$scope module tb $end;$var wire 1 ! clk $end;$var reg 4 \" q [3:0] $end;$upscope $end;$enddefinitions $end;#0;0!;#5;b10"
    ≡ record {
      appended = written "$timescale;^1ns;$end;$scope module tb $end;$var wire 1 ! clk $end;$var reg 4 \" q [3:0] $end;$upscope $end;$enddefinitions $end;" ∷ written "" ∷ written "#0;0!;" ∷ written "" ∷ [];
      fault = Some
          (record { number = 2; line = 10 });
    } ∷ []
unfolding model
pick_steps = refl

-- nothing but the head before the start section is due; the timestamp above 15 appends the line of
-- 15
cut_steps : steps (Request.Cut 10 15)
    "$var wire 1 ! a $end;$var real 1 \" r $end;$var event 1 # e $end;$var wire 2 % u $end;$enddefinitions $end;#9;0!;r1.5 \";1#;#10;1!;1#;#20;"
    ≡ record { appended = written "$var wire 1 ! a $end;$var real 1 \" r $end;$var event 1 # e $end;$var wire 2 % u $end;$enddefinitions $end;" ∷ written "" ∷ written "" ∷ written "" ∷ written "" ∷ written "#10;$dumpvars;0!;r1.5 \";$end;" ∷ written "1!;" ∷ written "1#;" ∷ written "#15;" ∷ []; fault = None } ∷ []
unfolding model
cut_steps = refl

-- what follows the timestamp that ends a cut adds nothing
cut_steps_past_its_end : steps (Request.Cut 3 5) "$var wire 1 ! a $end;$enddefinitions $end;0!;#4;1!;#6;0!;#7;1!;"
    ≡ record { appended = written "$var wire 1 ! a $end;$enddefinitions $end;" ∷ written "" ∷ written "#3;$dumpvars;0!;$end;" ∷ written "#4;1!;" ∷ written "#5;" ∷ written "" ∷ written "" ∷ written "" ∷ []; fault = None } ∷ []
unfolding model
cut_steps_past_its_end = refl

-- the lines of a time are due at the first timestamp above it
sample_steps : steps (Request.Sample (1 ∷ []) []) "$var wire 4 ! v $end;$var wire 8 \" w $end;$enddefinitions $end;#1;b1 !;#2;?;"
    ≡ record { appended = written "" ∷ written "" ∷ written "" ∷ written "1 v 0001;1 w -;" ∷ []; fault = Some (record { number = 3; line = 7 }) } ∷ []
unfolding model
sample_steps = refl

-- ---- the items of a merge, input by input

-- a change of a code of one bit, an event or none, as a digit
abbrev digit : Bool → String → String → BodyItem
digit event code text = BodyItem.Changes (record { code = record { text = codes code; size = 1; event = event }; form = ChangeForm.Scalar; text = codes text })

-- a header with these codes, of one bit each
abbrev with_codes : List String → Option ℤ → Header
with_codes cs scale = record { declarations = []; codes = map (λ c. record { text = codes c; size = 1; event = false }) cs; date = []; version = []; scale = scale }

-- the first with a scale of ten seconds, the second without one
abbrev two_dumps : List Dump
two_dumps =
    record { header = with_codes ("!" ∷ "\"" ∷ []) (Some (pos 1)); items = digit false "\"" "1" ∷ BodyItem.Time 2 ∷ BodyItem.Begin SectionKind.Off ∷ []; fault = None }
    ∷ record { header = with_codes ("!" ∷ []) None; items = BodyItem.Time 7 ∷ digit false "!" "0" ∷ []; fault = None } ∷ []

-- an item, by its position in a merge
abbrev keyed : ℕ → ℕ → ℕ → Bool → BodyItem → Keyed
keyed time input place inside item = record { key = record { time = time; input = input; place = place }; entry = record { time = time; inside = inside; item = item } }

-- times are scaled, and codes numbered over all inputs
items_by_input : keyed_rest (headers_of two_dumps) 0 [] two_dumps ≡ keyed 0 0 0 false (digit false "\"" "1") ∷ keyed 0 0 1 false
    (BodyItem.Time 20) ∷ keyed 20 0 2 false (BodyItem.Begin SectionKind.Off) ∷ keyed 0 1 0 false (BodyItem.Time 7) ∷ keyed 7 1 1 false
    (digit false "#" "0") ∷ []
unfolding model
items_by_input = refl

-- after inputs that are not listed
items_of_a_later_input : map (λ d. keyed_own (headers_of two_dumps) 3 (headers_of two_dumps) d) (drop 1 two_dumps) ≡
    (keyed 0 3 0 false (BodyItem.Time 7) ∷ keyed 7 3 1 false (digit false "$" "0") ∷ []) ∷ []
unfolding model
items_of_a_later_input = refl

-- one item more of the first input: inside its section, the other is as it was
one_item_more : map (λ d.
    d.items) (with_item two_dumps 0 (record { header = with_codes [] None; items = BodyItem.Begin SectionKind.On ∷ []; fault = None }) BodyItem.End)
    ≡ (BodyItem.Begin SectionKind.On ∷ BodyItem.End ∷ []) ∷ (BodyItem.Time 7 ∷ digit false "!" "0" ∷ []) ∷ []
unfolding model
one_item_more = refl

-- a dump with three codes and a fault
abbrev faulty : Dump
faulty = record { header = with_codes ("a" ∷ "b" ∷ "c" ∷ []) None; items = []; fault = Some (record { number = 3; line = 7 }) }

-- with one item more its fault and its header are as they were
fault_stays : map (λ d. d.fault) (with_item two_dumps 1 faulty BodyItem.End) ≡ None ∷ Some (record { number = 3; line = 7 }) ∷ []
unfolding model
fault_stays = refl

header_stays : map (λ d. length d.header.codes) (with_item two_dumps 1 faulty BodyItem.End) ≡ 2 ∷ 3 ∷ []
unfolding model
header_stays = refl

entry_of_an_item : entry_for 10 5 (with_codes ("!" ∷ "\"" ∷ []) None) (BodyItem.Time 2 ∷ BodyItem.Begin SectionKind.Off ∷ []) (digit false "\"" "x")
    ≡ record { time = 20; inside = true; item = digit false "'" "x" }
unfolding model
entry_of_an_item = refl

-- an item at time 5, inside a section or not
abbrev at_five : Bool → BodyItem → Entry
at_five inside item = record { time = 5; inside = inside; item = item }

-- What each adds if no time is written yet, if its own is and if another is: a change, one
-- in a section, a trigger of an event, one in a section, a begin, an end and a timestamp.
lines_due : map (λ written. map (due_with written) (at_five false (digit false "!" "1") ∷ at_five true (digit false "!" "x") ∷ at_five false
    (digit true "!" "x") ∷ at_five true (digit true "!" "1") ∷ at_five false
    (BodyItem.Begin SectionKind.All) ∷ at_five true BodyItem.End ∷ at_five false (BodyItem.Time 9) ∷ [])) (None ∷ Some 5 ∷ Some 4 ∷ []) ≡
    (written "#5;1!;" ∷ written "#5;x!;" ∷ written "#5;1!;" ∷ [] ∷ [] ∷ [] ∷ [] ∷ []) ∷
    (written "1!;" ∷ written "x!;" ∷ written "1!;" ∷ [] ∷ [] ∷ [] ∷ [] ∷ []) ∷
    (written "#5;1!;" ∷ written "#5;x!;" ∷ written "#5;1!;" ∷ [] ∷ [] ∷ [] ∷ [] ∷ []) ∷ []
unfolding model
lines_due = refl

times_written_last : map (λ written. map (written_with written)
    (at_five false (digit false "!" "1") ∷ at_five true (digit false "!" "x") ∷ at_five true (digit true "!" "1") ∷ at_five false
    (BodyItem.Begin SectionKind.All) ∷ at_five false (BodyItem.Time 9) ∷ [])) (None ∷ Some 4 ∷ []) ≡ (Some 5 ∷ Some 5 ∷ None ∷ None ∷ None ∷ []) ∷
    (Some 5 ∷ Some 5 ∷ Some 4 ∷ Some 4 ∷ Some 4 ∷ []) ∷ []
unfolding model
times_written_last = refl
