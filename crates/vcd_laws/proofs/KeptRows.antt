-- What was written, read again: it has no fault, and gives the same values at the times that are
-- listed.
use Rattle.vcd_laws.proofs.Cited.{◌≡◌, ℕ, List, [], ◌∷◌, ◌++◌, map, filter, drop, length, not, Option, Some, None, Ok, Err, codes, refl, String, IdCode, BodyItem, Value, value_at, head_for, merged_head, selected, selects_code, Fault, body_items, body_fault_of, read_text, stream_over, merged_codes, cut_text, Request, Opened, open_from, items_in, open_text, close_text, dumps_of, headers_of, merged_items, merge_open, merge_close}
use Rattle.vcd_laws.proofs.Computing.{model}
use Rattle.vcd_laws.proofs.RowText.{clean}

abbrev opened : String → List Opened
opened s = elim (open_from 1048576 [] (clean s ∷ [])) [ Ok os ↦ os | Err e ↦ [] ]

-- a fault, and the values of the codes that are no events
pub record Seen : Type 0 where
  pub fault : Option Fault
  pub values : List (List (Option Value))

abbrev seen : List IdCode → List ℕ → List BodyItem → Option Fault → Seen
seen cs times items fault = record { fault = fault; values = map (λ c. map (value_at items c) times) (filter (λ c. not c.event) cs) }

abbrev seen_again : List IdCode → List ℕ → List ℕ → Seen
seen_again cs times text = seen cs times (body_items (read_text cs text)) (body_fault_of (stream_over text) (read_text cs text))

abbrev codes_for : Opened → List (List ℕ) → List IdCode
codes_for o names = filter (selects_code (selected names o.header.declarations)) o.header.codes

abbrev pick_again : String → List (List ℕ) → List ℕ → List Seen
pick_again s names times = map (λ o. seen_again (codes_for o names) times
    (drop (length (head_for o.header names)) (open_text (Request.Pick names) o.header (items_in o) ++ close_text (Request.Pick names) o.header
    (items_in o)))) (opened s)

abbrev pick_before : String → List (List ℕ) → List ℕ → List Seen
pick_before s names times = map (λ o. seen (codes_for o names) times (items_in o) None) (opened s)

abbrev cut_again : String → ℕ → ℕ → List ℕ → List Seen
cut_again s a b times = map (λ o. seen_again o.header.codes times (drop (length (head_for o.header [])) (cut_text o.header a b (items_in o)))) (opened s)

abbrev cut_before : String → List ℕ → List Seen
cut_before s times = map (λ o. seen o.header.codes times (items_in o) None) (opened s)

pick_keeps_all : pick_again "$timescale 1ns $end;$scope module tb $end;$var wire 1 ! clk $end;$var reg 4 \" q [3:0] $end;$upscope $end;$enddefinitions $end;#0;b0010 \";b1 !;"
    (codes "tb" ∷ []) (0 ∷ 1 ∷ [])
    ≡ pick_before "$timescale 1ns $end;$scope module tb $end;$var wire 1 ! clk $end;$var reg 4 \" q [3:0] $end;$upscope $end;$enddefinitions $end;#0;b0010 \";b1 !;"
    (codes "tb" ∷ []) (0 ∷ 1 ∷ [])
unfolding model
pick_keeps_all = refl

pick_keeps_aliases : pick_again "$var wire 4 ! a $end;$var wire 4 ! b $end;$var wire 1 \" c $end;$enddefinitions $end;b1 !;#3;$dumpoff;bx !;x\";$end;#7;bZ !;#7;b01x0 !;"
    (codes "b" ∷ []) (0 ∷ 2 ∷ 3 ∷ 6 ∷ 7 ∷ 8 ∷ [])
    ≡ pick_before "$var wire 4 ! a $end;$var wire 4 ! b $end;$var wire 1 \" c $end;$enddefinitions $end;b1 !;#3;$dumpoff;bx !;x\";$end;#7;bZ !;#7;b01x0 !;"
    (codes "b" ∷ []) (0 ∷ 2 ∷ 3 ∷ 6 ∷ 7 ∷ 8 ∷ [])
unfolding model
pick_keeps_aliases = refl

cut_keeps_up_to_mark : cut_again "$var wire 1 ! a $end;$var real 1 \" r $end;$var event 1 # e $end;$var wire 2 % u $end;$enddefinitions $end;#9;0!;r1.5 \";1#;#10;1!;1#;#20;r2 \";#21;0!;" 10 20
    (10 ∷ 15 ∷ 20 ∷ []) ≡ cut_before "$var wire 1 ! a $end;$var real 1 \" r $end;$var event 1 # e $end;$var wire 2 % u $end;$enddefinitions $end;#9;0!;r1.5 \";1#;#10;1!;1#;#20;r2 \";#21;0!;"
    (10 ∷ 15 ∷ 20 ∷ [])
unfolding model
cut_keeps_up_to_mark = refl

cut_keeps_between_marks : cut_again "$var wire 1 ! a $end;$var real 1 \" r $end;$var event 1 # e $end;$var wire 2 % u $end;$enddefinitions $end;#9;0!;r1.5 \";1#;#10;1!;1#;#20;r2 \";#21;0!;" 10 15
    (10 ∷ 12 ∷ 15 ∷ []) ≡ cut_before "$var wire 1 ! a $end;$var real 1 \" r $end;$var event 1 # e $end;$var wire 2 % u $end;$enddefinitions $end;#9;0!;r1.5 \";1#;#10;1!;1#;#20;r2 \";#21;0!;"
    (10 ∷ 12 ∷ 15 ∷ [])
unfolding model
cut_keeps_between_marks = refl

cut_keeps_behind_last_mark : cut_again "$var wire 1 ! a $end;$var real 1 \" r $end;$var event 1 # e $end;$var wire 2 % u $end;$enddefinitions $end;#9;0!;r1.5 \";1#;#10;1!;1#;#20;r2 \";#21;0!;" 30 40
    (30 ∷ 35 ∷ 40 ∷ []) ≡ cut_before "$var wire 1 ! a $end;$var real 1 \" r $end;$var event 1 # e $end;$var wire 2 % u $end;$enddefinitions $end;#9;0!;r1.5 \";1#;#10;1!;1#;#20;r2 \";#21;0!;"
    (30 ∷ 35 ∷ 40 ∷ [])
unfolding model
cut_keeps_behind_last_mark = refl

cut_keeps_from_zero : cut_again "$var wire 1 ! a $end;$var real 1 \" r $end;$var event 1 # e $end;$var wire 2 % u $end;$enddefinitions $end;1!;#0;0!;#9;" 0 5
    (0 ∷ 3 ∷ 5 ∷ []) ≡ cut_before "$var wire 1 ! a $end;$var real 1 \" r $end;$var event 1 # e $end;$var wire 2 % u $end;$enddefinitions $end;1!;#0;0!;#9;"
    (0 ∷ 3 ∷ 5 ∷ [])
unfolding model
cut_keeps_from_zero = refl

-- several inputs
abbrev opened_all : List String → List Opened
opened_all ss = elim (open_from 1048576 [] (map (λ s. clean s) ss)) [ Ok os ↦ os | Err e ↦ [] ]

abbrev merge_again : List String → List ℕ → Seen
merge_again ss times =
    let ds = dumps_of (opened_all ss) in
    let hs = headers_of ds in
    seen_again (merged_codes hs) times (drop (length (merged_head hs)) (merge_open hs (merged_items ds) ++ merge_close (merged_items ds)))

merge_keeps_two : merge_again
    ("$timescale 1ns $end;$var wire 1 ! a $end;$var event 1 # e $end;$enddefinitions $end;1!;#1;0!;1#;#3;1!;" ∷ "$timescale 100ps $end;$var wire 4 ! b $end;$var real 1 \" r $end;$enddefinitions $end;#5;b1 !;#10;r2.5 \";b0x1 !;#20;bz !;" ∷ [])
    (0 ∷ 5 ∷ 10 ∷ 20 ∷ 30 ∷ []) ≡ record {
      fault = None;
      values =
          (Some (Value.Bits (codes "1")) ∷ Some (Value.Bits (codes "1")) ∷ Some (Value.Bits (codes "0")) ∷ Some (Value.Bits (codes "0")) ∷ Some
          (Value.Bits (codes "1")) ∷ []) ∷ (None ∷ Some (Value.Bits (codes "0001")) ∷ Some (Value.Bits (codes "00x1")) ∷ Some
          (Value.Bits (codes "zzzz")) ∷ Some (Value.Bits (codes "zzzz")) ∷ []) ∷
          (None ∷ None ∷ Some (Value.Real (codes "2.5")) ∷ Some (Value.Real (codes "2.5")) ∷ Some (Value.Real (codes "2.5")) ∷ []) ∷ [];
    }
unfolding model
merge_keeps_two = refl
