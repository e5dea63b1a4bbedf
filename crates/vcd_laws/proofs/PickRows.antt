-- Rows on what `pick` wrote, read again: that the premises of the laws can be met.
use Rattle.vcd_laws.proofs.Cited.{◌≡◌, ℕ, ◌<◌, false, List, [], ◌∷◌, length, map, codes, None, Contains, inl, inr, refl, arith, Selected, selected, Declaration, pick_kept, items_in, at_contained, String, first_halt, Want, IsJob, written_by, input_of, over_written, IsReadable, declarations_kept, given, IsWholeDump, SelectBoth, distinct}
use Rattle.vcd_laws.proofs.KeepsAll.{pick_keeps_all}
use Rattle.vcd_laws.proofs.PickedAlone.{sample_of_all_picked, edges_of_all_picked, edges_of_some_picked}
use Rattle.vcd_laws.proofs.PickOfPick.{pick_of_pick}
use Rattle.vcd_laws.proofs.WrittenCodes.{from_contained, to_contained}
use Rattle.vcd_laws.proofs.Computing.{model}
use Rattle.vcd_laws.proofs.RowText.{clean, limit, gives, on, sample, at}
use Rattle.vcd_laws.proofs.DumpBase.{stdin, aliased, some_names, opened, over_pick, rising_alone, wire, bit}

abbrev picked_text : String
picked_text =
    "$date;^$scope today;$end;$timescale;^1ns;$end;$var wire 1 y b $end;$scope module m $end;$var wire 1 x c $end;$upscope $end;$enddefinitions $end;#0;0x;1y;#5;1x;"

picked : on (Want.Pick some_names) aliased ≡ gives picked_text "" 0
unfolding model
picked = refl

-- the premises of the laws of `pick` are met
picked_within : IsReadable (Want.Pick some_names) limit stdin (clean aliased) opened
unfolding model
picked_within = record {
  opens = refl;
  clean = refl;
  least = omega arith;
  fits = λ c i. at_contained (λ d. length d.text < limit) opened.header.codes c
      ((omega arith), ((omega arith), tt)) i;
  bytes = omega arith;
  few = omega arith;
}

picked_not_halted : first_halt limit (input_of
    (written_by (Want.Pick some_names) limit stdin (clean aliased))) ≡ None
unfolding model
picked_not_halted = refl

picked_checked : over_pick Want.Check ≡ gives
    "scopes 1;variables 2;codes 2;times 2;sections 0;changes 3;last 5;" "" 0
unfolding model
picked_checked = refl

picked_twice : over_pick (Want.Pick some_names) ≡ gives picked_text "" 0
unfolding model
picked_twice = refl

picked_listed : over_pick Want.Listing ≡ gives "b wire 1 y;m.c wire 1 x;" "" 0
unfolding model
picked_listed = refl

picked_sampled : over_pick (sample (0 ∷ 5 ∷ []) some_names)
    ≡ gives "0 b 1;0 m.c 0;5 b 1;5 m.c 1;" "" 0
unfolding model
picked_sampled = refl

sampled : on (sample (0 ∷ 5 ∷ []) some_names) aliased ≡ gives "0 b 1;0 m.c 0;5 b 1;5 m.c 1;" "" 0
unfolding model
sampled = refl

-- all declarations and changes that are kept, with the law's premises met
picked_declarations : declarations_kept some_names opened.header.declarations
    ≡ Declaration.Var (wire "y" "b") ∷ Declaration.Scope (codes "module") (codes "m")
    ∷ Declaration.Var (wire "x" "c") ∷ Declaration.Up ∷ []
unfolding model
picked_declarations = refl

picked_changes : given (pick_kept opened.header some_names (items_in opened))
    ≡ bit 0 false "x" 48 ∷ bit 0 false "y" 49 ∷ bit 5 false "x" 49 ∷ []
unfolding model
picked_changes = refl

pick_all : IsWholeDump limit (written_by (Want.Pick some_names) limit stdin (clean aliased))
    (declarations_kept some_names opened.header.declarations)
    (given (pick_kept opened.header some_names (items_in opened)))
pick_all = pick_keeps_all limit stdin some_names (clean aliased) opened picked_within

-- without names all that was picked is sampled and counted
picked_sampled_alone : over_pick (sample (0 ∷ 5 ∷ []) [])
    ≡ gives "0 b 1;0 m.c 0;5 b 1;5 m.c 1;" "" 0
unfolding model
picked_sampled_alone = refl

asked_of_pick : IsJob (sample (0 ∷ 5 ∷ []) some_names)
asked_of_pick = (λ e. cc, (((omega arith), refl), (((omega arith), refl), tt)), λ e. rising_alone)

-- the laws on pipes without names, with all their premises met
pick_sample_alone : over_pick (sample (0 ∷ 5 ∷ []) []) ≡ on (sample (0 ∷ 5 ∷ []) some_names) aliased
unfolding model
pick_sample_alone = sample_of_all_picked limit stdin some_names (map at (0 ∷ 5 ∷ []))
    (clean aliased) opened asked_of_pick picked_within

pick_edges_alone : over_pick (Want.Edges []) ≡ on (Want.Edges some_names) aliased
unfolding model
pick_edges_alone = edges_of_all_picked limit stdin some_names (clean aliased) opened picked_within

-- a name that selects more than the pick
picked_under : over_written (Want.Edges (codes "m" ∷ [])) (Want.Pick (codes "m.c" ∷ [])) limit stdin
    (clean aliased) ≡ gives "m.c 1 1 0;" "" 0
unfolding model
picked_under = refl

-- a pick of less than was picked
just_m : List (List ℕ)
just_m = codes "m" ∷ []

abbrev at_m : Selected
at_m = record {
  path = codes "m.c";
  variable = record {
    type = codes "wire";
    size = 1;
    code = codes "x";
    reference = codes "c" ∷ [];
  };
}

both_select : SelectBoth just_m some_names just_m opened.header
unfolding model just_m
both_select = record {
  each_selects = λ w i. at_contained (λ n. (s : Selected)
      × Contains (selected (n ∷ []) opened.header.declarations) s
      × Contains (selected some_names opened.header.declarations) s) just_m w
      ((at_m, refl_in, there_in), tt) i;
  alone = refl;
  together = λ s. (
    λ i. (
      i,
      to_contained (selected some_names opened.header.declarations) s
          (inr (from_contained (selected just_m opened.header.declarations) s i)),
    ),
    λ i. i.0,
  );
}
  where
    refl_in : Contains (selected just_m opened.header.declarations) at_m
    refl_in = to_contained (selected just_m opened.header.declarations) at_m (inl refl)

    there_in : Contains (selected some_names opened.header.declarations) at_m
    there_in = to_contained (selected some_names opened.header.declarations) at_m (inr (inl refl))

-- the laws on pipes with other names, with all their premises met
pick_pick : over_pick (Want.Pick just_m) ≡ on (Want.Pick just_m) aliased
unfolding model
pick_pick = pick_of_pick limit stdin some_names just_m just_m (clean aliased) opened picked_within
    both_select (λ e. cc)

pick_edges : over_pick (Want.Edges just_m) ≡ on (Want.Edges just_m) aliased
unfolding model
pick_edges = edges_of_some_picked limit stdin some_names just_m just_m (clean aliased) opened
    picked_within both_select

picked_less : over_pick (Want.Pick (codes "m" ∷ []))
    ≡ gives "$date;^$scope today;$end;$timescale;^1ns;$end;$scope module m $end;$var wire 1 x c $end;$upscope $end;$enddefinitions $end;#0;0x;#5;1x;" "" 0
unfolding model
picked_less = refl

picked_counted : over_pick (Want.Edges some_names) ≡ gives "b 0 0 0;m.c 1 1 0;" "" 0
unfolding model
picked_counted = refl

counted : on (Want.Edges some_names) aliased ≡ gives "b 0 0 0;m.c 1 1 0;" "" 0
unfolding model
counted = refl

-- changes before the first timestamp have time 0, and what is written has a timestamp for it
abbrev unmarked : String
unmarked = "$var wire 1 x a $end $enddefinitions $end 0x"

unmarked_checked : on Want.Check unmarked ≡ gives
    "scopes 0;variables 1;codes 1;times 0;sections 0;changes 1;last -;" "" 0
unfolding model
unmarked_checked = refl

unmarked_picked : over_written Want.Check (Want.Pick (codes "a" ∷ [])) limit stdin (clean unmarked)
    ≡ gives "scopes 0;variables 1;codes 1;times 1;sections 0;changes 1;last 0;" "" 0
unfolding model
unmarked_picked = refl

-- times that are written once each
once_each : distinct (0 ∷ 0 ∷ 5 ∷ 7 ∷ 7 ∷ []) ≡ 3
once_each = refl
