-- Rows on what `strobe` wrote, read again: that the premises of the laws can be met.
use Rattle.vcd_laws.proofs.Cited.{String, Err, List, None, Ok, Result, Some, [], arith, codes, false, length, refl, ℕ, ◌<◌, ◌∷◌, ◌≡◌, input_of, at_contained, Asked, Want, outcome, Opened, Outcome, open_from, Fault, first_halt}
use Rattle.vcd_model.specs.Strobe.{Strobe, strobe}
use Rattle.vcd_model.specs.Within.{within}
use Rattle.vcd_laws.specs.CompareMerged.{both_inputs}
use Rattle.vcd_laws.specs.Strobes.{IsReadableStrobe, IsStrobeDump}
use Rattle.vcd_laws.specs.StrobesMerged.{asked_of_strobes, clocked}
use Rattle.vcd_laws.proofs.CompareRows.{all}
use Rattle.vcd_laws.proofs.Computing.{model}
use Rattle.vcd_laws.proofs.RowText.{clean, gives, limit}
use Rattle.vcd_laws.proofs.DumpBase.{aliased, opened, some_names, stdin}
use Rattle.vcd_laws.proofs.StrobeDump.{strobe_is_a_dump}

-- the rising edges of a, and the variables of some names
abbrev asked : Strobe
asked = record {
  clocks = record { word = codes "a"; path = codes "a"; place = None; falls = false } ∷ [];
  names = some_names;
}

abbrev strobed : Outcome
strobed = strobe asked limit stdin (clean aliased)

strobed_text : strobed ≡ gives
    "$scope module strobe $end;$var time 64 !! time $end;$upscope $end;$var wire 1 y b $end;$scope module m $end;$var wire 1 x c $end;$upscope $end;$enddefinitions $end;#1;b101 !!;0x;1y;"
    "" 0
unfolding model
strobed_text = refl

-- the premises of the law are met
strobed_within : IsReadableStrobe asked limit stdin (clean aliased) opened
unfolding model
strobed_within = record {
  opens = refl;
  clocks = refl;
  names = refl;
  least = omega arith;
  fits = λ c i. at_contained (λ d. length d.text < limit) opened.header.codes c
      ((omega arith), ((omega arith), tt)) i;
  bytes = omega arith;
  few = omega arith;
}

strobed_dump : IsStrobeDump limit asked opened strobed.output
strobed_dump = strobe_is_a_dump asked limit stdin (clean aliased) opened strobed_within

-- a time of 64 digits is a token of 65 bytes: read again with a limit of 64 it is too long
abbrev late : String
late = "$var wire 1 x a $end $enddefinitions $end 0x #9223372036854775808 1x"

abbrev all_of : Strobe
all_of = record { clocks = asked.clocks; names = [] }

strobed_late : first_halt 64 (input_of (strobe all_of 64 stdin (clean late)).output)
    ≡ Some (record { fault = 1; place = 175; line = 7 })
unfolding model
strobed_late = refl

-- the same values at other times, between which others come
abbrev other : String
other = "$timescale 1 ps $end $var wire 1 k a $end $var wire 1 n b $end $scope module m $end $var wire 1 k c $end $upscope $end $enddefinitions $end #7 1n 1k #8 0n #20 0k #21 1n #90 1k 0n"

abbrev opened_other : List Opened
opened_other = all_or (open_from limit [] (clean other ∷ []))
  where
    all_or : Result (List Opened) (ℕ × Fault) → List Opened
    all_or (Ok os) = os
    all_or (Err e) = []

abbrev merged : List ℕ
merged = (outcome Want.Merge limit (codes "a.vcd" ∷ codes "b.vcd" ∷ [])
    (input_of strobed.output ∷ input_of (strobe asked limit stdin (clean other)).output ∷ [])).output

abbrev without_time : Asked
without_time = record all { exceptions = codes "strobe.time" ∷ [] }

abbrev compared_strobes : List Opened → Outcome
compared_strobes [] = within all limit both_inputs stdin (input_of merged)
compared_strobes (o ∷ os) = within (asked_of_strobes without_time (clocked asked opened) (clocked asked o)) limit
    both_inputs stdin (input_of merged)

strobed_alike : compared_strobes opened_other ≡ gives "compared 2;" "" 0
unfolding model
strobed_alike = refl
