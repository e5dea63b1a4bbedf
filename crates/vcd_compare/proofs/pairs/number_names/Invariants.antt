use Rattle.vcd_compare.proofs.Cited.{ℕ, List, take, EntersNames, names_in, HasTexts}
use Rattle.vcd_compare.proofs.pairs.number_names.Given as goal

abbrev pub invariant-loop-name : goal.invariant-loop-name
invariant-loop-name l = (texts : List (List ℕ)) → HasTexts l.initial.paths texts → EntersNames texts l.paths (names_in (take l.name-index l.names)) l.numbers.items
