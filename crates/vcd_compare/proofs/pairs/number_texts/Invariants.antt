use Rattle.vcd_compare.proofs.Cited.{ℕ, List, map, take, EntersTexts, HasTexts}
use Rattle.vcd_compare.proofs.pairs.number_texts.Given as goal

abbrev pub invariant-loop-text : goal.invariant-loop-text
invariant-loop-text l = (known : List (List ℕ)) → HasTexts l.initial.paths known → EntersTexts known l.paths (map (λ t. t.items) (take l.text-index l.texts)) l.numbers.items
