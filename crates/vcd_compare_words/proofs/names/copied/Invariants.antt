use Rattle.vcd_compare_words.proofs.Cited.{◌≡◌, map, take, texts}
use Rattle.vcd_compare_words.proofs.names.copied.Given as goal

abbrev pub invariant-loop-word : goal.invariant-loop-word
invariant-loop-word l = map (λ copy. copy.items) l.copies.items ≡ texts (take l.word-index l.words)
