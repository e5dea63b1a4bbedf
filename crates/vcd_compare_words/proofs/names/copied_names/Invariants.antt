use Rattle.vcd_compare_words.proofs.Cited.{◌≡◌, filter_map, take, texts, names_in, two_names}
use Rattle.vcd_compare_words.proofs.names.copied_names.Given as goal

abbrev pub invariant-loop-word : goal.invariant-loop-word
invariant-loop-word l = names_in l.names.items ≡ filter_map two_names (texts (take l.word-index l.words))
