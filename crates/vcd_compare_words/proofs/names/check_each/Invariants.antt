use Rattle.vcd_compare_words.proofs.Cited.{◌≡◌, Ok, List, take, Names, names_asked, texts}
use Rattle.vcd_compare_words.proofs.names.check_each.Given as goal

abbrev pub invariant-loop-word : goal.invariant-loop-word
invariant-loop-word l = (ns : List Names) × (names_asked (texts (take l.word-index l.words)) ≡ Ok ns)
