use Rattle.vcd_strobe_words.proofs.Cited.{◌≡◌, ◌++◌, map, take, clock_asked, model_name}
use Rattle.vcd_strobe_words.proofs.clocks.add_clocks.Given as goal

abbrev pub invariant-loop-word : goal.invariant-loop-word
invariant-loop-word l =
    map model_name l.clocks.items ≡ map model_name l.initial.clocks.items ++ map (clock_asked l.falls) (map (λ word. word.now) (take l.word-index l.words))
