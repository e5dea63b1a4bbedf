use Rattle.vcd_compare_words.proofs.Cited.{◌≡◌, ◌+◌, arith, filter_map, names_in, take, texts, two_names}
use Rattle.vcd_compare_words.proofs.NamesLemmas.{two-next}
use Rattle.vcd_compare_words.proofs.names.copied_names.Goals as goal

pub loop-word-preserved : goal.loop-word-preserved
loop-word-preserved c =
    let given : names_in c.loop-word.names.items ≡ filter_map two_names (texts (take c.loop-word.word-index c.args.words.now)) = c.loop-word.invariant in
    two-next c.args.words.now c.loop-word.word-index _ (omega (arith, c.loop-word-test.true)) (c.loop-word.word-index + 1)
    (names_in c.loop-word.names.items) _ (omega arith) given c.in_ok-add_names.ensures
