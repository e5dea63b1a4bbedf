use Rattle.vcd_compare_words.proofs.Cited.{◌≡◌, Some, false, rules, bytes_eq, two_names}
use Rattle.vcd_compare_words.proofs.NamesLemmas.{two-are}
use Rattle.vcd_compare_words.proofs.names.check_name.Goals as goal

pub returns-clause-names : goal.returns-clause-names
returns-clause-names c =
    let some : Some (c.in-Some.one.now, c.in-Some.other.now) ≡ two_names c.args.word.now = search rules in
    let differ : bytes_eq c.in-Some.one.now c.in-Some.other.now ≡ false = search rules in
    ((c.in-Some.one.now, c.in-Some.other.now), two-are c.args.word.now (c.in-Some.one.now, c.in-Some.other.now) some differ)
