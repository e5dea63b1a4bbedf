use Rattle.vcd_compare_words.proofs.Cited.{◌≡◌, Some, None, rules, names_in, two_names}
use Rattle.vcd_compare_words.proofs.NamesLemmas.{named-none, named-push}
use Rattle.vcd_compare_words.proofs.names.add_names.Goals as goal

pub returns-in_default : goal.returns-in_default
returns-in_default c =
    let none : None ≡ two_names c.args.word.now = search rules in
    named-none (names_in c.args.names.now.items) c.args.word.now none

pub returns : goal.returns
returns c =
    let some : Some (c.in-Some.one.now, c.in-Some.other.now) ≡ two_names c.args.word.now = search rules in
    named-push c.args.names.now.items c.push.new.self.items c.in_ok-pair_of.field-0 (c.in-Some.one.now, c.in-Some.other.now) c.args.word.now
    (search rules) c.in_ok-pair_of.ensures.one c.in_ok-pair_of.ensures.other some
