use Rattle.vcd_strobe_words.proofs.Cited.{◌∙◌, arith}
use Rattle.vcd_strobe_words.proofs.ClocksLemmas.{at-no-number, at-place, no-at}
use Rattle.vcd_strobe_words.proofs.clocks.path_and_place.Goals as goal

pub returns-in_default : goal.returns-in_default
returns-in_default c = no-at c.args.word.now c.in_default.ensures.cases

pub returns-in-Some-number_of : goal.returns-in-Some-number_of
returns-in-Some-number_of c =
    let cut = c.in-Some.ensures.cases in
    at-place c.args.word.now cut.0 cut.1 cut.2 (omega arith) c.as_bytes.result.now (c.as_bytes.ensures.value ∙ cut.4)
    c.in-Some.path.now c.in-Some-number_of.place cut.3 c.in-Some-number_of.ensures

pub returns-in-None : goal.returns-in-None
returns-in-None c =
    let cut = c.in-Some.ensures.cases in
    at-no-number c.args.word.now cut.0 cut.1 cut.2 (omega arith) c.as_bytes.result.now (c.as_bytes.ensures.value ∙ cut.4) c.in-None.ensures
