use Rattle.vcd_text.proofs.Cited.{◌∙◌, ap, phase_at}
use Rattle.vcd_text.proofs.Facts.{phase_back}
use Rattle.vcd_text.proofs.offset.offset_of.Goals as goal

pub returns-clause-comes : goal.returns-clause-comes
returns-clause-comes c = record {
  counted = c.requires.counted;
  few = c.requires.few;
  phase = c.args.parked.phase;
  phase_is = ap phase_at c.answer_number.ensures ∙ phase_back c.args.parked.phase;
}
