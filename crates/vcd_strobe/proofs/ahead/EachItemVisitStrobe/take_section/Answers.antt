use Rattle.vcd_strobe.proofs.FixedSteps.{same_itself}
use Rattle.vcd_strobe.proofs.AheadSteps.{rest_next, section_rests}
use Rattle.vcd_strobe.proofs.ahead.EachItemVisitStrobe.take_section.Goals as goal

pub returns-clause-takes : goal.returns-clause-takes
returns-clause-takes g c = λ a a' item. record {
  scanned = c.args._section;
  item = item;
  same = same_itself c.args._strobe.now;
  regs = c.requires.after;
  on = λ p h items x views is known next few has.
      let one = c.args._section in
      let rests = section_rests one.item c.requires.section in
      rest_next c.args._strobe.now p h items has one.text.now x one.item c.args._before (g.W.Sink.device c.args._out.now) next is rests;
}
