use Rattle.std.proofs.Common.{inl, refl}
use Rattle.vcd_strobe.proofs.FixedSteps.{same_itself}
use Rattle.vcd_strobe.proofs.AheadSteps.{rest_next}
use Rattle.vcd_strobe.proofs.ahead.EachItemVisitStrobe.take_timestamp.Goals as goal

pub returns-clause-takes : goal.returns-clause-takes
returns-clause-takes c = λ a a' out item. record {
  scanned = c.args._timestamp;
  item = item;
  same = same_itself c.args._strobe.now;
  regs = refl;
  on = λ p h items x views is known next few has.
      let one = c.args._timestamp in
      rest_next c.args._strobe.now p h items has one.text.now x one.item c.args._regs out next is (inl (c.args._time, c.requires.time));
}
