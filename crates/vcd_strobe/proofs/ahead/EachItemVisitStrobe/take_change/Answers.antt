use Rattle.std.proofs.Common.{ap, subst, sym}
use Rattle.vcd_body.specs.Given.{IsItem}
use Rattle.vcd_body.specs.Items.{regs_after}
use Rattle.vcd_body.specs.declared.item.Item.{Item}
use Rattle.vcd_strobe.proofs.ahead.EachItemVisitStrobe.take_change.Goals as goal

pub returns-clause-takes : goal.returns-clause-takes
returns-clause-takes g c = λ a a' item. record {
  scanned = c.args.change;
  item = item;
  same = c.take_any.ensures.same;
  regs = sym (ap (regs_after c.args.regs) c.in-Change.is);
  on = λ p h items x views is known next few has.
      let its = subst (λ (i : Item). IsItem h.codes c.args.change.text.now i x) c.in-Change.is is in
      rw its.2 (c.take_any.ensures.takes p h items its.0 views has known its.1 few);
}
