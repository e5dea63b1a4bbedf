use Rattle.vcd_compare.proofs.Cited.{refl, rules}
use Rattle.vcd_compare.proofs.comparing.WatchedVisitComparison.take_change.Goals as goal

pub returns-clause-takes : goal.returns-clause-takes
returns-clause-takes g c = λ a a' item. record {
  scanned = c.args.change;
  item = item;
  done = refl;
  out = refl;
  regs = search rules;
  same = c.take.ensures.same;
  on = c.take.ensures.on c.args.self.now;
}
