use Rattle.vcd_compare.proofs.Cited.{refl}
use Rattle.vcd_compare.proofs.Facts.{compares_still, open_same, section_quiet}
use Rattle.vcd_compare.proofs.comparing.WatchedVisitComparison.take_section.Goals as goal

pub returns-clause-takes : goal.returns-clause-takes
returns-clause-takes g c = λ a a' item. record {
  scanned = c.args._section;
  item = item;
  done = refl;
  out = refl;
  regs = c.requires.after;
  same = record { pairs = refl; asked = refl };
  on = λ h exceptions ns items x views is before after stands.
      let quiet = section_quiet h.codes c.args._section.text.now c.args._section.item x c.requires.section is in
      (compares_still h exceptions ns items x c.args._comparison.now c.args.self.now stands quiet.0 quiet.1, open_same h exceptions ns items x c.args._comparison.now c.args.self.now stands quiet.0);
}
