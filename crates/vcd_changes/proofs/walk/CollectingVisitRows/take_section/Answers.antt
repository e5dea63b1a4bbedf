use Rattle.vcd_changes.proofs.Cited.{◌++◌, ◌∙◌, ap, append-nil, refl, sym, take}
use Rattle.vcd_changes.proofs.Facts.{no_row, not_both}
use Rattle.vcd_changes.proofs.walk.CollectingVisitRows.take_section.Goals as goal

pub returns-clause-takes : goal.returns-clause-takes
returns-clause-takes g c = λ a a' item.
    let own = c.args.self.now in
    let section = c.args._section in
    let rows = take own.count c.args._rows.now.rows.now in
    record {
      scanned = section;
      item = item;
      done = refl;
      same = record { index = refl; loan = refl };
      room = c.requires.stands;
      regs = c.requires.after;
      full = λ e. absurd (not_both _ e c.requires.no_stop);
      added = λ e. sym (append-nil rows) ∙ ap (λ l. rows ++ l) (sym (no_row own.index c.args._after.time section.text.now section.item c.requires.section));
      end = λ e. rw e refl;
    }
