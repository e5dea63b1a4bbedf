use Rattle.vcd_changes.proofs.Cited.{◌≡◌, ◌++◌, append-nil, refl, subst, sym, take, regs_after, Item, row_added}
use Rattle.vcd_changes.proofs.Facts.{not_both}
use Rattle.vcd_changes.proofs.walk.CollectingVisitRows.take_timestamp.Goals as goal

pub returns-clause-takes : goal.returns-clause-takes
returns-clause-takes c = λ a a' out item.
    let own = c.args.self.now in
    let timestamp = c.args._timestamp in
    let rows = take own.count c.args._rows.now.rows.now in
    record {
      scanned = timestamp;
      item = item;
      done = refl;
      same = record { index = refl; loan = refl };
      room = c.requires.stands;
      regs = refl;
      full = λ e. absurd (not_both _ e c.requires.no_stop);
      added = λ e. subst (λ (i : Item). rows ≡ rows ++ row_added own.index (regs_after c.args._regs timestamp.item).time timestamp.text.now i) (sym c.requires.time) (sym (append-nil rows));
      end = λ e. rw e refl;
    }
