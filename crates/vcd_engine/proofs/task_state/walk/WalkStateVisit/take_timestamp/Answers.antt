use Rattle.vcd_engine.proofs.Cited.{◌≡◌, ◌∙◌, ap, refl, subst, sym, BodyItem, IsItem, regs_after, IsSpelledAs, Item, IsPart}
use Rattle.vcd_engine.proofs.Facts.{more_quietly, next_line_is}
use Rattle.vcd_engine.proofs.task_state.walk.WalkStateVisit.take_timestamp.Goals as goal

pub after_timestamp-self-requires : goal.after_timestamp-self-requires
after_timestamp-self-requires g c = (c.args.timestamp.begin, c.args.time, subst (IsSpelledAs c.args._view c.args.timestamp) c.requires.time c.requires.item.2.spelled)

pub returns-clause-takes : goal.returns-clause-takes
returns-clause-takes g c = λ a a' out n.
    let timestamp = c.args.timestamp in
    let r = c.args._regs in
    let marked = subst (IsSpelledAs c.args._view timestamp) c.requires.time n.spelled in
    record {
      scanned = timestamp;
      item = n;
      regs = refl;
      line = next_line_is _ _ _ _ _ _ n.bytes refl (sym (ap (λ (i : Item). (regs_after r i).time) c.requires.time)) (c.after_timestamp-self.ensures _ c.args.time marked);
      one = λ h items x views known is few keeps.
          let e : x ≡ BodyItem.Time c.args.time = subst (λ (i : Item). IsItem h.codes timestamp.text.now i x) c.requires.time is in
          rw e (more_quietly _ _ _ h items _ _ out (c.note_time.ensures.takes h items few keeps));
      counts = refl;
      part = subst (λ bs. IsPart bs c.args.self.now.pending) (n.bytes ∙ n.same.0) c.requires.stands.part;
      same = c.note_time.ensures.same;
    }

pub returns-clause-stands : goal.returns-clause-stands
returns-clause-stands g c =
    let r = c.args._regs in
    let marked = subst (IsSpelledAs c.args._view c.args.timestamp) c.requires.time c.requires.item.2.spelled in
    record {
      ready = c.note_time.ensures.ready;
      part = c.requires.stands.part;
      line = next_line_is _ _ _ _ _ _ refl refl (sym (ap (λ (i : Item). (regs_after r i).time) c.requires.time)) (c.after_timestamp-self.ensures _ c.args.time marked);
    }
