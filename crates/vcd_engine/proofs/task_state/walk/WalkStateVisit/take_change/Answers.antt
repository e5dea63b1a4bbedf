use Rattle.vcd_engine.proofs.Cited.{List, ℕ, [], ◌∷◌, ◌++◌, subst, ◌∙◌, refl, IfOk, open_text, DueBy, if_ok_more, request_in, IsPart, PutsOn, pending_in}
use Rattle.vcd_engine.proofs.Facts.{goes_on_item, change_next, next_line_is, no_timestamp_here, same_regs}
use Rattle.vcd_engine.proofs.task_state.walk.WalkStateVisit.take_change.Goals as goal

pub take_item-requires-clause-next : goal.take_item-requires-clause-next
take_item-requires-clause-next g c =
    let f = c.requires.form in
    change_next c.args.view _ _ c.args.regs c.args.change c.requires.item.2 (f.1.0, f.0, f.1.1)

pub take_item-requires-clause-line : goal.take_item-requires-clause-line
take_item-requires-clause-line g c = c.requires.stands.line

pub take_item-requires-clause-part : goal.take_item-requires-clause-part
take_item-requires-clause-part g c = c.requires.stands.part

pub returns-clause-takes : goal.returns-clause-takes
returns-clause-takes g c = λ a a' item.
    let p = c.args.change in
    let f = c.requires.form in
    let same = item.bytes ∙ item.same.0 in
    let t = request_in (g.C.AheadTask.task_state c.args.command.now) in
    let old = g.W.Sink.device c.args.out.now in
    let new = g.W.Sink.device c.take_item.new.out in
    let result = c.take_item.result in
    record {
      scanned = p;
      item = item;
      regs = same_regs c.args.regs p.item f.1.0 f.0 f.1.1;
      line = next_line_is _ _ _ _ _ _ item.bytes refl refl c.requires.stands.line;
      one = λ h items x views known read few keeps.
          let one = c.take_item.ensures.takes h items c.args.regs x views known (same_regs c.args.regs p.item f.1.0 f.0 f.1.1) read few keeps in
          record {
            due = subst (λ (bs : List ℕ). DueBy (λ due. PutsOn (pending_in bs c.args.self.now.pending)
                (pending_in bs c.take_item.new.pending) old new due result) (open_text t h items) (open_text t h (items ++ x ∷ []))) same one.0;
            on = goes_on_item t h.codes p.text.now p.item x (no_timestamp_here p.item f.1.0 f.0 f.1.1) read;
            keeps = one.1;
          };
      counts = c.take_item.ensures.counts;
      part = subst (λ (bs : List ℕ). IfOk result (λ _. IsPart bs c.take_item.new.pending)) same c.take_item.ensures.part;
      same = c.take_item.ensures.same;
    }

pub returns-clause-stands : goal.returns-clause-stands
returns-clause-stands g c = if_ok_more c.take_item.result _ _ (λ part. record { ready = c.take_item.ensures.ready; part = part; line = c.requires.stands.line }) c.take_item.ensures.part
