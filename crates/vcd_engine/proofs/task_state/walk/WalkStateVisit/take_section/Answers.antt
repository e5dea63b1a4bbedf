use Rattle.vcd_engine.proofs.Cited.{◌≡◌, List, ℕ, [], ◌∷◌, ◌++◌, ap, sym, subst, ◌∙◌, refl, IfOk, open_text, DueBy, Regs, if_ok_more, section_time, request_in, IsPart, PutsOn, pending_in}
use Rattle.vcd_engine.proofs.Facts.{goes_on_item, next_line_is, no_timestamp_at, section_next}
use Rattle.vcd_engine.proofs.task_state.walk.WalkStateVisit.take_section.Goals as goal

pub take_item-requires-clause-next : goal.take_item-requires-clause-next
take_item-requires-clause-next g c = section_next c.args.view _ _ c.args._before c.args.section c.requires.item.2 c.requires.section

pub take_item-requires-clause-line : goal.take_item-requires-clause-line
take_item-requires-clause-line g c =
    let later : c.args._before.time ≡ c.args.after.time = sym (ap (λ (r : Regs). r.time) c.requires.after ∙ section_time c.args._before c.args.section.item c.requires.section) in
    next_line_is _ _ _ _ _ _ refl refl later c.requires.stands.line

pub take_item-requires-clause-part : goal.take_item-requires-clause-part
take_item-requires-clause-part g c = c.requires.stands.part

pub returns-clause-takes : goal.returns-clause-takes
returns-clause-takes g c = λ a a' item.
    let p = c.args.section in
    let same = item.bytes ∙ item.same.0 in
    let later : c.args._before.time ≡ c.args.after.time = sym (ap (λ (r : Regs). r.time) c.requires.after ∙ section_time c.args._before c.args.section.item c.requires.section) in
    let t = request_in (g.C.AheadTask.task_state c.args.command.now) in
    let old = g.W.Sink.device c.args.out.now in
    let new = g.W.Sink.device c.take_item.new.out in
    let result = c.take_item.result in
    record {
      scanned = p;
      item = item;
      regs = c.requires.after;
      line = next_line_is _ _ _ _ _ _ item.bytes refl later c.requires.stands.line;
      one = λ h items x views known read few keeps.
          let one = c.take_item.ensures.takes h items c.args._before x views known c.requires.after read few keeps in
          record {
            due = subst (λ (bs : List ℕ). DueBy (λ due. PutsOn (pending_in bs c.args.self.now.pending)
                (pending_in bs c.take_item.new.pending) old new due result) (open_text t h items) (open_text t h (items ++ x ∷ []))) same one.0;
            on = goes_on_item t h.codes p.text.now p.item x (no_timestamp_at p.item c.requires.section) read;
            keeps = one.1;
          };
      counts = c.take_item.ensures.counts;
      part = subst (λ (bs : List ℕ). IfOk result (λ _. IsPart bs c.take_item.new.pending)) same c.take_item.ensures.part;
      same = c.take_item.ensures.same;
    }

pub returns-clause-stands : goal.returns-clause-stands
returns-clause-stands g c =
    let later : c.args._before.time ≡ c.args.after.time = sym (ap (λ (r : Regs). r.time) c.requires.after ∙ section_time c.args._before c.args.section.item c.requires.section) in
    if_ok_more c.take_item.result _ _
    (λ part. record { ready = c.take_item.ensures.ready; part = part; line = next_line_is _ _ _ _ _ _ refl refl later c.requires.stands.line })
    c.take_item.ensures.part
