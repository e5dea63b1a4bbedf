use Rattle.vcd_engine.proofs.Cited.{◌≡◌, true, false, [], ◌∷◌, subst, sym, ap, ◌∙◌, entry_after, regs_after, Regs, if_ok_more, LastTells, may_be_kept, times_with, kept_from}
use Rattle.vcd_engine.proofs.Facts.{due_item, item_kept, item_passed, item_tells, item_time, kept_is, none_on}
use Rattle.vcd_engine.proofs.CutLemmas.{none_due}
use Rattle.vcd_engine.proofs.task_state.cut.CutAheadTaskKnownLine.take_item.Goals as goal

pub returns-then-not-may_keep-clause-takes : goal.returns-then-not-may_keep-clause-takes
returns-then-not-may_keep-clause-takes g c = λ h items before x views known re read few is.
    let v = c.args.view in
    let m = c.args.self.now in
    let p = c.args.scanned in
    let none = c.requires.next.none in
    let not : may_be_kept v (regs_after before p.item) p.item ≡ false = ap (λ (q : Regs). may_be_kept v q p.item) (sym re) ∙ sym c.may_keep.ensures ∙ c.if-not-may_keep.true in
    let k = sym (kept_is v h items before m p.text.now p.item x views known is read none c.requires.ready) ∙ not in (
      ([], none_due v h items before m p.text.now p.item x views known is read none k, none_on _ (g.W.Sink.device c.args.out.now)),
      item_passed v h items before m p.text.now p.item x views known is read none c.requires.ready k,
    )

pub returns-clause-takes : goal.returns-clause-takes
returns-clause-takes g c = λ h items before x views known re read few is.
    let v = c.args.view in
    let m = c.args.self.now in
    let p = c.args.scanned in
    let none = c.requires.next.none in
    let started = c.requires.ready in
    let yes : may_be_kept v (regs_after before p.item) p.item ≡ true = ap (λ (q : Regs). may_be_kept v q p.item) (sym re) ∙ sym c.may_keep.ensures ∙ c.if-not-may_keep.false in
    let k = sym (kept_is v h items before m p.text.now p.item x views known is read none started) ∙ yes in
    let t = ap (λ (q : Regs). q.time) re ∙ item_time v h items before m p.text.now p.item x views known is read none in
    let tells = item_tells v h items before m p.text.now p.item x views known is read none started in
    let one = c.queue.ensures.text h (m.from ∷ []) (kept_from m.from items) (entry_after items x) views read (sym t) (is.written started)
    (subst (λ n. LastTells (times_with (m.from ∷ []) (kept_from m.from items)) n) (sym t) tells) in (
      due_item v h items before m p.text.now p.item x views known is read none _ started k one.0,
      if_ok_more c.queue.result _ _ (item_kept v h items before m p.text.now p.item x views known is read none _ started k) one.1,
    )
