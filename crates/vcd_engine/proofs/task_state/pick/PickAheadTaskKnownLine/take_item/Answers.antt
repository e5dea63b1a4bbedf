use Rattle.vcd_engine.proofs.Cited.{◌≡◌, true, false, [], sym, ap, ◌∙◌, entry_after, pick_kept, regs_after, Regs, if_ok_more, is_kept, names_in}
use Rattle.vcd_engine.proofs.Facts.{kept_time, due_one, none_due, last_tells, picks_on, picks_still, none_on}
use Rattle.vcd_engine.proofs.PickLemmas.{kept_is}
use Rattle.vcd_engine.proofs.task_state.pick.PickAheadTaskKnownLine.take_item.Goals as goal

pub returns-then-not-keeps-clause-takes : goal.returns-then-not-keeps-clause-takes
returns-then-not-keeps-clause-takes g c = λ h items before x views known re is few picked.
    let p = c.args.self.now in
    let scanned = c.args.scanned in
    let not : is_kept p.flags.now c.args.view (regs_after before scanned.item) scanned.item ≡ false = ap
    (λ (q : Regs). is_kept p.flags.now c.args.view q scanned.item) (sym re) ∙ sym c.keeps.ensures ∙ c.if-not-keeps.true in
    let k = sym (kept_is c.args.view h items before p views known picked scanned.text.now scanned.item x is) ∙ not in
    (([], none_due h (names_in p) items x k, none_on _ (g.W.Sink.device c.args.out.now)), picks_still h items p picked x k)

pub returns-clause-takes : goal.returns-clause-takes
returns-clause-takes g c = λ h items before x views known re is few picked.
    let p = c.args.self.now in
    let scanned = c.args.scanned in
    let yes : is_kept p.flags.now c.args.view (regs_after before scanned.item) scanned.item ≡ true = ap
    (λ (q : Regs). is_kept p.flags.now c.args.view q scanned.item) (sym re) ∙ sym c.keeps.ensures ∙ c.if-not-keeps.false in
    let k = sym (kept_is c.args.view h items before p views known picked scanned.text.now scanned.item x is) ∙ yes in
    let t = ap (λ (q : Regs). q.time) re ∙ kept_time c.args.view h items before p views known picked scanned.item yes in
    let one = c.queue.ensures.text h [] (pick_kept h (names_in p) items) (entry_after items x) views is (sym t) picked.written (last_tells h (names_in p) items c.args.regs.time t) in
    (due_one h (names_in p) items x _ k one.0, if_ok_more c.queue.result _ _ (picks_on h items p picked x _ k) one.1)
