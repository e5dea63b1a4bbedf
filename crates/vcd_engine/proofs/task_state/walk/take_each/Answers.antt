use Rattle.vcd_engine.proofs.Cited.{subst, Puts, pending_in}
use Rattle.vcd_engine.proofs.Facts.{passed_to, walk_begins, walk_ends, walk_over, walk_wrong}
use Rattle.vcd_engine.proofs.task_state.walk.take_each.Goals as goal

pub walk_ahead-walked-requires-clause-stands : goal.walk_ahead-walked-requires-clause-stands
walk_ahead-walked-requires-clause-stands g c = record { ready = c.requires.ready; part = c.new-pending.ensures.part _; line = c.new-line.ensures _ _ }

pub flush-requires-clause-part : goal.flush-requires-clause-part
flush-requires-clause-part g c =
    let walked = walk_begins _ _ _ _ _ _ _ c.requires.within c.new-line.ensures (c.new-pending.ensures.part _) (c.new-pending.ensures.pending _) in
    let w = walk_over _ _ _ _ _ _ _ _ walked _ _ (rw c.in-Ok.is at c.walk_ahead-walked.ensures) in
    rw c.bytes.ensures w.part

pub returns-in-Ok : goal.returns-in-Ok
returns-in-Ok g c =
    let walked = walk_begins _ _ _ _ _ _ _ c.requires.within c.new-line.ensures (c.new-pending.ensures.part _) (c.new-pending.ensures.pending _) in
    let w = walk_over _ _ _ _ _ _ _ _ walked _ _ (rw c.in-Ok.is at c.walk_ahead-walked.ensures) in
    let u = c.ended_at.ensures in
    let p = c.walk_ahead-walked.result.visit.pending in
    let mid = g.W.Sink.device c.walk_ahead-walked.new.out in
    let new = g.W.Sink.device c.flush.new.out in
    let puts = subst (λ bs. Puts mid new (pending_in bs p) c.flush.result) c.bytes.ensures c.flush.ensures.puts in
    let passes = passed_to _ _ _ _ _ _ _ c.walk_ahead-walked.ensures in
    walk_ends _ _ _ _ _ _ _ _ _ w new _ u.passed u.regs passes (rw u.written puts)

pub returns-in-Err : goal.returns-in-Err
returns-in-Err g c =
    let walked = walk_begins _ _ _ _ _ _ _ c.requires.within c.new-line.ensures (c.new-pending.ensures.part _) (c.new-pending.ensures.pending _) in
    let u = c.ended_at-in-Err.ensures in
    walk_wrong _ _ _ _ _ _ _ _ walked _ _ (rw c.in-Err.is at c.walk_ahead-walked.ensures) _ u.passed u.regs u.written
