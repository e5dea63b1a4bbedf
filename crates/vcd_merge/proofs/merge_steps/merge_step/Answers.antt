use Rattle.vcd_merge.proofs.Cited.{true, sym}
use Rattle.vcd_merge.proofs.Facts.{one_step}
use Rattle.vcd_merge.proofs.merge_steps.merge_step.Goals as goal

pub returns-clause-gives : goal.returns-clause-gives
returns-clause-gives g c = rw (sym c.order_of-order.ensures.stay)
    (λ hs lanes ds holds. one_step g.S.Source.rest g.S.Source.failures hs lanes ds _ _ _ _ _
    (c.run_step-answer.ensures.runs.gives true hs lanes ds (λ e. c.order_of-order.ensures.until) holds))

pub returns-clause-ready : goal.returns-clause-ready
returns-clause-ready g c = c.run_step-answer.ensures.runs.leaves.ready

pub returns-clause-lengths : goal.returns-clause-lengths
returns-clause-lengths g c = let l = c.run_step-answer.ensures.runs.leaves.touches in
    rw (sym c.order_of-order.ensures.stay) (l.seats, record { chunks = l.chunks; tokens = l.tokens; values = l.values })

pub returns-clause-reads : goal.returns-clause-reads
returns-clause-reads g c = let l = c.run_step-answer.ensures.runs in
    rw (sym c.order_of-order.ensures.stay) (
      l.input,
      l.next,
      l.leaves.touches.reads,
      l.leaves.touches.named,
      λ j other.
          let u = l.leaves.touches.untouched j other in (l.leaves.touches.others j other, u.0, u.1),
    )

pub returns-clause-left : goal.returns-clause-left
returns-clause-left g c = rw (sym c.order_of-order.ensures.stay) c.run_step-answer.ensures.runs.leaves.left

pub returns-clause-writes : goal.returns-clause-writes
returns-clause-writes g c = c.run_step-answer.ensures.runs.leaves.touches.writes
