use Rattle.vcd_compare.proofs.Cited.{get_or, ap, ◌∙◌}
use Rattle.vcd_compare.proofs.Facts.{zero_behind}
use Rattle.vcd_compare.proofs.variables.count_one.Goals as goal

pub loop-counts-preserved : goal.loop-counts-preserved
loop-counts-preserved c = λ n. ap (λ l. get_or l n 0) c.in_ok-push.ensures.items ∙ zero_behind c.loop-counts.counts.items n ∙ c.loop-counts.invariant n
