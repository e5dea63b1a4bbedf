use Rattle.vcd_body.proofs.Cited.{refl}
use Rattle.vcd_body.proofs.Facts.{passes_both, same_place}
use Rattle.vcd_body.proofs.ahead.past_comments.Goals as goal

pub comments-init : goal.comments-init
comments-init c = same_place c.args.ahead c.args.ahead (refl, refl, refl)

pub comments-preserved : goal.comments-preserved
comments-preserved c = passes_both _ _ _ c.comments.invariant c.in-Some.ensures.passes
