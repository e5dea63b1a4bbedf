use Rattle.std.proofs.Common.{◌∙◌, arith, get_or}
use Rattle.std.proofs.lemmas.Option.{slice_get-get_or}
use Rattle.vcd_strobe.proofs.FollowSteps.{follows_more}
use Rattle.vcd_strobe.proofs.start.follow_clocks.Goals as goal

pub loop-clock-preserved : goal.loop-clock-preserved
loop-clock-preserved c = record {
  len = c.follow.ensures.len ∙ c.loop-clock.invariant.len;
  follows = follows_more c.args.clocks.now c.loop-clock.clock-index (get_or c.args.clocks.now c.loop-clock.clock-index _) c.args.roles.now c.loop-clock.roles _
      (slice_get-get_or c.args.clocks.now c.loop-clock.clock-index _ (omega arith)) c.loop-clock.invariant.follows c.follow.ensures.there c.follow.ensures.past;
}
