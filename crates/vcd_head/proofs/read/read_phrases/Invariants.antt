use Rattle.vcd_head.proofs.Cited.{◌-◌, ◌^◌, Input, seen, DraftsUpTo, Advances, CallEnd}
use Rattle.vcd_head.proofs.read.read_phrases.Given as goal

abbrev pub invariant-phrases : goal.invariant-phrases
invariant-phrases g l = Advances g.S.Source.failures l.fn.feed l.feed CallEnd.GoesOn × ((i : Input) → DraftsUpTo l.most i l.fn.draft l.fn.feed → DraftsUpTo l.most i l.draft l.feed)

abbrev pub decreases-phrases : goal.decreases-phrases
decreases-phrases g l = 2 ^ 63 - seen l.feed
