use Rattle.vcd_body.proofs.Cited.{◌-◌, length, bytes_of, passed_of, PassesNoItem}
use Rattle.vcd_body.proofs.ahead.past_comments.Given as goal

abbrev pub invariant-comments : goal.invariant-comments
invariant-comments l = PassesNoItem l.fn.ahead l.next

abbrev pub decreases-comments : goal.decreases-comments
decreases-comments l = length (bytes_of l.next) - passed_of l.next
