use Rattle.vcd_body.proofs.Cited.{◌-◌, length, bytes_of, passed_of}
use Rattle.vcd_body.proofs.Facts.{OpensComment}
use Rattle.vcd_body.proofs.ahead.comment_ahead.Given as goal

abbrev pub invariant-words : goal.invariant-words
invariant-words l = OpensComment l.fn.ahead l.next

abbrev pub decreases-words : goal.decreases-words
decreases-words l = length (bytes_of l.next) - passed_of l.next
