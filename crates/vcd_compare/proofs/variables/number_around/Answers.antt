use Rattle.vcd_compare.proofs.Cited.{sym}
use Rattle.vcd_compare.proofs.Facts.{around_at}
use Rattle.vcd_compare.proofs.variables.number_around.Goals as goal

pub returns : goal.returns
returns c = λ h texts view l are. around_at h texts c.args.row c.args.numbers.now c.in-Some.scope _ are (sym (c.in-Some.ensures.scope h view l)) c.number_at.ensures
