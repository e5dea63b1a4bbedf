use Rattle.vcd_head.proofs.Cited.{reverse, subst, LeavesScopes}
use Rattle.vcd_head.proofs.Facts.{all_around}
use Rattle.vcd_head.proofs.enclosing.Enclosing.new.Goals as goal

pub returns : goal.returns
returns c = λ h l. subst (λ ps. LeavesScopes h c.args.row (reverse ps) c.innermost.result) (all_around h c.args.row) (c.innermost.ensures h l)
