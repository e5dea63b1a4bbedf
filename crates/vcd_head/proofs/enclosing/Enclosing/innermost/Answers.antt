use Rattle.vcd_head.proofs.Cited.{refl}
use Rattle.vcd_head.proofs.Facts.{leaves_most}
use Rattle.vcd_head.proofs.enclosing.Enclosing.innermost.Goals as goal

pub returns : goal.returns
returns c = λ h l. leaves_most h c.args.row c.args.most _ l refl refl refl refl
