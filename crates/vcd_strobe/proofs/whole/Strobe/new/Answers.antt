use Rattle.std.proofs.Common.{length, refl}
use Rattle.vcd_strobe.proofs.StartSteps.{strobed_first}
use Rattle.vcd_strobe.proofs.whole.Strobe.new.Goals as goal

pub returns-clause-stands : goal.returns-clause-stands
returns-clause-stands c = λ h names ks enough. strobed_first _ (length c.args.room.values.now) h names ks c.args.room.roles.now c.follow_clocks.ensures.follows c.follow_clocks.ensures.len enough c.new.ensures.laid c.new.ensures.room refl refl refl
