use Rattle.std.proofs.Common.{refl}
use Rattle.vcd_strobe.proofs.ItemSteps.{stands_triggered}
use Rattle.vcd_strobe.proofs.whole.Strobe.trigger.Goals as goal

pub returns-clause-triggers : goal.returns-clause-triggers
returns-clause-triggers c = λ h names es items a d has only event outside low is.
    let r = has.roles_are c.args.code a only.declared in
    let e = c.trigger_role-self.ensures.enlists r.0 r.1 in
    stands_triggered c.args.self.now h names es items has d c.args.code a only.declared only.gives only.others _ r.0 c.args.time is event outside low r.1 refl refl refl refl e.roles_are e.within e.long e.more e.same
