use Rattle.std.proofs.Common.{subst}
use Rattle.vcd_model.specs.Outcome.{program_line}
use Rattle.vcd_model.specs.Within.{refused}
use Rattle.vcd_text.specs.Device.{Puts}
use Rattle.vcdkit_compare.specs.Work.{program_name}
use Rattle.vcdkit_compare.proofs.job.put_refusal.Goals as goal

pub returns-in-Unselected : goal.returns-in-Unselected
returns-in-Unselected g c =
    rw c.in-Unselected.is (subst (λ n. Puts (g.E.Sink.device c.args.err.now) (g.E.Sink.device c.put_unselected.new.err)
    (program_line program_name (refused n).message) c.put_unselected.result) c.name_of.ensures c.put_unselected.ensures)

pub returns-in-Late : goal.returns-in-Late
returns-in-Late g c = rw c.in-Late.is c.put_late.ensures
