use Rattle.vcd_job.proofs.Cited.{codes}
use Rattle.vcd_job.proofs.Facts.{some-line}
use Rattle.vcd_job.proofs.message.open_fault.Goals as goal

pub returns : goal.returns
returns g c = rw (some-line c.args.program.now c.args.name.now (codes " cannot be opened") 58) c.say_both.ensures
