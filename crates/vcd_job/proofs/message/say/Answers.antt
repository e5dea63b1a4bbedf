use Rattle.vcd_job.proofs.Cited.{append-nil}
use Rattle.vcd_job.proofs.message.say.Goals as goal

pub returns : goal.returns
returns g c = rw (append-nil c.args.text.now) at c.say_both.ensures
