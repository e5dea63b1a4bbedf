use Rattle.vcd_text.proofs.Writes.{appends-none}
use Rattle.vcd_text.specs.Device.{Device}
use Rattle.vcd_run_tests.proofs.until.UntilTask.close.Goals as goal

pub returns-clause-closes : goal.returns-clause-closes
returns-clause-closes g c = λ p h items views known keeps on.
    let out : Device = (g.W.Sink.device c.args._out.now) in
    rw keeps (appends-none out.held, tt)
