use Rattle.vcd_body.proofs.Facts.{writes-none}
use Rattle.vcd_body.proofs.ahead.pass_on_before_read.Goals as goal

pub returns-then-item_comes-clause-puts : goal.returns-then-item_comes-clause-puts
returns-then-item_comes-clause-puts g c = writes-none (g.W.Sink.device c.args.out.now)
