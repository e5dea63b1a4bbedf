use Rattle.vcd_host.proofs.Cited.{◌+◌, ◌<◌, arith, length, refl, take}
use Rattle.vcd_host.proofs.Facts.{front-copied, gained, none-gone}
use Rattle.vcd_host.proofs.lent_output.LentOutputSink.write_few.Goals as goal

pub returns-clause-all : goal.returns-clause-all
returns-clause-all c = λ _.
    let sink = c.args.self.now in
    let xs = sink.bytes.now in
    let fits : sink.used + 8 < length xs = omega (arith, c.if-self-le-FEW.false, sink.within) in
    let none = none-gone sink.gone.bytes sink.used (length xs) sink.dropped sink.number (omega (arith, fits)) sink.order in
    let front = front-copied xs c.copy_eight.new.to c.args.few.bytes sink.used 8 c.args.few.len sink.within c.args.few.few c.copy_eight.ensures.copied in
    (gained sink.bytes.ghost_name xs c.copy_eight.new.to sink.gone.bytes (take c.args.few.len c.args.few.bytes) sink.used c.args.few.len none front, refl)
