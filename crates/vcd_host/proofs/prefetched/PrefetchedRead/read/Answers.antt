use Rattle.vcd_host.proofs.Cited.{arith, drop_all}
use Rattle.vcd_host.proofs.Facts.{reads-on}
use Rattle.vcd_host.proofs.prefetched.PrefetchedRead.read.Goals as goal

pub returns-in-Unknown-clause-bytes : goal.returns-in-Unknown-clause-bytes
returns-in-Unknown-clause-bytes g c = reads-on c.args.self.now.seen _ _ _ _ _ c.in-Unknown.is
    (drop_all c.args.self.now.next c.args.self.now.bytes.items (omega (arith, c.if-self-len.false))) c.read-in-Unknown.ensures.bytes
