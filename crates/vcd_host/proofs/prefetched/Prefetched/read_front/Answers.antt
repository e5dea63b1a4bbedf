use Rattle.vcd_host.proofs.Facts.{front-more}
use Rattle.vcd_host.proofs.Cited.{length, rules, ◌≡◌, ◌-◌}
use Rattle.vcd_host.proofs.prefetched.Prefetched.read_front.Goals as goal

pub loop-count-preserved : goal.loop-count-preserved
loop-count-preserved g c =
    let l = c.loop-count in
    let all : length c.read.new.buf ≡ length l.into - l.count = search rules in
    front-more l.count l.into c.read.new.buf l.invariant.0 all c.in-Ok.n _ _ _ _ c.in-Ok.ensures.bound.0 l.invariant.1 l.invariant.2 c.in-Ok.ensures.bytes.0
