use Rattle.vcd_host.proofs.Cited.{arith, length-drop, take_rest, appends-more}
use Rattle.vcd_host.proofs.buffered.write_out.Goals as goal

pub loop-written-preserved : goal.loop-written-preserved
loop-written-preserved g c =
    let done = c.loop-written.written in
    let bytes = c.args.bytes.now in
    let before = c.loop-written.invariant in
    let fits = c.in-Ok.ensures.bound in
    (omega (arith, length-drop done bytes, fits), appends-more _ _ _ bytes _ done c.in-Ok.n (take_rest bytes done) before.1 c.in-Ok.ensures.bytes)
