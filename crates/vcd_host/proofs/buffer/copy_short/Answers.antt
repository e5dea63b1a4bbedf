use Rattle.vcd_host.proofs.Cited.{◌≡◌, ◌+◌, length, take, arith, length-take-le, take_more_put_chunk}
use Rattle.vcd_host.proofs.buffer.copy_short.Goals as goal

pub returns-clause-copied : goal.returns-clause-copied
returns-clause-copied c =
    let front = take 64 c.args.from.now in
    let long : length front ≡ 64 = length-take-le 64 c.args.from.now c.requires.there in
    take_more_put_chunk c.args.position c.args.to.now front (c.args.position + 64) (omega (arith, long)) c.requires.room
