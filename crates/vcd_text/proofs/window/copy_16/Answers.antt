use Rattle.vcd_text.proofs.Cited.{◌≡◌, ◌+◌, ◌-◌, take, drop, ap, ◌∙◌, arith, length-chunk, length-put_chunk, take_more_put_chunk, chunk}
use Rattle.vcd_text.proofs.window.copy_16.Goals as goal

pub returns-clause-copied : goal.returns-clause-copied
returns-clause-copied c =
    let at = c.args.at in
    let front = chunk at 16 c.args.from.now in
    let len = length-chunk at 16 c.args.from.now c.requires.from in
    let range : 16 ≡ at + 16 - at = omega arith in
    take_more_put_chunk 0 c.args.to.now front 16 (omega (arith, len)) c.requires.to ∙ ap (λ k. take k (drop at c.args.from.now)) range

pub returns-clause-len : goal.returns-clause-len
returns-clause-len c = length-put_chunk 0 c.args.to.now (chunk c.args.at 16 c.args.from.now)
