use Rattle.vcd_text.proofs.Cited.{nat_le, w8, arith, length-chunk, bitmask_splat, chunk}
use Rattle.vcd_text.proofs.Facts.{above_space, clear-is, set-inside}
use Rattle.vcd_text.proofs.scan.low_16.Goals as goal

pub returns-clause-inside : goal.returns-clause-inside
returns-clause-inside c =
    let v = chunk c.args.at 16 c.args.bytes.now in
    let is = bitmask_splat w8 nat_le v 16 32 (length-chunk c.args.at 16 c.args.bytes.now c.requires) (omega arith) in
    set-inside (λ b. nat_le b 32) c.args.bytes.now c.args.at 16 _ c.requires is

pub returns-clause-other : goal.returns-clause-other
returns-clause-other c = λ k lt none.
    let v = chunk c.args.at 16 c.args.bytes.now in
    let is = bitmask_splat w8 nat_le v 16 32 (length-chunk c.args.at 16 c.args.bytes.now c.requires) (omega arith) in
    above_space _ (clear-is (λ b. nat_le b 32) c.args.bytes.now c.args.at 16 _ c.requires is k lt none)
