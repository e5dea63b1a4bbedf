use Rattle.vcd_body.proofs.Cited.{◌≡◌, arith, w64, subst, bit_at, bit_at-trailing_zeros}
use Rattle.vcd_body.proofs.Facts.{no_bits}
use Rattle.vcd_body.proofs.words.clear_bits.Goals as goal

pub returns-then-mask-eq0-clause-clear : goal.returns-then-mask-eq0-clause-clear
returns-then-mask-eq0-clause-clear c = λ k less. no_bits _ k c.if-mask-eq0.true

pub returns-clause-clear : goal.returns-clause-clear
returns-clause-clear c = λ k less.
    let t = bit_at-trailing_zeros w64 c.args.mask (omega (arith, c.if-mask-eq0.false)) c.ranges.mask.fits in
    let m = c.min.ensures in
    t.2 k (omega (arith, less, m))

pub returns-clause-set : goal.returns-clause-set
returns-clause-set c = λ more.
    let t = bit_at-trailing_zeros w64 c.args.mask (omega (arith, c.if-mask-eq0.false)) c.ranges.mask.fits in
    let m = c.min.ensures in
    subst (λ j. bit_at c.args.mask j ≡ 1) (omega (arith, more, m)) t.1
