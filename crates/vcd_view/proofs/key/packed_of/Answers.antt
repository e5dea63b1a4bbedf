use Rattle.vcd_view.proofs.Cited.{◌≡◌, ◌-◌, ◌<◌, ◌*◌, ◌+◌, ◌^◌, length, ap, sym, subst, arith, drop_more}
use Rattle.vcd_view.proofs.Facts.{grown}
use Rattle.vcd_view.proofs.KeyLemmas.{fits}
use Rattle.vcd_view.proofs.key.packed_of.Goals as goal

byte : (c : goal.After-from) → c.from.result < 256
byte c = let h = c.type_inv.code (c.loop-position.position - 1) in omega (arith, h, c.from.ensures)

pub overflow_mul-key : goal.overflow_mul-key
overflow_mul-key c = omega (
  arith,
  fits c.loop-position.key (length c.args.code.now - c.loop-position.position) 0 c.loop-position.invariant.2
      (omega (arith, c.requires, c.loop-position-test.true, c.loop-position.invariant.0)) (omega arith),
)

pub overflow_add-key : goal.overflow_add-key
overflow_add-key c = omega (
  arith,
  fits c.loop-position.key (length c.args.code.now - c.loop-position.position)
      c.from.result c.loop-position.invariant.2 (omega (arith, c.requires, c.loop-position-test.true, c.loop-position.invariant.0)) (byte c),
)

pub loop-position-preserved : goal.loop-position-preserved
loop-position-preserved c =
    let n = length c.args.code.now in
    let p = c.loop-position.position in
    let more : n - p + 1 ≡ n - (p - 1) = omega (arith, c.loop-position-test.true, c.loop-position.invariant.0) in
    let back : p - 1 + 1 ≡ p = omega (arith, c.loop-position-test.true) in
    let step = drop_more c.args.code.now (p - 1) 0 (omega (arith, c.loop-position-test.true, c.loop-position.invariant.0)) in (
      omega (arith, c.loop-position.invariant.0),
      rw (step, back, sym c.from.ensures) (ap (λ k. k * 256 + c.from.result) c.loop-position.invariant.1),
      subst (λ m. c.loop-position.key * 256 + c.from.result < 33 * 256 ^ m) more (grown c.loop-position.key (n - p) c.from.result c.loop-position.invariant.2 (byte c)),
    )
