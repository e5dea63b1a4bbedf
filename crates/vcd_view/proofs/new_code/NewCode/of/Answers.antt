use Rattle.vcd_view.proofs.Cited.{◌≡◌, ◌<◌, ◌⊎◌, arith, refl, inl, inr}
use Rattle.vcd_view.proofs.Facts.{at_first, digit_last, digit_more}
use Rattle.vcd_view.proofs.new_code.NewCode.of.Goals as goal
use Rattle.vcd_view.proofs.new_code.NewCode.of.Goals.{then-loop-len-test+else-rest-ge94, else-loop-len-test}

pub loop-len-init : goal.loop-len-init
loop-len-init c = at_first c.args.number _ refl

pub loop-len-preserved : goal.loop-len-preserved
loop-len-preserved c = digit_more c.args.number c.loop-len.bytes c.loop-len.rest c.loop-len.len _ c.loop-len.invariant (omega arith) (omega arith) refl

pub returns : goal.returns
returns c =
    let few = c.loop-len.invariant.few in
    let end : (c.loop-len.len ≡ 9) ⊎ (c.loop-len.rest < 94) = elim c.loop-len-test.branch [
      | then-loop-len-test+else-rest-ge94 w ↦ inr
          (omega (arith, w.if-rest-ge94.false))
      | else-loop-len-test w ↦ inl (omega (arith, w.loop-len-test.false, few))
    ] in
    digit_last c.args.number c.loop-len.bytes c.loop-len.rest c.loop-len.len _ c.loop-len.invariant (omega arith) end refl
