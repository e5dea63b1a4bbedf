use Rattle.vcd_body.proofs.Cited.{◌≡◌, ◌≤◌, ◌<◌, inl, inr, length, get_or, subst, arith, cases_lt, IsBinaryAt}
use Rattle.vcd_body.proofs.Facts.{two_of}
use Rattle.vcd_body.proofs.words.are_few_binary.Goals.{then-largest-above, else-largest-above}
use Rattle.vcd_body.proofs.words.are_few_binary.Goals as goal

pub loop-digit-preserved : goal.loop-digit-preserved
loop-digit-preserved c = λ small k less.
    let at = c.loop-digit.digit-index in
    let d = get_or c.args.digits.now at 0 in
    let inside : at < length c.args.digits.now = omega arith in
    let fit = c.type_inv.digits at in
    let low : 48 ≤ d = elim c.if-largest-above.branch [
      | then-largest-above w ↦ omega
          (arith, w.largest-is, w.if-largest-above, small, fit)
      | else-largest-above w ↦ omega
          (arith, w.largest-is, w.if-largest-above, small, fit)
    ] in
    let high : d ≤ 49 = elim c.if-largest-above.branch [
      | then-largest-above w ↦ omega
          (arith, w.largest-is, w.if-largest-above, small, fit)
      | else-largest-above w ↦ omega
          (arith, w.largest-is, w.if-largest-above, small, fit)
    ] in
    let before : c.loop-digit.largest ≤ 1 = elim c.if-largest-above.branch [
      | then-largest-above w ↦ omega
          (arith, w.largest-is, w.if-largest-above, small, fit)
      | else-largest-above w ↦ omega
          (arith, w.largest-is, w.if-largest-above, small, fit)
    ] in
    elim (cases_lt k at) [
      | inl earlier ↦ c.loop-digit.invariant before k earlier
      | inr late ↦ (let same : at ≡ k = omega arith in subst (λ j. IsBinaryAt c.args.digits.now j) same (two_of d low high))
    ]
