use Rattle.vcd_text.proofs.Cited.{◌≡◌, ◌+◌, ◌-◌, ◌∙◌, ap, ap₂, arith, slice_range, line_feeds_in}
use Rattle.vcd_text.proofs.Facts.{line_feeds_in-joined}
use Rattle.vcd_text.proofs.scan.count_few.Goals as goal

pub loop-at-preserved : goal.loop-at-preserved
loop-at-preserved c =
    let bytes = c.args.bytes.now in
    let at = c.loop-at.at in
    let n = c.min-n.result in
    let back : at + n - n ≡ at = omega arith in (
      omega arith,
      omega (arith, c.min-n.ensures),
      omega (arith, c.count_64-line_feeds.ensures.few),
      ap₂ (λ a b. a + b) c.loop-at.invariant.3 (c.count_64-line_feeds.ensures.count ∙ ap (λ k. line_feeds_in (slice_range bytes k (at + n))) back)
          ∙ line_feeds_in-joined bytes c.args.from at n c.loop-at.invariant.0,
    )
