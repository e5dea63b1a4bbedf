use Rattle.vcd_text.proofs.Cited.{◌≡◌, ◌+◌, ◌-◌, ◌∙◌, ap, ap₂, subst, take, drop, arith, slice_range, line_feeds_in}
use Rattle.vcd_text.proofs.Facts.{line_feeds_in-joined}
use Rattle.vcd_text.proofs.scan.count_line_feeds.Goals as goal

pub loop-at-preserved : goal.loop-at-preserved
loop-at-preserved c =
    let bytes = c.args.bytes.now in
    let at = c.loop-at.at in
    let size : 192 ≡ at + 192 - at = omega arith in (
      omega arith,
      omega arith,
      omega (arith, c.line_feeds_192-line_feeds.ensures.few),
      ap₂ (λ a b. a + b) c.loop-at.invariant.3 (c.line_feeds_192-line_feeds.ensures.count ∙ ap (λ n. line_feeds_in (take n (drop at bytes))) size)
          ∙ line_feeds_in-joined bytes c.args.from at 192 c.loop-at.invariant.0,
    )

pub returns-clause-count : goal.returns-clause-count
returns-clause-count c =
    let bytes = c.args.bytes.now in
    let at = c.loop-at.at in
    let all : at + (c.args.to - at) ≡ c.args.to = omega (arith, c.loop-at.invariant.1) in
    ap₂ (λ a b. a + b) c.loop-at.invariant.3 c.count_few.ensures.count
    ∙ subst (λ to. line_feeds_in (slice_range bytes c.args.from at) + line_feeds_in (slice_range bytes at to) ≡ line_feeds_in (slice_range bytes c.args.from to)) all
    (line_feeds_in-joined bytes c.args.from at (c.args.to - at) c.loop-at.invariant.0)
