use Rattle.vcd_text.proofs.Cited.{◌≡◌, ◌+◌, ◌∙◌, ap, sym, take, drop, arith, w8, adds_fit, sum_fits, fold-sum, sum-zip2, length-chunk, chunk, zip2, line_feeds_in}
use Rattle.vcd_text.proofs.Facts.{sum-three, line_feeds_in-next, line_feeds_in-few}
use Rattle.vcd_text.proofs.scan.line_feeds_192.Goals as goal

pub overflow_add-first : goal.overflow_add-first
overflow_add-first c = adds_fit w8 _ _ (omega (arith, c.line_feed_lanes-first.ensures.few, c.line_feed_lanes-second.ensures.few))

pub overflow_add-first-2 : goal.overflow_add-first-2
overflow_add-first-2 c =
    let two = sum-zip2 c.line_feed_lanes-first.result c.line_feed_lanes-second.result (c.line_feed_lanes-first.ensures.lanes ∙ sym c.line_feed_lanes-second.ensures.lanes) in
    adds_fit w8 _ _ (omega (arith, two, c.line_feed_lanes-first.ensures.few, c.line_feed_lanes-second.ensures.few, c.line_feed_lanes-third.ensures.few))

pub overflow_add-first-3 : goal.overflow_add-first-3
overflow_add-first-3 c =
    let three = sum-three 64 c.line_feed_lanes-first.result c.line_feed_lanes-second.result c.line_feed_lanes-third.result c.line_feed_lanes-first.ensures.lanes c.line_feed_lanes-second.ensures.lanes c.line_feed_lanes-third.ensures.lanes in
    sum_fits w8 0 _ (omega (arith, three, c.line_feed_lanes-first.ensures.few, c.line_feed_lanes-second.ensures.few, c.line_feed_lanes-third.ensures.few))

pub returns-clause-count : goal.returns-clause-count
returns-clause-count c =
    let bytes = c.args.bytes.now in
    let at = c.args.at in
    let three = sum-three 64 c.line_feed_lanes-first.result c.line_feed_lanes-second.result c.line_feed_lanes-third.result c.line_feed_lanes-first.ensures.lanes c.line_feed_lanes-second.ensures.lanes c.line_feed_lanes-third.ensures.lanes in
    let last : at + 64 + 64 ≡ at + 128 = omega arith in
    let rest = line_feeds_in-next bytes (at + 64) 64 64 ∙ ap (λ n. line_feeds_in (take 64 (drop (at + 64) bytes)) + line_feeds_in (take 64 (drop n bytes))) last in
    c.from.ensures ∙ omega (
      arith,
      fold-sum 0 (zip2 (λ x y. x + y)
          (zip2 (λ x y. x + y) c.line_feed_lanes-first.result c.line_feed_lanes-second.result) c.line_feed_lanes-third.result),
      three,
      c.line_feed_lanes-first.ensures.sum,
      c.line_feed_lanes-second.ensures.sum,
      c.line_feed_lanes-third.ensures.sum,
      rest,
      line_feeds_in-next bytes at 64 128,
    )

pub returns-clause-few : goal.returns-clause-few
returns-clause-few c =
    let v = chunk c.args.at 192 c.args.bytes.now in
    omega (arith, returns-clause-count c, line_feeds_in-few v, length-chunk c.args.at 192 c.args.bytes.now c.requires)
