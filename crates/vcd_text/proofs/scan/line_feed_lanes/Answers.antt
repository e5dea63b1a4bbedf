use Rattle.vcd_text.proofs.Cited.{◌==◌, ℕ, cond, ap, ◌∙◌, arith, w8, length-map, length-chunk, tops_compared, zip2_splat, chunk, sel_l, sum_l, replicate}
use Rattle.vcd_text.proofs.Facts.{ones-sel, sum-ones, line_feeds_in-few}
use lib.ListN.{length}
use Rattle.vcd_text.proofs.scan.line_feed_lanes.Goals as goal

pub returns-clause-sum : goal.returns-clause-sum
returns-clause-sum c =
    let v = chunk c.args.at 64 c.args.bytes.now in
    let long = length-chunk c.args.at 64 c.args.bytes.now c.requires in
    ap (λ ms. sum_l (sel_l {A = ℕ} ms (replicate 64 1) (replicate 64 0))) (tops_compared w8 (λ a b. a == b) v (replicate 64 10) ∙ zip2_splat (λ a b. a == b) v 64 10 long)
    ∙ ap sum_l (ones-sel (λ b. b == 10) v 64 long) ∙ sum-ones (λ b. b == 10) v

pub returns-clause-few : goal.returns-clause-few
returns-clause-few c =
    let v = chunk c.args.at 64 c.args.bytes.now in
    omega (arith, returns-clause-sum c, line_feeds_in-few v, length-chunk c.args.at 64 c.args.bytes.now c.requires)

pub returns-clause-lanes : goal.returns-clause-lanes
returns-clause-lanes c =
    let v = chunk c.args.at 64 c.args.bytes.now in
    let long = length-chunk c.args.at 64 c.args.bytes.now c.requires in
    ap (λ ms. length (sel_l {A = ℕ} ms (replicate 64 1) (replicate 64 0))) (tops_compared w8 (λ a b. a == b) v (replicate 64 10) ∙ zip2_splat (λ a b. a == b) v 64 10 long)
    ∙ ap length (ones-sel (λ b. b == 10) v 64 long) ∙ length-map v (λ b. cond (b == 10) 1 0) ∙ long
