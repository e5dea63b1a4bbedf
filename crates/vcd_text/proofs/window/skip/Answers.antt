use Rattle.vcd_text.proofs.Cited.{◌≡◌, ℕ, ◌+◌, ◌-◌, ◌≤◌, ◌<◌, true, false, List, length, take, drop, sym, ap, subst, ◌∙◌, arith, length-drop, slice_index, slice_range, take-take, length-take-le, is_white_space, Whites, skipped, line_feeds_in, Parked}
use Rattle.vcd_text.proofs.Facts.{slice-index}
use Rattle.vcd_text.proofs.window.skip.Goals as goal

skips : (chunk : List ℕ) (p : Parked) (d e f : ℕ) → d ≡ e → p.at ≤ p.stop → p.stop ≤ length chunk → d ≤ length (slice_range chunk p.at p.stop)
    → ((k : ℕ) → k < d → is_white_space (slice_index (slice_range chunk p.at p.stop) k) ≡ true)
    → (d < length (slice_range chunk p.at p.stop) → is_white_space (slice_index (slice_range chunk p.at p.stop) d) ≡ false)
    → f ≡ line_feeds_in (take d (slice_range chunk p.at p.stop))
    → Whites chunk p e × (record p { at = p.at + d; line_feeds = p.line_feeds + f; line = p.line_feeds + f + 1 } ≡ skipped chunk p e)
skips chunk p d e f is order within fits white stops line_feeds =
    let long : length (slice_range chunk p.at p.stop) ≡ p.stop - p.at = length-take-le (p.stop - p.at) (drop p.at chunk) (omega (arith, length-drop p.at chunk)) in
    let back : p.at + d - p.at ≡ d = omega arith in
    let counted : f ≡ line_feeds_in (slice_range chunk p.at (p.at + d)) = line_feeds
    ∙ ap line_feeds_in (take-take d (p.stop - p.at) (drop p.at chunk) (omega arith))
    ∙ ap (λ n. line_feeds_in (take n (drop p.at chunk))) (sym back) in
    subst (λ n. Whites chunk p n × (record p { at = p.at + d; line_feeds = p.line_feeds + f; line = p.line_feeds + f + 1 } ≡ skipped chunk p n)) is (
      record {
        to = omega arith;
        white = λ k lt. ap is_white_space (sym (slice-index chunk p.at p.stop k (omega arith))) ∙ white k lt;
        after = λ lt. ap is_white_space (sym (slice-index chunk p.at p.stop d (omega arith))) ∙ stops (omega arith);
      },
      ap (λ g. record p { at = p.at + d; line_feeds = p.line_feeds + g; line = p.line_feeds + g + 1 }) counted,
    )

pub returns-clause-skips : goal.returns-clause-skips
returns-clause-skips c = λ _.
    skips c.args.chunk.now c.args.parked.now c.white_len-white.result.0
    (c.args.parked.now.at + c.white_len-white.result.0 - c.args.parked.now.at) c.white_len-white.result.1
    (omega arith) c.requires.order c.requires.within
    c.white_len-white.ensures.within c.white_len-white.ensures.white c.white_len-white.ensures.stops c.white_len-white.ensures.line_feeds
