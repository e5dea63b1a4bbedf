use Rattle.vcd_text.proofs.Cited.{◌≡◌, ◌<◌, ◌+◌, ◌-◌, true, take, drop, ap, sym, ◌∙◌, arith, rules, slice_index, take-take, is_white_space, stepped_past}
use Rattle.vcd_text.proofs.window.collect_short.Goals as goal

pub returns-clause-takes : goal.returns-clause-takes
returns-clause-takes c = λ _.
    let n = c.lowest-n.result in
    let p = c.args.parked.now in
    let chunk = c.args.chunk.now in
    let short : n < 16 = c.low_16-low.ensures.inside n c.lowest-n.ensures.set in
    let white : is_white_space (slice_index chunk (p.at + n)) ≡ true = sym c.is_white_space.ensures ∙ c.if-not-is_white_space.false in
    let size : n ≡ 0 + n = omega arith in
    let copied = c.copy_16.new.to in
    let rest = drop p.at chunk in
    let back : n ≡ p.at + n - p.at = omega arith in
    record {
      going = c.in-Going.is;
      some = search rules;
      collects = (
        n,
        record {
          to = omega (arith, c.if-parked-at-lt16.false, short);
          room = omega (arith, c.if-token-lt16.false, short);
          other = λ k lt. c.low_16-low.ensures.other k (omega (arith, short)) (c.lowest-n.ensures.below k lt);
          bytes = ap (λ k. take k copied) (sym size) ∙ sym (take-take n 16 copied (omega (arith, short))) ∙ ap (take n) c.copy_16.ensures.copied
              ∙ take-take n (p.at + 16 - p.at) rest (omega (arith, short)) ∙ ap (λ k. take k rest) back;
        },
        omega (arith, c.if-parked-at-lt16.false, short),
        white,
        c.step_past.ensures ∙ ap (λ s. stepped_past chunk (p.at + n) (record p { size = s; line = p.line_feeds + 1 })) size,
      );
    }
