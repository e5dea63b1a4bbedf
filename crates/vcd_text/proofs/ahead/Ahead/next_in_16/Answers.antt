use Rattle.vcd_text.proofs.Cited.{◌≡◌, ◌+◌, ◌-◌, inl, inr, true, false, arith, subst, sym, ap, ◌∙◌, slice_index, bit_at, cases_lt, is_white_space}
use Rattle.vcd_text.proofs.ahead.Ahead.next_in_16.Goals as goal

pub take-requires-clause-bits : goal.take-requires-clause-bits
take-requires-clause-bits g c =
    let bytes = c.args.self.now.bytes.now in
    let at = c.in_ok-start.start in
    let len = c.lowest-len.result in
    let low = c.low_16-low.ensures in
    let few = low.inside len c.lowest-len.ensures.set in
    let w = c.before-2.ensures in
    record {
      within = omega (arith, w.next, few);
      ahead = λ k set. omega (arith, w.bit k set, w.next);
      inside = λ k set. omega (arith, w.bit k set);
      white = λ k set. let here : at + len ≡ c.before-2.result.next + k - 64 = omega (arith, w.bit k set, w.next) in
          subst (λ j. is_white_space (slice_index bytes j) ≡ true) here (rw c.if-self-start.false c.end_of_token.ensures);
      other = λ j from below none. elim (cases_lt j (at + len)) [
        | inl lt ↦ (let here : at + (j - at) ≡ j = omega arith in
            subst (λ i. is_white_space (slice_index bytes i) ≡ false) here (low.other (j - at) (omega arith) (c.lowest-len.ensures.below (j - at) (omega arith))))
        | inr le ↦ (let last : j + 64 - c.before-2.result.next ≡ 63 = omega (arith, w.next) in
            let clear = none (omega (arith, w.next)) in
            absurd (omega (arith, sym (ap (λ i. bit_at c.before-2.result.bits i) last) ∙ clear, w.set)))
      ];
    }
