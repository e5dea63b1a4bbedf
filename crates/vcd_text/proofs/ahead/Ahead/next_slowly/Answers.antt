use Rattle.vcd_text.proofs.Cited.{◌≡◌, ℕ, ◌+◌, ◌-◌, ◌≤◌, ◌<◌, List, length, drop, get_or, inl, inr, true, false, arith, subst, sym, ap, ◌∙◌, length-drop, slice_index, slice_range, bit_at, cases_lt, get_or-take, get_or-drop, length-take-le, is_white_space}
use Rattle.vcd_text.proofs.ahead.Ahead.next_slowly.Goals as goal

index : (bytes : List ℕ) (at k : ℕ) → k < length bytes - at → get_or (slice_range bytes at (length bytes)) k 0 ≡ get_or bytes (at + k) 0
index bytes at k lt = get_or-take (length bytes - at) (drop at bytes) k 0 lt ∙ get_or-drop at bytes k 0

long_rest : (bytes : List ℕ) (at : ℕ) → at ≤ length bytes → length (slice_range bytes at (length bytes)) ≡ length bytes - at
long_rest bytes at le = length-take-le (length bytes - at) (drop at bytes) (omega (arith, length-drop at bytes))

pub take-requires-clause-bits : goal.take-requires-clause-bits
take-requires-clause-bits c =
    let bytes = c.args.self.now.bytes.now in
    let start = c.past_white-start.result in
    let len = c.run_len.result in
    let run = c.run_len.ensures in
    let long = long_rest bytes start c.past_white-start.ensures.within in
    let within : start + len < length bytes = omega (arith, run.within, long, c.past_white-start.ensures.within, c.if-end-self.false) in
    let at = index bytes start in
    let w = c.before-2.ensures in
    record {
      within = omega (arith, w.next, within);
      ahead = λ k set. omega (arith, w.bit k set, w.next);
      inside = λ k set. omega (arith, w.bit k set);
      white = λ k set. let here : start + len ≡ c.before-2.result.next + k - 64 = omega (arith, w.bit k set, w.next) in
          subst (λ j. is_white_space (slice_index bytes j) ≡ true) here (ap is_white_space (sym (at len (omega (arith, within)))) ∙ run.stops (omega (arith, within, long)));
      other = λ j from below none. elim (cases_lt j (start + len)) [
        | inl lt ↦ (let here : start + (j - start) ≡ j = omega arith in
            subst (λ i. is_white_space (slice_index bytes i) ≡ false) here (ap is_white_space (sym (at (j - start) (omega (arith, within, lt)))) ∙ run.other (j - start) (omega arith)))
        | inr le ↦ (let last : j + 64 - c.before-2.result.next ≡ 63 = omega (arith, w.next) in
            let clear = none (omega (arith, w.next)) in
            absurd (omega (arith, sym (ap (λ i. bit_at c.before-2.result.bits i) last) ∙ clear, w.set)))
      ];
    }
