use Rattle.vcd_text.proofs.Cited.{◌≡◌, ℕ, ◌+◌, ◌-◌, [], ◌∷◌, ◌++◌, length, arith, refl, sym, subst, ap₂, slice_range, AreWhite, IsRun, Passed, line_ahead}
use Rattle.vcd_text.proofs.Facts.{bits-on, length-slice_range, passed_to, marked_run, marked_first, white_rest, run_behind}
use Rattle.vcd_text.proofs.ahead.Ahead.take.Goals as goal

pub overflow_sub-end : goal.overflow_sub-end
overflow_sub-end c =
    let inv = c.requires in
    let m = inv.bits in
    omega (arith, m.ahead c.lowest-bit.result c.lowest-bit.ensures.set)

pub returns-then-end-start-clause-needed : goal.returns-then-end-start-clause-needed
returns-then-end-start-clause-needed c = λ _ start n front r.
    let a = c.args.self.now in
    let inv = c.requires in
    let at = c.args.start in
    let m = inv.bits in
    let ahead = m.ahead c.lowest-bit.result c.lowest-bit.ensures.set in
    let le = run_behind a.limit a.bytes.now a.at at start n inv.before front r in
    let rest = white_rest a.bytes.now a.at at start inv.before.order le front in
    let n-is = marked_first a.bytes.now at c.args.white c.lowest-bit.result m c.lowest-bit.ensures.set c.lowest-bit.ensures.below a.limit start n
    (λ e. let o = inv.token c.lowest-bit.result c.lowest-bit.ensures.set in absurd (omega (arith, e, o))) rest r in
    absurd (omega (arith, r.short, n-is, c.if-end-start.true))

pub invariant_of-self-clause-bits : goal.invariant_of-self-clause-bits
invariant_of-self-clause-bits c =
    let a = c.args.self.now in
    let inv = c.requires in
    let w = c.args.white in
    let bit = c.lowest-bit.result in
    let m = inv.bits in
    let ahead = m.ahead bit c.lowest-bit.ensures.set in
    bits-on a.bytes.now c.args.start (w.next + bit - 64 + 1) (length a.bytes.now)
    w bit c.without.result m c.lowest-bit.ensures.set c.lowest-bit.ensures.below c.without.ensures.kept c.without.ensures.no_more c.without.ensures.gone
    (omega arith)

pub invariant_of-self-clause-order : goal.invariant_of-self-clause-order
invariant_of-self-clause-order c =
    let inv = c.requires in
    let m = inv.bits in
    omega (arith, m.ahead c.lowest-bit.result c.lowest-bit.ensures.set, c.lowest-bit.ensures.bound)

pub slice_bounds-result-count : goal.slice_bounds-result-count
slice_bounds-result-count c =
    let inv = c.requires in
    let m = inv.bits in
    omega (arith, m.ahead c.lowest-bit.result c.lowest-bit.ensures.set)

pub slice_bounds-result-start : goal.slice_bounds-result-start
slice_bounds-result-start c =
    let inv = c.requires in
    let m = inv.bits in
    omega (arith, m.ahead c.lowest-bit.result c.lowest-bit.ensures.set, m.within, c.lowest-bit.ensures.bound)

pub returns-clause-takes : goal.returns-clause-takes
returns-clause-takes c =
    let a = c.args.self.now in
    let inv = c.requires in
    let at = c.args.start in
    let w = c.args.white in
    let bit = c.lowest-bit.result in
    let m = inv.bits in
    let ahead = m.ahead bit c.lowest-bit.ensures.set in
    let behind = inv.token bit c.lowest-bit.ensures.set in
    let end : ℕ = w.next + bit - 64 in
    let run = marked_run a.bytes.now at w bit m c.lowest-bit.ensures.set c.lowest-bit.ensures.below a.limit (λ e. absurd (omega (arith, e, behind))) c.if-end-start.false in
    let len = length-slice_range a.bytes.now at end (omega (arith, m.within, c.lowest-bit.ensures.bound)) in
    let start : end + 1 - length (slice_range a.bytes.now at end) - 1 ≡ at = omega arith in
    let last : end + 1 - 1 ≡ end = omega arith in
    record {
      gives = λ lines ts passed.
          subst (λ k. Passed a.limit lines a.bytes.now (end + 1) (ts ++ record { bytes = slice_range a.bytes.now at end; line = line_ahead lines a.bytes.now k } ∷ [])) (sym start)
          (passed_to a.limit lines a.bytes.now a.at at end ts inv.before (omega arith) run passed);
      some = omega (arith, len, behind);
      short = omega (arith, len, c.if-end-start.false);
      place = ap₂ (slice_range a.bytes.now) (sym start) (sym last);
      run = subst (λ k. IsRun a.limit a.bytes.now k (length (slice_range a.bytes.now at end))) (sym start) (subst (IsRun a.limit a.bytes.now at) (sym len) run);
      before = subst (AreWhite a.bytes.now a.at) (sym start) inv.before;
      further = omega (arith, len, inv.before.order);
      within = omega (arith, m.within, c.lowest-bit.ensures.bound);
      same = (refl, refl);
    }

pub returns-clause-start : goal.returns-clause-start
returns-clause-start c =
    let inv = c.requires in
    let at = c.args.start in
    let end : ℕ = c.args.white.next + c.lowest-bit.result - 64 in
    let m = inv.bits in
    let ahead = m.ahead c.lowest-bit.result c.lowest-bit.ensures.set in
    let len = length-slice_range c.args.self.now.bytes.now at end (omega (arith, m.within, c.lowest-bit.ensures.bound)) in
    omega arith
