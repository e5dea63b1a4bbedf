use Rattle.vcd_body.proofs.Cited.{◌≡◌, ℕ, ◌+◌, ◌-◌, take, drop, Appends}
use Rattle.vcd_body.proofs.digits.put_from.Given as goal

abbrev pub invariant-loop-at : goal.invariant-loop-at
invariant-loop-at g l = ((g.W.Sink.device l.w).failures ≡ (g.W.Sink.device l.fn.w).failures)
    × ((n : ℕ) × (l.at ≡ l.from + n) × Appends (g.W.Sink.device l.fn.w).held (g.W.Sink.device l.w).held (take n (drop l.from (g.D.Digits.digits l.digits))))

abbrev pub decreases-loop-at : goal.decreases-loop-at
decreases-loop-at g l = l.count - l.at
