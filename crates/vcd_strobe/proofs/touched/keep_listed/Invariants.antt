use Rattle.std.proofs.Common.{◌≡◌, ℕ, ◌≤◌, cond, length, get_or, take}
use Rattle.vcd_run.specs.Listed.{times}
use Rattle.vcd_strobe.specs.Listed.{listed_at}
use Rattle.vcd_strobe.proofs.touched.keep_listed.Given as goal

abbrev pub invariant-loop-index : goal.invariant-loop-index
invariant-loop-index l = record {
  low : l.kept ≤ l.index;
  len : length l.codes ≡ length l.fn.codes;
  rest : (j : ℕ) → l.index ≤ j → get_or l.codes j 0 ≡ get_or l.fn.codes j 0;
  so_far : (i : ℕ) → times i (take l.kept l.codes) ≡ cond (listed_at l.roles i) (times i (take l.index l.fn.codes)) 0;
}
