use Rattle.vcd_compare.proofs.Cited.{◌≡◌, ◌≤◌, ◌==◌, ◌+◌, ℕ, false, length, get_or, take, list_any}
use Rattle.vcd_compare.proofs.selected.marks_of.Given as goal

abbrev pub invariant-loop-number : goal.invariant-loop-number
invariant-loop-number l = record {
  len : length l.marks.items ≡ l.count + 1;
  is : (m : ℕ) → m ≤ l.count → get_or l.marks.items m false ≡ list_any (λ x. x == m) (take l.number-index l.numbers);
}
