use Rattle.vcd_compare.proofs.Cited.{◌≡◌, ◌≤◌, false, List, ℕ, length}
use Rattle.vcd_compare.specs.Rows.{AreDue, AreLinkedRows, was_flagged}
use Rattle.vcd_compare.proofs.TouchedLemmas.{GoneThrough}
use Rattle.vcd_compare.proofs.rows.take_due.Given as goal

-- the candidates before an index are settled, and the rows of those whose mark was 1 are due
abbrev pub invariant-loop-index : goal.invariant-loop-index
invariant-loop-index l = record {
  gone : GoneThrough l.fn.touched l.touched l.after (λ _. false) l.index;
  len : length l.due ≡ length l.fn.due;
  due : (cs : List ℕ) → AreLinkedRows cs (length cs) l.links.last.now l.links.earlier.now → length l.fn.touched.marks.now ≤ length l.links.last.now
      → length cs ≤ length l.fn.due → AreDue l.due l.count (was_flagged l.fn.touched.marks.now l.touched.marks.now cs);
}
