use Rattle.std.proofs.Common.{◌≡◌, ◌<◌, ◌≤◌, ℕ, suc, Bool, false, List, Some, length, slice_get}
use Rattle.vcd_compare.specs.Rows.{AreDue, AreLinkedRows}
use Rattle.vcd_compare.proofs.RowLemmas.{with_class}
use Rattle.vcd_compare.proofs.rows.put_class.Given as goal

-- the rows of the class from an index on are due
abbrev pub invariant-rows : goal.invariant-rows
invariant-rows l =
    (length l.due ≡ length l.fn.due)
    × ((classes : List ℕ) (passes : ℕ → Bool) → AreLinkedRows classes (length classes) l.last l.earlier → l.class < length l.last → length classes ≤ length l.fn.due
    → ((i : ℕ) → length classes ≤ i → passes i ≡ false) → ((i : ℕ) → slice_get classes i ≡ Some l.class → passes i ≡ false) → AreDue l.fn.due l.fn.count passes
    → AreDue l.due l.count (with_class passes classes l.class l.left) × ((i : ℕ) → l.left ≡ suc i → slice_get classes i ≡ Some l.class))

abbrev pub decreases-rows : goal.decreases-rows
decreases-rows l = l.left
