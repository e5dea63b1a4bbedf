use Rattle.std.proofs.Common.{◌≡◌, length}
use Rattle.vcd_compare.specs.Rows.{AreLinkedRows, classes_of}
use Rattle.vcd_compare.proofs.rows.link_rows.Given as goal

-- the rows before an index are linked
abbrev pub invariant-loop-index : goal.invariant-loop-index
invariant-loop-index l = (length l.last ≡ length l.fn.last) × (length l.earlier ≡ length l.fn.earlier) × AreLinkedRows (classes_of l.rows) l.index l.last l.earlier
