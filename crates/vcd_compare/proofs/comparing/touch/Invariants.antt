use Rattle.vcd_compare.proofs.Cited.{◌≡◌, ◌<◌, length, AreLinked, AreSkips, AreTouched, IsListed}
use Rattle.vcd_compare.proofs.comparing.touch.Given as goal

-- the classes of the ends of the code from an index on were touched, and the skips are right
abbrev pub invariant-ends : goal.invariant-ends
invariant-ends l = record {
  listed : IsListed l.touched;
  many : length l.touched.marks.now ≡ length l.fn.touched.marks.now;
  touches : AreLinked l.pairs.ends.items l.pairs.last.items → l.code < length l.pairs.last.items → AreSkips l.pairs.ends.items l.fn.touched.marks.now l.fn.skips
      → AreTouched l.pairs.ends.items l.code l.left l.fn.touched.marks.now l.touched.marks.now × AreSkips l.pairs.ends.items l.touched.marks.now l.skips;
}

abbrev pub decreases-ends : goal.decreases-ends
decreases-ends l = l.left
