use Rattle.vcd_compare.proofs.Cited.{◌≡◌, ◌≤◌, List, flat_map, slice_get, take, Appends, AllZip, Header, BodyItem, time_after, Pair, IsViewOf, AreCurrent, IsPairAt}
use Rattle.vcd_compare.specs.LineTexts.{line_at}
use Rattle.vcd_compare.proofs.lines.put_lines.Given as goal

abbrev pub invariant-loop-index : goal.invariant-loop-index
invariant-loop-index g l = record {
  same : (g.W.Sink.device l.out).failures ≡ (g.W.Sink.device l.fn.out).failures;
  lines : (h : Header) (items : List BodyItem) (ps : List Pair) → IsViewOf l.view h → AreCurrent l.comparison.current h items → time_after items ≤ l.time
      → AllZip (IsPairAt h l.comparison.current.pairs.now.ends.items) l.comparison.current.pairs.now.rows.items ps
      → Appends (g.W.Sink.device l.fn.out).held (g.W.Sink.device l.out).held (flat_map (λ row. line_at items l.time (slice_get ps row)) (take l.index (take l.count l.comparison.due.now)));
}
