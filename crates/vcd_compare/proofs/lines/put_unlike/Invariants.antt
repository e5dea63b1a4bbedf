use Rattle.vcd_compare.proofs.Cited.{◌≡◌, List, take, Appends, AllZip, Header, Pair, unlike_lines, IsViewOf, IsUnlikeAt}
use Rattle.vcd_compare.proofs.lines.put_unlike.Given as goal

abbrev pub invariant-loop-unlike : goal.invariant-loop-unlike
invariant-loop-unlike g l = record {
  same : (g.W.Sink.device l.out).failures ≡ (g.W.Sink.device l.fn.out).failures;
  lines : (h : Header) (ps : List Pair) → IsViewOf l.view h → AllZip (IsUnlikeAt h) l.rows ps
      → Appends (g.W.Sink.device l.fn.out).held (g.W.Sink.device l.out).held (unlike_lines (take l.unlike-index ps));
}
