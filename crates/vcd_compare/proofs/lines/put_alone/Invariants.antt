use Rattle.vcd_compare.proofs.Cited.{◌≡◌, List, take, Appends, AllZip, Header, Named, alone_lines, IsViewOf}
use Rattle.vcd_compare.specs.Pairs.{IsNamedAt}
use Rattle.vcd_compare.proofs.lines.put_alone.Given as goal

abbrev pub invariant-loop-row : goal.invariant-loop-row
invariant-loop-row g l = record {
  same : (g.W.Sink.device l.out).failures ≡ (g.W.Sink.device l.fn.out).failures;
  lines : (h : Header) (vs : List Named) → IsViewOf l.view h → AllZip (IsNamedAt h) l.rows vs
      → Appends (g.W.Sink.device l.fn.out).held (g.W.Sink.device l.out).held (alone_lines l.letter (take l.row-index vs));
}
