use Rattle.std.proofs.Common.{◌≡◌, List, flat_map, take}
use Rattle.vcd_model.specs.Declarations.{IdCode}
use Rattle.vcd_text.specs.Device.{Appends}
use Rattle.vcd_body.specs.Contents.{IsLaidOut, codes_shown}
use Rattle.vcd_strobe.specs.Lines.{ArePlaces, HaveRoles, line_at}
use Rattle.vcd_strobe.proofs.edge_lines.put_lines.Given as goal

abbrev pub invariant-loop-code : goal.invariant-loop-code
invariant-loop-code g l = record {
  same : (g.W.Sink.device l.out).failures ≡ (g.W.Sink.device l.fn.out).failures;
  lines : (codes : List IdCode) → ArePlaces (codes_shown l.places) codes → HaveRoles l.roles codes → IsLaidOut l.table
      → Appends (g.W.Sink.device l.fn.out).held (g.W.Sink.device l.out).held
      (flat_map (line_at codes l.table l.roles l.time) (take l.code-index l.listed));
}
