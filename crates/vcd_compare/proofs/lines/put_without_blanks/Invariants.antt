use Rattle.vcd_compare.proofs.Cited.{◌≡◌, take, flat_map, Appends}
use Rattle.vcd_compare.proofs.Facts.{byte_of}
use Rattle.vcd_compare.proofs.lines.put_without_blanks.Given as goal

abbrev pub invariant-loop-byte : goal.invariant-loop-byte
invariant-loop-byte g l = record {
  same : (g.W.Sink.device l.out).failures ≡ (g.W.Sink.device l.fn.out).failures;
  lines : Appends (g.W.Sink.device l.fn.out).held (g.W.Sink.device l.out).held (flat_map byte_of (take l.byte-index l.text));
}
