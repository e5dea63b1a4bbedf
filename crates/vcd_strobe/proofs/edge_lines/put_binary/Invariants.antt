use Rattle.std.proofs.Common.{◌≡◌, length, take}
use Rattle.vcd_model.specs.Strobe.{binary}
use Rattle.vcd_strobe.proofs.edge_lines.put_binary.Given as goal

abbrev pub invariant-loop-index : goal.invariant-loop-index
invariant-loop-index l = record {
  long : length l.digits ≡ 64;
  so_far : take l.index l.digits ≡ take l.index (binary 64 l.number);
}
