use Rattle.vcd_compare.proofs.Cited.{◌≡◌, take, no_blanks}
use Rattle.vcd_compare.proofs.slices.without_blanks.Given as goal

abbrev pub invariant-loop-byte : goal.invariant-loop-byte
invariant-loop-byte l = l.bytes.items ≡ no_blanks (take l.byte-index l.text)
