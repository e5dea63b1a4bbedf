use Rattle.std.proofs.Common.{◌≡◌, take}
use Rattle.vcd_strobe.specs.Codes.{longest_len}
use Rattle.vcd_strobe.proofs.longest.longest_code.Given as goal

abbrev pub invariant-loop-code : goal.invariant-loop-code
invariant-loop-code l = l.longest ≡ longest_len (take l.code-index l.view.codes.now)
