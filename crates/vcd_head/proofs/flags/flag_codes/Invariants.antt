use Rattle.vcd_head.proofs.Cited.{◌≡◌, length, parts}
use Rattle.vcd_head.proofs.Facts.{HaveFlags}
use Rattle.vcd_head.proofs.flags.flag_codes.Given as goal

abbrev pub invariant-loop-row : goal.invariant-loop-row
invariant-loop-row l = (length l.flags ≡ length l.fn.flags) × HaveFlags (parts l.view) l.marks l.flags (length l.yielded)
