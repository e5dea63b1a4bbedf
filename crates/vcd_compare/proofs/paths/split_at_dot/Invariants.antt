use Rattle.vcd_compare.proofs.Cited.{◌≡◌, false, take, has_dot}
use Rattle.vcd_compare.proofs.paths.split_at_dot.Given as goal

abbrev pub invariant-loop-index : goal.invariant-loop-index
invariant-loop-index l = has_dot (take l.index l.text) ≡ false
