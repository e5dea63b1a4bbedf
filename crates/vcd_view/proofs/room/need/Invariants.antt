use Rattle.vcd_view.proofs.Cited.{◌≡◌, ◌-◌, ◌^◌, min, take, sum_by, value_bytes}
use Rattle.vcd_view.proofs.room.need.Given as goal

abbrev pub invariant-loop-code : goal.invariant-loop-code
invariant-loop-code l = l.values ≡ min (sum_by value_bytes (take l.code-index l.view.codes.now)) (2 ^ 64 - 1)
