use Rattle.std.proofs.Common.{◌≡◌, ◌<◌, ◌^◌, false, take}
use Rattle.std.specs.List.{list_any}
use Rattle.vcd_body.specs.Contents.{IsLaidOut}
use Rattle.vcd_strobe.specs.Clocks.{turns_at}
use Rattle.vcd_strobe.proofs.clocks.is_turn.Given as goal

abbrev pub invariant-loop-clock : goal.invariant-loop-clock
invariant-loop-clock l = IsLaidOut l.table → l.code < 2 ^ 60 → l.from < 4 → l.to < 4 → list_any (turns_at l.places l.table l.code l.from l.to) (take l.clock-index l.clocks) ≡ false
