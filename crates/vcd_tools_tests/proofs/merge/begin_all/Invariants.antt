use Rattle.std.proofs.Common.{◌≡◌, ◌-◌, ◌^◌, ◌<◌, length}
use Rattle.std.specs.Prelude.{All}
use Rattle.vcd_text.specs.Watch.{failed_calls}
use Rattle.vcd_merge.specs.MergeParts.{SameLengths, part_len}
use Rattle.vcd_merge.specs.Seat.{IsSeated}
use Rattle.vcd_tools_tests.proofs.merge.begin_all.Given as goal

abbrev pub invariant-loop-input : goal.invariant-loop-input
invariant-loop-input l =
    SameLengths l.fn.windows l.windows
    × ((length l.inputs.heads.items ≡ l.input) × (length l.inputs.seats.items ≡ l.input) × (length l.inputs.sources.items ≡ l.input))
    × All (IsSeated (part_len (length l.texts) l.fn.windows.chunks.now) (part_len (length l.texts) l.fn.windows.tokens.now)) l.inputs.seats.items
    × All (λ s. failed_calls s < 2 ^ 64 - 1) l.inputs.sources.items
