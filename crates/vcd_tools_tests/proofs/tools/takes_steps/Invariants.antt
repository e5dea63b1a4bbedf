use Rattle.std.proofs.Common.{◌≡◌, ◌-◌, ◌^◌, ◌<◌, true}
use Rattle.vcd_text.specs.Feed.{chunk_len_of, limit_of, source_of}
use Rattle.vcd_text.specs.Watch.{failed_calls}
use Rattle.vcd_tools.specs.Engine.{is_going}
use Rattle.vcd_tools.specs.Room.{AreWithinBound, room_in, view_in}
use Rattle.vcd_tools_tests.proofs.tools.takes_steps.Given as goal

abbrev pub invariant-loop-written : goal.invariant-loop-written
invariant-loop-written g l =
    AreWithinBound (limit_of l.feed) (chunk_len_of l.feed) (view_in l.engine) (room_in l.engine)
    × (is_going l.engine ≡ true)
    × (g.S.Source.failures (source_of l.feed) < 2 ^ 64 - 1)
    × (failed_calls l.out < 2 ^ 64 - 1)
