use Rattle.std.proofs.Common.{◌≤◌}
use Rattle.vcd_text.specs.Feed.{source_of}
use Rattle.vcd_text.specs.Watch.{failed_calls}
use Rattle.vcd_text_tests.proofs.text.take_steps.Given as goal

abbrev pub invariant-steps : goal.invariant-steps
invariant-steps l = failed_calls (source_of l.feed) ≤ l.step-index
