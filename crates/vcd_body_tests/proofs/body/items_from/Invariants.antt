use Rattle.std.proofs.Common.{◌≡◌}
use Rattle.vcd_text.specs.Feed.{source_of}
use Rattle.vcd_body_tests.proofs.body.items_from.Given as goal

abbrev pub invariant-items : goal.invariant-items
invariant-items g l = g.S.Source.failures (source_of l.feed) ≡ 0
