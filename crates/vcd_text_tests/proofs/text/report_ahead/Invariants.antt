use Rattle.std.proofs.Common.{◌≡◌, List}
use Rattle.vcd_model.specs.Tokens.{Token}
use Rattle.vcd_text.specs.Feed.{limit_of}
use Rattle.vcd_text.specs.Ahead.{ahead_of, lines_of, bytes_of, longest_of, passed_of}
use Rattle.vcd_text.specs.Passed.{Passed}
use Rattle.vcd_text_tests.proofs.text.report_ahead.Given as goal

abbrev pub invariant-tokens : goal.invariant-tokens
invariant-tokens l = (bytes_of l.ahead ≡ ahead_of l.fn.feed) × (longest_of l.ahead ≡ limit_of l.fn.feed)
    × ((ts : List Token) × Passed (limit_of l.fn.feed) (lines_of l.fn.feed) (ahead_of l.fn.feed) (passed_of l.ahead) ts)
