use Rattle.std.proofs.Common.{length, rules, max}
use Rattle.vcd_text.specs.Feed.{chunk_len_of, limit_of}
use Rattle.vcd_tools_tests.proofs.tools.takes_steps_behind.Goals as goal

pub takes_steps_in-requires-clause-bound : goal.takes_steps_in-requires-clause-bound
takes_steps_in-requires-clause-bound g c =
    c.need-need.ensures.bound (limit_of c.args.feed.now) (chunk_len_of c.args.feed.now)
    (record {
      values = length c.deref_mut.result.now;
      slots = max (length c.deref_mut-2.result.now)
          (length c.deref_mut-3.result.now);
      marks = length c.deref_mut-4.result.now;
    })
    c.requires.chunk (record { values = search rules; slots = search rules; marks = search rules })
