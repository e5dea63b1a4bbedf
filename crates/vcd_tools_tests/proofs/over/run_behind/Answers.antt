use Rattle.std.proofs.Common.{length, rules, max}
use Rattle.vcd_text.specs.Feed.{chunk_len_of, limit_of}
use Rattle.vcd_tools_tests.proofs.over.run_behind.Goals as goal

pub pick-requires-clause-run : goal.pick-requires-clause-run
pick-requires-clause-run g c = record {
  feed_failures = c.requires.feed_failures;
  out_failures = c.requires.out_failures;
  unfailed = c.requires.open;
  bound = c.need-need.ensures.bound (limit_of c.args.feed.now) (chunk_len_of c.args.feed.now)
      (record { values = length c.deref_mut.result.now; slots = max (length c.deref_mut-2.result.now) (length c.deref_mut-3.result.now); marks = length c.deref_mut-4.result.now }) c.requires.chunk
      (record { values = search rules; slots = search rules; marks = search rules });
}

pub cut-requires-clause-run : goal.cut-requires-clause-run
cut-requires-clause-run g c = record {
  feed_failures = c.requires.feed_failures;
  out_failures = c.requires.out_failures;
  unfailed = c.requires.open;
  bound = c.need-need.ensures.bound (limit_of c.args.feed.now) (chunk_len_of c.args.feed.now)
      (record { values = length c.deref_mut.result.now; slots = max (length c.deref_mut-2.result.now) (length c.deref_mut-3.result.now); marks = length c.deref_mut-4.result.now }) c.requires.chunk
      (record { values = search rules; slots = search rules; marks = search rules });
}

pub sample-requires-clause-run : goal.sample-requires-clause-run
sample-requires-clause-run g c = record {
  feed_failures = c.requires.feed_failures;
  out_failures = c.requires.out_failures;
  unfailed = c.requires.open;
  bound = c.need-need.ensures.bound (limit_of c.args.feed.now) (chunk_len_of c.args.feed.now)
      (record { values = length c.deref_mut.result.now; slots = max (length c.deref_mut-2.result.now) (length c.deref_mut-3.result.now); marks = length c.deref_mut-4.result.now }) c.requires.chunk
      (record { values = search rules; slots = search rules; marks = search rules });
}

pub edges-requires-clause-run : goal.edges-requires-clause-run
edges-requires-clause-run g c = record {
  feed_failures = c.requires.feed_failures;
  out_failures = c.requires.out_failures;
  unfailed = c.requires.open;
  bound = c.need-need.ensures.bound (limit_of c.args.feed.now) (chunk_len_of c.args.feed.now)
      (record { values = length c.deref_mut.result.now; slots = max (length c.deref_mut-2.result.now) (length c.deref_mut-3.result.now); marks = length c.deref_mut-4.result.now }) c.requires.chunk
      (record { values = search rules; slots = search rules; marks = search rules });
}
