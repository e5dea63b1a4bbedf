use Rattle.std.proofs.Common.{◌≡◌, true, map, length}
use Rattle.vcd_merge.specs.MergeParts.{SameLengths}
use Rattle.vcd_merge.specs.MergeStep.{IsReady, is_going, standing_of, left_of}
use Rattle.vcd_tools_tests.proofs.steps.take_steps.Given as goal

abbrev pub invariant-items : goal.invariant-items
invariant-items g l = record {
  going : is_going l.merge ≡ true;
  ready : IsReady (standing_of l.merge l.sources l.windows);
  reads : map g.S.Source.failures l.sources ≡ map g.S.Source.failures l.fn.sources;
  writes : (g.W.Sink.device l.out).failures ≡ (g.W.Sink.device l.fn.out).failures;
  seats : length l.merge.seats.now ≡ length l.fn.merge.seats.now;
  windows : SameLengths l.fn.windows l.windows;
  heads : l.merge.heads.now ≡ l.fn.merge.heads.now;
}

abbrev pub decreases-items : goal.decreases-items
decreases-items g l = left_of l.merge.seats.now
