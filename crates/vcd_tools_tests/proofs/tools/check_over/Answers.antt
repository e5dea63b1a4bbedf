use Rattle.std.proofs.Common.{arith, rules}
use Rattle.vcd_engine.proofs.RoomLemmas.{no_room_within}
use Rattle.vcd_tools_tests.proofs.tools.check_over.Goals as goal

pub check-requires : goal.check-requires
check-requires g c = record {
  run = record {
    feed_failures = search rules;
    out_failures = search rules;
    unfailed = search rules;
    bound = no_room_within _ _ c.view.result (omega (arith, c.read_head.ensures.lengths.1, c.new-feed.ensures.begins.chunk_len));
  };
}
