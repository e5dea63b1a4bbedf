use Rattle.vcd_engine.proofs.RoomLemmas.{no_room_in_each}
use Rattle.vcd_tools_tests.proofs.tools.is_listed.Goals as goal

pub list-requires-clause-bound : goal.list-requires-clause-bound
list-requires-clause-bound c = no_room_in_each c.view.result
