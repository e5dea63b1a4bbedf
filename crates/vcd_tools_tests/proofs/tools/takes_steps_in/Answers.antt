use Rattle.vcd_engine.proofs.RoomLemmas.{lent_within}
use Rattle.vcd_tools_tests.proofs.tools.takes_steps_in.Goals as goal

pub takes_steps-requires-clause-bound : goal.takes_steps-requires-clause-bound
takes_steps-requires-clause-bound g c =
    lent_within _ _ c.args.view _ _ _ c.in_ok-engine.ensures.view c.in_ok-engine.ensures.begins.room c.requires.bound
