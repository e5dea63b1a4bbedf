use Rattle.vcdkit.proofs.Cited.{no_room_within, still_within}
use Rattle.vcd_model.specs.Bound.{no_room}
use Rattle.vcdkit.proofs.tasks.need_of.Goals as goal

pub returns-in-None-clause-bound : goal.returns-in-None-clause-bound
returns-in-None-clause-bound c = λ limit chunk lent le within. still_within limit chunk c.args.view lent no_room within (no_room_within limit chunk c.args.view le)
