use Rattle.vcd_engine.proofs.Facts.{no_room_fits, pick_room_fits, no_room_within, pick_room_within, still_within, windows}
use Rattle.vcd_engine.proofs.task.Task.need.Goals as goal

pub returns-in-Check-clause-fits : goal.returns-in-Check-clause-fits
returns-in-Check-clause-fits c = λ limit h w views are. no_room_fits limit h w c.args.view views are

pub returns-in-Pick-clause-fits : goal.returns-in-Pick-clause-fits
returns-in-Pick-clause-fits c = λ limit h w views are. pick_room_fits limit h w c.args.view views are

pub returns-in-Check-clause-bound : goal.returns-in-Check-clause-bound
returns-in-Check-clause-bound c = λ limit chunk lent le within. still_within limit chunk c.args.view lent _ within (no_room_within limit chunk c.args.view le)

pub returns-in-Pick-clause-bound : goal.returns-in-Pick-clause-bound
returns-in-Pick-clause-bound c = λ limit chunk lent le within. still_within limit chunk c.args.view lent _ within (pick_room_within limit chunk c.args.view le)

pub returns-in-Cut-clause-bound : goal.returns-in-Cut-clause-bound
returns-in-Cut-clause-bound c = λ limit chunk lent le within. still_within limit chunk c.args.view lent _ within (λ h views. c.need.ensures.fits limit h _ views (windows limit chunk le))
