use Rattle.vcd_changes.proofs.Facts.{came_by, walk_came}
use Rattle.vcd_changes.proofs.walk.walk_rows.Goals as goal

pub returns-clause-loan : goal.returns-clause-loan
returns-clause-loan c = (walk_came _ _ _ c.requires.first c.requires.some c.requires.room _ _ c.walk_ahead.ensures).same.loan

pub returns-clause-came : goal.returns-clause-came
returns-clause-came c = came_by _ _ _ (walk_came _ _ _ c.requires.first c.requires.some c.requires.room _ _ c.walk_ahead.ensures)
