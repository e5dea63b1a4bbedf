-- What `check` keeps.
use Rattle.std.specs.Prelude.{◌≡◌, List, length, count_by, filter_map}
use Rattle.vcd_model.specs.Items.{BodyItem, marks, is_begin, change_of}
use Rattle.vcd_engine.specs.declared.task_state.check.Check.{Check}

-- the counts are those of these items
pub record AreCounted (items : List BodyItem) (c : Check) : Type 0 where
  pub times : c.times ≡ length (marks items)
  pub sections : c.sections ≡ count_by is_begin items
  pub changes : c.changes ≡ length (filter_map change_of items)
