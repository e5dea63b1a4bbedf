-- An item with which nothing is due.
use Rattle.std.specs.Prelude.{◌≡◌, false, List, [], ◌∷◌, ◌++◌}
use Rattle.vcd_model.specs.Header.{Header}
use Rattle.vcd_model.specs.Items.{BodyItem}
use Rattle.vcd_model.specs.Outcome.{Request, ends_early, open_text}

-- nothing is due with one more item, which does not end the run, and then this holds
pub record TakesQuietly (holds : Type 0) (task : Request) (h : Header) (items : List BodyItem) (x : BodyItem) : Type 0 where
  pub due : open_text task h (items ++ x ∷ []) ≡ open_text task h items ++ []
  pub on : ends_early task x ≡ false
  pub keeps : holds
