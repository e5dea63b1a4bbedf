-- What is asked for, as the definitions have it.
use Rattle.std.specs.Prelude.{ℕ, List, [], bytes_eq}
use Rattle.vcd_model.specs.Compare.{Asked as ModelAsked, Extent as ModelExtent, Rule}
use Rattle.vcd_compare.specs.declared.asked.Asked.{Asked}
use Rattle.vcd_compare.specs.declared.asked.Extent.{Extent}
use Rattle.vcd_compare.specs.declared.asked.Extent.TheVariants.{First, EachPair, Always}

-- which lines are due
abbrev pub model_extent : Extent → ModelExtent
model_extent First = ModelExtent.First
model_extent EachPair = ModelExtent.EachPair
model_extent Always = ModelExtent.Always

-- texts of real numbers match only if they are the same
abbrev pub rule_of : Asked → Rule
rule_of a = record { x_of_one = a.x_of_one; x_of_other = a.x_of_other; same_real = bytes_eq }

-- what is asked for, with these exceptions
abbrev pub model_asked : Asked → List (List ℕ) → ModelAsked
model_asked a exceptions = record { names = []; exceptions = exceptions; from = a.from; to = a.to; rule = rule_of a; extent = model_extent a.extent }
