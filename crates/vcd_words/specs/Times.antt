-- The times that words ask for.
use Rattle.std.specs.Prelude.{◌≡◌, ◌==◌, ℕ, List, [], ◌∷◌, map, Option, Some, None, Result}
use Rattle.std.specs.List.{slice_split}
use Rattle.vcd_model.specs.Job.{has_unit, do_rise, Want}
use Rattle.vcd_model.specs.Ticks.{Moment}
use Rattle.vcd_model.specs.Words as model
use Rattle.vcd_words.specs.declared.moment_word.TimesOrder.{TimesOrder}

-- the words between the commas of a word
abbrev pub parts : List ℕ → List (List ℕ)
parts at = slice_split (λ b. b == 44) at

-- a cut between the times that words are, or the first fault of them
abbrev pub cut_in : (from to : List ℕ) → Result Want model.UseFault
cut_in from to = model.cut_of (model.time_of from) (model.time_of to)

-- the last number, if there is one
abbrev pub last_of : List ℕ → Option ℕ
last_of [] = None
last_of (n ∷ []) = Some n
last_of (n ∷ m ∷ ms) = last_of (m ∷ ms)

-- the order is that of these times
pub record IsOrderOf (times : List Moment) (o : TimesOrder) : Type 0 where
  pub has_unit_is : o.has_unit ≡ has_unit times
  pub rises_is : o.rises ≡ do_rise (map (λ m. m.number) times)
  pub last_is : o.last ≡ last_of (map (λ m. m.number) times)
