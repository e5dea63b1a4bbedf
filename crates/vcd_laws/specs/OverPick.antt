-- What the commands give for what `pick` wrote.
use Rattle.std.specs.Prelude.{◌≡◌, ◌≢◌, ◌↔◌, ℕ, List, [], ◌∷◌, flat_map, None, Contains}
use Rattle.vcd_model.specs.Input.{Input}
use Rattle.vcd_model.specs.Header.{Header}
use Rattle.vcd_model.specs.Ticks.{Moment}
use Rattle.vcd_model.specs.Selection.{Selected, selected, first_unmatched}
use Rattle.vcd_model.specs.ItemText.{last_mark}
use Rattle.vcd_model.specs.CheckAndList.{list_line}
use Rattle.vcd_model.specs.Outcome.{Opened, items_in, clean_outcome}
use Rattle.vcd_model.specs.Job.{Want, IsJob, outcome}
use Rattle.vcd_laws.specs.Dumps.{IsReadable, over_written}

-- `list` of what `pick` wrote has the rows of the selected variables
abbrev pub ListOfPick : Type 0
ListOfPick = (limit : ℕ) (name : List ℕ) (names : List (List ℕ)) (input : Input) (o : Opened)
    → IsReadable (Want.Pick names) limit name input o
    → over_written Want.Listing (Want.Pick names) limit name input
    ≡ clean_outcome (flat_map list_line (selected names o.header.declarations))

-- these names select nothing that those names do not select
abbrev pub SelectWithin : List (List ℕ) → List (List ℕ) → Header → Type 0
SelectWithin wanted names h = (s : Selected) → Contains (selected wanted h.declarations) s
    → Contains (selected names h.declarations) s

-- `sample` of what `pick` wrote is `sample` of its input, for variables that were picked
abbrev pub SampleOfPick : Type 0
SampleOfPick = (limit : ℕ) (name : List ℕ) (names wanted : List (List ℕ)) (times : List Moment)
    (input : Input) (o : Opened)
    → IsJob (Want.Sample times wanted) → IsReadable (Want.Pick names) limit name input o
    → SelectWithin wanted names o.header
    → over_written (Want.Sample times wanted) (Want.Pick names) limit name input
    ≡ outcome (Want.Sample times wanted) limit (name ∷ []) (input ∷ [])

-- `edges` of what `pick` wrote is `edges` of its input, for variables that were picked
abbrev pub EdgesOfPick : Type 0
EdgesOfPick = (limit : ℕ) (name : List ℕ) (names wanted : List (List ℕ)) (input : Input)
    (o : Opened)
    → IsReadable (Want.Pick names) limit name input o → SelectWithin wanted names o.header
    → over_written (Want.Edges wanted) (Want.Pick names) limit name input
    ≡ outcome (Want.Edges wanted) limit (name ∷ []) (input ∷ [])

-- `sample` without names of what `pick` wrote is `sample` of its input with the names of the pick
abbrev pub SampleOfAllPicked : Type 0
SampleOfAllPicked = (limit : ℕ) (name : List ℕ) (names : List (List ℕ)) (times : List Moment)
    (input : Input) (o : Opened)
    → IsJob (Want.Sample times names) → IsReadable (Want.Pick names) limit name input o
    → over_written (Want.Sample times []) (Want.Pick names) limit name input
    ≡ outcome (Want.Sample times names) limit (name ∷ []) (input ∷ [])

-- `edges` without names of what `pick` wrote is `edges` of its input with the names of the pick
abbrev pub EdgesOfAllPicked : Type 0
EdgesOfAllPicked = (limit : ℕ) (name : List ℕ) (names : List (List ℕ)) (input : Input) (o : Opened)
    → IsReadable (Want.Pick names) limit name input o
    → over_written (Want.Edges []) (Want.Pick names) limit name input
    ≡ outcome (Want.Edges names) limit (name ∷ []) (input ∷ [])

-- Each of `wanted` selects something that `names` select too. Each of `both` selects something, and
-- all of them what `wanted` and `names` both select.
pub record SelectBoth (wanted names both : List (List ℕ)) (h : Header) : Type 0 where
  pub each_selects : (w : List ℕ) → Contains wanted w → (s : Selected)
      × Contains (selected (w ∷ []) h.declarations) s × Contains (selected names h.declarations) s
  pub alone : first_unmatched both h.declarations ≡ None
  pub together : (s : Selected) → Contains (selected both h.declarations) s
      ↔ (Contains (selected wanted h.declarations) s × Contains (selected names h.declarations) s)

-- `sample` of what `pick` wrote is `sample` of its input, for what the names of both select
abbrev pub SampleOfSomePicked : Type 0
SampleOfSomePicked = (limit : ℕ) (name : List ℕ) (names wanted both : List (List ℕ))
    (times : List Moment) (input : Input) (o : Opened)
    → IsJob (Want.Sample times wanted) → IsReadable (Want.Pick names) limit name input o
    → SelectBoth wanted names both o.header
    → over_written (Want.Sample times wanted) (Want.Pick names) limit name input
    ≡ outcome (Want.Sample times both) limit (name ∷ []) (input ∷ [])

-- `edges` of what `pick` wrote is `edges` of its input, for what the names of both select
abbrev pub EdgesOfSomePicked : Type 0
EdgesOfSomePicked = (limit : ℕ) (name : List ℕ) (names wanted both : List (List ℕ)) (input : Input)
    (o : Opened)
    → IsReadable (Want.Pick names) limit name input o → SelectBoth wanted names both o.header
    → over_written (Want.Edges wanted) (Want.Pick names) limit name input
    ≡ outcome (Want.Edges both) limit (name ∷ []) (input ∷ [])

-- `pick` of what `pick` wrote, with the same names, writes it again
abbrev pub PickTwice : Type 0
PickTwice = (limit : ℕ) (name : List ℕ) (names : List (List ℕ)) (input : Input) (o : Opened)
    → IsReadable (Want.Pick names) limit name input o
    → over_written (Want.Pick names) (Want.Pick names) limit name input
    ≡ outcome (Want.Pick names) limit (name ∷ []) (input ∷ [])

-- `pick` of what `pick` wrote is `pick` of the input, for what the names of both select, if the
-- input has a timestamp
abbrev pub PickOfPick : Type 0
PickOfPick = (limit : ℕ) (name : List ℕ) (names wanted both : List (List ℕ)) (input : Input)
    (o : Opened)
    → IsReadable (Want.Pick names) limit name input o → SelectBoth wanted names both o.header
    → last_mark (items_in o) ≢ None
    → over_written (Want.Pick wanted) (Want.Pick names) limit name input
    ≡ outcome (Want.Pick both) limit (name ∷ []) (input ∷ [])
