-- What the commands give for what `cut` wrote, and for a cut of a pick.
use Rattle.std.specs.Prelude.{◌≡◌, ℕ, ◌≤◌, Bool, List, [], ◌∷◌, ◌++◌, map, flat_map, Option, None, Ok, ◌<◌, cond, Some, decimal, count_by, nat_lt, min}
use Rattle.std.specs.List.{AllByRecursion}
use Rattle.vcd_model.specs.Input.{Input}
use Rattle.vcd_model.specs.Declarations.{IdCode, code_of}
use Rattle.vcd_model.specs.Items.{BodyItem}
use Rattle.vcd_model.specs.Values.{Value}
use Rattle.vcd_model.specs.History.{value_at, gives_to, value_before, values_of}
use Rattle.vcd_model.specs.Ticks.{Moment, moment_ticks}
use Rattle.vcd_model.specs.HeadText.{words}
use Rattle.vcd_model.specs.Selection.{Selected, selected, first_unmatched}
use Rattle.vcd_model.specs.Cut.{cut_kept}
use Rattle.vcd_model.specs.Sample.{shown}
use Rattle.vcd_model.specs.Edges.{Counts, counts_of}
use Rattle.vcd_model.specs.Outcome.{Request, Opened, items_in, clean_outcome}
use Rattle.vcd_model.specs.Job.{Want, IsJob, request_of, outcome}
use Rattle.vcd_laws.specs.KeptValues.{written_by}
use Rattle.vcd_laws.specs.Dumps.{input_of, IsReadable, IsDumpFor, over_written}

-- `list` of what `cut` wrote is `list` of its input
abbrev pub ListOfCut : Type 0
ListOfCut = (limit : ℕ) (name : List ℕ) (from to : Moment) (input : Input) (o : Opened)
    → IsJob (Want.Cut from to) → IsReadable (Want.Cut from to) limit name input o
    → over_written Want.Listing (Want.Cut from to) limit name input
    ≡ outcome Want.Listing limit (name ∷ []) (input ∷ [])

-- `sample` of what `cut` wrote is `sample` of its input, at times that were kept
abbrev pub SampleOfCut : Type 0
SampleOfCut = (limit : ℕ) (name : List ℕ) (from to : Moment) (times : List Moment)
    (wanted : List (List ℕ)) (input : Input) (o : Opened) (a b : ℕ) (ts : List ℕ)
    → IsJob (Want.Cut from to) → IsJob (Want.Sample times wanted)
    → IsReadable (Want.Cut from to) limit name input o
    → moment_ticks o.header.scale from Bool.true ≡ Ok a
    → moment_ticks o.header.scale to Bool.false ≡ Ok b
    → request_of o.header.scale (Want.Sample times wanted) ≡ Ok (Request.Sample ts wanted)
    → AllByRecursion (λ t. (a ≤ t) × (t ≤ b)) ts
    → over_written (Want.Sample times wanted) (Want.Cut from to) limit name input
    ≡ outcome (Want.Sample times wanted) limit (name ∷ []) (input ∷ [])

-- the line that `sample` of a cut has at a time for a variable that is no event: before the first
-- time of the cut nothing has a value, and after its second the values stay
abbrev pub line_of_cut : ℕ → ℕ → List BodyItem → ℕ → Selected → List ℕ
line_of_cut a b items t s =
    cond (code_of s.variable).event []
    (words (decimal t ∷ s.path
    ∷ shown (cond (nat_lt t a) None (value_at items (code_of s.variable) (min t b))) ∷ []))

-- `sample` of what `cut` wrote, at any times, has such a line for each time and variable
abbrev pub SampleOfCutAnywhere : Type 0
SampleOfCutAnywhere = (limit : ℕ) (name : List ℕ) (from to : Moment) (times : List Moment)
    (wanted : List (List ℕ)) (input : Input) (o : Opened) (a b : ℕ) (ts : List ℕ)
    → IsJob (Want.Cut from to) → IsJob (Want.Sample times wanted)
    → IsReadable (Want.Cut from to) limit name input o
    → moment_ticks o.header.scale from Bool.true ≡ Ok a
    → moment_ticks o.header.scale to Bool.false ≡ Ok b
    → request_of o.header.scale (Want.Sample times wanted) ≡ Ok (Request.Sample ts wanted)
    → first_unmatched wanted o.header.declarations ≡ None
    → over_written (Want.Sample times wanted) (Want.Cut from to) limit name input
    ≡ clean_outcome (flat_map (λ t. flat_map (line_of_cut a b (items_in o) t)
    (selected wanted o.header.declarations)) ts)

-- the element, if there is one
abbrev pub as_list : {X : Type 0} → Option X → List X
as_list None = []
as_list (Some x) = x ∷ []

-- the values that a code takes in a cut: the one before it, if there is one, and those of the
-- changes that are kept
abbrev pub values_in_cut : ℕ → ℕ → List BodyItem → IdCode → List Value
values_in_cut a b items c =
    as_list (value_before items c a) ++ values_of (map (λ e. e.item) (cut_kept a b items)) c

-- the counts of a code in a cut: of these values; of an event, the triggers that are kept
abbrev pub counts_in_cut : ℕ → ℕ → List BodyItem → IdCode → Counts
counts_in_cut a b items c =
    cond c.event
    (record {
      changes = count_by (λ e. gives_to c e.item) (cut_kept a b items);
      rises = 0;
      falls = 0;
    })
    (counts_of (values_in_cut a b items c))

-- the row that `edges` of a cut has for a variable
abbrev pub cut_row : ℕ → ℕ → List BodyItem → Selected → List ℕ
cut_row a b items s =
    let counts = counts_in_cut a b items (code_of s.variable) in
    words (s.path ∷ decimal counts.changes ∷ decimal counts.rises ∷ decimal counts.falls ∷ [])

-- `edges` of what `cut` wrote counts from the value before the first of its times, if there is one,
-- to that at the second
abbrev pub EdgesOfCut : Type 0
EdgesOfCut = (limit : ℕ) (name : List ℕ) (from to : Moment) (wanted : List (List ℕ)) (input : Input)
    (o : Opened) (a b : ℕ)
    → IsJob (Want.Cut from to) → IsReadable (Want.Cut from to) limit name input o
    → moment_ticks o.header.scale from Bool.true ≡ Ok a
    → moment_ticks o.header.scale to Bool.false ≡ Ok b
    → first_unmatched wanted o.header.declarations ≡ None
    → over_written (Want.Edges wanted) (Want.Cut from to) limit name input
    ≡ clean_outcome (flat_map (cut_row a b (items_in o)) (selected wanted o.header.declarations))

-- `cut` of what `cut` wrote, from a later time to one that is not later, is `cut` of the input
abbrev pub CutTwice : Type 0
CutTwice = (limit : ℕ) (name : List ℕ) (from to start stop : Moment) (input : Input) (o : Opened)
    (a b c d : ℕ)
    → IsJob (Want.Cut from to) → IsJob (Want.Cut start stop)
    → IsReadable (Want.Cut from to) limit name input o
    → moment_ticks o.header.scale from Bool.true ≡ Ok a
    → moment_ticks o.header.scale to Bool.false ≡ Ok b
    → moment_ticks o.header.scale start Bool.true ≡ Ok c
    → moment_ticks o.header.scale stop Bool.false ≡ Ok d
    → a < c → d ≤ b
    → over_written (Want.Cut start stop) (Want.Cut from to) limit name input
    ≡ outcome (Want.Cut start stop) limit (name ∷ []) (input ∷ [])

-- `cut` of what `cut` wrote, from a later time to one that is past its end, is `cut` of the input
-- to its end
abbrev pub CutPastEnd : Type 0
CutPastEnd = (limit : ℕ) (name : List ℕ) (from to start stop : Moment) (input : Input) (o : Opened)
    (a b c d : ℕ)
    → IsJob (Want.Cut from to) → IsReadable (Want.Cut from to) limit name input o
    → moment_ticks o.header.scale from Bool.true ≡ Ok a
    → moment_ticks o.header.scale to Bool.false ≡ Ok b
    → moment_ticks o.header.scale start Bool.true ≡ Ok c
    → moment_ticks o.header.scale stop Bool.false ≡ Ok d
    → a < c → c ≤ b → b ≤ d
    → over_written (Want.Cut start stop) (Want.Cut from to) limit name input
    ≡ outcome (Want.Cut start to) limit (name ∷ []) (input ∷ [])

-- `cut` of what `cut` wrote is a dump of all variables, at times that are within both
abbrev pub CutOfCut : Type 0
CutOfCut = (limit : ℕ) (name : List ℕ) (from to start stop : Moment) (input : Input) (o k : Opened)
    (a b c d : ℕ)
    → IsJob (Want.Cut from to) → IsJob (Want.Cut start stop)
    → IsReadable (Want.Cut from to) limit name input o
    → IsReadable (Want.Cut start stop) limit name
    (input_of (written_by (Want.Cut from to) limit name input)) k
    → moment_ticks o.header.scale from Bool.true ≡ Ok a
    → moment_ticks o.header.scale to Bool.false ≡ Ok b
    → moment_ticks o.header.scale start Bool.true ≡ Ok c
    → moment_ticks o.header.scale stop Bool.false ≡ Ok d
    → IsDumpFor limit o [] (λ t. ((a ≤ t) × (t ≤ b)) × ((c ≤ t) × (t ≤ d)))
    (over_written (Want.Cut start stop) (Want.Cut from to) limit name input).output

-- `cut` of what `pick` wrote is a dump of what was picked, between the times of the cut; o and k
-- are the inputs of the two
abbrev pub CutOfPick : Type 0
CutOfPick = (limit : ℕ) (name : List ℕ) (names : List (List ℕ)) (from to : Moment) (input : Input)
    (o k : Opened) (a b : ℕ)
    → IsJob (Want.Cut from to) → IsReadable (Want.Pick names) limit name input o
    → IsReadable (Want.Cut from to) limit name
    (input_of (written_by (Want.Pick names) limit name input)) k
    → moment_ticks o.header.scale from Bool.true ≡ Ok a
    → moment_ticks o.header.scale to Bool.false ≡ Ok b
    → IsDumpFor limit o names (λ t. (a ≤ t) × (t ≤ b))
    (over_written (Want.Cut from to) (Want.Pick names) limit name input).output

-- `pick` of what `cut` wrote is a dump of what was picked too, between the times of the cut
abbrev pub PickOfCut : Type 0
PickOfCut = (limit : ℕ) (name : List ℕ) (names : List (List ℕ)) (from to : Moment) (input : Input)
    (o k : Opened) (a b : ℕ)
    → IsJob (Want.Cut from to) → IsReadable (Want.Cut from to) limit name input o
    → IsReadable (Want.Pick names) limit name
    (input_of (written_by (Want.Cut from to) limit name input)) k
    → moment_ticks o.header.scale from Bool.true ≡ Ok a
    → moment_ticks o.header.scale to Bool.false ≡ Ok b
    → IsDumpFor limit o names (λ t. (a ≤ t) × (t ≤ b))
    (over_written (Want.Pick names) (Want.Cut from to) limit name input).output
