-- What the commands give for what `merge` wrote.
use Rattle.std.specs.Prelude.{◌≡◌, ◌≢◌, ℕ, ◌*◌, ◌/◌, ◌+◌, List, [], ◌∷◌, ◌++◌, length, map, filter, flat_map, None, Contains, Ok, cond, Some, decimal, ◌||◌}
use Rattle.std.specs.List.{list_any}
use Rattle.vcd_model.specs.Backward.{each}
use Rattle.vcd_model.specs.Input.{Input}
use Rattle.vcd_model.specs.Declarations.{code_of}
use Rattle.vcd_model.specs.Header.{Header}
use Rattle.vcd_model.specs.Items.{BodyItem}
use Rattle.vcd_model.specs.History.{value_at}
use Rattle.vcd_model.specs.Ticks.{Moment}
use Rattle.vcd_model.specs.HeadText.{least_exponent, renamed, words}
use Rattle.vcd_model.specs.Bytes.{is_empty}
use Rattle.vcd_model.specs.Selection.{Selected, selects_path, selected, first_unmatched}
use Rattle.vcd_model.specs.Merge.{factor, headers_of}
use Rattle.vcd_model.specs.Sample.{shown}
use Rattle.vcd_model.specs.Edges.{counts_for}
use Rattle.vcd_model.specs.Outcome.{Request, Opened, items_in, clean_outcome, dumps_of}
use Rattle.vcd_model.specs.Job.{Want, IsJob, request_of}
use Rattle.vcd_laws.specs.Heads.{input_scope, under_input}
use Rattle.vcd_laws.specs.Dumps.{AreReadable, over_merged}

-- the rows of an input's variables as they are in the list of a merge: the path under the input's
-- scope, type and size as they are, and the new code
abbrev pub merged_listing : List Header → Header → List ℕ
merged_listing earlier h =
    flat_map (λ s. words (under_input (length earlier + 1) s.path ∷ s.variable.type
    ∷ decimal s.variable.size ∷ renamed earlier h s.variable.code ∷ []))
    (selected [] h.declarations)

-- `list` of what `merge` wrote has the rows of each input's list in turn, with new codes
abbrev pub ListOfMerge : Type 0
ListOfMerge = (limit : ℕ) (name : List ℕ) (names : List (List ℕ)) (inputs : List Input)
    (os : List Opened)
    → AreReadable limit names inputs os
    → over_merged Want.Listing limit name names inputs
    ≡ clean_outcome (flat_map (λ l. l) (each merged_listing (headers_of (dumps_of os))))

-- what `sample` writes for a time of input number n, as it is in a sample of the merge: the time
-- scaled, the paths under the input's scope
abbrev pub merged_lines : ℕ → ℕ → List Selected → List BodyItem → ℕ → List ℕ
merged_lines n scale vs items t =
    flat_map (λ s. cond (code_of s.variable).event []
    (words (decimal (scale * t) ∷ under_input n s.path
    ∷ shown (value_at items (code_of s.variable) t) ∷ []))) vs

-- the names of an input's variables, under its scope in a merge
abbrev pub names_under : ℕ → List (List ℕ) → List (List ℕ)
names_under n wanted = map (under_input n) wanted

-- `sample` of what `merge` wrote, at scaled times and for names under the scope of one input, gives
-- the values that this input has at these times
abbrev pub SampleOfMerge : Type 0
SampleOfMerge = (limit : ℕ) (name : List ℕ) (names : List (List ℕ)) (inputs : List Input)
    (os earlier later : List Opened) (o : Opened)
    (times : List Moment) (wanted : List (List ℕ)) (ts : List ℕ)
    → AreReadable limit names inputs os → os ≡ earlier ++ o ∷ later
    → wanted ≢ [] → first_unmatched wanted o.header.declarations ≡ None
    → IsJob (Want.Sample times (names_under (length earlier + 1) wanted))
    → request_of (Some (least_exponent (headers_of (dumps_of os))))
    (Want.Sample times (names_under (length earlier + 1) wanted))
    ≡ Ok (Request.Sample (map (λ t. factor (headers_of (dumps_of os)) o.header * t) ts)
    (names_under (length earlier + 1) wanted))
    → over_merged (Want.Sample times (names_under (length earlier + 1) wanted)) limit name
    names inputs
    ≡ clean_outcome (flat_map (merged_lines (length earlier + 1)
    (factor (headers_of (dumps_of os)) o.header) (selected wanted o.header.declarations)
    (items_in o)) ts)

-- the row that `edges` writes for a variable of input number n, as it is in the edges of the merge:
-- the path under the input's scope
abbrev pub merged_row : ℕ → List BodyItem → Selected → List ℕ
merged_row n items s =
    let counts = counts_for items (code_of s.variable) in
    words (under_input n s.path
    ∷ decimal counts.changes ∷ decimal counts.rises ∷ decimal counts.falls ∷ [])

-- `edges` of what `merge` wrote, for names under the scope of one input, gives the counts of this
-- input
abbrev pub EdgesOfMerge : Type 0
EdgesOfMerge = (limit : ℕ) (name : List ℕ) (names : List (List ℕ)) (inputs : List Input)
    (os earlier later : List Opened) (o : Opened) (wanted : List (List ℕ))
    → AreReadable limit names inputs os → os ≡ earlier ++ o ∷ later
    → wanted ≢ [] → first_unmatched wanted o.header.declarations ≡ None
    → over_merged (Want.Edges (names_under (length earlier + 1) wanted)) limit name names inputs
    ≡ clean_outcome (flat_map (merged_row (length earlier + 1) (items_in o))
    (selected wanted o.header.declarations))

-- the names of an input's variables in a merge: under the input's scope, or the scope itself
abbrev pub names_in : ℕ → List (List ℕ) → List (List ℕ)
names_in n [] = input_scope n ∷ []
names_in n (w ∷ wanted) = names_under n (w ∷ wanted)

-- the line that `sample` writes at a time of a merge for a variable of input number n that is no
-- event: its path under the input's scope, and the value that it has in the input at the floor of
-- that time by the input's factor
abbrev pub line_in : ℕ → ℕ → List BodyItem → ℕ → Selected → List ℕ
line_in n scale items t s =
    cond (code_of s.variable).event []
    (words (decimal t ∷ under_input n s.path
    ∷ shown (value_at items (code_of s.variable) (t / scale)) ∷ []))

-- `sample` of what `merge` wrote, at any times, for an input's scope or names under it, gives the
-- values that this input has at the floors of these times by its factor
abbrev pub SampleOfOneMerged : Type 0
SampleOfOneMerged = (limit : ℕ) (name : List ℕ) (names : List (List ℕ)) (inputs : List Input)
    (os earlier later : List Opened) (o : Opened)
    (times : List Moment) (wanted : List (List ℕ)) (ts : List ℕ)
    → AreReadable limit names inputs os → os ≡ earlier ++ o ∷ later
    → selected wanted o.header.declarations ≢ []
    → first_unmatched wanted o.header.declarations ≡ None
    → IsJob (Want.Sample times (names_in (length earlier + 1) wanted))
    → request_of (Some (least_exponent (headers_of (dumps_of os))))
    (Want.Sample times (names_in (length earlier + 1) wanted))
    ≡ Ok (Request.Sample ts (names_in (length earlier + 1) wanted))
    → over_merged (Want.Sample times (names_in (length earlier + 1) wanted)) limit name names inputs
    ≡ clean_outcome (flat_map (λ t. flat_map (line_in (length earlier + 1)
    (factor (headers_of (dumps_of os)) o.header) (items_in o) t)
    (selected wanted o.header.declarations)) ts)

-- `sample` of what `merge` wrote, without names and at any times, gives the values of all inputs,
-- at each time in the order of the inputs
abbrev pub SampleOfAllMerged : Type 0
SampleOfAllMerged = (limit : ℕ) (name : List ℕ) (names : List (List ℕ)) (inputs : List Input)
    (os : List Opened) (times : List Moment) (ts : List ℕ)
    → AreReadable limit names inputs os → IsJob (Want.Sample times [])
    → request_of (Some (least_exponent (headers_of (dumps_of os)))) (Want.Sample times [])
    ≡ Ok (Request.Sample ts [])
    → over_merged (Want.Sample times []) limit name names inputs
    ≡ clean_outcome (flat_map (λ t. flat_map (λ l. l) (each (λ earlier o. flat_map
    (line_in (length earlier + 1) (factor (headers_of (dumps_of os)) o.header) (items_in o) t)
    (selected [] o.header.declarations)) os)) ts)

-- `edges` of what `merge` wrote, for an input's scope or names under it, gives the counts of this
-- input
abbrev pub EdgesOfOneMerged : Type 0
EdgesOfOneMerged = (limit : ℕ) (name : List ℕ) (names : List (List ℕ)) (inputs : List Input)
    (os earlier later : List Opened) (o : Opened) (wanted : List (List ℕ))
    → AreReadable limit names inputs os → os ≡ earlier ++ o ∷ later
    → selected wanted o.header.declarations ≢ []
    → first_unmatched wanted o.header.declarations ≡ None
    → over_merged (Want.Edges (names_in (length earlier + 1) wanted)) limit name names inputs
    ≡ clean_outcome (flat_map (merged_row (length earlier + 1) (items_in o))
    (selected wanted o.header.declarations))

-- `edges` of what `merge` wrote, without names, gives the counts of all inputs, in their order
abbrev pub EdgesOfAllMerged : Type 0
EdgesOfAllMerged = (limit : ℕ) (name : List ℕ) (names : List (List ℕ)) (inputs : List Input)
    (os : List Opened)
    → AreReadable limit names inputs os
    → over_merged (Want.Edges []) limit name names inputs
    ≡ clean_outcome (flat_map (λ l. l) (each (λ earlier o.
    flat_map (merged_row (length earlier + 1) (items_in o))
    (selected [] o.header.declarations)) os))

-- the variables of input number n that names select in a merge, by their paths under its scope
abbrev pub selected_in_merge : ℕ → List (List ℕ) → Header → List Selected
selected_in_merge n wanted h =
    filter (λ s. is_empty wanted || list_any (selects_path (under_input n s.path)) wanted)
    (selected [] h.declarations)

-- each of these names selects a variable of some input in a merge
abbrev pub EachSelects : List (List ℕ) → List Opened → Type 0
EachSelects wanted os = (w : List ℕ) → Contains wanted w
    → (earlier : List Opened) × (later : List Opened) × (o : Opened) × (s : Selected)
    × (os ≡ earlier ++ o ∷ later)
    × Contains (selected_in_merge (length earlier + 1) (w ∷ []) o.header) s

-- `sample` of what `merge` wrote, for names of variables of any of its inputs and at any times,
-- gives their values, at each time in the order of the inputs
abbrev pub SampleOfAnyMerged : Type 0
SampleOfAnyMerged = (limit : ℕ) (name : List ℕ) (names : List (List ℕ)) (inputs : List Input)
    (os : List Opened) (times : List Moment) (wanted : List (List ℕ)) (ts : List ℕ)
    → AreReadable limit names inputs os → EachSelects wanted os → IsJob (Want.Sample times wanted)
    → request_of (Some (least_exponent (headers_of (dumps_of os)))) (Want.Sample times wanted)
    ≡ Ok (Request.Sample ts wanted)
    → over_merged (Want.Sample times wanted) limit name names inputs
    ≡ clean_outcome (flat_map (λ t. flat_map (λ l. l) (each (λ earlier o. flat_map
    (line_in (length earlier + 1) (factor (headers_of (dumps_of os)) o.header) (items_in o) t)
    (selected_in_merge (length earlier + 1) wanted o.header)) os)) ts)

-- `edges` of what `merge` wrote, for names of variables of any of its inputs, gives their counts,
-- in the order of the inputs
abbrev pub EdgesOfAnyMerged : Type 0
EdgesOfAnyMerged = (limit : ℕ) (name : List ℕ) (names : List (List ℕ)) (inputs : List Input)
    (os : List Opened) (wanted : List (List ℕ))
    → AreReadable limit names inputs os → EachSelects wanted os
    → over_merged (Want.Edges wanted) limit name names inputs
    ≡ clean_outcome (flat_map (λ l. l) (each (λ earlier o.
    flat_map (merged_row (length earlier + 1) (items_in o))
    (selected_in_merge (length earlier + 1) wanted o.header)) os))
