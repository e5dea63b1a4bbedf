-- What is written keeps the values of what was read.
use Rattle.std.specs.Prelude.{◌≡◌, ◌⊎◌, ℕ, ◌*◌, ◌≤◌, IsTrue, IsFalse, Bool, List, [], ◌∷◌, ◌++◌, length, map, filter, None, Contains, Ok, ◌^◌, ◌<◌}
use Rattle.vcd_model.specs.Input.{Input}
use Rattle.vcd_model.specs.Declarations.{IdCode}
use Rattle.vcd_model.specs.Header.{Header}
use Rattle.vcd_model.specs.Items.{BodyItem, entries}
use Rattle.vcd_model.specs.History.{value_at, gives_to}
use Rattle.vcd_model.specs.Ticks.{Moment, moment_ticks}
use Rattle.vcd_model.specs.HeadText.{head_for, merged_head, renamed}
use Rattle.vcd_model.specs.Selection.{selected, selects_code}
use Rattle.vcd_model.specs.BodyReading.{body_items, body_fault_of}
use Rattle.vcd_model.specs.Cut.{ends_cut, within}
use Rattle.vcd_model.specs.Merge.{Dump, KeyedFault, key_lt, factor, headers_of, merged_items, merge_kept, items_before, merge_open, merge_close, first_fault}
use Rattle.vcd_model.specs.Outcome.{Opened, open_from, items_in, fault_in, open_text, close_text, dumps_of}
use Rattle.vcd_model.specs.Outcome.Request.{Pick, Cut}
use Rattle.vcd_model.specs.Job.{Want, IsJob, outcome}
use Rattle.vcd_model.specs.Laws.{stream_over, read_text, renamed_code, merged_codes, merged_entry, entries_where, changes_kept}

-- one input whose header is good
abbrev pub Opens : ℕ → Input → Opened → Type 0
Opens limit input o = open_from limit [] (input ∷ []) ≡ Ok (o ∷ [])

-- The text after a head is a whole body against these codes, and over its items each code that is
-- no event has these values.
pub record KeepsValues (declared : List IdCode) (text : List ℕ) (InTime : ℕ → Type 0)
    (items : List BodyItem) : Type 0 where
  pub whole : body_fault_of (stream_over text) (read_text declared text) ≡ None
  pub values : (c : IdCode) (t : ℕ) → Contains declared c → IsFalse c.event → InTime t
      → value_at (body_items (read_text declared text)) c t ≡ value_at items c t

-- the output is this head, and after it a text that gives these values
abbrev pub IsBehind : List ℕ → List ℕ → (List ℕ → Type 0) → Type 0
IsBehind head output P = (text : List ℕ) × (output ≡ head ++ text) × P text

-- what `pick` writes at a clean end gives the selected codes their values
abbrev pub PickKeeps : Type 0
PickKeeps = (limit : ℕ) (input : Input) (o : Opened) (names : List (List ℕ)) → Opens limit input o
    → fault_in o ≡ None
    → IsBehind (head_for o.header names) (open_text (Pick names) o.header (items_in o)
    ++ close_text (Pick names) o.header (items_in o))
    (λ text. KeepsValues (filter (selects_code (selected names o.header.declarations))
    o.header.codes) text (λ t. Unit {0}) (items_in o))

-- the text of `cut`: a timestamp above `b` ends the run, else the end of the input does
abbrev pub cut_text : Header → ℕ → ℕ → List BodyItem → List ℕ
cut_text h a b items = elim (ends_cut b items) [
  | Bool.true ↦ open_text (Cut a b) h (within b items)
  | Bool.false ↦ open_text (Cut a b) h items
      ++ close_text (Cut a b) h items
]

-- what `cut` writes gives each code its values from a to b
abbrev pub CutKeeps : Type 0
CutKeeps = (limit : ℕ) (input : Input) (o : Opened) (a b : ℕ) → a < 2 ^ 64 → a ≤ b
    → Opens limit input o
    → IsTrue (ends_cut b (items_in o)) ⊎ (fault_in o ≡ None)
    → IsBehind (head_for o.header []) (cut_text o.header a b (items_in o))
    (λ text. KeepsValues o.header.codes text (λ t. (a ≤ t) × (t ≤ b)) (items_in o))

-- inputs whose headers are good
abbrev pub OpenAll : ℕ → List Input → List Opened → Type 0
OpenAll limit inputs os = open_from limit [] inputs ≡ Ok os

-- the changes under a new code are the kept changes of one input's one code, in their order
abbrev pub MergeKeepsChanges : Type 0
MergeKeepsChanges = (limit : ℕ) (inputs : List Input) (os : List Opened) → OpenAll limit inputs os
    → (earlier later : List Dump) (d : Dump) → dumps_of os ≡ earlier ++ d ∷ later → (c : IdCode)
    → Contains d.header.codes c
    → filter (λ e. gives_to (renamed_code (headers_of earlier) d.header c) e.item)
    (merge_kept (merged_items (dumps_of os)))
    ≡ map (merged_entry (factor (headers_of (dumps_of os)) d.header)
    (renamed (headers_of earlier) d.header)) (changes_kept c (entries d.items))

-- before a fault, the changes under a new code are the kept changes of one input's one code whose
-- key is smaller
abbrev pub MergeKeepsChangesBefore : Type 0
MergeKeepsChangesBefore = (limit : ℕ) (inputs : List Input) (os : List Opened)
    → OpenAll limit inputs os → (f : KeyedFault)
    → (earlier later : List Dump) (d : Dump) → dumps_of os ≡ earlier ++ d ∷ later → (c : IdCode)
    → Contains d.header.codes c
    → filter (λ e. gives_to (renamed_code (headers_of earlier) d.header c) e.item)
    (merge_kept (items_before f (merged_items (dumps_of os))))
    ≡ map (merged_entry (factor (headers_of (dumps_of os)) d.header)
    (renamed (headers_of earlier) d.header))
    (changes_kept c (entries_where (λ k. key_lt k f.key)
    (factor (headers_of (dumps_of os)) d.header) (length earlier) d.items))

-- the text after a merged head is a whole body against the new codes, and gives each of them the
-- values of its old code at scaled times
pub record MergeKeepsValues (ds : List Dump) (text : List ℕ) : Type 0 where
  pub whole : body_fault_of (stream_over text) (read_text (merged_codes (headers_of ds)) text)
      ≡ None
  pub values : (earlier later : List Dump) (d : Dump) → ds ≡ earlier ++ d ∷ later
      → (c : IdCode) (t : ℕ) → Contains d.header.codes c → IsFalse c.event
      → value_at (body_items (read_text (merged_codes (headers_of ds)) text))
      (renamed_code (headers_of earlier) d.header c) (factor (headers_of ds) d.header * t)
      ≡ value_at d.items c t

-- what `merge` writes without a fault keeps the values of all its inputs
abbrev pub MergeKeeps : Type 0
MergeKeeps = (limit : ℕ) (inputs : List Input) (os : List Opened) → OpenAll limit inputs os
    → first_fault (dumps_of os) ≡ None
    → IsBehind (merged_head (headers_of (dumps_of os)))
    (merge_open (headers_of (dumps_of os)) (merged_items (dumps_of os))
    ++ merge_close (merged_items (dumps_of os))) (MergeKeepsValues (dumps_of os))

-- the output of a run over one input with this name
abbrev pub written_by : Want → ℕ → List ℕ → Input → List ℕ
written_by want limit name input = (outcome want limit (name ∷ []) (input ∷ [])).output

-- a run of `pick` with status 0 has read a good header, and its output keeps the values of the
-- selected codes
abbrev pub PickRunKeeps : Type 0
PickRunKeeps = (limit : ℕ) (name : List ℕ) (names : List (List ℕ)) (input : Input)
    → (outcome (Want.Pick names) limit (name ∷ []) (input ∷ [])).status ≡ 0
    → (o : Opened) × Opens limit input o × (fault_in o ≡ None)
    × IsBehind (head_for o.header names) (written_by (Want.Pick names) limit name input)
    (λ text. KeepsValues (filter (selects_code (selected names o.header.declarations))
    o.header.codes) text (λ t. Unit {0}) (items_in o))

-- a run of `cut` with status 0 has read a good header, and its output keeps all values from the
-- first to the second of its times in ticks
abbrev pub CutRunKeeps : Type 0
CutRunKeeps = (limit : ℕ) (name : List ℕ) (from to : Moment) (input : Input)
    → IsJob (Want.Cut from to)
    → (outcome (Want.Cut from to) limit (name ∷ []) (input ∷ [])).status ≡ 0
    → (o : Opened) × (a : ℕ) × (b : ℕ) × Opens limit input o
    × (moment_ticks o.header.scale from Bool.true ≡ Ok a)
    × (moment_ticks o.header.scale to Bool.false ≡ Ok b)
    × IsBehind (head_for o.header []) (written_by (Want.Cut from to) limit name input)
    (λ text. KeepsValues o.header.codes text (λ t. (a ≤ t) × (t ≤ b)) (items_in o))

-- a run of `merge` with status 0 has read good headers, and its output keeps the values of all
-- inputs
abbrev pub MergeRunKeeps : Type 0
MergeRunKeeps = (limit : ℕ) (names : List (List ℕ)) (inputs : List Input)
    → (outcome Want.Merge limit names inputs).status ≡ 0
    → (os : List Opened) × OpenAll limit inputs os × (first_fault (dumps_of os) ≡ None)
    × IsBehind (merged_head (headers_of (dumps_of os)))
    (outcome Want.Merge limit names inputs).output (MergeKeepsValues (dumps_of os))
