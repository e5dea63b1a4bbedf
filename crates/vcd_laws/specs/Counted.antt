-- What `check` counts in what was written.
use Rattle.std.specs.Prelude.{◌≡◌, ℕ, ◌+◌, Bool, List, [], ◌∷◌, ◌++◌, length, map, filter, Option, None, Ok, cond, sum_by, decimal, codes, count_by, ◌&&◌, not, ◌==◌, nat_lt, is_some}
use Rattle.std.specs.List.{list_any, last_or}
use Rattle.vcd_model.specs.Pick.{pick_kept}
use Rattle.vcd_model.specs.Backward.{each}
use Rattle.vcd_model.specs.Input.{Input}
use Rattle.vcd_model.specs.Declarations.{Declaration, is_scope, variables_of}
use Rattle.vcd_model.specs.Header.{Header}
use Rattle.vcd_model.specs.Items.{BodyItem, Entry, entries, is_begin}
use Rattle.vcd_model.specs.History.{value_before}
use Rattle.vcd_model.specs.Ticks.{Moment, moment_ticks}
use Rattle.vcd_model.specs.Selection.{selected, selects_code, marked_places, is_among}
use Rattle.vcd_model.specs.Cut.{ends_cut, within, cut_kept, times_of}
use Rattle.vcd_model.specs.Merge.{Dump, Keyed, is_change, headers_of, merged_items, merge_kept, greatest_mark}
use Rattle.vcd_model.specs.ItemText.{kept_by, last_mark}
use Rattle.vcd_model.specs.CheckAndList.{count_line, number_or_dash}
use Rattle.vcd_model.specs.Outcome.{Outcome, Opened, items_in, clean_outcome, dumps_of}
use Rattle.vcd_model.specs.Job.{Want, IsJob}
use Rattle.vcd_laws.specs.Dumps.{IsReadable, AreReadable, over_written, over_merged}
use Rattle.vcd_laws.specs.OverCut.{as_list}

-- what `check` counts, and the last timestamp
pub record Tally : Type 0 where
  pub scopes : ℕ
  pub variables : ℕ
  pub codes : ℕ
  pub times : ℕ
  pub sections : ℕ
  pub changes : ℕ
  pub last : Option ℕ

-- the outcome of a `check` that counts these
abbrev pub tally_outcome : Tally → Outcome
tally_outcome n =
    clean_outcome (
    count_line (codes "scopes") (decimal n.scopes)
    ++ count_line (codes "variables") (decimal n.variables)
    ++ count_line (codes "codes") (decimal n.codes)
    ++ count_line (codes "times") (decimal n.times)
    ++ count_line (codes "sections") (decimal n.sections)
    ++ count_line (codes "changes") (decimal n.changes)
    ++ count_line (codes "last") (number_or_dash n.last))

-- how many scopes are around selected variables
abbrev pub scopes_around : List (List ℕ) → List Declaration → ℕ
scopes_around names ds =
    let places = marked_places names ds in
    count_by (λ b. b) (each (λ earlier d. is_scope d && is_among places (length earlier)) ds)

-- how many of these times are the first of their kind: each of them is written once
abbrev pub distinct : List ℕ → ℕ
distinct times = count_by (λ b. b) (each (λ earlier t. not (list_any (λ u. u == t) earlier)) times)

-- how many kept entries are changes
abbrev pub changes_in : List Entry → ℕ
changes_in kept = count_by (λ e. is_change e.item) kept

-- the times of what `pick` writes: those of the kept entries, and the last timestamp
abbrev pub pick_times : Header → List (List ℕ) → List BodyItem → List ℕ
pick_times h names items = map (λ e. e.time) (pick_kept h names items) ++ as_list (last_mark items)

-- `check` of what `pick` wrote counts the selected variables and what is kept; the last timestamp
-- is that of the input, if it has one
abbrev pub CheckOfPick : Type 0
CheckOfPick = (limit : ℕ) (name : List ℕ) (names : List (List ℕ)) (input : Input) (o : Opened)
    → IsReadable (Want.Pick names) limit name input o
    → over_written Want.Check (Want.Pick names) limit name input ≡ tally_outcome (record {
      scopes = scopes_around names o.header.declarations;
      variables = length (selected names o.header.declarations);
      codes = count_by (selects_code (selected names o.header.declarations)) o.header.codes;
      times = distinct (pick_times o.header names (items_in o));
      sections = count_by is_begin (items_in o);
      changes = changes_in (pick_kept o.header names (items_in o));
      last = last_or None (pick_times o.header names (items_in o));
    })

-- the last time that `cut` writes: b if a timestamp above it ends the run, otherwise the last
-- timestamp of the input if that is above a
abbrev pub cut_closing : ℕ → ℕ → List BodyItem → List ℕ
cut_closing a b items = cond (ends_cut b items) (b ∷ [])
    (filter (nat_lt a) (as_list (last_mark items)))

-- the times of what `cut` writes: a, those of the kept entries, and the last
abbrev pub cut_times : ℕ → ℕ → List BodyItem → List ℕ
cut_times a b items = a ∷ (times_of (cut_kept a b items) ++ cut_closing a b items)

-- how many codes have a value before time a: the start section gives it to them
abbrev pub set_before : Header → ℕ → List BodyItem → ℕ
set_before h a items = count_by (λ c. not c.event && is_some (value_before items c a)) h.codes

-- `check` of what `cut` wrote counts all variables, the start section and what is kept
abbrev pub CheckOfCut : Type 0
CheckOfCut = (limit : ℕ) (name : List ℕ) (from to : Moment) (input : Input) (o : Opened) (a b : ℕ)
    → IsJob (Want.Cut from to) → IsReadable (Want.Cut from to) limit name input o
    → moment_ticks o.header.scale from Bool.true ≡ Ok a
    → moment_ticks o.header.scale to Bool.false ≡ Ok b
    → over_written Want.Check (Want.Cut from to) limit name input ≡ tally_outcome (record {
      scopes = scopes_around [] o.header.declarations;
      variables = length (variables_of o.header.declarations);
      codes = length o.header.codes;
      times = distinct (cut_times a b (items_in o));
      sections = 1 + count_by (λ e. is_begin e.item) (cut_kept a b (items_in o));
      changes = set_before o.header a (within b (items_in o))
          + changes_in (cut_kept a b (items_in o));
      last = last_or None (cut_times a b (items_in o));
    })

-- the times of what `merge` writes: those of the kept entries, and the greatest timestamp
abbrev pub merge_times : List Keyed → List ℕ
merge_times ks = map (λ e. e.time) (merge_kept ks) ++ as_list (greatest_mark ks)

-- how many changes of an input a merge keeps: all but the triggers of events inside sections
abbrev pub merged_changes : Dump → ℕ
merged_changes d = length (kept_by (λ e. is_change e.item) (entries d.items))

-- `check` of what `merge` wrote counts the scopes, variables, codes and kept changes of all inputs,
-- and one more scope for each
abbrev pub CheckOfMerge : Type 0
CheckOfMerge = (limit : ℕ) (name : List ℕ) (names : List (List ℕ)) (inputs : List Input)
    (os : List Opened)
    → AreReadable limit names inputs os
    → over_merged Want.Check limit name names inputs ≡ tally_outcome (record {
      scopes = sum_by (λ h. scopes_around [] h.declarations + 1) (headers_of (dumps_of os));
      variables = sum_by (λ h. length (variables_of h.declarations)) (headers_of (dumps_of os));
      codes = sum_by (λ h. length h.codes) (headers_of (dumps_of os));
      times = distinct (merge_times (merged_items (dumps_of os)));
      sections = 0;
      changes = sum_by merged_changes (dumps_of os);
      last = last_or None (merge_times (merged_items (dumps_of os)));
    })
