-- The merged items input by input, and what each adds to the output if it comes after all others
-- (profile). Only the contracts of a merge in steps use these words.
use Rattle.std.specs.Prelude.{ℕ, ◌+◌, Bool, cond, ◌&&◌, List, [], ◌∷◌, ◌++◌, slice_set, Option, Some}
use Rattle.vcd_model.specs.Backward.{each}
use Rattle.vcd_model.specs.Header.{Header}
use Rattle.vcd_model.specs.HeadText.{code_place, new_code, renamed}
use Rattle.vcd_model.specs.Items.{BodyItem, Entry}
use Rattle.vcd_model.specs.ItemText.{item_line, may_keep, time_due}
use Rattle.vcd_model.specs.Merge.{Dump, Keyed, factor, is_change, keyed_after}

-- ---- the items of each input

-- the items of an input that has n inputs before it, those with these headers
abbrev pub keyed_own : List Header → ℕ → List Header → Dump → List Keyed
keyed_own hs n es d = each (keyed_after (factor hs d.header) n (renamed es d.header)) d.items

-- the items of inputs in a row, if n inputs with these headers come before them
abbrev pub keyed_rest : List Header → ℕ → List Header → List Dump → List Keyed
keyed_rest hs n es [] = []
keyed_rest hs n es (d ∷ ds) = keyed_own hs n es d ++ keyed_rest hs (n + 1) (es ++ d.header ∷ []) ds

-- one more item of the input at an index
abbrev pub with_item : List Dump → ℕ → Dump → BodyItem → List Dump
with_item ds k d x = slice_set ds k (record { header = d.header; items = d.items ++ x ∷ []; fault = d.fault })

-- ---- what is written of an item

-- the item as it is written, after these of its input
abbrev pub entry_for : ℕ → ℕ → Header → List BodyItem → BodyItem → Entry
entry_for scale first h items x = (keyed_after scale 0 (λ code. new_code (first + code_place h code)) items x).entry

-- a change, but no event inside a section
abbrev pub is_merged : Entry → Bool
is_merged e = is_change e.item && may_keep e.item e.inside

-- the line of an item, after the line of its time unless that is the one that was written last
abbrev pub due_with : Option ℕ → Entry → List ℕ
due_with written e = cond (is_merged e) (time_due written e.time ++ item_line e.item) []

-- the time whose line was written last
abbrev pub written_with : Option ℕ → Entry → Option ℕ
written_with written e = cond (is_merged e) (Some e.time) written
