-- The outcome of a merge whose inputs have no fault.
use Rattle.vcd_model.proofs.Cited.{◌≡◌, ℕ, ◌+◌, List, [], ◌∷◌, ◌++◌, map, None, refl, sym, ap, ◌∙◌, reduce, Header, Dump, dump_of, earlier_fault, factor, headers_of, by_key, merge_close, merge_open, merged_items, keyed_own, keyed_rest, Opened, body_of, clean_outcome, fault_in}
use Rattle.vcd_model.specs.Merge.{first_fault}
use Rattle.vcd_model.specs.Outcome.{dumps_of, merge_outcome}
use Rattle.vcd_model.proofs.MergedLists.{merged_by_input}
use Rattle.vcd_model.proofs.MergedPrefix.{faults_are, faults_rest}

-- a dump without a fault
abbrev pub clear : Dump → Dump
clear d = record { header = d.header; items = d.items; fault = None }

-- the dump of an input after its header, under these headers
unfoldable pub dump_under : List Header → Opened → Dump
dump_under hs o = dump_of (factor hs o.header) o.header (fault_in o) (body_of o)

-- faults do not matter for the merged list
clear_headers : (ds : List Dump) → headers_of (map clear ds) ≡ headers_of ds
clear_headers [] = refl
clear_headers (d ∷ ds) = ap (λ hs. d.header ∷ hs) (clear_headers ds)

clear_rest : (hs : List Header) (n : ℕ) (es : List Header) (ds : List Dump) → keyed_rest hs n es (map clear ds) ≡ keyed_rest hs n es ds
clear_rest hs n es [] = refl
clear_rest hs n es (d ∷ ds) = ap (λ l. keyed_own hs n es d ++ l) (clear_rest hs (n + 1) (es ++ d.header ∷ []) ds)

clear_merged : (ds : List Dump) → merged_items (map clear ds) ≡ merged_items ds
clear_merged ds = merged_by_input (map clear ds) ∙ ap (λ (h : List Header). by_key (keyed_rest h 0 [] (map clear ds))) (clear_headers ds)
    ∙ ap by_key (clear_rest (headers_of ds) 0 [] ds) ∙ sym (merged_by_input ds)

no_faults : (hs : List Header) (n : ℕ) (ds : List Dump) → faults_rest hs n (map clear ds) ≡ []
no_faults hs n [] = refl
no_faults hs n (d ∷ ds) = no_faults hs (n + 1) ds

none_first : (ds : List Dump) → first_fault (map clear ds) ≡ None
unfolding first_fault
none_first ds = ap (reduce earlier_fault) (faults_are (headers_of (map clear ds)) [] (map clear ds) ∙ no_faults (headers_of (map clear ds)) 0 ds)

pub clean : (names : List (List ℕ)) (ds : List Dump) → merge_outcome names (map clear ds) ≡ clean_outcome (merge_open (headers_of ds) (merged_items ds) ++ merge_close (merged_items ds))
unfolding merge_outcome
clean names ds = rw (none_first ds, clear_merged ds, clear_headers ds, merge_outcome) refl

-- the dumps of a merge, under its headers
pub dumps_under : (os : List Opened) (hs : List Header) → map (λ (o : Opened). o.header) os ≡ hs → dumps_of os ≡ map (dump_under hs) os
unfolding dumps_of dump_under
dumps_under os hs e = ap (λ (h : List Header). map (λ (o : Opened). dump_of (factor h o.header) o.header (fault_in o) (body_of o)) os) e
