-- `check` of what `merge` wrote.
use Rattle.vcd_laws.proofs.Cited.{◌≡◌, ℕ, ◌+◌, Bool, true, false, cond, not, ◌&&◌, List, [], ◌∷◌, ◌++◌, length, map, filter, filter_map, count_by, sum_by, None, refl, sym, ap, ◌∙◌, subst, arith, AllByRecursion, last_or, length-map, sum_by-cons, Input, is_scope, variables_of, Header, BodyItem, Entry, is_begin, change_of, last_mark, merged_head, Keyed, headers_of, merged_items, merge_kept, greatest_mark, is_change, Selected, selected, Outcome, Opened, items_in, dumps_of, Want, over_opened, outcome, merged_codes, input_of, AreReadable, IsMergedDump, tally_outcome, scopes_around, distinct, changes_in, merge_times, merged_changes, CheckOfMerge, IsRead, Parts, parts_items, AreCodes, inputs_good}
use Rattle.vcd_model.specs.Items.{marks}
use Rattle.vcd_laws.proofs.MergeDumps.{merged_is, dumps_good}
use Rattle.vcd_laws.proofs.MergeLaw.{merges, merge_parts, merge_text, merge_text_is, merge_read, merge_keeps_text}
use Rattle.vcd_laws.proofs.RunLaws.{merge_case, same_status}
use Rattle.vcd_laws.proofs.WrittenCodes.{from_contained, to_contained}
use Rattle.vcd_laws.proofs.HeadBack.{variables_are, opens_header}
use Rattle.vcd_laws.proofs.MergedHead.{CanMerge, all_rows}
use Rattle.vcd_laws.proofs.MergedBack.{all_can}
use Rattle.vcd_laws.proofs.MergeShort.{merge_run, merge_is_not_halted}
use Rattle.vcd_laws.proofs.DumpLaws.{IsReadMerge, is_merged_dump}
use Rattle.vcd_laws.proofs.WrittenCounts.{parts_counts}
use Rattle.vcd_laws.proofs.HeadCounts.{AreApart, apart_same, codes_apart}
use Rattle.vcd_laws.proofs.Checks.{check_run, same_tally}
use Rattle.vcd_laws.proofs.MergeCounts.{scopes_in_all, variables_in_all, codes_in_all, codes_all_apart, changes_merged}

-- ---- what a merge wrote, and its items

pub record MergeItems (limit : ℕ) (names : List (List ℕ)) (inputs : List Input)
    (os : List Opened) : Type 0 where
  pub dump : IsMergedDump limit (dumps_of os) (outcome Want.Merge limit names inputs).output
  pub items : items_in dump.dump ≡ parts_items [] [] (merge_kept (merged_items (dumps_of os)))
      (greatest_mark (merged_items (dumps_of os)))
  pub rows : dump.dump.header.declarations ≡ all_rows [] (headers_of (dumps_of os))
  pub parts : Parts (merged_codes (headers_of (dumps_of os))) [] []
      (merge_kept (merged_items (dumps_of os))) (greatest_mark (merged_items (dumps_of os)))

pub merge_items : (limit : ℕ) (names : List (List ℕ)) (inputs : List Input) (os : List Opened)
    → AreReadable limit names inputs os → MergeItems limit names inputs os
merge_items limit names inputs os can =
    let ds = dumps_of os in
    let hs = headers_of ds in
    let done = outcome Want.Merge limit names inputs in
    let other = over_opened Want.Merge names os in
    let run : done ≡ other = merge_run limit names inputs os can.opens in
    let clean = merge_case names os (same_status done other run can.clean) in
    let whole : done.output ≡ merged_head hs ++ merge_text ds = ap (λ (d : Outcome). d.output) run
    ∙ clean.1 ∙ merge_text_is ds in
    let good = dumps_good os (inputs_good limit [] inputs os can.opens) in
    let is : IsRead (merged_codes hs) (merge_text ds)
    (parts_items [] [] (merge_kept (merged_items ds)) (greatest_mark (merged_items ds))) =
    merge_read ds good in
    let read : IsReadMerge limit ds (merge_text ds) done.output
    = is_merged_dump limit inputs os (merge_text ds) done.output can.opens whole
    (merge_keeps_text ds good) (record {
      given = merge_is_not_halted limit names inputs os can;
      shallow = can.shallow;
      few = can.few;
    }) in
    record {
      dump = read.dump;
      items = read.items ∙ is.items;
      rows = read.rows;
      parts = subst (λ (l : List Keyed). Parts (merged_codes hs) [] [] (merge_kept l)
          (greatest_mark l)) (sym (merged_is ds)) (merge_parts ds good);
    }

-- ---- the law

-- what a merge keeps are changes
abbrev AreChanges : List Entry → Type 0
AreChanges es = (count_by (λ (e : Entry). is_begin e.item) es ≡ 0) × (changes_in es ≡ length es)

changes_kept : (es : List Entry) → AreChanges (filter merges es)
changes_kept [] = (refl, refl)
changes_kept (e ∷ es) = by_item e.item e.time e.inside (changes_kept es)
  where
    rest : List Entry
    rest = filter merges es

    by_item : (x : BodyItem) (time : ℕ) (inside : Bool) → AreChanges rest
        → AreChanges (filter merges (record { time = time; inside = inside; item = x } ∷ es))
    by_item (BodyItem.Time t) time inside more = more
    by_item (BodyItem.Begin s) time inside more = more
    by_item BodyItem.End time inside more = more
    by_item (BodyItem.Changes c) time inside more = by_keep (not (c.code.event && inside))
      where
        own : Entry
        own = record { time = time; inside = inside; item = BodyItem.Changes c }

        by_keep : (b : Bool) → AreChanges (cond b (own ∷ rest) rest)
        by_keep true =
            let m = sum_by-cons (λ (y : Entry). cond {A = ℕ} (is_begin y.item) 1 0) own rest in
            let n = sum_by-cons (λ (y : Entry). cond {A = ℕ} (is_change y.item) 1 0) own rest in
            let a = more.0 in
            let b = more.1 in
            ((omega arith), (omega arith))
        by_keep false = more

all_apart : (hs : List Header) → AllByRecursion CanMerge hs
    → AllByRecursion (λ h. AreCodes h.codes × AreApart h.codes) hs
all_apart [] can = tt
all_apart (h ∷ hs) can = let c = can.0 in let g = c.good in
    ((c.found, subst AreApart (sym g.codes) (codes_apart h.declarations)), all_apart hs can.1)

pub check_of_merge : CheckOfMerge
check_of_merge limit name names inputs os can =
    let p = merge_items limit names inputs os can in
    let d = p.dump in
    let k = d.dump in
    let head = d.head in
    let codes = head.codes in
    let text = (outcome Want.Merge limit names inputs).output in
    let ds = dumps_of os in
    let hs = headers_of ds in
    let ks = merged_items ds in
    let kept = merge_kept ks in
    let mark = greatest_mark ks in
    let all = all_can limit inputs os can.opens can.shallow in
    let back = opens_header limit (input_of text) k d.opens in
    let counts = parts_counts (merged_codes hs) [] [] kept mark p.parts refl refl (λ e. cc) in
    let are = changes_kept (map (λ (x : Keyed). x.entry) ks) in
    let changes : length kept ≡ sum_by merged_changes ds =
    ap (λ (l : List Keyed). length (filter merges (map (λ (x : Keyed). x.entry) l)))
    (merged_is ds) ∙ changes_merged hs ds in
    check_run limit name (input_of text) k d.opens d.whole
    ∙ ap tally_outcome (same_tally
    (count_by is_scope k.header.declarations)
    (length (variables_of k.header.declarations))
    (length k.header.codes)
    (length (marks (items_in k)))
    (count_by is_begin (items_in k))
    (length (filter_map change_of (items_in k)))
    (sum_by (λ h. scopes_around [] h.declarations + 1) hs)
    (sum_by (λ h. length (variables_of h.declarations)) hs)
    (sum_by (λ h. length h.codes) hs)
    (distinct (merge_times ks))
    0
    (sum_by merged_changes ds)
    (last_mark (items_in k))
    (last_or None (merge_times ks))
    (ap (count_by is_scope) p.rows ∙ scopes_in_all [] hs)
    (ap length (sym (variables_are k.header.declarations))
    ∙ length-map (selected [] k.header.declarations) (λ (s : Selected). s.variable)
    ∙ ap length head.variables ∙ variables_in_all [] hs)
    (apart_same k.header.codes (merged_codes hs)
    (subst AreApart (sym back.codes) (codes_apart k.header.declarations))
    (codes_all_apart [] hs (all_apart hs all))
    (λ c i. from_contained (merged_codes hs) c ((codes c).0 (to_contained k.header.codes c i)))
    (λ c i. from_contained k.header.codes c ((codes c).1 (to_contained (merged_codes hs) c i)))
    ∙ codes_in_all [] hs)
    (ap (λ (l : List BodyItem). length (marks l)) p.items ∙ counts.marks_are)
    (ap (count_by is_begin) p.items ∙ counts.sections_are ∙ (let n = are.0 in omega arith))
    (ap (λ (l : List BodyItem). length (filter_map change_of l)) p.items ∙ counts.changes_are
    ∙ (let n = are.1 in omega arith))
    (ap last_mark p.items ∙ counts.last_is))
