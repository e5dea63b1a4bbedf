-- `edges` of what `merge` wrote gives the counts of its inputs.
use Rattle.vcd_laws.proofs.Cited.{◌≡◌, ℕ, ◌+◌, ◌<◌, ◌^◌, Bool, true, false, cond, not, ◌&&◌, List, [], ◌∷◌, ◌++◌, length, map, filter, filter_map, flat_map, count_by, decimal, Some, None, option_map, inl, inr, refl, sym, ap, ◌∙◌, subst, arith, AllByRecursion, cons_option, append-nil, length-map, sum_by-cons, length-filter, each_after, Input, IdCode, code_of, same_code, Header, BodyItem, Entry, change_of, entries, value_of, gives_to, value_in, values_of, words, renamed, counts_of, counts_for, event_count, edges_line, declared_code, Selected, selected, first_unmatched, Keyed, factor, headers_of, is_change, scaled_item, merged_items, merge_kept, greatest_mark, Opened, items_in, clean_outcome, dumps_of, Want, outcome, renamed_code, merged_codes, merged_entry, changes_kept, under_input, merged_variable, input_of, AreReadable, merged_row, names_under, EdgesOfMerge, IsGoodChange, next_open, AreFit, entries_from, at_start, entries_are, read_again_is, read_item, written_items, IsWritable, AreWritable, parts_items, parts_fit, closing_items, all_front, all_back, AreCodes, inputs_good, same_declared, declared_in_merge, IsGoodDump}
use Rattle.vcd_model.specs.Job.{request_of}
use Rattle.vcd_laws.proofs.MergeDumps.{dumps_good, kept_all}
use Rattle.vcd_laws.proofs.MergeLaw.{merges}
use Rattle.vcd_laws.proofs.WrittenCodes.{In, to_contained, found_in}
use Rattle.vcd_laws.proofs.MergedHead.{CanMerge, merged_selected}
use Rattle.vcd_laws.proofs.MergedBack.{all_can, many}
use Rattle.vcd_laws.proofs.RunLaws.{opened_run}
use Rattle.vcd_laws.proofs.PickCounts.{values-append, closing_gives, written_values, counted, count_from, count_time, count_kept, closing_count}
use Rattle.vcd_laws.proofs.EdgesOfPick.{counted as counted_outcome, edges_run}
use Rattle.vcd_laws.proofs.CheckOfMerge.{merge_items}
use Rattle.vcd_laws.proofs.MergedPaths.{selected_under, unmatched_under}
use Rattle.vcd_laws.proofs.WholeDumps.{whole_dump}
use Rattle.vcd_laws.proofs.SampleOfMerge.{Among, among, code_in}

-- ---- values

values_in : (c : IdCode) (es : List Entry)
    → values_of (map (λ e. e.item) es) c ≡ filter_map value_in (filter (λ e. gives_to c e.item) es)
values_in c [] = refl
values_in c (e ∷ es) = by_test (gives_to c e.item) refl (values_in c es)
  where
    by_test : (b : Bool) → gives_to c e.item ≡ b
        → values_of (map (λ (x : Entry). x.item) es) c
        ≡ filter_map value_in (filter (λ (x : Entry). gives_to c x.item) es)
        → filter_map (λ (x : BodyItem). option_map value_of (change_of x))
        (cond b (e.item ∷ filter (gives_to c) (map (λ (x : Entry). x.item) es))
        (filter (gives_to c) (map (λ (x : Entry). x.item) es)))
        ≡ filter_map value_in (cond b (e ∷ filter (λ (x : Entry). gives_to c x.item) es)
        (filter (λ (x : Entry). gives_to c x.item) es))
    by_test true f more = ap (cons_option (option_map value_of (change_of e.item))) more
    by_test false f more = more

-- a scaled change has the same value
scaled_value : (scale : ℕ) (rename : List ℕ → List ℕ) (x : BodyItem)
    → option_map value_of (change_of (scaled_item scale rename x))
    ≡ option_map value_of (change_of x)
scaled_value scale rename (BodyItem.Time t) = refl
scaled_value scale rename (BodyItem.Begin s) = refl
scaled_value scale rename BodyItem.End = refl
scaled_value scale rename (BodyItem.Changes c) = refl

scaled_values : (scale : ℕ) (rename : List ℕ → List ℕ) (es : List Entry)
    → filter_map value_in (map (merged_entry scale rename) es) ≡ filter_map value_in es
scaled_values scale rename [] = refl
scaled_values scale rename (e ∷ es) =
    ap (λ o. cons_option o (filter_map value_in (map (merged_entry scale rename) es)))
    (scaled_value scale rename e.item)
    ∙ ap (cons_option (value_in e)) (scaled_values scale rename es)

module _ (c : IdCode) (codes : List IdCode) (declared : declared_code codes c.text ≡ Some c) where
  -- all changes of a code that is no event are kept
  kept_values : (t : ℕ) (o : Bool) (items : List BodyItem) → c.event ≡ false
      → AreFit codes t o items
      → filter_map value_in (changes_kept c (entries_from t o items)) ≡ values_of items c
  kept_values t o [] quiet fit = refl
  kept_values t o (BodyItem.Time u ∷ items) quiet fit = kept_values u o items quiet fit.1
  kept_values t o (BodyItem.Begin s ∷ items) quiet fit = kept_values t true items quiet fit.1
  kept_values t o (BodyItem.End ∷ items) quiet fit = kept_values t false items quiet fit.1
  kept_values t o (BodyItem.Changes d ∷ items) quiet fit =
      by_same (same_code c d.code) refl (not (d.code.event && o)) refl
      (kept_values t o items quiet fit.1)
    where
      rest : List Entry
      rest = filter merges (entries_from t o items)

      own : Entry
      own = record { time = t; inside = o; item = BodyItem.Changes d }

      by_same : (b : Bool) → same_code c d.code ≡ b → (p : Bool) → not (d.code.event && o) ≡ p
          → filter_map value_in (filter (λ e. gives_to c e.item) rest) ≡ values_of items c
          → filter_map value_in (filter (λ e. gives_to c e.item)
          (cond (not (d.code.event && o)) (own ∷ rest) rest))
          ≡ values_of (BodyItem.Changes d ∷ items) c
      by_same true s true e more = rw (e, s) (ap (λ l. value_of d ∷ l) more)
      by_same false s true e more = rw (e, s) more
      by_same false s false e more = rw (e, s) more
      by_same true s false e more =
          let good : IsGoodChange codes d = fit.0 in
          let same : c ≡ d.code = same_declared codes c d.code declared good.declared s in
          let keep : not (d.code.event && o) ≡ true =
          subst (λ (x : IdCode). not (x.event && o) ≡ true) same (rw quiet refl) in
          cc

  -- of an event the triggers outside sections are
  kept_marks : (t : ℕ) (o : Bool) (items : List BodyItem) → c.event ≡ true → AreFit codes t o items
      → length (changes_kept c (entries_from t o items)) ≡ count_from c t o items
  kept_marks t o [] loud fit = refl
  kept_marks t o (BodyItem.Time u ∷ items) loud fit = kept_marks u o items loud fit.1
      ∙ sym (sum_by-cons (λ (e : Entry). cond {A = ℕ} (counted c e) 1 0)
      (record { time = t; inside = o; item = BodyItem.Time u }) (entries_from u o items)
      ∙ omega arith)
  kept_marks t o (BodyItem.Begin s ∷ items) loud fit = kept_marks t true items loud fit.1
      ∙ sym (sum_by-cons (λ (e : Entry). cond {A = ℕ} (counted c e) 1 0)
      (record { time = t; inside = o; item = BodyItem.Begin s }) (entries_from t true items)
      ∙ omega arith)
  kept_marks t o (BodyItem.End ∷ items) loud fit = kept_marks t false items loud fit.1
      ∙ sym (sum_by-cons (λ (e : Entry). cond {A = ℕ} (counted c e) 1 0)
      (record { time = t; inside = o; item = BodyItem.End }) (entries_from t false items)
      ∙ omega arith)
  kept_marks t o (BodyItem.Changes d ∷ items) loud fit =
      by_same (same_code c d.code) refl o refl (not (d.code.event && o)) refl
      (kept_marks t o items loud fit.1)
      ∙ sym (sum_by-cons (λ (e : Entry). cond {A = ℕ} (counted c e) 1 0) own
      (entries_from t o items))
    where
      rest : List Entry
      rest = filter merges (entries_from t o items)

      own : Entry
      own = record { time = t; inside = o; item = BodyItem.Changes d }

      by_same : (b : Bool) → same_code c d.code ≡ b → (p : Bool) → o ≡ p → (k : Bool)
          → not (d.code.event && o) ≡ k
          → length (filter (λ e. gives_to c e.item) rest) ≡ count_from c t o items
          → length (filter (λ e. gives_to c e.item)
          (cond (not (d.code.event && o)) (own ∷ rest) rest))
          ≡ cond (same_code c d.code && not o) 1 0 + count_from c t o items
      by_same false s p f true e more = rw (e, s) (let n = more in omega arith)
      by_same false s p f false e more = rw (e, s) (let n = more in omega arith)
      by_same true s true f k e more =
          let good : IsGoodChange codes d = fit.0 in
          let same : c ≡ d.code = same_declared codes c d.code declared good.declared s in
          let event : d.code.event ≡ true = ap (λ (x : IdCode). x.event) (sym same) ∙ loud in
          let drop : not (d.code.event && o) ≡ false = rw (event, f) refl in
          let none : cond {A = ℕ} (same_code c d.code && not o) 1 0 ≡ 0 = rw (s, f) refl in
          rw drop (let n = more in omega arith)
      by_same true s false f k e more =
          let keep : not (d.code.event && o) ≡ true = rw f (outside d.code.event) in
          let one : cond {A = ℕ} (true && not o) 1 0 ≡ 1 = rw f refl in
          rw (keep, s) (let n = more in omega arith)
        where
          outside : (b : Bool) → not (b && false) ≡ true
          outside true = refl
          outside false = refl

-- ---- timestamps of what is written

-- all that is written are changes
abbrev pub AllChanges : List Entry → Type 0
AllChanges es = AllByRecursion (λ e. is_change e.item ≡ true) es

pub changes_only : (es : List Entry) → AllChanges (filter merges es)
changes_only [] = tt
changes_only (e ∷ es) = by_item e.item e.time e.inside (changes_only es)
  where
    rest : List Entry
    rest = filter merges es

    by_item : (x : BodyItem) (time : ℕ) (inside : Bool) → AllChanges rest
        → AllChanges (filter merges (record { time = time; inside = inside; item = x } ∷ es))
    by_item (BodyItem.Time t) time inside more = more
    by_item (BodyItem.Begin s) time inside more = more
    by_item BodyItem.End time inside more = more
    by_item (BodyItem.Changes d) time inside more = by_keep (not (d.code.event && inside))
      where
        by_keep : (b : Bool) → AllChanges (cond b
            (record { time = time; inside = inside; item = BodyItem.Changes d } ∷ rest) rest)
        by_keep true = (refl, more)
        by_keep false = more

module _ (c : IdCode) (codes : List IdCode) where
  one_mark : (x : BodyItem) → is_change x ≡ true → IsWritable codes false x
      → ((cond {A = ℕ} (gives_to c (read_item x) && not false) 1 0 ≡ cond (gives_to c x) 1 0)
      × (next_open false (read_item x) ≡ false)) × (next_open false x ≡ false)
  one_mark (BodyItem.Time u) e h = cc
  one_mark (BodyItem.Begin s) e h = cc
  one_mark BodyItem.End e h = cc
  one_mark (BodyItem.Changes d) e h = let r = read_again_is codes d h.0 h.1 in (
    (
      ap (λ b. cond {A = ℕ} (b && true) 1 0) (ap (same_code c) r.same)
          ∙ and_true (same_code c d.code),
      refl,
    ),
    refl,
  )
    where
      and_true : (b : Bool) → cond {A = ℕ} (b && true) 1 0 ≡ cond b 1 0
      and_true true = refl
      and_true false = refl

  written_marks : (t t' : ℕ) (w : List ℕ) (es : List Entry) (rest : List BodyItem)
      → AreWritable codes t false es → AllChanges es
      → count_from c t' false (written_items w es ++ rest)
      ≡ count_by (λ e. gives_to c e.item) es + count_from c 0 false rest
  written_marks t t' w [] rest h all = count_kept_none t' rest
    where
      count_kept_none : (u : ℕ) (xs : List BodyItem)
          → count_from c u false xs ≡ 0 + count_from c 0 false xs
      count_kept_none u xs = count_time c u 0 false xs ∙ omega arith
  written_marks t t' w (e ∷ es) rest h all =
      let one = one_mark e.item all.0 h.3 in
      let more = written_items (w ++ e.time ∷ []) es in
      let a = count_kept c t' e.time false w (read_item e.item) more rest in
      let b = ap (λ o. count_from c 0 o (more ++ rest)) one.0.1 in
      let d = written_marks e.time 0 (w ++ e.time ∷ []) es rest
      (subst (λ (o : Bool). AreWritable codes e.time o es) one.1 h.4) all.1 in
      let f = sum_by-cons (λ (x : Entry). cond {A = ℕ} (gives_to c x.item) 1 0) e es in
      let g = one.0.0 in
      omega arith

-- ---- the same counts

-- what a code and its new code count alike in an input and in a merge
pub record SameCounts (h : Header) (front : List Header) (items others : List BodyItem)
    (c : IdCode) : Type 0 where
  pub values : c.event ≡ false → values_of others (renamed_code front h c) ≡ values_of items c
  pub marks : c.event ≡ true → event_count (renamed_code front h c) others ≡ event_count c items

pub counts_same : (h : Header) (front : List Header) (items others : List BodyItem) (c : IdCode)
    → SameCounts h front items others c
    → counts_for others (renamed_code front h c) ≡ counts_for items c
counts_same h front items others c k = by_event c.event refl
  where
    by_event : (b : Bool) → c.event ≡ b
        → counts_for others (renamed_code front h c) ≡ counts_for items c
    by_event true e = rw (e, k.marks e) refl
    by_event false e = rw e (ap counts_of (k.values e))

rows_same : (h : Header) (front : List Header) (items others : List BodyItem) (vs : List Selected)
    → ((s : Selected) → In s vs → SameCounts h front items others (code_of s.variable))
    → flat_map (edges_line others) (map (merged_variable front h) vs)
    ≡ flat_map (merged_row (length front + 1) items) vs
rows_same h front items others [] same = refl
rows_same h front items others (s ∷ vs) same =
    ap (λ n. words (under_input (length front + 1) s.path ∷ decimal n.changes ∷ decimal
    n.rises ∷ decimal n.falls ∷ []) ++ flat_map (edges_line others)
    (map (merged_variable front h) vs)) (counts_same h front items others (code_of s.variable)
    (same s (inl refl)))
    ∙ ap (λ l. merged_row (length front + 1) items s ++ l)
    (rows_same h front items others vs (λ x i. same x (inr i)))

all_found : (hs : List Header) → AllByRecursion CanMerge hs
    → AllByRecursion (λ h. AreCodes h.codes) hs
all_found [] can = tt
all_found (h ∷ hs) can = let c = can.0 in (c.found, all_found hs can.1)

pub merged_counts : (limit : ℕ) (names : List (List ℕ)) (inputs : List Input)
    (os earlier later : List Opened) (o : Opened) (can : AreReadable limit names inputs os)
    → Among os earlier later o
    → (c : IdCode) → In c o.header.codes
    → SameCounts o.header (headers_of (map whole_dump earlier)) (items_in o)
    (parts_items [] [] (merge_kept (merged_items (dumps_of os)))
    (greatest_mark (merged_items (dumps_of os)))) c
merged_counts limit names inputs os earlier later o can at c i =
    let ds = dumps_of os in
    let hs = headers_of ds in
    let h = o.header in
    let items = items_in o in
    let front = headers_of (map whole_dump earlier) in
    let back = headers_of (map whole_dump later) in
    let p = merge_items limit names inputs os can in
    let parts = p.parts in
    let ks = merged_items ds in
    let kept = merge_kept ks in
    let mark = greatest_mark ks in
    let w = map (λ (e : Entry). e.time) kept in
    let end = closing_items w mark in
    let new = renamed_code front h c in
    let good = dumps_good os (inputs_good limit [] inputs os can.opens) in
    let own : IsGoodDump hs (whole_dump o) =
    (all_back (IsGoodDump hs) (map whole_dump earlier) (whole_dump o ∷ map whole_dump later)
    (subst (AllByRecursion (IsGoodDump hs)) at.dumps good)).0 in
    let found = subst (AllByRecursion (λ (x : Header). AreCodes x.codes)) at.headers
    (all_found hs (all_can limit inputs os can.opens can.shallow)) in
    let before = all_front (λ (x : Header). AreCodes x.codes) front (h ∷ back) found in
    let declared : declared_code h.codes c.text ≡ Some c = found_in h.codes c own.codes i in
    let in_merge : declared_code (merged_codes hs) new.text ≡ Some new
    = subst (λ (l : List Header). declared_code (merged_codes l) new.text ≡ Some new)
    (sym at.headers) (declared_in_merge front back h c before own.codes declared) in
    let all = kept_all ds (map whole_dump earlier) (map whole_dump later) (whole_dump o) c good
    at.dumps (to_contained h.codes c i) in
    let es = entries_are h.codes [] 0 false items at_start own.fit in
    record {
      values = λ quiet.
          values-append (written_items [] kept) end new
          ∙ ap (λ l. values_of (written_items [] kept) new ++ l) (closing_gives new w mark)
          ∙ append-nil (values_of (written_items [] kept) new)
          ∙ written_values new (merged_codes hs) in_merge quiet 0 false [] kept parts.writable
          ∙ values_in new kept
          ∙ ap (filter_map value_in) all
          ∙ scaled_values (factor hs h) (renamed front h) (changes_kept c (entries items))
          ∙ ap (λ l. filter_map value_in (changes_kept c l)) es
          ∙ kept_values c h.codes declared 0 false items quiet own.fit;
      marks = λ loud.
          ap (count_by (counted new)) (entries_are (merged_codes hs) [] 0 false
          (written_items [] kept ++ end) at_start
          (parts_fit (merged_codes hs) [] [] kept mark parts))
          ∙ written_marks new (merged_codes hs) 0 0 [] kept end parts.writable
          (changes_only (map (λ (k : Keyed). k.entry) ks))
          ∙ (let n = closing_count new false w mark in
          let m = length-filter (λ (e : Entry). gives_to new e.item) kept in
          let none : count_by (λ (e : Entry). gives_to new e.item) kept + count_from new 0 false
          end ≡ length (filter (λ (e : Entry). gives_to new e.item) kept) = omega arith in none)
          ∙ ap length all
          ∙ length-map (changes_kept c (entries items))
          (merged_entry (factor hs h) (renamed front h))
          ∙ ap (λ l. length (changes_kept c l)) es
          ∙ kept_marks c h.codes declared 0 false items loud own.fit
          ∙ ap (count_by (counted c)) (sym es);
    }

-- ---- the law

pub edges_of_merge : EdgesOfMerge
unfolding request_of counted_outcome
edges_of_merge limit name names inputs os earlier later o wanted can e some each =
    let p = merge_items limit names inputs os can in
    let d = p.dump in
    let k = d.dump in
    let head = d.head in
    let h = o.header in
    let hs = headers_of (dumps_of os) in
    let at = among limit names inputs os earlier later o can e in
    let front = headers_of (map whole_dump earlier) in
    let back = headers_of (map whole_dump later) in
    let n = length earlier + 1 in
    let text = (outcome Want.Merge limit names inputs).output in
    let vs = selected wanted h.declarations in
    let more = many hs in
    let few = can.few in
    let small : length (front ++ h ∷ back) < 2 ^ 63 =
    subst (λ (l : List Header). length l < 2 ^ 63) at.headers (omega arith) in
    let variables = head.variables
    ∙ ap (λ (l : List Header). flat_map (λ xs. xs) (each_after merged_selected [] l))
    at.headers in
    let selection : selected (names_under n wanted) k.header.declarations
    ≡ map (merged_variable front h) vs
    = subst (λ (m : ℕ). selected (names_under (m + 1) wanted) k.header.declarations
    ≡ map (merged_variable front h) vs) at.count
    (selected_under front back h wanted k.header.declarations some small variables) in
    let unmatched : first_unmatched (names_under n wanted) k.header.declarations ≡ None
    = subst (λ (m : ℕ). first_unmatched (names_under (m + 1) wanted) k.header.declarations ≡ None)
    at.count (unmatched_under front back h wanted k.header.declarations small variables
    ∙ each) in
    let one : CanMerge h = (all_back CanMerge front (h ∷ back)
    (subst (AllByRecursion CanMerge) at.headers
    (all_can limit inputs os can.opens can.shallow))).0 in
    let same : (s : Selected) → In s vs
    → SameCounts h front (items_in o) (items_in k) (code_of s.variable)
    = λ s i. subst (λ (l : List BodyItem). SameCounts h front (items_in o) l (code_of s.variable))
    (sym p.items) (merged_counts limit names inputs os earlier later o can at
    (code_of s.variable) (code_in h wanted s one i)) in
    let rows : flat_map (edges_line (items_in k)) (map (merged_variable front h) vs)
    ≡ flat_map (merged_row n (items_in o)) vs
    = subst (λ (m : ℕ). flat_map (edges_line (items_in k)) (map (merged_variable front h) vs)
    ≡ flat_map (merged_row (m + 1) (items_in o)) vs) at.count
    (rows_same h front (items_in o) (items_in k) vs same) in
    opened_run (Want.Edges (names_under n wanted)) limit name (input_of text) k d.opens
    ∙ edges_run (names_under n wanted) name k d.whole
    ∙ ap (λ (l : List Selected). counted_outcome (names_under n wanted)
    (first_unmatched (names_under n wanted) k.header.declarations)
    (flat_map (edges_line (items_in k)) l)) selection
    ∙ ap (λ place. counted_outcome (names_under n wanted) place
    (flat_map (edges_line (items_in k)) (map (merged_variable front h) vs))) unmatched
    ∙ ap clean_outcome rows
