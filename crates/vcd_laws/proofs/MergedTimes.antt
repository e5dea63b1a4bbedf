-- The timestamps of a merge of two inputs are 0 or timestamps of theirs, and when items come.
use Rattle.vcd_laws.proofs.Cited.{◌≡◌, ℕ, ◌*◌, ◌==◌, max, Bool, true, false, cond, List, [], ◌∷◌, ◌++◌, map, fold, flat_map, Option, Some, None, ◌⊎◌, inl, inr, ⊤, refl, sym, ap, ◌∙◌, subst, AllByRecursion, list_any, reduce, append_assoc, mul-zero, each_after, Header, BodyItem, Entry, entries, entry_after, time_after, Dump, Keyed, headers_of, factor, keyed_after, keyed_items, greatest_mark, is_change, scaled_item, merged_items, merge_kept, read_item, time_items, written_items, parts_items, closing_items, all_append, all_keyed, all_by_key, marks-append, filter_words}
use Rattle.vcd_model.specs.Items.{marks}
use Rattle.vcd_laws.proofs.MergeDumps.{merged_is}
use Rattle.vcd_laws.proofs.MergeLaw.{merges}
use Rattle.vcd_laws.proofs.WrittenCodes.{In, in_left, in_right}
use Rattle.vcd_laws.proofs.MergedBack.{in_either}
use Rattle.vcd_laws.proofs.SameTimes.{greatest_in}

-- 0, or one of these times
abbrev pub IsTimeOf : List ℕ → ℕ → Type 0
IsTimeOf ms t = (t ≡ 0) ⊎ In t ms

-- ---- when items come

-- the time after some items is that of a timestamp among them, or 0
after_some : (items : List BodyItem) → IsTimeOf (marks items) (time_after items)
after_some items = greatest_in 0 (marks items)

after_first : (front back items : List BodyItem) → front ++ back ≡ items → IsTimeOf (marks items) (time_after front)
after_first front back items e = by_time (after_some front)
  where
    by_time : IsTimeOf (marks front) (time_after front) → IsTimeOf (marks items) (time_after front)
    by_time (inl z) = inl z
    by_time (inr i) = inr (subst (In (time_after front)) (sym (marks-append front back) ∙ ap marks e)
        (in_left (marks front) (marks back) (time_after front) i))

entries_come : (front back items : List BodyItem) → front ++ back ≡ items
    → AllByRecursion (λ e. IsTimeOf (marks items) e.time) (each_after entry_after front back)
entries_come front [] items e = tt
entries_come front (x ∷ back) items e = (
  after_first front (x ∷ back) items e,
  entries_come (front ++ x ∷ []) back items (append_assoc front (x ∷ []) back ∙ e),
)

-- each item of a dump comes at a timestamp or at 0
pub items_come : (items : List BodyItem) → AllByRecursion (λ e. IsTimeOf (marks items) e.time) (entries items)
items_come items = entries_come [] items items refl

-- ---- items of a merge

-- an item that comes at one of these times, or at 0, and whose time is one of them if it is a
-- timestamp
abbrev IsMark : List ℕ → BodyItem → Type 0
IsMark ms (BodyItem.Time t) = In t ms
IsMark ms (BodyItem.Begin s) = ⊤
IsMark ms BodyItem.End = ⊤
IsMark ms (BodyItem.Changes c) = ⊤

abbrev Comes : List ℕ → Keyed → Type 0
Comes ms k = IsTimeOf ms k.entry.time × IsMark ms k.entry.item

module _ (ms : List ℕ) (scale input : ℕ) (rename : List ℕ → List ℕ) (items : List BodyItem)
    (all : (t : ℕ) → In t (marks items) → In (scale * t) ms) where
  item_comes : (front back : List BodyItem) (x : BodyItem) → front ++ x ∷ back ≡ items
      → Comes ms (keyed_after scale input rename front x)
  item_comes front back x e = (by_time (after_first front (x ∷ back) items e), by_item x e)
    where
      by_time : IsTimeOf (marks items) (time_after front) → IsTimeOf ms (scale * time_after front)
      by_time (inl z) = inl (ap (λ n. scale * n) z ∙ mul-zero scale)
      by_time (inr i) = inr (all (time_after front) i)

      by_item : (x : BodyItem) → front ++ x ∷ back ≡ items → IsMark ms (scaled_item scale rename x)
      by_item (BodyItem.Time t) f = all t (subst (In t)
          (sym (marks-append front (BodyItem.Time t ∷ back)) ∙ ap marks f)
          (in_right (marks front) (t ∷ marks back) t (inl refl)))
      by_item (BodyItem.Begin s) f = tt
      by_item BodyItem.End f = tt
      by_item (BodyItem.Changes c) f = tt

  keyed_come : (front back : List BodyItem) → front ++ back ≡ items
      → AllByRecursion (Comes ms) (each_after (keyed_after scale input rename) front back)
  keyed_come front [] e = tt
  keyed_come front (x ∷ back) e = (
    item_comes front back x e,
    keyed_come (front ++ x ∷ []) back (append_assoc front (x ∷ []) back ∙ e),
  )

-- the items of all inputs
all_come : (ms : List ℕ) (hs : List Header) (front ds : List Dump)
    → AllByRecursion (λ d. (t : ℕ) → In t (marks d.items) → In (factor hs d.header * t) ms) ds
    → AllByRecursion (Comes ms) (flat_map (λ ks. ks) (each_after (keyed_items hs) front ds))
all_come ms hs front [] all = tt
all_come ms hs front (d ∷ ds) all = all_append (Comes ms) (keyed_items hs front d)
    (flat_map (λ ks. ks) (each_after (keyed_items hs) (front ++ d ∷ []) ds))
    (keyed_come ms (factor hs d.header) _ _ d.items all.0 [] d.items refl)
    (all_come ms hs (front ++ d ∷ []) ds all.1)

-- ---- timestamps that are written

entries_of : (ms : List ℕ) (ks : List Keyed) → AllByRecursion (Comes ms) ks
    → AllByRecursion (λ e. IsTimeOf ms e.time) (map (λ k. k.entry) ks)
entries_of ms [] all = tt
entries_of ms (k ∷ ks) all = (all.0.0, entries_of ms ks all.1)

marks_in : (ms : List ℕ) (ks : List Keyed) (t : ℕ) → AllByRecursion (Comes ms) ks
    → In t (marks (map (λ k. k.entry.item) ks)) → In t ms
marks_in ms [] t all i = absurd i
marks_in ms (k ∷ ks) t all i = by_item k.entry.item all.0.1 i (marks_in ms ks t all.1)
  where
    by_item : (x : BodyItem) → IsMark ms x → In t (marks (x ∷ map (λ k. k.entry.item) ks))
        → (In t (marks (map (λ k. k.entry.item) ks)) → In t ms) → In t ms
    by_item (BodyItem.Time u) m (inl e) more = subst (λ n. In n ms) (sym e) m
    by_item (BodyItem.Time u) m (inr j) more = more j
    by_item (BodyItem.Begin s) m j more = more j
    by_item BodyItem.End m j more = more j
    by_item (BodyItem.Changes c) m j more = more j

greatest_known : (ms : List ℕ) (ks : List Keyed) (t : ℕ) → AllByRecursion (Comes ms) ks
    → greatest_mark ks ≡ Some t → In t ms
greatest_known ms ks t all e = by_marks (marks (map (λ k. k.entry.item) ks)) (λ u. marks_in ms ks u all) e
  where
    by_marks : (us : List ℕ) → ((u : ℕ) → In u us → In u ms) → reduce max us ≡ Some t → In t ms
    by_marks [] known f = cc
    by_marks (u ∷ us) known f = let same : fold max u us ≡ t = cc in
        subst (λ n. In n ms) same (known (fold max u us) (greatest_in u us))

time_marks : (w : List ℕ) (u t : ℕ) → In t (marks (time_items w u)) → t ≡ u
time_marks w u t i = by_any (list_any (λ v. v == u) w) i
  where
    by_any : (b : Bool) → In t (marks (cond b [] (BodyItem.Time u ∷ []))) → t ≡ u
    by_any true j = absurd j
    by_any false (inl e) = e
    by_any false (inr j) = absurd j

marks_written : (ms w : List ℕ) (es : List Entry) (t : ℕ)
    → AllByRecursion (λ e. is_change e.item ≡ true) es → AllByRecursion (λ e. IsTimeOf ms e.time) es
    → In t (marks (written_items w es)) → IsTimeOf ms t
marks_written ms w [] t only all i = absurd i
marks_written ms w (e ∷ es) t only all i =
    let more = written_items (w ++ e.time ∷ []) es in
    by_place (in_either (marks (time_items w e.time)) (marks (read_item e.item ∷ more)) t
    (subst (In t) (marks-append (time_items w e.time) (read_item e.item ∷ more)) i))
    (marks_written ms (w ++ e.time ∷ []) es t only.1 all.1)
  where
    by_item : (x : BodyItem) (xs : List BodyItem) → is_change x ≡ true → In t (marks (read_item x ∷ xs)) → In t (marks xs)
    by_item (BodyItem.Time u) xs f j = cc
    by_item (BodyItem.Begin s) xs f j = cc
    by_item BodyItem.End xs f j = cc
    by_item (BodyItem.Changes c) xs f j = j

    by_place : In t (marks (time_items w e.time)) ⊎ In t (marks (read_item e.item ∷ written_items (w ++ e.time ∷ []) es))
        → (In t (marks (written_items (w ++ e.time ∷ []) es)) → IsTimeOf ms t) → IsTimeOf ms t
    by_place (inl j) more = subst (IsTimeOf ms) (sym (time_marks w e.time t j)) all.0
    by_place (inr j) more = more (by_item e.item (written_items (w ++ e.time ∷ []) es) only.0 j)

closing_marks : (ms w : List ℕ) (mark : Option ℕ) (t : ℕ) → ((u : ℕ) → mark ≡ Some u → In u ms)
    → In t (marks (closing_items w mark)) → In t ms
closing_marks ms w None t known i = absurd i
closing_marks ms w (Some u) t known i = by_any (list_any (λ v. v == u) w) i
  where
    by_any : (b : Bool) → In t (marks (cond b [] (BodyItem.Time u ∷ []))) → In t ms
    by_any true j = absurd j
    by_any false (inl e) = subst (λ n. In n ms) (sym e) (known u refl)
    by_any false (inr j) = absurd j

-- the timestamps of what `merge` writes of dumps are 0 or among these times, if the dumps' are
pub merged_marks : (ms : List ℕ) (ds : List Dump)
    → AllByRecursion (λ e. is_change e.item ≡ true) (merge_kept (merged_items ds))
    → AllByRecursion (λ d. (t : ℕ) → In t (marks d.items) → In (factor (headers_of ds) d.header * t) ms) ds
    → (t : ℕ) → In t (marks (parts_items [] [] (merge_kept (merged_items ds)) (greatest_mark (merged_items ds))))
    → IsTimeOf ms t
merged_marks ms ds only all t i =
    let ks = merged_items ds in
    let kept = merge_kept ks in
    let come : AllByRecursion (Comes ms) ks = subst (AllByRecursion (Comes ms)) (sym (merged_is ds))
    (all_by_key (Comes ms) (all_keyed (headers_of ds) ds) (all_come ms (headers_of ds) [] ds all)) in
    let times : AllByRecursion (λ e. IsTimeOf ms e.time) kept
    = filter_words (λ e. IsTimeOf ms e.time) merges (map (λ k. k.entry) ks) (entries_of ms ks come) in
    let end = closing_items (map (λ e. e.time) kept) (greatest_mark ks) in
    by_place (in_either (marks (written_items [] kept)) (marks end) t
    (subst (In t) (marks-append (written_items [] kept) end) i))
    (marks_written ms [] kept t only times)
    (closing_marks ms (map (λ e. e.time) kept) (greatest_mark ks) t (λ u e. greatest_known ms ks u come e))
  where
    by_place : In t (marks (written_items [] (merge_kept (merged_items ds)))) ⊎ In t (marks (closing_items
        (map (λ e. e.time) (merge_kept (merged_items ds))) (greatest_mark (merged_items ds))))
        → (In t (marks (written_items [] (merge_kept (merged_items ds)))) → IsTimeOf ms t)
        → (In t (marks (closing_items (map (λ e. e.time) (merge_kept (merged_items ds))) (greatest_mark (merged_items ds)))) → In t ms)
        → IsTimeOf ms t
    by_place (inl j) f g = f j
    by_place (inr j) f g = inr (g j)
