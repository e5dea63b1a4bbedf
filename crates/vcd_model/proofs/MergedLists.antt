-- The merged list, if an input gives one item more, and if the inputs are whole.
use Rattle.vcd_model.proofs.Cited.{◌≡◌, ℕ, zero, suc, ◌+◌, true, List, [], ◌∷◌, ◌++◌, length, take, slice_get, Some, refl, sym, ap, subst, ◌∙◌, arith, flat_map, AllByRecursion, length_push, map-append, each, each_after, Header, BodyItem, renamed, Dump, key_lt, Keyed, factor, headers_of, key_after, keyed_after, keyed_items, by_key, keyed_own, keyed_rest, with_item}
use Rattle.std.proofs.Common.{append-nil, append_assoc}
use Rattle.vcd_model.specs.Merge.{merged_items}
use Rattle.vcd_model.proofs.Growing.{each_after-append}
use Rattle.vcd_model.proofs.BodyFacts.{all_append, all_front, all_back}
use Rattle.vcd_model.proofs.MergeOrder.{by_key_last}

-- the list that is sorted, input by input
rest_is : (hs : List Header) (earlier ds : List Dump) → flat_map (λ ks. ks) (each_after (keyed_items hs) earlier ds) ≡ keyed_rest hs (length earlier) (headers_of earlier) ds
rest_is hs earlier [] = refl
rest_is hs earlier (d ∷ ds) =
    ap (λ l. keyed_items hs earlier d ++ l) (rest_is hs (earlier ++ d ∷ []) ds
    ∙ ap (λ n. keyed_rest hs n (headers_of (earlier ++ d ∷ [])) ds) (length_push earlier d)
    ∙ ap (λ (l : List Header). keyed_rest hs (length earlier + 1) l ds) (map-append (λ (x : Dump). x.header) earlier (d ∷ [])))

-- so the merged list is those by key
pub merged_by_input : (ds : List Dump) → merged_items ds ≡ by_key (keyed_rest (headers_of ds) 0 [] ds)
unfolding merged_items
merged_by_input ds = ap by_key (rest_is (headers_of ds) [] ds)

-- .. under these headers
pub merged_by : (hs : List Header) (ds : List Dump) → headers_of ds ≡ hs → merged_items ds ≡ by_key (keyed_rest hs 0 [] ds)
merged_by hs ds e = merged_by_input ds ∙ ap (λ (h : List Header). by_key (keyed_rest h 0 [] ds)) e

-- ---- one item more

own_more : (hs : List Header) (n : ℕ) (es : List Header) (d : Dump) (x : BodyItem) (rest : List Keyed)
    → keyed_own hs n es (record { header = d.header; items = d.items ++ x ∷ []; fault = d.fault }) ++ rest ≡ keyed_own hs n es d ++ keyed_after
    (factor hs d.header) n (renamed es d.header) d.items x ∷ rest
own_more hs n es d x rest =
    let f = keyed_after (factor hs d.header) n (renamed es d.header) in
    ap (λ l. l ++ rest) (each_after-append f [] d.items (x ∷ [])) ∙ append_assoc (each f d.items) (f d.items x ∷ []) rest

-- an item more is somewhere among the others
split_at : (hs : List Header) (n m : ℕ) (es : List Header) (ds : List Dump) (k : ℕ) (d : Dump) (x : BodyItem) → m ≡ n + k → slice_get ds k ≡ Some d
    → (xs : List Keyed) × (ys : List Keyed) × (keyed_rest hs n es ds ≡ xs ++ ys)
    × (keyed_rest hs n es (with_item ds k d x) ≡ xs ++ keyed_after (factor hs d.header) m
    (renamed (es ++ take k (headers_of ds)) d.header) d.items x ∷ ys)
split_at hs n m es [] k d x e at = cc
split_at hs n m es (c ∷ ds) zero d x e at =
    let same : c ≡ d = cc in
    let here : n ≡ m = omega arith in
    let rest = keyed_rest hs (n + 1) (es ++ c.header ∷ []) ds in (
      keyed_own hs n es c,
      rest,
      refl,
      subst (λ (y : Dump). keyed_rest hs n es (with_item (c ∷ ds) 0 y x) ≡ keyed_own hs n es c ++ keyed_after (factor hs y.header) m (renamed (es ++ []) y.header) y.items x ∷ rest) same
          (own_more hs n es c x rest
          ∙ ap (λ (l : List Header). keyed_own hs n es c ++ keyed_after (factor hs c.header) n (renamed l c.header) c.items x ∷ rest) (sym (append-nil es))
          ∙ ap (λ (a : ℕ). keyed_own hs n es c ++ keyed_after (factor hs c.header) a (renamed (es ++ []) c.header) c.items x ∷ rest) here),
    )
split_at hs n m es (c ∷ ds) (suc k) d x e at =
    let more = split_at hs (n + 1) m (es ++ c.header ∷ []) ds k d x (omega arith) at in (
      keyed_own hs n es c ++ more.0,
      more.1,
      ap (λ l. keyed_own hs n es c ++ l) more.2 ∙ sym (append_assoc (keyed_own hs n es c) more.0 more.1),
      ap (λ l. keyed_own hs n es c ++ l) more.3
          ∙ sym (append_assoc (keyed_own hs n es c) more.0 (keyed_after (factor hs d.header) m (renamed ((es ++ c.header ∷ []) ++ take k (headers_of ds)) d.header) d.items x ∷ more.1))
          ∙ ap (λ (l : List Header). (keyed_own hs n es c ++ more.0) ++ keyed_after (factor hs d.header) m (renamed l d.header) d.items x ∷ more.1)
          (append_assoc es (c.header ∷ []) (take k (headers_of ds))),
    )

-- the headers stay
pub headers_stay : (ds : List Dump) (k : ℕ) (d : Dump) (x : BodyItem) → slice_get ds k ≡ Some d → headers_of (with_item ds k d x) ≡ headers_of ds
headers_stay [] k d x at = refl
headers_stay (c ∷ ds) zero d x at = let same : c ≡ d = cc in rw same refl
headers_stay (c ∷ ds) (suc k) d x at = ap (λ l. c.header ∷ l) (headers_stay ds k d x at)

module _ (hs : List Header) (ds : List Dump) (k : ℕ) (d : Dump) (x : BodyItem) (headers : headers_of ds ≡ hs) (at : slice_get ds k ≡ Some d) where
  -- the item as it is merged
  abbrev item : Keyed
  item = keyed_after (factor hs d.header) k (renamed (take k hs) d.header) d.items x

  split : (xs : List Keyed) × (ys : List Keyed) × (keyed_rest hs 0 [] ds ≡ xs ++ ys) × (keyed_rest hs 0 [] (with_item ds k d x) ≡ xs ++ item ∷ ys)
  split = let s = split_at hs 0 k [] ds k d x (omega arith) at in rw headers at s

  -- if it is after all others, it goes to the end of the merged list
  pub merged_more : AllByRecursion (λ y. key_lt y.key (key_after (factor hs d.header) k d.items) ≡ true) (keyed_rest hs 0 [] ds)
      → merged_items (with_item ds k d x) ≡ merged_items ds ++ item ∷ []
  merged_more before =
      let s = split in
      merged_by_input (with_item ds k d x)
      ∙ ap (λ (l : List Header). by_key (keyed_rest l 0 [] (with_item ds k d x))) (headers_stay ds k d x at ∙ headers)
      ∙ ap by_key s.3
      ∙ by_key_last s.0 s.1 item (subst (AllByRecursion (λ y. key_lt y.key (key_after (factor hs d.header) k d.items) ≡ true)) s.2 before)
      ∙ ap (λ l. by_key l ++ item ∷ []) (sym s.2)
      ∙ ap (λ (l : List Header). by_key (keyed_rest l 0 [] ds) ++ item ∷ []) (sym headers)
      ∙ ap (λ l. l ++ item ∷ []) (sym (merged_by_input ds))

  -- what holds of all items and of this one holds of all with it
  pub all_with_item : (P : Keyed → Type 0) → AllByRecursion P (keyed_rest hs 0 [] ds) → P item → AllByRecursion P (keyed_rest hs 0 [] (with_item ds k d x))
  all_with_item P all own =
      let s = split in
      let both = subst (AllByRecursion P) s.2 all in
      subst (AllByRecursion P) (sym s.3) (all_append P s.0 (item ∷ s.1) (all_front P s.0 s.1 both) (own, all_back P s.0 s.1 both))
