-- `merge` keeps the values of the codes of its inputs, at scaled times.
use Rattle.vcd_laws.proofs.Cited.{◌≡◌, ℕ, zero, suc, ◌+◌, ◌-◌, ◌*◌, ◌/◌, ◌^◌, ◌<◌, ◌≤◌, max, Bool, true, false, cond, not, ◌&&◌, nat_le, List, [], ◌∷◌, ◌++◌, length, map, filter, fold, flat_map, Some, Contains, refl, sym, ap, ◌∙◌, subst, arith, mul_comm, mul-zero, mul-le-mul_left, pow-suc, ◌⊎◌, inl, inr, ⊤, mul-div_cancel_left, mul-div-le, lt-div-mul-add, AllByRecursion, reduce, append_assoc, and_parts, leb-false, le-leb, lt-leb, cases_lt, each_after, IdCode, Header, ChangeForm, Change, BodyItem, Entry, time_after, Scalar, Vector, RealText, gives_to, value_in, value_at, may_keep, text_after, closing, declared_code, code_place, first_number, renamed, merged_head, Dump, key_lt, Keyed, headers_of, is_too_large, scaled_item, is_change, keyed_after, keyed_items, insert_by_key, by_key, merged_items, merge_kept, greatest_mark, dumps_of, renamed_code, merged_codes, merged_entry, changes_kept, MergeKeeps, MergeKeepsValues, greatest_from, IsGoodText, IsGoodChange, IsFit, AreFit, next_time, next_open, entries_from, StandsAt, at_start, stands_more, entries_are, IsRead, latest, gives_at, last_value_is, newer_same, latest-filter, AreWritable, last_open, Parts, parts_items, parts_read, parts_values, all_front, all_back, AreCodes, inputs_good, filter_words, find_all, gives_kept, last_below, IsSorted, sorted_by_key, all_by_key, not_behind, renamed_same, declared_in_merge, new_code_word, IsGoodDump, headers-append, all_keyed}
use Rattle.vcd_model.specs.Items.{marks}
use Rattle.vcd_model.specs.Merge.{factor, merge_open, merge_close}
use Rattle.vcd_laws.proofs.PickLaw.{behind-none}
use Rattle.vcd_model.proofs.MergeOrder.{all_more}
use Rattle.vcd_laws.proofs.MergeDumps.{dumps_good, merged_is, declared_of, kept_all}

-- ---- what is known of each merged item

abbrev IsGoodItem : List IdCode → BodyItem → Type 0
IsGoodItem codes (BodyItem.Changes c) = IsGoodChange codes c × (0 < c.code.size)
IsGoodItem codes item = ⊤

-- no timestamp above this time
abbrev IsUpTo : ℕ → BodyItem → Type 0
IsUpTo top (BodyItem.Time t) = t ≤ top
IsUpTo top item = ⊤

-- a merged item under these codes, at a time up to `top`
record IsMerged (codes : List IdCode) (top : ℕ) (k : Keyed) : Type 0 where
  time : k.entry.time ≡ k.key.time
  small : k.key.time ≤ top
  good : IsGoodItem codes k.entry.item

-- ---- the items of one input

pow_positive : (k : ℕ) → 0 < 10 ^ k
pow_positive zero = omega arith
pow_positive (suc k) = let p = pow_positive k in rw pow-suc (omega arith)

pub factor_positive : (hs : List Header) (h : Header) → 0 < factor hs h
unfolding factor
factor_positive hs h = pow_positive _

same_text_good : (form : ChangeForm) (text new : List ℕ) (a : IdCode) → IsGoodText form a text → IsGoodText form (record { text = new; size = a.size; event = a.event }) text
same_text_good Scalar text new a g = g
same_text_good Vector text new a g = g
same_text_good RealText text new a g = g

-- a renamed change is good under the codes of the merge
renamed_good : (earlier later : List Header) (h : Header) (c : Change) → AllByRecursion (λ x. AreCodes x.codes) earlier → AreCodes h.codes
    → IsGoodChange h.codes c → IsGoodChange (merged_codes (earlier ++ h ∷ later)) (record c { code = renamed_code earlier h c.code })
renamed_good earlier later h c before are g = record {
  declared = declared_in_merge earlier later h c.code before are g.declared;
  word = new_code_word (first_number earlier + code_place h c.code.text);
  text = same_text_good c.form c.text (renamed earlier h c.code.text) c.code g.text;
}

one_merged : (codes codes' : List IdCode) (top scale input : ℕ) (rename : List ℕ → List ℕ) (before : List BodyItem) (t : ℕ) (o : Bool)
    (items : List BodyItem) → AreCodes codes → AreFit codes t o items → StandsAt before t o → scale * t ≤ top
    → ((c : Change) → IsGoodChange codes c → IsGoodChange codes' (record c { code = record { text = rename c.code.text; size = c.code.size; event = c.code.event } }))
    → AllByRecursion (λ k. IsUpTo top k.entry.item) (each_after (keyed_after scale input rename) before items)
    → AllByRecursion (IsMerged codes' top) (each_after (keyed_after scale input rename) before items)
one_merged codes codes' top scale input rename before t o [] are fit at l good below = tt
one_merged codes codes' top scale input rename before t o (x ∷ items) are fit at l good below = (
  record { time = refl; small = (let e : scale * time_after before ≡ scale * t = ap (λ n. scale * n) at.time in omega arith); good = good_item x fit.0 },
  one_merged codes codes' top scale input rename (before ++ x ∷ []) (next_time t x) (next_open o x) items are fit.1 (stands_more codes before t o x at fit.0) (step x below.0) good below.1,
)
  where
    good_item : (x : BodyItem) → IsFit codes t o x → IsGoodItem codes' (scaled_item scale rename x)
    good_item (BodyItem.Time u) f = tt
    good_item (BodyItem.Begin s) f = tt
    good_item BodyItem.End f = tt
    good_item (BodyItem.Changes c) f = (good c f, find_all (λ (d : IdCode). 0 < d.size) _ codes c.code are.filled f.declared)

    step : (x : BodyItem) → IsUpTo top (scaled_item scale rename x) → scale * next_time t x ≤ top
    step (BodyItem.Time u) b = b
    step (BodyItem.Begin s) b = l
    step BodyItem.End b = l
    step (BodyItem.Changes c) b = l

-- ---- the items of all inputs

dump_codes : (hs : List Header) (ds : List Dump) → AllByRecursion (IsGoodDump hs) ds → AllByRecursion (λ x. AreCodes x.codes) (headers_of ds)
dump_codes hs [] h = tt
dump_codes hs (d ∷ ds) h = let g = h.0 in (g.codes, dump_codes hs ds h.1)

all_both_append : (P : Keyed → Type 0) (xs ys : List Keyed) → AllByRecursion P xs → AllByRecursion P ys → AllByRecursion P (xs ++ ys)
all_both_append P [] ys g h = h
all_both_append P (x ∷ xs) ys g h = (g.0, all_both_append P xs ys g.1 h)

all_merged : (hs : List Header) (top : ℕ) (front ds : List Dump) → AllByRecursion (IsGoodDump hs) front → AllByRecursion (IsGoodDump hs) ds
    → AllByRecursion (λ k. IsUpTo top k.entry.item) (flat_map (λ ks. ks) (each_after (keyed_items hs) front ds))
    → AllByRecursion (IsMerged (merged_codes (headers_of (front ++ ds))) top) (flat_map (λ ks. ks) (each_after (keyed_items hs) front ds))
all_merged hs top front [] before good below = tt
all_merged hs top front (d ∷ ds) before good below =
    let g = good.0 in
    let own = keyed_items hs front d in
    let rest = flat_map (λ ks. ks) (each_after (keyed_items hs) (front ++ d ∷ []) ds) in
    let here = one_merged d.header.codes (merged_codes (headers_of front ++ d.header ∷ headers_of ds)) top (factor hs d.header) (length front)
    (renamed (headers_of front) d.header) [] 0 false d.items g.codes g.fit at_start (rw mul-zero (omega arith))
    (λ c k. renamed_good (headers_of front) (headers_of ds) d.header c (dump_codes hs front before) g.codes k) (all_front (λ k. IsUpTo top k.entry.item) own rest below) in
    let more = all_merged hs top (front ++ d ∷ []) ds (all_push front d before g) good.1 (all_back (λ k. IsUpTo top k.entry.item) own rest below) in
    all_both_append (IsMerged (merged_codes (headers_of (front ++ d ∷ ds))) top) own rest
    (subst (λ (l : List Header). AllByRecursion (IsMerged (merged_codes l) top) own) (sym (headers-append front (d ∷ ds))) here)
    (subst (λ (l : List Dump). AllByRecursion (IsMerged (merged_codes (headers_of l)) top) rest) (append_assoc front (d ∷ []) ds) more)
  where
    all_push : (xs : List Dump) (x : Dump) → AllByRecursion (IsGoodDump hs) xs → IsGoodDump hs x → AllByRecursion (IsGoodDump hs) (xs ++ x ∷ [])
    all_push [] x h g = (g, tt)
    all_push (y ∷ xs) x h g = (h.0, all_push xs x h.1 g)

-- ---- the greatest timestamp

marks_up_to : (a top : ℕ) (ks : List Keyed) → fold max a (marks (map (λ k. k.entry.item) ks)) ≤ top → AllByRecursion (λ k. IsUpTo top k.entry.item) ks
marks_up_to a top [] l = tt
marks_up_to a top (k ∷ ks) l = by_item k.entry.item l (λ b. marks_up_to b top ks)
  where
    by_item : (x : BodyItem) → fold max a (marks (x ∷ map (λ y. y.entry.item) ks)) ≤ top
        → ((b : ℕ) → fold max b (marks (map (λ y. y.entry.item) ks)) ≤ top → AllByRecursion (λ y. IsUpTo top y.entry.item) ks) → IsUpTo top x
        × AllByRecursion (λ y. IsUpTo top y.entry.item) ks
    by_item (BodyItem.Time t) m more = let g = greatest_from (max a t) (marks (map (λ y. y.entry.item) ks)) in (omega arith, more (max a t) m)
    by_item (BodyItem.Begin s) m more = (tt, more a m)
    by_item BodyItem.End m more = (tt, more a m)
    by_item (BodyItem.Changes c) m more = (tt, more a m)

fold_up_to : (a top : ℕ) (ks : List Keyed) → a ≤ top → AllByRecursion (λ k. IsUpTo top k.entry.item) ks → fold max a (marks (map (λ k. k.entry.item) ks)) ≤ top
fold_up_to a top [] l h = l
fold_up_to a top (k ∷ ks) l h = by_item k.entry.item h.0 (λ b m. fold_up_to b top ks m h.1)
  where
    by_item : (x : BodyItem) → IsUpTo top x → ((b : ℕ) → b ≤ top → fold max b (marks (map (λ y. y.entry.item) ks)) ≤ top)
        → fold max a (marks (x ∷ map (λ y. y.entry.item) ks)) ≤ top
    by_item (BodyItem.Time t) m more = more (max a t) (omega arith)
    by_item (BodyItem.Begin s) m more = more a l
    by_item BodyItem.End m more = more a l
    by_item (BodyItem.Changes c) m more = more a l

greatest_is : (ms : List ℕ) (e : ℕ) → reduce max ms ≡ Some e → e ≡ fold max 0 ms
greatest_is [] e h = cc
greatest_is (m ∷ ms) e h = let same : fold max m ms ≡ e = cc in sym same ∙ ap (λ a. fold max a ms) (let z : m ≡ max 0 m = omega arith in z)

-- what holds of a sorted list's elements holds of those that were sorted
all_from_insert : (P : Keyed → Type 0) (x : Keyed) (ys : List Keyed) → AllByRecursion P (insert_by_key x ys) → P x × AllByRecursion P ys
all_from_insert P x [] h = (h.0, tt)
all_from_insert P x (y ∷ ys) h = by_test (key_lt x.key y.key) h (all_from_insert P x ys)
  where
    by_test : (b : Bool) → AllByRecursion P (cond b (x ∷ y ∷ ys) (y ∷ insert_by_key x ys))
        → (AllByRecursion P (insert_by_key x ys) → P x × AllByRecursion P ys) → P x × AllByRecursion P (y ∷ ys)
    by_test true g more = (g.0, g.1)
    by_test false g more = let m = more g.1 in (m.0, (g.0, m.1))

all_from_by_key : (P : Keyed → Type 0) (xs : List Keyed) → AllByRecursion P (by_key xs) → AllByRecursion P xs
all_from_by_key P [] h = tt
all_from_by_key P (x ∷ xs) h = let a = all_from_insert P x (by_key xs) h in (a.0, all_from_by_key P xs a.1)

-- each timestamp leaves the range of times nowhere
small_marks : (scale input : ℕ) (rename : List ℕ → List ℕ) (before items : List BodyItem)
    → AllByRecursion (λ item. is_too_large scale item ≡ false) items
    → AllByRecursion (λ k. IsUpTo (2 ^ 64 - 1) k.entry.item) (each_after (keyed_after scale input rename) before items)
small_marks scale input rename before [] h = tt
small_marks scale input rename before (x ∷ items) h = (by_item x h.0, small_marks scale input rename (before ++ x ∷ []) items h.1)
  where
    by_item : (x : BodyItem) → is_too_large scale x ≡ false → IsUpTo (2 ^ 64 - 1) (scaled_item scale rename x)
    by_item (BodyItem.Time t) e = let l = leb-false (2 ^ 64) (t * scale) e in let m = mul_comm t scale in omega arith
    by_item (BodyItem.Begin s) e = tt
    by_item BodyItem.End e = tt
    by_item (BodyItem.Changes c) e = tt

all_small : (hs : List Header) (front ds : List Dump) → AllByRecursion (IsGoodDump hs) ds
    → AllByRecursion (λ k. IsUpTo (2 ^ 64 - 1) k.entry.item) (flat_map (λ ks. ks) (each_after (keyed_items hs) front ds))
all_small hs front [] good = tt
all_small hs front (d ∷ ds) good =
    let g = good.0 in
    all_both_append (λ k. IsUpTo (2 ^ 64 - 1) k.entry.item) (keyed_items hs front d) (flat_map (λ ks. ks) (each_after (keyed_items hs) (front ++ d ∷ []) ds))
    (small_marks (factor hs d.header) (length front) (renamed (headers_of front) d.header) [] d.items g.small) (all_small hs (front ++ d ∷ []) ds good.1)

-- ---- the kept entries

abbrev pub merges : Entry → Bool
merges e = is_change e.item && may_keep e.item e.inside

merge_writable : (codes : List IdCode) (top t : ℕ) (ks : List Keyed) → top < 2 ^ 64 → AllByRecursion (λ k. t ≤ k.key.time) ks → IsSorted ks
    → AllByRecursion (IsMerged codes top) ks → AreWritable codes t false (merge_kept ks)
merge_writable codes top t [] l h s m = tt
merge_writable codes top t (k ∷ ks) l h s m =
    by_item k.entry.time k.entry.inside k.entry.item one.time one.good
    (λ e. merge_writable codes top k.entry.time ks l (all_more (λ y. key_lt y.key k.key ≡ false) (λ y. k.entry.time ≤ y.key.time) ks (λ y n.
    let b = (not_behind y.key k.key n).time in omega arith) s.0) s.1 m.1)
    (merge_writable codes top t ks l h.1 s.1 m.1)
  where
    one : IsMerged codes top k
    one = m.0

    by_item : (time : ℕ) (inside : Bool) (x : BodyItem) → time ≡ k.key.time → IsGoodItem codes x
        → (time ≡ k.key.time → AreWritable codes time false (merge_kept ks)) → AreWritable codes t false (merge_kept ks)
        → AreWritable codes t false (filter merges (record { time = time; inside = inside; item = x } ∷ map (λ y. y.entry) ks))
    by_item time inside (BodyItem.Time u) e g with_it without = without
    by_item time inside (BodyItem.Begin u) e g with_it without = without
    by_item time inside BodyItem.End e g with_it without = without
    by_item time inside (BodyItem.Changes c) e g with_it without = by_keep (not (c.code.event && inside))
      where
        by_keep : (b : Bool) → AreWritable codes t false (cond b (record { time = time; inside = inside; item = BodyItem.Changes c } ∷ merge_kept ks) (merge_kept ks))
        by_keep true = (let a = h.0 in omega arith, let a = one.small in omega arith, λ q. cc, g, with_it e)
        by_keep false = without

merge_closed : (ks : List Keyed) → last_open false (merge_kept ks) ≡ false
merge_closed [] = refl
merge_closed (k ∷ ks) = by_item k.entry.time k.entry.inside k.entry.item (merge_closed ks)
  where
    by_item : (time : ℕ) (inside : Bool) (x : BodyItem) → last_open false (merge_kept ks) ≡ false
        → last_open false (filter merges (record { time = time; inside = inside; item = x } ∷ map (λ y. y.entry) ks)) ≡ false
    by_item time inside (BodyItem.Time u) more = more
    by_item time inside (BodyItem.Begin u) more = more
    by_item time inside BodyItem.End more = more
    by_item time inside (BodyItem.Changes c) more = by_keep (not (c.code.event && inside))
      where
        by_keep : (b : Bool) → last_open false (cond b (record { time = time; inside = inside; item = BodyItem.Changes c } ∷ merge_kept ks) (merge_kept ks)) ≡ false
        by_keep true = more
        by_keep false = more

entries_up_to : (codes : List IdCode) (top : ℕ) (ks : List Keyed) → AllByRecursion (IsMerged codes top) ks → AllByRecursion (λ e. e.time ≤ top) (map (λ k. k.entry) ks)
entries_up_to codes top [] m = tt
entries_up_to codes top (k ∷ ks) m = let one = m.0 in let a = one.time in let b = one.small in (omega arith, entries_up_to codes top ks m.1)

-- ---- what was written is read again

abbrev top_of : List Keyed → ℕ
top_of ks = fold max 0 (marks (map (λ k. k.entry.item) ks))

pub merge_parts : (ds : List Dump) → AllByRecursion (IsGoodDump (headers_of ds)) ds
    → Parts (merged_codes (headers_of ds)) [] [] (merge_kept (by_key (all_keyed (headers_of ds) ds))) (greatest_mark (by_key (all_keyed (headers_of ds) ds)))
merge_parts ds good =
    let hs = headers_of ds in
    let all = all_keyed hs ds in
    let ks = by_key all in
    let codes = merged_codes hs in
    let merged = all_by_key (IsMerged codes (top_of ks)) all (all_merged hs (top_of ks) [] ds tt good
    (all_from_by_key (λ k. IsUpTo (top_of ks) k.entry.item) all (marks_up_to 0 (top_of ks) ks (omega arith)))) in
    let small : top_of ks ≤ 2 ^ 64 - 1 = fold_up_to 0 (2 ^ 64 - 1) ks (omega arith) (all_by_key (λ k. IsUpTo (2 ^ 64 - 1) k.entry.item) all (all_small hs [] ds good)) in
    record {
      fit = tt;
      shut = refl;
      writable = merge_writable codes (top_of ks) 0 ks (omega arith) (all_more (IsMerged codes (top_of ks)) (λ k. 0 ≤ k.key.time) ks (λ k m. omega arith) merged) (sorted_by_key all) merged;
      closed = merge_closed ks;
      stand = record { below = tt; there = λ e. cc };
      last = λ e h.
          let same = greatest_is (marks (map (λ k. k.entry.item) ks)) e h in
          let l = last_below (top_of ks) 0 (merge_kept ks) (omega arith) (filter_words (λ x. x.time ≤ top_of ks) merges (map (λ k. k.entry) ks) (entries_up_to codes (top_of ks) ks merged)) in
          (omega arith, omega arith);
    }

-- ---- values

latest-map : (M : Entry → Entry) (test test' : Entry → Bool) (es : List Entry)
    → AllByRecursion (λ e. (test (M e) ≡ test' e) × (test' e ≡ true → value_in (M e) ≡ value_in e)) es → latest test (map M es) ≡ latest test' es
latest-map M test test' [] h = refl
latest-map M test test' (e ∷ es) h =
    let a = h.0 in
    newer_same (test (M e)) (test' e) (value_in (M e)) (value_in e) (latest test (map M es)) (latest test' es) a.0 (λ q. a.1 (sym a.0 ∙ q)) (latest-map M test test' es h.1)

-- a scaled time is at most a time if it is at most the floor of that time
pub le_floor : (f u t : ℕ) → 0 < f → nat_le (f * u) t ≡ nat_le u (t / f)
le_floor f u t p = by_order (cases_lt (t / f) u)
  where
    by_order : (t / f < u) ⊎ (u ≤ t / f) → nat_le (f * u) t ≡ nat_le u (t / f)
    by_order (inl l) =
        let a : f * (t / f + 1) ≤ f * u = mul-le-mul_left f (omega arith) in
        let b : t < t / f * f + f = lt-div-mul-add p in
        let c = mul_comm f (t / f) in
        lt-leb (f * u) t (omega arith) ∙ sym (lt-leb u (t / f) l)
    by_order (inr l) =
        let a : f * u ≤ f * (t / f) = mul-le-mul_left f l in
        let b : f * (t / f) ≤ t = mul-div-le t f in
        le-leb (f * u) t (omega arith) ∙ sym (le-leb u (t / f) l)

same_values : (earlier : List Header) (h : Header) (c : IdCode) (f t u : ℕ) (o : Bool) (items : List BodyItem) → declared_code h.codes c.text ≡ Some c → 0 < f → AreFit h.codes u o items
    → AllByRecursion (λ e. (gives_at (renamed_code earlier h c) (λ v. nat_le v t) (merged_entry f (renamed earlier h) e) ≡ gives_at c (λ v. nat_le v (t / f)) e)
    × (gives_at c (λ v. nat_le v (t / f)) e ≡ true → value_in (merged_entry f (renamed earlier h) e) ≡ value_in e)) (entries_from u o items)
same_values earlier h c f t u o [] d p fit = tt
same_values earlier h c f t u o (BodyItem.Time v ∷ items) d p fit = ((refl, λ q. refl), same_values earlier h c f t v o items d p fit.1)
same_values earlier h c f t u o (BodyItem.Begin s ∷ items) d p fit = ((refl, λ q. refl), same_values earlier h c f t u true items d p fit.1)
same_values earlier h c f t u o (BodyItem.End ∷ items) d p fit = ((refl, λ q. refl), same_values earlier h c f t u false items d p fit.1)
same_values earlier h c f t u o (BodyItem.Changes x ∷ items) d p fit =
    let g : IsGoodChange h.codes x = fit.0 in
    ((rw (renamed_same earlier h c.text x.code.text c x.code d g.declared, le_floor f u t p) refl, λ q. refl), same_values earlier h c f t u o items d p fit.1)

pub all_pass : {X : Type 0} (P : X → Type 0) (xs : List X) → ((x : X) → P x) → AllByRecursion P xs
all_pass P [] f = tt
all_pass P (x ∷ xs) f = (f x, all_pass P xs f)

-- the changes that are kept give a code that is no event its values
kept_values : (codes : List IdCode) (c : IdCode) (at : ℕ → Bool) (items : List BodyItem) → declared_code codes c.text ≡ Some c → c.event ≡ false → AreFit codes 0 false items
    → latest (gives_at c at) (changes_kept c (entries_from 0 false items)) ≡ latest (gives_at c at) (entries_from 0 false items)
kept_values codes c at items d quiet fit =
    latest-filter (gives_at c at) (λ e. gives_to c e.item) (filter merges (entries_from 0 false items))
    (all_pass _ (filter merges (entries_from 0 false items)) (λ e h. (and_parts (gives_to c e.item) (at e.time) h).0))
    ∙ latest-filter (gives_at c at) merges (entries_from 0 false items) (gives_kept codes c at merges 0 0 false items d (λ u p x l same h. rw (same, quiet) refl) (omega arith) fit)

-- the values of a new code are those that its old code has at the floor of each time by the factor
pub merge_values_at : (ds earlier later : List Dump) (d : Dump) (c : IdCode) (t : ℕ) → AllByRecursion (IsGoodDump (headers_of ds)) ds
    → ds ≡ earlier ++ d ∷ later → Contains d.header.codes c → c.event ≡ false
    → value_at (parts_items [] [] (merge_kept (merged_items ds)) (greatest_mark (merged_items ds))) (renamed_code (headers_of earlier) d.header c) t
    ≡ value_at d.items c (t / factor (headers_of ds) d.header)
merge_values_at ds earlier later d c t good e in_list quiet =
    let hs = headers_of ds in
    let f = factor hs d.header in
    let new = renamed_code (headers_of earlier) d.header c in
    let ks = merged_items ds in
    let back = all_back (IsGoodDump hs) earlier (d ∷ later) (subst (AllByRecursion (IsGoodDump hs)) e good) in
    let g = back.0 in
    let declared = declared_of hs earlier later ds d c good e in_list in
    let before = dump_codes hs earlier (all_front (IsGoodDump hs) earlier (d ∷ later) (subst (AllByRecursion (IsGoodDump hs)) e good)) in
    let in_merge : declared_code (merged_codes hs) new.text ≡ Some new = subst
    (λ (l : List Header). declared_code (merged_codes l) new.text ≡ Some new) (sym (ap headers_of e ∙ headers-append earlier (d ∷ later)))
    (declared_in_merge (headers_of earlier) (headers_of later) d.header c before g.codes declared) in
    let parts : Parts (merged_codes hs) [] [] (merge_kept ks) (greatest_mark ks) = subst
    (λ (l : List Keyed). Parts (merged_codes hs) [] [] (merge_kept l) (greatest_mark l)) (sym (merged_is ds)) (merge_parts ds good) in
    let at : ℕ → Bool = λ u. nat_le u t in
    let es = entries_are d.header.codes [] 0 false d.items at_start g.fit in
    last_value_is new at (parts_items [] [] (merge_kept ks) (greatest_mark ks))
    ∙ parts_values (merged_codes hs) [] [] (merge_kept ks) (greatest_mark ks) new at parts in_merge quiet
    ∙ behind-none (latest (gives_at new at) (merge_kept ks))
    ∙ sym (latest-filter (gives_at new at) (λ x. gives_to new x.item) (merge_kept ks) (all_pass _ (merge_kept ks) (λ x h. (and_parts (gives_to new x.item) (at x.time) h).0)))
    ∙ ap (latest (gives_at new at)) (kept_all ds earlier later d c good e in_list ∙ ap (λ l. map (merged_entry f (renamed (headers_of earlier) d.header)) (changes_kept c l)) es)
    ∙ latest-map (merged_entry f (renamed (headers_of earlier) d.header)) (gives_at new at) (gives_at c (λ u. nat_le u (t / f))) (changes_kept c (entries_from 0 false d.items))
    (filter_words _ (λ x. gives_to c x.item) (filter merges (entries_from 0 false d.items))
    (filter_words _ merges (entries_from 0 false d.items) (same_values (headers_of earlier) d.header c f t 0 false d.items declared
    (factor_positive hs d.header) g.fit)))
    ∙ kept_values d.header.codes c (λ u. nat_le u (t / f)) d.items declared quiet g.fit
    ∙ ap (latest (gives_at c (λ u. nat_le u (t / f)))) (sym es)
    ∙ sym (last_value_is c (λ u. nat_le u (t / f)) d.items)

merge_values : (ds earlier later : List Dump) (d : Dump) (c : IdCode) (t : ℕ) → AllByRecursion (IsGoodDump (headers_of ds)) ds
    → ds ≡ earlier ++ d ∷ later → Contains d.header.codes c → c.event ≡ false
    → value_at (parts_items [] [] (merge_kept (merged_items ds)) (greatest_mark (merged_items ds))) (renamed_code (headers_of earlier) d.header c)
    (factor (headers_of ds) d.header * t) ≡ value_at d.items c t
merge_values ds earlier later d c t good e in_list quiet =
    let f = factor (headers_of ds) d.header in
    merge_values_at ds earlier later d c (f * t) good e in_list quiet
    ∙ ap (value_at d.items c) (mul-div_cancel_left t (factor_positive (headers_of ds) d.header))

-- the text after the merged head
pub merge_text : List Dump → List ℕ
merge_text ds = text_after [] (merge_kept (merged_items ds)) ++ closing (map (λ x. x.time) (merge_kept (merged_items ds))) (greatest_mark (merged_items ds))

pub merge_text_is : (ds : List Dump) → merge_open (headers_of ds) (merged_items ds) ++ merge_close (merged_items ds) ≡ merged_head (headers_of ds) ++ merge_text ds
unfolding merge_open merge_close merge_text
merge_text_is ds =
    let kept = merge_kept (merged_items ds) in
    append_assoc (merged_head (headers_of ds)) (text_after [] kept) (closing (map (λ x. x.time) kept) (greatest_mark (merged_items ds)))

pub merge_read : (ds : List Dump) → AllByRecursion (IsGoodDump (headers_of ds)) ds
    → IsRead (merged_codes (headers_of ds)) (merge_text ds) (parts_items [] [] (merge_kept (merged_items ds)) (greatest_mark (merged_items ds)))
unfolding merge_text
merge_read ds good =
    let hs = headers_of ds in
    let ks = merged_items ds in
    let kept = merge_kept ks in
    let parts : Parts (merged_codes hs) [] [] kept (greatest_mark ks) = subst
    (λ (l : List Keyed). Parts (merged_codes hs) [] [] (merge_kept l) (greatest_mark l)) (sym (merged_is ds)) (merge_parts ds good) in
    parts_read (merged_codes hs) [] [] kept (greatest_mark ks) (merge_text ds) parts refl

pub merge_keeps_text : (ds : List Dump) → AllByRecursion (IsGoodDump (headers_of ds)) ds → MergeKeepsValues ds (merge_text ds)
merge_keeps_text ds good =
    let is = merge_read ds good in
    record {
      whole = is.whole;
      values = λ earlier later d split c t in_list quiet.
          ap (λ (l : List BodyItem). value_at l (renamed_code (headers_of earlier) d.header c) (factor (headers_of ds) d.header * t)) is.items
          ∙ merge_values ds earlier later d c t good split in_list quiet;
    }

pub merge_keeps : MergeKeeps
merge_keeps limit inputs os opens none =
    let ds = dumps_of os in (merge_text ds, merge_text_is ds, merge_keeps_text ds (dumps_good os (inputs_good limit [] inputs os opens)))
