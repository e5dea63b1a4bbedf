-- How many scopes, variables, codes and changes there are in what a merge writes.
use Rattle.vcd_laws.proofs.Cited.{◌≡◌, ℕ, ◌+◌, Bool, true, false, cond, ◌&&◌, List, [], ◌∷◌, ◌++◌, length, map, filter, flat_map, count_by, sum_by, codes, Some, inl, inr, refl, sym, ap, ◌∙◌, subst, arith, AllByRecursion, length-append, length-map, sum_by-cons, sum_by-append, length-filter, bytes_eq-Decides, each_after, Declaration, IdCode, is_scope, variables_of, Header, BodyItem, Entry, entry_after, leaves_open, entries, may_keep, declared_code, renamed, code_place, first_number, Selected, selected, Dump, Keyed, key_lt, keyed_after, keyed_items, factor, scaled_item, insert_by_key, by_key, is_change, renamed_code, scopes_around, merged_changes, AreCodes, codes_differ, renamed_same, number_below, first_number_le, written}
use Rattle.vcd_laws.proofs.MergeLaw.{merges}
use Rattle.vcd_laws.proofs.WrittenCodes.{In, from_map, found_in}
use Rattle.vcd_laws.proofs.HeadBack.{marks, variables_are}
use Rattle.vcd_laws.proofs.MergedHead.{scope_name, input_rows, all_rows, merged_selected}
use Rattle.vcd_laws.proofs.MergedBack.{from_one}
use Rattle.vcd_laws.proofs.HeadCounts.{scopes_written, AreApart}

-- ---- scopes

scopes_in_input : (earlier : List Header) (h : Header)
    → count_by is_scope (input_rows earlier h) ≡ scopes_around [] h.declarations + 1
scopes_in_input earlier h =
    let own = written (renamed earlier h) (marks [] h.declarations) h.declarations in
    let f : Declaration → ℕ = λ d. cond (is_scope d) 1 0 in
    let a = sum_by-cons f (Declaration.Scope (codes "module") (scope_name earlier))
    (own ++ Declaration.Up ∷ []) in
    let b = sum_by-append f own (Declaration.Up ∷ []) in
    let c = sum_by-cons f Declaration.Up [] in
    let d = scopes_written (renamed earlier h) (marks [] h.declarations) h.declarations in
    omega arith

pub scopes_in_all : (earlier hs : List Header)
    → count_by is_scope (all_rows earlier hs) ≡ sum_by (λ h. scopes_around [] h.declarations + 1) hs
scopes_in_all earlier [] = refl
scopes_in_all earlier (h ∷ hs) =
    let a = sum_by-append (λ (d : Declaration). cond {A = ℕ} (is_scope d) 1 0)
    (input_rows earlier h) (all_rows (earlier ++ h ∷ []) hs) in
    let b = scopes_in_input earlier h in
    let c = scopes_in_all (earlier ++ h ∷ []) hs in
    let d = sum_by-cons (λ (x : Header). scopes_around [] x.declarations + 1) h hs in
    omega arith

-- ---- variables

pub variables_in_all : (earlier hs : List Header)
    → length (flat_map (λ vs. vs) (each_after merged_selected earlier hs))
    ≡ sum_by (λ h. length (variables_of h.declarations)) hs
variables_in_all earlier [] = refl
variables_in_all earlier (h ∷ hs) =
    let a = length-append (merged_selected earlier h)
    (flat_map (λ vs. vs) (each_after merged_selected (earlier ++ h ∷ []) hs)) in
    let b : length (merged_selected earlier h) ≡ length (selected [] h.declarations) =
    length-map (selected [] h.declarations) _ in
    let c : length (selected [] h.declarations) ≡ length (variables_of h.declarations) =
    sym (length-map (selected [] h.declarations) (λ (s : Selected). s.variable))
    ∙ ap length (variables_are h.declarations) in
    let d = variables_in_all (earlier ++ h ∷ []) hs in
    let e = sum_by-cons (λ (x : Header). length (variables_of x.declarations)) h hs in
    omega arith

-- ---- codes

abbrev codes_under : List Header → Header → List IdCode
codes_under earlier h = map (renamed_code earlier h) h.codes

abbrev codes_all : List Header → List Header → List IdCode
codes_all earlier hs = flat_map (λ cs. cs) (each_after codes_under earlier hs)

pub codes_in_all : (earlier hs : List Header)
    → length (codes_all earlier hs) ≡ sum_by (λ h. length h.codes) hs
codes_in_all earlier [] = refl
codes_in_all earlier (h ∷ hs) =
    let a = length-append (codes_under earlier h) (codes_all (earlier ++ h ∷ []) hs) in
    let b : length (codes_under earlier h) ≡ length h.codes = length-map h.codes _ in
    let c = codes_in_all (earlier ++ h ∷ []) hs in
    let d = sum_by-cons (λ (x : Header). length x.codes) h hs in
    omega arith

apart_map : {X Y : Type 0} (f : X → Y) (xs : List X) → AreApart xs
    → ((x y : X) → In x xs → In y xs → f x ≡ f y → x ≡ y) → AreApart (map f xs)
apart_map f [] a one = tt
apart_map f (x ∷ xs) a one = (
  λ i. let g = from_map f xs (f x) i in
      a.0 (subst (λ z. In z xs) (sym (one x g.0 (inl refl) (inr g.1) g.2)) g.1),
  apart_map f xs a.1 (λ y z i j. one y z (inr i) (inr j)),
)

apart_append : {X : Type 0} (xs ys : List X) → AreApart xs → AreApart ys
    → ((x : X) → In x xs → In x ys → ⊥) → AreApart (xs ++ ys)
apart_append [] ys a b never = b
apart_append (x ∷ xs) ys a b never = (
  λ i. by_part xs i (λ j. a.0 j) (λ j. never x (inl refl) j),
  apart_append xs ys a.1 b
      (λ y i. never y (inr i)),
)
  where
    by_part : (zs : List _) → In x (zs ++ ys) → (In x zs → ⊥) → (In x ys → ⊥) → ⊥
    by_part [] i f g = g i
    by_part (z ∷ zs) (inl e) f g = f (inl e)
    by_part (z ∷ zs) (inr i) f g = by_part zs i (λ j. f (inr j)) g

one_code : (earlier : List Header) (h : Header) → AreCodes h.codes → (c d : IdCode) → In c h.codes
    → In d h.codes → renamed_code earlier h c ≡ renamed_code earlier h d → c ≡ d
one_code earlier h are c d i j e =
    let a = found_in h.codes c are i in
    let b = found_in h.codes d are j in
    let same : renamed earlier h c.text ≡ renamed earlier h d.text =
    ap (λ (x : IdCode). x.text) e in
    let eq = (bytes_eq-Decides (renamed earlier h c.text) (renamed earlier h d.text)).1 same in
    let text : c.text ≡ d.text =
    (bytes_eq-Decides c.text d.text).0 (sym (renamed_same earlier h c.text d.text c d a b)
    ∙ eq) in
    let both : Some c ≡ Some d = sym a ∙ ap (declared_code h.codes) text ∙ b in
    cc

pub codes_all_apart : (earlier hs : List Header)
    → AllByRecursion (λ h. AreCodes h.codes × AreApart h.codes) hs → AreApart (codes_all earlier hs)
codes_all_apart earlier [] h = tt
codes_all_apart earlier (x ∷ hs) h =
    apart_append (codes_under earlier x) (codes_all (earlier ++ x ∷ []) hs)
    (apart_map (renamed_code earlier x) x.codes h.0.1 (one_code earlier x h.0.0))
    (codes_all_apart (earlier ++ x ∷ []) hs h.1)
    (λ c i j.
    let old = from_map (renamed_code earlier x) x.codes c i in
    let new = from_one hs (earlier ++ x ∷ []) c j in
    let low = number_below earlier x old.0.text old.0 (found_in x.codes old.0 h.0.0 old.1) in
    let high = first_number_le (earlier ++ x ∷ []) new.front in
    let same = ap (λ (d : IdCode). d.text) (sym old.2 ∙ new.new) in
    let n = codes_differ (first_number earlier + code_place x old.0.text)
    (first_number (earlier ++ x ∷ [] ++ new.front) + code_place new.h new.old.text) same in
    absurd (omega arith))

-- ---- changes

count_insert : (test : Keyed → Bool) (x : Keyed) (ys : List Keyed)
    → count_by test (insert_by_key x ys) ≡ cond (test x) 1 0 + count_by test ys
count_insert test x [] = sum_by-cons (λ k. cond (test k) 1 0) x []
count_insert test x (y ∷ ys) = by_test (key_lt x.key y.key) (count_insert test x ys)
  where
    f : Keyed → ℕ
    f k = cond (test k) 1 0

    by_test : (b : Bool) → count_by test (insert_by_key x ys) ≡ cond (test x) 1 0 + count_by test ys
        → count_by test (cond b (x ∷ y ∷ ys) (y ∷ insert_by_key x ys))
        ≡ cond (test x) 1 0 + count_by test (y ∷ ys)
    by_test true more = sum_by-cons (λ k. cond (test k) 1 0) x (y ∷ ys)
    by_test false more =
        let a = sum_by-cons (λ (k : Keyed). cond {A = ℕ} (test k) 1 0) y (insert_by_key x ys) in
        let b = sum_by-cons (λ (k : Keyed). cond {A = ℕ} (test k) 1 0) y ys in
        let m = more in
        omega arith

count_by_key : (test : Keyed → Bool) (xs : List Keyed)
    → count_by test (by_key xs) ≡ count_by test xs
count_by_key test [] = refl
count_by_key test (x ∷ xs) =
    let a = count_insert test x (by_key xs) in
    let b = count_by_key test xs in
    let c = sum_by-cons (λ (k : Keyed). cond {A = ℕ} (test k) 1 0) x xs in
    omega arith

-- an entry of a merge that is kept
abbrev is_kept : Keyed → Bool
is_kept k = merges k.entry

same_kept : (scale : ℕ) (rename : List ℕ → List ℕ) (inside : Bool) (x : BodyItem)
    → (is_change (scaled_item scale rename x) && may_keep (scaled_item scale rename x) inside)
    ≡ (is_change x && may_keep x inside)
same_kept scale rename inside (BodyItem.Time t) = refl
same_kept scale rename inside (BodyItem.Begin s) = refl
same_kept scale rename inside BodyItem.End = refl
same_kept scale rename inside (BodyItem.Changes c) = refl

count_own : (scale input : ℕ) (rename : List ℕ → List ℕ) (before items : List BodyItem)
    → count_by is_kept (each_after (keyed_after scale input rename) before items)
    ≡ count_by merges (each_after entry_after before items)
count_own scale input rename before [] = refl
count_own scale input rename before (x ∷ items) =
    let a = sum_by-cons (λ (k : Keyed). cond {A = ℕ} (is_kept k) 1 0)
    (keyed_after scale input rename before x)
    (each_after (keyed_after scale input rename) (before ++ x ∷ []) items) in
    let b = sum_by-cons (λ (e : Entry). cond {A = ℕ} (merges e) 1 0) (entry_after before x)
    (each_after entry_after (before ++ x ∷ []) items) in
    let c = ap (λ t. cond {A = ℕ} t 1 0) (same_kept scale rename (leaves_open before) x) in
    let d = count_own scale input rename (before ++ x ∷ []) items in
    omega arith

count_all : (hs : List Header) (earlier ds : List Dump)
    → count_by is_kept (flat_map (λ ks. ks) (each_after (keyed_items hs) earlier ds))
    ≡ sum_by merged_changes ds
count_all hs earlier [] = refl
count_all hs earlier (d ∷ ds) =
    let a = sum_by-append (λ (k : Keyed). cond {A = ℕ} (is_kept k) 1 0) (keyed_items hs earlier d)
    (flat_map (λ ks. ks) (each_after (keyed_items hs) (earlier ++ d ∷ []) ds)) in
    let b = count_own (factor hs d.header) (length earlier)
    (renamed (map (λ (e : Dump). e.header) earlier) d.header) [] d.items in
    let c : length (filter merges (entries d.items)) ≡ count_by merges (entries d.items) =
    length-filter merges (entries d.items) in
    let e = count_all hs (earlier ++ d ∷ []) ds in
    let f = sum_by-cons merged_changes d ds in
    omega arith

count_entries : (ks : List Keyed) → count_by merges (map (λ k. k.entry) ks) ≡ count_by is_kept ks
count_entries [] = refl
count_entries (k ∷ ks) =
    let a = sum_by-cons (λ (e : Entry). cond {A = ℕ} (merges e) 1 0) k.entry
    (map (λ (x : Keyed). x.entry) ks) in
    let b = sum_by-cons (λ (x : Keyed). cond {A = ℕ} (is_kept x) 1 0) k ks in
    let c = count_entries ks in
    omega arith

-- as many changes are written as are kept of all inputs
pub changes_merged : (hs : List Header) (ds : List Dump)
    → length (filter merges (map (λ k. k.entry)
    (by_key (flat_map (λ ks. ks) (each_after (keyed_items hs) [] ds))))) ≡ sum_by merged_changes ds
changes_merged hs ds =
    let ks = flat_map (λ xs. xs) (each_after (keyed_items hs) [] ds) in
    length-filter merges (map (λ (k : Keyed). k.entry) (by_key ks))
    ∙ count_entries (by_key ks)
    ∙ count_by_key is_kept ks
    ∙ count_all hs [] ds
