-- The dumps of a merge are good, and the changes that it keeps.
use Rattle.vcd_laws.proofs.Cited.{◌≡◌, ℕ, Bool, true, false, List, [], ◌∷◌, ◌++◌, map, take, drop, filter, Some, Contains, refl, sym, ap, ◌∙◌, subst, one-add, AllByRecursion, before_first, position_or_len, map-append, take-append-drop, filter_map-append, IdCode, Header, entries, BodyPhrase, item_of, items_of, declared_code, Comment, Gives, Placed, phrases_of, gives_to, renamed, Dump, key_lt, factor, headers_of, is_too_large, placed_is_too_large, by_key, merge_kept, items_before, Opened, body_of, fault_in, renamed_code, merged_entry, changes_kept, MergeKeepsChanges, MergeKeepsChangesBefore, AreFit, fit_front, all_back, IsGoodInput, inputs_good, at_contained, IsGoodDump, all_keyed, changes_where, changes_all}
use Rattle.vcd_model.specs.Merge.{dump_of, merged_items}
use Rattle.vcd_model.specs.Outcome.{dumps_of}
use Rattle.vcd_laws.proofs.OpenedBodies.{opened_fit}

small_placed : (scale : ℕ) (ps : List (Placed BodyPhrase)) → AllByRecursion (λ p. placed_is_too_large scale p ≡ false) (before_first (placed_is_too_large scale) ps)
small_placed scale [] = tt
small_placed scale (p ∷ ps) = by_test (placed_is_too_large scale p) refl (small_placed scale ps)
  where
    by_test : (b : Bool) → placed_is_too_large scale p ≡ b → AllByRecursion (λ q. placed_is_too_large scale q ≡ false)
        (before_first (placed_is_too_large scale) ps) → AllByRecursion (λ q. placed_is_too_large scale q ≡ false)
        (before_first (placed_is_too_large scale) (p ∷ ps))
    by_test true e more = rw e tt
    by_test false e more = rw (e, one-add) (e, more)

small_items : (scale : ℕ) (ps : List (Placed BodyPhrase)) → AllByRecursion (λ p. placed_is_too_large scale p ≡ false) ps
    → AllByRecursion (λ item. is_too_large scale item ≡ false) (items_of (phrases_of ps))
small_items scale [] h = tt
small_items scale (p ∷ ps) h = by_phrase p.phrase p.line h.0 (small_items scale ps h.1)
  where
    by_phrase : (q : BodyPhrase) (line : ℕ) → placed_is_too_large scale (record { phrase = q; line = line }) ≡ false
        → AllByRecursion (λ item. is_too_large scale item ≡ false) (items_of (phrases_of ps))
        → AllByRecursion (λ item. is_too_large scale item ≡ false) (items_of (q ∷ phrases_of ps))
    by_phrase (Comment inner) line e more = more
    by_phrase (Gives x) line e more = (e, more)

prefix_fit : (codes : List IdCode) (n : ℕ) (ps : List (Placed BodyPhrase)) → AreFit codes 0 false (items_of (phrases_of ps)) → AreFit codes 0 false (items_of (phrases_of (take n ps)))
prefix_fit codes n ps fit =
    fit_front codes 0 false (items_of (phrases_of (take n ps))) (items_of (phrases_of (drop n ps)))
    (subst (AreFit codes 0 false)
    (ap (λ (l : List (Placed BodyPhrase)). items_of (phrases_of l)) (sym (take-append-drop n ps))
    ∙ ap items_of (map-append (λ (p : Placed BodyPhrase). p.phrase) (take n ps) (drop n ps))
    ∙ filter_map-append item_of (phrases_of (take n ps)) (phrases_of (drop n ps)))
    fit)

dump_good : (hs : List Header) (o : Opened) → IsGoodInput o → IsGoodDump hs (dump_of (factor hs o.header) o.header (fault_in o) (body_of o))
unfolding dump_of
dump_good hs o good = record {
  codes = good.codes;
  fit = prefix_fit o.header.codes (position_or_len (placed_is_too_large (factor hs o.header)) (body_of o).placed) (body_of o).placed (opened_fit o good);
  small = small_items (factor hs o.header) (before_first (placed_is_too_large (factor hs o.header)) (body_of o).placed) (small_placed (factor hs o.header) (body_of o).placed);
}

dumps_good_under : (hs : List Header) (os : List Opened) → AllByRecursion IsGoodInput os
    → AllByRecursion (IsGoodDump hs) (map (λ o. dump_of (factor hs o.header) o.header (fault_in o) (body_of o)) os)
dumps_good_under hs [] h = tt
dumps_good_under hs (o ∷ os) h = (dump_good hs o h.0, dumps_good_under hs os h.1)

headers_under : (hs : List Header) (os : List Opened) → headers_of (map (λ o. dump_of (factor hs o.header) o.header (fault_in o) (body_of o)) os) ≡ map (λ o. o.header) os
unfolding dump_of
headers_under hs [] = refl
headers_under hs (o ∷ os) = ap (λ l. o.header ∷ l) (headers_under hs os)

pub dumps_good : (os : List Opened) → AllByRecursion IsGoodInput os → AllByRecursion (IsGoodDump (headers_of (dumps_of os))) (dumps_of os)
unfolding dumps_of
dumps_good os h =
    let hs = map (λ (o : Opened). o.header) os in
    subst (λ (l : List Header). AllByRecursion (IsGoodDump l) (map (λ o. dump_of (factor hs o.header) o.header (fault_in o) (body_of o)) os)) (sym (headers_under hs os)) (dumps_good_under hs os h)

pub headers_are : (os : List Opened) → headers_of (dumps_of os) ≡ map (λ o. o.header) os
unfolding dumps_of
headers_are os = headers_under (map (λ (o : Opened). o.header) os) os

pub merged_is : (ds : List Dump) → merged_items ds ≡ by_key (all_keyed (headers_of ds) ds)
unfolding merged_items
merged_is ds = refl

-- ---- the laws

pub declared_of : (hs : List Header) (earlier later ds : List Dump) (d : Dump) (c : IdCode) → AllByRecursion (IsGoodDump hs) ds
    → ds ≡ earlier ++ d ∷ later → Contains d.header.codes c → declared_code d.header.codes c.text ≡ Some c
declared_of hs earlier later ds d c good e in_list =
    let g = (all_back (IsGoodDump hs) earlier (d ∷ later) (subst (AllByRecursion (IsGoodDump hs)) e good)).0 in
    let are = g.codes in
    at_contained (λ (x : IdCode). declared_code d.header.codes x.text ≡ Some x) d.header.codes c are.found in_list

pub kept_all : (ds earlier later : List Dump) (d : Dump) (c : IdCode) → AllByRecursion (IsGoodDump (headers_of ds)) ds → ds ≡ earlier ++ d ∷ later → Contains d.header.codes c
    → filter (λ e. gives_to (renamed_code (headers_of earlier) d.header c) e.item) (merge_kept (merged_items ds)) ≡ map
    (merged_entry (factor (headers_of ds) d.header) (renamed (headers_of earlier) d.header)) (changes_kept c (entries d.items))
kept_all ds earlier later d c good e in_list =
    ap (λ l. filter (λ x. gives_to (renamed_code (headers_of earlier) d.header c) x.item) (merge_kept l)) (merged_is ds ∙ ap (λ (l : List Dump). by_key (all_keyed (headers_of ds) l)) e)
    ∙ changes_all (headers_of ds) earlier later d c (subst (AllByRecursion (IsGoodDump (headers_of ds))) e good) (declared_of (headers_of ds) earlier later ds d c good e in_list)

pub merge_keeps_changes : MergeKeepsChanges
merge_keeps_changes limit inputs os opens earlier later d e c in_list = kept_all (dumps_of os) earlier later d c (dumps_good os (inputs_good limit [] inputs os opens)) e in_list

pub merge_keeps_changes_before : MergeKeepsChangesBefore
merge_keeps_changes_before limit inputs os opens f earlier later d e c in_list =
    let good = dumps_good os (inputs_good limit [] inputs os opens) in
    let hs = headers_of (dumps_of os) in
    ap (λ l. filter (λ x. gives_to (renamed_code (headers_of earlier) d.header c) x.item) (merge_kept (items_before f l))) (merged_is (dumps_of os)
    ∙ ap (λ (l : List Dump). by_key (all_keyed hs l)) e)
    ∙ changes_where hs earlier later d c (λ k. key_lt k f.key) (subst (AllByRecursion (IsGoodDump hs)) e good) (declared_of hs earlier later (dumps_of os) d c good e in_list)
