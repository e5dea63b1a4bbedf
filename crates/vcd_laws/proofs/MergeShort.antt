-- What `merge` writes has tokens no longer than the token limit.
use Rattle.vcd_laws.proofs.Cited.{◌≡◌, ℕ, zero, suc, ◌+◌, ◌/◌, ◌%◌, ◌<◌, ◌≤◌, ◌^◌, Bool, true, false, cond, nat_lt, List, [], ◌∷◌, ◌++◌, length, map, take, drop, filter_map, flat_map, sum_by, decimal, codes, bytes_eq, Option, Some, None, refl, sym, ap, ◌∙◌, subst, arith, AllByRecursion, list_any, position_or_len, cons_option, append_assoc, map-append, length-append, length_push, take-append-drop, filter_map-append, sum_by-cons, sum_by-append, lt-ltb, each_after, Input, first_halt, Declaration, Variable, IdCode, variable_of, variables_of, code_of, has_text, Header, BodyItem, Entry, text_after, closing, BodyPhrase, declared_code, items_of, item_of, Placed, phrases_of, base94, code_place, first_number, renamed, merged_head, Dump, Keyed, keyed_after, keyed_items, scaled_item, factor, headers_of, placed_is_too_large, by_key, merged_items, merge_kept, greatest_mark, Outcome, Opened, body_of, fault_in, declarations_allowed, Want, over_opened, merged_codes, OpenAll, most_declared, input_of, AreReadable, texts_from, item_tokens, lines_words, written_items, parts_items, parts_fit, parts_text, closing_items, all_front, all_append, IsGoodInput, inputs_good, filter_words, all_keyed, all_by_key, has_none, written}
use Rattle.vcd_model.specs.Declarations.{codes_of}
use Rattle.vcd_model.specs.HeadText.{new_code}
use Rattle.vcd_model.specs.Merge.{dump_of, merge_open, merge_close}
use Rattle.vcd_model.specs.Outcome.{dumps_of}
use Rattle.vcd_model.specs.Job.{outcome}
use Rattle.vcd_laws.proofs.MergeDumps.{headers_are, merged_is, dumps_good}
use Rattle.vcd_laws.proofs.MergeLaw.{merges, merge_parts}
use Rattle.vcd_laws.proofs.RunLaws.{merge_case, same_status}
use Rattle.vcd_laws.proofs.WrittenCodes.{from_find}
use Rattle.vcd_laws.proofs.HeadBack.{marks}
use Rattle.vcd_laws.proofs.MergedHead.{CanMerge, input_rows, all_rows, all_more}
use Rattle.vcd_laws.proofs.MergedBack.{many, scaled, scaled_parts, merged_is_head, all_can, from_one}
use Rattle.vcd_laws.proofs.ShortTokens.{AllShort, not_halted}
use Rattle.vcd_laws.proofs.ShortHeads.{ShortDeclaration, IsShortHeader, IsShortInput, inputs_short, written_short, number_short, head_short}
use Rattle.vcd_laws.proofs.ShortBodies.{ShortItem, written_tokens_short, closing_short, tokens-append, short_items}

-- ---- new codes are short

one_digit : (room n : ℕ) → n < 94 → length (base94 room n) ≤ 1
one_digit zero n h = omega arith
one_digit (suc room) n h = rw (lt-ltb n 94 h) (omega arith)

-- a digit more
more_digits : (m k : ℕ) → ((room n : ℕ) → n < m → length (base94 room n) ≤ k) → (room n : ℕ)
    → n / 94 < m → length (base94 room n) ≤ k + 1
more_digits m k h zero n l = omega arith
more_digits m k h (suc room) n l = by_test (nat_lt n 94) (h room (n / 94) l)
  where
    by_test : (b : Bool) → length (base94 room (n / 94)) ≤ k
        → length ((33 + n % 94) ∷ elim b [ true ↦ [] | false ↦ base94 room (n / 94) ]) ≤ k + 1
    by_test true g = omega arith
    by_test false g = omega arith

two_digits : (room n : ℕ) → n < 8836 → length (base94 room n) ≤ 2
two_digits room n h = more_digits 94 1 one_digit room n (omega arith)

three_digits : (room n : ℕ) → n < 830584 → length (base94 room n) ≤ 3
three_digits room n h = more_digits 8836 2 two_digits room n (omega arith)

four_digits : (n : ℕ) → n < 78074896 → length (new_code n) ≤ 4
unfolding new_code
four_digits n h = more_digits 830584 3 three_digits (suc n) n (omega arith)

place_most : (test : IdCode → Bool) (cs : List IdCode) → position_or_len test cs ≤ length cs
place_most test [] = omega arith
place_most test (c ∷ cs) = by_test (test c) refl (place_most test cs)
  where
    by_test : (b : Bool) → test c ≡ b → position_or_len test cs ≤ length cs
        → position_or_len test (c ∷ cs) ≤ length (c ∷ cs)
    by_test true e h = rw e (omega arith)
    by_test false e h = rw e (omega arith)

some_few : {X Y : Type 0} (f : X → Option Y) (xs : List X) → length (filter_map f xs) ≤ length xs
some_few f [] = omega arith
some_few f (x ∷ xs) = by_option (f x) (some_few f xs)
  where
    by_option : (o : Option _) → length (filter_map f xs) ≤ length xs
        → length (cons_option o (filter_map f xs)) ≤ length (x ∷ xs)
    by_option None h = omega arith
    by_option (Some y) h = omega arith

length_each : {X Y : Type 0} (f : List X → X → Y) (earlier xs : List X)
    → length (each_after f earlier xs) ≡ length xs
length_each f earlier [] = refl
length_each f earlier (x ∷ xs) = ap suc (length_each f (earlier ++ x ∷ []) xs)

codes_few : (ds : List Declaration) → length (codes_of ds) ≤ length ds
unfolding codes_of
codes_few ds =
    let vs = variables_of ds in
    let f : List Variable → Variable → Option IdCode =
    λ earlier v. cond (list_any (λ u. bytes_eq u.code v.code) earlier) None
    (Some (code_of v)) in
    let a = some_few variable_of ds in
    let b = some_few (λ (o : Option IdCode). o) (each_after f [] vs) in
    let c = length_each f [] vs in
    omega arith

numbers_few : (hs : List Header) → AllByRecursion CanMerge hs
    → first_number hs ≤ sum_by (λ h. most_declared h + 2) hs
numbers_few [] can = omega arith
numbers_few (h ∷ hs) can =
    let c = can.0 in
    let g = c.good in
    let more = numbers_few hs can.1 in
    let few = codes_few h.declarations in
    let same = ap length g.codes in
    let s = sum_by-cons (λ (x : Header). length x.codes) h hs in
    let t = sum_by-cons (λ (x : Header). most_declared x + 2) h hs in
    omega arith

renamed_short : (earlier hs : List Header) (h : Header) (code : List ℕ)
    → first_number (earlier ++ h ∷ hs) ≤ 16777216 → length (renamed earlier h code) ≤ 4
renamed_short earlier hs h code few =
    let a = sum_by-append (λ (x : Header). length x.codes) earlier (h ∷ hs) in
    let b = sum_by-cons (λ (x : Header). length x.codes) h hs in
    let c = place_most (has_text code) h.codes in
    four_digits (first_number earlier + code_place h code) (omega arith)

-- ---- the head

module _ (limit : ℕ) (least : 64 ≤ limit) where
  input_short : (earlier hs : List Header) (h : Header) → IsShortHeader limit h
      → first_number (earlier ++ h ∷ hs) ≤ 16777216 → length earlier + 1 < 2 ^ 64
      → AllByRecursion (ShortDeclaration limit) (input_rows earlier h)
  input_short earlier hs h s few small =
      let own = written (renamed earlier h) (marks [] h.declarations) h.declarations in
      let n = number_short limit least (length earlier + 1) small in
      let l = length-append (codes "in") (decimal (length earlier + 1)) in (
        ((omega arith), (omega arith)),
        all_append (ShortDeclaration limit) own (Declaration.Up ∷ [])
            (written_short (renamed earlier h) (marks [] h.declarations) limit
            (λ code k. let r = renamed_short earlier hs h code few in omega arith) h.declarations
            s.declared) (tt, tt),
      )

  rows_short : (hs earlier : List Header) → AllByRecursion (IsShortHeader limit) hs
      → first_number (earlier ++ hs) ≤ 16777216 → length earlier + length hs < 2 ^ 63
      → AllByRecursion (ShortDeclaration limit) (all_rows earlier hs)
  rows_short [] earlier s few small = tt
  rows_short (h ∷ hs) earlier s few small =
      let n = length_push earlier h in
      all_append (ShortDeclaration limit) (input_rows earlier h) (all_rows (earlier ++ h ∷ []) hs)
      (input_short earlier hs h s.0 few (omega arith))
      (rows_short hs (earlier ++ h ∷ []) s.1 (subst (λ (l : List Header). first_number l ≤ 16777216)
      (sym (append_assoc earlier (h ∷ []) hs)) few) (omega arith))

  merged_head_short : (hs : List Header) (text : List ℕ) → AllByRecursion CanMerge hs
      → AllByRecursion (IsShortHeader limit) hs
      → sum_by (λ h. most_declared h + 2) hs ≤ declarations_allowed
      → AllShort limit (texts_from true text)
      → AllShort limit (texts_from true (merged_head hs ++ text))
  merged_head_short hs text can s few behind =
      let n = many hs in
      let m = numbers_few hs can in
      let more = all_more hs [] [] can (record { opens = has_none; numbered = tt }) (omega arith) in
      subst (λ (l : List ℕ). AllShort limit (texts_from true (l ++ text)))
      (sym (merged_is_head hs can))
      (head_short limit least (scaled hs) (scaled_parts hs can) (all_rows [] hs) text more.declared
      ([], refl, tt, tt) ([], refl, tt, tt) (rows_short hs [] s (omega arith) (omega arith))
      behind)

  -- ---- the items

  prefix_short : (n : ℕ) (ps : List (Placed BodyPhrase))
      → AllByRecursion (ShortItem limit) (items_of (phrases_of ps))
      → AllByRecursion (ShortItem limit) (items_of (phrases_of (take n ps)))
  prefix_short n ps s =
      all_front (ShortItem limit) (items_of (phrases_of (take n ps)))
      (items_of (phrases_of (drop n ps)))
      (subst (AllByRecursion (ShortItem limit))
      (ap (λ (l : List (Placed BodyPhrase)). items_of (phrases_of l)) (sym (take-append-drop n ps))
      ∙ ap items_of (map-append (λ (p : Placed BodyPhrase). p.phrase) (take n ps) (drop n ps))
      ∙ filter_map-append item_of (phrases_of (take n ps)) (phrases_of (drop n ps)))
      s)

  dump_short : (hs : List Header) (o : Opened) → IsShortInput limit o
      → AllByRecursion (ShortItem limit) (dump_of (factor hs o.header) o.header (fault_in o)
      (body_of o)).items
  unfolding dump_of
  dump_short hs o s = prefix_short (position_or_len (placed_is_too_large (factor hs o.header))
      (body_of o).placed) (body_of o).placed (short_items limit o least s)

  dumps_under : (hs : List Header) (os : List Opened) → AllByRecursion (IsShortInput limit) os
      → AllByRecursion (λ (d : Dump). AllByRecursion (ShortItem limit) d.items)
      (map (λ o. dump_of (factor hs o.header) o.header (fault_in o) (body_of o)) os)
  dumps_under hs [] s = tt
  dumps_under hs (o ∷ os) s = (dump_short hs o s.0, dumps_under hs os s.1)

  dumps_short : (os : List Opened) → AllByRecursion (IsShortInput limit) os
      → AllByRecursion (λ (d : Dump). AllByRecursion (ShortItem limit) d.items) (dumps_of os)
  unfolding dumps_of
  dumps_short os s = dumps_under (map (λ (o : Opened). o.header) os) os s

  scaled_short : (scale : ℕ) (rename : List ℕ → List ℕ) (item : BodyItem) → ShortItem limit item
      → ShortItem limit (scaled_item scale rename item)
  scaled_short scale rename (BodyItem.Time t) s = tt
  scaled_short scale rename (BodyItem.Begin k) s = tt
  scaled_short scale rename BodyItem.End s = tt
  scaled_short scale rename (BodyItem.Changes c) s = s

  keyed_short : (scale input : ℕ) (rename : List ℕ → List ℕ) (items before : List BodyItem)
      → AllByRecursion (ShortItem limit) items
      → AllByRecursion (λ (k : Keyed). ShortItem limit k.entry.item)
      (each_after (keyed_after scale input rename) before items)
  keyed_short scale input rename [] before s = tt
  keyed_short scale input rename (x ∷ items) before s =
      (scaled_short scale rename x s.0, keyed_short scale input rename items (before ++ x ∷ []) s.1)

  all_keyed_short : (hs : List Header) (ds earlier : List Dump)
      → AllByRecursion (λ (d : Dump). AllByRecursion (ShortItem limit) d.items) ds
      → AllByRecursion (λ (k : Keyed). ShortItem limit k.entry.item)
      (flat_map (λ ks. ks) (each_after (keyed_items hs) earlier ds))
  all_keyed_short hs [] earlier s = tt
  all_keyed_short hs (d ∷ ds) earlier s =
      all_append (λ (k : Keyed). ShortItem limit k.entry.item) (keyed_items hs earlier d)
      (flat_map (λ ks. ks) (each_after (keyed_items hs) (earlier ++ d ∷ []) ds))
      (keyed_short (factor hs d.header) (length earlier)
      (renamed (map (λ (e : Dump). e.header) earlier) d.header) d.items [] s.0)
      (all_keyed_short hs ds (earlier ++ d ∷ []) s.1)

  entries_of : (ks : List Keyed) → AllByRecursion (λ (k : Keyed). ShortItem limit k.entry.item) ks
      → AllByRecursion (λ (e : Entry). ShortItem limit e.item) (map (λ k. k.entry) ks)
  entries_of [] s = tt
  entries_of (k ∷ ks) s = (s.0, entries_of ks s.1)

  merged_codes_short : (hs : List Header) → first_number hs ≤ 16777216 → (c : IdCode)
      → declared_code (merged_codes hs) c.text ≡ Some c → length c.text < limit
  merged_codes_short hs few c e =
      let f = from_one hs [] c (from_find (has_text c.text) (merged_codes hs) c e).0 in
      let r = renamed_short f.front f.later f.h f.old.text
      (subst (λ (l : List Header). first_number l ≤ 16777216) f.parts few) in
      let same = ap (λ (d : IdCode). length d.text) f.new in
      omega arith

  body_tokens_short : (os : List Opened) → AllByRecursion IsGoodInput os
      → AllByRecursion (IsShortInput limit) os → first_number (headers_of (dumps_of os)) ≤ 16777216
      → AllShort limit (texts_from true (text_after [] (merge_kept (merged_items (dumps_of os)))
      ++ closing (map (λ x. x.time) (merge_kept (merged_items (dumps_of os))))
      (greatest_mark (merged_items (dumps_of os)))))
  body_tokens_short os good s few =
      let ds = dumps_of os in
      let hs = headers_of ds in
      let new = merged_codes hs in
      let ks = by_key (all_keyed hs ds) in
      let kept = merge_kept ks in
      let mark = greatest_mark ks in
      let w = map (λ (e : Entry). e.time) kept in
      let parts = merge_parts ds (dumps_good os good) in
      let tokens = lines_words new 0 false (parts_items [] [] kept mark)
      (parts_fit new [] [] kept mark parts) in
      let keyed = all_by_key (λ (k : Keyed). ShortItem limit k.entry.item) (all_keyed hs ds)
      (all_keyed_short hs ds [] (dumps_short os s)) in
      let entries : AllByRecursion (λ (e : Entry). ShortItem limit e.item) kept =
      filter_words (λ (e : Entry). ShortItem limit e.item) merges
      (map (λ (k : Keyed). k.entry) ks) (entries_of ks keyed) in
      subst (λ (l : List Keyed). AllShort limit
      (texts_from true (text_after [] (merge_kept l)
      ++ closing (map (λ x. x.time) (merge_kept l)) (greatest_mark l)))) (sym (merged_is ds))
      (subst (λ (l : List ℕ). AllShort limit (texts_from true l))
      (sym (parts_text new [] [] kept mark parts))
      (subst (AllShort limit) (sym (tokens
      ∙ tokens-append new limit least (written_items [] kept) (closing_items w mark)))
      (all_append (λ t. length t ≤ limit) (flat_map item_tokens (written_items [] kept))
      (flat_map item_tokens (closing_items w mark))
      (written_tokens_short new limit least 0 false [] kept parts.writable entries
      (merged_codes_short hs few))
      (closing_short new limit least w mark (λ e m. (parts.last e m).1)))))

-- ---- what is written

short_headers : (limit : ℕ) (os : List Opened) → AllByRecursion (IsShortInput limit) os
    → AllByRecursion (IsShortHeader limit) (map (λ o. o.header) os)
short_headers limit [] s = tt
short_headers limit (o ∷ os) s = let h = s.0 in (h.header, short_headers limit os s.1)

pub merge_run : (limit : ℕ) (names : List (List ℕ)) (inputs : List Input) (os : List Opened)
    → OpenAll limit inputs os
    → outcome Want.Merge limit names inputs ≡ over_opened Want.Merge names os
unfolding outcome
merge_run limit names inputs os opens = rw (opens, outcome) refl

-- nothing halts the reading of what `merge` wrote
pub merge_is_not_halted : (limit : ℕ) (names : List (List ℕ)) (inputs : List Input)
    (os : List Opened)
    → AreReadable limit names inputs os
    → first_halt limit (input_of (outcome Want.Merge limit names inputs).output) ≡ None
unfolding merge_open merge_close
merge_is_not_halted limit names inputs os can =
    let opens = can.opens in
    let least = can.least in
    let few = can.few in
    let ds = dumps_of os in
    let hs = headers_of ds in
    let ks = merged_items ds in
    let kept = merge_kept ks in
    let text : List ℕ = text_after [] kept ++ closing (map (λ x. x.time) kept) (greatest_mark ks) in
    let done = outcome Want.Merge limit names inputs in
    let other = over_opened Want.Merge names os in
    let run : done ≡ other = merge_run limit names inputs os opens in
    let clean = merge_case names os (same_status done other run can.clean) in
    let whole : done.output ≡ merged_head hs ++ text = ap (λ (d : Outcome). d.output) run ∙ clean.1
    ∙ append_assoc (merged_head hs) (text_after [] kept)
    (closing (map (λ x. x.time) kept) (greatest_mark ks)) in
    let good = inputs_good limit [] inputs os opens in
    let short = inputs_short limit [] inputs os opens in
    let all = all_can limit inputs os opens can.shallow in
    let n = numbers_few hs all in
    let headers : AllByRecursion (IsShortHeader limit) hs =
    subst (AllByRecursion (IsShortHeader limit)) (sym (headers_are os))
    (short_headers limit os short) in
    not_halted limit done.output can.bytes
    (subst (λ (l : List ℕ). AllShort limit (texts_from true l)) (sym whole)
    (merged_head_short limit least hs text all headers few
    (body_tokens_short limit least os good short (omega arith))))
