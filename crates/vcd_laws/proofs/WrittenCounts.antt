-- How many timestamps, sections and changes there are in what is written, and its last timestamp.
use Rattle.vcd_laws.proofs.Cited.{◌≡◌, ℕ, ◌+◌, ◌≤◌, ◌==◌, Bool, true, false, cond, not, List, [], ◌∷◌, ◌++◌, length, map, filter_map, count_by, Option, Some, None, refl, sym, ap, ◌∙◌, subst, arith, list_any, last_or, append_assoc, append-nil, length-append, sum_by-cons, sum_by-append, each_after, IdCode, BodyItem, Entry, is_begin, change_of, last_mark, is_change, as_list, distinct, changes_in, marks-append, next_open, time_behind, read_item, time_items, written_items, IsWritable, AreWritable, last_time, Stand, stand_more, at_most, Parts, parts_items, closing_items}
use Rattle.vcd_model.specs.Items.{marks}

-- a closing timestamp, and the items before it
abbrev rest_items : List ℕ → List Entry → Option ℕ → List BodyItem
rest_items w es mark = written_items w es ++ closing_items (w ++ map (λ e. e.time) es) mark

rest_more : (w : List ℕ) (e : Entry) (es : List Entry) (mark : Option ℕ)
    → rest_items w (e ∷ es) mark ≡ time_items w e.time ++ (read_item e.item ∷ [])
    ++ rest_items (w ++ e.time ∷ []) es mark
rest_more w e es mark =
    append_assoc (time_items w e.time) (read_item e.item ∷ written_items (w ++ e.time ∷ []) es)
    (closing_items (w ++ e.time ∷ map (λ (x : Entry). x.time) es) mark)
    ∙ ap (λ l. time_items w e.time ++ ((read_item e.item ∷ [])
    ++ (written_items (w ++ e.time ∷ []) es ++ closing_items l mark)))
    (sym (append_assoc w (e.time ∷ []) (map (λ (x : Entry). x.time) es)))
    ∙ sym (append_assoc (time_items w e.time) (read_item e.item ∷ [])
    (rest_items (w ++ e.time ∷ []) es mark))

-- ---- timestamps

-- whether a time is the first of its kind
abbrev is_first : List ℕ → ℕ → Bool
is_first earlier t = not (list_any (λ u. u == t) earlier)

abbrev firsts : List ℕ → List ℕ → ℕ
firsts w ts = count_by (λ b. b) (each_after is_first w ts)

marks_in_time : (w : List ℕ) (t : ℕ) → length (marks (time_items w t)) ≡ cond (is_first w t) 1 0
marks_in_time w t = by_any (list_any (λ u. u == t) w)
  where
    by_any : (b : Bool) → length (marks (cond b [] (BodyItem.Time t ∷ []))) ≡ cond (not b) 1 0
    by_any true = refl
    by_any false = refl

no_mark : (codes : List IdCode) (o : Bool) (x : BodyItem) → IsWritable codes o x
    → marks (read_item x ∷ []) ≡ []
no_mark codes o (BodyItem.Time u) h = absurd h
no_mark codes o (BodyItem.Begin s) h = refl
no_mark codes o BodyItem.End h = refl
no_mark codes o (BodyItem.Changes c) h = refl

closing_marks : (w : List ℕ) (mark : Option ℕ)
    → length (marks (closing_items w mark)) ≡ firsts w (as_list mark)
closing_marks w None = refl
closing_marks w (Some t) = marks_in_time w t
    ∙ sym (sum_by-cons (λ b. cond b 1 0) (is_first w t) [] ∙ omega arith)

marks_are : (codes : List IdCode) (t : ℕ) (o : Bool) (w : List ℕ) (es : List Entry)
    (mark : Option ℕ) → AreWritable codes t o es
    → length (marks (rest_items w es mark)) ≡ firsts w (map (λ e. e.time) es ++ as_list mark)
marks_are codes t o w [] mark h = ap (λ l. length (marks (closing_items l mark))) (append-nil w)
    ∙ closing_marks w mark
marks_are codes t o w (e ∷ es) mark h =
    let more = marks_are codes e.time (next_open o e.item) (w ++ e.time ∷ []) es mark h.4 in
    let rest = rest_items (w ++ e.time ∷ []) es mark in
    let parts : marks (rest_items w (e ∷ es) mark) ≡ marks (time_items w e.time) ++ marks rest
    = ap marks (rest_more w e es mark)
    ∙ marks-append (time_items w e.time ++ (read_item e.item ∷ [])) rest
    ∙ ap (λ l. l ++ marks rest) (marks-append (time_items w e.time) (read_item e.item ∷ [])
    ∙ ap (λ l. marks (time_items w e.time) ++ l) (no_mark codes o e.item h.3)
    ∙ append-nil (marks (time_items w e.time))) in
    ap length parts
    ∙ length-append (marks (time_items w e.time)) (marks rest)
    ∙ ap (λ n. n + length (marks rest)) (marks_in_time w e.time)
    ∙ ap (λ n. cond (is_first w e.time) 1 0 + n) more
    ∙ sym (sum_by-cons (λ b. cond b 1 0) (is_first w e.time)
    (each_after is_first (w ++ e.time ∷ []) (map (λ (x : Entry). x.time) es ++ as_list mark)))

-- ---- the last timestamp

last_or-append : (o : Option ℕ) (xs ys : List ℕ) → last_or o (xs ++ ys) ≡ last_or (last_or o xs) ys
last_or-append o [] ys = refl
last_or-append o (x ∷ xs) ys = last_or-append (Some x) xs ys

-- a time that is written already is the last one
abbrev Held : Option ℕ → List ℕ → ℕ → Type 0
Held before w t = list_any (λ u. u == t) w ≡ true → before ≡ Some t

last_of_time : (before : Option ℕ) (w : List ℕ) (t u : ℕ) (o : Bool) → Stand w t o → Held before w t
    → t ≤ u → last_or before (marks (time_items w u)) ≡ Some u
last_of_time before w t u o s held l = by_any (list_any (λ v. v == u) w) refl
  where
    by_any : (b : Bool) → list_any (λ v. v == u) w ≡ b
        → last_or before (marks (cond b [] (BodyItem.Time u ∷ []))) ≡ Some u
    by_any true e =
        let m = at_most w t u s.below e in
        let same : t ≡ u = omega arith in
        held (subst (λ (n : ℕ). list_any (λ v. v == n) w ≡ true) (sym same) e) ∙ ap Some same
    by_any false e = refl

last_is : (codes : List IdCode) (t : ℕ) (o : Bool) (before : Option ℕ) (w : List ℕ)
    (es : List Entry) (mark : Option ℕ) → AreWritable codes t o es → Stand w t o → Held before w t
    → ((m : ℕ) → mark ≡ Some m → last_time t es ≤ m)
    → last_or before (marks (rest_items w es mark))
    ≡ last_or before (map (λ e. e.time) es ++ as_list mark)
last_is codes t o before w [] None h s held late = refl
last_is codes t o before w [] (Some m) h s held late =
    ap (λ l. last_or before (marks (time_items l m))) (append-nil w)
    ∙ last_of_time before w t m o s held (late m refl)
last_is codes t o before w (e ∷ es) mark h s held late =
    let rest = rest_items (w ++ e.time ∷ []) es mark in
    let one = last_of_time before w t e.time o s held h.0 in
    ap (λ l. last_or before (marks l)) (rest_more w e es mark)
    ∙ ap (last_or before) (marks-append (time_items w e.time ++ (read_item e.item ∷ [])) rest)
    ∙ last_or-append before (marks (time_items w e.time ++ (read_item e.item ∷ []))) (marks rest)
    ∙ ap (λ l. last_or (last_or before l) (marks rest))
    (marks-append (time_items w e.time) (read_item e.item ∷ [])
    ∙ ap (λ l. marks (time_items w e.time) ++ l) (no_mark codes o e.item h.3)
    ∙ append-nil (marks (time_items w e.time)))
    ∙ ap (λ l. last_or l (marks rest)) one
    ∙ last_is codes e.time (next_open o e.item) (Some e.time) (w ++ e.time ∷ []) es mark h.4
    (stand_more w t e.time o (next_open o e.item) s h.0) (λ x. refl) late

-- ---- sections and changes

-- a count that a timestamp adds nothing to
module _ (test : BodyItem → Bool) (no_times : (t : ℕ) → test (BodyItem.Time t) ≡ false) where
  in_time : (w : List ℕ) (t : ℕ) → count_by test (time_items w t) ≡ 0
  in_time w t = by_any (list_any (λ u. u == t) w)
    where
      by_any : (b : Bool) → count_by test (cond b [] (BodyItem.Time t ∷ [])) ≡ 0
      by_any true = refl
      by_any false = sum_by-cons (λ x. cond (test x) 1 0) (BodyItem.Time t) []
          ∙ ap (λ b. cond b 1 0 + 0) (no_times t)

  in_closing : (w : List ℕ) (mark : Option ℕ) → count_by test (closing_items w mark) ≡ 0
  in_closing w None = refl
  in_closing w (Some t) = in_time w t

  count_is : (same : (codes : List IdCode) (o : Bool) (x : BodyItem) → IsWritable codes o x
      → test (read_item x) ≡ test x) (codes : List IdCode) (t : ℕ) (o : Bool) (w : List ℕ)
      (es : List Entry) (mark : Option ℕ) → AreWritable codes t o es
      → count_by test (rest_items w es mark) ≡ count_by (λ e. test e.item) es
  count_is same codes t o w [] mark h = in_closing (w ++ []) mark
  count_is same codes t o w (e ∷ es) mark h =
      let rest = rest_items (w ++ e.time ∷ []) es mark in
      let f : BodyItem → ℕ = λ x. cond (test x) 1 0 in
      let all = ap (count_by test) (rest_more w e es mark) in
      let parts = sum_by-append f (time_items w e.time ++ (read_item e.item ∷ [])) rest in
      let front = sum_by-append f (time_items w e.time) (read_item e.item ∷ []) in
      let none = in_time w e.time in
      let one = sum_by-cons f (read_item e.item) [] in
      let kept = ap (λ b. cond {A = ℕ} b 1 0) (same codes o e.item h.3) in
      let more = count_is same codes e.time (next_open o e.item) (w ++ e.time ∷ []) es mark h.4 in
      let whole = sum_by-cons (λ (x : Entry). cond (test x.item) 1 0) e es in
      omega arith

same_begin : (codes : List IdCode) (o : Bool) (x : BodyItem) → IsWritable codes o x
    → is_begin (read_item x) ≡ is_begin x
same_begin codes o (BodyItem.Time u) h = absurd h
same_begin codes o (BodyItem.Begin s) h = refl
same_begin codes o BodyItem.End h = refl
same_begin codes o (BodyItem.Changes c) h = refl

same_change : (codes : List IdCode) (o : Bool) (x : BodyItem) → IsWritable codes o x
    → is_change (read_item x) ≡ is_change x
same_change codes o (BodyItem.Time u) h = absurd h
same_change codes o (BodyItem.Begin s) h = refl
same_change codes o BodyItem.End h = refl
same_change codes o (BodyItem.Changes c) h = refl

pub changes_are : (items : List BodyItem)
    → length (filter_map change_of items) ≡ count_by is_change items
changes_are [] = refl
changes_are (BodyItem.Time u ∷ items) =
    let n = sum_by-cons (λ x. cond (is_change x) 1 0) (BodyItem.Time u) items in
    let m = changes_are items in omega arith
changes_are (BodyItem.Begin s ∷ items) =
    let n = sum_by-cons (λ x. cond (is_change x) 1 0) (BodyItem.Begin s) items in
    let m = changes_are items in omega arith
changes_are (BodyItem.End ∷ items) =
    let n =
    sum_by-cons (λ x. cond (is_change x) 1 0) BodyItem.End items in let m = changes_are items in
    omega arith
changes_are (BodyItem.Changes c ∷ items) =
    let n = sum_by-cons (λ x. cond (is_change x) 1 0) (BodyItem.Changes c) items in
    let m = changes_are items in omega arith

-- ---- all parts of what is written

-- items with these numbers of distinct timestamps, sections and changes, and the last of these
-- times
pub record HasCounts (items : List BodyItem) (times : List ℕ) (sections changes : ℕ) : Type 0 where
  pub marks_are : length (marks items) ≡ distinct times
  pub sections_are : count_by is_begin items ≡ sections
  pub changes_are : length (filter_map change_of items) ≡ changes
  pub last_is : last_mark items ≡ last_or None times

each_after-append : {X Y : Type 0} (f : List X → X → Y) (earlier xs ys : List X)
    → each_after f earlier (xs ++ ys) ≡ each_after f earlier xs ++ each_after f (earlier ++ xs) ys
each_after-append f earlier [] ys = ap (λ l. each_after f l ys) (sym (append-nil earlier))
each_after-append f earlier (x ∷ xs) ys =
    ap (λ l. f earlier x ∷ l) (each_after-append f (earlier ++ x ∷ []) xs ys
    ∙ ap (λ l. each_after f (earlier ++ x ∷ []) xs ++ each_after f l ys)
    (append_assoc earlier (x ∷ []) xs))

pub parts_counts : (codes : List IdCode) (front : List BodyItem) (w : List ℕ) (kept : List Entry)
    (mark : Option ℕ) → Parts codes front w kept mark
    → marks front ≡ w → distinct w ≡ length w → Held (last_or None w) w (time_behind 0 front)
    → HasCounts (parts_items front w kept mark) (w ++ (map (λ e. e.time) kept ++ as_list mark))
    (count_by is_begin front + count_by (λ e. is_begin e.item) kept)
    (count_by is_change front + changes_in kept)
parts_counts codes front w kept mark p own once held =
    let t = time_behind 0 front in
    let rest = rest_items w kept mark in
    let times = map (λ (e : Entry). e.time) kept ++ as_list mark in
    record {
      marks_are =
          ap length (marks-append front rest)
          ∙ length-append (marks front) (marks rest)
          ∙ ap (λ n. length (marks front) + n) (marks_are codes t false w kept mark p.writable)
          ∙ ap (λ (l : List ℕ). length l + firsts w times) own
          ∙ ap (λ n. n + firsts w times) (sym once)
          ∙ sym (sum_by-append (λ (b : Bool). cond {A = ℕ} b 1 0) (each_after is_first [] w)
          (each_after is_first w times))
          ∙ ap (count_by (λ b. b)) (sym (each_after-append is_first [] w times));
      sections_are =
          sum_by-append (λ (x : BodyItem). cond {A = ℕ} (is_begin x) 1 0) front rest
          ∙ ap (λ n. count_by is_begin front + n)
          (count_is is_begin (λ u. refl) same_begin codes t false w kept mark p.writable);
      changes_are =
          changes_are (front ++ rest)
          ∙ sum_by-append (λ (x : BodyItem). cond {A = ℕ} (is_change x) 1 0) front rest
          ∙ ap (λ n. count_by is_change front + n)
          (count_is is_change (λ u. refl) same_change codes t false w kept mark p.writable);
      last_is =
          ap (last_or None) (marks-append front rest)
          ∙ last_or-append None (marks front) (marks rest)
          ∙ ap (λ (l : List ℕ). last_or (last_or None l) (marks rest)) own
          ∙ last_is codes t false (last_or None w) w kept mark p.writable p.stand held
          (λ m e. (p.last m e).0)
          ∙ sym (last_or-append None w times);
    }
