-- What `pick` and `cut` wrote has all declarations and changes that are kept, in order.
use Rattle.vcd_laws.proofs.Cited.{◌≡◌, ℕ, ◌≤◌, Bool, true, false, cond, not, ◌==◌, List, [], ◌∷◌, ◌++◌, length, map, filter, filter_map, flat_map, Option, Some, None, option_map, refl, sym, ap, ◌∙◌, subst, arith, AllByRecursion, list_any, cons_option, append_assoc, append-nil, each_after, Declaration, IdCode, enclosing, BodyItem, Change, Entry, entries, last_mark, Value, value_of, value_before, selected, selects_code, within, items_in, row_kept, ups_kept, declarations_kept, Given, given, given_by, given_before, PickKeepsAll, CutKeepsAll, next_open, entries_from, at_start, entries_are, read_again, read_again_is, value_change, value_change_gives, read_item, time_items, written_items, IsWritable, AreWritable, last_time, last_open, Stand, stand_more, at_most, parts_items, parts_fit, closing_items, IsSettable, item_if_set, set_items, start_behind, cuts, settable, rows_from, written}
use Rattle.vcd_laws.proofs.OpenedBodies.{opens_good, opened_fit, opened_shut}
use Rattle.vcd_laws.proofs.HeadBack.{marks as marks_of, own_code}
use Rattle.vcd_laws.proofs.PickLaw.{picks, pick_parts}
use Rattle.vcd_laws.proofs.EdgesOfPick.{picked_items}
use Rattle.vcd_laws.proofs.PickTwice.{Insides, kept_insides, all_kept}
use Rattle.vcd_laws.proofs.CutLaw.{cut_entries, cut_start, cut_end}
use Rattle.vcd_laws.proofs.CutAgain.{cut_insides}
use Rattle.vcd_laws.proofs.CheckOfCut.{cut_items}

-- ---- declarations

rows_kept : (marked : ℕ → Bool) (earlier ds : List Declaration)
    → rows_from own_code marked earlier ds
    ≡ flat_map (λ l. l) (each_after (row_kept marked) earlier ds)
rows_kept marked earlier [] = refl
rows_kept marked earlier (Declaration.Scope type name ∷ ds) =
    ap (λ l. cond (marked (length earlier)) (Declaration.Scope type name ∷ []) [] ++ l)
    (rows_kept marked (earlier ++ Declaration.Scope type name ∷ []) ds)
rows_kept marked earlier (Declaration.Var v ∷ ds) =
    ap (λ l. cond (marked (length earlier)) (Declaration.Var v ∷ []) [] ++ l)
    (rows_kept marked (earlier ++ Declaration.Var v ∷ []) ds)
rows_kept marked earlier (Declaration.Up ∷ ds) =
    ap (λ l. row_kept marked earlier Declaration.Up ++ l)
    (rows_kept marked (earlier ++ Declaration.Up ∷ []) ds)

declared : (names : List (List ℕ)) (ds : List Declaration)
    → written own_code (marks_of names ds) ds ≡ declarations_kept names ds
declared names ds =
    ap (λ l. l ++ ups_kept (marks_of names ds) (enclosing ds)) (rows_kept (marks_of names ds) [] ds)

-- ---- what entries give

abbrev gives_here : ℕ → Bool → IdCode → Value → Given
gives_here t o code v =
    record { time = t; inside = o; code = code; value = cond code.event None (Some v) }

given_again : (codes : List IdCode) (t : ℕ) (o inside : Bool) (c : Change)
    → IsWritable codes o (BodyItem.Changes c) → inside ≡ o
    → gives_here t o (read_again c).code (value_of (read_again c))
    ≡ gives_here t inside c.code (value_of c)
given_again codes t o inside c h same =
    let r = read_again_is codes c h.0 h.1 in
    ap (λ k. gives_here t o k (value_of (read_again c))) r.same
    ∙ by_event c.code.event refl r.value
    ∙ ap (λ p. gives_here t p c.code (value_of c)) (sym same)
  where
    by_event : (b : Bool) → c.code.event ≡ b
        → (c.code.event ≡ false → value_of (read_again c) ≡ value_of c)
        → gives_here t o c.code (value_of (read_again c)) ≡ gives_here t o c.code (value_of c)
    by_event true e same = rw e refl
    by_event false e same = ap (gives_here t o c.code) (same e)

over_time : (t u : ℕ) (o : Bool) (w : List ℕ) (xs : List BodyItem) → Stand w t o → t ≤ u
    → given (entries_from t o (time_items w u ++ xs)) ≡ given (entries_from u o xs)
over_time t u o w xs s l = by_any (list_any (λ v. v == u) w) refl
  where
    by_any : (b : Bool) → list_any (λ v. v == u) w ≡ b
        → given (entries_from t o (cond b [] (BodyItem.Time u ∷ []) ++ xs))
        ≡ given (entries_from u o xs)
    by_any true e = let m = at_most w t u s.below e in let same : t ≡ u = omega arith in
        ap (λ (x : ℕ). given (entries_from x o xs)) same
    by_any false e = refl

over_item : (codes : List IdCode) (u : ℕ) (o inside : Bool) (x : BodyItem) (xs : List BodyItem)
    → IsWritable codes o x → inside ≡ o
    → given (entries_from u o (read_item x ∷ xs))
    ≡ cons_option (given_by (record { time = u; inside = inside; item = x }))
    (given (entries_from u (next_open o x) xs))
over_item codes u o inside (BodyItem.Time t) xs h same = absurd h
over_item codes u o inside (BodyItem.Begin s) xs h same = refl
over_item codes u o inside BodyItem.End xs h same = refl
over_item codes u o inside (BodyItem.Changes c) xs h same =
    ap (λ (g : Given). g ∷ given (entries_from u o xs)) (given_again codes u o inside c h same)

given_written : (codes : List IdCode) (es : List Entry) (t : ℕ) (o : Bool) (w : List ℕ)
    (rest : List BodyItem) → AreWritable codes t o es → Stand w t o → Insides o es
    → given (entries_from t o (written_items w es ++ rest))
    ≡ given es ++ given (entries_from (last_time t es) (last_open o es) rest)
given_written codes [] t o w rest h s i = refl
given_written codes (e ∷ es) t o w rest h s i =
    let more = written_items (w ++ e.time ∷ []) es in
    ap (λ l. given (entries_from t o l))
    (append_assoc (time_items w e.time) (read_item e.item ∷ more) rest)
    ∙ over_time t e.time o w (read_item e.item ∷ (more ++ rest)) s h.0
    ∙ over_item codes e.time o e.inside e.item (more ++ rest) h.3 i.0
    ∙ ap (cons_option (given_by e)) (given_written codes es e.time (next_open o e.item)
    (w ++ e.time ∷ []) rest h.4 (stand_more w t e.time o (next_open o e.item) s h.0) i.1)
    ∙ in_front (given_by e) (given es)
    (given (entries_from (last_time e.time es) (last_open (next_open o e.item) es) rest))
  where
    in_front : (g : Option Given) (xs ys : List Given)
        → cons_option g (xs ++ ys) ≡ cons_option g xs ++ ys
    in_front None xs ys = refl
    in_front (Some x) xs ys = refl

closing_given : (t : ℕ) (o : Bool) (w : List ℕ) (mark : Option ℕ)
    → given (entries_from t o (closing_items w mark)) ≡ []
closing_given t o w None = refl
closing_given t o w (Some e) = by_any (list_any (λ v. v == e) w)
  where
    by_any : (b : Bool) → given (entries_from t o (cond b [] (BodyItem.Time e ∷ []))) ≡ []
    by_any true = refl
    by_any false = refl

-- kept entries and a closing timestamp
given_rest : (codes : List IdCode) (es : List Entry) (t : ℕ) (o : Bool) (w v : List ℕ)
    (mark : Option ℕ) → AreWritable codes t o es → Stand w t o → Insides o es
    → given (entries_from t o (written_items w es ++ closing_items v mark)) ≡ given es
given_rest codes es t o w v mark h s i =
    given_written codes es t o w (closing_items v mark) h s i
    ∙ ap (λ l. given es ++ l) (closing_given (last_time t es) (last_open o es) v mark)
    ∙ append-nil (given es)

-- ---- the start section

abbrev set_at : ℕ → (IdCode → Option Value) → IdCode → Option Given
set_at a vals c =
    option_map (λ v. record { time = a; inside = true; code = c; value = Some v }) (vals c)

given_set : (codes : List IdCode) (a : ℕ) (vals : IdCode → Option Value) (cs : List IdCode)
    (rest : List BodyItem) → AllByRecursion (IsSettable codes vals) cs
    → AllByRecursion (λ c. not c.event ≡ true) cs
    → given (entries_from a true ((set_items vals cs ++ BodyItem.End ∷ []) ++ rest))
    ≡ filter_map (set_at a vals) cs ++ given (entries_from a false rest)
given_set codes a vals [] rest set quiet = refl
given_set codes a vals (c ∷ cs) rest set quiet =
    by_value (vals c) refl (given_set codes a vals cs rest set.1 quiet.1)
  where
    silent : (b : Bool) → not b ≡ true → b ≡ false
    silent true e = cc
    silent false e = refl

    set_here : Option Value → Option Given
    set_here o =
        option_map (λ v. record { time = a; inside = true; code = c; value = Some v }) o

    by_value : (o : Option Value) → vals c ≡ o
        → given (entries_from a true ((set_items vals cs ++ BodyItem.End ∷ []) ++ rest))
        ≡ filter_map (set_at a vals) cs ++ given (entries_from a false rest)
        → given (entries_from a true
        (((item_if_set c o ++ set_items vals cs) ++ BodyItem.End ∷ []) ++ rest))
        ≡ cons_option (set_here o) (filter_map (set_at a vals) cs)
        ++ given (entries_from a false rest)
    by_value None e more = more
    by_value (Some v) e more =
        let s = set.0 in
        let g = s.good v e in
        let r = value_change_gives codes c v s.declared g.0 s.filled g.1 in
        let one : gives_here a true (value_change c v).code (value_of (value_change c v))
        ≡ record { time = a; inside = true; code = c; value = Some v }
        = ap (λ k. gives_here a true k (value_of (value_change c v))) r.same
        ∙ ap (gives_here a true c) r.value
        ∙ ap (λ b. record { time = a; inside = true; code = c; value = cond b None (Some v) })
        (silent c.event quiet.0) in
        ap (λ (x : Given). x ∷ given (entries_from a true
        ((set_items vals cs ++ BodyItem.End ∷ []) ++ rest))) one
        ∙ ap (λ l. record { time = a; inside = true; code = c; value = Some v } ∷ l) more

-- ---- the laws

pub pick_keeps_all : PickKeepsAll
pick_keeps_all limit name names input o can =
    let p = picked_items limit name names input o can in
    let d = p.dump in
    let good = opens_good limit input o can.opens in
    let items = items_in o in
    let fit = opened_fit o good in
    let vs = selected names o.header.declarations in
    let new = filter (selects_code vs) o.header.codes in
    let kept = filter (picks vs) (entries_from 0 false items) in
    let mark = last_mark items in
    let parts = pick_parts o.header.codes vs items good.codes fit (opened_shut o good p.none) in
    let read = parts_items [] [] kept mark in
    record {
      dump = d.dump;
      opens = d.opens;
      whole = d.whole;
      declarations = p.rows ∙ declared names o.header.declarations;
      changes = ap (λ (l : List BodyItem). given (entries l)) p.items
          ∙ ap given (entries_are new [] 0 false read at_start
          (parts_fit new [] [] kept mark parts))
          ∙ given_rest new kept 0 false [] (map (λ (e : Entry). e.time) kept) mark parts.writable
          (record { below = tt; there = λ e. cc }) (kept_insides o.header.codes vs 0 false items)
          ∙ ap (λ (l : List Entry). given (filter (picks vs) l))
          (sym (entries_are o.header.codes [] 0 false items at_start fit));
    }

pub cut_keeps_all : CutKeepsAll
cut_keeps_all limit name from to input o a b job can first last =
    let p = cut_items limit name from to input o a b job can first last in
    let d = p.dump in
    let good = opens_good limit input o can.opens in
    let h = o.header in
    let items = items_in o in
    let q = within b items in
    let behind = p.behind in
    let parts = behind.parts in
    let vals : IdCode → Option Value = λ c. value_before q c a in
    let cs = filter (λ c. not c.event) h.codes in
    let start = cut_start h a b items in
    let kept = cut_entries a b items in
    let mark = cut_end a b items in
    let w = (a ∷ []) ++ map (λ (e : Entry). e.time) kept in
    let rest = written_items (a ∷ []) kept ++ closing_items w mark in
    let after = start_behind a vals cs in
    let read = parts_items start (a ∷ []) kept mark in
    record {
      dump = d.dump;
      opens = d.opens;
      whole = d.whole;
      declarations = p.rows ∙ declared [] h.declarations;
      changes = ap (λ (l : List BodyItem). given (entries l)) p.items
          ∙ ap given (entries_are h.codes [] 0 false read at_start
          (parts_fit h.codes start (a ∷ []) kept mark parts))
          ∙ given_set h.codes a vals cs rest (settable h.codes a q good.codes behind.fit)
          (all_kept (λ (c : IdCode). not c.event) h.codes)
          ∙ ap (λ l. given_before h a q ++ l)
          (given_rest h.codes kept a false (a ∷ []) w mark
          (subst (λ (n : ℕ). AreWritable h.codes n false kept) after.1 parts.writable)
          (subst (λ (n : ℕ). Stand (a ∷ []) n false) after.1 parts.stand)
          (cut_insides h.codes a q behind.fit)
          ∙ ap (λ (l : List Entry). given (filter (cuts a) l))
          (sym (entries_are h.codes [] 0 false q at_start behind.fit)));
    }
