-- The changes of a picked code are read again, in order.
use Rattle.vcd_laws.proofs.Cited.{◌≡◌, ℕ, ◌+◌, ◌<◌, ◌==◌, Bool, true, false, cond, not, ◌&&◌, List, [], ◌∷◌, ◌++◌, map, filter, filter_map, count_by, Option, Some, None, option_map, refl, sym, ap, ◌∙◌, subst, arith, list_any, append_assoc, append-nil, filter-append, filter_map-append, sum_by-cons, IdCode, same_code, has_text, BodyItem, Entry, change_of, value_of, gives_to, values_of, last_mark, event_count, declared_code, Selected, selects_code, IsGoodChange, next_time, next_open, AreFit, open_behind, entries_from, at_start, entries_are, read_again, read_again_is, read_item, time_items, written_items, IsWritable, AreWritable, parts_items, parts_fit, closing_items, find-filter, same_declared, find_all, AreCodes}
use Rattle.vcd_laws.proofs.PickLaw.{picks, pick_parts}

pub values-append : (xs ys : List BodyItem) (c : IdCode)
    → values_of (xs ++ ys) c ≡ values_of xs c ++ values_of ys c
values-append xs ys c =
    let f = λ (item : BodyItem). option_map value_of (change_of item) in
    ap (filter_map f) (filter-append (gives_to c) xs ys)
    ∙ filter_map-append f (filter (gives_to c) xs) (filter (gives_to c) ys)

module _ (c : IdCode) where
  time_none : (w : List ℕ) (u : ℕ) → values_of (time_items w u) c ≡ []
  time_none w u = by_any (list_any (λ v. v == u) w)
    where
      by_any : (b : Bool) → values_of (cond b [] (BodyItem.Time u ∷ [])) c ≡ []
      by_any true = refl
      by_any false = refl

  pub closing_gives : (w : List ℕ) (mark : Option ℕ) → values_of (closing_items w mark) c ≡ []
  closing_gives w None = refl
  closing_gives w (Some e) = time_none w e

  -- ---- values

  module _ (codes : List IdCode) (declared : declared_code codes c.text ≡ Some c)
      (quiet : c.event ≡ false) where
    item_values : (o : Bool) (item : BodyItem) → IsWritable codes o item
        → values_of (read_item item ∷ []) c ≡ values_of (item ∷ []) c
    item_values o (BodyItem.Time u) h = absurd h
    item_values o (BodyItem.Begin s) h = refl
    item_values o BodyItem.End h = refl
    item_values o (BodyItem.Changes d) h = by_same (same_code c d.code) refl
      where
        by_same : (b : Bool) → same_code c d.code ≡ b
            → values_of (BodyItem.Changes (read_again d) ∷ []) c
            ≡ values_of (BodyItem.Changes d ∷ []) c
        by_same true e =
            let good : IsGoodChange codes d = h.0 in
            let r = read_again_is codes d h.0 h.1 in
            let same : c ≡ d.code = same_declared codes c d.code declared good.declared e in
            let code : same_code c (read_again d).code ≡ true = ap (same_code c) r.same ∙ e in
            let value = r.value (sym (ap (λ (x : IdCode). x.event) same) ∙ quiet) in
            rw (code, e, value) refl
        by_same false e =
            let r = read_again_is codes d h.0 h.1 in
            let code : same_code c (read_again d).code ≡ false = ap (same_code c) r.same ∙ e in
            rw (code, e) refl

    pub written_values : (t : ℕ) (o : Bool) (w : List ℕ) (es : List Entry)
        → AreWritable codes t o es
        → values_of (written_items w es) c ≡ values_of (map (λ e. e.item) es) c
    written_values t o w [] h = refl
    written_values t o w (e ∷ es) h =
        let rest = written_items (w ++ e.time ∷ []) es in
        values-append (time_items w e.time) (read_item e.item ∷ rest) c
        ∙ ap (λ l. l ++ values_of (read_item e.item ∷ rest) c) (time_none w e.time)
        ∙ values-append (read_item e.item ∷ []) rest c
        ∙ ap (λ l. l ++ values_of rest c) (item_values o e.item h.3)
        ∙ ap (λ l. values_of (e.item ∷ []) c ++ l)
        (written_values e.time (next_open o e.item) (w ++ e.time ∷ []) es h.4)
        ∙ sym (values-append (e.item ∷ []) (map (λ (x : Entry). x.item) es) c)

  -- ---- triggers of events

  abbrev pub counted : Entry → Bool
  counted e = gives_to c e.item && not e.inside

  abbrev pub count_from : ℕ → Bool → List BodyItem → ℕ
  count_from t o xs = count_by counted (entries_from t o xs)

  pub count_more : (t : ℕ) (o : Bool) (x : BodyItem) (xs : List BodyItem)
      → count_from t o (x ∷ xs) ≡ cond (gives_to c x && not o) 1 0 + count_from (next_time t x)
      (next_open o x) xs
  count_more t o x xs = sum_by-cons (λ e. cond (counted e) 1 0)
      (record { time = t; inside = o; item = x }) (entries_from (next_time t x) (next_open o x) xs)

  pub count_time : (t u : ℕ) (o : Bool) (xs : List BodyItem) → count_from t o xs ≡ count_from u o xs
  count_time t u o [] = refl
  count_time t u o (BodyItem.Time v ∷ xs) = count_more t o (BodyItem.Time v) xs
      ∙ sym (count_more u o (BodyItem.Time v) xs)
  count_time t u o (BodyItem.Begin s ∷ xs) = count_more t o (BodyItem.Begin s) xs
      ∙ ap (λ n. 0 + n) (count_time t u true xs) ∙ sym (count_more u o (BodyItem.Begin s) xs)
  count_time t u o (BodyItem.End ∷ xs) = count_more t o BodyItem.End xs
      ∙ ap (λ n. 0 + n) (count_time t u false xs) ∙ sym (count_more u o BodyItem.End xs)
  count_time t u o (BodyItem.Changes d ∷ xs) = count_more t o (BodyItem.Changes d) xs
      ∙ ap (λ n. cond (same_code c d.code && not o) 1 0 + n) (count_time t u o xs)
      ∙ sym (count_more u o (BodyItem.Changes d) xs)

  pub count_over_time : (t u : ℕ) (o : Bool) (w : List ℕ) (xs : List BodyItem)
      → count_from t o (time_items w u ++ xs) ≡ count_from 0 o xs
  count_over_time t u o w xs = by_any (list_any (λ v. v == u) w)
    where
      by_any : (b : Bool) → count_from t o (cond b [] (BodyItem.Time u ∷ []) ++ xs)
          ≡ count_from 0 o xs
      by_any true = count_time t 0 o xs
      by_any false = count_more t o (BodyItem.Time u) xs
          ∙ (let n = count_time u 0 o xs in omega arith)

  -- one kept entry, and what follows
  pub count_kept : (t u : ℕ) (o : Bool) (w : List ℕ) (x : BodyItem) (more rest : List BodyItem)
      → count_from t o (time_items w u ++ x ∷ more ++ rest)
      ≡ cond (gives_to c x && not o) 1 0 + count_from 0 (next_open o x) (more ++ rest)
  count_kept t u o w x more rest =
      ap (count_from t o) (append_assoc (time_items w u) (x ∷ more) rest)
      ∙ count_over_time t u o w (x ∷ (more ++ rest)) ∙ count_more 0 o x (more ++ rest)
      ∙ ap (λ n. cond (gives_to c x && not o) 1 0 + n)
      (count_time (next_time 0 x) 0 (next_open o x) (more ++ rest))

  pub closing_count : (o : Bool) (w : List ℕ) (mark : Option ℕ)
      → count_from 0 o (closing_items w mark) ≡ 0
  closing_count o w None = refl
  closing_count o w (Some e) = ap (count_from 0 o) (sym (append-nil (time_items w e)))
      ∙ count_over_time 0 e o w []

  -- ---- what is kept of it

  module _ (codes : List IdCode) (vs : List Selected)
      (declared : declared_code codes c.text ≡ Some c) (picked : selects_code vs c ≡ true) where
    kept_values : (t : ℕ) (o : Bool) (items : List BodyItem) → c.event ≡ false
        → AreFit codes t o items
        → values_of (map (λ e. e.item) (filter (picks vs) (entries_from t o items))) c
        ≡ values_of items c
    kept_values t o [] quiet fit = refl
    kept_values t o (BodyItem.Time u ∷ items) quiet fit = kept_values u o items quiet fit.1
    kept_values t o (BodyItem.Begin s ∷ items) quiet fit = kept_values t true items quiet fit.1
    kept_values t o (BodyItem.End ∷ items) quiet fit = kept_values t false items quiet fit.1
    kept_values t o (BodyItem.Changes d ∷ items) quiet fit =
        by_same (same_code c d.code) refl (selects_code vs d.code && not (d.code.event && o)) refl
        (kept_values t o items quiet fit.1)
      where
        rest : List Entry
        rest = filter (picks vs) (entries_from t o items)

        by_same : (b : Bool) → same_code c d.code ≡ b → (p : Bool)
            → (selects_code vs d.code && not (d.code.event && o)) ≡ p
            → values_of (map (λ e. e.item) rest) c ≡ values_of items c
            → values_of (map (λ e. e.item) (cond (selects_code vs d.code && not (d.code.event && o))
            (record { time = t; inside = o; item = BodyItem.Changes d } ∷ rest) rest)) c
            ≡ values_of (BodyItem.Changes d ∷ items) c
        by_same b s true e more =
            rw e (values-append (BodyItem.Changes d ∷ []) (map (λ (x : Entry). x.item) rest) c
            ∙ ap (λ l. values_of (BodyItem.Changes d ∷ []) c ++ l) more
            ∙ sym (values-append (BodyItem.Changes d ∷ []) items c))
        by_same false s false e more = rw (e, s) more
        by_same true s false e more =
            let good : IsGoodChange codes d = fit.0 in
            let same : c ≡ d.code = same_declared codes c d.code declared good.declared s in
            let keep : (selects_code vs d.code && not (d.code.event && o)) ≡ true =
            subst (λ (x : IdCode). (selects_code vs x && not (x.event && o)) ≡ true) same
            (rw (picked, quiet) refl) in
            cc

    written_count : (are : AreCodes codes) (items : List BodyItem) (t t' : ℕ) (o : Bool)
        (w : List ℕ) (rest : List BodyItem) → AreFit codes t o items
        → count_from t' o (written_items w (filter (picks vs) (entries_from t o items)) ++ rest)
        ≡ count_from t o items + count_from 0 (open_behind o items) rest
    written_count are [] t t' o w rest fit = let n = count_time t' 0 o rest in omega arith
    written_count are (BodyItem.Time u ∷ items) t t' o w rest fit =
        let a = written_count are items u t' o w rest fit.1 in
        let b = count_more t o (BodyItem.Time u) items in omega arith
    written_count are (BodyItem.Begin s ∷ items) t t' o w rest fit =
        let a = count_kept t' t o w (BodyItem.Begin s)
        (written_items (w ++ t ∷ []) (filter (picks vs) (entries_from t true items))) rest in
        let b = written_count are items t 0 true (w ++ t ∷ []) rest fit.1 in
        let d = count_more t o (BodyItem.Begin s) items in
        omega arith
    written_count are (BodyItem.End ∷ items) t t' o w rest fit =
        let a = count_kept t' t o w BodyItem.End
        (written_items (w ++ t ∷ []) (filter (picks vs) (entries_from t false items))) rest in
        let b = written_count are items t 0 false (w ++ t ∷ []) rest fit.1 in
        let d = count_more t o BodyItem.End items in
        omega arith
    written_count are (BodyItem.Changes d ∷ items) t t' o w rest fit =
        by_keep (selects_code vs d.code && not (d.code.event && o)) refl
        (written_count are items t 0 o (w ++ t ∷ []) rest fit.1)
        (written_count are items t t' o w rest fit.1)
      where
        kept : List Entry
        kept = filter (picks vs) (entries_from t o items)

        passed_over : (selects_code vs d.code && not (d.code.event && o)) ≡ false → (s p : Bool)
            → same_code c d.code ≡ s → o ≡ p → (same_code c d.code && not o) ≡ false
        passed_over e false p f g = rw f refl
        passed_over e true true f g = rw (f, g) refl
        passed_over e true false f g =
            let good : IsGoodChange codes d = fit.0 in
            let same : c ≡ d.code = same_declared codes c d.code declared good.declared f in
            let keep : selects_code vs d.code ≡ true =
            subst (λ (x : IdCode). selects_code vs x ≡ true) same picked in
            let h : (true && not (d.code.event && false)) ≡ false = rw (keep, g) at e in
            absurd (no_event d.code.event h)
          where
            no_event : (b : Bool) → (true && not (b && false)) ≡ false → ⊥
            no_event true q = cc
            no_event false q = cc

        by_keep : (b : Bool) → (selects_code vs d.code && not (d.code.event && o)) ≡ b
            → count_from 0 o (written_items (w ++ t ∷ []) kept ++ rest)
            ≡ count_from t o items + count_from 0 (open_behind o items) rest
            → count_from t' o (written_items w kept ++ rest)
            ≡ count_from t o items + count_from 0 (open_behind o items) rest
            → count_from t' o (written_items w
            (cond (selects_code vs d.code && not (d.code.event && o))
            (record { time = t; inside = o; item = BodyItem.Changes d } ∷ kept) kept) ++ rest)
            ≡ count_from t o (BodyItem.Changes d ∷ items) + count_from 0 (open_behind o items)
            rest
        by_keep true e with_it without =
            let good : IsGoodChange codes d = fit.0 in
            let filled : 0 < d.code.size =
            find_all (λ (x : IdCode). 0 < x.size) (has_text d.code.text) codes d.code are.filled
            good.declared in
            let r = read_again_is codes d good filled in
            let a = count_kept t' t o w (BodyItem.Changes (read_again d))
            (written_items (w ++ t ∷ []) kept) rest in
            let m = count_more t o (BodyItem.Changes d) items in
            let code : cond {A = ℕ} (same_code c (read_again d).code && not o) 1 0
            ≡ cond {A = ℕ} (same_code c d.code && not o) 1 0 =
            ap (λ (x : IdCode). cond (same_code c x && not o) 1 0) r.same in
            rw e (omega arith)
        by_keep false e with_it without =
            let n = passed_over e (same_code c d.code) o refl refl in
            let m = count_more t o (BodyItem.Changes d) items in
            let zero : cond {A = ℕ} (same_code c d.code && not o) 1 0 ≡ 0 =
            ap (λ (x : Bool). cond x 1 0) n in
            rw e (omega arith)

-- ---- the items that a pick is read as

-- a picked code has the same values, in order, and as many triggers outside sections
pub record KeepsCounts (items others : List BodyItem) (c : IdCode) : Type 0 where
  pub values : c.event ≡ false → values_of items c ≡ values_of others c
  pub marks : event_count c items ≡ event_count c others

pub picked_counts : (codes : List IdCode) (vs : List Selected) (items : List BodyItem) (c : IdCode)
    → AreCodes codes → AreFit codes 0 false items → open_behind false items ≡ false
    → declared_code codes c.text ≡ Some c → selects_code vs c ≡ true
    → KeepsCounts (parts_items [] [] (filter (picks vs) (entries_from 0 false items))
    (last_mark items)) items c
picked_counts codes vs items c are fit shut declared picked =
    let kept = filter (picks vs) (entries_from 0 false items) in
    let new = filter (selects_code vs) codes in
    let w = map (λ (e : Entry). e.time) kept in
    let parts = pick_parts codes vs items are fit shut in
    let end = closing_items w (last_mark items) in
    let again = find-filter (has_text c.text) (selects_code vs) codes c declared picked in
    record {
      values = λ quiet.
          values-append (written_items [] kept) end c
          ∙ ap (λ l. values_of (written_items [] kept) c ++ l) (closing_gives c w (last_mark items))
          ∙ append-nil (values_of (written_items [] kept) c)
          ∙ written_values c new again quiet 0 false [] kept parts.writable
          ∙ kept_values c codes vs declared picked 0 false items quiet fit;
      marks =
          let all = written_count c codes vs declared picked are items 0 0 false [] end fit in
          let none = closing_count c (open_behind false items) w (last_mark items) in
          ap (count_by (λ (e : Entry). gives_to c e.item && not e.inside))
          (entries_are new [] 0 false (written_items [] kept ++ end) at_start
          (parts_fit new [] [] kept (last_mark items) parts))
          ∙ all
          ∙ (let n = none in omega arith)
          ∙ ap (count_by (λ (e : Entry). gives_to c e.item && not e.inside))
          (sym (entries_are codes [] 0 false items at_start fit));
    }
