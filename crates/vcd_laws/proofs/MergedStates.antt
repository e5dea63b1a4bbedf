-- The states of a code in a merge: those that it has in its input, at each time of both.
use Rattle.vcd_laws.proofs.Cited.{◌≡◌, ℕ, ◌*◌, ◌/◌, ◌<◌, ◌≤◌, ◌==◌, Bool, true, false, cond, not, ◌&&◌, ◌||◌, nat_le, List, [], ◌∷◌, ◌++◌, map, filter, Option, Some, None, refl, sym, ap, ◌∙◌, subst, arith, AllByRecursion, list_any, append_assoc, IdCode, same_code, Header, BodyItem, Change, Entry, entries, gives_to, value_at, Keyed, renamed, factor, headers_of, is_change, merged_items, merge_kept, greatest_mark, Opened, items_in, dumps_of, declared_code, renamed_code, merged_codes, merged_entry, changes_kept, AreReadable, IsGoodChange, next_open, AreFit, entries_from, at_start, entries_are, read_again, read_again_is, read_item, time_items, written_items, IsWritable, AreWritable, Stand, stand_more, at_most, Parts, parts_items, parts_fit, closing_items, all_back, inputs_good, same_declared, IsGoodDump, gives_at, last_value_is, latest_agree}
use Rattle.std.proofs.Math.Nat.{one-mul}
use Rattle.vcd_model.specs.History.{last_value}
use Rattle.vcd_model.specs.Compare.{is_triggered, state_at}
use Rattle.vcd_laws.proofs.MergeDumps.{dumps_good, kept_all}
use Rattle.vcd_laws.proofs.MergeLaw.{merges, all_pass, le_floor, factor_positive, merge_values_at}
use Rattle.vcd_laws.proofs.WrittenCodes.{In, to_contained, found_in}
use Rattle.vcd_laws.proofs.CheckOfMerge.{merge_items}
use Rattle.vcd_laws.proofs.WholeDumps.{whole_dump}
use Rattle.vcd_laws.proofs.SampleOfMerge.{Among}
use Rattle.vcd_laws.proofs.EdgesOfMerge.{AllChanges, changes_only}

-- ---- whether some element passes

pub any_agree : {X : Type 0} (test test' : X → Bool) (xs : List X)
    → AllByRecursion (λ x. test x ≡ test' x) xs → list_any test xs ≡ list_any test' xs
any_agree test test' [] same = refl
any_agree test test' (x ∷ xs) same = rw (same.0, any_agree test test' xs same.1) refl

any_kept : {X : Type 0} (keep test : X → Bool) (xs : List X)
    → list_any test (filter keep xs) ≡ list_any (λ x. keep x && test x) xs
any_kept keep test [] = refl
any_kept keep test (x ∷ xs) = by_test (keep x) (any_kept keep test xs)
  where
    by_test : (b : Bool) → list_any test (filter keep xs) ≡ list_any (λ x. keep x && test x) xs
        → list_any test (cond b (x ∷ filter keep xs) (filter keep xs))
        ≡ ((b && test x) || list_any (λ x. keep x && test x) xs)
    by_test true more = ap (λ r. test x || r) more
    by_test false more = more

pub any_mapped : {X Y : Type 0} (f : X → Y) (test : Y → Bool) (xs : List X)
    → list_any test (map f xs) ≡ list_any (λ x. test (f x)) xs
any_mapped f test [] = refl
any_mapped f test (x ∷ xs) = ap (λ r. test (f x) || r) (any_mapped f test xs)

-- ---- changes that are read again

-- a test of entries outside sections that timestamps fail, and that a change passes once it is read
-- again if it did before
pub record IsOfChanges (codes : List IdCode) (test before : Entry → Bool) : Type 0 where
  pub quiet : (t u : ℕ) → test (record { time = t; inside = false; item = BodyItem.Time u }) ≡ false
  pub same : (t : ℕ) (inside : Bool) (d : Change) → IsGoodChange codes d → 0 < d.code.size
      → test (record { time = t; inside = false; item = BodyItem.Changes (read_again d) })
      ≡ before (record { time = t; inside = inside; item = BodyItem.Changes d })

module _ (codes : List IdCode) (test before : Entry → Bool) (is : IsOfChanges codes test before) where
  any_closing : (t : ℕ) (w : List ℕ) (mark : Option ℕ)
      → list_any test (entries_from t false (closing_items w mark)) ≡ false
  any_closing t w None = refl
  any_closing t w (Some e) = by_any (list_any (λ v. v == e) w)
    where
      by_any : (b : Bool) → list_any test (entries_from t false (cond b [] (BodyItem.Time e ∷ []))) ≡ false
      by_any true = refl
      by_any false = rw (is.quiet t e) refl

  any_time : (t u : ℕ) (w : List ℕ) (xs : List BodyItem) → Stand w t false → t ≤ u
      → list_any test (entries_from t false (time_items w u ++ xs)) ≡ list_any test (entries_from u false xs)
  any_time t u w xs s l = by_any (list_any (λ v. v == u) w) refl
    where
      by_any : (b : Bool) → list_any (λ v. v == u) w ≡ b
          → list_any test (entries_from t false (cond b [] (BodyItem.Time u ∷ []) ++ xs))
          ≡ list_any test (entries_from u false xs)
      by_any true e = let m = at_most w t u s.below e in let same : t ≡ u = omega arith in
          ap (λ (x : ℕ). list_any test (entries_from x false xs)) same
      by_any false e = rw (is.quiet t u) refl

  any_item : (u : ℕ) (inside : Bool) (x : BodyItem) (xs : List BodyItem) → is_change x ≡ true
      → IsWritable codes false x
      → (list_any test (entries_from u false (read_item x ∷ xs))
      ≡ (before (record { time = u; inside = inside; item = x }) || list_any test (entries_from u false xs)))
      × (next_open false x ≡ false)
  any_item u inside (BodyItem.Time t) xs e h = cc
  any_item u inside (BodyItem.Begin s) xs e h = cc
  any_item u inside BodyItem.End xs e h = cc
  any_item u inside (BodyItem.Changes d) xs e h =
      (ap (λ b. b || list_any test (entries_from u false xs)) (is.same u inside d h.0 h.1), refl)

  any_written : (es : List Entry) (t : ℕ) (w v : List ℕ) (mark : Option ℕ) → AreWritable codes t false es
      → Stand w t false → AllChanges es
      → list_any test (entries_from t false (written_items w es ++ closing_items v mark)) ≡ list_any before es
  any_written [] t w v mark h s all = any_closing t v mark
  any_written (e ∷ es) t w v mark h s all =
      let more = written_items (w ++ e.time ∷ []) es in
      let one = any_item e.time e.inside e.item (more ++ closing_items v mark) all.0 h.3 in
      ap (λ l. list_any test (entries_from t false l))
      (append_assoc (time_items w e.time) (read_item e.item ∷ more) (closing_items v mark))
      ∙ any_time t e.time w (read_item e.item ∷ (more ++ closing_items v mark)) s h.0
      ∙ one.0
      ∙ ap (λ b. before e || b) (any_written es e.time (w ++ e.time ∷ []) v mark
      (subst (λ (o : Bool). AreWritable codes e.time o es) one.1 h.4)
      (stand_more w t e.time false false s h.0) all.1)

-- ---- one code of an input

-- what is known of a code of an input and of its new code
pub record IsMergedCode (h : Header) (front : List Header) (scale : ℕ) (codes : List IdCode)
    (items : List BodyItem) (kept : List Entry) (mark : Option ℕ) (c : IdCode) : Type 0 where
  pub declared : declared_code h.codes c.text ≡ Some c
  pub fit : AreFit h.codes 0 false items
  pub positive : 0 < scale
  pub parts : Parts codes [] [] kept mark
  pub kept_is : filter (λ e. gives_to (renamed_code front h c) e.item) kept
      ≡ map (merged_entry scale (renamed front h)) (changes_kept c (entries items))
  pub changes : AllChanges kept
  pub values : c.event ≡ false → (t : ℕ)
      → value_at (parts_items [] [] kept mark) (renamed_code front h c) t ≡ value_at items c (t / scale)

module _ (h : Header) (front : List Header) (scale : ℕ) (codes : List IdCode) (items : List BodyItem)
    (kept : List Entry) (mark : Option ℕ) (c : IdCode)
    (m : IsMergedCode h front scale codes items kept mark c) where
  abbrev new : IdCode
  new = renamed_code front h c

  abbrev others : List BodyItem
  others = parts_items [] [] kept mark

  -- a change of the new code at a time
  abbrev comes : ℕ → Entry → Bool
  comes t e = gives_to new e.item && 1 * e.time == t

  any_merged : (test : Entry → Bool) (t : ℕ) → IsOfChanges codes test (comes t)
      → list_any test (entries others)
      ≡ list_any (λ e. merges e && (gives_to c e.item && 1 * (scale * e.time) == t)) (entries_from 0 false items)
  any_merged test t is =
      ap (list_any test) (entries_are codes [] 0 false others at_start (parts_fit codes [] [] kept mark m.parts))
      ∙ any_written codes test (comes t) is kept 0 [] (map (λ (e : Entry). e.time) kept) mark m.parts.writable
      (record { below = tt; there = λ e. cc }) m.changes
      ∙ sym (any_kept (λ (e : Entry). gives_to new e.item) (λ (e : Entry). 1 * e.time == t) kept)
      ∙ ap (list_any (λ (e : Entry). 1 * e.time == t)) m.kept_is
      ∙ any_mapped (merged_entry scale (renamed front h)) (λ (e : Entry). 1 * e.time == t) (changes_kept c (entries items))
      ∙ any_kept (λ (e : Entry). gives_to c e.item) (λ (e : Entry). 1 * (scale * e.time) == t) (filter merges (entries items))
      ∙ any_kept merges (λ (e : Entry). gives_to c e.item && 1 * (scale * e.time) == t) (entries items)
      ∙ ap (list_any (λ (e : Entry). merges e && (gives_to c e.item && 1 * (scale * e.time) == t)))
      (entries_are h.codes [] 0 false items at_start m.fit)

  -- all changes of a code that is no event are kept
  kept_changes : (t u : ℕ) (o : Bool) (xs : List BodyItem) → c.event ≡ false → AreFit h.codes u o xs
      → AllByRecursion (λ e. (merges e && (gives_to c e.item && 1 * (scale * e.time) == t))
      ≡ (gives_to c e.item && scale * e.time == t)) (entries_from u o xs)
  kept_changes t u o [] quiet fit = tt
  kept_changes t u o (BodyItem.Time v ∷ xs) quiet fit = (refl, kept_changes t v o xs quiet fit.1)
  kept_changes t u o (BodyItem.Begin s ∷ xs) quiet fit = (refl, kept_changes t u true xs quiet fit.1)
  kept_changes t u o (BodyItem.End ∷ xs) quiet fit = (refl, kept_changes t u false xs quiet fit.1)
  kept_changes t u o (BodyItem.Changes d ∷ xs) quiet fit =
      (by_same (same_code c d.code) refl, kept_changes t u o xs quiet fit.1)
    where
      none : (b : Bool) → (b && false) ≡ false
      none true = refl
      none false = refl

      by_same : (b : Bool) → same_code c d.code ≡ b
          → (not (d.code.event && o) && (same_code c d.code && 1 * (scale * u) == t))
          ≡ (same_code c d.code && scale * u == t)
      by_same false s = rw s (none (not (d.code.event && o)))
      by_same true s =
          let good : IsGoodChange h.codes d = fit.0 in
          let same : c ≡ d.code = same_declared h.codes c d.code m.declared good.declared s in
          let silent : d.code.event ≡ false = ap (λ (x : IdCode). x.event) (sym same) ∙ quiet in
          rw (s, silent) (ap (λ n. n == t) (one-mul (scale * u)))

  -- of an event the triggers outside sections are
  kept_triggers : (t u : ℕ) (o : Bool) (xs : List BodyItem) → c.event ≡ true → AreFit h.codes u o xs
      → AllByRecursion (λ e. (merges e && (gives_to c e.item && 1 * (scale * e.time) == t))
      ≡ (gives_to c e.item && not e.inside && scale * e.time == t)) (entries_from u o xs)
  kept_triggers t u o [] loud fit = tt
  kept_triggers t u o (BodyItem.Time v ∷ xs) loud fit = (refl, kept_triggers t v o xs loud fit.1)
  kept_triggers t u o (BodyItem.Begin s ∷ xs) loud fit = (refl, kept_triggers t u true xs loud fit.1)
  kept_triggers t u o (BodyItem.End ∷ xs) loud fit = (refl, kept_triggers t u false xs loud fit.1)
  kept_triggers t u o (BodyItem.Changes d ∷ xs) loud fit =
      (by_same (same_code c d.code) refl, kept_triggers t u o xs loud fit.1)
    where
      none : (b : Bool) → (b && false) ≡ false
      none true = refl
      none false = refl

      by_same : (b : Bool) → same_code c d.code ≡ b
          → (not (d.code.event && o) && (same_code c d.code && 1 * (scale * u) == t))
          ≡ (same_code c d.code && not o && scale * u == t)
      by_same false s = rw s (none (not (d.code.event && o)))
      by_same true s =
          let good : IsGoodChange h.codes d = fit.0 in
          let same : c ≡ d.code = same_declared h.codes c d.code m.declared good.declared s in
          let event : d.code.event ≡ true = ap (λ (x : IdCode). x.event) (sym same) ∙ loud in
          rw (s, event) (ap (λ n. not o && n == t) (one-mul (scale * u)))

  renamed_again : (d : Change) → IsGoodChange codes d → 0 < d.code.size
      → same_code new (read_again d).code ≡ same_code new d.code
  renamed_again d good some = ap (same_code new) (read_again_is codes d good some).same

  -- a code that is no event changes at the same times
  pub changes_alike : c.event ≡ false → (t : ℕ)
      → list_any (λ e. gives_to new e.item && 1 * e.time == t) (entries others)
      ≡ list_any (λ e. gives_to c e.item && scale * e.time == t) (entries items)
  changes_alike quiet t =
      any_merged (comes t) t (record {
        quiet = λ t u. refl;
        same = λ u inside d good some. ap (λ b. b && 1 * u == t) (renamed_again d good some);
      })
      ∙ any_agree _ _ (entries_from 0 false items) (kept_changes t 0 false items quiet m.fit)
      ∙ ap (list_any (λ (e : Entry). gives_to c e.item && scale * e.time == t))
      (sym (entries_are h.codes [] 0 false items at_start m.fit))

  -- an event is triggered at the same times
  pub triggered_alike : c.event ≡ true → (t : ℕ)
      → is_triggered 1 others new t ≡ is_triggered scale items c t
  triggered_alike loud t =
      any_merged (λ e. gives_to new e.item && not e.inside && 1 * e.time == t) t (record {
        quiet = λ t u. refl;
        same = λ u inside d good some. ap (λ b. b && true && 1 * u == t) (renamed_again d good some)
            ∙ ap (λ b. b && 1 * u == t) (and_true (same_code new d.code));
      })
      ∙ any_agree _ _ (entries_from 0 false items) (kept_triggers t 0 false items loud m.fit)
      ∙ ap (list_any (λ (e : Entry). gives_to c e.item && not e.inside && scale * e.time == t))
      (sym (entries_are h.codes [] 0 false items at_start m.fit))
    where
      and_true : (b : Bool) → (b && true) ≡ b
      and_true true = refl
      and_true false = refl

  -- values at scaled times
  values_alike : c.event ≡ false → (t : ℕ)
      → last_value new (λ u. nat_le (1 * u) t) others ≡ last_value c (λ u. nat_le (scale * u) t) items
  values_alike quiet t =
      last_value_is new (λ u. nat_le (1 * u) t) others
      ∙ latest_agree (gives_at new (λ u. nat_le (1 * u) t)) (gives_at new (λ u. nat_le u t)) (entries others)
      (all_pass _ (entries others) (λ e. ap (λ n. gives_to new e.item && nat_le n t) (one-mul e.time)))
      ∙ sym (last_value_is new (λ u. nat_le u t) others)
      ∙ m.values quiet t
      ∙ last_value_is c (λ u. nat_le u (t / scale)) items
      ∙ latest_agree (gives_at c (λ u. nat_le u (t / scale))) (gives_at c (λ u. nat_le (scale * u) t)) (entries items)
      (all_pass _ (entries items) (λ e. ap (λ b. gives_to c e.item && b) (sym (le_floor scale e.time t m.positive))))
      ∙ sym (last_value_is c (λ u. nat_le (scale * u) t) items)

  -- the state of a code at a time
  pub states_alike : (t : ℕ) → state_at 1 others new t ≡ state_at scale items c t
  states_alike t = by_event c.event refl
    where
      by_event : (b : Bool) → c.event ≡ b → state_at 1 others new t ≡ state_at scale items c t
      by_event true e = rw (e, triggered_alike e t) refl
      by_event false e = rw (e, values_alike e t) refl

-- ---- the codes of an input of a merge

pub is_merged_code : (limit : ℕ) (names : List (List ℕ)) (inputs : List _)
    (os earlier later : List Opened) (o : Opened) (can : AreReadable limit names inputs os)
    → Among os earlier later o
    → (c : IdCode) → In c o.header.codes
    → IsMergedCode o.header (headers_of (map whole_dump earlier)) (factor (headers_of (dumps_of os)) o.header)
    (merged_codes (headers_of (dumps_of os))) (items_in o) (merge_kept (merged_items (dumps_of os)))
    (greatest_mark (merged_items (dumps_of os))) c
is_merged_code limit names inputs os earlier later o can at c i =
    let ds = dumps_of os in
    let hs = headers_of ds in
    let p = merge_items limit names inputs os can in
    let ks = merged_items ds in
    let good = dumps_good os (inputs_good limit [] inputs os can.opens) in
    let own : IsGoodDump hs (whole_dump o) =
    (all_back (IsGoodDump hs) (map whole_dump earlier) (whole_dump o ∷ map whole_dump later)
    (subst (AllByRecursion (IsGoodDump hs)) at.dumps good)).0 in
    record {
      declared = found_in o.header.codes c own.codes i;
      fit = own.fit;
      positive = factor_positive hs o.header;
      parts = p.parts;
      kept_is = kept_all ds (map whole_dump earlier) (map whole_dump later) (whole_dump o) c good at.dumps
          (to_contained o.header.codes c i);
      changes = changes_only (map (λ (k : Keyed). k.entry) ks);
      values = λ quiet t. merge_values_at ds (map whole_dump earlier) (map whole_dump later) (whole_dump o) c t good
          at.dumps (to_contained o.header.codes c i) quiet;
    }
