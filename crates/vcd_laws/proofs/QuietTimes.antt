-- Two parts of one dump compared: times that no timestamp has add no lines.
use Rattle.vcd_laws.proofs.Cited.{◌≡◌, ℕ, ◌*◌, ◌<◌, ◌≤◌, ◌==◌, max, Bool, true, false, cond, not, ◌&&◌, ◌||◌, nat_lt, nat_le, List, [], ◌∷◌, ◌++◌, filter, fold, flat_map, None, ◌⊎◌, inl, inr, refl, sym, ap, ◌∙◌, subst, arith, AllByRecursion, list_any, eq-eqb, ne_eqb, ltb-true, lt-ltb, le-leb, lt-leb, cases_lt, and_from, and_parts, and_right, greatest_from, IdCode, code_of, BodyItem, Entry, entries, gives_to, gives_at, last_value_is, latest_agree, Asked, Extent, eqb-true, leb-true}
use Rattle.std.proofs.Math.Nat.{one-mul}
use Rattle.vcd_model.specs.Items.{marks}
use Rattle.vcd_model.specs.History.{last_value}
use Rattle.vcd_model.specs.Compare.{changes_at, differs, in_order, is_due, lines_at, match, Pair, Rule, rule_for, Side, state_at, value_line}
use Rattle.vcd_model.specs.Compare.Extent.{First, EachPair, Always}
use Rattle.vcd_model.specs.Within.{side, times_in}
use Rattle.vcd_laws.proofs.WrittenCodes.{In, any_of, from_any, from_filter, to_filter}
use Rattle.vcd_laws.proofs.MergedHead.{all_in}
use Rattle.vcd_laws.proofs.SameTimes.{at_in, to_order, greatest_in, greatest_above}
use Rattle.vcd_laws.proofs.MergedTimes.{IsTimeOf, items_come}

-- ---- lists of lines

pub flat_same : {X : Type 0} (f g : X → List ℕ) (xs : List X) → ((x : X) → In x xs → f x ≡ g x)
    → flat_map f xs ≡ flat_map g xs
flat_same f g [] same = refl
flat_same f g (x ∷ xs) same = rw (same x (inl refl), flat_same f g xs (λ y i. same y (inr i))) refl

pub flat_none : {X : Type 0} (f : X → List ℕ) (xs : List X) → ((x : X) → In x xs → f x ≡ [])
    → flat_map f xs ≡ []
flat_none f [] none = refl
flat_none f (x ∷ xs) none = rw (none x (inl refl), flat_none f xs (λ y i. none y (inr i))) refl

flat_kept : {X : Type 0} (f : X → List ℕ) (keep : X → Bool) (xs : List X)
    → ((x : X) → In x xs → keep x ≡ false → f x ≡ []) → flat_map f xs ≡ flat_map f (filter keep xs)
flat_kept f keep [] none = refl
flat_kept f keep (x ∷ xs) none =
    by_test (keep x) refl (none x (inl refl)) (flat_kept f keep xs (λ y i. none y (inr i)))
  where
    by_test : (b : Bool) → keep x ≡ b → (keep x ≡ false → f x ≡ []) → flat_map f xs ≡ flat_map f (filter keep xs)
        → f x ++ flat_map f xs ≡ flat_map f (cond b (x ∷ filter keep xs) (filter keep xs))
    by_test true e n more = ap (λ l. f x ++ l) more
    by_test false e n more = rw (n e) more

pub any_none : {X : Type 0} (test : X → Bool) (xs : List X) → AllByRecursion (λ x. test x ≡ false) xs
    → list_any test xs ≡ false
any_none test [] none = refl
any_none test (x ∷ xs) none = rw (none.0, any_none test xs none.1) refl

both_ways : (a b : Bool) → (a ≡ true → b ≡ true) → (b ≡ true → a ≡ true) → a ≡ b
both_ways true b f g = sym (f refl)
both_ways false true f g = g refl
both_ways false false f g = refl

-- ---- which lines are due, by what was found before

abbrev pub chosen : Extent → Bool → Bool → Bool → Bool
chosen e any own now = elim e [ First ↦ not any | EachPair ↦ not own | Always ↦ now ]

chosen_none : (e : Extent) (any own now : Bool) → any ≡ true → own ≡ true → now ≡ false
    → chosen e any own now ≡ false
chosen_none First any own now f g h = rw f refl
chosen_none EachPair any own now f g h = rw g refl
chosen_none Always any own now f g h = h

-- a pair of events, or of variables that are none
abbrev pub IsEven : Pair → Type 0
IsEven p = (code_of p.one).event ≡ (code_of p.other).event

-- ---- a time at which a code does not change

trigger_changes : (k t : ℕ) (c : IdCode) (es : List Entry)
    → list_any (λ e. gives_to c e.item && k * e.time == t) es ≡ false
    → list_any (λ e. gives_to c e.item && not e.inside && k * e.time == t) es ≡ false
trigger_changes k t c es none = by_test (list_any (λ e. gives_to c e.item && not e.inside && k * e.time == t) es) refl
  where
    and_both : (x y z : Bool) → (x && y && z) ≡ true → (x && z) ≡ true
    and_both true true z f = f
    and_both true false z f = cc
    and_both false y z f = cc

    by_test : (b : Bool) → list_any (λ e. gives_to c e.item && not e.inside && k * e.time == t) es ≡ b
        → list_any (λ e. gives_to c e.item && not e.inside && k * e.time == t) es ≡ false
    by_test true e =
        let f = from_any (λ e. gives_to c e.item && not e.inside && k * e.time == t) es e in
        let g = any_of (λ e. gives_to c e.item && k * e.time == t) es f.0 f.1
        (and_both (gives_to c f.0.item) (not f.0.inside) (k * f.0.time == t) f.2) in cc
    by_test false e = e

-- an event has no state then
pub no_state : (s : Side) (c : IdCode) (t : ℕ) → c.event ≡ true → changes_at s c t ≡ false
    → state_at s.scale s.items c t ≡ None
no_state s c t loud none = rw (loud, trigger_changes s.scale t c (entries s.items) none) refl

module _ (from : ℕ) (items : List BodyItem) where
  -- the last of the first time and those of timestamps before a time
  pub last_before : ℕ → ℕ
  last_before t = fold max from (filter (λ v. nat_lt v t) (marks items))

  pub last_in : (t : ℕ) → from < t → (last_before t < t) × (from ≤ last_before t) × In (last_before t) (from ∷ marks items)
  unfolding last_before
  last_in t first =
      let before = filter (λ v. nat_lt v t) (marks items) in
      let place = by_place (last_before t) (greatest_in from before) in
      (place.0, greatest_from from before, place.1)
    where
      by_place : (w : ℕ) → In w (from ∷ filter (λ v. nat_lt v t) (marks items)) → (w < t) × In w (from ∷ marks items)
      by_place w (inl same) = (omega arith, inl same)
      by_place w (inr j) = let f = from_filter (λ v. nat_lt v t) (marks items) w j in (ltb-true w t f.1, inr f.0)

  same_side : (t u : ℕ) → from < t → IsTimeOf (marks items) u → (u ≡ t → ⊥)
      → nat_le (1 * u) t ≡ nat_le (1 * u) (last_before t)
  unfolding last_before
  same_side t u first comes ne =
      let below = (last_in t first).0 in
      rw one-mul (by_order (cases_lt t u) below comes)
    where
      by_order : (t < u) ⊎ (u ≤ t) → last_before t < t → IsTimeOf (marks items) u → nat_le u t ≡ nat_le u (last_before t)
      by_order (inl l) below comes = lt-leb u t l ∙ sym (lt-leb u (last_before t) (omega arith))
      by_order (inr h) below (inl z) = le-leb u t h ∙ sym (le-leb u (last_before t) (omega arith))
      by_order (inr h) below (inr j) =
          let less : u < t = omega (arith, ne) in
          let g = greatest_above from u (filter (λ v. nat_lt v t) (marks items))
          (to_filter (λ v. nat_lt v t) (marks items) u j (lt-ltb u t less)) in
          le-leb u t h ∙ sym (le-leb u (last_before t) g)

  value_before : (c : IdCode) (t : ℕ) → from < t → changes_at (side items) c t ≡ false
      → last_value c (λ u. nat_le (1 * u) t) items ≡ last_value c (λ u. nat_le (1 * u) (last_before t)) items
  value_before c t first none =
      last_value_is c (λ u. nat_le (1 * u) t) items
      ∙ latest_agree (gives_at c (λ u. nat_le (1 * u) t)) (gives_at c (λ u. nat_le (1 * u) (last_before t))) (entries items)
      (all_in (λ (x : Entry). gives_at c (λ u. nat_le (1 * u) t) x ≡ gives_at c (λ u. nat_le (1 * u) (last_before t)) x) (entries items)
      (λ x j. by_gives x j (gives_to c x.item) refl))
      ∙ sym (last_value_is c (λ u. nat_le (1 * u) (last_before t)) items)
    where
      by_gives : (x : Entry) → In x (entries items) → (b : Bool) → gives_to c x.item ≡ b
          → gives_at c (λ u. nat_le (1 * u) t) x ≡ gives_at c (λ u. nat_le (1 * u) (last_before t)) x
      by_gives x j false e = rw e refl
      by_gives x j true e = ap (λ b. gives_to c x.item && b)
          (same_side t x.time first (at_in (λ (y : Entry). IsTimeOf (marks items) y.time) (entries items) x (items_come items) j)
          (λ same.
          let here : (gives_to c x.item && 1 * x.time == t) ≡ true = rw (e, one-mul) (eq-eqb x.time t same) in
          let some = any_of (λ (y : Entry). gives_to c y.item && 1 * y.time == t) (entries items) x j here in
          let no : true ≡ false = sym some ∙ none in cc))

  same_state : (c : IdCode) (t : ℕ) → from < t → changes_at (side items) c t ≡ false → c.event ≡ false
      → state_at 1 items c t ≡ state_at 1 items c (last_before t)
  same_state c t first none quiet = rw (quiet, value_before c t first none) refl

  -- a pair that differs then differed before
  pub differed : (rule : Rule) (p : Pair) (t : ℕ) → IsEven p → from < t → changes_at (side items) (code_of p.one) t ≡ false
      → changes_at (side items) (code_of p.other) t ≡ false → differs rule (side items) (side items) p t ≡ true
      → differs rule (side items) (side items) p (last_before t) ≡ true
  differed rule p t even first none none' d = by_event (code_of p.one).event refl
    where
      by_event : (b : Bool) → (code_of p.one).event ≡ b → differs rule (side items) (side items) p (last_before t) ≡ true
      by_event true f =
          let gone = no_state (side items) (code_of p.one) t f none in
          let gone' = no_state (side items) (code_of p.other) t (sym even ∙ f) none' in
          let same : differs rule (side items) (side items) p t ≡ false = rw (gone, gone') refl in
          cc
      by_event false f =
          ap (λ v. not (match (rule_for rule p.one) v (state_at 1 items (code_of p.other) (last_before t))))
          (sym (same_state (code_of p.one) t first none f))
          ∙ ap (λ v. not (match (rule_for rule p.one) (state_at 1 items (code_of p.one) t) v))
          (sym (same_state (code_of p.other) t first none' (sym even ∙ f)))
          ∙ d

-- a timestamp within the times asked for, or the first of these, is compared
pub marked_in : (q : Asked) (items : List BodyItem) (t : ℕ) → list_any (λ u. t == u) (q.from ∷ marks items) ≡ true
    → q.from ≤ t → t ≤ q.to → In t (times_in q items)
marked_in q items t e low high = let f = from_any (λ u. t == u) (q.from ∷ marks items) e in
    to_filter (λ u. nat_le q.from u && nat_le u q.to) (in_order (q.from ∷ marks items)) t
    (to_order t (q.from ∷ marks items) (subst (λ n. In n (q.from ∷ marks items)) (sym (eqb-true t f.0 f.2)) f.1))
    (rw (le-leb q.from t low, le-leb t q.to high) refl)

pub in_times : (q : Asked) (items : List BodyItem) (t : ℕ) → In t (times_in q items) → (q.from ≤ t) × (t ≤ q.to)
in_times q items t i =
    let f = from_filter (λ u. nat_le q.from u && nat_le u q.to) (in_order (q.from ∷ marks items)) t i in
    let g = and_parts (nat_le q.from t) (nat_le t q.to) f.1 in
    (leb-true q.from t g.0, leb-true t q.to g.1)

module _ (q : Asked) (items : List BodyItem) (ps : List Pair) (ts : List ℕ) (to : ℕ) where
  -- the first time, or one of a timestamp
  abbrev pub is_marked : ℕ → Bool
  is_marked t = list_any (λ u. t == u) (q.from ∷ marks items)

  abbrev some : List ℕ
  some = filter is_marked ts

  -- all times of timestamps from the first time to the last, and others
  pub record AreTimes : Type 0 where
    pub inside : (t : ℕ) → In t ts → (q.from ≤ t) × (t ≤ to)
    pub full : (t : ℕ) → is_marked t ≡ true → q.from ≤ t → t ≤ to → In t ts

  module _ (are : AreTimes) (even : (p : Pair) → In p ps → IsEven p) where
    -- ---- a time that no timestamp has

    unmarked : (t : ℕ) → is_marked t ≡ false → In t (q.from ∷ marks items) → ⊥
    unmarked t e i = let f = any_of (λ u. t == u) (q.from ∷ marks items) t i (eq-eqb t t refl) in cc

    after_first : (t : ℕ) → In t ts → is_marked t ≡ false → q.from < t
    after_first t i e = let le = (are.inside t i).0 in let ne = λ (same : t ≡ q.from). unmarked t e (inl same) in
        omega (arith, ne)

    no_change : (c : IdCode) (t : ℕ) → In t ts → is_marked t ≡ false → changes_at (side items) c t ≡ false
    no_change c t i e = any_none (λ x. gives_to c x.item && 1 * x.time == t) (entries items)
        (all_in (λ (x : Entry). (gives_to c x.item && 1 * x.time == t) ≡ false) (entries items)
        (λ x j. and_right (gives_to c x.item) (1 * x.time == t)
        (ne_eqb (1 * x.time) t (λ f. apart x.time (at_in (λ (y : Entry). IsTimeOf (marks items) y.time) (entries items) x (items_come items) j)
        (sym (one-mul x.time) ∙ f)))))
      where
        apart : (u : ℕ) → IsTimeOf (marks items) u → u ≡ t → ⊥
        apart u (inl z) f = let l = after_first t i e in omega arith
        apart u (inr j) f = unmarked t e (inr (subst (λ n. In n (marks items)) f j))

    -- the last of the other times before it
    abbrev before : ℕ → ℕ
    before t = last_before q.from items t

    pub before_in : (t : ℕ) → In t ts → is_marked t ≡ false → (before t < t) × In (before t) some
    before_in t i e =
        let last = last_in q.from items t (after_first t i e) in
        let high = (are.inside t i).1 in
        let low : before t < t = last.0 in
        let marked : is_marked (before t) ≡ true = any_of (λ u. before t == u) (q.from ∷ marks items) (before t) last.2 (eq-eqb (before t) (before t) refl) in
        (low, to_filter is_marked ts (before t) (are.full (before t) marked last.1 (omega arith)) marked)

    abbrev differs_at : Pair → ℕ → Bool
    differs_at p t = differs q.rule (side items) (side items) p t

    pub differed_before : (p : Pair) (t : ℕ) → In p ps → In t ts → is_marked t ≡ false → differs_at p t ≡ true
        → differs_at p (before t) ≡ true
    differed_before p t k i e d = differed q.from items q.rule p t (even p k) (after_first t i e)
        (no_change (code_of p.one) t i e) (no_change (code_of p.other) t i e) d

    -- ---- the same was found before

    -- what holds at such a time held at one of the others before it
    abbrev HeldBefore : (ℕ → Bool) → Type 0
    HeldBefore X = (t : ℕ) → In t ts → is_marked t ≡ false → X t ≡ true → X (before t) ≡ true

    found_alike : (X : ℕ → Bool) (t : ℕ) → HeldBefore X
        → list_any (λ u. nat_lt u t && X u) ts ≡ list_any (λ u. nat_lt u t && X u) some
    found_alike X t held = both_ways (list_any (λ u. nat_lt u t && X u) ts) (list_any (λ u. nat_lt u t && X u) some)
        (λ e. let f = from_any (λ u. nat_lt u t && X u) ts e in by_mark f.0 f.1 f.2 (is_marked f.0) refl)
        (λ e. let f = from_any (λ u. nat_lt u t && X u) some e in
        any_of (λ u. nat_lt u t && X u) ts f.0 (from_filter is_marked ts f.0 f.1).0 f.2)
      where
        by_mark : (u : ℕ) → In u ts → (nat_lt u t && X u) ≡ true → (b : Bool) → is_marked u ≡ b
            → list_any (λ u. nat_lt u t && X u) some ≡ true
        by_mark u i h true e = any_of (λ u. nat_lt u t && X u) some u (to_filter is_marked ts u i e) h
        by_mark u i h false e =
            let parts = and_parts (nat_lt u t) (X u) h in
            let last = before_in u i e in
            let low = last.0 in
            let here = ltb-true u t parts.0 in
            any_of (λ u. nat_lt u t && X u) some (before u) last.1
            (and_from (nat_lt (before u) t) (X (before u)) (lt-ltb (before u) t (omega arith)) (held u i e parts.1))

    found_some : (X : ℕ → Bool) (t : ℕ) → HeldBefore X → In t ts → is_marked t ≡ false → X t ≡ true
        → list_any (λ u. nat_lt u t && X u) ts ≡ true
    found_some X t held i e h =
        let last = before_in t i e in
        any_of (λ u. nat_lt u t && X u) ts (before t) (from_filter is_marked ts (before t) last.1).0
        (and_from (nat_lt (before t) t) (X (before t)) (lt-ltb (before t) t last.0) (held t i e h))

    abbrev any_at : ℕ → Bool
    any_at u = list_any (λ o. differs_at o u) ps

    any_held : HeldBefore any_at
    any_held t i e h = let f = from_any (λ o. differs_at o t) ps h in
        any_of (λ o. differs_at o (before t)) ps f.0 f.1 (differed_before f.0 t f.1 i e f.2)

    -- ---- the lines

    abbrev due : List ℕ → ℕ → Pair → Bool
    due us t p = is_due q (side items) (side items) ps us t p

    abbrev now : ℕ → Pair → Bool
    now t p = t == 1 * q.from || changes_at (side items) (code_of p.one) t || changes_at (side items) (code_of p.other) t

    due_alike : (t : ℕ) (p : Pair) → In p ps → due ts t p ≡ due some t p
    due_alike t p k =
        ap (λ b. differs_at p t && chosen q.extent b (list_any (λ u. nat_lt u t && differs_at p u) ts) (now t p))
        (found_alike any_at t any_held)
        ∙ ap (λ b. differs_at p t && chosen q.extent (list_any (λ u. nat_lt u t && any_at u) some) b (now t p))
        (found_alike (differs_at p) t (λ u i e h. differed_before p u k i e h))

    none_due : (t : ℕ) (p : Pair) → In p ps → In t ts → is_marked t ≡ false → due ts t p ≡ false
    none_due t p k i e = by_test (differs_at p t) refl
      where
        first : (t == 1 * q.from) ≡ false
        first = ne_eqb t (1 * q.from) (λ f. unmarked t e (inl (f ∙ one-mul q.from)))

        by_test : (b : Bool) → differs_at p t ≡ b → due ts t p ≡ false
        by_test false d = ap (λ b. b && chosen q.extent (list_any (λ u. nat_lt u t && any_at u) ts)
            (list_any (λ u. nat_lt u t && differs_at p u) ts) (now t p)) d
        by_test true d =
            ap (λ b. b && chosen q.extent (list_any (λ u. nat_lt u t && any_at u) ts)
            (list_any (λ u. nat_lt u t && differs_at p u) ts) (now t p)) d
            ∙ chosen_none q.extent (list_any (λ u. nat_lt u t && any_at u) ts)
            (list_any (λ u. nat_lt u t && differs_at p u) ts) (now t p)
            (found_some any_at t any_held i e (any_of (λ o. differs_at o t) ps p k d))
            (found_some (differs_at p) t (λ u j f h. differed_before p u k j f h) i e d)
            (rw (first, no_change (code_of p.one) t i e, no_change (code_of p.other) t i e) refl)

    abbrev line : ℕ → Pair → List ℕ
    line t p = value_line (side items) (side items) p t

    -- the times of timestamps alone have all lines
    pub quiet_lines : flat_map (lines_at q ps (side items) (side items) ts) ts
        ≡ flat_map (lines_at q ps (side items) (side items) some) some
    quiet_lines =
        flat_kept (lines_at q ps (side items) (side items) ts) is_marked ts
        (λ t i e. flat_none (λ p. cond (due ts t p) (line t p) []) ps (λ p k. ap (λ b. cond b (line t p) []) (none_due t p k i e)))
        ∙ flat_same (lines_at q ps (side items) (side items) ts) (lines_at q ps (side items) (side items) some) some
        (λ t i. flat_same (λ p. cond (due ts t p) (line t p) []) (λ p. cond (due some t p) (line t p) []) ps
        (λ p k. ap (λ b. cond b (line t p) []) (due_alike t p k)))
