-- Two parts of a dump without a fault compared: the lines of all times, in order.
use Rattle.vcd_laws.proofs.Cited.{◌≡◌, ℕ, ◌<◌, ◌≤◌, Bool, true, false, cond, not, ◌&&◌, ◌||◌, nat_lt, nat_le, List, [], ◌∷◌, ◌++◌, filter, flat_map, Some, None, Fault, Outcome, ◌⊎◌, inl, inr, refl, sym, ap, ◌∙◌, subst, arith, AllByRecursion, list_any, append_assoc, append-nil, flat_map-append, leb-true, lt-ltb, cases_lt, and_from, and_parts, and_right, not-true, or_cases, is_empty, settled_below, BodyItem, Header, is_mark_above, Input, Asked, Extent, Names, Opened, items_in, fault_in}
use Rattle.vcd_model.specs.Items.{marks}
use Rattle.vcd_model.specs.Sample.{is_settled}
use Rattle.vcd_model.specs.Compare.{Pair, differs, ends_with, fault_after, in_order, is_due, lines_at, value_line}
use Rattle.vcd_model.specs.Compare.Extent.{First, EachPair, Always}
use Rattle.vcd_model.specs.Within.{answer_in, compared_in, ends_run, lines_where, side, times_in, within, within_close, within_dump, within_head, within_open}
use Rattle.vcd_laws.specs.KeptValues.{Opens}
use Rattle.vcd_laws.proofs.WrittenCodes.{In, any_of, from_any, from_filter}
use Rattle.vcd_laws.proofs.SameTimes.{Rises, rises_in_order, rising_filter}
use Rattle.vcd_laws.proofs.QuietTimes.{flat_none}

-- ---- times that are settled come first

all_fail : (s : ℕ → Bool) (x : ℕ) (xs : List ℕ) → ((t u : ℕ) → t < u → s u ≡ true → s t ≡ true) → s x ≡ false
    → AllByRecursion (λ y. x < y) xs → (filter s xs ≡ []) × (filter (λ t. not (s t)) xs ≡ xs)
all_fail s x [] down e above = (refl, refl)
all_fail s x (y ∷ ys) down e above = by_test (s y) refl (all_fail s x ys down e above.1)
  where
    by_test : (b : Bool) → s y ≡ b → (filter s ys ≡ []) × (filter (λ t. not (s t)) ys ≡ ys)
        → (cond b (y ∷ filter s ys) (filter s ys) ≡ [])
        × (cond (not b) (y ∷ filter (λ t. not (s t)) ys) (filter (λ t. not (s t)) ys) ≡ y ∷ ys)
    by_test true f more = let g = down x y above.0 f in cc
    by_test false f more = (more.0, ap (λ l. y ∷ l) more.1)

parts_of : (s : ℕ → Bool) (xs : List ℕ) → ((t u : ℕ) → t < u → s u ≡ true → s t ≡ true) → Rises xs
    → filter s xs ++ filter (λ t. not (s t)) xs ≡ xs
parts_of s [] down up = refl
parts_of s (x ∷ xs) down up = by_test (s x) refl (parts_of s xs down up.1)
  where
    by_test : (b : Bool) → s x ≡ b → filter s xs ++ filter (λ t. not (s t)) xs ≡ xs
        → cond b (x ∷ filter s xs) (filter s xs)
        ++ cond (not b) (x ∷ filter (λ t. not (s t)) xs) (filter (λ t. not (s t)) xs) ≡ x ∷ xs
    by_test true e more = ap (λ l. x ∷ l) more
    by_test false e more = let f = all_fail s x xs down e up.0 in
        ap (λ l. l ++ x ∷ filter (λ t. not (s t)) xs) f.0 ∙ ap (λ l. x ∷ l) f.1

above_is : (b : ℕ) (items : List BodyItem) → list_any (is_mark_above b) items ≡ list_any (nat_lt b) (marks items)
above_is b [] = refl
above_is b (BodyItem.Time t ∷ items) = ap (λ x. nat_lt b t || x) (above_is b items)
above_is b (BodyItem.Begin s ∷ items) = above_is b items
above_is b (BodyItem.End ∷ items) = above_is b items
above_is b (BodyItem.Changes c ∷ items) = above_is b items

pub ends_first : (e : Extent) (lines : List ℕ) → ends_with e lines ≡ true → (e ≡ First) × (is_empty lines ≡ false)
ends_first First [] ends = cc
ends_first First (b ∷ bs) ends = (refl, refl)
ends_first EachPair lines ends = cc
ends_first Always lines ends = cc

module _ (q : Asked) (h : Header) (ns : List Names) (items : List BodyItem) where
  abbrev ps : List Pair
  ps = compared_in q h ns

  abbrev ts : List ℕ
  ts = times_in q items

  abbrev lines : ℕ → List ℕ
  lines t = lines_at q ps (side items) (side items) ts t

  abbrev any_at : ℕ → Bool
  any_at u = list_any (λ o. differs q.rule (side items) (side items) o u) ps

  abbrev late : List ℕ
  late = lines_where q h ns items (λ t. not (is_settled items t))

  pub all_lines : lines_where q h ns items (is_settled items) ++ late ≡ flat_map lines ts
  all_lines =
      sym (flat_map-append lines (filter (is_settled items) ts) (filter (λ t. not (is_settled items t)) ts))
      ∙ ap (flat_map lines) (parts_of (is_settled items) ts (settled_below (marks items))
      (rising_filter (λ t. nat_le q.from t && nat_le t q.to) (in_order (q.from ∷ marks items)) (rises_in_order (q.from ∷ marks items))))

  -- after a timestamp above the last time all times are settled
  none_late : list_any (is_mark_above q.to) items ≡ true → late ≡ []
  none_late e = flat_none lines (filter (λ t. not (is_settled items t)) ts) (λ t i.
      let f = from_filter (λ t. not (is_settled items t)) ts t i in
      let g = from_filter (λ t. nat_le q.from t && nat_le t q.to) (in_order (q.from ∷ marks items)) t f.0 in
      let high = leb-true t q.to (and_parts (nat_le q.from t) (nat_le t q.to) g.1).1 in
      let settled = still t high (sym (above_is q.to items) ∙ e) in
      let no : true ≡ false = sym settled ∙ not-true (is_settled items t) f.1 in cc)
    where
      still : (t : ℕ) → t ≤ q.to → list_any (nat_lt q.to) (marks items) ≡ true → is_settled items t ≡ true
      still t l f = by_order (cases_lt t q.to)
        where
          by_order : (t < q.to) ⊎ (q.to ≤ t) → is_settled items t ≡ true
          by_order (inl less) = settled_below (marks items) t q.to less f
          by_order (inr same) = let e : q.to ≡ t = omega arith in
              subst (λ n. list_any (nat_lt n) (marks items) ≡ true) e f

  pub no_lines : (t : ℕ) → any_at t ≡ false → lines t ≡ []
  no_lines t e = flat_none (λ p. cond (is_due q (side items) (side items) ps ts t p) (value_line (side items) (side items) p t) []) ps
      (λ p k. by_test p (differs q.rule (side items) (side items) p t) refl k)
    where
      by_test : (p : Pair) (b : Bool) → differs q.rule (side items) (side items) p t ≡ b → In p ps
          → cond (is_due q (side items) (side items) ps ts t p) (value_line (side items) (side items) p t) [] ≡ []
      by_test p true f k = let g = any_of (λ o. differs q.rule (side items) (side items) o t) ps p k f in cc
      by_test p false f k = rw f refl

  -- nor are there lines after those of the first time
  none_after : q.extent ≡ First → is_empty (lines_where q h ns items (is_settled items)) ≡ false → late ≡ []
  none_after first full = by_any (list_any any_at (filter (is_settled items) ts)) refl
    where
      -- a time that is not settled comes after each that is
      settled_apart : (t u : ℕ) → is_settled items u ≡ true → is_settled items t ≡ false → u < t
      settled_apart t u e f = by_order (cases_lt u t) (cases_lt t u)
        where
          by_order : (u < t) ⊎ (t ≤ u) → (t < u) ⊎ (u ≤ t) → u < t
          by_order (inl l) c = l
          by_order (inr h) (inl l) = let no : true ≡ false = sym (settled_below (marks items) t u l e) ∙ f in cc
          by_order (inr h) (inr g) = let same : u ≡ t = omega arith in
              let no : true ≡ false = sym e ∙ ap (is_settled items) same ∙ f in cc

      by_any : (b : Bool) → list_any any_at (filter (is_settled items) ts) ≡ b → late ≡ []
      by_any true e =
          let u = from_any any_at (filter (is_settled items) ts) e in
          let at = from_filter (is_settled items) ts u.0 u.1 in
          flat_none lines (filter (λ t. not (is_settled items t)) ts) (λ t i.
          let f = from_filter (λ t. not (is_settled items t)) ts t i in
          let before : list_any (λ v. nat_lt v t && any_at v) ts ≡ true = any_of (λ v. nat_lt v t && any_at v) ts u.0 at.0
          (and_from (nat_lt u.0 t) (any_at u.0) (lt-ltb u.0 t (settled_apart t u.0 at.1 (not-true (is_settled items t) f.1))) u.2) in
          flat_none (λ p. cond (is_due q (side items) (side items) ps ts t p) (value_line (side items) (side items) p t) []) ps
          (λ p k. rw (first, before, and_right (differs q.rule (side items) (side items) p t) false refl) refl))
      by_any false e =
          let none : lines_where q h ns items (is_settled items) ≡ [] = flat_none lines (filter (is_settled items) ts) (λ t i.
          no_lines t (by_test t (any_at t) refl i)) in
          let no = sym (ap is_empty none) ∙ full in cc
        where
          by_test : (t : ℕ) (b : Bool) → any_at t ≡ b → In t (filter (is_settled items) ts) → any_at t ≡ false
          by_test t true f i = let g = any_of any_at (filter (is_settled items) ts) t i f in cc
          by_test t false f i = f

  -- if the items end the run nothing is left
  ended : ends_run q h ns items ≡ true → late ≡ []
  ended e = elim (or_cases (list_any (is_mark_above q.to) items) (ends_with q.extent (lines_where q h ns items (is_settled items))) e) [
    | inl above ↦ none_late above
    | inr ends ↦ (let f = ends_first q.extent (lines_where q h ns items (is_settled items)) ends in none_after f.0 f.1)
  ]

  abbrev early : List ℕ
  early = lines_where q h ns items (is_settled items)

  abbrev front : List ℕ
  front = within_head q h ns

  -- if they do, what is written is all, and otherwise what follows at the end is the rest
  early_lines : ends_run q h ns items ≡ true → front ++ early ≡ front ++ flat_map lines ts
  early_lines e = ap (λ l. front ++ l)
      (sym (append-nil early) ∙ ap (λ l. early ++ l) (sym (ended e)) ∙ all_lines)

  late_lines : (front ++ early) ++ late ≡ front ++ flat_map lines ts
  late_lines = append_assoc front early late ∙ ap (λ l. front ++ l) all_lines

-- all lines, at all times in order
abbrev pub whole_answer : Asked → List Names → Opened → Outcome
whole_answer q ns o = answer_in q o.header ns (within_head q o.header ns
    ++ flat_map (lines_at q (compared_in q o.header ns) (side (items_in o)) (side (items_in o)) (times_in q (items_in o)))
    (times_in q (items_in o)))

pub ended_outcome : (q : Asked) (ns : List Names) (name : List ℕ) (o : Opened) → ends_run q o.header ns (items_in o) ≡ true
    → within_dump q ns name o ≡ whole_answer q ns o
unfolding within_dump within_open
ended_outcome q ns name o e = rw e (ap (answer_in q o.header ns) (early_lines q o.header ns (items_in o) e))

-- the outcome of a dump without a fault
pub whole_outcome : (q : Asked) (ns : List Names) (name : List ℕ) (o : Opened) → fault_in o ≡ None
    → within_dump q ns name o ≡ whole_answer q ns o
unfolding within_dump within_open within_close
whole_outcome q ns name o whole = by_end (ends_run q o.header ns (items_in o)) refl
  where
    by_end : (b : Bool) → ends_run q o.header ns (items_in o) ≡ b → within_dump q ns name o ≡ whole_answer q ns o
    by_end true e = ended_outcome q ns name o e
    by_end false e = rw (e, whole) (ap (answer_in q o.header ns) (late_lines q o.header ns (items_in o)))

pub faulty_outcome : (q : Asked) (ns : List Names) (name : List ℕ) (o : Opened) (f : Fault)
    → ends_run q o.header ns (items_in o) ≡ false → fault_in o ≡ Some f
    → within_dump q ns name o ≡ fault_after (within_open q o.header ns (items_in o)) name f
unfolding within_dump
faulty_outcome q ns name o f e fault = rw (e, fault) refl

pub within_opened : (q : Asked) (limit : ℕ) (ns : List Names) (name : List ℕ) (input : Input) (o : Opened)
    → Opens limit input o → within q limit ns name input ≡ within_dump q ns name o
unfolding within
within_opened q limit ns name input o opens = rw (opens, within) refl
