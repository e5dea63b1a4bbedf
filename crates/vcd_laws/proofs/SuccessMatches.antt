-- A comparison of two parts of a dump has status 0 if all of both matches, and only then.
use Rattle.vcd_laws.proofs.Cited.{◌≡◌, ◌≢◌, ℕ, zero, suc, ◌*◌, ◌<◌, ◌≤◌, ◌==◌, Bool, true, false, cond, not, ◌&&◌, ◌||◌, nat_lt, List, [], ◌∷◌, ◌++◌, length, flat_map, codes, Option, Some, None, ◌⊎◌, ◌↔◌, cases_lt, inl, inr, refl, sym, ap, ◌∙◌, arith, list_any, eq-eqb, ltb-true, lt-ltb, or_cases, or_parts, is_empty, code_of, Header, BodyItem, Asked, Extent, Fault, Names, Opened, Outcome, fault_outcome, items_in, fault_in, is_mark_above, words, as_line, join_with_byte, decimal, shown, ◌/◌}
use Rattle.std.proofs.Math.Nat.{one-mul}
use Rattle.vcd_model.specs.Items.{marks, time_after}
use Rattle.vcd_model.specs.Sample.{is_settled}
use Rattle.vcd_model.specs.Compare.{Named, Pair, alone_lines, answer, changes_at, differs, ends_with, fault_after, full_name, is_due, is_fit, kind_of, kind_shown, lines_at, state_at, unlike_lines, value_line}
use Rattle.vcd_model.specs.Compare.Extent.{First, EachPair, Always}
use Rattle.vcd_model.specs.Within.{alone_in, comparison, compared_in, ends_run, from_dump, lines_where, outermost, pairs_in, refused, side, times_in, turned, unlike_in, unselected, within, within_dump, within_head, within_open}
use Rattle.vcd_model.specs.Input.{Input}
use Rattle.vcd_laws.specs.KeptValues.{Opens}
use Rattle.vcd_laws.specs.Matching.{AllMatch, ComparisonIsWithin, IsReached, SuccessIsAMatch}
use Rattle.vcd_laws.proofs.RunLaws.{fault_status}
use Rattle.vcd_laws.proofs.WrittenCodes.{In, any_of, from_contained, from_filter, to_contained}
use Rattle.vcd_laws.proofs.MergedHead.{all_in}
use Rattle.vcd_laws.proofs.QuietTimes.{AreTimes, IsEven, any_none, chosen, differed, differed_before, before_in, flat_none, in_times, is_marked, last_before, last_in, marked_in}
use Rattle.vcd_laws.proofs.WholeWithin.{all_lines, ended_outcome, ends_first, faulty_outcome, no_lines, whole_answer, whole_outcome, within_opened}
use Rattle.vcd_laws.proofs.CompareOfMerge.{fit_even}

-- ---- texts without lines

pub parts_none : {X : Type 0} (xs ys : List X) → xs ++ ys ≡ [] → (xs ≡ []) × (ys ≡ [])
parts_none [] ys e = (refl, e)
parts_none (x ∷ xs) ys e = cc

pub both_none : {X : Type 0} (xs ys : List X) → xs ≡ [] → ys ≡ [] → xs ++ ys ≡ []
both_none xs ys e f = rw (e, f) refl

at_none : {X Y : Type 0} (f : X → List Y) (xs : List X) (x : X) → flat_map f xs ≡ [] → In x xs → f x ≡ []
at_none f [] x e i = absurd i
at_none f (y ∷ ys) x e (inl same) = ap f same ∙ (parts_none (f y) (flat_map f ys) e).0
at_none f (y ∷ ys) x e (inr i) = at_none f ys x (parts_none (f y) (flat_map f ys) e).1 i

line_some : (text : List ℕ) → as_line text ≡ [] → ⊥
line_some [] e = cc
line_some (b ∷ text) e = cc

words_some : (ws : List (List ℕ)) → words ws ≡ [] → ⊥
words_some ws e = line_some (join_with_byte 32 ws) e

none_of : {X : Type 0} (f : X → List (List ℕ)) (xs : List X) → flat_map (λ x. words (f x)) xs ≡ [] → xs ≡ []
none_of f [] e = refl
none_of f (x ∷ xs) e = absurd (words_some (f x) (parts_none (words (f x)) (flat_map (λ y. words (f y)) xs) e).0)

-- ---- the lines about the header

alone_none : (q : Asked) (h : Header) (ns : List Names)
    → flat_map (λ n. alone_lines (codes "A") (alone_in q h n)) ns ≡ []
    → flat_map (λ n. alone_lines (codes "B") (alone_in q h (turned n))) ns ≡ []
    → flat_map (λ n. alone_in q h n ++ alone_in q h (turned n)) ns ≡ []
alone_none q h [] e f = refl
alone_none q h (n ∷ ns) e f =
    let a = parts_none (alone_lines (codes "A") (alone_in q h n)) (flat_map (λ n. alone_lines (codes "A") (alone_in q h n)) ns) e in
    let b = parts_none (alone_lines (codes "B") (alone_in q h (turned n))) (flat_map (λ n. alone_lines (codes "B") (alone_in q h (turned n))) ns) f in
    both_none (alone_in q h n ++ alone_in q h (turned n)) (flat_map (λ n. alone_in q h n ++ alone_in q h (turned n)) ns)
    (both_none (alone_in q h n) (alone_in q h (turned n))
    (none_of (λ (v : Named). codes "alone" ∷ codes "A" ∷ full_name v ∷ []) (alone_in q h n) a.0)
    (none_of (λ (v : Named). codes "alone" ∷ codes "B" ∷ full_name v ∷ []) (alone_in q h (turned n)) b.0))
    (alone_none q h ns a.1 b.1)

no_alone : (q : Asked) (h : Header) (ns : List Names)
    → flat_map (λ n. alone_in q h n ++ alone_in q h (turned n)) ns ≡ []
    → (flat_map (λ n. alone_lines (codes "A") (alone_in q h n)) ns ≡ [])
    × (flat_map (λ n. alone_lines (codes "B") (alone_in q h (turned n))) ns ≡ [])
no_alone q h [] e = (refl, refl)
no_alone q h (n ∷ ns) e =
    let both = parts_none (alone_in q h n ++ alone_in q h (turned n)) (flat_map (λ n. alone_in q h n ++ alone_in q h (turned n)) ns) e in
    let one = parts_none (alone_in q h n) (alone_in q h (turned n)) both.0 in
    let more = no_alone q h ns both.1 in (
      both_none (alone_lines (codes "A") (alone_in q h n)) (flat_map (λ n. alone_lines (codes "A") (alone_in q h n)) ns) (ap (alone_lines (codes "A")) one.0) more.0,
      both_none (alone_lines (codes "B") (alone_in q h (turned n))) (flat_map (λ n. alone_lines (codes "B") (alone_in q h (turned n))) ns) (ap (alone_lines (codes "B")) one.1) more.1,
    )

-- ---- the lines of values

chosen_some : (e : Extent) (now : Bool) → chosen e false false now ≡ false → now ≡ false
chosen_some First now h = cc
chosen_some EachPair now h = cc
chosen_some Always now h = h

module _ (q : Asked) (h : Header) (ns : List Names) (items : List BodyItem) where
  abbrev ps : List Pair
  ps = compared_in q h ns

  abbrev ts : List ℕ
  ts = times_in q items

  abbrev differs_at : Pair → ℕ → Bool
  differs_at p t = differs q.rule (side items) (side items) p t

  even : (p : Pair) → In p ps → IsEven p
  even p i = fit_even p (from_filter is_fit (pairs_in q h ns) p i).1

  value_some : (t : ℕ) (p : Pair) → value_line (side items) (side items) p t ≡ [] → ⊥
  value_some t p e = words_some (codes "differs" ∷ decimal (t / 1) ∷ p.path
      ∷ shown (state_at 1 items (code_of p.one) t) ∷ shown (state_at 1 items (code_of p.other) t) ∷ []) e

  not_due : flat_map (lines_at q ps (side items) (side items) ts) ts ≡ [] → (t : ℕ) → In t ts → (p : Pair) → In p ps
      → is_due q (side items) (side items) ps ts t p ≡ false
  not_due none t i p k =
      by_test (is_due q (side items) (side items) ps ts t p)
      (at_none (λ p. cond (is_due q (side items) (side items) ps ts t p) (value_line (side items) (side items) p t) []) ps p
      (at_none (lines_at q ps (side items) (side items) ts) ts t none i) k)
    where
      by_test : (b : Bool) → cond b (value_line (side items) (side items) p t) [] ≡ [] → b ≡ false
      by_test true e = absurd (value_some t p e)
      by_test false e = refl

  -- a pair that has no line at a time, and did not differ before, does not differ then
  no_first : (t : ℕ) → In t ts → (p : Pair) → In p ps → is_due q (side items) (side items) ps ts t p ≡ false
      → ((u : ℕ) → u < t → In u ts → (o : Pair) → In o ps → differs_at o u ≡ false) → differs_at p t ≡ false
  no_first t i p k due before = by_test (differs_at p t) refl
    where
      any : Bool
      any = list_any (λ u. nat_lt u t && list_any (λ o. differs q.rule (side items) (side items) o u) (compared_in q h ns)) (times_in q items)

      own : Bool
      own = list_any (λ u. nat_lt u t && differs q.rule (side items) (side items) p u) (times_in q items)

      now : Bool
      now = t == 1 * q.from || changes_at (side items) (code_of p.one) t || changes_at (side items) (code_of p.other) t

      none : (X : ℕ → Bool) → ((u : ℕ) → u < t → In u (times_in q items) → X u ≡ false)
          → list_any (λ u. nat_lt u t && X u) (times_in q items) ≡ false
      none X fails = any_none (λ u. nat_lt u t && X u) (times_in q items)
          (all_in (λ (u : ℕ). (nat_lt u t && X u) ≡ false) (times_in q items) (λ u j. by_less u j (nat_lt u t) refl))
        where
          by_less : (u : ℕ) → In u (times_in q items) → (b : Bool) → nat_lt u t ≡ b → (nat_lt u t && X u) ≡ false
          by_less u j true e = rw (e, fails u (ltb-true u t e) j) refl
          by_less u j false e = rw e refl

      by_test : (b : Bool) → differs_at p t ≡ b → differs_at p t ≡ false
      by_test false d = d
      by_test true d =
          let nothing : any ≡ false = none (λ u. list_any (λ o. differs_at o u) ps) (λ u l j.
          any_none (λ o. differs_at o u) ps (all_in (λ (o : Pair). differs_at o u ≡ false) ps (λ o m. before u l j o m))) in
          let never : own ≡ false = none (differs_at p) (λ u l j. before u l j p k) in
          let chose : chosen q.extent any own now ≡ false
          = sym (ap (λ b. b && chosen q.extent any own now) d) ∙ due in
          let quiet : now ≡ false = chosen_some q.extent now
          (sym (ap (λ b. chosen q.extent b own now) nothing ∙ ap (λ b. chosen q.extent false b now) never) ∙ chose) in
          let one = or_parts (t == 1 * q.from || changes_at (side items) (code_of p.one) t) (changes_at (side items) (code_of p.other) t) quiet in
          let two = or_parts (t == 1 * q.from) (changes_at (side items) (code_of p.one) t) one.0 in
          let window = in_times q items t i in
          let low = window.0 in
          let high = window.1 in
          let ne : t ≡ q.from → ⊥ = λ e. (let no : true ≡ false = sym (eq-eqb t (1 * q.from) (e ∙ sym (one-mul q.from))) ∙ two.0 in cc) in
          let later : q.from < t = omega (arith, ne) in
          let last = last_in q.from items t later in
          let less = last.0 in
          let there : In (last_before q.from items t) ts = marked_in q items (last_before q.from items t)
          (any_of (λ u. last_before q.from items t == u) (q.from ∷ marks items) (last_before q.from items t) last.2
          (eq-eqb (last_before q.from items t) (last_before q.from items t) refl)) last.1 (omega arith) in
          let did = differed q.from items q.rule p t (even p k) later two.1 one.1 d in
          let not = before (last_before q.from items t) less there p k in
          let no : true ≡ false = sym did ∙ not in cc

  none_below : flat_map (lines_at q ps (side items) (side items) ts) ts ≡ [] → (n t : ℕ) → t < n → In t ts → (p : Pair) → In p ps
      → differs_at p t ≡ false
  none_below none zero t l i p k = absurd (omega arith)
  none_below none (suc n) t l i p k = no_first t i p k (not_due none t i p k)
      (λ u less j o m. none_below none n u (omega arith) j o m)

  -- if no line is due, no pair differs at any time
  no_difference : flat_map (lines_at q ps (side items) (side items) ts) ts ≡ [] → (p : Pair) (t : ℕ) → In p ps
      → q.from ≤ t → t ≤ q.to → differs_at p t ≡ false
  no_difference none p t k low high = by_mark (is_marked q items ps ts q.to t) refl
    where
      are : AreTimes q items (compared_in q h ns) (t ∷ times_in q items) q.to
      are = record {
        inside = λ u i. elim i [
          | inl same ↦ (omega arith, omega arith)
          | inr j ↦ in_times q items u j
        ];
        full = λ u e l g. inr (marked_in q items u e l g);
      }

      by_mark : (b : Bool) → is_marked q items ps ts q.to t ≡ b → differs_at p t ≡ false
      by_mark true e = none_below none (suc t) t (omega arith) (marked_in q items t e low high) p k
      by_mark false e = by_test (differs_at p t) refl
        where
          by_test : (b : Bool) → differs_at p t ≡ b → differs_at p t ≡ false
          by_test false d = d
          by_test true d =
              let did = differed_before q items ps (t ∷ ts) q.to are even p t k (inl refl) e d in
              let place = before_in q items ps (t ∷ ts) q.to are even t (inl refl) e in
              let less = place.0 in
              let w = last_before q.from items t in
              let there : In w ts = by_place w less (from_filter (is_marked q items ps (t ∷ ts) q.to) (t ∷ ts) w place.1).0 in
              let no : true ≡ false = sym did ∙ none_below none (suc w) w (omega arith) there p k in cc
            where
              by_place : (w : ℕ) → w < t → In w (t ∷ times_in q items) → In w (times_in q items)
              by_place w less (inl same) = absurd (omega arith)
              by_place w less (inr j) = j

  no_values : ((p : Pair) (t : ℕ) → In p ps → q.from ≤ t → t ≤ q.to → differs_at p t ≡ false)
      → flat_map (lines_at q ps (side items) (side items) ts) ts ≡ []
  no_values none = flat_none (lines_at q ps (side items) (side items) ts) ts (λ t i.
      let window = in_times q items t i in
      no_lines q h ns items t (any_none (λ o. differs_at o t) ps
      (all_in (λ (o : Pair). differs_at o t ≡ false) ps (λ o k. none o t k window.0 window.1))))

-- ---- the status

zero_of : (n : ℕ) (lines : List ℕ) → (answer n lines).status ≡ 0 → (lines ≡ []) × (0 < n)
zero_of n (b ∷ lines) e = cc
zero_of n [] e = by_test (nat_lt 0 n) refl e
  where
    by_test : (b : Bool) → nat_lt 0 n ≡ b → ◌≡◌ {A = ℕ} (cond b 0 1) 0 → (◌≡◌ {A = List ℕ} [] []) × (0 < n)
    by_test true f g = (refl, ltb-true 0 n f)
    by_test false f g = cc

to_zero : (n : ℕ) (lines : List ℕ) → lines ≡ [] → 0 < n → (answer n lines).status ≡ 0
to_zero n lines e l = rw (e, lt-ltb 0 n l) refl

some_of : {X : Type 0} (xs : List X) → 0 < length xs → xs ≢ []
some_of [] l e = absurd (omega arith)
some_of (x ∷ xs) l e = cc

to_some : {X : Type 0} (xs : List X) → xs ≢ [] → 0 < length xs
to_some [] ne = absurd (ne refl)
to_some (x ∷ xs) ne = omega arith

module _ (q : Asked) (ns : List Names) (o : Opened) where
  abbrev Matches : Type 0
  Matches = AllMatch q.rule (side (items_in o)) (side (items_in o)) (compared_in q o.header ns)
      (flat_map (λ n. alone_in q o.header n ++ alone_in q o.header (turned n)) ns) (unlike_in q o.header ns) q.from q.to

  abbrev values : List ℕ
  values = flat_map (lines_at q (compared_in q o.header ns) (side (items_in o)) (side (items_in o)) (times_in q (items_in o)))
      (times_in q (items_in o))

  pub from_status : (whole_answer q ns o).status ≡ 0 → Matches
  unfolding within_head
  from_status e =
      let good = zero_of (length (compared_in q o.header ns)) (within_head q o.header ns ++ values) e in
      let all = parts_none (within_head q o.header ns) values good.0 in
      let first = flat_map (λ n. alone_lines (codes "A") (alone_in q o.header n)) ns in
      let second = flat_map (λ n. alone_lines (codes "B") (alone_in q o.header (turned n))) ns in
      let head = parts_none (first ++ second) (unlike_lines (unlike_in q o.header ns)) all.0 in
      let both = parts_none first second head.0 in
      record {
        some = some_of (compared_in q o.header ns) good.1;
        none_alone = alone_none q o.header ns both.0 both.1;
        none_different = none_of (λ (p : Pair). codes "size" ∷ p.path ∷ kind_shown (kind_of p.one) ∷ kind_shown (kind_of p.other) ∷ [])
            (unlike_in q o.header ns) head.1;
        states = λ p t i low high. no_difference q o.header ns (items_in o) all.1 p t
            (from_contained (compared_in q o.header ns) p i) low high;
      }

  pub to_status : Matches → (whole_answer q ns o).status ≡ 0
  unfolding within_head
  to_status m =
      let first = flat_map (λ n. alone_lines (codes "A") (alone_in q o.header n)) ns in
      let second = flat_map (λ n. alone_lines (codes "B") (alone_in q o.header (turned n))) ns in
      let alone = no_alone q o.header ns m.none_alone in
      to_zero (length (compared_in q o.header ns)) (within_head q o.header ns ++ values)
      (both_none (within_head q o.header ns) values
      (both_none (first ++ second) (unlike_lines (unlike_in q o.header ns)) (both_none first second alone.0 alone.1)
      (ap unlike_lines m.none_different))
      (no_values q o.header ns (items_in o)
      (λ p t i low high. m.states p t (to_contained (compared_in q o.header ns) p i) low high)))
      (to_some (compared_in q o.header ns) m.some)

-- a fault has another status
fault_other : (lines name : List ℕ) (f : Fault) → (fault_after lines name f).status ≢ 0
fault_other lines name f e = by_test ((fault_outcome lines name f).status == 1) e
  where
    by_test : (b : Bool) → ◌≡◌ {A = ℕ} (cond b 2 (fault_outcome lines name f).status) 0 → ⊥
    by_test true g = cc
    by_test false g = fault_status lines name f g

module _ (q : Asked) (ns : List Names) (name : List ℕ) (o : Opened) where
  abbrev items : List BodyItem
  items = items_in o

  abbrev EndsThere : Type 0
  EndsThere = (fault_in o ≡ None) ⊎ (list_any (is_mark_above q.to) items ≡ true)

  above_end : ends_run q o.header ns items ≡ true → (within_dump q ns name o).status ≡ 0
      → (list_any (is_mark_above q.to) items ≡ true) × Matches q ns o
  above_end e good =
      let is : (whole_answer q ns o).status ≡ 0 = sym (ap (λ (x : Outcome). x.status) (ended_outcome q ns name o e)) ∙ good in
      let m = from_status q ns o is in
      (by_why (or_cases (list_any (is_mark_above q.to) items) (ends_with q.extent (lines_where q o.header ns items (is_settled items))) e) m, m)
    where
      by_why : (list_any (is_mark_above q.to) (items_in o) ≡ true)
          ⊎ (ends_with q.extent (lines_where q o.header ns (items_in o) (is_settled (items_in o))) ≡ true)
          → Matches q ns o → list_any (is_mark_above q.to) (items_in o) ≡ true
      by_why (inl above) m = above
      by_why (inr ends) m =
          let early = lines_where q o.header ns (items_in o) (is_settled (items_in o)) in
          let full = ends_first q.extent early ends in
          let none : early ≡ [] = (parts_none early (lines_where q o.header ns (items_in o) (λ t. not (is_settled (items_in o) t)))
          (all_lines q o.header ns (items_in o) ∙ no_values q o.header ns (items_in o)
          (λ p t i low high. m.states p t (to_contained (compared_in q o.header ns) p i) low high))).0 in
          let no : true ≡ false = sym (ap is_empty none) ∙ full.1 in
          cc

  pub from_zero : (within_dump q ns name o).status ≡ 0 → EndsThere × Matches q ns o
  from_zero good = by_end (ends_run q o.header ns items) refl
    where
      by_fault : (f : Option Fault) → fault_in o ≡ f → ends_run q o.header ns (items_in o) ≡ false → EndsThere × Matches q ns o
      by_fault None e end = (inl e, from_status q ns o (sym (ap (λ (x : Outcome). x.status) (whole_outcome q ns name o e)) ∙ good))
      by_fault (Some f) e end = absurd (fault_other (within_open q o.header ns (items_in o)) name f
          (sym (ap (λ (x : Outcome). x.status) (faulty_outcome q ns name o f end e)) ∙ good))

      by_end : (b : Bool) → ends_run q o.header ns (items_in o) ≡ b → EndsThere × Matches q ns o
      by_end true e = let f = above_end e good in (inr f.0, f.1)
      by_end false e = by_fault (fault_in o) refl e

  pub to_end : EndsThere × Matches q ns o → (within_dump q ns name o).status ≡ 0
  to_end x = by_why x.0 (to_status q ns o x.1)
    where
      by_why : EndsThere → (whole_answer q ns o).status ≡ 0 → (within_dump q ns name o).status ≡ 0
      by_why (inl e) good = ap (λ (x : Outcome). x.status) (whole_outcome q ns name o e) ∙ good
      by_why (inr above) good = ap (λ (x : Outcome). x.status) (ended_outcome q ns name o
          (rw above refl)) ∙ good

-- ---- what is refused

module _ (q : Asked) (ns : List Names) (name : List ℕ) (o : Opened) where
  abbrev Reached : Type 0
  Reached = IsReached q o

  ended_same : ends_run q o.header ns (items_in o) ≡ true → from_dump q ns name o ≡ within_dump q ns name o
  unfolding from_dump within_dump
  ended_same e = rw e refl

  -- unless the dump ends before the first time
  in_time : nat_lt (time_after (items_in o)) q.from ≡ false → from_dump q ns name o ≡ within_dump q ns name o
  unfolding from_dump within_dump
  in_time late = by_end (ends_run q o.header ns (items_in o)) refl
    where
      by_fault : (f : Option Fault) → fault_in o ≡ f → ends_run q o.header ns (items_in o) ≡ false → from_dump q ns name o ≡ within_dump q ns name o
      by_fault None f e = rw (e, f, late) refl
      by_fault (Some x) f e = rw (e, f) refl

      by_end : (b : Bool) → ends_run q o.header ns (items_in o) ≡ b → from_dump q ns name o ≡ within_dump q ns name o
      by_end true e = ended_same e
      by_end false e = by_fault (fault_in o) refl e

  -- a fault, or the end before the first time
  faulty_same : (f : Fault) → ends_run q o.header ns (items_in o) ≡ false → fault_in o ≡ Some f
      → from_dump q ns name o ≡ fault_after (within_open q o.header ns (items_in o)) name f
  unfolding from_dump
  faulty_same f e fault = rw (e, fault) refl

  late_is : ends_run q o.header ns (items_in o) ≡ false → fault_in o ≡ None → nat_lt (time_after (items_in o)) q.from ≡ true
      → (from_dump q ns name o).status ≡ 2
  unfolding from_dump
  late_is e fault l = rw (e, fault, l) refl

  not_after : nat_lt (time_after (items_in o)) q.from ≡ false → q.from ≤ time_after (items_in o)
  not_after e = elim (cases_lt (time_after (items_in o)) q.from) [
    | inl l ↦ (let no : true ≡ false = sym (lt-ltb (time_after (items_in o)) q.from l) ∙ e in cc)
    | inr g ↦ g
  ]

  reached_same : Reached → from_dump q ns name o ≡ within_dump q ns name o
  reached_same (inl x) = by_late (nat_lt (time_after (items_in o)) q.from) refl
    where
      by_late : (b : Bool) → nat_lt (time_after (items_in o)) q.from ≡ b → from_dump q ns name o ≡ within_dump q ns name o
      by_late true e = let l = ltb-true (time_after (items_in o)) q.from e in let g = x.1 in absurd (omega arith)
      by_late false e = in_time e
  reached_same (inr above) = ended_same (rw above refl)

  reached_from : (from_dump q ns name o).status ≡ 0 → Reached × Matches q ns o
  reached_from good = by_end (ends_run q o.header ns (items_in o)) refl
    where
      by_late : (b : Bool) → nat_lt (time_after (items_in o)) q.from ≡ b → ends_run q o.header ns (items_in o) ≡ false → fault_in o ≡ None
          → Reached × Matches q ns o
      by_late true l e f = let no : ◌≡◌ {A = ℕ} 2 0 = sym (late_is e f l) ∙ good in absurd (omega (arith, no))
      by_late false l e f = (inl (f, not_after l), (from_zero q ns name o (sym (ap (λ (x : Outcome). x.status) (in_time l)) ∙ good)).1)

      by_fault : (f : Option Fault) → fault_in o ≡ f → ends_run q o.header ns (items_in o) ≡ false → Reached × Matches q ns o
      by_fault None f e = by_late (nat_lt (time_after (items_in o)) q.from) refl e f
      by_fault (Some x) f e = absurd (fault_other (within_open q o.header ns (items_in o)) name x
          (sym (ap (λ (x : Outcome). x.status) (faulty_same x e f)) ∙ good))

      by_end : (b : Bool) → ends_run q o.header ns (items_in o) ≡ b → Reached × Matches q ns o
      by_end true e = let f = above_end q ns name o e (sym (ap (λ (x : Outcome). x.status) (ended_same e)) ∙ good) in (inr f.0, f.1)
      by_end false e = by_fault (fault_in o) refl e

  reached_to : Reached → Matches q ns o → (from_dump q ns name o).status ≡ 0
  reached_to r m = ap (λ (x : Outcome). x.status) (reached_same r) ∙ to_end q ns name o (ends r, m)
    where
      ends : Reached → (fault_in o ≡ None) ⊎ (list_any (is_mark_above q.to) (items_in o) ≡ true)
      ends (inl x) = inl x.0
      ends (inr above) = inr above

-- the outcome of an input, by what selects nothing
abbrev outcome_by : Asked → List Names → List ℕ → Opened → Option (List ℕ) → Outcome
outcome_by q ns name o (Some one) = refused one
outcome_by q ns name o None = from_dump q (outermost ns) name o

comparison_opened : (q : Asked) (limit : ℕ) (ns : List Names) (name : List ℕ) (input : Input) (o : Opened)
    → Opens limit input o → comparison q limit ns name input ≡ outcome_by q ns name o (unselected q o.header ns)
unfolding comparison
comparison_opened q limit ns name input o opens = rw (opens, comparison) refl

pub comparison_is_within : ComparisonIsWithin
comparison_is_within q limit ns name input o opens none reached =
    comparison_opened q limit ns name input o opens ∙ ap (outcome_by q ns name o) none
    ∙ reached_same q (outermost ns) name o reached ∙ sym (within_opened q limit (outermost ns) name input o opens)

-- the same of `within`
pub within_is_a_match : (q : Asked) (limit : ℕ) (ns : List Names) (name : List ℕ) (input : Input) (o : Opened) → Opens limit input o
    → ((within q limit ns name input).status ≡ 0)
    ↔ (((fault_in o ≡ None) ⊎ (list_any (is_mark_above q.to) (items_in o) ≡ true)) × Matches q ns o)
within_is_a_match q limit ns name input o opens = (
  λ good. from_zero q ns name o (sym (ap (λ (x : Outcome). x.status) (within_opened q limit ns name input o opens)) ∙ good),
  λ all. ap (λ (x : Outcome). x.status) (within_opened q limit ns name input o opens) ∙ to_end q ns name o all,
)

pub success_is_a_match : SuccessIsAMatch
success_is_a_match q limit ns name input o opens = (
  λ good. by_name (unselected q o.header ns) refl
      (sym (ap (λ (x : Outcome). x.status) (comparison_opened q limit ns name input o opens)) ∙ good),
  λ all. ap (λ (x : Outcome). x.status) (comparison_opened q limit ns name input o opens ∙ ap (outcome_by q ns name o) all.0)
      ∙ reached_to q (outermost ns) name o all.1 all.2,
)
  where
    by_name : (one : Option (List ℕ)) → unselected q o.header ns ≡ one → (outcome_by q ns name o one).status ≡ 0
        → (unselected q o.header ns ≡ None) × IsReached q o × Matches q (outermost ns) o
    by_name None e good = let f = reached_from q (outermost ns) name o good in (e, f.0, f.1)
    by_name (Some x) e good = cc
