-- The rows of each class, and those that have a line due.
use Rattle.std.proofs.Common.{◌≡◌, ◌≢◌, ◌⊎◌, inl, inr, ℕ, suc, ◌+◌, ◌<◌, ◌≤◌, ◌==◌, ◌&&◌, ◌||◌, not, Bool, true, false, cond, List, [], ◌∷◌, ◌++◌, length, map, take, set, get_or, slice_get, nat_le, Some, refl, sym, ap, subst, ◌∙◌, arith}
use Prim.Native.Nat.{zero}
use Rattle.std.proofs.lemmas.Bool.{eq-eqb, ne_eqb, cases_lt, cases_eq, le-leb, leb-true}
use Rattle.std.proofs.Math.Bool.{and-false, or-false, or-true}
use Rattle.std.proofs.lemmas.Option.{get_or_from_slice_get, same_Some, slice_get-get_or, slice_get_within}
use Rattle.std.proofs.lemmas.List.{take_more_set, take_all, length-take-le, length-set, length_push, get_or-set_same, get_or-set_other, get_or_past, length-map, get_or-map}
use Rattle.vcd_compare.specs.Touched.{settled_as, taken}
use Rattle.vcd_compare.specs.Rows.{AreDue, AreLinkedRows, IsLastRow, classes_of, is_flagged, is_of, was_flagged}
use Rattle.vcd_run.proofs.Once.{fits, times_push}
use Rattle.vcd_run.specs.Listed.{chosen, times}
use Rattle.vcd_compare.proofs.Cited.{Option, None, ap₂, flat_map, flat_map-append, option_map, AllZip, AllZip-long, slice_get-map, slice_get_cases, Pair, value_line, side, HeadView}
use Rattle.vcd_compare.specs.LineTexts.{ArePairLines, AreRowLines, line_at}
use Rattle.vcd_compare.specs.Pairs.{IsPairAt}
use Rattle.vcd_compare.specs.declared.current.Current.{Current}
use Rattle.vcd_compare.specs.declared.pairs.PairRow.{PairRow}
use Rattle.vcd_compare.proofs.VariableLemmas.{take_next}
use Rattle.vcd_compare.proofs.PlaceLemmas.{zip_at}
use Rattle.vcd_compare.proofs.TouchedLemmas.{one_within}

pub le-not : (a b : ℕ) → b < a → nat_le a b ≡ false
le-not a b lt = by_value (nat_le a b) refl
  where
    by_value : (v : Bool) → nat_le a b ≡ v → nat_le a b ≡ false
    by_value true e = let le = leb-true a b e in absurd (omega (arith, le, lt))
    by_value false e = e

-- ---- the rows of a class

pub linked_first : (classes last earlier : List ℕ) → ((class : ℕ) → get_or last class 0 ≡ 0) → AreLinkedRows classes 0 last earlier
linked_first classes last earlier zeros = record {
  from = λ class lt. record { within = (let z = zeros class in omega (arith, z)); is = λ i e. (let z = zeros class in absurd (omega (arith, z, e))); none = λ i le lt. absurd (omega (arith, lt)) };
  each = λ i class lt at low. absurd (omega (arith, lt));
}

pub linked_next : (classes last earlier : List ℕ) (k class : ℕ) → slice_get classes k ≡ Some class → length classes ≤ length earlier → AreLinkedRows classes k last earlier
    → AreLinkedRows classes (k + 1) (set last class (k + 1)) (set earlier k (get_or last class 0))
linked_next classes last earlier k class at room s = record {
  from = λ c lt. from c (let len = length-set last class (k + 1) in omega (arith, lt, len)) (cases_eq c class);
  each = λ i c lt here low. each i c lt here (let len = length-set last class (k + 1) in omega (arith, low, len)) (cases_eq i k);
}
  where
    from : (c : ℕ) → c < length last → (c ≡ class) ⊎ (c ≢ class) → IsLastRow classes (k + 1) c (get_or (set last class (k + 1)) c 0)
    from c lt (inl e) =
        let here : get_or (set last class (k + 1)) c 0 ≡ k + 1 = ap (λ j. get_or (set last class (k + 1)) j 0) e ∙ get_or-set_same last class (k + 1) 0 (omega (arith, lt, e)) in
        record {
          within = omega (arith, here);
          is = λ i q. ap (slice_get classes) (omega (arith, here, q)) ∙ at ∙ ap (λ j. Some j) (sym e);
          none = λ i le below. absurd (omega (arith, here, le, below));
        }
    from c lt (inr d) =
        let old = s.from c lt in
        let same : get_or (set last class (k + 1)) c 0 ≡ get_or last c 0 = get_or-set_other last class c (k + 1) 0 d in
        record {
          within = (let w = old.within in omega (arith, same, w));
          is = λ i q. old.is i (sym same ∙ q);
          none = λ i le below here. by_index i (omega (arith, le, same)) below here (cases_eq i k);
        }
      where
        by_index : (i : ℕ) → get_or last c 0 ≤ i → i < k + 1 → slice_get classes i ≡ Some c → (i ≡ k) ⊎ (i ≢ k) → ⊥
        by_index i le below here (inl e) = d (same_Some c class (sym here ∙ ap (slice_get classes) e ∙ at))
        by_index i le below here (inr n) = (s.from c lt).none i le (omega (arith, below, n)) here

    each : (i c : ℕ) → i < k + 1 → slice_get classes i ≡ Some c → c < length last → (i ≡ k) ⊎ (i ≢ k) → IsLastRow classes i c (get_or (set earlier k (get_or last class 0)) i 0)
    each i c lt here low (inl e) =
        let is : c ≡ class = same_Some c class (sym here ∙ ap (slice_get classes) e ∙ at) in
        let within = slice_get_within classes k class at in
        let there : get_or (set earlier k (get_or last class 0)) i 0 ≡ get_or last c 0 = ap (λ j. get_or (set earlier k (get_or last class 0)) j 0) e
        ∙ get_or-set_same earlier k (get_or last class 0) 0 (omega (arith, within, room)) ∙ ap (λ j. get_or last j 0) (sym is) in
        subst (IsLastRow classes i c) (sym there) (subst (λ j. IsLastRow classes j c (get_or last c 0)) (sym e) (s.from c low))
    each i c lt here low (inr d) = subst (IsLastRow classes i c) (sym (get_or-set_other earlier k i (get_or last class 0) 0 d)) (s.each i c (omega (arith, lt, d)) here low)

pub is_of_true : (classes : List ℕ) (class i : ℕ) → slice_get classes i ≡ Some class → is_of classes class i ≡ true
is_of_true classes class i at = eq-eqb (get_or classes i (suc class)) class (get_or_from_slice_get classes i class (suc class) at)

pub is_of_false : (classes : List ℕ) (class i : ℕ) → slice_get classes i ≢ Some class → is_of classes class i ≡ false
is_of_false classes class i none = ne_eqb (get_or classes i (suc class)) class (λ e. by_bound e (cases_lt i (length classes)))
  where
    by_bound : get_or classes i (suc class) ≡ class → (i < length classes) ⊎ (length classes ≤ i) → ⊥
    by_bound e (inl lt) = none (slice_get-get_or classes i (suc class) lt ∙ ap (λ j. Some j) e)
    by_bound e (inr le) = let past : get_or classes i (suc class) ≡ suc class = get_or_past classes i (suc class) le in omega (arith, e, past)

pub due_as : (due : List ℕ) (count : ℕ) (p q : ℕ → Bool) → ((i : ℕ) → p i ≡ q i) → AreDue due count p → AreDue due count q
due_as due count p q same s = record { within = s.within; once = λ i. s.once i ∙ ap (λ b. cond b 1 0) (same i) }

-- those of the class from a row on
abbrev pub with_class : (ℕ → Bool) → List ℕ → (class left : ℕ) → ℕ → Bool
with_class passes classes class left i = passes i || (nat_le left i && is_of classes class i)

module _ (classes : List ℕ) (class : ℕ) (passes : ℕ → Bool) where
  pub class_first : (due : List ℕ) (count left : ℕ) → IsLastRow classes (length classes) class left → AreDue due count passes → AreDue due count (with_class passes classes class left)
  class_first due count left is = due_as due count passes (with_class passes classes class left) same
    where
      same : (i : ℕ) → passes i ≡ with_class passes classes class left i
      same i = by_order (cases_lt i left)
        where
          none : (i : ℕ) → left ≤ i → slice_get classes i ≢ Some class
          none i le at = is.none i le (slice_get_within classes i class at) at

          by_order : (i < left) ⊎ (left ≤ i) → passes i ≡ with_class passes classes class left i
          by_order (inl lt) = sym (ap (λ b. passes i || (b && is_of classes class i)) (le-not left i lt) ∙ or-false (passes i))
          by_order (inr le) = sym (ap (λ b. passes i || (nat_le left i && b)) (is_of_false classes class i (none i le))
              ∙ ap (λ b. passes i || b) (and-false (nat_le left i)) ∙ or-false (passes i))

  pub class_next : (due : List ℕ) (count row next : ℕ) → length classes ≤ length due → ((i : ℕ) → length classes ≤ i → passes i ≡ false)
      → passes row ≡ false → slice_get classes row ≡ Some class → IsLastRow classes row class next
      → AreDue due count (with_class passes classes class (suc row)) → (count < length classes) × AreDue (set due count row) (count + 1) (with_class passes classes class next)
  class_next due count row next room low not_row at is s = (below, record { within = (let len = length-set due count row in omega (arith, below, room, len)); once = λ i. once i })
    where
      rows : List ℕ
      rows = take count due ++ row ∷ []

      tail : (i : ℕ) → i ≢ row → with_class passes classes class (suc row) i ≡ with_class passes classes class next i
      tail i d = by_order (cases_lt i next) (cases_lt i (suc row))
        where
          by_order : (i < next) ⊎ (next ≤ i) → (i < suc row) ⊎ (suc row ≤ i) → with_class passes classes class (suc row) i ≡ with_class passes classes class next i
          by_order (inl a) (inl b) = ap (λ c. passes i || (c && is_of classes class i)) (le-not (suc row) i b ∙ sym (le-not next i a))
          by_order (inl a) (inr b) = let w = is.within in absurd (omega (arith, a, b, w))
          by_order (inr a) (inl b) =
              let no = is_of_false classes class i (is.none i a (omega (arith, b, d))) in
              ap (λ c. passes i || (nat_le (suc row) i && c)) no ∙ ap (λ c. passes i || c) (and-false (nat_le (suc row) i)
              ∙ sym (and-false (nat_le next i))) ∙ ap (λ c. passes i || (nat_le next i && c)) (sym no)
          by_order (inr a) (inr b) = ap (λ c. passes i || (c && is_of classes class i)) (le-leb (suc row) i b ∙ sym (le-leb next i a))

      its_row : with_class passes classes class next row ≡ true
      its_row = ap (λ c. c || (nat_le next row && is_of classes class row)) not_row ∙ ap (λ c. c && is_of classes class row) (le-leb next row is.within) ∙ is_of_true classes class row at

      not_yet : with_class passes classes class (suc row) row ≡ false
      not_yet = ap (λ c. c || (nat_le (suc row) row && is_of classes class row)) not_row ∙ ap (λ c. c && is_of classes class row) (le-not (suc row) row (omega arith))

      rows_once : (i : ℕ) → times i rows ≡ cond (with_class passes classes class next i) 1 0
      rows_once i = by_row (cases_eq i row)
        where
          many : times i rows ≡ times i (take count due) + cond (row == i) 1 0
          many = times_push i row (take count due)

          by_row : (i ≡ row) ⊎ (i ≢ row) → times i rows ≡ cond (with_class passes classes class next i) 1 0
          by_row (inl e) =
              let old : times i (take count due) ≡ 0 = s.once i ∙ ap (λ b. cond {A = ℕ} b 1 0) (ap (with_class passes classes class (suc row)) e ∙ not_yet) in
              let one : cond {A = ℕ} (row == i) 1 0 ≡ 1 = ap (λ b. cond {A = ℕ} b 1 0) (eq-eqb row i (sym e)) in
              let its : cond {A = ℕ} (with_class passes classes class next i) 1 0 ≡ 1 = ap (λ b. cond {A = ℕ} b 1 0) (ap (with_class passes classes class next) e ∙ its_row) in
              omega (arith, many, old, one, its)
          by_row (inr d) =
              let old : times i (take count due) ≡ cond (with_class passes classes class next i) 1 0 = s.once i ∙ ap (λ b. cond {A = ℕ} b 1 0) (tail i d) in
              let none : cond {A = ℕ} (row == i) 1 0 ≡ 0 = ap (λ b. cond {A = ℕ} b 1 0) (ne_eqb row i (λ e. d (sym e))) in
              omega (arith, many, old, none)

      at_most : (b : Bool) → cond {A = ℕ} b 1 0 ≤ 1
      at_most true = omega arith
      at_most false = omega arith

      past_none : (i : ℕ) → length classes ≤ i → times i rows ≡ 0
      past_none i le =
          let no = is_of_false classes class i (λ here. let w = slice_get_within classes i class here in omega (arith, le, w)) in
          rows_once i ∙ ap (λ b. cond {A = ℕ} b 1 0) (ap (λ c. c || (nat_le next i && is_of classes class i)) (low i le) ∙ ap (λ c. nat_le next i && c) no ∙ and-false (nat_le next i))

      below : count < length classes
      below =
          let few = fits (length classes) rows (λ i. subst (λ n. n ≤ 1) (sym (rows_once i)) (at_most (with_class passes classes class next i))) past_none in
          let len = length_push (take count due) row in
          let front = length-take-le count due s.within in
          omega (arith, few, len, front)

      once : (i : ℕ) → times i (take (count + 1) (set due count row)) ≡ cond (with_class passes classes class next i) 1 0
      once i = ap (times i) (take_more_set due count row (omega (arith, below, room))) ∙ rows_once i

-- ---- the rows of all classes whose flag is 1

pub no_row : (bytes classes : List ℕ) (i : ℕ) → length classes ≤ i → is_flagged bytes classes i ≡ false
no_row bytes classes i le =
    let len = length-map classes (λ class. get_or bytes class 0) in
    ap (λ n. n == 1) (get_or_past (map (λ class. get_or bytes class 0) classes) i 0 (omega (arith, le, len)))

its_flag : (bytes classes : List ℕ) (class i : ℕ) → slice_get classes i ≡ Some class → is_flagged bytes classes i ≡ (get_or bytes class 0 == 1)
its_flag bytes classes class i at =
    let within = slice_get_within classes i class at in
    ap (λ n. n == 1) (get_or-map (λ class. get_or bytes class 0) classes i 0 0 within ∙ ap (λ k. get_or bytes k 0) (get_or_from_slice_get classes i class 0 at))

module _ (bytes classes : List ℕ) (class after : ℕ) (other : after ≢ 1) where
  taken_here : get_or bytes class 0 ≡ 1 → get_or (taken class after bytes) class 0 ≡ after
  taken_here one =
      ap (λ b. get_or (cond b (set bytes class after) bytes) class 0) (eq-eqb (get_or bytes class 0) 1 one) ∙ get_or-set_same bytes class after 0 (one_within bytes class one)

  taken_there : (k : ℕ) → k ≢ class → get_or (taken class after bytes) k 0 ≡ get_or bytes k 0
  taken_there k d = by_test (get_or bytes class 0 == 1)
    where
      by_test : (b : Bool) → get_or (cond b (set bytes class after) bytes) k 0 ≡ get_or bytes k 0
      by_test true = get_or-set_other bytes class k after 0 d
      by_test false = refl

  taken_not : get_or bytes class 0 ≢ 1 → taken class after bytes ≡ bytes
  taken_not d = ap (λ b. cond b (set bytes class after) bytes) (ne_eqb (get_or bytes class 0) 1 d)

  -- what becomes of the flags, and of the rows whose flag was 1
  module _ (old : List ℕ) (each : (k : ℕ) → (get_or bytes k 0 ≡ get_or old k 0) ⊎ ((get_or old k 0 ≡ 1) × (get_or bytes k 0 ≡ after))) where
    pub was_next : (i : ℕ) → (was_flagged old bytes classes i || (get_or bytes class 0 == 1 && is_of classes class i)) ≡ was_flagged old (taken class after bytes) classes i
    was_next i = by_bound (cases_lt i (length classes))
      where
        c : ℕ
        c = get_or classes i 0

        by_bound : (i < length classes) ⊎ (length classes ≤ i) → (was_flagged old bytes classes i ||
            (get_or bytes class 0 == 1 && is_of classes class i)) ≡ was_flagged old (taken class after bytes) classes i
        by_bound (inr le) =
            let none = no_row old classes i le in
            let past = is_of_false classes class i (λ at. let w = slice_get_within classes i class at in omega (arith, le, w)) in
            ap (λ b. (b && not (is_flagged bytes classes i)) || (get_or bytes class 0 == 1 && is_of classes class i)) none
            ∙ ap (λ b. get_or bytes class 0 == 1 && b) past ∙ and-false (get_or bytes class 0 == 1)
            ∙ sym (ap (λ b. b && not (is_flagged (taken class after bytes) classes i)) none)
        by_bound (inl lt) = by_class (cases_eq c class) (cases_eq (get_or bytes class 0) 1)
          where
            at : slice_get classes i ≡ Some c
            at = slice_get-get_or classes i 0 lt

            was : (l : List ℕ) → was_flagged old l classes i ≡ (get_or old c 0 == 1 && not (get_or l c 0 == 1))
            was l = ap (λ b. b && not (is_flagged l classes i)) (its_flag old classes c i at) ∙ ap (λ b. get_or old c 0 == 1 && not b) (its_flag l classes c i at)

            old_one : get_or bytes class 0 ≡ 1 → (get_or bytes class 0 ≡ get_or old class 0) ⊎ ((get_or old class 0 ≡ 1) × (get_or bytes class 0 ≡ after)) → get_or old class 0 ≡ 1
            old_one one (inl e) = sym e ∙ one
            old_one one (inr p) = p.0

            by_class : (c ≡ class) ⊎ (c ≢ class) → (get_or bytes class 0 ≡ 1) ⊎ (get_or bytes class 0 ≢ 1)
                → (was_flagged old bytes classes i || (get_or bytes class 0 == 1 && is_of classes class i)) ≡ was_flagged old
                (taken class after bytes) classes i
            by_class same (inr d) =
                ap (λ b. was_flagged old bytes classes i || (b && is_of classes class i)) (ne_eqb (get_or bytes class 0) 1 d)
                ∙ or-false (was_flagged old bytes classes i) ∙ ap (λ l. was_flagged old l classes i) (sym (taken_not d))
            by_class (inl e) (inl one) =
                let mine = is_of_true classes class i (at ∙ ap (λ n. Some n) e) in
                let was_one : get_or old c 0 ≡ 1 = ap (λ j. get_or old j 0) e ∙ old_one one (each class) in
                let now : get_or (taken class after bytes) c 0 ≡ after = ap (λ j. get_or (taken class after bytes) j 0) e ∙ taken_here one in
                ap (λ b. was_flagged old bytes classes i || (b && is_of classes class i)) (eq-eqb (get_or bytes class 0) 1 one)
                ∙ ap (λ b. was_flagged old bytes classes i || b) mine ∙ or-true (was_flagged old bytes classes i)
                ∙ sym (was (taken class after bytes) ∙ ap (λ b. b && not (get_or (taken class after bytes) c 0 == 1))
                (eq-eqb (get_or old c 0) 1 was_one) ∙ ap (λ n. not (n == 1)) now ∙ ap not (ne_eqb after 1 other))
            by_class (inr d) (inl one) =
                let not_mine = is_of_false classes class i (λ here. d (same_Some c class (sym at ∙ here))) in
                ap (λ b. was_flagged old bytes classes i || (get_or bytes class 0 == 1 && b)) not_mine
                ∙ ap (λ b. was_flagged old bytes classes i || b) (and-false (get_or bytes class 0 == 1))
                ∙ or-false (was_flagged old bytes classes i)
                ∙ was bytes ∙ ap (λ n. get_or old c 0 == 1 && not (n == 1)) (sym (taken_there c d)) ∙ sym (was (taken class after bytes))

    pub not_past : (i : ℕ) → length classes ≤ i → was_flagged old bytes classes i ≡ false
    not_past i le = ap (λ b. b && not (is_flagged bytes classes i)) (no_row old classes i le)

    pub not_twice : get_or bytes class 0 ≡ 1 → (i : ℕ) → slice_get classes i ≡ Some class → was_flagged old bytes classes i ≡ false
    not_twice one i at = ap (λ b. is_flagged old classes i && not b) (its_flag bytes classes class i at ∙ eq-eqb (get_or bytes class 0) 1 one) ∙ and-false (is_flagged old classes i)

pub none_due : (old classes due : List ℕ) → AreDue due 0 (was_flagged old old classes)
none_due old classes due = record { within = omega arith; once = λ i. sym (ap (λ b. cond {A = ℕ} b 1 0) (never (is_flagged old classes i))) }
  where
    never : (b : Bool) → (b && not b) ≡ false
    never true = refl
    never false = refl

and-true : (b : Bool) → (b && true) ≡ b
and-true true = refl
and-true false = refl

-- then the rows whose flag was 1 and is not are all whose flag was 1
pub settled_due : (old bytes : List ℕ) (after : ℕ) → after ≢ 1 → ((k : ℕ) → get_or bytes k 0 ≡ settled_as after (get_or old k 0))
    → (cs : List ℕ) (i : ℕ) → was_flagged old bytes cs i ≡ is_flagged old cs i
settled_due old bytes after other settled cs i = ap (λ b. is_flagged old cs i && not b) (by_bound (cases_lt i (length cs))) ∙ and-true (is_flagged old cs i)
  where
    not_one : (f : ℕ) → (f ≡ 1) ⊎ (f ≢ 1) → (settled_as after f == 1) ≡ false
    not_one f (inl e) = ap (λ b. cond b after f == 1) (eq-eqb f 1 e) ∙ ne_eqb after 1 other
    not_one f (inr d) = ap (λ b. cond b after f == 1) (ne_eqb f 1 d) ∙ ne_eqb f 1 d

    by_bound : (i < length cs) ⊎ (length cs ≤ i) → is_flagged bytes cs i ≡ false
    by_bound (inl lt) =
        let c = get_or cs i 0 in
        its_flag bytes cs c i (slice_get-get_or cs i 0 lt) ∙ ap (λ n. n == 1) (settled c) ∙ not_one (get_or old c 0) (cases_eq (get_or old c 0) 1)
    by_bound (inr le) = no_row bytes cs i le

-- ---- the lines of rows that are due

-- the texts of what passes are those of all, if nothing else has a text
texts_chosen : {Y : Type 0} (f : ℕ → Bool) (line : Option Y → List ℕ) (text : Y → List ℕ) (ys : List Y) (n : ℕ) → n ≤ length ys
    → ((i : ℕ) (y : Y) → slice_get ys i ≡ Some y → cond (f i) (line (slice_get ys i)) [] ≡ text y)
    → flat_map (λ i. line (slice_get ys i)) (chosen f n) ≡ flat_map text (take n ys)
texts_chosen f line text ys zero le same = refl
texts_chosen {Y} f line text ys (suc n) le same = by_next (slice_get_cases ys n).1 (texts_chosen f line text ys n (omega (arith, le)) same)
  where
    one : (b : Bool) → flat_map (λ i. line (slice_get ys i)) (cond b (n ∷ []) []) ≡ cond b (line (slice_get ys n)) [] ++ []
    one true = refl
    one false = refl

    by_next : ((y : Y) × (n < length ys) × (slice_get ys n ≡ Some y) × (get_or ys n y ≡ y)) ⊎ ((length ys ≤ n) × (slice_get ys n ≡ None))
        → flat_map (λ i. line (slice_get ys i)) (chosen f n) ≡ flat_map text (take n ys)
        → flat_map (λ i. line (slice_get ys i)) (chosen f (suc n)) ≡ flat_map text (take (suc n) ys)
    by_next (inr past) rest = let over = past.0 in absurd (omega (arith, le, over))
    by_next (inl at) rest =
        flat_map-append (λ i. line (slice_get ys i)) (chosen f n) (cond (f n) (n ∷ []) [])
        ∙ ap₂ (λ a b. a ++ b) rest (one (f n) ∙ ap (λ l. l ++ []) (same n at.0 at.2))
        ∙ sym (ap (flat_map text) (take_next ys n at.0 at.2) ∙ flat_map-append text (take n ys) (at.0 ∷ []))

first_holds : {X Y : Type 0} (R S : X → Y → Type 0) (xs : List X) (ys : List Y) → AllZip (λ x y. R x y × S x y) xs ys → AllZip R xs ys
first_holds R S [] [] all = all
first_holds R S [] (y ∷ ys) all = absurd all
first_holds R S (x ∷ xs) [] all = absurd all
first_holds R S (x ∷ xs) (y ∷ ys) all = (all.0.0, first_holds R S xs ys all.1)

pub pair_lines : (v : HeadView) (current : Current) (rows flags : List ℕ) (time : ℕ) (takes : List ℕ → Type 0)
    → (let prs : List PairRow = current.pairs.now.rows.items in rows ≡ chosen (is_flagged flags (classes_of prs)) (length prs))
    → AreRowLines v current rows time takes → ArePairLines v current flags time takes
pair_lines v current rows flags time takes is lines h items ps flag views now late all =
    let prs : List PairRow = current.pairs.now.rows.items in
    let ends = current.pairs.now.ends.items in
    let both = λ (r : PairRow) (p : Pair). IsPairAt h ends r p × (get_or flags r.class 0 ≡ flag p) in
    let long = AllZip-long both prs ps all in
    let text = λ (p : Pair). cond (flag p == 1) (value_line (side items) (side items) p time) [] in
    let same = λ (i : ℕ) (p : Pair) (at : slice_get ps i ≡ Some p).
    (let row = zip_at both prs ps i p all at in
    let class : slice_get (classes_of prs) i ≡ Some row.0.class = slice_get-map (λ (r : PairRow). r.class) prs i ∙ ap (option_map (λ (r : PairRow). r.class)) row.1 in
    ap (λ b. cond b (line_at items time (slice_get ps i)) []) (its_flag flags (classes_of prs) row.0.class i class ∙ ap (λ n. n == 1) row.2.1)
    ∙ ap (λ o. cond (flag p == 1) (line_at items time o) []) at) in
    subst takes
    (ap (flat_map (λ i. line_at items time (slice_get ps i))) is
    ∙ texts_chosen (is_flagged flags (classes_of prs)) (line_at items time) text ps (length prs) (omega (arith, long)) same
    ∙ ap (flat_map text) (take_all (length prs) ps (omega (arith, long))))
    (lines h items ps views now late (first_holds (IsPairAt h ends) (λ r p. get_or flags r.class 0 ≡ flag p) prs ps all))
