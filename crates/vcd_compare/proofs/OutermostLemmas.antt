-- Pairs of names that others cover.
use Rattle.vcd_compare.proofs.Cited.{◌≡◌, ◌≢◌, ◌⊎◌, ℕ, suc, ◌<◌, ◌≤◌, ◌==◌, ◌&&◌, ◌||◌, not, nat_eq, Bool, true, false, if◌then◌else◌, cond, bytes_eq, List, [], ◌∷◌, ◌++◌, length, drop, filter, filter_map, get_or, slice_get, take, Some, None, inl, inr, refl, sym, ap, subst, ◌∙◌, arith, AllZip, append_assoc, append-nil, list_any, list_any-append, eqb-true, and_parts, and_from, or_right, or-false, false_from_ne_true, filter-append, filter_map-append, same_Some, slice_get-get_or, slice_get_within, bytes_eq-Decides, all_zip_push, selects-longer, selects_path, each_after, each_after-append, Names, AreApart, AreTexts, IsNumberOf, has_dot, joined, node_at, AreNamedBelow, AreNumbersOf, both_names, is_one_of, same_key}
use Rattle.std.proofs.Common.{zero}
use Rattle.std.proofs.Math.Seq.{drop-append_seam}
use Rattle.vcd_compare.proofs.PathTexts.{last_dot, no_dot}
use Rattle.vcd_compare.proofs.SelectedLemmas.{not_turned, selected_either, selects_itself}
use Rattle.vcd_compare.proofs.VariableLemmas.{same_number, take_next}
use Rattle.vcd_compare.specs.Outermost.{AreAround, AreKeysOf, firsts, if_first, is_within, same_names}
use Rattle.vcd_model.specs.Within.{covers, if_outermost, outermost}

-- two tests that pass together
both_ways : (a b : Bool) → (a ≡ true → b ≡ true) → (b ≡ true → a ≡ true) → a ≡ b
both_ways true b forth back = sym (forth refl)
both_ways false true forth back = back refl
both_ways false false forth back = refl

-- ---- two names inside two others

-- the same follows both of the second names in the first ones
abbrev Inside : Names → Names → Type 0
Inside n m = (r : List ℕ) × (n.0 ≡ m.0 ++ 46 ∷ r) × (n.1 ≡ m.1 ++ 46 ∷ r)

covers_by : (m n : Names) → selects_path n.0 m.0 ≡ true → covers m n ≡ bytes_eq n.1 (m.1 ++ drop (length m.0) n.0)
covers_by m n selects = ap (λ b. elim (cond b (Some (drop (length m.0) n.0)) None) [ Some r ↦ bytes_eq n.1 (m.1 ++ r) | None ↦ false ]) selects

covers_none : (m n : Names) → selects_path n.0 m.0 ≡ false → covers m n ≡ false
covers_none m n selects = ap (λ b. elim (cond b (Some (drop (length m.0) n.0)) None) [ Some r ↦ bytes_eq n.1 (m.1 ++ r) | None ↦ false ]) selects

covers_rest : (m n : Names) (r : List ℕ) → selects_path n.0 m.0 ≡ true → n.0 ≡ m.0 ++ r → covers m n ≡ bytes_eq n.1 (m.1 ++ r)
covers_rest m n r selects is = covers_by m n selects ∙ ap (λ l. bytes_eq n.1 (m.1 ++ drop (length m.0) l)) is ∙ ap (λ l. bytes_eq n.1 (m.1 ++ l)) (drop-append_seam m.0 r)

inside_covers : (n m : Names) → Inside n m → covers m n ≡ true
inside_covers n m i =
    let selects = ap (λ t. selects_path t m.0) i.1 ∙ selects-longer m.0 m.0 i.0 (selects_itself m.0) in
    covers_rest m n (46 ∷ i.0) selects i.1 ∙ (bytes_eq-Decides n.1 (m.1 ++ 46 ∷ i.0)).1 i.2

inside_turned : (n m : Names) → Inside n m → covers n m ≡ false
inside_turned n m i = covers_none n m (ap (selects_path m.0) i.1 ∙ not_turned m.0 i.0)

covers_self : (n : Names) → covers n n ≡ true
covers_self n = covers_rest n n [] (selects_itself n.0) (sym (append-nil n.0)) ∙ (bytes_eq-Decides n.1 (n.1 ++ [])).1 (sym (append-nil n.1))

covers_either : (n m : Names) → covers m n ≡ true → (n ≡ m) ⊎ Inside n m
covers_either n m h = by_selects (selects_path n.0 m.0) refl
  where
    by_selects : (b : Bool) → selects_path n.0 m.0 ≡ b → (n ≡ m) ⊎ Inside n m
    by_selects false q = let no = covers_none m n q in absurd (cc)
    by_selects true q = elim (selected_either n.0 m.0 q) [
      | inl same ↦
          let other = (bytes_eq-Decides n.1 (m.1 ++ [])).0 (sym (covers_rest m n [] q (same ∙ sym (append-nil m.0))) ∙ h) ∙ append-nil m.1 in
          inl (λ z. (same z, other z))
      | inr more ↦ inr (more.0, more.1, (bytes_eq-Decides n.1 (m.1 ++ 46 ∷ more.0)).0 (sym (covers_rest m n (46 ∷ more.0) q more.1) ∙ h))
    ]

within_if : (n m : Names) → Inside n m → is_within n m ≡ true
within_if n m i = and_from (covers m n) (not (covers n m)) (inside_covers n m i) (ap not (inside_turned n m i))

within_then : (n m : Names) → is_within n m ≡ true → Inside n m
within_then n m h =
    let both = and_parts (covers m n) (not (covers n m)) h in
    elim (covers_either n m both.0) [
      | inl same ↦ let yes : covers n m ≡ true = ap (covers n) (sym same) ∙ covers_self n in absurd (cc)
      | inr i ↦ i
    ]

-- ---- the same two names

same_then : (n m : Names) → same_names n m ≡ true → n ≡ m
same_then n m h = let both = and_parts (bytes_eq n.0 m.0) (bytes_eq n.1 m.1) h in λ z. ((bytes_eq-Decides n.0 m.0).0 both.0 z, (bytes_eq-Decides n.1 m.1).0 both.1 z)

same_if : (n m : Names) → n.0 ≡ m.0 → n.1 ≡ m.1 → same_names n m ≡ true
same_if n m a b = and_from (bytes_eq n.0 m.0) (bytes_eq n.1 m.1) ((bytes_eq-Decides n.0 m.0).1 a) ((bytes_eq-Decides n.1 m.1).1 b)

covers_is : (n m : Names) → covers m n ≡ (same_names n m || is_within n m)
covers_is n m = both_ways (covers m n) (same_names n m || is_within n m) forth (λ h. back (same_names n m) refl h)
  where
    forth : covers m n ≡ true → (same_names n m || is_within n m) ≡ true
    forth h = elim (covers_either n m h) [
      | inl same ↦ ap (λ b. b || is_within n m) (same_if n m (ap (λ (x : Names). x.0) same) (ap (λ (x : Names). x.1) same))
      | inr i ↦ or_right (same_names n m) (is_within n m) (within_if n m i)
    ]

    back : (b : Bool) → same_names n m ≡ b → (same_names n m || is_within n m) ≡ true → covers m n ≡ true
    back true q h = ap (λ x. covers x n) (sym (same_then n m q)) ∙ covers_self n
    back false q h = inside_covers n m (within_then n m (sym (ap (λ b. b || is_within n m) q) ∙ h))

-- ---- the two paths around two paths

-- a text up to its last dot
split_last : (r : List ℕ) → (has_dot r ≡ false) ⊎ ((s q : List ℕ) × (r ≡ s ++ 46 ∷ q) × (has_dot q ≡ false))
split_last [] = inl refl
split_last (x ∷ r) = elim (split_last r) [
  | inl plain ↦ by_test (x == 46) refl plain
  | inr split ↦ inr (x ∷ split.0, split.1, ap (λ l. x ∷ l) split.2, split.3)
]
  where
    by_test : (b : Bool) → (x == 46) ≡ b → has_dot r ≡ false → (has_dot (x ∷ r) ≡ false) ⊎ ((s q : List ℕ) × (x ∷ r ≡ s ++ 46 ∷ q) × (has_dot q ≡ false))
    by_test true e plain = inr ([], r, ap (λ y. y ∷ r) (eqb-true x 46 e), plain)
    by_test false e plain = inl (ap (λ b. b || has_dot r) e ∙ plain)

-- two names of one part have none around them
one_part : (n m : Names) → has_dot n.0 ≡ false → is_within n m ≡ false
one_part n m plain = false_from_ne_true (is_within n m) (λ h. let i = within_then n m h in no_dot n.0 m.0 i.0 plain i.1)

other_part : (n m : Names) → has_dot n.1 ≡ false → is_within n m ≡ false
other_part n m plain = false_from_ne_true (is_within n m) (λ h. let i = within_then n m h in no_dot n.1 m.1 i.0 plain i.2)

module _ (n u : Names) (p q : List ℕ) (plain : has_dot p ≡ false) (last_plain : has_dot q ≡ false) (one : n.0 ≡ u.0 ++ 46 ∷ p) (other : n.1 ≡ u.1 ++ 46 ∷ q) where
  -- the last parts of two names are the same as those behind others
  last_part : (m : Names) → is_within n m ≡ true → (p ≡ q) × ((same_names u m || is_within u m) ≡ true)
  last_part m h = let i = within_then n m h in elim (split_last i.0) [
    | inl whole ↦
        let a = last_dot u.0 m.0 p i.0 plain whole (sym one ∙ i.1) in
        let b = last_dot u.1 m.1 q i.0 last_plain whole (sym other ∙ i.2) in
        (a.1 ∙ sym b.1, ap (λ x. x || is_within u m) (same_if u m a.0 b.0))
    | inr s ↦
        let more = λ (t : List ℕ). ap (λ r. t ++ 46 ∷ r) s.2 ∙ sym (append_assoc t (46 ∷ s.0) (46 ∷ s.1)) in
        let a = last_dot u.0 (m.0 ++ 46 ∷ s.0) p s.1 plain s.3 (sym one ∙ i.1 ∙ more m.0) in
        let b = last_dot u.1 (m.1 ++ 46 ∷ s.0) q s.1 last_plain s.3 (sym other ∙ i.2 ∙ more m.1) in
        (a.1 ∙ sym b.1, or_right (same_names u m) (is_within u m) (within_if u m (s.0, a.0, b.0)))
  ]

  apart_parts : p ≢ q → (m : Names) → is_within n m ≡ false
  apart_parts apart m = false_from_ne_true (is_within n m) (λ h. apart (last_part m h).0)

  same_parts : p ≡ q → (m : Names) → is_within n m ≡ (same_names u m || is_within u m)
  same_parts same m = both_ways (is_within n m) (same_names u m || is_within u m) (λ h. (last_part m h).1) (λ h. back (same_names u m) refl h)
    where
      back : (b : Bool) → same_names u m ≡ b → (same_names u m || is_within u m) ≡ true → is_within n m ≡ true
      back true e h =
          let e = same_then u m e in
          within_if n m (p, one ∙ ap (λ (x : Names). x.0 ++ 46 ∷ p) e, other ∙ ap (λ l. u.1 ++ 46 ∷ l) (sym same) ∙ ap (λ (x : Names). x.1 ++ 46 ∷ p) e)
      back false e h =
          let i = within_then u m (sym (ap (λ b. b || is_within u m) e) ∙ h) in
          within_if n m (
            i.0 ++ 46 ∷ p,
            one ∙ ap (λ l. l ++ 46 ∷ p) i.1 ∙ append_assoc m.0 (46 ∷ i.0) (46 ∷ p),
            other ∙ ap (λ l. u.1 ++ 46 ∷ l) (sym same) ∙ ap (λ l. l ++ 46 ∷ p) i.2 ∙ append_assoc m.1 (46 ∷ i.0) (46 ∷ p),
          )

module _ (parts : List (List ℕ)) (nodes : List (ℕ × ℕ)) (texts : List (List ℕ)) (are : AreTexts parts nodes texts) where
  -- what a path consists of
  pub record Consists (m : ℕ) (t : List ℕ) (node : ℕ × ℕ) : Type 0 where
    pub below : node.0 < m
    pub part : List ℕ
    pub part_is : slice_get parts node.1 ≡ Some part
    pub plain : has_dot part ≡ false
    pub top : node.0 ≡ 0 → t ≡ part
    pub inner : node.0 ≢ 0 → (u : List ℕ) × IsNumberOf texts node.0 u × (t ≡ u ++ 46 ∷ part)

  pub consists : (m : ℕ) (t : List ℕ) (node : ℕ × ℕ) → IsNumberOf texts m t → node ≡ node_at nodes m → Consists m t node
  consists m t node number is =
      let i = number.0 in
      let within = slice_get_within texts i t number.2 in
      let len = are.len in
      let at = slice_get-get_or nodes i (0, 0) (omega (arith, within, len)) in
      let same : node ≡ get_or nodes i (0, 0) = is ∙ ap (node_at nodes) number.1 in
      let made = are.each i node (at ∙ ap Some (sym same)) in
      let l = made.around in
      let e = number.1 in
      let text = same_Some t (joined texts node.0 made.part) (sym number.2 ∙ made.text_is) in
      record {
        below = omega (arith, l, e);
        part = made.part;
        part_is = made.part_is;
        plain = made.plain;
        top = λ z. text ∙ ap (λ a. joined texts a made.part) z;
        inner = λ some. by_around node.0 made.part some (omega (arith, l, within)) text;
      }
    where
      by_around : (a : ℕ) (p : List ℕ) → a ≢ 0 → a ≤ length texts → t ≡ joined texts a p → (u : List ℕ) × IsNumberOf texts a u × (t ≡ u ++ 46 ∷ p)
      by_around zero p some l e = absurd (some refl)
      by_around (suc j) p some l e = (get_or texts j [], (j, refl, slice_get-get_or texts j [] (omega (arith, l))), e)

  module _ (pair : ℕ × ℕ) (n : Names) (one other : ℕ × ℕ) (a : Consists pair.0 n.0 one) (b : Consists pair.1 n.1 other) where
    pub around_first : one.0 ≡ 0 → AreAround texts n None
    around_first e = λ m. one_part n m (ap has_dot (a.top e) ∙ a.plain)

    pub around_second : other.0 ≡ 0 → AreAround texts n None
    around_second e = λ m. other_part n m (ap has_dot (b.top e) ∙ b.plain)

    pub around_apart : one.0 ≢ 0 → other.0 ≢ 0 → one.1 ≢ other.1 → AreAround texts n None
    around_apart some more apart =
        let u = a.inner some in
        let w = b.inner more in
        apart_parts n (u.0, w.0) a.part b.part a.plain b.plain u.2 w.2 (λ e. apart (are.parts_apart one.1 other.1 a.part a.part_is (b.part_is ∙ ap Some (sym e))))

    pub around_both : one.0 ≢ 0 → other.0 ≢ 0 → one.1 ≡ other.1 → AreAround texts n (Some (one.0, other.0))
    around_both some more same =
        let u = a.inner some in
        let w = b.inner more in
        ((u.0, w.0), (u.1, w.1), same_parts n (u.0, w.0) a.part b.part a.plain b.plain u.2 w.2 (same_Some a.part b.part (sym a.part_is ∙ ap (slice_get parts) same ∙ b.part_is)))

-- ---- some pair is around two names

any_around : (n u : Names) (ns : List Names) → ((m : Names) → is_within n m ≡ (same_names u m || is_within u m))
    → list_any (is_within n) ns ≡ (list_any (same_names u) ns || list_any (is_within u) ns)
any_around n u [] is = refl
any_around n u (m ∷ ns) is =
    ap (λ b. b || list_any (is_within n) ns) (is m) ∙ ap (λ b. (same_names u m || is_within u m) || b) (any_around n u ns is)
    ∙ regroup (same_names u m) (is_within u m) (list_any (same_names u) ns) (list_any (is_within u) ns)
  where
    regroup : (a b c d : Bool) → ((a || b) || (c || d)) ≡ ((a || c) || (b || d))
    regroup true b c d = refl
    regroup false true true d = refl
    regroup false true false d = refl
    regroup false false c d = refl

any_none : (n : Names) (ns : List Names) → ((m : Names) → is_within n m ≡ false) → list_any (is_within n) ns ≡ false
any_none n [] is = refl
any_none n (m ∷ ns) is = ap (λ b. b || list_any (is_within n) ns) (is m) ∙ any_none n ns is

-- two names are inside some of these if and only if these others are
pub record GoesUp (texts : List (List ℕ)) (pair : ℕ × ℕ) (n : Names) (ns : List Names) : Type 0 where
  pub names : Names
  pub numbers : AreNumbersOf texts pair names
  pub same : list_any (is_within n) ns ≡ list_any (is_within names) ns

module _ (texts : List (List ℕ)) (pair : ℕ × ℕ) (n : Names) (ns : List Names) (s : GoesUp texts pair n ns) where
  pub up_none : AreAround texts s.names None → list_any (is_within n) ns ≡ false
  up_none is = s.same ∙ any_none s.names ns is

  module _ (around : ℕ × ℕ) (is : AreAround texts s.names (Some around)) (keys : List (ℕ × ℕ)) (are : AreKeysOf texts keys ns) where
    pub up_found : list_any (same_key around) keys ≡ true → list_any (is_within n) ns ≡ true
    up_found found = s.same ∙ any_around s.names is.0 ns is.2 ∙ ap (λ b. b || list_any (is_within is.0) ns) (sym (are around is.0 is.1) ∙ found)

    pub up_next : list_any (same_key around) keys ≡ false → GoesUp texts around n ns
    up_next none = record {
      names = is.0;
      numbers = is.1;
      same = s.same ∙ any_around s.names is.0 ns is.2 ∙ ap (λ b. b || list_any (is_within is.0) ns) (sym (are around is.0 is.1) ∙ none);
    }

-- ---- each two names once

same_numbers : (texts : List (List ℕ)) (a b : ℕ × ℕ) (n m : Names) → AreApart texts → AreNumbersOf texts a n → AreNumbersOf texts b m → same_key a b ≡ same_names n m
same_numbers texts a b n m apart x y = ap (λ t. t && nat_eq a.1 b.1) (same_number texts a.0 b.0 n.0 m.0 apart x.0 y.0)
    ∙ ap (λ t. bytes_eq n.0 m.0 && t) (same_number texts a.1 b.1 n.1 m.1 apart x.1 y.1)

firsts-more : (ns : List Names) (n : Names) → firsts (ns ++ n ∷ []) ≡ firsts ns ++ filter_map (λ o. o) (if_first ns n ∷ [])
firsts-more ns n = ap (filter_map (λ o. o)) (each_after-append if_first [] ns (n ∷ [])) ∙ filter_map-append (λ o. o) (each_after if_first [] ns) (if_first ns n ∷ [])

-- the pairs that were distinct among the first names
pub record AreDistinct (texts : List (List ℕ)) (keys : List (ℕ × ℕ)) (ns : List Names) : Type 0 where
  pub zip : AllZip (AreNumbersOf texts) keys (firsts ns)
  pub are : AreKeysOf texts keys ns

pub distinct_more : (texts : List (List ℕ)) (keys new : List (ℕ × ℕ)) (ns : List Names) (i : ℕ) (pair : ℕ × ℕ) (n : Names) → AreApart texts
    → slice_get ns i ≡ Some n → AreNumbersOf texts pair n → new ≡ (if list_any (same_key pair) keys then keys else keys ++ pair ∷ [])
    → AreDistinct texts keys (take i ns) → AreDistinct texts new (take (suc i) ns)
distinct_more texts keys new ns i pair n apart at numbers is s =
    subst (AreDistinct texts new) (sym (take_next ns i n at)) (by_test (list_any (same_key pair) keys) refl)
  where
    before : List Names
    before = take i ns

    there : list_any (same_key pair) keys ≡ list_any (same_names n) before
    there = s.are pair n numbers

    any_more : (m : Names) → list_any (same_names m) (before ++ n ∷ []) ≡ (list_any (same_names m) before || same_names m n)
    any_more m = list_any-append (same_names m) before (n ∷ []) ∙ ap (λ b. list_any (same_names m) before || b) (or-false (same_names m n))

    by_test : (b : Bool) → list_any (same_key pair) keys ≡ b → AreDistinct texts new (before ++ n ∷ [])
    by_test true q =
        let keys_are : new ≡ keys = is ∙ ap (λ b. if b then keys else keys ++ pair ∷ []) q in
        let found : list_any (same_names n) before ≡ true = sym there ∙ q in
        subst (λ l. AreDistinct texts l (before ++ n ∷ [])) (sym keys_are) (record {
          zip = subst (AllZip (AreNumbersOf texts) keys) (sym (firsts-more before n
              ∙ ap (λ b. firsts before ++ filter_map (λ o. o) (cond b None (Some n) ∷ [])) found ∙ append-nil (firsts before))) s.zip;
          are = λ a m x. s.are a m x ∙ sym (any_more m ∙ by_same m (same_names m n) refl found);
        })
      where
        by_same : (m : Names) (b : Bool) → same_names m n ≡ b → list_any (same_names n) before ≡ true → (list_any (same_names m) before || same_names m n) ≡ list_any (same_names m) before
        by_same m true e found = let yes : list_any (same_names m) before ≡ true = ap (λ x. list_any (same_names x) before) (same_then m n e) ∙ found in rw yes refl
        by_same m false e found = ap (λ b. list_any (same_names m) before || b) e ∙ or-false (list_any (same_names m) before)
    by_test false q =
        let keys_are : new ≡ keys ++ pair ∷ [] = is ∙ ap (λ b. if b then keys else keys ++ pair ∷ []) q in
        let found : list_any (same_names n) before ≡ false = sym there ∙ q in
        subst (λ l. AreDistinct texts l (before ++ n ∷ [])) (sym keys_are) (record {
          zip = subst (AllZip (AreNumbersOf texts) (keys ++ pair ∷ []))
              (sym (firsts-more before n ∙ ap (λ b. firsts before ++ filter_map (λ o. o) (cond b None (Some n) ∷ [])) found))
              (all_zip_push (AreNumbersOf texts) keys (firsts before) pair n s.zip numbers);
          are = λ a m x. list_any-append (same_key a) keys (pair ∷ [])
              ∙ ap (λ b. list_any (same_key a) keys || b) (or-false (same_key a pair) ∙ same_numbers texts a pair m n apart x numbers)
              ∙ ap (λ b. b || same_names m n) (s.are a m x) ∙ sym (any_more m);
        })

-- ---- the outermost

-- two names that are not inside others of these
abbrev pub is_out : List Names → Names → Bool
is_out ns n = not (list_any (is_within n) ns)

any_covers : (n : Names) (ns : List Names) → list_any (λ m. covers m n) ns ≡ (list_any (same_names n) ns || list_any (is_within n) ns)
any_covers n [] = refl
any_covers n (m ∷ ns) =
    ap (λ b. b || list_any (λ x. covers x n) ns) (covers_is n m) ∙ ap (λ b. (same_names n m || is_within n m) || b) (any_covers n ns)
    ∙ regroup (same_names n m) (is_within n m) (list_any (same_names n) ns) (list_any (is_within n) ns)
  where
    regroup : (a b c d : Bool) → ((a || b) || (c || d)) ≡ ((a || c) || (b || d))
    regroup true b c d = refl
    regroup false true true d = refl
    regroup false true false d = refl
    regroup false false c d = refl

outermost_after : (all earlier xs : List Names) → all ≡ earlier ++ xs
    → filter_map (λ o. o) (each_after (if_outermost all) earlier xs) ≡ filter (is_out all) (filter_map (λ o. o) (each_after if_first earlier xs))
outermost_after all earlier [] is = refl
outermost_after all earlier (x ∷ xs) is =
    let rest = outermost_after all (earlier ++ x ∷ []) xs (is ∙ sym (append_assoc earlier (x ∷ []) xs)) in
    let test : (list_any (λ m. covers m x) earlier || list_any (is_within x) all) ≡ (list_any (same_names x) earlier || list_any (is_within x) all) =
    ap (λ b. b || list_any (is_within x) all) (any_covers x earlier)
    ∙ ap (λ b. (list_any (same_names x) earlier || list_any (is_within x) earlier) || b) within
    ∙ twice (list_any (same_names x) earlier) (list_any (is_within x) earlier) (list_any (is_within x) (x ∷ xs))
    ∙ ap (λ b. list_any (same_names x) earlier || b) (sym within) in
    ap (λ b. filter_map (λ o. o) (cond b None (Some x) ∷ each_after (if_outermost all) (earlier ++ x ∷ []) xs)) test
    ∙ by_tests (list_any (same_names x) earlier) refl (list_any (is_within x) all) refl rest
  where
    within : list_any (is_within x) all ≡ (list_any (is_within x) earlier || list_any (is_within x) (x ∷ xs))
    within = ap (list_any (is_within x)) is ∙ list_any-append (is_within x) earlier (x ∷ xs)

    twice : (a b c : Bool) → ((a || b) || (b || c)) ≡ (a || (b || c))
    twice true b c = refl
    twice false true c = refl
    twice false false c = refl

    by_tests : (b : Bool) → list_any (same_names x) earlier ≡ b → (c : Bool) → list_any (is_within x) all ≡ c
        → filter_map (λ o. o) (each_after (if_outermost all) (earlier ++ x ∷ []) xs) ≡ filter (is_out all) (filter_map (λ o. o) (each_after if_first (earlier ++ x ∷ []) xs))
        → filter_map (λ o. o) (cond (list_any (same_names x) earlier || list_any (is_within x) all) None (Some x) ∷ each_after (if_outermost all) (earlier ++ x ∷ []) xs)
        ≡ filter (is_out all) (filter_map (λ o. o) (cond (list_any (same_names x) earlier) None (Some x) ∷ each_after if_first (earlier ++ x ∷ []) xs))
    by_tests true p c q rest = rw p rest
    by_tests false p true q rest = rw (p, q) rest
    by_tests false p false q rest = rw (p, q, rest) refl

pub outermost_is : (ns : List Names) → filter (is_out ns) (firsts ns) ≡ outermost ns
unfolding outermost
outermost_is ns = sym (outermost_after ns [] ns refl)

-- one pair more was looked at
pub out_more : (texts : List (List ℕ)) (ns : List Names) (keys out new : List (ℕ × ℕ)) (i : ℕ) (pair : ℕ × ℕ) (n : Names)
    → slice_get (firsts ns) i ≡ Some n → AreNumbersOf texts pair n → new ≡ out ++ cond (list_any (is_within n) ns) [] (pair ∷ [])
    → AllZip (AreNumbersOf texts) out (filter (is_out ns) (take i (firsts ns))) → AllZip (AreNumbersOf texts) new (filter (is_out ns) (take (suc i) (firsts ns)))
out_more texts ns keys out new i pair n at numbers is zip =
    subst (AllZip (AreNumbersOf texts) new) (sym (ap (filter (is_out ns)) (take_next (firsts ns) i n at) ∙ filter-append (is_out ns) before (n ∷ []))) (by_test (list_any (is_within n) ns) refl)
  where
    before : List Names
    before = take i (firsts ns)

    by_test : (b : Bool) → list_any (is_within n) ns ≡ b → AllZip (AreNumbersOf texts) new (filter (is_out ns) before ++ filter (is_out ns) (n ∷ []))
    by_test true q =
        let same : new ≡ out = is ∙ ap (λ b. out ++ cond b [] (pair ∷ [])) q ∙ append-nil out in
        let kept : filter (is_out ns) before ++ filter (is_out ns) (n ∷ []) ≡ filter (is_out ns) before = ap
        (λ b. filter (is_out ns) before ++ cond (not b) (n ∷ []) []) q ∙ append-nil (filter (is_out ns) before) in
        subst (λ l. AllZip (AreNumbersOf texts) l (filter (is_out ns) before ++ filter (is_out ns) (n ∷ []))) (sym same) (subst (AllZip (AreNumbersOf texts) out) (sym kept) zip)
    by_test false q =
        let same : new ≡ out ++ pair ∷ [] = is ∙ ap (λ b. out ++ cond b [] (pair ∷ [])) q in
        let kept : filter (is_out ns) before ++ filter (is_out ns) (n ∷ []) ≡ filter (is_out ns) before ++ n ∷ [] = ap (λ b. filter (is_out ns) before ++ cond (not b) (n ∷ []) []) q in
        subst (λ l. AllZip (AreNumbersOf texts) l (filter (is_out ns) before ++ filter (is_out ns) (n ∷ []))) (sym same)
        (subst (AllZip (AreNumbersOf texts) (out ++ pair ∷ [])) (sym kept)
        (all_zip_push (AreNumbersOf texts) out (filter (is_out ns) before) pair n zip numbers))

-- ---- the numbers of the names that are left

outermost_names : (all earlier xs : List Names) (w : List ℕ)
    → is_one_of (both_names (filter_map (λ o. o) (each_after (if_outermost all) earlier xs))) w ≡ true → is_one_of (both_names xs) w ≡ true
outermost_names all earlier [] w h = h
outermost_names all earlier (x ∷ xs) w h = by_kept (list_any (λ m. covers m x) earlier || list_any (is_within x) all) (outermost_names all (earlier ++ x ∷ []) xs w) h
  where
    either : (a b c d : Bool) → (c ≡ true → d ≡ true) → (a || (b || c)) ≡ true → (a || (b || d)) ≡ true
    either true b c d more h = refl
    either false true c d more h = refl
    either false false c d more h = more h

    rest : List Names
    rest = filter_map (λ o. o) (each_after (if_outermost all) (earlier ++ x ∷ []) xs)

    by_kept : (b : Bool) → (is_one_of (both_names rest) w ≡ true → is_one_of (both_names xs) w ≡ true)
        → is_one_of (both_names (filter_map (λ o. o) (cond b None (Some x) ∷ each_after (if_outermost all) (earlier ++ x ∷ []) xs))) w ≡ true
        → is_one_of (both_names (x ∷ xs)) w ≡ true
    by_kept true more h = or_right (bytes_eq w x.0) (bytes_eq w x.1 || is_one_of (both_names xs) w) (or_right (bytes_eq w x.1) (is_one_of (both_names xs) w) (more h))
    by_kept false more h = either (bytes_eq w x.0) (bytes_eq w x.1) (is_one_of (both_names rest) w) (is_one_of (both_names xs) w) more h

pub outermost_below : (texts : List (List ℕ)) (ns : List Names) (bound : ℕ) → AreNamedBelow texts (both_names ns) bound → AreNamedBelow texts (both_names (outermost ns)) bound
unfolding outermost
outermost_below texts ns bound below = λ m w number one. below m w number (outermost_names ns [] ns w one)
