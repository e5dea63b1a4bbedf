-- That lines are due if a flag is 1.
use Rattle.vcd_compare.proofs.Cited.{zero, ◌≡◌, ℕ, suc, ◌<◌, ◌≤◌, ◌==◌, false, cond, List, [], ◌∷◌, ◌++◌, flat_map, slice_get, get_or, Some, refl, ap, subst, ◌∙◌, AllZip, list_any, le-leb, or_parts, same_Some, is_empty, Header, BodyItem, marks, Asked, Extent, Pair, differs, is_due, lines_at, value_line, Names, compared_in, side, AreFlags, DoNotFall, IsQuiet, lines_due, time_compared, ArePairs, IsClassOf, IsPairAt, PairRow, Pairs}
use Rattle.vcd_compare.proofs.CompareSteps.{row_flag}
use Rattle.vcd_compare.proofs.DueFlags.{due_by_flags, flag_for}

-- ---- lines of pairs whose flag is 1

pub more_lines : (a b : List ℕ) → is_empty b ≡ false → is_empty (a ++ b) ≡ false
more_lines [] b e = e
more_lines (x ∷ a) b e = refl

module _ (ps : Pairs) (h : Header) (q : Asked) (ns : List Names) (items : List BodyItem) (pairs : ArePairs ps h q ns) where
  -- each row has the flag of its pair
  pub with_flags : (flags : List ℕ) → AreFlags ps h q items flags → (rows : List PairRow) (all : List Pair) → AllZip (IsPairAt h ps.ends.items) rows all
      → AllZip (λ row p. IsPairAt h ps.ends.items row p × (get_or flags row.class 0 ≡ flag_for q items p)) rows all
  with_flags flags are [] [] zip = tt
  with_flags flags are [] (p ∷ all) zip = absurd zip
  with_flags flags are (r ∷ rows) [] zip = absurd zip
  with_flags flags are (r ∷ rows) (p ∷ all) zip = ((zip.0, row_flag ps h q ns items pairs flags are r p zip.0), with_flags flags are rows all zip.1)

  abbrev line_now : Pair → List ℕ
  line_now p = cond (flag_for q items p == 1) (value_line (side items) (side items) p (time_compared q items)) []

  has_line : (p : Pair) (rest : List ℕ) → flag_for q items p ≡ 1 → is_empty (line_now p ++ rest) ≡ false
  has_line p rest one = rw one refl

  module _ (class : ℕ) (one : (p : Pair) → IsClassOf h ps.ends.items class p → flag_for q items p ≡ 1) where
    some_line : (rows : List PairRow) (all : List Pair) (n : ℕ) (r : PairRow) → AllZip (IsPairAt h ps.ends.items) rows all → slice_get rows n ≡ Some r
        → r.class ≡ class → is_empty (flat_map line_now all) ≡ false
    some_line [] all n r zip at is = cc
    some_line (r' ∷ rows) [] n r zip at is = absurd zip
    some_line (r' ∷ rows) (p ∷ all) zero r zip at is =
        let same : r' ≡ r = same_Some r' r at in
        has_line p (flat_map line_now all) (one p (subst (λ k. IsClassOf h ps.ends.items k p) (ap (λ (x : PairRow). x.class) same ∙ is) zip.0.class))
    some_line (r' ∷ rows) (p ∷ all) (suc n) r zip at is = more_lines (line_now p) (flat_map line_now all) (some_line rows all n r zip.1 at is)

    pub due_some : class < ps.classes → DoNotFall 0 (marks items) → (q.extent ≡ Extent.First → IsQuiet q h ns items) → time_compared q items ≤ q.to
        → is_empty (lines_due q h ns items) ≡ false
    due_some below up quiet asked =
        let row = pairs.covered class below in
        ap is_empty (due_by_flags q h ns items up quiet)
        ∙ rw (le-leb (time_compared q items) q.to asked) (some_line ps.rows.items (compared_in q h ns) row.0 row.1 pairs.rows row.2 row.3)

-- ---- no lines where no pair differs

module _ (q : Asked) (items : List BodyItem) (all : List Pair) (ts : List ℕ) where
  none_at : (t : ℕ) (ps : List Pair) → list_any (λ p. differs q.rule (side items) (side items) p t) ps ≡ false
      → flat_map (λ p. cond (is_due q (side items) (side items) all ts t p) (value_line (side items) (side items) p t) []) ps ≡ []
  none_at t [] none = refl
  none_at t (p ∷ ps) none = let both = or_parts (differs q.rule (side items) (side items) p t)
      (list_any (λ o. differs q.rule (side items) (side items) o t) ps) none in rw (both.0, none_at t ps both.1) refl

  pub none_of_times : (us : List ℕ) → list_any (λ u. list_any (λ p. differs q.rule (side items) (side items) p u) all) us ≡ false
      → flat_map (lines_at q all (side items) (side items) ts) us ≡ []
  none_of_times [] none = refl
  none_of_times (u ∷ us) none = let both = or_parts (list_any (λ p. differs q.rule (side items) (side items) p u) all)
      (list_any (λ v. list_any (λ p. differs q.rule (side items) (side items) p v) all) us) none in
      rw (none_at u all both.0, none_of_times us both.1) refl
