-- The pair of a class, and what its codes have in common.
use Rattle.vcd_compare.proofs.Cited.{◌≡◌, ℕ, ◌<◌, Bool, true, false, cond, ◌||◌, List, filter_map, flat_map, codes, slice_get, Option, Some, None, refl, sym, ap, subst, ◌∙◌, MatchOption, bytes_eq, nat_eq, starts_with, IsSomeAnd, same_Some, bytes_eq-Decides, AllZip-left, IdCode, Variable, code_of, Header, Asked, Kind, Pair, is_fit, kind_of, same_kind, Event, Real, Digits, Names, compared_in, pair_at, places_of, ArePairs, IsClassOf, IsPairAt, End, PairRow, Pairs}
use Rattle.vcd_compare.proofs.PlaceLemmas.{kept}

-- ---- two of a kind

event_or : (e : Bool) (k : Kind) → e ≡ false → cond e Event k ≡ k
event_or true k h = cc
event_or false k h = refl

no_event : (r : Bool) (n : ℕ) → (k : Kind) → k ≡ cond r Real (Digits n) → (same_kind Event k ≡ false) × (same_kind k Event ≡ false)
no_event true n k e = rw e (refl, refl)
no_event false n k e = rw e (refl, refl)

turned_test : (xs ys : List ℕ) → bytes_eq xs ys ≡ bytes_eq ys xs
turned_test xs ys = by_test (bytes_eq xs ys) refl
  where
    by_test : (b : Bool) → bytes_eq xs ys ≡ b → b ≡ bytes_eq ys xs
    by_test true e = sym ((bytes_eq-Decides ys xs).1 (sym ((bytes_eq-Decides xs ys).0 e)))
    by_test false e = other (bytes_eq ys xs) refl
      where
        other : (c : Bool) → bytes_eq ys xs ≡ c → false ≡ c
        other true f = let one = (bytes_eq-Decides xs ys).1 (sym ((bytes_eq-Decides ys xs).0 f)) in cc
        other false f = refl

abbrev other_kind : Variable → Kind
other_kind v = cond (starts_with nat_eq v.type (codes "real") || bytes_eq v.type (codes "shortreal")) Real (Digits v.size)

-- both are events, or neither is
pub fit_events : (p : Pair) → is_fit p ≡ true → (code_of p.one).event ≡ (code_of p.other).event
fit_events p fit =
    turned_test (codes "event") p.one.type ∙ by_tests (bytes_eq p.one.type (codes "event")) (bytes_eq p.other.type (codes "event")) refl refl ∙ turned_test p.other.type (codes "event")
  where
    by_tests : (a b : Bool) → bytes_eq p.one.type (codes "event") ≡ a → bytes_eq p.other.type (codes "event") ≡ b → a ≡ b
    by_tests true true e f = refl
    by_tests false false e f = refl
    by_tests true false e f =
        let no : same_kind Event (kind_of p.other) ≡ false = (no_event _ _ (kind_of p.other) (event_or _ (other_kind p.other) f)).0 in
        let yes : same_kind Event (kind_of p.other) ≡ true = rw (← fit) (ap (λ b. same_kind (cond b Event (other_kind p.one)) (kind_of p.other)) (sym e)) in cc
    by_tests false true e f =
        let no : same_kind (kind_of p.one) Event ≡ false = (no_event _ _ (kind_of p.one) (event_or _ (other_kind p.one) e)).1 in
        let yes : same_kind (kind_of p.one) Event ≡ true = rw (← fit) (ap (λ b. same_kind (kind_of p.one) (cond b Event (other_kind p.other))) (sym f)) in cc

-- ---- the pair of a class

pub pair_of_class : (ps : Pairs) (h : Header) (q : Asked) (ns : List Names) (class : ℕ) → ArePairs ps h q ns → class < ps.classes → (p : Pair)
    × (is_fit p ≡ true) × IsClassOf h ps.ends.items class p
pair_of_class ps h q ns class are below =
    let (n, r, there, is) = are.covered class below in
    let zipped = AllZip-left (IsPairAt h ps.ends.items) ps.rows.items (compared_in q h ns) are.rows n in
    let some : IsSomeAnd (slice_get (compared_in q h ns) n) (λ p. IsPairAt h ps.ends.items r p) = subst
    (λ (o : Option PairRow). MatchOption o (Unit {0}) (λ r. IsSomeAnd (slice_get (compared_in q h ns) n) (IsPairAt h ps.ends.items r)))
    there zipped in
    found (slice_get (compared_in q h ns) n) refl some
  where
    found : (o : Option Pair) → slice_get (compared_in q h ns) (are.covered class below).0 ≡ o
        → IsSomeAnd o (λ p. IsPairAt h ps.ends.items (are.covered class below).1 p) → (p : Pair) × (is_fit p ≡ true)
        × IsClassOf h ps.ends.items class p
    found None e is = absurd is
    found (Some p) e is = (
      p,
      kept is_fit (flat_map (λ n. filter_map (pair_at h) (places_of q h n)) ns) (are.covered class below).0 p e,
      subst (λ (k : ℕ). IsClassOf h ps.ends.items k p) (are.covered class below).3 is.class,
    )

-- all pairs of a class are of the same codes
pub class_events : (ps : Pairs) (h : Header) (q : Asked) (ns : List Names) (class : ℕ) (p : Pair) → ArePairs ps h q ns → class < ps.classes
    → IsClassOf h ps.ends.items class p → (code_of p.one).event ≡ (code_of p.other).event
class_events ps h q ns class p are below is =
    let (o, fit, its) = pair_of_class ps h q ns class are below in
    let one : its.one.0 ≡ is.one.0 = same_Some its.one.0 is.one.0 (sym its.one.1 ∙ is.one.1) in
    let other : its.other.0 ≡ is.other.0 = same_Some its.other.0 is.other.0 (sym its.other.1 ∙ is.other.1) in
    let first : code_of o.one ≡ code_of p.one = same_Some (code_of o.one) (code_of p.one) (sym its.one.2 ∙ ap (λ (e : End). slice_get h.codes e.code) one ∙ is.one.2) in
    let second : code_of o.other ≡ code_of p.other = same_Some (code_of o.other) (code_of p.other) (sym its.other.2 ∙ ap (λ (e : End). slice_get h.codes e.code) other ∙ is.other.2) in
    ap (λ (c : IdCode). c.event) (sym first) ∙ fit_events o fit ∙ ap (λ (c : IdCode). c.event) second
