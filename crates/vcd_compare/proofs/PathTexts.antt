-- The texts of paths: which parts they consist of, and one path more.
use Rattle.vcd_compare.proofs.Cited.{◌≡◌, ◌≢◌, ℕ, suc, ◌≤◌, ◌==◌, ◌&&◌, ◌||◌, nat_eq, nat_lt, Bool, true, false, if◌then◌else◌, cond, bytes_eq, position, map, Option, not, ◌+◌, List, [], ◌∷◌, ◌++◌, length, get_or, slice_get, Some, None, inl, inr, refl, sym, ap, subst, ◌∙◌, arith, list_any, position_or_len, le-ltb, lt-ltb, eq-eqb, eqb-true, and_parts, and_from, or_parts, option_map, Vec, HashSet, length-append, length-map, map-append, bytes_eq-Decides, list_any-append, same_Some, slice_get-get_or, slice_get-map, get_or_from_slice_get, slice_get_within, or-true, slice_get-front, slice_get-seam, there, AreApart, AreTexts, EntersPath, EntersText, HasTexts, IsNumberOf, has_dot, joined, texts_in, Paths, CodeSeed}
use Rattle.std.proofs.Common.{zero}
use Rattle.std.proofs.lemmas.List.{append_assoc, append-nil}
use mathlib.Core.Logic.{◌⊎◌}

-- ---- the last dot

-- a text with a dot has a dot
dotted : (u p : List ℕ) → has_dot (u ++ 46 ∷ p) ≡ true
dotted u p = list_any-append (λ b. b == 46) u (46 ∷ p) ∙ or-true (has_dot u)

pub no_dot : (p u q : List ℕ) → has_dot p ≡ false → p ≢ u ++ 46 ∷ q
no_dot p u q plain e = let d = ap has_dot e ∙ dotted u q in cc

pub last_dot : (u w p q : List ℕ) → has_dot p ≡ false → has_dot q ≡ false → u ++ 46 ∷ p ≡ w ++ 46 ∷ q → (u ≡ w) × (p ≡ q)
last_dot [] [] p q a b e = (refl, cc)
last_dot [] (y ∷ w) p q a b e = absurd (no_dot p w q a (cc))
last_dot (x ∷ u) [] p q a b e = absurd (no_dot q u p b (cc))
last_dot (x ∷ u) (y ∷ w) p q a b e =
    let rest = last_dot u w p q a b (cc) in
    let first : x ≡ y = cc in
    (rw (first, rest.0) refl, rest.1)

-- ---- the parts of a text

pub joined_tells : (texts : List (List ℕ)) (a b : ℕ) (p q : List ℕ) → AreApart texts → a ≤ length texts → b ≤ length texts → has_dot p ≡ false → has_dot q ≡ false
    → joined texts a p ≡ joined texts b q → (a ≡ b) × (p ≡ q)
joined_tells texts zero zero p q apart la lb dp dq e = (refl, e)
joined_tells texts zero (suc j) p q apart la lb dp dq e = absurd (no_dot p (get_or texts j []) q dp e)
joined_tells texts (suc i) zero p q apart la lb dp dq e = absurd (no_dot q (get_or texts i []) p dq (sym e))
joined_tells texts (suc i) (suc j) p q apart la lb dp dq e =
    let both = last_dot (get_or texts i []) (get_or texts j []) p q dp dq e in
    let at = slice_get-get_or texts i [] (omega (arith, la)) in
    let other = slice_get-get_or texts j [] (omega (arith, lb)) in
    (ap suc (apart i j (get_or texts i []) at (other ∙ ap Some (sym both.0))), both.1)

pub joined_more : (texts more : List (List ℕ)) (a : ℕ) (p : List ℕ) → a ≤ length texts → joined (texts ++ more) a p ≡ joined texts a p
joined_more texts more zero p l = refl
joined_more texts more (suc i) p l =
    ap (λ u. u ++ 46 ∷ p) (get_or_from_slice_get (texts ++ more) i (get_or texts i []) [] (slice_get-front texts more i (get_or texts i []) (slice_get-get_or texts i [] (omega (arith, l)))))

module _ (parts : List (List ℕ)) (nodes : List (ℕ × ℕ)) (texts : List (List ℕ)) (are : AreTexts parts nodes texts) where
  -- the path with this text
  pub node_of : (i a k : ℕ) (p : List ℕ) → slice_get texts i ≡ Some (joined texts a p) → a ≤ length texts → has_dot p ≡ false
      → slice_get parts k ≡ Some p → slice_get nodes i ≡ Some (a, k)
  node_of i a k p at l plain part =
      let within = slice_get_within texts i (joined texts a p) at in
      let node = there nodes i (omega (arith, within, are.len)) in
      let is = are.each i node.0 node.1 in
      let tells = joined_tells texts node.0.0 a is.part p are.apart (let m = is.around in omega (arith, m, within)) l is.plain plain (same_Some _ _ (sym is.text_is ∙ at)) in
      let same : node.0.1 ≡ k = are.parts_apart node.0.1 k p (is.part_is ∙ ap Some tells.1) part in
      node.1 ∙ (λ z. Some (tells.0 z, same z))

  -- and the text of the path
  pub text_of : (i a k : ℕ) (p : List ℕ) → slice_get nodes i ≡ Some (a, k) → slice_get parts k ≡ Some p → (slice_get texts i ≡ Some (joined texts a p)) × (has_dot p ≡ false)
  text_of i a k p at part =
      let is = are.each i (a, k) at in
      let same : is.part ≡ p = same_Some is.part p (sym is.part_is ∙ part) in
      (is.text_is ∙ ap (λ q. Some (joined texts a q)) same, ap has_dot (sym same) ∙ is.plain)

-- ---- one path more

-- what is at an index of a list with one element more
pub at_most : {X : Type 0} (xs : List X) (y x : X) (i : ℕ) → slice_get (xs ++ y ∷ []) i ≡ Some x → (slice_get xs i ≡ Some x) ⊎ ((i ≡ length xs) × (x ≡ y))
at_most [] y x zero e = inr (refl, same_Some x y (sym e))
at_most [] y x (suc i) e = cc
at_most (z ∷ xs) y x zero e = inl e
at_most (z ∷ xs) y x (suc i) e = elim (at_most xs y x i e) [ inl h ↦ inl h | inr h ↦ inr (ap suc h.0, h.1) ]

-- a text that is not there yet
pub apart_more : (texts : List (List ℕ)) (t : List ℕ) → AreApart texts → ((i : ℕ) → slice_get texts i ≢ Some t) → AreApart (texts ++ t ∷ [])
apart_more texts t apart new i j x at other =
    elim (at_most texts t x i at) [
      | inl a ↦ elim (at_most texts t x j other) [
        | inl b ↦ apart i j x a b
        | inr b ↦ absurd (new i (a ∙ ap Some b.1))
      ]
      | inr a ↦ elim (at_most texts t x j other) [
        | inl b ↦ absurd (new j (b ∙ ap Some a.1))
        | inr b ↦ a.0 ∙ sym b.0
      ]
    ]

-- further parts
pub parts_more : (parts more : List (List ℕ)) (nodes : List (ℕ × ℕ)) (texts : List (List ℕ)) → AreApart (parts ++ more) → AreTexts parts nodes texts
    → AreTexts (parts ++ more) nodes texts
parts_more parts more nodes texts apart are = record {
  len = are.len;
  each = λ i node at. let is = are.each i node at in
      record { around = is.around; part = is.part; part_is = slice_get-front parts more node.1 is.part is.part_is; plain = is.plain; text_is = is.text_is };
  apart = are.apart;
  parts_apart = apart;
}

-- the test of two paths
abbrev pub same_node : ℕ × ℕ → ℕ × ℕ → Bool
same_node x y = nat_eq x.0 y.0 && nat_eq x.1 y.1

pub same_is : (x y : ℕ × ℕ) → same_node x y ≡ true → x ≡ y
same_is x y e = let both = and_parts (nat_eq x.0 y.0) (nat_eq x.1 y.1) e in λ z. (eqb-true x.0 y.0 both.0 z, eqb-true x.1 y.1 both.1 z)

pub is_same : (x : ℕ × ℕ) → same_node x x ≡ true
is_same x = and_from (nat_eq x.0 x.0) (nat_eq x.1 x.1) (eq-eqb x.0 x.0 refl) (eq-eqb x.1 x.1 refl)

-- what passes no test is not there
pub not_there : {X : Type 0} (test : X → Bool) (xs : List X) (i : ℕ) (x : X) → list_any test xs ≡ false → slice_get xs i ≡ Some x → test x ≡ false
not_there test [] i x none at = cc
not_there test (y ∷ xs) zero x none at = let one = or_parts (test y) (list_any test xs) none in ap test (sym (same_Some y x at)) ∙ one.0
not_there test (y ∷ xs) (suc i) x none at = not_there test xs i x (or_parts (test y) (list_any test xs) none).1 at

-- the first that passes
pub first_passes : {X : Type 0} (test : X → Bool) (xs : List X) → list_any test xs ≡ true → (x : X) × (slice_get xs (position_or_len test xs) ≡ Some x) × (test x ≡ true)
first_passes test [] e = cc
first_passes test (x ∷ xs) e = by_test (test x) refl (first_passes test xs)
  where
    by_test : (b : Bool) → test x ≡ b → (list_any test xs ≡ true → (y : _) × (slice_get xs (position_or_len test xs) ≡ Some y) × (test y ≡ true))
        → (y : _) × (slice_get (x ∷ xs) (position_or_len test (x ∷ xs)) ≡ Some y) × (test y ≡ true)
    by_test true p more = (x, rw p refl, p)
    by_test false p more =
        let m = more (sym (ap (λ b. b || list_any test xs) p) ∙ e) in
        let f : 1 + position_or_len test xs ≡ suc (position_or_len test xs) = omega arith in
        (m.0, ap (λ b. slice_get (x ∷ xs) (cond (not b) (1 + position_or_len test xs) 0)) p ∙ ap (slice_get (x ∷ xs)) f ∙ m.1, m.2)

pub none_first : {X : Type 0} (test : X → Bool) (xs : List X) → list_any test xs ≡ false → position_or_len test xs ≡ length xs
none_first test [] e = refl
none_first test (x ∷ xs) e =
    let one = or_parts (test x) (list_any test xs) e in
    let more = none_first test xs one.1 in
    ap (λ b. cond (not b) (1 + position_or_len test xs) 0) one.0 ∙ (omega (arith, more))

module _ (parts : List (List ℕ)) (nodes : List (ℕ × ℕ)) (texts : List (List ℕ)) (are : AreTexts parts nodes texts) (a k : ℕ) (p : List ℕ)
    (part : slice_get parts k ≡ Some p) (plain : has_dot p ≡ false) (l : a ≤ length texts) where
  -- the texts after it is entered
  pub record Entered (new : List (ℕ × ℕ)) (index : ℕ) : Type 0 where
    pub more : List (List ℕ)
    pub new_are : AreTexts parts new (texts ++ more)
    pub at : slice_get (texts ++ more) index ≡ Some (joined texts a p)

  node_new : list_any (same_node (a, k)) nodes ≡ false → AreTexts parts (nodes ++ (a, k) ∷ []) (texts ++ joined texts a p ∷ [])
  node_new none =
      let t = joined texts a p in
      let lens = length-append texts (t ∷ []) in
      let node_lens = length-append nodes ((a, k) ∷ []) in
      let same_len = are.len in
      record {
        len = omega (arith, lens, node_lens, same_len);
        each = λ i node at. elim (at_most nodes (a, k) node i at) [
          | inl old ↦
              let is = are.each i node old in
              let within = slice_get_within nodes i node old in
              record {
                around = is.around;
                part = is.part;
                part_is = is.part_is;
                plain = is.plain;
                text_is = slice_get-front texts (t ∷ []) i _ is.text_is ∙ ap Some (sym (joined_more texts (t ∷ []) node.0 is.part (let m = is.around in omega (arith, m, within, same_len))));
              }
          | inr last ↦ record {
            around = let first : node.0 ≡ a = ap (λ (n : ℕ × ℕ). n.0) last.1 in omega (arith, first, l, last.0, same_len);
            part = p;
            part_is = ap (slice_get parts) (ap (λ (n : ℕ × ℕ). n.1) last.1) ∙ part;
            plain = plain;
            text_is = ap (slice_get (texts ++ t ∷ [])) (last.0 ∙ sym same_len) ∙ slice_get-seam texts t []
                ∙ ap Some (sym (joined_more texts (t ∷ []) a p l) ∙ ap (λ n. joined (texts ++ t ∷ []) n p) (sym (ap (λ (n : ℕ × ℕ). n.0) last.1)));
          }
        ];
        apart = apart_more texts t are.apart (λ i at. let b = not_there (same_node (a, k)) nodes i (a, k) none
            (node_of parts nodes texts are i a k p at l plain part) in let c = is_same (a, k) in cc);
        parts_apart = are.parts_apart;
      }

  pub entered : (new : List (ℕ × ℕ)) (index : ℕ) → new ≡ (if list_any (same_node (a, k)) nodes then nodes else nodes ++ (a, k) ∷ [])
      → index ≡ position_or_len (same_node (a, k)) nodes → Entered new index
  entered new index e at = by_test (list_any (same_node (a, k)) nodes) refl
    where
      by_test : (b : Bool) → list_any (same_node (a, k)) nodes ≡ b → Entered new index
      by_test true q =
          let first = first_passes (same_node (a, k)) nodes q in
          let found : slice_get nodes index ≡ Some (a, k) = ap (slice_get nodes) at ∙ first.1 ∙ ap Some (sym (same_is (a, k) first.0 first.2)) in
          record {
            more = [];
            new_are = rw (append-nil texts) (subst (λ l. AreTexts parts l texts) (sym (e ∙ rw q refl)) are);
            at = rw (append-nil texts) (text_of parts nodes texts are index a k p found part).0;
          }
      by_test false q = record {
        more = joined texts a p ∷ [];
        new_are = subst (λ l. AreTexts parts l (texts ++ joined texts a p ∷ [])) (sym (e ∙ rw q refl)) (node_new q);
        at = ap (slice_get (texts ++ joined texts a p ∷ [])) (at ∙ none_first (same_node (a, k)) nodes q ∙ sym are.len) ∙ slice_get-seam texts (joined texts a p) [];
      }

-- ---- the parts

-- the test of two texts
abbrev pub same_text : Vec ℕ → Vec ℕ → Bool
same_text v w = bytes_eq v.items w.items

abbrev items_of : Vec ℕ → List ℕ
items_of v = v.items

pub text_entered : (old new : HashSet (Vec ℕ) CodeSeed) (v : Vec ℕ) (t : List ℕ) (index : ℕ) → v.items ≡ t
    → new.keys ≡ (if list_any (same_text v) old.keys then old.keys else old.keys ++ v ∷ [])
    → index ≡ position_or_len (same_text v) old.keys → EntersText old new t index
text_entered old new v t index same e at = by_test (list_any (same_text v) old.keys) refl
  where
    by_test : (b : Bool) → list_any (same_text v) old.keys ≡ b → EntersText old new t index
    by_test true q =
        let first = first_passes (same_text v) old.keys q in
        let keys : new.keys ≡ old.keys = e ∙ rw q refl in
        let text : first.0.items ≡ t = sym ((bytes_eq-Decides v.items first.0.items).0 first.2) ∙ same in (
          [],
          ap (map items_of) keys ∙ sym (append-nil (texts_in old)),
          ap (λ ks. slice_get (map items_of ks) index) keys ∙ slice_get-map items_of old.keys index ∙ ap (option_map items_of) (ap (slice_get old.keys) at ∙ first.1) ∙ ap Some text,
          λ apart. subst AreApart (sym (ap (map items_of) keys)) apart,
        )
    by_test false q =
        let keys : new.keys ≡ old.keys ++ v ∷ [] = e ∙ rw q refl in
        let texts : texts_in new ≡ texts_in old ++ t ∷ [] = ap (map items_of) keys ∙ map-append items_of old.keys (v ∷ []) ∙ ap (λ x. texts_in old ++ x ∷ []) same in
        let last : index ≡ length (texts_in old) = at ∙ none_first (same_text v) old.keys q ∙ sym (length-map old.keys items_of) in (
          t ∷ [],
          texts,
          ap (λ ts. slice_get ts index) texts ∙ ap (slice_get (texts_in old ++ t ∷ [])) last ∙ slice_get-seam (texts_in old) t [],
          λ apart. subst AreApart (sym texts) (apart_more (texts_in old) t apart (λ i there. is_new i there (slice_get old.keys i) refl)),
        )
      where
        is_new : (i : ℕ) → slice_get (texts_in old) i ≡ Some t → (o : Option (Vec ℕ)) → slice_get old.keys i ≡ o → ⊥
        is_new i there None none = let no = sym there ∙ slice_get-map items_of old.keys i ∙ ap (option_map items_of) none in cc
        is_new i there (Some w) some =
            let text : t ≡ w.items = same_Some t w.items (sym there ∙ slice_get-map items_of old.keys i ∙ ap (option_map items_of) some) in
            let fails = not_there (same_text v) old.keys i w q some in
            let passes = (bytes_eq-Decides v.items w.items).1 (same ∙ text) in
            cc

-- what a search has found passes
pub position_passes : {X : Type 0} (test : X → Bool) (xs : List X) (i : ℕ) → position test xs ≡ Some i → (x : X) × (slice_get xs i ≡ Some x) × (test x ≡ true)
position_passes test xs i e = by_any (list_any test xs) refl
  where
    by_any : (b : Bool) → list_any test xs ≡ b → (x : _) × (slice_get xs i ≡ Some x) × (test x ≡ true)
    by_any true q =
        let first = first_passes test xs q in
        let below = lt-ltb (position_or_len test xs) (length xs) (slice_get_within xs (position_or_len test xs) first.0 first.1) in
        let same : position_or_len test xs ≡ i = same_Some _ _ (sym (ap (λ b. cond b (Some (position_or_len test xs)) None) below) ∙ e) in
        (first.0, ap (slice_get xs) (sym same) ∙ first.1, first.2)
    by_any false q =
        let past = le-ltb (position_or_len test xs) (length xs) (let n = none_first test xs q in omega (arith, n)) in
        let no = sym (ap (λ b. cond b (Some (position_or_len test xs)) None) past) ∙ e in
        cc

-- it is the first
pub position_first : {X : Type 0} (test : X → Bool) (xs : List X) (i : ℕ) → position test xs ≡ Some i → position_or_len test xs ≡ i
position_first test xs i e = by_within (nat_lt (position_or_len test xs) (length xs)) refl
  where
    by_within : (b : Bool) → nat_lt (position_or_len test xs) (length xs) ≡ b → position_or_len test xs ≡ i
    by_within true q = same_Some _ _ (sym (ap (λ b. cond b (Some (position_or_len test xs)) None) q) ∙ e)
    by_within false q = let no = sym (ap (λ b. cond b (Some (position_or_len test xs)) None) q) ∙ e in absurd (cc)

-- and where it has found nothing, nothing passes
pub position_none : {X : Type 0} (test : X → Bool) (xs : List X) → position test xs ≡ None → list_any test xs ≡ false
position_none test xs e = by_any (list_any test xs) refl
  where
    by_any : (b : Bool) → list_any test xs ≡ b → list_any test xs ≡ false
    by_any false q = q
    by_any true q =
        let first = first_passes test xs q in
        let below = lt-ltb (position_or_len test xs) (length xs) (slice_get_within xs (position_or_len test xs) first.0 first.1) in
        let no = sym (ap (λ b. cond b (Some (position_or_len test xs)) None) below) ∙ e in
        cc

-- a text that was found
pub text_found : (set : HashSet (Vec ℕ) CodeSeed) (t : List ℕ) (index : ℕ) → position (λ (k : Vec ℕ). bytes_eq t k.items) set.keys ≡ Some index → EntersText set set t index
text_found set t index e =
    let found = position_passes (λ (k : Vec ℕ). bytes_eq t k.items) set.keys index e in (
      [],
      sym (append-nil (texts_in set)),
      slice_get-map items_of set.keys index ∙ ap (option_map items_of) found.1 ∙ ap Some (sym ((bytes_eq-Decides t found.0.items).0 found.2)),
      λ apart. apart,
    )

-- the path of a part that was entered
pub path_entered : (old mid new : Paths) (part : List ℕ) (around k index number : ℕ) → EntersText old.parts mid.parts part k
    → mid.nodes.keys ≡ old.nodes.keys → new.parts.keys ≡ mid.parts.keys
    → new.nodes.keys ≡ (if list_any (same_node (around, k)) mid.nodes.keys then mid.nodes.keys else mid.nodes.keys ++ (around, k) ∷ [])
    → index ≡ position_or_len (same_node (around, k)) mid.nodes.keys → number ≡ suc index
    → (texts : List (List ℕ)) → HasTexts old texts → around ≤ length texts → has_dot part ≡ false → EntersPath texts new (joined texts around part) number
path_entered old mid new part around k index number text nodes parts keys at is texts has l plain =
    let apart = subst AreApart text.1 (text.3 has.parts_apart) in
    let more = parts_more (texts_in old.parts) text.0 old.nodes.keys texts apart has in
    let are : AreTexts (texts_in mid.parts) mid.nodes.keys texts = rw (text.1, nodes) more in
    let e = entered (texts_in mid.parts) mid.nodes.keys texts are around k part text.2 plain l new.nodes.keys index keys at in (
      e.more,
      subst (λ ts. AreTexts ts new.nodes.keys (texts ++ e.more)) (sym (ap (map items_of) parts)) e.new_are,
      (index, is, e.at),
    )

-- ---- a name part by part

-- so much of a name was entered, as the path with this number
pub record IsEntering (texts : List (List ℕ)) (around : ℕ) (name : List ℕ) (paths : Paths) (number : ℕ) (rest : List ℕ) : Type 0 where
  pub more : List (List ℕ)
  pub has : HasTexts paths (texts ++ more)
  pub within : number ≤ length (texts ++ more)
  pub is : joined (texts ++ more) number rest ≡ joined texts around name

pub entering_first : (texts : List (List ℕ)) (around : ℕ) (name : List ℕ) (paths : Paths) → HasTexts paths texts → around ≤ length texts → IsEntering texts around name paths around name
entering_first texts around name paths has l = record {
  more = [];
  has = subst (HasTexts paths) (sym (append-nil texts)) has;
  within = subst (λ ts. around ≤ length ts) (sym (append-nil texts)) l;
  is = ap (λ ts. joined ts around name) (append-nil texts);
}

joined-append : (texts : List (List ℕ)) (n : ℕ) (p q : List ℕ) → joined texts n p ++ 46 ∷ q ≡ joined texts n (p ++ 46 ∷ q)
joined-append texts zero p q = refl
joined-append texts (suc i) p q = append_assoc (get_or texts i []) (46 ∷ p) (46 ∷ q)

-- the number of a path is not above that of all
pub number_within : (texts : List (List ℕ)) (n : ℕ) (t : List ℕ) → IsNumberOf texts n t → n ≤ length texts
number_within texts n t is = let l = slice_get_within texts is.0 t is.2 in omega (arith, l, is.1)

-- what is inside a path
pub joined_number : (texts : List (List ℕ)) (n : ℕ) (t p : List ℕ) → IsNumberOf texts n t → joined texts n p ≡ t ++ 46 ∷ p
joined_number texts n t p is = ap (λ m. joined texts m p) is.1 ∙ ap (λ u. u ++ 46 ∷ p) (get_or_from_slice_get texts is.0 t [] is.2)

pub entering_more : (texts : List (List ℕ)) (around : ℕ) (name : List ℕ) (old new : Paths) (number next : ℕ) (rest part more : List ℕ)
    (e : IsEntering texts around name old number rest) → rest ≡ part ++ 46 ∷ more
    → EntersPath (texts ++ e.more) new (joined (texts ++ e.more) number part) next → IsEntering texts around name new next more
entering_more texts around name old new number next rest part more e split p =
    let all = texts ++ e.more in
    let same : all ++ p.0 ≡ texts ++ (e.more ++ p.0) = append_assoc texts e.more p.0 in
    record {
      more = e.more ++ p.0;
      has = subst (HasTexts new) same p.1;
      within = subst (λ ts. next ≤ length ts) same (number_within (all ++ p.0) next (joined all number part) p.2);
      is = ap (λ ts. joined ts next more) (sym same) ∙ joined_number (all ++ p.0) next (joined all number part) more p.2
          ∙ joined-append all number part more ∙ ap (joined all number) (sym split) ∙ e.is;
    }

pub entering_last : (texts : List (List ℕ)) (around : ℕ) (name : List ℕ) (old new : Paths) (number last : ℕ) (rest : List ℕ) (e : IsEntering texts around name old number rest)
    → EntersPath (texts ++ e.more) new (joined (texts ++ e.more) number rest) last → EntersPath texts new (joined texts around name) last
entering_last texts around name old new number last rest e p =
    let same : (texts ++ e.more) ++ p.0 ≡ texts ++ (e.more ++ p.0) = append_assoc texts e.more p.0 in (
      e.more ++ p.0,
      subst (HasTexts new) same p.1,
      subst (λ ts. IsNumberOf ts last (joined texts around name)) same (subst (IsNumberOf ((texts ++ e.more) ++ p.0) last) e.is p.2),
    )
