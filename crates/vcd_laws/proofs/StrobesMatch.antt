-- The comparison of two strobes in what `merge` wrote has status 0 if what they have just before
-- their edges matches.
use Rattle.vcd_laws.proofs.Cited.{Bool, Contains, List, None, Option, Some, [], ap, arith, codes, cond, false, inl, inr, length, nat_le, nat_lt, not, refl, subst, suc, sym, take, true, zero, ℕ, ◌&&◌, ◌*◌, ◌++◌, ◌<◌, ◌==◌, ◌↔◌, ◌∙◌, ◌∷◌, ◌≡◌, ◌≢◌, ◌≤◌, eq-eqb, eqb-true, le-leb, le-ltb, leb-true, lt-ltb, length-append, bytes_eq-Decides, AreReadable, input_of, gives_at, last_value_is, latest_agree, Asked, IdCode, code_of, same_code, Header, gives_to, value_at, BodyItem, Entry, entries, time_after, Want, outcome, Opened, items_in, selected, selects_code, Value}
use Rattle.std.specs.Prelude.{slice_get}
use Rattle.std.proofs.Math.Nat.{one-mul}
use Rattle.vcd_model.specs.HeadText.{least_exponent}
use Rattle.vcd_model.specs.History.{last_value}
use Rattle.vcd_model.specs.Merge.{factor}
use Rattle.vcd_model.specs.Compare.{Pair, Rule, Side, alone, differs, is_triggered as comes, match, pairs, rule_for, state_at, unlike}
use Rattle.vcd_model.specs.Within.{within}
use Rattle.vcd_model.specs.Strobe.{Strobe, binary, is_triggered, last_time, sampled, strobe_codes, time_code}
use Rattle.vcd_laws.specs.CompareMerged.{both_inputs, side_of}
use Rattle.vcd_laws.specs.Matching.{AllMatch}
use Rattle.vcd_laws.specs.Strobes.{GivesEdges, IsStrobeDump, edges_before, written_codes}
use Rattle.vcd_laws.specs.StrobesMerged.{Clocked, EdgesMatch, StrobeSuccessIsAMatch, asked_of_strobes, clocked, edges_of, state_before}
use Rattle.vcd_laws.proofs.WrittenCodes.{In, from_contained, from_filter, to_contained}
use Rattle.vcd_laws.proofs.MergedHead.{all_in}
use Rattle.vcd_laws.proofs.MergedStates.{any_agree}
use Rattle.vcd_laws.proofs.CompareOfMerge.{known}
use Rattle.vcd_laws.proofs.MergedSuccess.{merged_success_is_a_match}
use Rattle.vcd_laws.proofs.StrobeChanges.{lengths_differ, time_code_new}
use Rattle.vcd_laws.proofs.StrobeKeeps.{is_at}

-- ---- states at a time

-- one time is from it on, and before the next
one_time : (b : Bool) (t n : ℕ) → (b && 1 * t == n) ≡ (b && nat_le n t && nat_lt t (suc n))
one_time b t n = ap (λ m. b && m == n) (one-mul t) ∙ by_same (t == n) refl
  where
    none : (x y : Bool) → (x ≡ true → y ≡ false) → (b && x && y) ≡ (b && false)
    none true y f = ap (λ z. b && true && z) (f refl) ∙ no_more b
      where
        no_more : (b : Bool) → (b && true && false) ≡ (b && false)
        no_more true = refl
        no_more false = refl
    none false y f = no_more b
      where
        no_more : (b : Bool) → (b && false && y) ≡ (b && false)
        no_more true = refl
        no_more false = refl

    by_same : (s : Bool) → (t == n) ≡ s → (b && t == n) ≡ (b && nat_le n t && nat_lt t (suc n))
    by_same true e =
        let same = eqb-true t n e in
        rw (e, le-leb n t (omega arith), lt-ltb t (suc n) (omega arith)) (one_true b)
      where
        one_true : (b : Bool) → (b && true) ≡ (b && true && true)
        one_true true = refl
        one_true false = refl
    by_same false e = rw e (sym (none (nat_le n t) (nat_lt t (suc n)) (λ l.
        let low = leb-true n t l in
        le-ltb t (suc n) (above low (λ same. let x : true ≡ false = sym (eq-eqb t n same) ∙ e in cc)))))
      where
        above : n ≤ t → t ≢ n → suc n ≤ t
        above low apart = omega (arith, low, apart)

triggered_is : (items : List BodyItem) (c : IdCode) (n : ℕ)
    → comes 1 items c n ≡ is_triggered items c n (suc n)
triggered_is items c n =
    any_agree (λ (e : Entry). gives_to c e.item && not e.inside && 1 * e.time == n)
    (λ (e : Entry). gives_to c e.item && not e.inside && nat_le n e.time && nat_lt e.time (suc n))
    (entries items)
    (all_in (λ (e : Entry). (gives_to c e.item && not e.inside && 1 * e.time == n)
    ≡ (gives_to c e.item && not e.inside && nat_le n e.time && nat_lt e.time (suc n)))
    (entries items) (λ e i. one_time (gives_to c e.item && not e.inside) e.time n))

value_is : (items : List BodyItem) (c : IdCode) (n : ℕ)
    → last_value c (λ u. nat_le (1 * u) n) items ≡ value_at items c n
value_is items c n =
    last_value_is c (λ u. nat_le (1 * u) n) items
    ∙ latest_agree (gives_at c (λ u. nat_le (1 * u) n)) (gives_at c (λ u. nat_le u n))
    (entries items) (all_in (λ (e : Entry). gives_at c (λ u. nat_le (1 * u) n) e
    ≡ gives_at c (λ u. nat_le u n) e) (entries items)
    (λ e i. ap (λ m. gives_to c e.item && nat_le m n) (one-mul e.time)))
    ∙ sym (last_value_is c (λ u. nat_le u n) items)

module _ (limit : ℕ) (s : Strobe) (o : Opened) (text : List ℕ)
    (one : IsStrobeDump limit s o text) where
  abbrev d : Clocked
  d = clocked s o

  abbrev written : List BodyItem
  written = items_in one.dump

  pub state_is : (c : IdCode) (k : ℕ) (edge : List BodyItem) → In c one.dump.header.codes
      → slice_get (edges_of d) k ≡ Some edge
      → state_at 1 written c (suc k) ≡ state_before d k edge c
  state_is c k edge i at =
      let head = one.head in
      let codes = head.codes in
      by_code (from_contained (written_codes o.header s.names) c
      ((codes c).0 (to_contained one.dump.header.codes c i)))
    where
      give : GivesEdges d.clocks o.header s.names (items_in o) written
      give = one.edges

      by_event : (b : Bool) → c.event ≡ b → Contains (strobe_codes o.header s.names) c
          → state_at 1 written c (suc k)
          ≡ cond c.event (cond (is_triggered edge c (last_time (edges_before d.clocks d.items k))
          (time_after edge)) (Some (Value.Bits (codes "1"))) None) (sampled edge c)
      by_event true e j =
          let t = triggered_is written c (suc k) ∙ give.events c k edge at j e in
          rw (e, t) refl
      by_event false e j =
          ap (λ b. cond b (cond (comes 1 written c (suc k)) (Some (Value.Bits (codes "1"))) None)
          (last_value c (λ u. nat_le (1 * u) (suc k)) written)) e
          ∙ value_is written c (suc k) ∙ give.values c k edge at j e
          ∙ sym (ap (λ b. cond b (cond (is_triggered edge c
          (last_time (edges_before d.clocks d.items k)) (time_after edge))
          (Some (Value.Bits (codes "1"))) None) (sampled edge c)) e)

      by_code : In c (written_codes o.header s.names)
          → state_at 1 written c (suc k) ≡ state_before d k edge c
      by_code (inl e) =
          let own : same_code (time_code o.header) (time_code o.header) ≡ true =
          (bytes_eq-Decides (time_code o.header).text (time_code o.header).text).1 refl in
          subst (λ (x : IdCode). state_at 1 written x (suc k) ≡ state_before d k edge x) (sym e)
          (value_is written (time_code o.header) (suc k) ∙ give.times k edge at
          ∙ sym (ap (λ b. cond b (Some (Value.Bits (binary 64 (time_after edge))))
          (sampled edge (time_code o.header))) own))
      by_code (inr j) =
          let f = from_filter (selects_code (selected s.names o.header.declarations))
          o.header.codes c j in
          let other : same_code c (time_code o.header) ≡ false =
          lengths_differ c.text (time_code o.header).text (time_code_new o.header c f.0) in
          by_event c.event refl (to_contained (strobe_codes o.header s.names) c j)
          ∙ sym (ap (λ b. cond b (Some (Value.Bits (binary 64 (time_after edge))))
          (cond c.event (cond (is_triggered edge c (last_time (edges_before d.clocks d.items k))
          (time_after edge)) (Some (Value.Bits (codes "1"))) None) (sampled edge c))) other)

  pub state_none : (c : IdCode) → state_at 1 written c 0 ≡ None
  state_none c = by_event c.event refl
    where
      give : GivesEdges d.clocks o.header s.names (items_in o) written
      give = one.edges

      by_event : (b : Bool) → c.event ≡ b → state_at 1 written c 0 ≡ None
      by_event true e = let t = triggered_is written c 0 ∙ (give.start c).1 in rw (e, t) refl
      by_event false e = let v = value_is written c 0 ∙ (give.start c).0 in rw (e, v) refl

-- ---- two strobes

factor_none : (h k x : Header) → h.scale ≡ None → k.scale ≡ None → x.scale ≡ None
    → factor (h ∷ k ∷ []) x ≡ 1
unfolding factor least_exponent
factor_none h k x e f g = rw (e, f, g) refl

same_match : (rule : Rule) (v v' w w' : Option Value) → v ≡ v' → w ≡ w'
    → not (match rule v w) ≡ not (match rule v' w')
same_match rule v v' w w' e f =
    ap (λ x. not (match rule x w)) e ∙ ap (λ x. not (match rule v' x)) f

get_some : {X : Type 0} (xs : List X) (k : ℕ) → k < length xs
    → (x : X) × (slice_get xs k ≡ Some x)
get_some [] k l = absurd (omega arith)
get_some (x ∷ xs) zero l = (x, refl)
get_some (x ∷ xs) (suc k) l = get_some xs k (omega arith)

below_length : {X : Type 0} (xs : List X) (k : ℕ) (x : X) → slice_get xs k ≡ Some x
    → suc k ≤ length xs
below_length xs k x e =
    let at = is_at xs k x e in
    let number = at.number in
    let whole = ap length at.whole in
    let sum = length-append (take k xs) (x ∷ at.later) in
    omega arith

module _ (q : Asked) (limit : ℕ) (names : List (List ℕ)) (s r : Strobe) (o p : Opened)
    (text other : List ℕ) (one : IsStrobeDump limit s o text) (two : IsStrobeDump limit r p other)
    (can : AreReadable limit names (input_of text ∷ input_of other ∷ [])
    (one.dump ∷ two.dump ∷ [])) (all : q.names ≡ []) where
  abbrev h : Header
  h = one.dump.header

  abbrev k : Header
  k = two.dump.header

  abbrev a : Side
  a = side_of (h ∷ k ∷ []) one.dump

  abbrev b : Side
  b = side_of (h ∷ k ∷ []) two.dump

  abbrev ones : Clocked
  ones = clocked s o

  abbrev others : Clocked
  others = clocked r p

  scale_one : a.scale ≡ 1
  scale_one = let x = one.head in let y = two.head in factor_none h k h x.scale y.scale x.scale

  scale_other : b.scale ≡ 1
  scale_other = let x = one.head in let y = two.head in factor_none h k k x.scale y.scale y.scale

  abbrev asked : Asked
  asked = asked_of_strobes q ones others

  abbrev ps : List Pair
  ps = pairs q h k

  first_is : (x : Pair) (n : ℕ) (e : List BodyItem) → In x ps → slice_get (edges_of ones) n ≡ Some e
      → state_at a.scale a.items (code_of x.one) (suc n) ≡ state_before ones n e (code_of x.one)
  first_is x n e i at =
      let codes = known q limit names (input_of text ∷ input_of other ∷ []) one.dump two.dump can all x
      i in
      ap (λ m. state_at m a.items (code_of x.one) (suc n)) scale_one
      ∙ state_is limit s o text one (code_of x.one) n e codes.first at

  second_is : (x : Pair) (n : ℕ) (f : List BodyItem) → In x ps
      → slice_get (edges_of others) n ≡ Some f
      → state_at b.scale b.items (code_of x.other) (suc n)
      ≡ state_before others n f (code_of x.other)
  second_is x n f i at =
      let codes = known q limit names (input_of text ∷ input_of other ∷ []) one.dump two.dump can all x
      i in
      ap (λ m. state_at m b.items (code_of x.other) (suc n)) scale_other
      ∙ state_is limit r p other two (code_of x.other) n f codes.second at

  -- whether a pair differs at a number
  differs_is : (x : Pair) (n : ℕ) (e f : List BodyItem) → In x ps
      → slice_get (edges_of ones) n ≡ Some e → slice_get (edges_of others) n ≡ Some f
      → differs q.rule a b x (suc n) ≡ not (match (rule_for q.rule x.one)
      (state_before ones n e (code_of x.one)) (state_before others n f (code_of x.other)))
  differs_is x n e f i at at' =
      same_match (rule_for q.rule x.one) (state_at a.scale a.items (code_of x.one) (suc n))
      (state_before ones n e (code_of x.one)) (state_at b.scale b.items (code_of x.other) (suc n))
      (state_before others n f (code_of x.other)) (first_is x n e i at) (second_is x n f i at')

  -- at 0 there is nothing
  none_differs : (x : Pair) → differs q.rule a b x 0 ≡ false
  none_differs x =
      same_match (rule_for q.rule x.one) (state_at a.scale a.items (code_of x.one) 0) None
      (state_at b.scale b.items (code_of x.other) 0) None
      (ap (λ m. state_at m a.items (code_of x.one) 0) scale_one
      ∙ state_none limit s o text one (code_of x.one))
      (ap (λ m. state_at m b.items (code_of x.other) 0) scale_other
      ∙ state_none limit r p other two (code_of x.other))

  abbrev There : Type 0
  There = AllMatch q.rule a b ps (alone q h k ++ alone q k h) (unlike q h k) asked.from asked.to

  not_false : (x : Bool) → not x ≡ false → x ≡ true
  not_false true e = refl
  not_false false e = cc

  pub from_there : There → EdgesMatch q ones others h k
  from_there m = record {
    some = m.some;
    none_alone = m.none_alone;
    none_different = m.none_different;
    states = λ x n e f i at at' low high.
        let c = below_length (edges_of ones) n e at in
        let d = below_length (edges_of others) n f at' in
        not_false (match (rule_for q.rule x.one) (state_before ones n e (code_of x.one))
        (state_before others n f (code_of x.other)))
        (sym (differs_is x n e f (from_contained ps x i) at at')
        ∙ m.states x (suc n) i low (omega (arith, high, c, d)));
  }

  pub from_here : EdgesMatch q ones others h k → There
  from_here m = record {
    some = m.some;
    none_alone = m.none_alone;
    none_different = m.none_different;
    states = λ x t i low high. by_time x t i low high;
  }
    where
      by_time : (x : Pair) (t : ℕ) → Contains ps x → asked.from ≤ t → t ≤ asked.to
          → differs q.rule a b x t ≡ false
      by_time x zero i low high = none_differs x
      by_time x (suc n) i low high =
          let e = get_some (edges_of ones) n (omega (arith, high)) in
          let f = get_some (edges_of others) n (omega (arith, high)) in
          differs_is x n e.0 f.0 (from_contained ps x i) e.1 f.1
          ∙ ap not (m.states x n e.0 f.0 i e.1 f.1 low (omega (arith, high)))

  pub match_is : (name : List ℕ)
      → ((within asked limit both_inputs name (input_of (outcome Want.Merge limit names
      (input_of text ∷ input_of other ∷ [])).output)).status ≡ 0) ↔ There
  match_is name =
      merged_success_is_a_match q limit name names (input_of text ∷ input_of other ∷ []) one.dump two.dump can all asked.from asked.to

pub strobe_success_is_a_match : StrobeSuccessIsAMatch
strobe_success_is_a_match q limit name names s r o p text other one two can all =
    let law = match_is q limit names s r o p text other one two can all name in (
      λ good. from_there q limit names s r o p text other one two can all (law.0 good),
      λ m. law.1 (from_here q limit names s r o p text other one two can all m),
    )
