-- The two inputs in what `merge` wrote compared, and the two inputs themselves.
use Rattle.vcd_laws.proofs.Cited.{◌≡◌, ℕ, ◌*◌, ◌≤◌, ◌==◌, min, Bool, true, false, cond, ◌&&◌, ◌||◌, nat_lt, nat_le, List, [], ◌∷◌, ◌++◌, length, map, filter, filter_map, flat_map, codes, bytes_eq, Option, Some, None, option_map, inl, inr, refl, sym, ap, ◌∙◌, subst, arith, AllByRecursion, list_any, cons_option, append-nil, length-map, mul-le-mul_left, and_parts, leb-true, le-leb, ltb-true, eq-eqb, eqb-true, each_after, Input, code_of, Header, BodyItem, time_after, Keyed, Dump, factor, headers_of, merged_items, merge_kept, greatest_mark, Opened, items_in, dumps_of, Want, outcome, merged_codes, parts_items, input_of, AreReadable, append_assoc, input_scope, is_some, under_input, find, Asked}
use Rattle.std.proofs.lemmas.List.Folds.{flat_map-map}
use Rattle.vcd_model.specs.Items.{marks}
use Rattle.vcd_model.specs.HeadText.{words}
use Rattle.vcd_model.specs.Selection.{selected}
use Rattle.vcd_model.specs.Compare.{Kind, Named, Pair, Side, all_named, alone, alone_lines, answer, changes_at, counterpart, first_of, full_name, in_common, in_order, is_fit, is_past, kind_of, lacks_range, lines_at, lone, marks_of, name_in, named, named_after, only_at, pair_of, pairs, partner, range_of, same_kind, same_place, state_at, the_only, times, unlike, unlike_lines, kind_shown, is_asked}
use Rattle.vcd_model.specs.Within.{alone_in, compared_in, side, times_in, turned, unlike_in, within, within_head}
use Rattle.vcd_laws.specs.CompareMerged.{CompareOfMerge, alone_in_style, asked_of_merge, asked_within, both_inputs, lines_in_style, merged_style, side_of, unlike_in_style, values_in_style}
use Rattle.vcd_laws.proofs.MergeDumps.{headers_are}
use Rattle.vcd_laws.proofs.DumpLaws.{merge_is_a_dump}
use Rattle.vcd_laws.proofs.WrittenCodes.{In, any_of, from_any, from_filter, from_find, from_map, in_left, in_map, in_right}
use Rattle.vcd_laws.proofs.MergedHead.{CanMerge, merged_selected}
use Rattle.vcd_laws.proofs.MergedBack.{all_can}
use Rattle.vcd_laws.proofs.CheckOfMerge.{merge_items}
use Rattle.vcd_laws.proofs.WholeDumps.{whole_dump, dumps_whole}
use Rattle.vcd_laws.proofs.SampleOfMerge.{among, code_in}
use Rattle.vcd_laws.proofs.EdgesOfMerge.{changes_only}
use Rattle.vcd_laws.proofs.MergedPairs.{ArePaired, are_paired, bytes_turned, merged_pair, named_in}
use Rattle.vcd_laws.proofs.MergedStates.{IsMergedCode, changes_alike, is_merged_code, states_alike}
use Rattle.vcd_laws.proofs.SameTimes.{greatest_above, le_min, same_times}
use Rattle.vcd_laws.proofs.MergedTimes.{IsTimeOf, merged_marks}
use Rattle.vcd_laws.proofs.QuietTimes.{AreTimes, IsEven, is_marked, marked_in, quiet_lines}
use Rattle.vcd_laws.proofs.WholeWithin.{whole_outcome, within_opened}
use Rattle.vcd_laws.proofs.CompareInputs.{directly_is}
use Rattle.vcd_laws.proofs.SameSides.{IsAlike, lines_alike}

-- ---- the codes of a pair

named_from : (done ss : List _) (v : Named) → In v (each_after named_after done ss)
    → (s : _) × In s ss × (v.variable ≡ s.variable)
named_from done [] v i = absurd i
named_from done (s ∷ ss) v (inl e) = (s, inl refl, ap (λ (x : Named). x.variable) e)
named_from done (s ∷ ss) v (inr i) = let f = named_from (done ++ s ∷ []) ss v i in (f.0, inr f.1, f.2)

named_code : (h : Header) (v : Named) → CanMerge h → In v (all_named h) → In (code_of v.variable) h.codes
named_code h v can i =
    let f = named_from [] (selected [] h.declarations) v i in
    subst (λ x. In (code_of x) h.codes) (sym f.2) (code_in h [] f.0 can f.1)

-- a counterpart is one of the others
counterpart_in : (ones others : List Named) (path : List ℕ) (v w : Named) → counterpart ones others path v ≡ Some w → In w others
counterpart_in ones others path v w e = by_found (find (λ x. bytes_eq x.path path && same_place v x) others) refl e
  where
    only_in : (vs : List Named) (x : Named) → the_only vs ≡ Some x → In x vs
    only_in [] x f = cc
    only_in (y ∷ []) x f = let same : x ≡ y = cc in inl same
    only_in (y ∷ z ∷ vs) x f = cc

    lone_is : (own o : Option Named) → lone own v o ≡ Some w → o ≡ Some w
    lone_is own None f = cc
    lone_is own (Some x) f = by_test (is_some own && lacks_range v x) f
      where
        by_test : (b : Bool) → cond b (Some x) None ≡ Some w → Some x ≡ Some w
        by_test true g = g
        by_test false g = cc

    by_found : (o : Option Named) → find (λ x. bytes_eq x.path path && same_place v x) others ≡ o
        → first_of o (lone (only_at ones v.path) v (only_at others path)) ≡ Some w → In w others
    by_found None f g = (from_filter (λ x. bytes_eq x.path path) others w
        (only_in (filter (λ x. bytes_eq x.path path) others) w (lone_is (only_at ones v.path) (only_at others path) g))).0
    by_found (Some x) f g = (from_find (λ x. bytes_eq x.path path && same_place v x) others w (f ∙ g)).0

pub pair_from : (one other : Header) (vs : List Named) (p : Pair) → In p (filter_map (pair_of one other) vs)
    → (v : Named) × (w : Named) × In v vs × In w (all_named other)
    × (p ≡ record { path = name_in one v; one = v.variable; other = w.variable })
pair_from one other [] p i = absurd i
pair_from one other (v ∷ vs) p i = by_partner (partner one other v) refl i (pair_from one other vs p)
  where
    by_partner : (o : Option Named) → partner one other v ≡ o
        → In p (cons_option (option_map (λ w. record { path = name_in one v; one = v.variable; other = w.variable }) o)
        (filter_map (pair_of one other) vs))
        → (In p (filter_map (pair_of one other) vs) → (x : Named) × (w : Named) × In x vs × In w (all_named other)
        × (p ≡ record { path = name_in one x; one = x.variable; other = w.variable }))
        → (x : Named) × (w : Named) × In x (v ∷ vs) × In w (all_named other)
        × (p ≡ record { path = name_in one x; one = x.variable; other = w.variable })
    by_partner None e j more = let m = more j in (m.0, m.1, inr m.2, m.3, m.4)
    by_partner (Some w) e (inl same) more = (v, w, inl refl, counterpart_in (all_named one) (all_named other) v.path v w e, same)
    by_partner (Some w) e (inr j) more = let m = more j in (m.0, m.1, inr m.2, m.3, m.4)

-- the full name of a variable in a merge
full_under : (n : ℕ) (v : Named) → under_input n v.path ++ range_of v.variable ≡ under_input n (full_name v)
full_under n v = append_assoc (input_scope n) (46 ∷ v.path) (range_of v.variable)

flat_map_same : {X Y : Type 0} (f g : X → List Y) (xs : List X) → ((x : X) → f x ≡ g x) → flat_map f xs ≡ flat_map g xs
flat_map_same f g [] same = refl
flat_map_same f g (x ∷ xs) same = rw (same x, flat_map_same f g xs same) refl

even_kinds : (x y r s : Bool) (m n : ℕ)
    → same_kind (cond x Kind.Event (cond r Kind.Real (Kind.Digits m))) (cond y Kind.Event (cond s Kind.Real (Kind.Digits n))) ≡ true
    → x ≡ y
even_kinds true true r s m n e = refl
even_kinds false false r s m n e = refl
even_kinds true false r true m n e = cc
even_kinds true false r false m n e = cc
even_kinds false true true s m n e = cc
even_kinds false true false s m n e = cc

pub fit_even : (p : Pair) → is_fit p ≡ true → IsEven p
fit_even p e =
    bytes_turned (codes "event") p.one.type
    ∙ even_kinds (bytes_eq p.one.type (codes "event")) (bytes_eq p.other.type (codes "event")) _ _ p.one.size p.other.size e
    ∙ bytes_turned p.other.type (codes "event")

-- what is known of a pair that is compared
pub record IsKnown (one other : Header) (p : Pair) : Type 0 where
  pub first : In (code_of p.one) one.codes
  pub second : In (code_of p.other) other.codes
  pub even : IsEven p

pairs_known : (q : Asked) (one other : Header) (p : Pair) → CanMerge one → CanMerge other
    → In p (pairs q one other) → IsKnown one other p
unfolding pairs
pairs_known q one other p can can' i =
    let f = from_filter is_fit (in_common q one other) p i in
    let g = pair_from one other (named q one) p f.0 in
    record {
      first = subst (λ (x : Pair). In (code_of x.one) one.codes) (sym g.4) (named_code one g.0 can (from_filter (λ w. is_asked q w.path) (all_named one) g.0 g.2).0);
      second = subst (λ (x : Pair). In (code_of x.other) other.codes) (sym g.4) (named_code other g.1 can' g.3);
      even = fit_even p f.1;
    }

-- ---- two inputs

module _ (q : Asked) (limit : ℕ) (names : List (List ℕ)) (inputs : List Input) (o p : Opened)
    (can : AreReadable limit names inputs (o ∷ p ∷ [])) (all : q.names ≡ []) where
  abbrev os : List Opened
  os = o ∷ p ∷ []

  abbrev hs : List Header
  hs = o.header ∷ p.header ∷ []

  abbrev a : Side
  a = side_of hs o

  abbrev b : Side
  b = side_of hs p

  abbrev ps : List Pair
  ps = pairs q o.header p.header

  abbrev pub items : List BodyItem
  items = parts_items [] [] (merge_kept (merged_items (dumps_of os))) (greatest_mark (merged_items (dumps_of os)))

  abbrev asked : Asked
  asked = asked_of_merge q a b

  dumps : dumps_of os ≡ whole_dump o ∷ whole_dump p ∷ []
  dumps = let law = merge_is_a_dump limit names inputs os can in dumps_whole os law.0

  headers : headers_of (dumps_of os) ≡ hs
  headers = headers_are os

  both_can : AllByRecursion CanMerge hs
  both_can = subst (AllByRecursion CanMerge) headers (all_can limit inputs os can.opens can.shallow)

  pub known : (x : Pair) → In x ps → IsKnown o.header p.header x
  known x i = pairs_known q o.header p.header x both_can.0 both_can.1.0 i

  pub alike : (x : Pair) → In x ps → IsAlike a b items x (merged_pair o.header p.header x)
  alike x i =
      let codes = known x i in
      let kept = merge_kept (merged_items (dumps_of os)) in
      let mark = greatest_mark (merged_items (dumps_of os)) in
      let codes_of = merged_codes (headers_of (dumps_of os)) in
      let first : IsMergedCode o.header [] (factor (headers_of (dumps_of os)) o.header) codes_of (items_in o) kept mark (code_of x.one)
      = is_merged_code limit names inputs os [] (p ∷ []) o can (among limit names inputs os [] (p ∷ []) o can refl) (code_of x.one) codes.first in
      let second : IsMergedCode p.header (o.header ∷ []) (factor (headers_of (dumps_of os)) p.header) codes_of (items_in p) kept mark (code_of x.other)
      = is_merged_code limit names inputs os (o ∷ []) [] p can (among limit names inputs os (o ∷ []) [] p can refl) (code_of x.other) codes.second in
      record {
        one = λ t. states_alike o.header [] (factor (headers_of (dumps_of os)) o.header) codes_of (items_in o) kept mark (code_of x.one) first t
            ∙ ap (λ (l : List Header). state_at (factor l o.header) (items_in o) (code_of x.one) t) headers;
        other = λ t. states_alike p.header (o.header ∷ []) (factor (headers_of (dumps_of os)) p.header) codes_of (items_in p) kept mark (code_of x.other) second t
            ∙ ap (λ (l : List Header). state_at (factor l p.header) (items_in p) (code_of x.other) t) headers;
        even = codes.even;
        changes_one = λ quiet t. changes_alike o.header [] (factor (headers_of (dumps_of os)) o.header) codes_of (items_in o) kept mark (code_of x.one) first quiet t
            ∙ ap (λ (l : List Header). changes_at (side_of l o) (code_of x.one) t) headers;
        changes_other = λ quiet t. changes_alike p.header (o.header ∷ []) (factor (headers_of (dumps_of os)) p.header) codes_of (items_in p) kept mark (code_of x.other) second quiet t
            ∙ ap (λ (l : List Header). changes_at (side_of l p) (code_of x.other) t) headers;
      }

  -- ---- the times

  abbrev ms : List ℕ
  ms = marks_of a ++ marks_of b

  mark_known : (t : ℕ) → In t (marks items) → IsTimeOf ms t
  mark_known t i = merged_marks ms (dumps_of os) (changes_only (map (λ (k : Keyed). k.entry) (merged_items (dumps_of os))))
      (subst (AllByRecursion (λ (d : Dump). (u : ℕ) → In u (marks d.items) → In (factor (headers_of (dumps_of os)) d.header * u) ms))
      (sym dumps) (
        λ u j. subst (λ (l : List Header). In (factor l o.header * u) ms) (sym headers)
            (in_left (marks_of a) (marks_of b) (a.scale * u) (in_map (λ n. a.scale * n) (marks (items_in o)) u j)),
        (
          λ u j. subst (λ (l : List Header). In (factor l p.header * u) ms) (sym headers)
              (in_right (marks_of a) (marks_of b) (b.scale * u) (in_map (λ n. b.scale * n) (marks (items_in p)) u j)),
          tt,
        ),
      )) t i

  abbrev last : Side → ℕ
  last s = s.scale * time_after s.items

  -- a dump without a fault has come past each time up to its last one
  past_is : (s : Side) (t : ℕ) → s.whole ≡ true → is_past s t ≡ nat_le t (last s)
  past_is s t whole = rw whole (by_any (list_any (nat_lt t) (marks_of s)) refl)
    where
      by_any : (x : Bool) → list_any (nat_lt t) (marks_of s) ≡ x
          → (list_any (nat_lt t) (marks_of s) || nat_le t (s.scale * time_after s.items)) ≡ nat_le t (s.scale * time_after s.items)
      by_any true e =
          let f = from_any (nat_lt t) (marks_of s) e in
          let m = from_map (λ n. s.scale * n) (marks s.items) f.0 f.1 in
          let above : m.0 ≤ time_after s.items = greatest_above 0 m.0 (marks s.items) m.1 in
          let scaled : s.scale * m.0 ≤ s.scale * time_after s.items = mul-le-mul_left s.scale above in
          let low = ltb-true t f.0 f.2 in
          let same = m.2 in
          let le : t ≤ s.scale * time_after s.items = omega arith in
          rw (e, le-leb t (s.scale * time_after s.items) le) refl
      by_any false e = rw e refl

  abbrev in_window : ℕ → Bool
  in_window t = nat_le asked.from t && nat_le t asked.to

  window_is : (t : ℕ) → in_window t
      ≡ (nat_le (a.scale * q.from) t && nat_le t (a.scale * q.to) && is_past a t && is_past b t)
  window_is t =
      ap (λ x. nat_le (a.scale * q.from) t && x) (le_min t (a.scale * q.to) (min (last a) (last b))
      ∙ ap (λ x. nat_le t (a.scale * q.to) && x) (le_min t (last a) (last b)))
      ∙ regroup (nat_le (a.scale * q.from) t) (nat_le t (a.scale * q.to)) (nat_le t (last a)) (nat_le t (last b))
      ∙ ap (λ x. nat_le (a.scale * q.from) t && nat_le t (a.scale * q.to) && x && nat_le t (last b)) (sym (past_is a t refl))
      ∙ ap (λ x. nat_le (a.scale * q.from) t && nat_le t (a.scale * q.to) && is_past a t && x) (sym (past_is b t refl))
    where
      regroup : (w x y z : Bool) → (w && (x && (y && z))) ≡ (w && x && y && z)
      regroup true true y z = refl
      regroup true false y z = refl
      regroup false x y z = refl

  abbrev ts : List ℕ
  ts = times q a b

  abbrev pairs_there : List Pair
  pairs_there = map (merged_pair o.header p.header) ps

  abbrev marked : ℕ → Bool
  marked t = is_marked asked items pairs_there ts asked.to t

  times_are : times_in asked items ≡ filter marked ts
  unfolding times
  times_are = same_times (asked.from ∷ marks items) (a.scale * q.from ∷ marks_of a ++ marks_of b) in_window
      (λ t. nat_le (a.scale * q.from) t && nat_le t (a.scale * q.to) && is_past a t && is_past b t) marked window_is
      (λ t i h. (by_place t i h, any_of (λ u. t == u) (asked.from ∷ marks items) t i (own t)))
      (λ t e. let f = from_any (λ u. t == u) (asked.from ∷ marks items) e in
      subst (λ n. In n (asked.from ∷ marks items)) (sym (eqb-true t f.0 f.2)) f.1)
    where
      own : (t : ℕ) → (t == t) ≡ true
      own t = eq-eqb t t refl

      by_place : (t : ℕ) → In t (asked.from ∷ marks items) → in_window t ≡ true
          → In t (a.scale * q.from ∷ marks_of a ++ marks_of b)
      by_place t (inl e) h = inl e
      by_place t (inr j) h = elim (mark_known t j) [
        | inl zero ↦ (let f = and_parts (nat_le asked.from t) (nat_le t asked.to) h in
            let l = leb-true asked.from t f.0 in let same : t ≡ a.scale * q.from = omega arith in inl same)
        | inr k ↦ inr k
      ]

  are_times : AreTimes asked items pairs_there ts asked.to
  unfolding times
  are_times = record {
    inside = λ t i.
        let f : in_window t ≡ true = inside t i in
        let g = and_parts (nat_le asked.from t) (nat_le t asked.to) f in
        (leb-true asked.from t g.0, leb-true t asked.to g.1);
    full = λ t e low high. (from_filter marked ts t (subst (In t) times_are (marked_in asked items t e low high))).0;
  }
    where
      inside : (t : ℕ) → In t ts → in_window t ≡ true
      inside t i = window_is t
          ∙ (from_filter (λ t. nat_le (a.scale * q.from) t && nat_le t (a.scale * q.to) && is_past a t && is_past b t)
          (in_order (a.scale * q.from ∷ marks_of a ++ marks_of b)) t i).1

  -- ---- the lines of the merge

  even_there : (x : Pair) → In x pairs_there → IsEven x
  even_there x i = let f = from_map (merged_pair o.header p.header) ps x i in
      subst IsEven (sym f.2) (alike f.0 f.1).even

  value_lines_are : flat_map (lines_at asked pairs_there (side items) (side items) (times_in asked items)) (times_in asked items)
      ≡ values_in_style merged_style q ps a b
  value_lines_are =
      ap (λ us. flat_map (lines_at asked pairs_there (side items) (side items) us) us) times_are
      ∙ sym (quiet_lines asked items pairs_there ts asked.to are_times even_there)
      ∙ lines_alike q a b o.header p.header items ps alike ts ts

  head_are : (k : Header) → ArePaired q asked k o.header p.header
      → within_head asked k both_inputs
      ≡ alone_in_style merged_style (codes "A") 1 (alone q o.header p.header)
      ++ alone_in_style merged_style (codes "B") 2 (alone q p.header o.header)
      ++ unlike_in_style merged_style (unlike q o.header p.header)
  unfolding within_head
  head_are k paired =
      let first : flat_map (λ n. alone_lines (codes "A") (alone_in asked k n)) both_inputs
      ≡ alone_in_style merged_style (codes "A") 1 (alone q o.header p.header)
      = append-nil (alone_lines (codes "A") (alone_in asked k (input_scope 1, input_scope 2)))
      ∙ ap (alone_lines (codes "A")) paired.first
      ∙ flat_map-map (λ v. words (codes "alone" ∷ codes "A" ∷ full_name v ∷ [])) (named_in [] o.header) (alone q o.header p.header)
      ∙ flat_map_same (λ v. words (codes "alone" ∷ codes "A" ∷ full_name (named_in [] o.header v) ∷ [])) (λ v. words (codes "alone" ∷ codes "A" ∷ under_input 1 (full_name v) ∷ []))
      (alone q o.header p.header) (λ v. ap (λ l. words (codes "alone" ∷ codes "A" ∷ l ∷ [])) (full_under 1 v)) in
      let second : flat_map (λ n. alone_lines (codes "B") (alone_in asked k (turned n))) both_inputs
      ≡ alone_in_style merged_style (codes "B") 2 (alone q p.header o.header)
      = append-nil (alone_lines (codes "B") (alone_in asked k (input_scope 2, input_scope 1)))
      ∙ ap (alone_lines (codes "B")) paired.second
      ∙ flat_map-map (λ v. words (codes "alone" ∷ codes "B" ∷ full_name v ∷ [])) (named_in (o.header ∷ []) p.header) (alone q p.header o.header)
      ∙ flat_map_same (λ v. words (codes "alone" ∷ codes "B" ∷ full_name (named_in (o.header ∷ []) p.header v) ∷ []))
      (λ v. words (codes "alone" ∷ codes "B" ∷ under_input 2 (full_name v) ∷ []))
      (alone q p.header o.header) (λ v. ap (λ l. words (codes "alone" ∷ codes "B" ∷ l ∷ [])) (full_under 2 v)) in
      let third : unlike_lines (unlike_in asked k both_inputs) ≡ unlike_in_style merged_style (unlike q o.header p.header)
      = ap unlike_lines paired.different
      ∙ flat_map-map (λ x. words (codes "size" ∷ x.path ∷ kind_shown (kind_of x.one) ∷ kind_shown (kind_of x.other) ∷ [])) (merged_pair o.header p.header) (unlike q o.header p.header) in
      cc

  pub variables_there : selected [] (merge_items limit names inputs os can).dump.dump.header.declarations
      ≡ flat_map (λ vs. vs) (each_after merged_selected [] hs)
  variables_there = (merge_items limit names inputs os can).dump.head.variables
      ∙ ap (λ (l : List Header). flat_map (λ vs. vs) (each_after merged_selected [] l)) headers

  pub paired_there : (from to : ℕ) → ArePaired q (asked_within q from to) (merge_items limit names inputs os can).dump.dump.header o.header p.header
  paired_there from to = are_paired q from to (merge_items limit names inputs os can).dump.dump.header o.header p.header all variables_there

  merged_is : (name : List ℕ) → within asked limit both_inputs name (input_of (outcome Want.Merge limit names inputs).output)
      ≡ answer (length ps) (lines_in_style merged_style q o.header p.header a b)
  merged_is name =
      let m = merge_items limit names inputs os can in
      let d = m.dump in
      let k = d.dump in
      let h = k.header in
      let paired = paired_there asked.from asked.to in
      within_opened asked limit both_inputs name (input_of (outcome Want.Merge limit names inputs).output) k d.opens
      ∙ whole_outcome asked both_inputs name k d.whole
      ∙ ap (λ (l : List BodyItem). answer (length (compared_in asked h both_inputs)) (within_head asked h both_inputs
      ++ flat_map (lines_at asked (compared_in asked h both_inputs) (side l) (side l) (times_in asked l)) (times_in asked l))) m.items
      ∙ ap (λ (xs : List Pair). answer (length xs) (within_head asked h both_inputs
      ++ flat_map (lines_at asked xs (side items) (side items) (times_in asked items)) (times_in asked items))) paired.compared
      ∙ ap (λ n. answer n (within_head asked h both_inputs
      ++ flat_map (lines_at asked pairs_there (side items) (side items) (times_in asked items)) (times_in asked items)))
      (length-map ps (merged_pair o.header p.header))
      ∙ ap (λ l. answer (length ps) (within_head asked h both_inputs ++ l)) value_lines_are
      ∙ ap (λ l. answer (length ps) (l ++ values_in_style merged_style q ps a b)) (head_are h paired)

pub compare_of_merge : CompareOfMerge
compare_of_merge q limit name names inputs o p can scales all = record {
  directly = directly_is q limit names inputs o p can scales;
  merged = merged_is q limit names inputs o p can all name;
}
