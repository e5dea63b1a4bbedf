-- Two dumps whose merge is compared without options: the status is 0 if and only if they are the same.
use Rattle.vcd_laws.proofs.Cited.{◌≡◌, ◌≢◌, ℕ, Bool, true, false, cond, not, ◌&&◌, ◌||◌, ◌==◌, List, [], ◌∷◌, ◌++◌, map, bytes_eq, Option, Some, None, inl, inr, refl, sym, ap, ◌∙◌, arith, cons_option, eq-eqb, eqb-true, and_parts, or_cases, bytes_eq-Decides, Input, Want, outcome, input_of, AreReadable, input_scope, under_input, selects_path, Variable, code_of, Header, Value, Names, Opened, Outcome, subst}
use Rattle.vcd_model.specs.Compare.{Named, Pair, Rule, Side, all_match, all_named, differs, digits_match, exactly, in_common, is_asked, is_fit, match, named, pairs, rule_for, state_at}
use Rattle.vcd_model.specs.Within.{comparison, covers, outermost, selects_some, unselected, within}
use Rattle.vcd_laws.specs.CompareMerged.{both_inputs, side_of}
use Rattle.vcd_laws.specs.Matching.{SuccessIsSameness, without_options}
use Rattle.vcd_laws.proofs.WrittenCodes.{In, any_of, from_filter, in_left, in_map, in_right}
use Rattle.vcd_laws.proofs.CheckOfMerge.{merge_items}
use Rattle.vcd_laws.proofs.MergedPaths.{own_scope}
use Rattle.vcd_laws.proofs.MergedPairs.{named_in, named_in_merge}
use Rattle.vcd_laws.proofs.CompareOfMerge.{pair_from, variables_there}
use Rattle.vcd_laws.proofs.SuccessMatches.{comparison_is_within, success_is_a_match}
use Rattle.vcd_laws.proofs.MergedSuccess.{merged_success_is_a_match}

-- ---- without options, the same values match

same_digit : (a b : ℕ) → digits_match exactly a b ≡ true → a ≡ b
same_digit a b e = by_test (a == b) refl e
  where
    by_test : (x : Bool) → (a == b) ≡ x → (x || false || false) ≡ true → a ≡ b
    by_test true f g = eqb-true a b f
    by_test false f g = cc

same_digits : (ds es : List ℕ) → all_match exactly ds es ≡ true → ds ≡ es
same_digits [] [] e = refl
same_digits (d ∷ ds) (e ∷ es) m =
    let f = and_parts (digits_match exactly d e) (all_match exactly ds es) m in
    ap (λ n. n ∷ ds) (same_digit d e f.0) ∙ ap (λ l. e ∷ l) (same_digits ds es f.1)
same_digits [] (e ∷ es) m = cc
same_digits (d ∷ ds) [] m = cc

digits_alike : (ds : List ℕ) → all_match exactly ds ds ≡ true
digits_alike [] = refl
digits_alike (d ∷ ds) = rw (eq-eqb d d refl, digits_alike ds) refl

same_states : (v w : Option Value) → match exactly v w ≡ true → v ≡ w
same_states None None e = refl
same_states (Some (Value.Bits a)) (Some (Value.Bits b)) e = ap (λ l. Some (Value.Bits l)) (same_digits a b e)
same_states (Some (Value.Real a)) (Some (Value.Real b)) e = ap (λ l. Some (Value.Real l)) (elim (or_cases (bytes_eq a b) (bytes_eq a b) e) [
  | inl f ↦ (bytes_eq-Decides a b).0 f
  | inr f ↦ (bytes_eq-Decides a b).0 f
])
same_states (Some (Value.Bits a)) (Some (Value.Real b)) e = cc
same_states (Some (Value.Real a)) (Some (Value.Bits b)) e = cc
same_states None (Some w) e = cc
same_states (Some v) None e = cc

states_alike : (v : Option Value) → match exactly v v ≡ true
states_alike None = refl
states_alike (Some (Value.Bits a)) = digits_alike a
states_alike (Some (Value.Real a)) = rw ((bytes_eq-Decides a a).1 refl) refl

rule_is : (v : Variable) → rule_for exactly v ≡ exactly
rule_is v = by_event (code_of v).event
  where
    by_event : (b : Bool) → cond b exactly exactly ≡ exactly
    by_event true = refl
    by_event false = refl

module _ (a b : Side) (x : Pair) (t : ℕ) where
  abbrev one : Option Value
  one = state_at a.scale a.items (code_of x.one) t

  abbrev other : Option Value
  other = state_at b.scale b.items (code_of x.other) t

  differs_is : differs exactly a b x t ≡ not (match exactly one other)
  differs_is = ap (λ (r : Rule). not (match r one other)) (rule_is x.one)

  to_same : differs exactly a b x t ≡ false → one ≡ other
  to_same e = same_states one other (not_false (match exactly one other) (sym differs_is ∙ e))
    where
      not_false : (m : Bool) → not m ≡ false → m ≡ true
      not_false true f = refl
      not_false false f = cc

  from_same : one ≡ other → differs exactly a b x t ≡ false
  from_same e = differs_is ∙ ap (λ v. not (match exactly v other)) e ∙ ap not (states_alike other)

-- ---- both inputs are selected, if there are pairs

only_outermost : (n : Names) → outermost (n ∷ []) ≡ n ∷ []
unfolding outermost
only_outermost n = by_covers (covers n n)
  where
    by_covers : (b : Bool) → cons_option (cond ((b && not b) || false) None (Some n)) [] ≡ n ∷ []
    by_covers true = refl
    by_covers false = refl

module _ (limit : ℕ) (names : List (List ℕ)) (inputs : List Input) (o p : Opened)
    (can : AreReadable limit names inputs (o ∷ p ∷ [])) where
  abbrev k : Header
  k = (merge_items limit names inputs (o ∷ p ∷ []) can).dump.dump.header

  all_there : all_named k ≡ map (named_in [] o.header) (all_named o.header) ++ map (named_in (o.header ∷ []) p.header) (all_named p.header)
  all_there = named_in_merge o.header p.header k (variables_there without_options limit names inputs o p can refl)

  pair_in : (x : Pair) → In x (pairs without_options o.header p.header)
      → (v : Named) × (w : Named) × In v (all_named o.header) × In w (all_named p.header)
  unfolding pairs
  pair_in x i =
      let f = from_filter is_fit (in_common without_options o.header p.header) x i in
      let g = pair_from o.header p.header (named without_options o.header) x f.0 in
      (g.0, g.1, (from_filter (λ w. is_asked without_options w.path) (all_named o.header) g.0 g.2).0, g.3)

  is_selected : (n : ℕ) (v : Named) (path : List ℕ) → In v (all_named k) → v.path ≡ under_input n path
      → selects_some k (input_scope n) ≡ true
  is_selected n v path i e = any_of (λ w. selects_path w.path (input_scope n)) (all_named k) v i
      (ap (λ l. selects_path l (input_scope n)) e ∙ own_scope n path)

  both_selected : pairs without_options o.header p.header ≢ [] → unselected without_options k both_inputs ≡ None
  both_selected some = by_pairs (pairs without_options o.header p.header) refl
    where
      by_pairs : (ps : List Pair) → pairs without_options o.header p.header ≡ ps → unselected without_options k both_inputs ≡ None
      by_pairs [] e = absurd (some e)
      by_pairs (x ∷ ps) e =
          let f = pair_in x (subst (In x) (sym e) (inl refl)) in
          let firsts = map (named_in [] o.header) (all_named o.header) in
          let seconds = map (named_in (o.header ∷ []) p.header) (all_named p.header) in
          let first = is_selected 1 (named_in [] o.header f.0) f.0.path (subst (In (named_in [] o.header f.0)) (sym all_there)
          (in_left firsts seconds (named_in [] o.header f.0) (in_map (named_in [] o.header) (all_named o.header) f.0 f.2))) refl in
          let second = is_selected 2 (named_in (o.header ∷ []) p.header f.1) f.1.path (subst (In (named_in (o.header ∷ []) p.header f.1)) (sym all_there)
          (in_right firsts seconds (named_in (o.header ∷ []) p.header f.1) (in_map (named_in (o.header ∷ []) p.header) (all_named p.header) f.1 f.3))) refl in
          rw (first, second) refl

pub success_is_sameness : SuccessIsSameness
success_is_sameness limit name names inputs o p can =
    let q = without_options in
    let a = side_of (o.header ∷ p.header ∷ []) o in
    let b = side_of (o.header ∷ p.header ∷ []) p in
    let d = (merge_items limit names inputs (o ∷ p ∷ []) can).dump in
    let text = input_of (outcome Want.Merge limit names inputs).output in
    let is : unselected q d.dump.header both_inputs ≡ None → comparison q limit both_inputs name text ≡ within q limit both_inputs name text
    = λ none. comparison_is_within q limit both_inputs name text d.dump d.opens none (inl (d.whole, omega arith))
    ∙ ap (λ ns. within q limit ns name text) (only_outermost (input_scope 1, input_scope 2)) in
    let law = merged_success_is_a_match q limit name names inputs o p can refl 0 18446744073709551615 in (
      λ good.
          let none = ((success_is_a_match q limit both_inputs name text d.dump d.opens).0 good).0 in
          let m = law.0 (sym (ap (λ (o : Outcome). o.status) (is none)) ∙ good) in
          record {
            some = m.some;
            none_alone = m.none_alone;
            none_different = m.none_different;
            states = λ x t i high. to_same a b x t (m.states x t i (omega arith) high);
          },
      λ same. ap (λ (o : Outcome). o.status) (is (both_selected limit names inputs o p can same.some))
          ∙ law.1 (record {
            some = same.some;
            none_alone = same.none_alone;
            none_different = same.none_different;
            states = λ x t i low high. from_same a b x t (same.states x t i high);
          }),
    )
