-- The lines of two dumps compared are those of the two inputs in their merge, at the same times.
use Rattle.vcd_laws.proofs.Cited.{◌≡◌, ℕ, ◌*◌, ◌==◌, Bool, true, false, cond, not, ◌&&◌, ◌||◌, nat_lt, List, [], ◌∷◌, map, flat_map, decimal, codes, refl, sym, ap, ◌∙◌, list_any, code_of, Header, BodyItem, words, shown, Asked, under_input}
use Rattle.std.proofs.lemmas.List.Folds.{flat_map-map}
use Rattle.std.proofs.Math.Nat.{one-mul, div-one}
use Rattle.vcd_model.specs.Compare.{Pair, Side, changes_at, differs, is_due, lines_at, match, rule_for, state_at, value_line}
use Rattle.vcd_model.specs.Within.{side}
use Rattle.vcd_laws.specs.CompareMerged.{asked_of_merge, merged_style, value_in_style}
use Rattle.vcd_laws.proofs.WrittenCodes.{In}
use Rattle.vcd_laws.proofs.MergedHead.{all_in}
use Rattle.vcd_laws.proofs.MergedStates.{any_agree, any_mapped}
use Rattle.vcd_laws.proofs.MergedPairs.{merged_pair}
use Rattle.vcd_laws.proofs.QuietTimes.{IsEven, chosen, flat_same, no_state}

-- ---- an event that differs has a trigger, so a change

event_changes : (q : Asked) (a b : Side) (p : Pair) (t : ℕ) → (code_of p.one).event ≡ true → IsEven p
    → differs q.rule a b p t ≡ true → (changes_at a (code_of p.one) t || changes_at b (code_of p.other) t) ≡ true
event_changes q a b p t loud even d =
    by_tests (changes_at a (code_of p.one) t) (changes_at b (code_of p.other) t) refl refl
  where
    by_tests : (x y : Bool) → changes_at a (code_of p.one) t ≡ x → changes_at b (code_of p.other) t ≡ y → (x || y) ≡ true
    by_tests true y e f = refl
    by_tests false true e f = refl
    by_tests false false e f =
        let none = no_state a (code_of p.one) t loud e in
        let none' = no_state b (code_of p.other) t (sym even ∙ loud) f in
        let same : differs q.rule a b p t ≡ false = rw (none, none') refl in cc

-- ---- pairs that have the same states

-- a pair of two dumps, and the pair that it is in a merge
pub record IsAlike (a b : Side) (items : List BodyItem) (p p' : Pair) : Type 0 where
  pub one : (t : ℕ) → state_at 1 items (code_of p'.one) t ≡ state_at a.scale a.items (code_of p.one) t
  pub other : (t : ℕ) → state_at 1 items (code_of p'.other) t ≡ state_at b.scale b.items (code_of p.other) t
  pub even : IsEven p
  pub changes_one : (code_of p.one).event ≡ false → (t : ℕ)
      → changes_at (side items) (code_of p'.one) t ≡ changes_at a (code_of p.one) t
  pub changes_other : (code_of p.other).event ≡ false → (t : ℕ)
      → changes_at (side items) (code_of p'.other) t ≡ changes_at b (code_of p.other) t

module _ (q : Asked) (a b : Side) (one other : Header) (items : List BodyItem) (ps : List Pair)
    (alike : (p : Pair) → In p ps → IsAlike a b items p (merged_pair one other p)) where
  abbrev asked : Asked
  asked = asked_of_merge q a b

  abbrev P : Pair → Pair
  P p = merged_pair one other p

  abbrev here : Pair → ℕ → Bool
  here p t = differs q.rule a b p t

  abbrev there : Pair → ℕ → Bool
  there p t = differs q.rule (side items) (side items) (P p) t

  pub differs_alike : (p : Pair) (t : ℕ) → In p ps → there p t ≡ here p t
  differs_alike p t i = let m = alike p i in
      ap (λ v. not (match (rule_for q.rule p.one) v (state_at 1 items (code_of (P p).other) t))) (m.one t)
      ∙ ap (λ v. not (match (rule_for q.rule p.one) (state_at a.scale a.items (code_of p.one) t) v)) (m.other t)

  any_alike : (t : ℕ) → list_any (λ o. differs q.rule (side items) (side items) o t) (map P ps)
      ≡ list_any (λ o. here o t) ps
  any_alike t = any_mapped P (λ o. differs q.rule (side items) (side items) o t) ps
      ∙ any_agree (λ o. there o t) (λ o. here o t) ps
      (all_in (λ (o : Pair). there o t ≡ here o t) ps (λ o i. differs_alike o t i))

  before_alike : (ts : List ℕ) (t : ℕ) (X Y : ℕ → Bool) → ((u : ℕ) → X u ≡ Y u)
      → list_any (λ u. nat_lt u t && X u) ts ≡ list_any (λ u. nat_lt u t && Y u) ts
  before_alike ts t X Y same = any_agree (λ u. nat_lt u t && X u) (λ u. nat_lt u t && Y u) ts
      (all_in (λ (u : ℕ). (nat_lt u t && X u) ≡ (nat_lt u t && Y u)) ts (λ u i. ap (λ b. nat_lt u t && b) (same u)))

  abbrev now_here : ℕ → Pair → Bool
  now_here t p = t == a.scale * q.from || changes_at a (code_of p.one) t || changes_at b (code_of p.other) t

  abbrev now_there : ℕ → Pair → Bool
  now_there t p = t == 1 * (a.scale * q.from) || changes_at (side items) (code_of (P p).one) t
      || changes_at (side items) (code_of (P p).other) t

  or_either : (x y z : Bool) → (y || z) ≡ true → (x || y || z) ≡ true
  or_either true y z e = refl
  or_either false y z e = e

  now_alike : (t : ℕ) (p : Pair) → In p ps → here p t ≡ true → now_there t p ≡ now_here t p
  now_alike t p i d = by_event (code_of p.one).event refl
    where
      m : IsAlike a b items p (merged_pair one other p)
      m = alike p i

      by_event : (e : Bool) → (code_of p.one).event ≡ e → now_there t p ≡ now_here t p
      by_event true e =
          let left = event_changes q (side items) (side items) (P p) t e (alike p i).even (differs_alike p t i ∙ d) in
          let right = event_changes q a b p t e (alike p i).even d in
          or_either (t == 1 * (a.scale * q.from)) (changes_at (side items) (code_of (P p).one) t)
          (changes_at (side items) (code_of (P p).other) t) left
          ∙ sym (or_either (t == a.scale * q.from) (changes_at a (code_of p.one) t) (changes_at b (code_of p.other) t) right)
      by_event false e =
          ap (λ n. t == n || changes_at (side items) (code_of (P p).one) t || changes_at (side items) (code_of (P p).other) t)
          (one-mul (a.scale * q.from))
          ∙ ap (λ x. t == a.scale * q.from || x || changes_at (side items) (code_of (P p).other) t) ((alike p i).changes_one e t)
          ∙ ap (λ x. t == a.scale * q.from || changes_at a (code_of p.one) t || x)
          ((alike p i).changes_other (sym (alike p i).even ∙ e) t)

  due_alike : (ts : List ℕ) (t : ℕ) (p : Pair) → In p ps
      → is_due asked (side items) (side items) (map P ps) ts t (P p) ≡ is_due q a b ps ts t p
  due_alike ts t p i = ap (λ d. d && chosen q.extent any own (now_there t p)) (differs_alike p t i)
      ∙ by_test (here p t) refl
    where
      any : Bool
      any = list_any (λ u. nat_lt u t && list_any (λ o. differs q.rule (side items) (side items) o u) (map (merged_pair one other) ps)) ts

      own : Bool
      own = list_any (λ u. nat_lt u t && differs q.rule (side items) (side items) (merged_pair one other p) u) ts

      by_test : (d : Bool) → here p t ≡ d
          → (here p t && chosen q.extent any own (now_there t p)) ≡ is_due q a b ps ts t p
      by_test false e = rw e refl
      by_test true e =
          ap (λ x. here p t && chosen q.extent x own (now_there t p))
          (before_alike ts t (λ u. list_any (λ o. differs q.rule (side items) (side items) o u) (map P ps)) (λ u. list_any (λ o. here o u) ps) any_alike)
          ∙ ap (λ x. here p t && chosen q.extent (list_any (λ u. nat_lt u t && list_any (λ o. here o u) ps) ts) x (now_there t p))
          (before_alike ts t (there p) (here p) (λ u. differs_alike p u i))
          ∙ ap (λ x. here p t && chosen q.extent (list_any (λ u. nat_lt u t && list_any (λ o. here o u) ps) ts)
          (list_any (λ u. nat_lt u t && here p u) ts) x) (now_alike t p i e)

  line_alike : (t : ℕ) (p : Pair) → In p ps
      → value_line (side items) (side items) (P p) t ≡ value_in_style merged_style a b t p
  line_alike t p i = let m = alike p i in
      ap (λ n. words (codes "differs" ∷ decimal n ∷ under_input 1 p.path ∷ shown (state_at 1 items (code_of (P p).one) t)
      ∷ shown (state_at 1 items (code_of (P p).other) t) ∷ [])) (div-one t)
      ∙ ap (λ v. words (codes "differs" ∷ decimal t ∷ under_input 1 p.path ∷ shown v
      ∷ shown (state_at 1 items (code_of (P p).other) t) ∷ [])) (m.one t)
      ∙ ap (λ v. words (codes "differs" ∷ decimal t ∷ under_input 1 p.path
      ∷ shown (state_at a.scale a.items (code_of p.one) t) ∷ shown v ∷ [])) (m.other t)

  pub lines_alike : (ts us : List ℕ)
      → flat_map (lines_at asked (map P ps) (side items) (side items) ts) us
      ≡ flat_map (λ t. flat_map (λ p. cond (is_due q a b ps ts t p) (value_in_style merged_style a b t p) []) ps) us
  lines_alike ts us =
      flat_same (lines_at asked (map P ps) (side items) (side items) ts)
      (λ t. flat_map (λ p. cond (is_due q a b ps ts t p) (value_in_style merged_style a b t p) []) ps) us
      (λ t j. flat_map-map (λ p. cond (is_due asked (side items) (side items) (map P ps) ts t p) (value_line (side items) (side items) p t) []) P ps
      ∙ flat_same (λ p. cond (is_due asked (side items) (side items) (map P ps) ts t (P p)) (value_line (side items) (side items) (P p) t) [])
      (λ p. cond (is_due q a b ps ts t p) (value_in_style merged_style a b t p) []) ps
      (λ p i. ap (λ d. cond d (value_line (side items) (side items) (P p) t) []) (due_alike ts t p i)
      ∙ ap (λ l. cond (is_due q a b ps ts t p) l []) (line_alike t p i)))
