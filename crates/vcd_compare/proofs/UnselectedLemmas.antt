-- Which names select nothing: the paths that are marked, and the first name that is not.
use Rattle.vcd_compare.proofs.Cited.{◌≡◌, ◌≢◌, ℕ, suc, ◌<◌, ◌≤◌, ◌-◌, ◌||◌, min, not, nat_eq, Bool, true, false, cond, List, [], ◌∷◌, ◌++◌, length, get_or, replicate, set, slice_get, take, option_map, Some, None, inl, inr, refl, sym, ap, ◌∙◌, arith, AllZip, list_any, list_any-append, eqb-false, eqb-true, get_or-set_other, get_or-set_same, get_or_from_slice_get, length-replicate, length-set, or-false, or-true, or_right, same_Some, slice_get-get_or, slice_get_within, selects-longer, selects_path, Asked, Header, Named, all_named, Names, AreTexts, IsNumberOf, IsPathOf, both_names, node_at, append_assoc, drop, flat_map-append, take-append-drop}
use Rattle.std.proofs.Common.{zero}
use Rattle.std.proofs.Math.Seq.{drop-cons}
use Rattle.std.proofs.lemmas.List.Folds.{find-append}
use Rattle.vcd_compare.proofs.SelectedLemmas.{above_other, selected_either, selects_itself}
use Rattle.vcd_compare.proofs.VariableLemmas.{take_next}
use Rattle.vcd_compare.specs.Selected.{selects_number}
use Rattle.vcd_compare.specs.Unselected.{AreHeld, AreMarkedUp, IsFaultOf, first_unheld}
use Rattle.vcd_compare.specs.declared.unselected.PairsFault.{PairsFault}
use Rattle.vcd_model.specs.Within.{selects_some}

-- ---- the paths around a path

-- a name that selects what is around a path selects the path
pub selects-on : (p t w : List ℕ) → selects_path p t ≡ true → selects_path t w ≡ true → selects_path p w ≡ true
selects-on p t w inner outer = elim (selected_either p t inner) [
  | inl same ↦ ap (λ x. selects_path x w) same ∙ outer
  | inr more ↦ ap (λ x. selects_path x w) more.1 ∙ selects-longer t w more.0 outer
]

number_on : (texts : List (List ℕ)) (t w : List ℕ) (n : ℕ) → selects_path t w ≡ true → selects_number texts t n ≡ true → selects_number texts w n ≡ true
number_on texts t w zero outer h = absurd (cc)
number_on texts t w (suc i) outer h = selects-on (get_or texts i []) t w h outer

any_on : (texts : List (List ℕ)) (t w : List ℕ) (numbers : List ℕ) → selects_path t w ≡ true → list_any (selects_number texts t) numbers ≡ true
    → list_any (selects_number texts w) numbers ≡ true
any_on texts t w [] outer any = any
any_on texts t w (n ∷ numbers) outer any = by_test (selects_number texts t n) refl (any_on texts t w numbers outer)
  where
    by_test : (b : Bool) → selects_number texts t n ≡ b → (list_any (selects_number texts t) numbers ≡ true
        → list_any (selects_number texts w) numbers ≡ true) → list_any (selects_number texts w) (n ∷ numbers) ≡ true
    by_test true e rest = ap (λ b. b || list_any (selects_number texts w) numbers) (number_on texts t w n outer e)
    by_test false e rest = or_right (selects_number texts w n) (list_any (selects_number texts w) numbers) (rest (sym (ap (λ b. b || list_any (selects_number texts t) numbers) e) ∙ any))

-- from a path up to another one, which is not marked yet, all is marked
pub record IsMarking (texts : List (List ℕ)) (from number : ℕ) (old now : List Bool) : Type 0 where
  pub len : length now ≡ length old
  pub within : number ≤ from
  pub each : (m : ℕ) (t : List ℕ) → IsNumberOf texts m t → (get_or now m false || selects_number texts t number) ≡ (get_or old m false || selects_number texts t from)
  pub below : (m : ℕ) → m ≤ number → get_or now m false ≡ get_or old m false
  pub kept : (m : ℕ) → get_or old m false ≡ true → get_or now m false ≡ true

pub marking_first : (texts : List (List ℕ)) (from : ℕ) (old : List Bool) → IsMarking texts from from old old
marking_first texts from old = record {
  len = refl;
  within = omega arith;
  each = λ m t is. refl;
  below = λ m l. refl;
  kept = λ m h. h;
}

module _ (parts : List (List ℕ)) (nodes : List (ℕ × ℕ)) (texts : List (List ℕ)) (are : AreTexts parts nodes texts) (from : ℕ) (within : from ≤ length texts) (old : List Bool) where
  pub marking_next : (number next : ℕ) (now new : List Bool) → number ≢ 0 → number < length now → new ≡ set now number true
      → next ≡ min (node_at nodes number).0 (number - 1) → IsMarking texts from number old now → IsMarking texts from next old new
  marking_next zero next now new some inside is next_is s = absurd (some refl)
  marking_next (suc k) next now new some inside is next_is s = record {
    len = ap length is ∙ length-set now (suc k) true ∙ s.len;
    within = let w = s.within in let n = node_is in let a = around in omega (arith, w, n, a);
    each = λ m t number. ap (λ l. get_or l m false || selects_number texts t next) is ∙ by_number m t number (nat_eq m (suc k)) refl;
    below = λ m l. ap (λ x. get_or x m false) is ∙ get_or-set_other now (suc k) m true false (let n = node_is in let a = around in
        omega (arith, l, n, a)) ∙ s.below m (let n = node_is in let a = around in omega (arith, l, n, a));
    kept = λ m h. ap (λ x. get_or x m false) is ∙ still m (nat_eq m (suc k)) refl (s.kept m h);
  }
    where
      node : ℕ × ℕ
      node = get_or nodes k (0, 0)

      below_all : k < length texts
      below_all = let w = s.within in omega (arith, w, within)

      at : slice_get nodes k ≡ Some node
      at = slice_get-get_or nodes k (0, 0) (let b = below_all in let l = are.len in omega (arith, b, l))

      around : node.0 ≤ k
      around = (are.each k node at).around

      node_is : next ≡ node.0
      node_is = let a = around in omega (arith, next_is, a)

      u : List ℕ
      u = get_or texts k []

      text : slice_get texts k ≡ Some u
      text = slice_get-get_or texts k [] below_all

      still : (m : ℕ) (b : Bool) → nat_eq m (suc k) ≡ b → get_or now m false ≡ true → get_or (set now (suc k) true) m false ≡ true
      still m true e h = ap (λ x. get_or (set now (suc k) true) x false) (eqb-true m (suc k) e) ∙ get_or-set_same now (suc k) true false inside
      still m false e h = get_or-set_other now (suc k) m true false (eqb-false m (suc k) e) ∙ h

      by_number : (m : ℕ) (t : List ℕ) → IsNumberOf texts m t → (b : Bool) → nat_eq m (suc k) ≡ b
          → (get_or (set now (suc k) true) m false || selects_number texts t next) ≡ (get_or old m false || selects_number texts t from)
      by_number m t number true e =
          let same = eqb-true m (suc k) e in
          let n = number.1 in
          let index : number.0 ≡ k = omega (arith, same, n) in
          let text_is : u ≡ t = same_Some u t (sym text ∙ ap (slice_get texts) (sym index) ∙ number.2) in
          let itself : selects_number texts t (suc k) ≡ true = ap (selects_path u) (sym text_is) ∙ selects_itself u in
          let all : (get_or now m false || selects_number texts t (suc k)) ≡ true = ap (λ b. get_or now m false || b) itself ∙ or-true (get_or now m false) in
          ap (λ b. b || selects_number texts t next) (ap (λ x. get_or (set now (suc k) true) x false) same ∙ get_or-set_same now (suc k) true false inside) ∙ sym all ∙ s.each m t number
      by_number m t number false e =
          let apart = eqb-false m (suc k) e in
          let other : u ≢ t = λ same.
          let index = are.apart k number.0 t (text ∙ ap Some same) number.2 in
          let n = number.1 in
          omega (arith, index, n, apart) in
          ap (λ b. b || selects_number texts t next) (get_or-set_other now (suc k) m true false apart)
          ∙ ap (λ b. get_or now m false || b) (ap (selects_number texts t) node_is ∙ above_other parts nodes texts are k u t text node at other) ∙ s.each m t number

  module _ (before : List ℕ) (number : ℕ) (now : List Bool) (marked : AreMarkedUp texts before old) (s : IsMarking texts from number old now) where
    -- at a path that was marked before, or at the top
    pub marking_last : ((m : ℕ) (t : List ℕ) → IsNumberOf texts m t → selects_number texts t number ≡ true → get_or now m false ≡ true) → AreMarkedUp texts (before ++ from ∷ []) now
    marking_last all = record {
      len = s.len ∙ marked.len;
      each = λ m t is. with_test m t is (selects_number texts t number) refl ∙ s.each m t is
          ∙ ap (λ b. b || selects_number texts t from) (marked.each m t is)
          ∙ sym (list_any-append (selects_number texts t) before (from ∷ [])
          ∙ ap (λ b. list_any (selects_number texts t) before || b) (or-false (selects_number texts t from)));
    }
      where
        with_test : (m : ℕ) (t : List ℕ) → IsNumberOf texts m t → (b : Bool) → selects_number texts t number ≡ b
            → get_or now m false ≡ (get_or now m false || selects_number texts t number)
        with_test m t is true e = all m t is e ∙ sym (ap (λ b. b || selects_number texts t number) (all m t is e))
        with_test m t is false e = sym (ap (λ b. get_or now m false || b) e ∙ or-false (get_or now m false))

    pub marking_top : number ≡ 0 → AreMarkedUp texts (before ++ from ∷ []) now
    marking_top e = marking_last (λ m t is h. let no = ap (selects_number texts t) e in absurd (cc))

    pub marking_met : get_or now number false ≡ true → AreMarkedUp texts (before ++ from ∷ []) now
    marking_met met = marking_last (λ m t is h. by_number number refl m t is h)
      where
        by_number : (n : ℕ) → number ≡ n → (m : ℕ) (t : List ℕ) → IsNumberOf texts m t → selects_number texts t number ≡ true → get_or now m false ≡ true
        by_number zero e m t is h = let no = ap (selects_number texts t) e in absurd (cc)
        by_number (suc k) e m t is h =
            let w = s.within in
            let u = get_or texts k [] in
            let text = slice_get-get_or texts k [] (omega (arith, w, within, e)) in
            let any = sym (marked.each number u (k, e, text)) ∙ sym (s.below number (omega arith)) ∙ met in
            let outer : selects_path u t ≡ true = sym (ap (selects_number texts t) e) ∙ h in
            s.kept m (marked.each m t is ∙ any_on texts u t before outer any)

-- ---- all variables

pub marked_none : (texts : List (List ℕ)) (count : ℕ) → length texts ≡ count → AreMarkedUp texts [] (replicate (suc count) false)
marked_none texts count is = record {
  len = length-replicate (suc count) false ∙ ap suc (sym is);
  each = λ m t number. none (suc count) m;
}
  where
    none : (n m : ℕ) → get_or (replicate n false) m false ≡ false
    none zero m = refl
    none (suc n) zero = refl
    none (suc n) (suc m) = none n m

any_variable : (texts : List (List ℕ)) (t : List ℕ) (numbers : List ℕ) (vs : List Named) → AllZip (IsPathOf texts) numbers vs
    → list_any (selects_number texts t) numbers ≡ list_any (λ v. selects_path v.path t) vs
any_variable texts t [] [] zip = refl
any_variable texts t [] (v ∷ vs) zip = absurd zip
any_variable texts t (n ∷ numbers) [] zip = absurd zip
any_variable texts t (n ∷ numbers) (v ∷ vs) zip =
    let is = zip.0 in
    let one : selects_number texts t n ≡ selects_path v.path t = ap (selects_number texts t) is.1 ∙ ap (λ x. selects_path x t) (get_or_from_slice_get texts is.0 v.path [] is.2) in
    ap (λ b. b || list_any (selects_number texts t) numbers) one ∙ ap (λ b. selects_path v.path t || b) (any_variable texts t numbers vs zip.1)

pub held_all : (h : Header) (texts : List (List ℕ)) (numbers : List ℕ) (held : List Bool) → AllZip (IsPathOf texts) numbers (all_named h)
    → AreMarkedUp texts numbers held → AreHeld h texts held
held_all h texts numbers held zip s m t is = s.each m t is ∙ any_variable texts t numbers (all_named h) zip

-- ---- the first that selects nothing

module _ (h : Header) where
  unheld_more : (xs ys : List (List ℕ)) → first_unheld h xs ≡ None → first_unheld h (xs ++ ys) ≡ first_unheld h ys
  unheld_more xs ys none = find-append (λ name. not (selects_some h name)) xs ys ∙ rw none refl

  names_split : (ns : List Names) (i : ℕ) (n : Names) → slice_get ns i ≡ Some n → (rest : List (List ℕ)) × (both_names ns ≡ both_names (take i ns) ++ n.0 ∷ n.1 ∷ rest)
  names_split [] i n at = cc
  names_split (m ∷ ns) zero n at = (both_names ns, ap (λ (x : Names). x.0 ∷ x.1 ∷ both_names ns) (same_Some m n at))
  names_split (m ∷ ns) (suc i) n at = let rest = names_split ns i n at in (rest.0, ap (λ l. m.0 ∷ m.1 ∷ l) rest.1)

  module _ (ns : List Names) (i : ℕ) (n : Names) (at : slice_get ns i ≡ Some n) (before : first_unheld h (both_names (take i ns)) ≡ None) where
    first_here : (es : List (List ℕ)) (rest : List (List ℕ)) → both_names ns ≡ both_names (take i ns) ++ n.0 ∷ n.1 ∷ rest
        → first_unheld h (both_names ns ++ es) ≡ first_unheld h (n.0 ∷ n.1 ∷ rest ++ es)
    first_here es rest is = ap (λ l. first_unheld h (l ++ es)) is ∙ ap (first_unheld h) (append_assoc (both_names (take i ns)) (n.0 ∷ n.1 ∷ rest) es)
        ∙ unheld_more (both_names (take i ns)) (n.0 ∷ n.1 ∷ rest ++ es) before

    pub one_unheld : (q : Asked) → selects_some h n.0 ≡ false → IsFaultOf q h ns (PairsFault.One i)
    one_unheld q fails =
        let rest = names_split ns i n at in
        (n.0, ap (option_map (λ (x : Names). x.0)) at, first_here q.exceptions rest.0 rest.1 ∙ ap (λ b. cond (not b) (Some n.0) (first_unheld h (n.1 ∷ rest.0 ++ q.exceptions))) fails)

    pub other_unheld : (q : Asked) → selects_some h n.0 ≡ true → selects_some h n.1 ≡ false → IsFaultOf q h ns (PairsFault.Other i)
    other_unheld q holds fails =
        let rest = names_split ns i n at in (
          n.1,
          ap (option_map (λ (x : Names). x.1)) at,
          first_here q.exceptions rest.0 rest.1 ∙ ap (λ b. cond (not b) (Some n.0) (first_unheld h (n.1 ∷ rest.0 ++ q.exceptions))) holds
              ∙ ap (λ b. cond (not b) (Some n.1) (first_unheld h (rest.0 ++ q.exceptions))) fails,
        )

    pub both_held : selects_some h n.0 ≡ true → selects_some h n.1 ≡ true → first_unheld h (both_names (take (suc i) ns)) ≡ None
    both_held holds also =
        ap (λ l. first_unheld h (both_names l)) (take_next ns i n at)
        ∙ ap (first_unheld h) (flat_map-append (λ (x : Names). x.0 ∷ x.1 ∷ []) (take i ns) (n ∷ []))
        ∙ unheld_more (both_names (take i ns)) (n.0 ∷ n.1 ∷ []) before
        ∙ ap (λ b. cond (not b) (Some n.0) (first_unheld h (n.1 ∷ []))) holds ∙ ap (λ b. cond (not b) (Some n.1) None) also

  module _ (es : List (List ℕ)) (i : ℕ) (e : List ℕ) (at : slice_get es i ≡ Some e) (before : first_unheld h (take i es) ≡ None) where
    pub exception_held : selects_some h e ≡ true → first_unheld h (take (suc i) es) ≡ None
    exception_held holds = ap (first_unheld h) (take_next es i e at) ∙ unheld_more (take i es) (e ∷ []) before ∙ ap (λ b. cond (not b) (Some e) None) holds

    pub exception_unheld : (ns : List Names) → first_unheld h (both_names ns) ≡ None → selects_some h e ≡ false → first_unheld h (both_names ns ++ es) ≡ Some e
    exception_unheld ns none fails =
        unheld_more (both_names ns) es none ∙ ap (first_unheld h) (sym (take-append-drop i es)) ∙ unheld_more (take i es) (drop i es) before
        ∙ ap (first_unheld h) (drop-cons es i [] (slice_get_within es i e at))
        ∙ ap (λ x. first_unheld h (x ∷ drop (suc i) es)) (get_or_from_slice_get es i e [] at)
        ∙ ap (λ b. cond (not b) (Some e) (first_unheld h (drop (suc i) es))) fails

  pub all_held : (ns : List Names) (es : List (List ℕ)) → first_unheld h (both_names ns) ≡ None → first_unheld h es ≡ None → first_unheld h (both_names ns ++ es) ≡ None
  all_held ns es one other = unheld_more (both_names ns) es one ∙ other
