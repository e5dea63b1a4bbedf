-- What names select, by number: the nearest of them, path by path, and what is inside of each.
use Rattle.vcd_compare.proofs.Cited.{◌≡◌, ◌≢◌, ◌⊎◌, ℕ, suc, ◌+◌, ◌<◌, ◌≤◌, ◌==◌, ◌&&◌, ◌||◌, not, nat_eq, nat_lt, Bool, true, false, cond, List, [], ◌∷◌, ◌++◌, length, set, take, get_or, slice_get, filter, flat_map, bytes_eq, Some, inl, inr, refl, sym, ap, subst, ◌∙◌, arith, Vec, AllZip, list_any, starts_with, eqb-false, eqb-true, ne_eqb, lt-ltb, ltb-true, ltb-false, false_from_ne_true, or_parts, or_right, length-append, length-map, length-set, get_or-set_other, get_or-set_same, get_or_from_slice_get, same_Some, slice_get-get_or, slice_get_within, bytes_eq-Decides, filter-append, selects_path, Names, all_zip_push, there, selected_begins, selects_behind_byte, selects-front, selects-longer, selects_split, slice_get-front, AreApart, AreTexts, IsNumberOf, has_dot, joined, AreNumbersOf}
use Rattle.std.proofs.Common.{zero}
use Rattle.std.proofs.Math.ListN.{get_or-append}
use Rattle.std.proofs.Math.Seq.{get_or-append_seam}
use Rattle.std.proofs.lemmas.List.{append-nil, get_or_past}
use Rattle.vcd_compare.proofs.VariableLemmas.{take_next}
use Rattle.vcd_run.specs.Listed.{chosen}
use Rattle.vcd_compare.specs.Selected.{AreNamedBelow, AreNearest, IsNearest, IsPutInside, both_names, first_above, is_inside, is_kept, is_one_of, lists_in, selects_number}

-- ---- a path and one inside it

-- a text without a dot is only selected by itself
pub plain_selected : (p name : List ℕ) → has_dot p ≡ false → selects_path p name ≡ true → p ≡ name
plain_selected [] [] plain h = refl
plain_selected [] (y ∷ name) plain h = cc
plain_selected (x ∷ p) [] plain h =
    let d = (or_parts (x == 46) (has_dot p) plain).0 in
    let other : nat_eq 46 x ≡ false = ne_eqb 46 x (λ e. eqb-false x 46 d (sym e)) in
    let fails : selects_path (x ∷ p) [] ≡ false = rw other refl in
    cc
plain_selected (x ∷ p) (y ∷ name) plain h =
    let both = selects_behind_byte x y p name h in
    let rest = plain_selected p name (or_parts (x == 46) (has_dot p) plain).1 both.1 in
    rw (both.0, rest) refl

-- a name selects what is inside a path if and only if it selects the path
pub selects_inside : (u p name : List ℕ) → has_dot p ≡ false → u ++ 46 ∷ p ≢ name → selects_path (u ++ 46 ∷ p) name ≡ selects_path u name
selects_inside u p name plain differs = by_test (selects_path u name) refl
  where
    by_test : (b : Bool) → selects_path u name ≡ b → selects_path (u ++ 46 ∷ p) name ≡ b
    by_test true q = selects-longer u name p q
    by_test false q =
        false_from_ne_true (selects_path (u ++ 46 ∷ p) name) (λ h. elim (selects_split u name p h) [
          | inl is ↦ cc
          | inr more ↦
              let inner : selects_path p more.0 ≡ true =
              sym (ap (selects_path (u ++ 46 ∷ p)) more.1 ∙ selects-front u (46 ∷ p) (46 ∷ more.0) ∙ selects-front (46 ∷ []) p more.0) ∙ h in
              let same = plain_selected p more.0 plain inner in
              differs (ap (λ t. u ++ 46 ∷ t) same ∙ sym more.1)
        ])

pub selects_itself : (t : List ℕ) → selects_path t t ≡ true
selects_itself t = ap (λ b. b || starts_with nat_eq t (t ++ 46 ∷ [])) ((bytes_eq-Decides t t).1 refl)

-- what is selected is the name itself, or what begins with it and a dot
pub selected_either : (t name : List ℕ) → selects_path t name ≡ true → (t ≡ name) ⊎ ((r : List ℕ) × (t ≡ name ++ 46 ∷ r))
selected_either t name h =
    let b = selected_begins t name h in
    let rest = sym (selects-front name b.0 []) ∙ ap (selects_path (name ++ b.0)) (append-nil name) ∙ ap (λ x. selects_path x name) (sym b.1) ∙ h in
    elim (behind b.0 rest) [
      | inl none ↦ inl (b.1 ∙ ap (λ l. name ++ l) none ∙ append-nil name)
      | inr more ↦ inr (more.0, b.1 ∙ ap (λ l. name ++ l) more.1)
    ]
  where
    behind : (r : List ℕ) → selects_path r [] ≡ true → (r ≡ []) ⊎ ((s : List ℕ) × (r ≡ 46 ∷ s))
    behind [] h = inl refl
    behind (x ∷ r) h = by_test (nat_eq 46 x) refl
      where
        by_test : (b : Bool) → nat_eq 46 x ≡ b → (x ∷ r ≡ []) ⊎ ((s : List ℕ) × (x ∷ r ≡ 46 ∷ s))
        by_test true e = inr (r, ap (λ y. y ∷ r) (sym (eqb-true 46 x e)))
        by_test false e = let no : selects_path (x ∷ r) [] ≡ false = rw e refl in absurd (cc)

-- a path is not inside of what is inside it
pub not_turned : (u p : List ℕ) → selects_path u (u ++ 46 ∷ p) ≡ false
not_turned u p =
    false_from_ne_true (selects_path u (u ++ 46 ∷ p)) (λ h.
    let b = selected_begins u (u ++ 46 ∷ p) h in
    let l = ap length b.1 in
    let m = length-append (u ++ 46 ∷ p) b.0 in
    let k = length-append u (46 ∷ p) in
    omega (arith, l, m, k))

-- ---- the nearest name

one_of_apart : (names : List (List ℕ)) (t w : List ℕ) → is_one_of names t ≡ false → is_one_of names w ≡ true → t ≢ w
one_of_apart names t w other one e = let same = ap (is_one_of names) e in cc

-- of a path inside another one
nearest_inside : (texts names : List (List ℕ)) (u p : List ℕ) (m : ℕ) → has_dot p ≡ false → is_one_of names (u ++ 46 ∷ p) ≡ false
    → IsNearest texts names u m → IsNearest texts names (u ++ 46 ∷ p) m
nearest_inside texts names u p zero plain other is = λ w one. selects_inside u p w plain (one_of_apart names (u ++ 46 ∷ p) w other one) ∙ is w one
nearest_inside texts names u p (suc j) plain other is = (
  is.0,
  is.1,
  is.2,
  selects-longer u is.0 p is.3,
  λ w one. selects_inside u p w plain (one_of_apart names (u ++ 46 ∷ p) w other one) ∙ is.4 w one,
)

module _ (parts : List (List ℕ)) (nodes : List (ℕ × ℕ)) (texts : List (List ℕ)) (are : AreTexts parts nodes texts) where
  module _ (names : List (List ℕ)) where
    nearest_next : (i : ℕ) (node : ℕ × ℕ) (t : List ℕ) (nearest : List ℕ) (mark : Bool) → slice_get nodes i ≡ Some node → slice_get texts i ≡ Some t
        → mark ≡ is_one_of names t → AreNearest texts names i nearest → IsNearest texts names t (cond mark (suc i) (get_or nearest node.0 0))
    nearest_next i node t nearest true at text marks old = (t, text, sym marks, selects_itself t, λ w one. refl)
    nearest_next i node t nearest false at text marks old =
        let is = are.each i node at in
        by_around node.0 is.around (same_Some _ _ (sym is.text_is ∙ text))
      where
        by_around : (a : ℕ) → a ≤ i → joined texts a (are.each i node at).part ≡ t → IsNearest texts names t (get_or nearest a 0)
        by_around zero l e =
            let is = are.each i node at in
            subst (IsNearest texts names t) (sym old.none) (λ w one. false_from_ne_true (selects_path t w)
            (λ h. one_of_apart names t w (sym marks) one (plain_selected t w (ap has_dot (sym e) ∙ is.plain) h)))
        by_around (suc j) l e =
            let is = are.each i node at in
            let within = slice_get_within texts i t text in
            let u = get_or texts j [] in
            let inner = old.each j u (omega (arith, l)) (slice_get-get_or texts j [] (omega (arith, l, within))) in
            subst (λ x. IsNearest texts names x (get_or nearest (suc j) 0)) e (nearest_inside texts names u is.part (get_or nearest (suc j) 0) is.plain (ap (is_one_of names) e ∙ sym marks) inner)

    -- one path more
    pub nearest_more : (i : ℕ) (node : ℕ × ℕ) (nearest : List ℕ) (mark : Bool) → slice_get nodes i ≡ Some node
        → ((t : List ℕ) → slice_get texts i ≡ Some t → mark ≡ is_one_of names t) → AreNearest texts names i nearest
        → AreNearest texts names (suc i) (nearest ++ cond mark (suc i) (get_or nearest node.0 0) ∷ [])
    nearest_more i node nearest mark at marks old = record {
      len = let l = old.len in let m = length-append nearest (n ∷ []) in omega (arith, l, m);
      none = let l = old.len in get_or-append nearest (n ∷ []) 0 0 (omega (arith, l)) ∙ old.none;
      within = λ j. pushed nearest n (suc i) j old.len (new_within mark) old.within;
      each = λ j t l there. by_index j t l there (nat_lt j i) refl;
    }
      where
        n : ℕ
        n = cond mark (suc i) (get_or nearest node.0 0)

        new_within : (b : Bool) → cond b (suc i) (get_or nearest node.0 0) ≤ suc i
        new_within true = omega arith
        new_within false = let w = old.within node.0 in let a = (are.each i node at).around in omega (arith, w, a)

        pushed : (xs : List ℕ) (x k j : ℕ) → length xs ≡ k → x ≤ k → ((i : ℕ) → get_or xs i 0 ≤ i) → get_or (xs ++ x ∷ []) j 0 ≤ j
        pushed xs x k j l w below = by_test (nat_lt j (length xs)) refl (nat_eq j (length xs)) refl
          where
            by_test : (b : Bool) → nat_lt j (length xs) ≡ b → (c : Bool) → nat_eq j (length xs) ≡ c → get_or (xs ++ x ∷ []) j 0 ≤ j
            by_test true q c e = let a = get_or-append xs (x ∷ []) 0 j (ltb-true j (length xs) q) in let m = below j in omega (arith, a, m)
            by_test false q true e =
                let s = eqb-true j (length xs) e in
                let a = ap (λ y. get_or (xs ++ x ∷ []) y 0) s ∙ get_or-append_seam xs x [] 0 in
                omega (arith, a, s, l, w)
            by_test false q false e =
                let p = ltb-false j (length xs) q in
                let d = eqb-false j (length xs) e in
                let m = length-append xs (x ∷ []) in
                let a = get_or_past (xs ++ x ∷ []) j 0 (omega (arith, p, d, m)) in
                omega (arith, a)

        by_index : (j : ℕ) (t : List ℕ) → j < suc i → slice_get texts j ≡ Some t → (b : Bool) → nat_lt j i ≡ b → IsNearest texts names t (get_or (nearest ++ n ∷ []) (suc j) 0)
        by_index j t l there true q =
            let below = ltb-true j i q in
            let len = old.len in
            subst (IsNearest texts names t) (sym (get_or-append nearest (n ∷ []) 0 (suc j) (omega (arith, below, len)))) (old.each j t below there)
        by_index j t l there false q =
            let past = ltb-false j i q in
            let same : j ≡ i = omega (arith, l, past) in
            let len = old.len in
            let last : suc j ≡ length nearest = omega (arith, same, len) in
            let text = ap (slice_get texts) (sym same) ∙ there in
            subst (IsNearest texts names t) (sym (ap (λ y. get_or (nearest ++ n ∷ []) y 0) last ∙ get_or-append_seam nearest n [] 0))
            (nearest_next i node t nearest mark at text (marks t text) old)

  -- of a path, the other names are those of the path around it
  pub above_itself : (k : ℕ) (u : List ℕ) → slice_get texts k ≡ Some u → (node : ℕ × ℕ) → slice_get nodes k ≡ Some node → selects_number texts u node.0 ≡ false
  above_itself k u text node at = let is = are.each k node at in by_around node.0 (same_Some _ _ (sym is.text_is ∙ text))
    where
      by_around : (a : ℕ) → joined texts a (are.each k node at).part ≡ u → selects_number texts u a ≡ false
      by_around zero e = refl
      by_around (suc j) e = ap (selects_path (get_or texts j [])) (sym e) ∙ not_turned (get_or texts j []) (are.each k node at).part

  pub above_other : (k : ℕ) (u w : List ℕ) → slice_get texts k ≡ Some u → (node : ℕ × ℕ) → slice_get nodes k ≡ Some node → u ≢ w
      → selects_number texts w node.0 ≡ selects_path u w
  above_other k u w text node at differs = let is = are.each k node at in by_around node.0 (same_Some _ _ (sym is.text_is ∙ text))
    where
      by_around : (a : ℕ) → joined texts a (are.each k node at).part ≡ u → selects_number texts w a ≡ selects_path u w
      by_around zero e =
          let is = are.each k node at in
          sym (false_from_ne_true (selects_path u w) (λ h. differs (plain_selected u w (ap has_dot (sym e) ∙ is.plain) h)))
      by_around (suc j) e =
          let is = are.each k node at in
          sym (selects_inside (get_or texts j []) is.part w is.plain (λ q. differs (sym e ∙ q))) ∙ ap (λ x. selects_path x w) e

-- ---- what is left out

none_selects : (t : List ℕ) (es : List (List ℕ)) → ((w : List ℕ) → is_one_of es w ≡ true → selects_path t w ≡ false) → list_any (selects_path t) es ≡ false
none_selects t [] all = refl
none_selects t (e ∷ es) all =
    let one = all e (ap (λ b. b || is_one_of es e) ((bytes_eq-Decides e e).1 refl)) in
    let rest = none_selects t es (λ w is. all w (or_right (bytes_eq w e) (is_one_of es w) is)) in
    rw (one, rest) refl

one_selects : (t w : List ℕ) (es : List (List ℕ)) → is_one_of es w ≡ true → selects_path t w ≡ true → list_any (selects_path t) es ≡ true
one_selects t w [] is h = cc
one_selects t w (e ∷ es) is h = by_test (bytes_eq w e) refl (one_selects t w es)
  where
    by_test : (b : Bool) → bytes_eq w e ≡ b → (is_one_of es w ≡ true → selects_path t w ≡ true → list_any (selects_path t) es ≡ true) → list_any (selects_path t) (e ∷ es) ≡ true
    by_test true q more = let one = ap (selects_path t) (sym ((bytes_eq-Decides w e).0 q)) ∙ h in ap (λ b. b || list_any (selects_path t) es) one
    by_test false q more = or_right (selects_path t e) (list_any (selects_path t) es) (more (sym (ap (λ b. b || is_one_of es w) q) ∙ is) h)

-- a path is left out if an exception is nearest to it
abbrev is_zero : ℕ → Bool
is_zero zero = true
is_zero (suc n) = false

kept_by : (texts es : List (List ℕ)) (t : List ℕ) (m : ℕ) → IsNearest texts es t m → is_kept es t ≡ is_zero m
kept_by texts es t zero is = ap not (none_selects t es is)
kept_by texts es t (suc j) is = ap not (one_selects t is.0 es is.2 is.3)

not_zero : (n : ℕ) → n ≢ 0 → is_zero n ≡ false
not_zero zero some = absurd (some refl)
not_zero (suc n) some = refl

-- ---- the lists of what is inside

module _ (parts : List (List ℕ)) (nodes : List (ℕ × ℕ)) (texts : List (List ℕ)) (are : AreTexts parts nodes texts) (names : List (List ℕ))
    (nearest : List ℕ) (near : AreNearest texts names (length texts) nearest) where
  -- the names that select a path are those that select the nearest one
  nearest_selects : (around : ℕ) (w : List ℕ) → around ≤ length texts → is_one_of names w ≡ true → selects_number texts w around ≡ selects_number texts w (get_or nearest around 0)
  nearest_selects zero w l one = sym (ap (selects_number texts w) near.none)
  nearest_selects (suc i) w l one =
      let t = get_or texts i [] in
      by_nearest (get_or nearest (suc i) 0) (near.each i t (omega (arith, l)) (slice_get-get_or texts i [] (omega (arith, l))))
    where
      by_nearest : (m : ℕ) → IsNearest texts names (get_or texts i []) m → selects_path (get_or texts i []) w ≡ selects_number texts w m
      by_nearest zero is = is w one
      by_nearest (suc j) is = is.4 w one ∙ ap (λ x. selects_path x w) (sym (get_or_from_slice_get texts j is.0 [] is.1))

  -- it is the number of a name
  nearest_name : (around m : ℕ) → around ≤ length texts → get_or nearest around 0 ≡ m → m ≢ 0 → (u : List ℕ) × IsNumberOf texts m u × (is_one_of names u ≡ true)
  nearest_name zero m l e some = absurd (some (sym e ∙ near.none))
  nearest_name (suc i) m l e some =
      let t = get_or texts i [] in
      by_nearest m (subst (IsNearest texts names t) e (near.each i t (omega (arith, l)) (slice_get-get_or texts i [] (omega (arith, l))))) some
    where
      by_nearest : (m : ℕ) → IsNearest texts names (get_or texts i []) m → m ≢ 0 → (u : List ℕ) × IsNumberOf texts m u × (is_one_of names u ≡ true)
      by_nearest zero is some = absurd (some refl)
      by_nearest (suc j) is some = (is.0, (j, refl, is.1), is.2)

  -- the lists have the index where a name selects what is around it, but not what is left to go up
  pub record IsPutting (around index number : ℕ) (old new : List (Vec ℕ)) : Type 0 where
    pub len : length new ≡ length old
    pub name : number ≢ 0 → (u : List ℕ) × IsNumberOf texts number u × (is_one_of names u ≡ true)
    pub below : (w : List ℕ) → is_one_of names w ≡ true → selects_number texts w number ≡ true → selects_number texts w around ≡ true
    pub each : (m : ℕ) (w : List ℕ) → IsNumberOf texts m w → is_one_of names w ≡ true
        → get_or (lists_in new) m [] ≡ get_or (lists_in old) m [] ++ cond (selects_number texts w around && not (selects_number texts w number)) (index ∷ []) []

  both_not : (a b : Bool) → a ≡ b → (a && not b) ≡ false
  both_not true b e = rw (← e) refl
  both_not false b e = refl

  pub putting_first : (around index number : ℕ) (lists : List (Vec ℕ)) → around ≤ length texts → number ≡ get_or nearest around 0 → IsPutting around index number lists lists
  putting_first around index number lists l is = record {
    len = refl;
    name = λ some. nearest_name around number l (sym is) some;
    below = λ w one h. nearest_selects around w l one ∙ ap (selects_number texts w) (sym is) ∙ h;
    each = λ m w number_is one. sym (ap (λ b. get_or (lists_in lists) m [] ++ cond b (index ∷ []) [])
        (both_not _ _ (nearest_selects around w l one ∙ ap (selects_number texts w) (sym is))) ∙ append-nil (get_or (lists_in lists) m []));
  }

  pub putting_next : (around index number next : ℕ) (old mid new : List (Vec ℕ)) → AreNamedBelow texts names (length old) → number ≢ 0 → next ≡ first_above nodes nearest number
      → lists_in new ≡ set (lists_in mid) number (get_or (lists_in mid) number [] ++ index ∷ []) → IsPutting around index number old mid → IsPutting around index next old new
  putting_next around index zero next old mid new room some is puts s = absurd (some refl)
  putting_next around index (suc k) next old mid new room some is puts s = record {
    len = sym (length-map new (λ (l : Vec ℕ). l.items)) ∙ ap length puts
        ∙ length-set (lists_in mid) (suc k) (get_or (lists_in mid) (suc k) [] ++ index ∷ []) ∙ length-map mid (λ (l : Vec ℕ). l.items) ∙ s.len;
    name = λ more. nearest_name node.0 next around_within (sym next_is) more;
    below = λ w one h. by_same w one h (bytes_eq u w) refl;
    each = λ m w number_is one. by_name m w number_is one (bytes_eq u w) refl;
  }
    where
      u : List ℕ
      u = (s.name some).0

      text : slice_get texts k ≡ Some u
      text = let n = s.name some in let e = n.1.1 in let same : n.1.0 ≡ k = omega (arith, e) in ap (slice_get texts) (sym same) ∙ n.1.2

      within : k < length texts
      within = slice_get_within texts k u text

      node : ℕ × ℕ
      node = get_or nodes k (0, 0)

      at : slice_get nodes k ≡ Some node
      at = slice_get-get_or nodes k (0, 0) (let w = within in let l = are.len in omega (arith, w, l))

      around_within : node.0 ≤ length texts
      around_within = let w = within in let a = (are.each k node at).around in omega (arith, w, a)

      next_is : next ≡ get_or nearest node.0 0
      next_is = is ∙ ap (λ b. cond b (get_or nearest node.0 0) 0) (lt-ltb (get_or nearest node.0 0) (suc k) (let w = near.within node.0 in
          let a = (are.each k node at).around in omega (arith, w, a)))

      above : (w : List ℕ) → is_one_of names w ≡ true → selects_number texts w next ≡ selects_number texts w node.0
      above w one = ap (selects_number texts w) next_is ∙ sym (nearest_selects node.0 w around_within one)

      here : (w : List ℕ) → selects_number texts w (suc k) ≡ selects_path u w
      here w = ap (λ x. selects_path x w) (get_or_from_slice_get texts k u [] text)

      other : (w : List ℕ) → is_one_of names w ≡ true → bytes_eq u w ≡ false → selects_number texts w next ≡ selects_number texts w (suc k)
      other w one q = above w one ∙ above_other parts nodes texts are k u w text node at (λ e. let yes = (bytes_eq-Decides u w).1 e in absurd (cc)) ∙ sym (here w)

      itself : (w : List ℕ) → is_one_of names w ≡ true → bytes_eq u w ≡ true → selects_number texts w next ≡ false
      itself w one q = above w one ∙ ap (λ x. selects_number texts x node.0) (sym ((bytes_eq-Decides u w).0 q)) ∙ above_itself parts nodes texts are k u text node at

      by_same : (w : List ℕ) → is_one_of names w ≡ true → selects_number texts w next ≡ true → (b : Bool) → bytes_eq u w ≡ b → selects_number texts w around ≡ true
      by_same w one h true q = let no = itself w one q in absurd (cc)
      by_same w one h false q = s.below w one (sym (other w one q) ∙ h)

      by_name : (m : ℕ) (w : List ℕ) → IsNumberOf texts m w → is_one_of names w ≡ true → (b : Bool) → bytes_eq u w ≡ b
          → get_or (lists_in new) m [] ≡ get_or (lists_in old) m [] ++ cond (selects_number texts w around && not (selects_number texts w next)) (index ∷ []) []
      by_name m w number_is one true q =
          let same : u ≡ w = (bytes_eq-Decides u w).0 q in
          let index_is : number_is.0 ≡ k = are.apart number_is.0 k w number_is.2 (text ∙ ap Some same) in
          let m_is : m ≡ suc k = number_is.1 ∙ ap suc index_is in
          let selected : selects_number texts w (suc k) ≡ true = here w ∙ ap (λ x. selects_path x w) same ∙ selects_itself w in
          let around_is = s.below w one selected in
          let long : suc k < length (lists_in mid) = let n = s.name some in let r = room (suc k) n.0 n.1 n.2 in let a = s.len in omega (arith, r, a, length-map mid (λ (l : Vec ℕ). l.items)) in
          let before : get_or (lists_in mid) (suc k) [] ≡ get_or (lists_in old) (suc k) [] =
          ap (λ x. get_or (lists_in mid) x []) (sym m_is) ∙ s.each m w number_is one
          ∙ ap (λ b. get_or (lists_in old) m [] ++ cond (selects_number texts w around && not b) (index ∷ []) []) selected
          ∙ ap (λ b. get_or (lists_in old) m [] ++ cond (b && false) (index ∷ []) []) around_is ∙ append-nil (get_or (lists_in old) m []) ∙ ap (λ x. get_or (lists_in old) x []) m_is in
          ap (λ x. get_or (lists_in new) x []) m_is ∙ ap (λ l. get_or l (suc k) []) puts
          ∙ get_or-set_same (lists_in mid) (suc k) (get_or (lists_in mid) (suc k) [] ++ index ∷ []) [] long ∙ ap (λ l. l ++ index ∷ []) before
          ∙ sym (ap (λ b. get_or (lists_in old) m [] ++ cond (selects_number texts w around && not b) (index ∷ []) []) (itself w one q)
          ∙ ap (λ b. get_or (lists_in old) m [] ++ cond (b && true) (index ∷ []) []) around_is
          ∙ ap (λ x. get_or (lists_in old) x [] ++ index ∷ []) m_is)
      by_name m w number_is one false q =
          let apart : m ≢ suc k = λ e.
          let index_is : number_is.0 ≡ k = let f = number_is.1 in omega (arith, e, f) in
          let same : u ≡ w = same_Some u w (sym text ∙ ap (slice_get texts) (sym index_is) ∙ number_is.2) in
          let yes = (bytes_eq-Decides u w).1 same in
          absurd (cc) in
          ap (λ l. get_or l m []) puts ∙ get_or-set_other (lists_in mid) (suc k) m (get_or (lists_in mid) (suc k) [] ++ index ∷ []) [] apart ∙ s.each m w number_is one
          ∙ ap (λ b. get_or (lists_in old) m [] ++ cond (selects_number texts w around && not b) (index ∷ []) []) (sym (other w one q))

  module _ (es : List (List ℕ)) (left_out : List ℕ) (left : AreNearest texts es (length texts) left_out) (around index : ℕ) (l : around ≤ length texts) where
    inside_is : (w : List ℕ) → is_inside texts es w around ≡ (is_zero (get_or left_out around 0) && selects_number texts w around)
    inside_is w = by_number around l
      where
        by_number : (a : ℕ) → a ≤ length texts → is_inside texts es w a ≡ (is_zero (get_or left_out a 0) && selects_number texts w a)
        by_number zero l = sym (ap (λ m. is_zero m && false) left.none)
        by_number (suc i) l =
            let t = get_or texts i [] in
            ap (λ b. b && selects_path t w) (kept_by texts es t (get_or left_out (suc i) 0) (left.each i t (omega (arith, l)) (slice_get-get_or texts i [] (omega (arith, l)))))

    -- at the top all lists have it
    pub put_all : (old new : List (Vec ℕ)) → get_or left_out around 0 ≡ 0 → IsPutting around index 0 old new → IsPutInside texts names es around index old new
    put_all old new kept s = record {
      len = s.len;
      each = λ m w number_is one. s.each m w number_is one ∙ ap (λ b. get_or (lists_in old) m [] ++ cond b (index ∷ []) [])
          (and_true (selects_number texts w around) ∙ sym (inside_is w ∙ ap (λ n. is_zero n && selects_number texts w around) kept));
    }
      where
        and_true : (b : Bool) → (b && true) ≡ b
        and_true true = refl
        and_true false = refl

    pub put_none : (lists : List (Vec ℕ)) → get_or left_out around 0 ≢ 0 → IsPutInside texts names es around index lists lists
    put_none lists out = record {
      len = refl;
      each = λ m w number_is one. sym (ap (λ b. get_or (lists_in lists) m [] ++ cond b (index ∷ []) []) (inside_is w
          ∙ ap (λ b. b && selects_number texts w around) (not_zero (get_or left_out around 0) out)) ∙ append-nil (get_or (lists_in lists) m []));
    }

-- ---- what is chosen

-- the indexes of what passes
pub chosen_zip : {X : Type 0} (xs : List X) (f : ℕ → Bool) (g : X → Bool) → ((i : ℕ) (x : X) → slice_get xs i ≡ Some x → f i ≡ g x) → (i : ℕ)
    → i ≤ length xs → AllZip (λ j x. slice_get xs j ≡ Some x) (chosen f i) (filter g (take i xs))
chosen_zip xs f g same zero l = tt
chosen_zip xs f g same (suc i) l =
    let x = there xs i (omega (arith, l)) in
    subst (AllZip (λ j x. slice_get xs j ≡ Some x) (chosen f (suc i))) (sym (ap (filter g) (take_next xs i x.0 x.1) ∙ filter-append g (take i xs) (x.0 ∷ [])))
    (by_test (f i) refl x.0 x.1 (chosen_zip xs f g same i (omega (arith, l))))
  where
    by_test : (b : Bool) → f i ≡ b → (x : _) → slice_get xs i ≡ Some x → AllZip (λ j x. slice_get xs j ≡ Some x) (chosen f i) (filter g (take i xs))
        → AllZip (λ j x. slice_get xs j ≡ Some x) (chosen f i ++ cond b (i ∷ []) []) (filter g (take i xs) ++ filter g (x ∷ []))
    by_test true q x at old =
        let pass : g x ≡ true = sym (same i x at) ∙ q in
        subst (λ c. AllZip (λ j x. slice_get xs j ≡ Some x) (chosen f i ++ i ∷ []) (filter g (take i xs) ++ cond c (x ∷ []) [])) (sym pass)
        (all_zip_push (λ j x. slice_get xs j ≡ Some x) (chosen f i) (filter g (take i xs)) i x old at)
    by_test false q x at old =
        let pass : g x ≡ false = sym (same i x at) ∙ q in
        subst (λ c. AllZip (λ j x. slice_get xs j ≡ Some x) (chosen f i ++ []) (filter g (take i xs) ++ cond c (x ∷ []) [])) (sym pass)
        (subst (λ a. AllZip (λ j x. slice_get xs j ≡ Some x) a (filter g (take i xs) ++ [])) (sym (append-nil (chosen f i)))
        (subst (AllZip (λ j x. slice_get xs j ≡ Some x) (chosen f i)) (sym (append-nil (filter g (take i xs)))) old))

-- ---- two names

pub both_zip : (texts : List (List ℕ)) (numbers : List (ℕ × ℕ)) (ns : List Names) → AllZip (AreNumbersOf texts) numbers ns
    → AllZip (IsNumberOf texts) (flat_map (λ (m : ℕ × ℕ). m.0 ∷ m.1 ∷ []) numbers) (both_names ns)
both_zip texts [] [] all = tt
both_zip texts [] (n ∷ ns) all = absurd all
both_zip texts (m ∷ numbers) [] all = absurd all
both_zip texts (m ∷ numbers) (n ∷ ns) all = (all.0.0, (all.0.1, both_zip texts numbers ns all.1))

-- a name has a number if all have
one_number : (texts : List (List ℕ)) (numbers : List ℕ) (names : List (List ℕ)) (w : List ℕ) → AllZip (IsNumberOf texts) numbers names
    → is_one_of names w ≡ true → (m : ℕ) × IsNumberOf texts m w
one_number texts [] [] w all one = cc
one_number texts [] (e ∷ names) w all one = absurd all
one_number texts (m ∷ numbers) [] w all one = absurd all
one_number texts (m ∷ numbers) (e ∷ names) w all one = by_test (bytes_eq w e) refl (one_number texts numbers names w all.1)
  where
    by_test : (b : Bool) → bytes_eq w e ≡ b → (is_one_of names w ≡ true → (k : ℕ) × IsNumberOf texts k w) → (k : ℕ) × IsNumberOf texts k w
    by_test true q more = (m, subst (IsNumberOf texts m) (sym ((bytes_eq-Decides w e).0 q)) all.0)
    by_test false q more = more (sym (ap (λ b. b || is_one_of names w) q) ∙ one)

-- the numbers of the names stay below those of what is entered after them
pub named_below : (known more : List (List ℕ)) (numbers : List (ℕ × ℕ)) (ns : List Names) → AreApart (known ++ more)
    → AllZip (AreNumbersOf known) numbers ns → AreNamedBelow (known ++ more) (both_names ns) (length known + 1)
named_below known more numbers ns apart all = λ m w is one.
    let known_is = (one_number known (flat_map (λ (m : ℕ × ℕ). m.0 ∷ m.1 ∷ []) numbers) (both_names ns) w (both_zip known numbers ns all) one).1 in
    let same = apart is.0 known_is.0 w is.2 (slice_get-front known more known_is.0 w known_is.2) in
    let l = slice_get_within known known_is.0 w known_is.2 in
    let e = is.1 in
    omega (arith, same, l, e)

pub both_one : (ns : List Names) (i : ℕ) (n : Names) → slice_get ns i ≡ Some n → (is_one_of (both_names ns) n.0 ≡ true) × (is_one_of (both_names ns) n.1 ≡ true)
both_one [] i n at = cc
both_one (m ∷ ns) zero n at =
    let same : m ≡ n = same_Some m n at in
    let yes = λ (t : List ℕ). (bytes_eq-Decides t t).1 refl in
    subst (λ x. (is_one_of (both_names (m ∷ ns)) x.0 ≡ true) × (is_one_of (both_names (m ∷ ns)) x.1 ≡ true)) same (
      ap (λ b. b || (bytes_eq m.0 m.1 || is_one_of (both_names ns) m.0)) (yes m.0),
      or_right (bytes_eq m.1 m.0) _ (ap (λ b. b || is_one_of (both_names ns) m.1) (yes m.1)),
    )
both_one (m ∷ ns) (suc i) n at =
    let rest = both_one ns i n at in (
      or_right (bytes_eq n.0 m.0) _ (or_right (bytes_eq n.0 m.1) _ rest.0),
      or_right (bytes_eq n.1 m.0) _ (or_right (bytes_eq n.1 m.1) _ rest.1),
    )
