-- What has another name in place of a first one: paths, and variables.
use Rattle.vcd_compare.proofs.Cited.{◌≡◌, ◌≢◌, ℕ, suc, ◌+◌, ◌<◌, ◌≤◌, ◌==◌, ◌&&◌, ◌||◌, not, nat_eq, Bool, true, false, cond, List, [], ◌∷◌, ◌++◌, length, drop, set, get_or, slice_get, filter, find, position, bytes_eq, cases_lt, Option, Some, None, inl, inr, refl, sym, ap, subst, ◌∙◌, arith, option_map, AllZip, list_any, position_or_len, find_at, take_all, map, slice_get-map, eq-eqb, eqb-false, eqb-true, ne_eqb, false_from_ne_true, and_parts, length-append, length-set, get_or-set_other, get_or-set_same, get_or_from_slice_get, same_Some, slice_get-get_or, slice_get_past, slice_get_within, bytes_eq-Decides, ◌⊎◌, Header, selects_path, Asked, Named, all_named, Names, bytes_flip, there, selected_begins, ArePlaces, AreSelected, AreWithin, FindPlaces, IsCounterpart, IsFound, IsNth, IsPlace, with_range, without_range, ap₂, is_empty, is_some, first_of, lacks_range, lone, only_at, range_of, the_only, IsSlice, texts_in, AreUsers, IsPathOf, Users, index_in, slice_of, looked_up, place_of_node, replaced, selected_in, AreApart, AreTexts, IsNumberOf, has_dot, joined, both_names, chosen, is_inside, is_kept, is_one_of, lists_in, AreVariables, IsKeyOf, same_key, HasSelected, Paths, Variables, Vec, AreCounterparts, Climbs, IsBelow, IsPlacing, IsReady, IsSettled, Settles, StaySettled, node_at, Places, min, ◌-◌}
use Rattle.std.proofs.Common.{zero}
use Rattle.std.proofs.lemmas.List.{append_assoc, append-nil, drop-append-le}
use Rattle.vcd_compare.proofs.PathTexts.{joined_number, last_dot, no_dot, number_within, node_of, none_first, not_there, position_first, position_none, position_passes, same_is, is_same, text_of}
use Rattle.vcd_compare.proofs.SelectedLemmas.{chosen_zip, plain_selected, selects_inside, selects_itself}
pub use Rattle.vcd_compare.proofs.SliceLemmas.{same_len, zip_at, zip_from}
use Rattle.vcd_compare.proofs.SliceLemmas.{IsSliceAt, same_slice, slice_absent, slice_found}
use Rattle.vcd_compare.proofs.VariableLemmas.{same_number}

-- ---- a path with the second name in place of the first

pub replaced_inside : (n : Names) (u p : List ℕ) → selects_path u n.0 ≡ true → replaced n (u ++ 46 ∷ p) ≡ replaced n u ++ 46 ∷ p
replaced_inside n u p h =
    let b = selected_begins u n.0 h in
    let l = ap length b.1 in
    let m = length-append n.0 b.0 in
    ap (λ t. n.1 ++ t) (drop-append-le (length n.0) u (46 ∷ p) (omega (arith, l, m))) ∙ sym (append_assoc n.1 (drop (length n.0) u) (46 ∷ p))

pub replaced_itself : (n : Names) → replaced n n.0 ≡ n.1
replaced_itself n = ap (λ t. n.1 ++ t) (passed n.0) ∙ append-nil n.1
  where
    passed : (a : List ℕ) → drop (length a) a ≡ []
    passed [] = refl
    passed (x ∷ a) = passed a

-- what holds below a number and of it
pub and_next : (P : ℕ → Type 0) (k : ℕ) → ((i : ℕ) → i < k → P i) → P k → (i : ℕ) → i < k + 1 → P i
and_next P k below here i l = elim (cases_lt i k) [ inl b ↦ below i b | inr past ↦ subst P (omega (arith, l, past)) here ]

-- ---- what is settled in a turn

module _ (n : Names) (texts : List (List ℕ)) (old new : Places) (k : ℕ) (t : List ℕ) (place : Option ℕ) (s : Settles old new k place)
    (is : IsNumberOf texts k t) (ready : IsReady (length texts) old) where
  -- a path is the one that is settled, or nothing of it changes
  turn_either : (m : ℕ) → ((k ≡ m) × IsSettled new m × (get_or new.numbers.items m None ≡ place))
      ⊎ ((k ≢ m) × (get_or new.turns.items m 0 ≡ get_or old.turns.items m 0) × (get_or new.numbers.items m None ≡ get_or old.numbers.items m None))
  turn_either m = by_test (nat_eq k m) refl
    where
      by_test : (b : Bool) → nat_eq k m ≡ b → ((k ≡ m) × IsSettled new m × (get_or new.numbers.items m None ≡ place))
          ⊎ ((k ≢ m) × (get_or new.turns.items m 0 ≡ get_or old.turns.items m 0)
          × (get_or new.numbers.items m None ≡ get_or old.numbers.items m None))
      by_test true q =
          let same = eqb-true k m q in
          let l = number_within texts k t is in
          let one = ready.0 in
          let two = ready.1 in
          inl (
            same,
            ap (λ ts. get_or ts m 0) s.turns ∙ ap (λ j. get_or (set old.turns.items k old.turn) j 0) (sym same)
                ∙ get_or-set_same old.turns.items k old.turn 0 (omega (arith, l, two)) ∙ sym s.turn,
            ap (λ ns. get_or ns m None) s.numbers ∙ ap (λ j. get_or (set old.numbers.items k place) j None) (sym same) ∙ get_or-set_same old.numbers.items k place None (omega (arith, l, one)),
          )
      by_test false q =
          let differs = eqb-false k m q in
          let turned : m ≢ k = λ e. differs (sym e) in
          inr (
            differs,
            ap (λ ts. get_or ts m 0) s.turns ∙ get_or-set_other old.turns.items k m old.turn 0 turned,
            ap (λ ns. get_or ns m None) s.numbers ∙ get_or-set_other old.numbers.items k m place None turned,
          )

  settled_more : selects_path t n.0 ≡ true → IsCounterpart texts n t place → AreCounterparts n texts old → IsReady (length texts) new
      × AreCounterparts n texts new × IsSettled new k × StaySettled old new
  settled_more selected here each = (
    (
      ap length s.numbers ∙ length-set old.numbers.items k place ∙ ready.0,
      ap length s.turns ∙ length-set old.turns.items k old.turn ∙ ready.1,
      λ m. elim (turn_either m) [ inl same ↦ let e = same.1 in omega (arith, e) | inr other ↦ let e = other.1 in let past = ready.2 m in let t = s.turn in omega (arith, e, past, t) ],
    ),
    λ m at. elim (turn_either m) [
      | inl same ↦ (t, subst (λ j. IsNumberOf texts j t) same.0 is, selected, subst (IsCounterpart texts n t) (sym same.2) here)
      | inr other ↦ let b = each m (sym other.1 ∙ at ∙ s.turn) in (b.0, b.1, b.2, subst (IsCounterpart texts n b.0) (sym other.2) b.3)
    ],
    elim (turn_either k) [ inl same ↦ same.1 | inr other ↦ absurd (other.0 refl) ],
    λ m at. elim (turn_either m) [ inl same ↦ same.1 | inr other ↦ other.1 ∙ at ∙ sym s.turn ],
  )

-- the first name is settled first: in a new turn nothing is
pub placing_first : (n : Names) (texts : List (List ℕ)) (one other turn : ℕ) (old new : Places) → AreApart texts → IsNumberOf texts one n.0
    → IsNumberOf texts other n.1 → IsReady (length texts) old → turn ≡ old.turn + 1 → Settles (record old { turn = turn }) new one (Some other)
    → IsPlacing n texts new
placing_first n texts one other turn old new apart a b ready next s =
    let begun : IsReady (length texts) (record old { turn = turn }) = (ready.0, ready.1, λ m. let l = ready.2 m in omega (arith, l, next)) in
    let more = settled_more n texts (record old { turn = turn }) new one n.0 (Some other) s a begun (selects_itself n.0)
    (subst (IsNumberOf texts other) (sym (replaced_itself n)) b) (λ m at. let l = ready.2 m in absurd (omega (arith, l, next, at))) in
    (more.0, λ m is. subst (IsSettled new) (a.1 ∙ ap suc (apart a.0 is.0 n.0 a.2 is.2) ∙ sym is.1) more.2, more.1)

-- ---- counterparts of paths

module _ (parts : List (List ℕ)) (nodes : List (ℕ × ℕ)) (texts : List (List ℕ)) (are : AreTexts parts nodes texts) where
  -- with a path there is the one around it
  around_there : (i : ℕ) (v p : List ℕ) → has_dot p ≡ false → slice_get texts i ≡ Some (v ++ 46 ∷ p) → (j : ℕ) × (slice_get texts j ≡ Some v)
  around_there i v p plain at =
      let within = slice_get_within texts i (v ++ 46 ∷ p) at in
      let node = there nodes i (let l = are.len in omega (arith, within, l)) in
      let is = are.each i node.0 node.1 in
      by_around node.0.0 (let m = is.around in omega (arith, m, within)) is.part is.plain (same_Some _ _ (sym is.text_is ∙ at))
    where
      by_around : (a : ℕ) → a ≤ length texts → (q : List ℕ) → has_dot q ≡ false → joined texts a q ≡ v ++ 46 ∷ p → (j : ℕ) × (slice_get texts j ≡ Some v)
      by_around zero l q d e = absurd (no_dot q v p d e)
      by_around (suc j) l q d e =
          let same = (last_dot (get_or texts j []) v q p d plain e).0 in
          (j, slice_get-get_or texts j [] (omega (arith, l)) ∙ ap Some same)

  -- a node right after the path around it
  pub looked_next : (m k : ℕ) → slice_get nodes m ≡ Some (m, k) → looked_up nodes k (Some m) ≡ Some m
  looked_next m k at = by_found (position (same_key (m, k)) nodes) refl
    where
      by_found : (o : Option ℕ) → position (same_key (m, k)) nodes ≡ o → position (same_key (m, k)) nodes ≡ Some m
      by_found (Some f) q =
          let found = position_passes (same_key (m, k)) nodes f q in
          let one = are.each f (m, k) (found.1 ∙ ap Some (sym (same_is (m, k) found.0 found.2))) in
          let two = are.each m (m, k) at in
          let part : two.part ≡ one.part = same_Some _ _ (sym two.part_is ∙ one.part_is) in
          q ∙ ap Some (are.apart f m (joined texts m one.part) one.text_is (two.text_is ∙ ap (λ p. Some (joined texts m p)) part))
      by_found None q =
          let fails = not_there (same_key (m, k)) nodes m (m, k) (position_none (same_key (m, k)) nodes q) at in
          let passes = is_same (m, k) in
          absurd (cc)

  module _ (n : Names) where
    -- of a path inside another one
    place_inside : (k : ℕ) (p u : List ℕ) (old : Option ℕ) → has_dot p ≡ false → slice_get parts k ≡ Some p → selects_path u n.0 ≡ true
        → IsCounterpart texts n u old → IsCounterpart texts n (u ++ 46 ∷ p) (option_map suc (looked_up nodes k old))
    place_inside k p u None plain part selected is = λ i at. let j = around_there i (replaced n u) p plain (at ∙ ap Some (replaced_inside n u p selected)) in is j.0 j.1
    place_inside k p u (Some m) plain part selected is = by_found (position (same_key (m, k)) nodes) refl
      where
        longer : joined texts m p ≡ replaced n (u ++ 46 ∷ p)
        longer = joined_number texts m (replaced n u) p is ∙ sym (replaced_inside n u p selected)

        by_found : (o : Option ℕ) → position (same_key (m, k)) nodes ≡ o → IsCounterpart texts n (u ++ 46 ∷ p) (option_map suc o)
        by_found (Some f) q =
            let found = position_passes (same_key (m, k)) nodes f q in
            let at : slice_get nodes f ≡ Some (m, k) = found.1 ∙ ap Some (sym (same_is (m, k) found.0 found.2)) in
            (f, refl, (text_of parts nodes texts are f m k p at part).0 ∙ ap Some longer)
        by_found None q = λ i at.
            let within : m ≤ length texts = number_within texts m (replaced n u) is in
            let node = node_of parts nodes texts are i m k p (at ∙ ap Some (sym longer)) within plain part in
            let fails = not_there (same_key (m, k)) nodes i (m, k) (position_none (same_key (m, k)) nodes q) node in
            let passes = is_same (m, k) in
            cc

    -- the path around one that the first name selects, and that is not that name
    below_around : (m : ℕ) (b : IsBelow n texts m) → b.0 ≢ n.0 → IsBelow n texts (node_at nodes m).0 × ((node_at nodes m).0 < m)
    below_around m (t, is, selected) differs =
        let i = is.0 in
        let node = get_or nodes i (0, 0) in
        let within = slice_get_within texts i t is.2 in
        let at = slice_get-get_or nodes i (0, 0) (let l = are.len in omega (arith, within, l)) in
        let node_is = are.each i node at in
        let l = node_is.around in
        let e = is.1 in
        subst (λ (x : ℕ × ℕ). IsBelow n texts x.0 × (x.0 < m)) (sym (ap (node_at nodes) is.1))
        (by_around node.0 (omega (arith, l, within)) node_is.part node_is.plain (same_Some _ _ (sym node_is.text_is ∙ is.2)), omega (arith, l, e))
      where
        by_around : (a : ℕ) → a ≤ length texts → (p : List ℕ) → has_dot p ≡ false → joined texts a p ≡ t → IsBelow n texts a
        by_around zero l p plain e = absurd (differs (plain_selected t n.0 (ap has_dot (sym e) ∙ plain) selected))
        by_around (suc j) l p plain e =
            let u = get_or texts j [] in
            let one : selects_path u n.0 ≡ true = sym (selects_inside u p n.0 plain (λ q. differs (sym e ∙ q))) ∙ ap (λ x. selects_path x n.0) e ∙ selected in
            (u, (j, refl, slice_get-get_or texts j [] (omega (arith, l))), one)

    -- one path further up
    pub climbs_on : (from m : ℕ) (ms : List ℕ) (b : IsBelow n texts m) → b.0 ≢ n.0 → Climbs nodes n texts from ms m →
        let next : ℕ = min (node_at nodes m).0 (m - 1) in Climbs nodes n texts from (ms ++ m ∷ []) next × IsBelow n texts next
    climbs_on from m ms b differs c =
        let around = below_around m b differs in
        let l = around.1 in
        let same : (node_at nodes m).0 ≡ min (node_at nodes m).0 (m - 1) = omega (arith, l) in
        subst (λ next. Climbs nodes n texts from (ms ++ m ∷ []) next × IsBelow n texts next) same (more from ms c, around.0)
      where
        more : (from : ℕ) (ms : List ℕ) → Climbs nodes n texts from ms m → Climbs nodes n texts from (ms ++ m ∷ []) (node_at nodes m).0
        more from [] c = (c, b, refl)
        more from (k ∷ ms) c = (c.0, c.1, more (node_at nodes k).0 ms c.2)

    -- and one back
    pub climbs_back : (from m top : ℕ) (ms : List ℕ) → Climbs nodes n texts from (ms ++ m ∷ []) top → Climbs nodes n texts from ms m × IsBelow n texts m × ((node_at nodes m).0 ≡ top)
    climbs_back from m top [] c = (c.0, c.1, c.2)
    climbs_back from m top (k ∷ ms) c = let rest = climbs_back (node_at nodes k).0 m top ms c.2 in ((c.0, c.1, rest.0), rest.1, rest.2)

    pub climbs_none : (from top : ℕ) (ms : List ℕ) → length ms ≡ 0 → Climbs nodes n texts from ms top → from ≡ top
    climbs_none from top [] e c = c
    climbs_none from top (k ∷ ms) e c = cc

    -- a path is settled after the one around it
    pub placing_next : (old new : Places) (m top : ℕ) → IsPlacing n texts old → IsBelow n texts m → (node_at nodes m).0 ≡ top → IsSettled old top
        → Settles old new m (place_of_node nodes old.numbers.items m) → IsPlacing n texts new × IsSettled new m × StaySettled old new
    placing_next old new m top p (t, is, selected) around at s =
        let more = settled_more n texts old new m t (place_of_node nodes old.numbers.items m) s is p.0 selected here p.2 in
        ((more.0, λ k own. more.3 k (p.1 k own), more.1), more.2, more.3)
      where
        here : IsCounterpart texts n t (place_of_node nodes old.numbers.items m)
        here =
            let i = is.0 in
            let node = get_or nodes i (0, 0) in
            let within = slice_get_within texts i t is.2 in
            let node_is = are.each i node (slice_get-get_or nodes i (0, 0) (let l = are.len in omega (arith, within, l))) in
            let up : node.0 ≡ top = ap (λ k. (node_at nodes k).0) (sym is.1) ∙ around in
            let outer = p.2 top at in
            let text : outer.0 ++ 46 ∷ node_is.part ≡ t = sym (joined_number texts top outer.0 node_is.part outer.1)
            ∙ ap (λ k. joined texts k node_is.part) (sym up) ∙ same_Some _ _ (sym node_is.text_is ∙ is.2) in
            let inside = place_inside node.1 node_is.part outer.0 (get_or old.numbers.items top None) node_is.plain node_is.part_is outer.2 outer.3 in
            subst (IsCounterpart texts n t) (sym (ap (place_of_node nodes old.numbers.items) is.1 ∙ ap (λ k. option_map suc (looked_up nodes node.1 (get_or old.numbers.items k None))) up))
            (subst (λ x. IsCounterpart texts n x (option_map suc (looked_up nodes node.1 (get_or old.numbers.items top None)))) text inside)

-- ---- counterparts of variables

-- a number is among those of the exceptions if and only if its text is one
pub marked_is : (texts : List (List ℕ)) (n : ℕ) (t : List ℕ) (ns : List ℕ) (es : List (List ℕ)) → AreApart texts → IsNumberOf texts n t
    → AllZip (IsNumberOf texts) ns es → list_any (λ m. m == n) ns ≡ list_any (λ e. bytes_eq t e) es
marked_is texts n t [] [] apart is all = refl
marked_is texts n t [] (e ∷ es) apart is all = absurd all
marked_is texts n t (m ∷ ns) [] apart is all = absurd all
marked_is texts n t (m ∷ ns) (e ∷ es) apart is all = λ z. (same_number texts m n e t apart all.0 is ∙ bytes_flip e t) z || marked_is texts n t ns es apart is all.1 z

nat_flip : (a b : ℕ) → nat_eq a b ≡ nat_eq b a
nat_flip a b = by_test (nat_eq b a) refl
  where
    by_test : (p : Bool) → nat_eq b a ≡ p → nat_eq a b ≡ p
    by_test true q = eq-eqb a b (sym (eqb-true b a q))
    by_test false q = ne_eqb a b (λ e. eqb-false b a q (sym e))

-- the test of the definition, and that of the code
abbrev pub at_place : List ℕ → List ℕ → ℕ → Named → Bool
at_place path range nth w = bytes_eq w.path path && (bytes_eq (range_of w.variable) range && (w.nth == nth))

same_test : (list : List (List ℕ × List ℕ)) (m nth : ℕ) (path range : List ℕ) (k : ℕ × ℕ) (w : Named)
    → ((i j : ℕ) (z : List ℕ × List ℕ) → slice_get list i ≡ Some z → slice_get list j ≡ Some z → i ≡ j)
    → slice_get list m ≡ Some (path, range) → IsKeyOf list k w → same_key (m, nth) k ≡ at_place path range nth w
same_test list m nth path range k w apart is key =
    let one : nat_eq m k.0 ≡ (bytes_eq w.path path && bytes_eq (range_of w.variable) range) =
    same_slice list m k.0 (path, range) (slice_of w) apart is key.slice ∙ (λ z. bytes_flip path w.path z && bytes_flip range (range_of w.variable) z) in
    let two : nat_eq nth k.1 ≡ (w.nth == nth) = ap (nat_eq nth) key.nth ∙ nat_flip nth w.nth in
    (λ z. one z && two z) ∙ grouped (bytes_eq w.path path) (bytes_eq (range_of w.variable) range) (w.nth == nth)
  where
    grouped : (a b c : Bool) → ((a && b) && c) ≡ (a && (b && c))
    grouped true b c = refl
    grouped false b c = refl

first_same : (list : List (List ℕ × List ℕ)) (m nth : ℕ) (path range : List ℕ) (keys : List (ℕ × ℕ)) (vs : List Named)
    → ((i j : ℕ) (z : List ℕ × List ℕ) → slice_get list i ≡ Some z → slice_get list j ≡ Some z → i ≡ j)
    → slice_get list m ≡ Some (path, range) → AllZip (IsKeyOf list) keys vs → position_or_len (same_key (m, nth)) keys ≡ position_or_len (at_place path range nth) vs
first_same list m nth path range [] [] apart is all = refl
first_same list m nth path range [] (w ∷ vs) apart is all = absurd all
first_same list m nth path range (k ∷ ks) [] apart is all = absurd all
first_same list m nth path range (k ∷ ks) (w ∷ vs) apart is all =
    ap (λ b. cond (not b) (1 + position_or_len (same_key (m, nth)) ks) 0) (same_test list m nth path range k w apart is all.0)
    ∙ ap (λ j. cond (not (at_place path range nth w)) (1 + j) 0) (first_same list m nth path range ks vs apart is all.1)

none_found : (list : List (List ℕ × List ℕ)) (path range : List ℕ) (nth : ℕ) (keys : List (ℕ × ℕ)) (vs : List Named)
    → ((i : ℕ) → slice_get list i ≢ Some (path, range)) → AllZip (IsKeyOf list) keys vs → find (at_place path range nth) vs ≡ None
none_found list path range nth [] [] absent all = refl
none_found list path range nth [] (w ∷ vs) absent all = absurd all
none_found list path range nth (k ∷ ks) [] absent all = absurd all
none_found list path range nth (k ∷ ks) (w ∷ vs) absent all =
    let other : at_place path range nth w ≡ false = false_from_ne_true (at_place path range nth w) (λ e.
    let one = and_parts (bytes_eq w.path path) (bytes_eq (range_of w.variable) range && (w.nth == nth)) e in
    let two = and_parts (bytes_eq (range_of w.variable) range) (w.nth == nth) one.1 in
    absent k.0 (all.0.slice ∙ ap Some (ap₂ (λ (p r : List ℕ). (p, r)) ((bytes_eq-Decides w.path path).0 one.0) ((bytes_eq-Decides (range_of w.variable) range).0 two.0)))) in
    ap (λ b. cond b (Some w) (find (at_place path range nth) vs)) other ∙ none_found list path range nth ks vs absent all.1

-- what a filter leaves passes
pub kept : {X : Type 0} (f : X → Bool) (xs : List X) (n : ℕ) (x : X) → slice_get (filter f xs) n ≡ Some x → f x ≡ true
kept f [] n x e = cc
kept f (y ∷ ys) n x e = by_test (f y) refl n e (λ n e. kept f ys n x e)
  where
    by_test : (b : Bool) → f y ≡ b → (n : ℕ) → slice_get (cond b (y ∷ filter f ys) (filter f ys)) n ≡ Some x
        → ((n : ℕ) → slice_get (filter f ys) n ≡ Some x → f x ≡ true) → f x ≡ true
    by_test true e zero g more = let same : y ≡ x = same_Some y x g in rw (← same) e
    by_test true e (suc n) g more = more n g
    by_test false e n g more = more n g

-- a variable that is selected is not left out
pub selected_nth : (q : Asked) (h : Header) (n : Names) (j : ℕ) (v : Named) → slice_get (selected_in q h n) j ≡ Some v
    → (is_kept q.exceptions v.path ≡ true) × (selects_path v.path n.0 ≡ true)
selected_nth q h n j v at = and_parts (is_kept q.exceptions v.path) (selects_path v.path n.0) (kept (λ (w : Named). is_kept q.exceptions w.path && selects_path w.path n.0) (all_named h) j v at)

module _ (h : Header) (texts : List (List ℕ)) (vs : Variables) (are : AreVariables h texts vs) where
  -- a variable by the number of its path and its range
  pub by_slice : (path range : List ℕ) (nth : ℕ) (slice : Option ℕ) → IsSliceAt are.list (path, range) slice
      → IsFound h (find (at_place path range nth) (all_named h)) (looked_up vs.keys.keys nth slice)
  by_slice path range nth None is = none_found are.list path range nth vs.keys.keys (all_named h) is are.keys
  by_slice path range nth (Some m) is = by_found (position (same_key (m, nth)) vs.keys.keys) refl
    where
      test : Named → Bool
      test w = at_place path range nth w

      by_found : (o : Option ℕ) → position (same_key (m, nth)) vs.keys.keys ≡ o → IsFound h (find (at_place path range nth) (all_named h)) o
      by_found (Some f) e =
          let first : position_or_len test (all_named h) ≡ f = sym (first_same are.list m nth path range vs.keys.keys
          (all_named h) are.slices.apart is are.keys) ∙ position_first (same_key (m, nth)) vs.keys.keys f e in
          let found = position_passes (same_key (m, nth)) vs.keys.keys f e in
          let within = slice_get_within vs.keys.keys f found.0 found.1 in
          let w = there (all_named h) f (omega (arith, within, same_len (IsKeyOf are.list) vs.keys.keys (all_named h) are.keys)) in
          (w.0, find_at test (all_named h) ∙ ap (slice_get (all_named h)) first ∙ w.1, w.1)
      by_found None e =
          let none = none_first (same_key (m, nth)) vs.keys.keys (position_none (same_key (m, nth)) vs.keys.keys e) in
          let last : position_or_len test (all_named h) ≡ length (all_named h) = sym
          (first_same are.list m nth path range vs.keys.keys (all_named h) are.slices.apart is are.keys) ∙ none
          ∙ same_len (IsKeyOf are.list) vs.keys.keys (all_named h) are.keys in
          find_at test (all_named h) ∙ slice_get_past (all_named h) (position_or_len test (all_named h)) (omega (arith, last))

  -- the keys of a variable
  pub record HasKeys (v : Named) (key slice : ℕ × ℕ) (path : ℕ) : Type 0 where
    pub nth : key.1 ≡ v.nth
    pub is : IsSlice texts (texts_in vs.slices.ranges) slice (slice_of v)
    pub number : IsNumberOf texts path v.path
    pub path_is : slice.0 ≡ path

  pub keys_of : (index : ℕ) (v : Named) (key slice : ℕ × ℕ) (path : ℕ) → AreApart texts → IsNth h index v → key ≡ get_or vs.keys.keys index (0, 0)
      → slice ≡ get_or vs.slices.pairs.keys key.0 (0, 0) → path ≡ get_or vs.paths.items index 0 → HasKeys v key slice path
  keys_of index v key slice path apart nth key_at slice_at path_at =
      let k = zip_at (IsKeyOf are.list) vs.keys.keys (all_named h) index v are.keys nth in
      let key_is : key ≡ k.0 = key_at ∙ get_or_from_slice_get vs.keys.keys index k.0 (0, 0) k.1 in
      let s = zip_at (IsSlice texts (texts_in vs.slices.ranges)) vs.slices.pairs.keys are.list k.0.0 (slice_of v) are.slices.each k.2.slice in
      let slice_is : slice ≡ s.0 = slice_at ∙ ap (λ (x : ℕ × ℕ). get_or vs.slices.pairs.keys x.0 (0, 0)) key_is ∙ get_or_from_slice_get vs.slices.pairs.keys k.0.0 s.0 (0, 0) s.1 in
      let p = zip_at (IsPathOf texts) vs.paths.items (all_named h) index v are.paths nth in
      let path_same : path ≡ p.0 = path_at ∙ get_or_from_slice_get vs.paths.items index p.0 0 p.1 in
      let number = subst (λ m. IsNumberOf texts m v.path) (sym path_same) p.2 in
      let is = subst (λ x. IsSlice texts (texts_in vs.slices.ranges) x (slice_of v)) (sym slice_is) s.2 in
      record {
        nth = ap (λ (x : ℕ × ℕ). x.1) key_is ∙ k.2.nth;
        is = is;
        number = number;
        path_is = is.0.1 ∙ ap suc (apart is.0.0 number.0 v.path is.0.2 number.2) ∙ sym number.1;
      }

  -- the number of its range
  pub range_number : (index : ℕ) (v : Named) (key slice : ℕ × ℕ) → IsNth h index v → key ≡ get_or vs.keys.keys index (0, 0)
      → slice ≡ get_or vs.slices.pairs.keys key.0 (0, 0) → slice_get (texts_in vs.slices.ranges) slice.1 ≡ Some (range_of v.variable)
  range_number index v key slice nth key_at slice_at =
      let k = zip_at (IsKeyOf are.list) vs.keys.keys (all_named h) index v are.keys nth in
      let key_is : key ≡ k.0 = key_at ∙ get_or_from_slice_get vs.keys.keys index k.0 (0, 0) k.1 in
      let s = zip_at (IsSlice texts (texts_in vs.slices.ranges)) vs.slices.pairs.keys are.list k.0.0 (slice_of v) are.slices.each k.2.slice in
      let slice_is : slice ≡ s.0 = slice_at ∙ ap (λ (x : ℕ × ℕ). get_or vs.slices.pairs.keys x.0 (0, 0)) key_is ∙ get_or_from_slice_get vs.slices.pairs.keys k.0.0 s.0 (0, 0) s.1 in
      ap (λ (x : ℕ × ℕ). slice_get (texts_in vs.slices.ranges) x.1) slice_is ∙ s.2.1

  -- the only variable of a path
  pub only_is : (n : ℕ) (t : List ℕ) (u : Users) → IsNumberOf texts n t → u ≡ get_or vs.users.items n Users.None → IsFound h (only_at (all_named h) t) (index_in u)
  only_is n t u number e = by_users u (subst (AreUsers (all_named h) t) (sym e) (are.users n t number))
    where
      by_users : (u : Users) → AreUsers (all_named h) t u → IsFound h (only_at (all_named h) t) (index_in u)
      by_users Users.None is = ap the_only is
      by_users (Users.One i) is = (is.0, ap the_only is.1, is.2)
      by_users Users.Several is = ap the_only is.3

  -- a path that no variable has
  pub only_none : (t : List ℕ) → ((i : ℕ) → slice_get texts i ≢ Some t) → only_at (all_named h) t ≡ None
  only_none t absent = ap the_only (none vs.paths.items (all_named h) are.paths)
    where
      none : (ns : List ℕ) (ws : List Named) → AllZip (IsPathOf texts) ns ws → filter (λ w. bytes_eq w.path t) ws ≡ []
      none [] [] all = refl
      none [] (w ∷ ws) all = absurd all
      none (m ∷ ns) [] all = absurd all
      none (m ∷ ns) (w ∷ ws) all =
          let other : bytes_eq w.path t ≡ false = false_from_ne_true (bytes_eq w.path t) (λ e. absent all.0.0 (all.0.2 ∙ ap Some ((bytes_eq-Decides w.path t).0 e))) in
          ap (λ b. cond b (w ∷ filter (λ w. bytes_eq w.path t) ws) (filter (λ w. bytes_eq w.path t) ws)) other ∙ none ns ws all.1

-- the place of a variable's path
pub placed_at : (q : Asked) (h : Header) (n : Names) (texts : List (List ℕ)) (vs : Variables) (places : List (Option ℕ)) (j m : ℕ) (v : Named)
    (place : Option ℕ) → FindPlaces q h n texts vs places → slice_get (selected_in q h n) j ≡ Some v → IsNumberOf texts m v.path
    → place ≡ get_or places m None → IsCounterpart texts n v.path place
placed_at q h n texts vs places j m v place finds at number is = subst (IsCounterpart texts n v.path) (sym is) (finds.placed j m v at number)

-- what the code finds with the same range
pub ranged_place : (q : Asked) (h : Header) (n : Names) (texts : List (List ℕ)) (vs : Variables) (places : List (Option ℕ)) (index j : ℕ) (v : Named)
    (key slice : ℕ × ℕ) (place found result : Option ℕ) → FindPlaces q h n texts vs places → IsNth h index v
    → slice_get (selected_in q h n) j ≡ Some v
    → key ≡ get_or vs.keys.keys index (0, 0) → slice ≡ get_or vs.slices.pairs.keys key.0 (0, 0) → place ≡ get_or places slice.0 None
    → found ≡ looked_up vs.slices.pairs.keys slice.1 place → result ≡ looked_up vs.keys.keys key.1 found → IsFound h (with_range h n v) result
ranged_place q h n texts vs places index j v key slice place found result finds nth at key_is slice_is place_is found_is result_is =
    let has = keys_of h texts vs finds.are index v key slice (get_or vs.paths.items index 0) finds.apart nth key_is slice_is refl in
    let counter = placed_at q h n texts vs places j slice.0 v place finds at (subst (λ m. IsNumberOf texts m v.path) (sym has.path_is) has.number) place_is in
    let there : IsSliceAt finds.are.list (replaced n v.path, range_of v.variable) found = subst
    (IsSliceAt finds.are.list (replaced n v.path, range_of v.variable)) (sym found_is) (by_place place has.is.1 counter) in
    subst (IsFound h (with_range h n v)) (sym (result_is ∙ ap (λ m. looked_up vs.keys.keys m found) has.nth))
    (by_slice h texts vs finds.are (replaced n v.path) (range_of v.variable) v.nth found there)
  where
    by_place : (place : Option ℕ) → slice_get (texts_in vs.slices.ranges) slice.1 ≡ Some (range_of v.variable) → IsCounterpart texts n v.path place
        → IsSliceAt finds.are.list (replaced n v.path, range_of v.variable) (looked_up vs.slices.pairs.keys slice.1 place)
    by_place None range is = slice_absent texts vs.slices finds.are.list finds.apart finds.are.slices (range_of v.variable) slice.1 range (replaced n v.path) is
    by_place (Some m) range is = slice_found texts vs.slices finds.are.list finds.apart finds.are.slices (range_of v.variable) slice.1 range m (replaced n v.path) is

-- that comes first
pub ranged_first : (h : Header) (n : Names) (v : Named) (i : ℕ) → IsFound h (with_range h n v) (Some i) → IsPlace h n v (Some i)
ranged_first h n v i a = (a.0, ap (λ o. first_of o (without_range h n v)) a.1, a.2)

-- and then what has no range
pub lone_place : (h : Header) (n : Names) (v : Named) (other : Option ℕ) → with_range h n v ≡ None → IsFound h (without_range h n v) other → IsPlace h n v other
lone_place h n v other a b = subst (λ o. IsFound h o other) (sym (ap (λ o. first_of o (without_range h n v)) a)) b

-- a text of no length
pub empty_is : (t : List ℕ) → (length t == 0) ≡ is_empty t
empty_is [] = refl
empty_is (b ∷ t) = ne_eqb (length (b ∷ t)) 0 (λ e. omega (arith, e))

-- the text at an index
pub text_is : (keys : List (Vec ℕ)) (i : ℕ) (v : Vec ℕ) (t : List ℕ) → slice_get keys i ≡ Some v → slice_get (map (λ (v : Vec ℕ). v.items) keys) i ≡ Some t → v.items ≡ t
text_is keys i v t at there = same_Some v.items t (sym (ap (option_map (λ (v : Vec ℕ). v.items)) at) ∙ sym (slice_get-map (λ (v : Vec ℕ). v.items) keys i) ∙ there)

-- there is an index of what is there
pub found_some : (h : Header) (o : Option Named) (i : Option ℕ) → IsFound h o i → is_some o ≡ is_some i
found_some h o None e = ap is_some e
found_some h o (Some j) e = ap is_some e.1

-- without a range, by what is known of both paths
pub lone_both : (h : Header) (v : Named) (own other : Option Named) (i : Option ℕ) (j : ℕ) (one two : Bool) → IsFound h own i
    → (b : IsFound h other (Some j)) → one ≡ is_empty (range_of v.variable) → two ≡ is_empty (range_of b.0.variable)
    → IsFound h (lone own v other) (cond (is_some i && (one || two)) (Some j) None)
lone_both h v own other i j one two a b e f =
    subst (λ o. IsFound h (lone own v o) (cond (is_some i && (one || two)) (Some j) None)) (sym b.1)
    (subst (λ t. IsFound h (cond t (Some b.0) None) (cond (is_some i && (one || two)) (Some j) None)) same (by_test (is_some i && (one || two))))
  where
    same : (is_some i && (one || two)) ≡ (is_some own && lacks_range v b.0)
    same = ap (λ t. t && (one || two)) (sym (found_some h own i a)) ∙ ap (λ t. is_some own && (t || two)) e ∙ ap (λ t. is_some own && (is_empty (range_of v.variable) || t)) f

    by_test : (t : Bool) → IsFound h (cond t (Some b.0) None) (cond t (Some j) None)
    by_test true = (b.0, refl, b.2)
    by_test false = refl

module _ (q : Asked) (h : Header) (n : Names) (texts : List (List ℕ)) (vs : Variables) (list : List ℕ) (are : AreVariables h texts vs) (selected : AreSelected q h n list) where
  -- the name selects the paths of these variables
  pub listed_below : (i : ℕ) → i < length list → IsBelow n texts (get_or vs.paths.items (get_or list i 0) 0)
  listed_below i l =
      let index = get_or list i 0 in
      let v = zip_from (IsNth h) list (selected_in q h n) i index selected (slice_get-get_or list i 0 l) in
      let k = zip_at (IsPathOf texts) vs.paths.items (all_named h) index v.0 are.paths v.2 in
      subst (IsBelow n texts) (sym (get_or_from_slice_get vs.paths.items index k.0 0 k.1)) (v.0.path, k.2, (selected_nth q h n i v.0 v.1).1)

  -- their places are found once their paths are settled
  pub places_found : (p : Places) → AreApart texts → AreCounterparts n texts p
      → ((i : ℕ) → i < length list → IsSettled p (get_or vs.paths.items (get_or list i 0) 0)) → ArePlaces q h n texts p.numbers.items
  places_found p apart each settled j m v at is =
      let index = zip_at (IsNth h) list (selected_in q h n) j v selected at in
      let k = zip_at (IsPathOf texts) vs.paths.items (all_named h) index.0 v are.paths index.2 in
      let path = k.2 in
      let key : get_or vs.paths.items (get_or list j 0) 0 ≡ m =
      ap (λ i. get_or vs.paths.items i 0) (get_or_from_slice_get list j index.0 0 index.1) ∙ get_or_from_slice_get vs.paths.items index.0 k.0 0 k.1
      ∙ path.1 ∙ ap suc (apart path.0 is.0 v.path path.2 is.2) ∙ sym is.1 in
      let its = each m (subst (IsSettled p) key (settled j (slice_get_within list j index.0 index.1))) in
      let number = its.1 in
      let text : its.0 ≡ v.path = same_Some its.0 v.path (sym number.2 ∙ ap (slice_get texts) (let a = number.1 in let b = is.1 in omega (arith, a, b)) ∙ is.2) in
      subst (λ t. IsCounterpart texts n t (get_or p.numbers.items m None)) text its.3

-- the variables that a name selects are those that are inside its path
pub selected_zip : (q : Asked) (h : Header) (n : Names) (texts : List (List ℕ)) (vs : Variables) (list : List ℕ) → AreVariables h texts vs
    → list ≡ chosen (λ i. is_inside texts q.exceptions n.0 (get_or vs.paths.items i 0)) (length vs.paths.items) → AreSelected q h n list
selected_zip q h n texts vs list are is =
    let paths = vs.paths.items in
    let len = same_len (IsPathOf texts) paths (all_named h) are.paths in
    subst (AreSelected q h n) (sym is) (subst (λ l. AllZip (IsNth h)
    (chosen (λ i. is_inside texts q.exceptions n.0 (get_or paths i 0)) (length paths))
    (filter (λ (v : Named). is_kept q.exceptions v.path && selects_path v.path n.0) l))
    (take_all (length paths) (all_named h) (omega (arith, len)))
    (chosen_zip (all_named h) (λ i. is_inside texts q.exceptions n.0 (get_or paths i 0))
    (λ (v : Named). is_kept q.exceptions v.path && selects_path v.path n.0) same (length paths) (omega (arith, len))))
  where
    same : (i : ℕ) (v : Named) → slice_get (all_named h) i ≡ Some v → is_inside texts q.exceptions n.0 (get_or vs.paths.items i 0) ≡ (is_kept q.exceptions v.path && selects_path v.path n.0)
    same i v at =
        let k = zip_at (IsPathOf texts) vs.paths.items (all_named h) i v are.paths at in
        let path = k.2 in
        ap (is_inside texts q.exceptions n.0) (get_or_from_slice_get vs.paths.items i k.0 0 k.1) ∙ ap (is_inside texts q.exceptions n.0) path.1
        ∙ ap (λ t. is_kept q.exceptions t && selects_path t n.0) (get_or_from_slice_get texts path.0 v.path [] path.2)

-- the paths of variables are among those of the header
pub paths_within : (h : Header) (texts : List (List ℕ)) (vs : Variables) → AreVariables h texts vs → AreWithin vs.paths.items (length texts)
paths_within h texts vs are = λ i x at.
    let v = zip_from (IsPathOf texts) vs.paths.items (all_named h) i x are.paths at in
    let path = v.2 in
    let l = slice_get_within texts path.0 v.0.path path.2 in
    let e = path.1 in
    omega (arith, l, e)

-- what is listed for a name of some pair of names
pub listed_variables : (paths : Paths) (vs : Variables) (lists : List (Vec ℕ)) (q : Asked) (h : Header) (ns : List Names) (texts : List (List ℕ))
    → HasSelected paths vs lists q h ns texts → (n : Names) (one : ℕ) → IsNumberOf texts one n.0 → is_one_of (both_names ns) n.0 ≡ true
    → (list : List ℕ)
    → list ≡ get_or (lists_in lists) one [] → AreSelected q h n list
listed_variables paths vs lists q h ns texts ready n one number name list is = selected_zip q h n texts vs list ready.are (is ∙ ready.inside one n.0 number name)
