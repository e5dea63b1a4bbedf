-- The variables of a header, one row after the other, and how they are found.
use Rattle.vcd_compare.proofs.Cited.{◌≡◌, ◌≢◌, ℕ, suc, ◌+◌, ◌<◌, ◌==◌, ◌&&◌, nat_eq, Bool, true, false, cond, if◌then◌else◌, List, [], ◌∷◌, ◌++◌, length, take, set, get_or, slice_get, filter_map, filter-append, count_by, bytes_eq, Some, inl, inr, refl, sym, ap, subst, ◌∙◌, arith, AllZip, list_any, eq-eqb, eqb-false, eqb-true, ne_eqb, get_or-set_other, get_or-set_same, length-set, filter_map-append, sum_by-append, sum_by-cons, same_Some, slice_get_within, bytes_eq-Decides, each, each_after, Declaration, Variable, path_of, Header, Selected, with_path, Named, named_after, each_after-append, IdCode, IsRow, Row, all_zip_push, slice_get-front, slice_get-seam, AreApart, IsNumberOf, HasSlices, AddsVariable, AreCounted, AreUsers, HasSome, HasUsers, IsKeyOf, IsNamedAt, IsPathOf, is_alike, named_in, range_of, same_key, slice_of, those_at, used_by, Users, Variables}
use Rattle.std.proofs.Common.{zero}
use Rattle.std.proofs.lemmas.List.{append-nil}
use Rattle.vcd_model.specs.Selection.{selected}
use Rattle.vcd_view.specs.declared.view.Kind.TheVariants as kind
use Rattle.vcd_compare.proofs.PathTexts.{at_most}
use Rattle.vcd_compare.proofs.SliceLemmas.{same_len, same_slice, zip_weaker}

-- ---- a variable more

pub take_next : {X : Type 0} (xs : List X) (i : ℕ) (x : X) → slice_get xs i ≡ Some x → take (suc i) xs ≡ take i xs ++ x ∷ []
take_next [] i x at = cc
take_next (y ∷ xs) zero x at = let same : y ≡ x = cc in rw same refl
take_next (y ∷ xs) (suc i) x at = ap (λ l. y ∷ l) (take_next xs i x at)

selected_next : (ds : List Declaration) (d : Declaration) → selected [] (ds ++ d ∷ []) ≡ selected [] ds ++ filter_map (λ o. o) (with_path [] ds d ∷ [])
unfolding selected
selected_next ds d = ap (filter_map (λ o. o)) (each_after-append (with_path []) [] ds (d ∷ [])) ∙ filter_map-append (λ o. o) (each (with_path []) ds) (with_path [] ds d ∷ [])

-- the variable at a row, after those before it
abbrev pub named_at : List Declaration → ℕ → Variable → Named
named_at ds row v = named_after (selected [] (take row ds)) (record { path = path_of (take row ds) (Declaration.Var v); variable = v })

pub named_next : (ds : List Declaration) (row : ℕ) (v : Variable) → slice_get ds row ≡ Some (Declaration.Var v)
    → named_in (take (suc row) ds) ≡ named_in (take row ds) ++ named_at ds row v ∷ []
named_next ds row v at =
    let s : Selected = record { path = path_of (take row ds) (Declaration.Var v); variable = v } in
    ap named_in (take_next ds row (Declaration.Var v) at) ∙ ap (each named_after) (selected_next (take row ds) (Declaration.Var v))
    ∙ each_after-append named_after [] (selected [] (take row ds)) (s ∷ [])

pub named_same : (ds : List Declaration) (row : ℕ) (d : Declaration) → slice_get ds row ≡ Some d → ((v : Variable) → d ≢ Declaration.Var v)
    → named_in (take (suc row) ds) ≡ named_in (take row ds)
named_same ds row d at differs =
    ap named_in (take_next ds row d at) ∙ ap (each named_after) (selected_next (take row ds) d ∙ none d differs ∙ append-nil (selected [] (take row ds)))
  where
    none : (d : Declaration) → ((v : Variable) → d ≢ Declaration.Var v)
        → selected [] (take row ds) ++ filter_map (λ o. o) (with_path [] (take row ds) d ∷ []) ≡ selected [] (take row ds) ++ []
    none (Declaration.Scope type name) differs = refl
    none Declaration.Up differs = refl
    none (Declaration.Var v) differs = absurd (differs v refl)

-- ---- counting by paths, and by their numbers

count_more : {X : Type 0} (p : X → Bool) (xs : List X) (x : X) → count_by p (xs ++ x ∷ []) ≡ count_by p xs + cond (p x) 1 0
count_more p xs x = let both = sum_by-append (λ y. cond (p y) 1 0) xs (x ∷ []) in let one = sum_by-cons (λ y. cond (p y) 1 0) x [] in omega arith

-- a variable has the path and the range
abbrev has_slice : List ℕ × List ℕ → Named → Bool
has_slice x v = bytes_eq v.path x.0 && bytes_eq (range_of v.variable) x.1

abbrev slice_in : Selected → List ℕ × List ℕ
slice_in s = (s.path, range_of s.variable)

count_named : (t : Selected) (earlier ss : List Selected) → count_by (is_alike t) ss ≡ count_by (has_slice (slice_in t)) (each_after named_after earlier ss)
count_named t earlier [] = refl
count_named t earlier (s ∷ ss) =
    let rest = count_named t (earlier ++ s ∷ []) ss in
    let a = sum_by-cons (λ (s : Selected). cond (is_alike t s) 1 0) s ss in
    let b = sum_by-cons (λ (v : Named). cond (has_slice (slice_in t) v) 1 0) (named_after earlier s) (each_after named_after (earlier ++ s ∷ []) ss) in
    omega (arith, rest, a, b)

-- two numbers are the same if and only if the texts are
pub same_number : (texts : List (List ℕ)) (m n : ℕ) (t u : List ℕ) → AreApart texts → IsNumberOf texts m t → IsNumberOf texts n u → (m == n) ≡ bytes_eq t u
same_number texts m n t u apart a b = by_test (bytes_eq t u) refl
  where
    by_test : (q : Bool) → bytes_eq t u ≡ q → (m == n) ≡ q
    by_test true q =
        let same = (bytes_eq-Decides t u).0 q in
        let one = apart a.0 b.0 u (a.2 ∙ ap Some same) b.2 in
        eq-eqb m n (a.1 ∙ ap suc one ∙ sym b.1)
    by_test false q = ne_eqb m n (λ e.
        let one : a.0 ≡ b.0 = omega (arith, e, a.1, b.1) in
        let same : t ≡ u = same_Some t u (sym a.2 ∙ ap (slice_get texts) one ∙ b.2) in
        let yes = (bytes_eq-Decides t u).1 same in
        absurd (cc))

count_same : (list : List (List ℕ × List ℕ)) (n : ℕ) (x : List ℕ × List ℕ) (keys : List (ℕ × ℕ)) (vs : List Named)
    → ((i j : ℕ) (z : List ℕ × List ℕ) → slice_get list i ≡ Some z → slice_get list j ≡ Some z → i ≡ j) → slice_get list n ≡ Some x
    → AllZip (IsKeyOf list) keys vs
    → count_by (λ (k : ℕ × ℕ). k.0 == n) keys ≡ count_by (has_slice x) vs
count_same list n x [] [] apart is all = refl
count_same list n x [] (v ∷ vs) apart is all = absurd all
count_same list n x (k ∷ ks) [] apart is all = absurd all
count_same list n x (k ∷ ks) (v ∷ vs) apart is all =
    let rest = count_same list n x ks vs apart is all.1 in
    let same = same_slice list k.0 n (slice_of v) x apart all.0.slice is in
    let a = sum_by-cons (λ (k : ℕ × ℕ). cond (k.0 == n) 1 0) k ks in
    let b = sum_by-cons (λ (v : Named). cond (has_slice x v) 1 0) v vs in
    let c : cond (k.0 == n) 1 0 ≡ cond (has_slice x v) 1 0 = ap {B = ℕ} (λ b. cond b 1 0) same in
    omega (arith, rest, a, b, c)

none_alike : (keys : List (ℕ × ℕ)) (key : ℕ × ℕ) → ((i : ℕ) (k : ℕ × ℕ) → slice_get keys i ≡ Some k → key ≢ k) → list_any (same_key key) keys ≡ false
none_alike [] key differs = refl
none_alike (k ∷ ks) key differs =
    let one : same_key key k ≡ false = by_parts (nat_eq key.0 k.0) (nat_eq key.1 k.1) refl refl in
    rw (one, none_alike ks key (λ i j at. differs (suc i) j at)) refl
  where
    by_parts : (a b : Bool) → nat_eq key.0 k.0 ≡ a → nat_eq key.1 k.1 ≡ b → (a && b) ≡ false
    by_parts false b p q = refl
    by_parts true false p q = refl
    by_parts true true p q = absurd (differs 0 k refl (λ z. (eqb-true key.0 k.0 p z, eqb-true key.1 k.1 q z)))

-- the next key of a number is a new one
pub new_key : (counts : List ℕ) (keys : List (ℕ × ℕ)) (n : ℕ) → AreCounted counts keys → list_any (same_key (n, get_or counts n 0)) keys ≡ false
new_key counts keys n are =
    none_alike keys (n, get_or counts n 0) (λ i k at e.
    let below = are.below i k at in
    let all = are.counted n in
    let path : n ≡ k.0 = ap (λ (x : ℕ × ℕ). x.0) e in
    let nth : get_or counts n 0 ≡ k.1 = ap (λ (x : ℕ × ℕ). x.1) e in
    let same = ap (λ m. count_by (λ (j : ℕ × ℕ). j.0 == m) keys) path in
    omega (arith, below, all, nth, same))

pub counted_more : (counts more : List ℕ) (keys : List (ℕ × ℕ)) (n : ℕ) → AreCounted counts keys
    → ((m : ℕ) → get_or more m 0 ≡ cond (m == n) (suc (get_or counts n 0)) (get_or counts m 0))
    → AreCounted more (keys ++ (n, get_or counts n 0) ∷ [])
counted_more counts more keys n are now = record {
  counted = λ m. by_path m (m == n) refl;
  below = λ i k at. elim (at_most keys (n, get_or counts n 0) k i at) [
    | inl old ↦
        let b = are.below i k old in
        let more = count_more (λ (j : ℕ × ℕ). j.0 == k.0) keys (n, get_or counts n 0) in
        omega (arith, b, more)
    | inr last ↦
        let path : k.0 ≡ n = ap (λ (x : ℕ × ℕ). x.0) last.1 in
        let nth : k.1 ≡ get_or counts n 0 = ap (λ (x : ℕ × ℕ). x.1) last.1 in
        let more = count_more (λ (j : ℕ × ℕ). j.0 == k.0) keys (n, get_or counts n 0) in
        let one = ap {B = ℕ} (λ b. cond b 1 0) (eq-eqb n k.0 (sym path)) in
        let all = are.counted n in
        let same = ap (λ m. count_by (λ (j : ℕ × ℕ). j.0 == m) keys) path in
        omega (arith, nth, more, one, all, same)
  ];
}
  where
    by_path : (m : ℕ) → (b : Bool) → (m == n) ≡ b → get_or more m 0 ≡ count_by (λ (k : ℕ × ℕ). k.0 == m) (keys ++ (n, get_or counts n 0) ∷ [])
    by_path m true q =
        let same = eqb-true m n q in
        let last = count_more (λ (j : ℕ × ℕ). j.0 == m) keys (n, get_or counts n 0) in
        let one = ap {B = ℕ} (λ b. cond b 1 0) (eq-eqb n m (sym same)) in
        let is : get_or more m 0 ≡ suc (get_or counts n 0) = now m ∙ ap {B = ℕ} (λ b. cond b (suc (get_or counts n 0)) (get_or counts m 0)) q in
        let all = are.counted m in
        let at = ap (λ j. get_or counts j 0) same in
        omega (arith, last, one, is, all, at)
    by_path m false q =
        let apart : m ≢ n = λ e. eqb-false m n q e in
        let last = count_more (λ (j : ℕ × ℕ). j.0 == m) keys (n, get_or counts n 0) in
        let one = ap {B = ℕ} (λ b. cond b 1 0) (ne_eqb n m (λ e. apart (sym e))) in
        let is : get_or more m 0 ≡ get_or counts m 0 = now m ∙ ap {B = ℕ} (λ b. cond b (suc (get_or counts n 0)) (get_or counts m 0)) q in
        let all = are.counted m in
        omega (arith, last, one, is, all)

-- a count that is added is 0
pub zero_behind : (xs : List ℕ) (n : ℕ) → get_or (xs ++ 0 ∷ []) n 0 ≡ get_or xs n 0
zero_behind [] zero = refl
zero_behind [] (suc n) = refl
zero_behind (x ∷ xs) zero = refl
zero_behind (x ∷ xs) (suc n) = zero_behind xs n

-- one count is greater
pub counted_at : (counts : List ℕ) (i more n : ℕ) → i < length counts → get_or (set counts i more) n 0 ≡ cond (n == i) more (get_or counts n 0)
counted_at counts i more n l = by_test (n == i) refl
  where
    by_test : (b : Bool) → (n == i) ≡ b → get_or (set counts i more) n 0 ≡ cond b more (get_or counts n 0)
    by_test true e = ap (λ m. get_or (set counts i more) m 0) (eqb-true n i e) ∙ get_or-set_same counts i more 0 l
    by_test false e = get_or-set_other counts i n more 0 (λ f. eqb-false n i e f)

-- ---- which variables have a path, one more

users_more : (vs : List Named) (x : Named) (t : List ℕ) (u : Users) → AreUsers vs t u → AreUsers (vs ++ x ∷ []) t (cond (bytes_eq x.path t) (used_by (length vs) u) u)
users_more vs x t u are = by_path (bytes_eq x.path t) refl
  where
    after : (b : Bool) → bytes_eq x.path t ≡ b → those_at (vs ++ x ∷ []) t ≡ those_at vs t ++ cond b (x ∷ []) []
    after b e = filter-append (λ w. bytes_eq w.path t) vs (x ∷ []) ∙ ap (λ c. those_at vs t ++ cond c (x ∷ []) []) e

    same : (e : bytes_eq x.path t ≡ false) (u : Users) → AreUsers vs t u → AreUsers (vs ++ x ∷ []) t u
    same e Users.None is = after false e ∙ append-nil (those_at vs t) ∙ is
    same e (Users.One i) is = (is.0, after false e ∙ append-nil (those_at vs t) ∙ is.1, slice_get-front vs (x ∷ []) i is.0 is.2)
    same e Users.Several is = (is.0, is.1, is.2, after false e ∙ append-nil (those_at vs t) ∙ is.3)

    one : (e : bytes_eq x.path t ≡ true) (u : Users) → AreUsers vs t u → AreUsers (vs ++ x ∷ []) t (used_by (length vs) u)
    one e Users.None is = (x, after true e ∙ ap (λ l. l ++ x ∷ []) is, slice_get-seam vs x [])
    one e (Users.One i) is = (is.0, x, [], after true e ∙ ap (λ l. l ++ x ∷ []) is.1)
    one e Users.Several is = (is.0, is.1, is.2 ++ x ∷ [], after true e ∙ ap (λ l. l ++ x ∷ []) is.3)

    by_path : (b : Bool) → bytes_eq x.path t ≡ b → AreUsers (vs ++ x ∷ []) t (cond (bytes_eq x.path t) (used_by (length vs) u) u)
    by_path true e = subst (λ c. AreUsers (vs ++ x ∷ []) t (cond c (used_by (length vs) u) u)) (sym e) (one e u are)
    by_path false e = subst (λ c. AreUsers (vs ++ x ∷ []) t (cond c (used_by (length vs) u) u)) (sym e) (same e u are)

has_users_more : (texts : List (List ℕ)) (vs : List Named) (x : Named) (n : ℕ) (users : List Users) → AreApart texts → IsNumberOf texts n x.path
    → n < length users → HasUsers texts vs users
    → HasUsers texts (vs ++ x ∷ []) (set users n (used_by (length vs) (get_or users n Users.None)))
has_users_more texts vs x n users apart own within has m t number =
    subst (AreUsers (vs ++ x ∷ []) t) is (users_more vs x t (get_or users m Users.None) (has m t number))
  where
    by_number : (b : Bool) → (n == m) ≡ b → cond b (used_by (length vs) (get_or users m Users.None)) (get_or users m Users.None) ≡ get_or
        (set users n (used_by (length vs) (get_or users n Users.None))) m Users.None
    by_number true e =
        let same = eqb-true n m e in
        ap (λ j. used_by (length vs) (get_or users j Users.None)) (sym same)
        ∙ sym (ap (λ j. get_or (set users n (used_by (length vs) (get_or users n Users.None))) j Users.None) (sym same)
        ∙ get_or-set_same users n (used_by (length vs) (get_or users n Users.None)) Users.None within)
    by_number false e = sym (get_or-set_other users n m (used_by (length vs) (get_or users n Users.None)) Users.None (λ f. eqb-false n m e (sym f)))

    is : cond (bytes_eq x.path t) (used_by (length vs) (get_or users m Users.None)) (get_or users m Users.None) ≡ get_or (set users n (used_by (length vs) (get_or users n Users.None))) m Users.None
    is = ap (λ b. cond b (used_by (length vs) (get_or users m Users.None)) (get_or users m Users.None)) (sym (same_number texts n m x.path t apart own number)) ∙ by_number (n == m) refl

-- ---- a row more

pub some_same : (h : Header) (texts : List (List ℕ)) (row : ℕ) (vs : Variables) (counts : List ℕ) (d : Declaration)
    → slice_get h.declarations row ≡ Some d → ((v : Variable) → d ≢ Declaration.Var v) → HasSome h texts row vs counts
    → HasSome h texts (suc row) vs counts
some_same h texts row vs counts d at differs s =
    let same = sym (named_same h.declarations row d at differs) in record {
      rows = subst (AllZip (IsNamedAt h) vs.rows.items) same s.rows;
      paths = subst (AllZip (IsPathOf texts) vs.paths.items) same s.paths;
      list = s.list;
      slices = s.slices;
      keys = subst (AllZip (IsKeyOf s.list) vs.keys.keys) same s.keys;
      users = subst (λ (ns : List Named). HasUsers texts ns vs.users.items) same s.users;
      counted = s.counted;
      room = s.room;
    }

pub some_more : (h : Header) (texts : List (List ℕ)) (row n : ℕ) (old new : Variables) (counts more range : List ℕ) (v : Variable) → AreApart texts
    → slice_get h.declarations row ≡ Some (Declaration.Var v)
    → IsNumberOf texts n (path_of (take row h.declarations) (Declaration.Var v)) → range ≡ range_of v → AddsVariable old new counts more row n range
    → HasSome h texts row old counts → HasSome h texts (suc row) new more
some_more h texts row n old new counts more range v apart at number range_is a s =
    let path = path_of (take row h.declarations) (Declaration.Var v) in
    let before = named_in (take row h.declarations) in
    let named = named_at h.declarations row v in
    let within : n < length old.users.items = let l = slice_get_within texts number.0 path number.2 in let r = s.room in omega (arith, l, number.1, r) in
    let enters = a.slices texts s.list path apart s.slices number in
    let list = s.list ++ enters.0 in
    let there : slice_get list a.slice ≡ Some (slice_of named) = enters.2 ∙ ap (λ r. Some (path, r)) range_is in
    let grown : AllZip (IsKeyOf list) old.keys.keys before = zip_weaker (IsKeyOf s.list) (IsKeyOf list) old.keys.keys before
    (λ k w is. record { slice = slice_get-front s.list enters.0 k.0 (slice_of w) is.slice; nth = is.nth }) s.keys in
    let key : ℕ × ℕ = (a.slice, get_or counts a.slice 0) in
    let keys : new.keys.keys ≡ old.keys.keys ++ key ∷ [] = a.keys ∙ ap (λ b. if b then old.keys.keys else old.keys.keys ++ key ∷ []) (new_key counts old.keys.keys a.slice s.counted) in
    let next = sym (named_next h.declarations row v at) in
    let nth : get_or counts a.slice 0 ≡ named.nth =
    s.counted.counted a.slice ∙ count_same list a.slice (slice_of named) old.keys.keys before enters.1.apart there grown
    ∙ sym (count_named (record { path = path; variable = v }) [] (selected [] (take row h.declarations))) in
    let many = same_len (IsNamedAt h) old.rows.items before s.rows in
    record {
      rows = subst (AllZip (IsNamedAt h) new.rows.items) next (subst (λ rs. AllZip (IsNamedAt h) rs (before ++ named ∷ [])) (sym a.rows)
          (all_zip_push (IsNamedAt h) old.rows.items before row named s.rows (record { declared = at; path_is = refl })));
      paths = subst (AllZip (IsPathOf texts) new.paths.items) next (subst (λ ps. AllZip (IsPathOf texts) ps (before ++ named ∷ [])) (sym a.paths)
          (all_zip_push (IsPathOf texts) old.paths.items before n named s.paths number));
      list = list;
      slices = enters.1;
      keys = subst (AllZip (IsKeyOf list) new.keys.keys) next (subst (λ ks. AllZip (IsKeyOf list) ks (before ++ named ∷ [])) (sym keys)
          (all_zip_push (IsKeyOf list) old.keys.keys before key named grown (record { slice = there; nth = nth })));
      users = subst (λ vs. HasUsers texts vs new.users.items) next
          (subst (HasUsers texts (before ++ named ∷ [])) (sym (a.users
          ∙ ap (λ m. set old.users.items n (used_by m (get_or old.users.items n Users.None))) many))
          (has_users_more texts before named n old.users.items apart number within s.users));
      counted = subst (AreCounted more) (sym keys) (counted_more counts more old.keys.keys a.slice s.counted a.counts);
      room = ap length a.users ∙ length-set old.users.items n (used_by (length old.rows.items) (get_or old.users.items n Users.None)) ∙ s.room;
    }

-- before the first row
pub some_none : (h : Header) (texts : List (List ℕ)) (vs : Variables) (counts : List ℕ) → vs.rows.items ≡ [] → vs.paths.items ≡ []
    → HasSlices texts vs.slices [] → vs.keys.keys ≡ [] → counts ≡ [] → length vs.users.items ≡ suc (length texts)
    → ((n : ℕ) → n < length vs.users.items → get_or vs.users.items n Users.None ≡ Users.None) → HasSome h texts 0 vs counts
unfolding selected
some_none h texts vs counts rows paths slices keys no_counts room zeros = record {
  rows = subst (λ l. AllZip (IsNamedAt h) l []) (sym rows) tt;
  paths = subst (λ l. AllZip (IsPathOf texts) l []) (sym paths) tt;
  list = [];
  slices = slices;
  keys = subst (λ l. AllZip (IsKeyOf []) l []) (sym keys) tt;
  users = λ n t number. subst (AreUsers [] t) (sym (zeros n (let l = slice_get_within texts number.0 t number.2 in let e = number.1 in omega (arith, l, e, room)))) refl;
  counted = record {
    counted = λ n. ap (λ l. get_or l n 0) no_counts ∙ sym (ap (count_by (λ (k : ℕ × ℕ). k.0 == n)) keys);
    below = λ i k at. let no_key = ap (λ l. slice_get l i) (sym keys) ∙ at in cc;
  };
  room = room;
}

-- which rows declare no variable, and which do
pub not_variable : (text : List ℕ) (cs : List IdCode) (e : List Declaration) (r : Row) (d : Declaration) → IsRow text cs e r d
    → (r.kind ≡ kind.Var → ⊥) → (v : Variable) → d ≢ Declaration.Var v
not_variable text cs e r (Declaration.Scope type name) row n v same = cc
not_variable text cs e r Declaration.Up row n v same = cc
not_variable text cs e r (Declaration.Var w) row n v same = n row.own.0

pub is_variable : (text : List ℕ) (cs : List IdCode) (e : List Declaration) (r : Row) (d : Declaration) → IsRow text cs e r d → r.kind ≡ kind.Var
    → (v : Variable) × (d ≡ Declaration.Var v)
is_variable text cs e r (Declaration.Scope type name) row k = absurd (let own = row.own.0 in cc)
is_variable text cs e r Declaration.Up row k = absurd (let own = row.own.0 in cc)
is_variable text cs e r (Declaration.Var v) row k = (v, refl)
