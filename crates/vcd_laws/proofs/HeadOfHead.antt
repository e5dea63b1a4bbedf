-- The rows of a head that was written for some names, written for other names: those of the first
-- header for what both select.
use Rattle.vcd_laws.proofs.Cited.{◌≡◌, ℕ, suc, zero, Bool, true, false, cond, ◌&&◌, ◌||◌, List, [], ◌∷◌, ◌++◌, length, map, filter, reverse, ◌⊎◌, inl, inr, refl, sym, ap, ◌∙◌, subst, arith, ⊤, AllByRecursion, list_any, join_with_byte, append_assoc, append-nil, is_empty, Declaration, Variable, enclosing, path_of, name_of, first_place, is_selected, selects_path, marked_places, is_among, AreDeclared, Open, HasOpen, has_none, has_scope, has_up, has_var, open_count, path_is, ups_at, row_of, rows_from, written, own_mark, around_marks}
use Rattle.vcd_laws.proofs.HeadBack.{marks, own_code, rows_written, rows_declared}
use Rattle.vcd_laws.proofs.HeadTwice.{uses_selected, scope_mark}
use Rattle.vcd_laws.proofs.PickTwice.{no_open}

-- some name selects this path
abbrev selects : List (List ℕ) → List ℕ → Bool
selects names path = is_empty names || list_any (selects_path path) names

-- only closing rows
abbrev AllUps : List Declaration → Type 0
AllUps [] = ⊤
AllUps (d ∷ ds) = (d ≡ Declaration.Up) × AllUps ds

ups_none : (names : List (List ℕ)) (n : ℕ) (w ds : List Declaration) → AllUps ds
    → uses_selected names n w ds ≡ false
ups_none names n w [] h = refl
ups_none names n w (Declaration.Scope type name ∷ ds) h = let e = h.0 in cc
ups_none names n w (Declaration.Var v ∷ ds) h = let e = h.0 in cc
ups_none names zero w (Declaration.Up ∷ ds) h = refl
ups_none names (suc n) w (Declaration.Up ∷ ds) h =
    ups_none names n (w ++ Declaration.Up ∷ []) ds h.1

module _ (first wanted both : List (List ℕ)) (all : List Declaration) (declared : AreDeclared [] all)
    (agree : (front back : List Declaration) (v : Variable) → all ≡ front ++ Declaration.Var v ∷ back
    → is_selected both front (Declaration.Var v)
    ≡ (selects wanted (path_of front (Declaration.Var v))
    && is_selected first front (Declaration.Var v))) where
  -- the marks of the first names and of both in the header, and those of the others in what was
  -- written
  abbrev mA : ℕ → Bool
  mA = marks first all

  abbrev mB : ℕ → Bool
  mB = marks both all

  abbrev es : List Declaration
  es = written own_code mA all

  abbrev mW : ℕ → Bool
  mW = marks wanted es

  abbrev is_marked : Open → Bool
  is_marked e = mA e.0

  abbrev ups : List Declaration
  ups = ups_at own_code mA (enclosing all)

  -- ---- rows

  up_row : (m : ℕ → Bool) (earlier : List Declaration) (e : Open) (s : List Open)
      → HasOpen earlier (e ∷ s)
      → row_of own_code m earlier Declaration.Up ≡ cond (m e.0) (Declaration.Up ∷ []) []
  up_row m earlier e s is = let o = is.opens in ap (λ l. ups_at own_code m (first_place l)) o.are
      ∙ append-nil (cond (m e.0) (Declaration.Up ∷ []) [])

  var_mark : (names : List (List ℕ)) (earlier ds : List Declaration) (v : Variable) (s : List Open)
      → HasOpen earlier s → AreDeclared earlier (Declaration.Var v ∷ ds)
      → all ≡ earlier ++ Declaration.Var v ∷ ds
      → marks names all (length earlier) ≡ is_selected names earlier (Declaration.Var v)
  var_mark names earlier ds v s is are e =
      ap (λ (l : List Declaration). is_among (marked_places names l) (length earlier)) e
      ∙ own_mark names earlier ds v s is are (is_selected names earlier (Declaration.Var v)) refl

  open_mark : (names : List (List ℕ)) (earlier ds : List Declaration) (type name : List ℕ)
      (s : List Open) → HasOpen earlier s → AreDeclared earlier (Declaration.Scope type name ∷ ds)
      → all ≡ earlier ++ Declaration.Scope type name ∷ ds
      → marks names all (length earlier)
      ≡ uses_selected names 0 (earlier ++ Declaration.Scope type name ∷ []) ds
  open_mark names earlier ds type name s is are e =
      ap (λ (l : List Declaration). is_among (marked_places names l) (length earlier)) e
      ∙ scope_mark names earlier ds type name s is are

  ups_only : (places : List ℕ) → AllUps (ups_at own_code mA places)
  ups_only [] = tt
  ups_only (i ∷ places) = by_mark (mA i) (ups_only places)
    where
      by_mark : (b : Bool) → AllUps (ups_at own_code mA places)
          → AllUps (cond b (Declaration.Up ∷ []) [] ++ ups_at own_code mA places)
      by_mark true more = (refl, more)
      by_mark false more = more

  -- ---- both lists side by side

  -- what is written so far, w, has open the marked ones of the open scopes
  record Beside (earlier w : List Declaration) (s t : List Open) : Type 0 where
    opens : HasOpen earlier s
    wrote : HasOpen w t
    same : map (λ e. e.1) t ≡ map (λ e. e.1) (filter is_marked s)

  scope_kept : (earlier w : List Declaration) (s t : List Open) (type name : List ℕ)
      → mA (length earlier) ≡ true → Beside earlier w s t
      → Beside (earlier ++ Declaration.Scope type name ∷ [])
      (w ++ Declaration.Scope type name ∷ []) ((length earlier, name) ∷ s) ((length w, name) ∷ t)
  scope_kept earlier w s t type name m at = record {
    opens = has_scope earlier s type name at.opens;
    wrote = has_scope w t type name at.wrote;
    same = rw m (ap (λ l. name ∷ l) at.same);
  }

  scope_left : (earlier w : List Declaration) (s t : List Open) (type name : List ℕ)
      → mA (length earlier) ≡ false → Beside earlier w s t
      → Beside (earlier ++ Declaration.Scope type name ∷ []) w ((length earlier, name) ∷ s) t
  scope_left earlier w s t type name m at = record {
    opens = has_scope earlier s type name at.opens;
    wrote = at.wrote;
    same = rw m at.same;
  }

  tail_same : (e : Open) (t : List Open) (n : List ℕ) (l : List (List ℕ))
      → map (λ (x : Open). x.1) (e ∷ t) ≡ n ∷ l → map (λ (x : Open). x.1) t ≡ l
  tail_same e t n l h = cc

  -- a marked scope is open in what was written
  record Inner (earlier w : List Declaration) (s t : List Open) : Type 0 where
    f : Open
    rest : List Open
    parts : t ≡ f ∷ rest
    beside : Beside (earlier ++ Declaration.Up ∷ []) (w ++ Declaration.Up ∷ []) s rest

  up_kept : (earlier w : List Declaration) (e : Open) (s t : List Open) → mA e.0 ≡ true
      → Beside earlier w (e ∷ s) t → Inner earlier w s t
  up_kept earlier w e s [] m at = let h = at.same in let g = rw m at h in cc
  up_kept earlier w e s (f ∷ t) m at = record {
    f = f;
    rest = t;
    parts = refl;
    beside = record {
      opens = has_up earlier e s at.opens;
      wrote = has_up w f t at.wrote;
      same = tail_same f t e.1 (map (λ (x : Open). x.1) (filter is_marked s)) (at.same ∙ rw m refl);
    };
  }

  up_left : (earlier w : List Declaration) (e : Open) (s t : List Open) → mA e.0 ≡ false
      → Beside earlier w (e ∷ s) t → Beside (earlier ++ Declaration.Up ∷ []) w s t
  up_left earlier w e s t m at = record {
    opens = has_up earlier e s at.opens;
    wrote = at.wrote;
    same = at.same ∙ rw m refl;
  }

  var_kept : (earlier w : List Declaration) (s t : List Open) (v : Variable) → Beside earlier w s t
      → Beside (earlier ++ Declaration.Var v ∷ []) (w ++ Declaration.Var v ∷ []) s t
  var_kept earlier w s t v at = record {
    opens = has_var earlier s v at.opens;
    wrote = has_var w t v at.wrote;
    same = at.same;
  }

  var_left : (earlier w : List Declaration) (s t : List Open) (v : Variable) → Beside earlier w s t
      → Beside (earlier ++ Declaration.Var v ∷ []) w s t
  var_left earlier w s t v at = record {
    opens = has_var earlier s v at.opens;
    wrote = at.wrote;
    same = at.same;
  }

  filter_all : (s : List Open) → AllByRecursion (λ i. mA i ≡ true) (map (λ e. e.0) s)
      → filter is_marked s ≡ s
  filter_all [] h = refl
  filter_all (e ∷ s) h = rw h.0 (ap (λ l. e ∷ l) (filter_all s h.1))

  -- a variable that was selected first has its path in what was written
  path_same : (earlier w back : List Declaration) (s t : List Open) (v : Variable)
      → Beside earlier w s t → all ≡ earlier ++ Declaration.Var v ∷ back
      → is_selected first earlier (Declaration.Var v) ≡ true
      → path_of w (Declaration.Var v) ≡ path_of earlier (Declaration.Var v)
  path_same earlier w back s t v at e some =
      let opens = at.opens in
      let o = opens.opens in
      let around : AllByRecursion (λ i. mA i ≡ true) (enclosing earlier)
      = subst (λ (l : List Declaration). AllByRecursion
      (λ i. is_among (marked_places first l) i ≡ true) (enclosing earlier)) (sym e)
      (around_marks first earlier back v some) in
      let whole = filter_all s (subst (AllByRecursion (λ i. mA i ≡ true)) o.are around) in
      let n = name_of (Declaration.Var v) in
      path_is w t (Declaration.Var v) at.wrote
      ∙ ap (λ l. join_with_byte 46 (reverse l ++ n ∷ []))
      (at.same ∙ ap (map (λ (x : Open). x.1)) whole)
      ∙ sym (path_is earlier s (Declaration.Var v) at.opens)

  -- so the other names select it there if and only if both select it
  same_selection : (earlier w back : List Declaration) (s t : List Open) (v : Variable)
      → Beside earlier w s t → all ≡ earlier ++ Declaration.Var v ∷ back
      → is_selected first earlier (Declaration.Var v) ≡ true
      → is_selected wanted w (Declaration.Var v) ≡ is_selected both earlier (Declaration.Var v)
  same_selection earlier w back s t v at e some =
      ap (selects wanted) (path_same earlier w back s t v at e some)
      ∙ sym (agree earlier back v e ∙ rw some (and_true (selects wanted
      (path_of earlier (Declaration.Var v)))))
    where
      and_true : (b : Bool) → (b && true) ≡ b
      and_true true = refl
      and_true false = refl

  not_both : (earlier back : List Declaration) (v : Variable)
      → all ≡ earlier ++ Declaration.Var v ∷ back
      → is_selected first earlier (Declaration.Var v) ≡ false
      → is_selected both earlier (Declaration.Var v) ≡ false
  not_both earlier back v e none =
      agree earlier back v e ∙ rw none (and_false (selects wanted
      (path_of earlier (Declaration.Var v))))
    where
      and_false : (b : Bool) → (b && false) ≡ false
      and_false true = refl
      and_false false = refl

  -- ---- what is inside a scope

  uses_none : (n : ℕ) (earlier xs : List Declaration) → all ≡ earlier ++ xs
      → uses_selected first n earlier xs ≡ false → uses_selected both n earlier xs ≡ false
  uses_none n earlier [] e h = refl
  uses_none n earlier (Declaration.Scope type name ∷ xs) e h =
      uses_none (suc n) (earlier ++ Declaration.Scope type name ∷ []) xs
      (e ∙ sym (append_assoc earlier (Declaration.Scope type name ∷ []) xs)) h
  uses_none zero earlier (Declaration.Up ∷ xs) e h = refl
  uses_none (suc n) earlier (Declaration.Up ∷ xs) e h =
      uses_none n (earlier ++ Declaration.Up ∷ []) xs
      (e ∙ sym (append_assoc earlier (Declaration.Up ∷ []) xs)) h
  uses_none n earlier (Declaration.Var v ∷ xs) e h =
      by_parts (is_selected first earlier (Declaration.Var v)) refl h
      (uses_none n (earlier ++ Declaration.Var v ∷ []) xs
      (e ∙ sym (append_assoc earlier (Declaration.Var v ∷ []) xs)))
    where
      by_parts : (b : Bool) → is_selected first earlier (Declaration.Var v) ≡ b
          → (b || uses_selected first n (earlier ++ Declaration.Var v ∷ []) xs) ≡ false
          → (uses_selected first n (earlier ++ Declaration.Var v ∷ []) xs ≡ false
          → uses_selected both n (earlier ++ Declaration.Var v ∷ []) xs ≡ false)
          → (is_selected both earlier (Declaration.Var v)
          || uses_selected both n (earlier ++ Declaration.Var v ∷ []) xs) ≡ false
      by_parts true f g more = cc
      by_parts false f g more = rw (not_both earlier xs v e f) (more g)

  -- what follows what is written of xs
  abbrev rows : List Declaration → List Declaration → List Declaration
  rows earlier xs = rows_from own_code mA earlier xs ++ ups

  uses_same : (xs earlier w : List Declaration) (above : List Open) (e : Open) (below t : List Open)
      → Beside earlier w (above ++ e ∷ below) t → mA e.0 ≡ true → AreDeclared earlier xs
      → all ≡ earlier ++ xs
      → uses_selected wanted (length (filter is_marked above)) w (rows earlier xs)
      ≡ uses_selected both (length above) earlier xs
  uses_same [] earlier w above e below t at m are is =
      ups_none wanted (length (filter is_marked above)) w ups (ups_only (enclosing all))
  uses_same (Declaration.Scope type name ∷ xs) earlier w above e below t at m are is =
      by_mark (mA (length earlier)) refl
      (λ u r b. uses_same xs (earlier ++ Declaration.Scope type name ∷ []) u
      ((length earlier, name) ∷ above) e below r b m are.1
      (is ∙ sym (append_assoc earlier (Declaration.Scope type name ∷ []) xs)))
    where
      scope : Declaration
      scope = Declaration.Scope type name

      by_mark : (b : Bool) → mA (length earlier) ≡ b
          → ((u : List Declaration) (r : List Open)
          → Beside (earlier ++ Declaration.Scope type name ∷ []) u
          ((length earlier, name) ∷ (above ++ e ∷ below)) r
          → uses_selected wanted (length (filter is_marked ((length earlier, name) ∷ above))) u
          (rows (earlier ++ Declaration.Scope type name ∷ []) xs)
          ≡ uses_selected both (suc (length above)) (earlier ++ Declaration.Scope type name ∷ []) xs)
          → uses_selected wanted (length (filter is_marked above)) w
          ((cond (mA (length earlier)) (Declaration.Scope type name ∷ []) []
          ++ rows_from own_code mA (earlier ++ Declaration.Scope type name ∷ []) xs) ++ ups)
          ≡ uses_selected both (suc (length above)) (earlier ++ Declaration.Scope type name ∷ []) xs
      by_mark true k more =
          let h = more (w ++ Declaration.Scope type name ∷ []) ((length w, name) ∷ t)
          (scope_kept earlier w (above ++ e ∷ below) t type name k at) in
          rw k (rw k at h)
      by_mark false k more =
          let h = more w t (scope_left earlier w (above ++ e ∷ below) t type name k at) in
          rw k (rw k at h)
  uses_same (Declaration.Up ∷ xs) earlier w [] e below t at m are is =
      let row : row_of own_code mA earlier Declaration.Up ≡ Declaration.Up ∷ []
      = up_row mA earlier e below at.opens ∙ rw m refl in
      ap (λ l. uses_selected wanted 0 w ((l ++ rows_from own_code mA
      (earlier ++ Declaration.Up ∷ []) xs) ++ ups)) row
  uses_same (Declaration.Up ∷ xs) earlier w (f ∷ above) e below t at m are is =
      let opens = at.opens in
      ap (λ l. uses_selected wanted (length (filter is_marked (f ∷ above))) w ((l ++ rows_from
      own_code mA (earlier ++ Declaration.Up ∷ []) xs) ++ ups))
      (up_row mA earlier f (above ++ e ∷ below) opens)
      ∙ by_mark (mA f.0) refl
      (λ u r b. uses_same xs (earlier ++ Declaration.Up ∷ []) u above e below r b m are.1
      (is ∙ sym (append_assoc earlier (Declaration.Up ∷ []) xs)))
    where
      by_mark : (b : Bool) → mA f.0 ≡ b
          → ((u : List Declaration) (r : List Open)
          → Beside (earlier ++ Declaration.Up ∷ []) u (above ++ e ∷ below) r
          → uses_selected wanted (length (filter is_marked above)) u
          (rows (earlier ++ Declaration.Up ∷ []) xs)
          ≡ uses_selected both (length above) (earlier ++ Declaration.Up ∷ []) xs)
          → uses_selected wanted (length (filter is_marked (f ∷ above))) w
          ((cond (mA f.0) (Declaration.Up ∷ []) []
          ++ rows_from own_code mA (earlier ++ Declaration.Up ∷ []) xs) ++ ups)
          ≡ uses_selected both (length above) (earlier ++ Declaration.Up ∷ []) xs
      by_mark true k more =
          let inner = up_kept earlier w f (above ++ e ∷ below) t k at in
          rw k (more (w ++ Declaration.Up ∷ []) inner.rest inner.beside)
      by_mark false k more =
          rw k (more w t (up_left earlier w f (above ++ e ∷ below) t k at))
  uses_same (Declaration.Var v ∷ xs) earlier w above e below t at m are is =
      by_mark (is_selected first earlier (Declaration.Var v)) refl
      (var_mark first earlier xs v (above ++ e ∷ below) at.opens are is)
      (λ u r b. uses_same xs (earlier ++ Declaration.Var v ∷ []) u above e below r b m are.1
      (is ∙ sym (append_assoc earlier (Declaration.Var v ∷ []) xs)))
    where
      by_mark : (b : Bool) → is_selected first earlier (Declaration.Var v) ≡ b
          → mA (length earlier) ≡ is_selected first earlier (Declaration.Var v)
          → ((u : List Declaration) (r : List Open)
          → Beside (earlier ++ Declaration.Var v ∷ []) u (above ++ e ∷ below) r
          → uses_selected wanted (length (filter is_marked above)) u
          (rows (earlier ++ Declaration.Var v ∷ []) xs)
          ≡ uses_selected both (length above) (earlier ++ Declaration.Var v ∷ []) xs)
          → uses_selected wanted (length (filter is_marked above)) w
          ((cond (mA (length earlier)) (Declaration.Var v ∷ []) []
          ++ rows_from own_code mA (earlier ++ Declaration.Var v ∷ []) xs) ++ ups)
          ≡ (is_selected both earlier (Declaration.Var v)
          || uses_selected both (length above) (earlier ++ Declaration.Var v ∷ []) xs)
      by_mark true k mark more =
          let h = more (w ++ Declaration.Var v ∷ []) t
          (var_kept earlier w (above ++ e ∷ below) t v at) in
          let one = same_selection earlier w xs (above ++ e ∷ below) t v at is k in
          rw (mark, k, one, h) refl
      by_mark false k mark more =
          let h = more w t (var_left earlier w (above ++ e ∷ below) t v at) in
          rw (mark, k, not_both earlier xs v is k) h

  -- ---- all rows

  -- open scopes that were written are marked again if they are marked for both; the others are
  -- not marked for both
  Matched : List Open → List Open → Type 0
  Matched [] t = t ≡ []
  Matched (e ∷ s) t =
      ((mA e.0 ≡ true) × (f : Open) × (rest : List Open) × (t ≡ f ∷ rest) × (mW f.0 ≡ mB e.0)
      × Matched s rest)
      ⊎ ((mA e.0 ≡ false) × (mB e.0 ≡ false) × Matched s t)

  ups_again : (s t : List Open) (w : List Declaration) → HasOpen w t → Matched s t
      → rows_from own_code mW w (ups_at own_code mA (map (λ e. e.0) s))
      ≡ ups_at own_code mB (map (λ e. e.0) s)
  unfolding Matched
  ups_again [] t w is h = refl
  ups_again (e ∷ s) t w is (inl h) =
      let open_now : HasOpen w (h.1 ∷ h.2) = subst (HasOpen w) h.3 is in
      let row : row_of own_code mW w Declaration.Up ≡ cond (mB e.0) (Declaration.Up ∷ []) []
      = up_row mW w h.1 h.2 open_now ∙ ap (λ b. cond b (Declaration.Up ∷ []) []) h.4 in
      ap (λ b. rows_from own_code mW w (cond b (Declaration.Up ∷ []) []
      ++ ups_at own_code mA (map (λ (x : Open). x.0) s))) h.0
      ∙ ap (λ l. l ++ rows_from own_code mW (w ++ Declaration.Up ∷ [])
      (ups_at own_code mA (map (λ (x : Open). x.0) s))) row
      ∙ ap (λ l. cond (mB e.0) (Declaration.Up ∷ []) [] ++ l)
      (ups_again s h.2 (w ++ Declaration.Up ∷ []) (has_up w h.1 h.2 open_now) h.5)
  ups_again (e ∷ s) t w is (inr h) =
      ap (λ b. rows_from own_code mW w (cond b (Declaration.Up ∷ []) []
      ++ ups_at own_code mA (map (λ (x : Open). x.0) s))) h.0
      ∙ ups_again s t w is h.2
      ∙ ap (λ b. cond b (Declaration.Up ∷ []) [] ++ ups_at own_code mB (map (λ (x : Open). x.0) s))
      (sym h.1)

  rows_again : (xs earlier w : List Declaration) (s t : List Open) → Beside earlier w s t
      → Matched s t → AreDeclared earlier xs → AreDeclared w (rows earlier xs)
      → all ≡ earlier ++ xs → es ≡ w ++ rows earlier xs
      → rows_from own_code mW w (rows earlier xs)
      ≡ rows_from own_code mB earlier xs ++ ups_at own_code mB (enclosing all)
  unfolding Matched
  rows_again [] earlier w s t at match are fine is wrote =
      let opens = at.opens in
      let o = opens.opens in
      let places : enclosing all ≡ map (λ (e : Open). e.0) s
      = ap (λ (l : List Declaration). enclosing l) (is ∙ append-nil earlier) ∙ o.are in
      ap (λ l. rows_from own_code mW w (ups_at own_code mA l)) places
      ∙ ups_again s t w at.wrote match
      ∙ ap (ups_at own_code mB) (sym places)
  rows_again (Declaration.Scope type name ∷ xs) earlier w s t at match are fine is wrote =
      by_mark (mA (length earlier)) refl fine wrote
      (open_mark both earlier xs type name s at.opens are is)
      (open_mark first earlier xs type name s at.opens are is)
      (λ u r b m f e. rows_again xs (earlier ++ Declaration.Scope type name ∷ []) u
      ((length earlier, name) ∷ s) r b m are.1 f
      (is ∙ sym (append_assoc earlier (Declaration.Scope type name ∷ []) xs)) e)
    where
      scope : Declaration
      scope = Declaration.Scope type name

      more_rows : List Declaration
      more_rows = rows_from own_code mB (earlier ++ Declaration.Scope type name ∷ []) xs
          ++ ups_at own_code mB (enclosing all)

      by_mark : (b : Bool) → mA (length earlier) ≡ b
          → AreDeclared w ((cond (mA (length earlier)) (Declaration.Scope type name ∷ []) []
          ++ rows_from own_code mA (earlier ++ Declaration.Scope type name ∷ []) xs) ++ ups)
          → es ≡ w ++ ((cond (mA (length earlier)) (Declaration.Scope type name ∷ []) []
          ++ rows_from own_code mA (earlier ++ Declaration.Scope type name ∷ []) xs) ++ ups)
          → mB (length earlier)
          ≡ uses_selected both 0 (earlier ++ Declaration.Scope type name ∷ []) xs
          → mA (length earlier)
          ≡ uses_selected first 0 (earlier ++ Declaration.Scope type name ∷ []) xs
          → ((u : List Declaration) (r : List Open)
          → Beside (earlier ++ Declaration.Scope type name ∷ []) u ((length earlier, name) ∷ s) r
          → Matched ((length earlier, name) ∷ s) r
          → AreDeclared u (rows (earlier ++ Declaration.Scope type name ∷ []) xs)
          → es ≡ u ++ rows (earlier ++ Declaration.Scope type name ∷ []) xs
          → rows_from own_code mW u (rows (earlier ++ Declaration.Scope type name ∷ []) xs)
          ≡ more_rows)
          → rows_from own_code mW w ((cond (mA (length earlier)) (Declaration.Scope type name ∷ [])
          [] ++ rows_from own_code mA (earlier ++ Declaration.Scope type name ∷ []) xs) ++ ups)
          ≡ (cond (mB (length earlier)) (Declaration.Scope type name ∷ []) []
          ++ rows_from own_code mB (earlier ++ Declaration.Scope type name ∷ []) xs)
          ++ ups_at own_code mB (enclosing all)
      by_mark true k fine wrote in_both in_first more =
          let rest = rows (earlier ++ Declaration.Scope type name ∷ []) xs in
          let fits : AreDeclared w (Declaration.Scope type name ∷ rest) = rw k at fine in
          let here : es ≡ w ++ Declaration.Scope type name ∷ rest = rw k at wrote in
          let next = scope_kept earlier w s t type name k at in
          let mark : mW (length w) ≡ mB (length earlier)
          = ap (λ (l : List Declaration). is_among (marked_places wanted l) (length w)) here
          ∙ scope_mark wanted w rest type name t at.wrote fits
          ∙ uses_same xs (earlier ++ Declaration.Scope type name ∷ [])
          (w ++ Declaration.Scope type name ∷ []) [] (length earlier, name) s
          ((length w, name) ∷ t) next k are.1
          (is ∙ sym (append_assoc earlier (Declaration.Scope type name ∷ []) xs))
          ∙ sym in_both in
          let again = more (w ++ Declaration.Scope type name ∷ []) ((length w, name) ∷ t) next
          (inl (k, (length w, name), t, refl, mark, match)) fits.1
          (here ∙ sym (append_assoc w (Declaration.Scope type name ∷ []) rest)) in
          rw k (ap (λ b. cond b (Declaration.Scope type name ∷ []) [] ++ rows_from own_code mW
          (w ++ Declaration.Scope type name ∷ []) rest) mark
          ∙ ap (λ l. cond (mB (length earlier)) (Declaration.Scope type name ∷ []) [] ++ l) again
          ∙ sym (append_assoc (cond (mB (length earlier)) (Declaration.Scope type name ∷ []) [])
          (rows_from own_code mB (earlier ++ Declaration.Scope type name ∷ []) xs)
          (ups_at own_code mB (enclosing all))))
      by_mark false k fine wrote in_both in_first more =
          let none : mB (length earlier) ≡ false = in_both
          ∙ uses_none 0 (earlier ++ Declaration.Scope type name ∷ []) xs
          (is ∙ sym (append_assoc earlier (Declaration.Scope type name ∷ []) xs))
          (sym in_first ∙ k) in
          let fits : AreDeclared w (rows (earlier ++ Declaration.Scope type name ∷ []) xs)
          = rw k at fine in
          let here : es ≡ w ++ rows (earlier ++ Declaration.Scope type name ∷ []) xs
          = rw k at wrote in
          rw (k, none) (more w t (scope_left earlier w s t type name k at) (inr (k, none, match))
          fits here)
  rows_again (Declaration.Up ∷ xs) earlier w [] t at match are fine is wrote =
      absurd (let k = open_count earlier [] at.opens in let g = are.0 in omega arith)
  rows_again (Declaration.Up ∷ xs) earlier w (e ∷ s) t at match are fine is wrote =
      let row = up_row mA earlier e s at.opens in
      let below = up_row mB earlier e s at.opens in
      let rest = rows_from own_code mA (earlier ++ Declaration.Up ∷ []) xs in
      ap (λ l. rows_from own_code mW w ((l ++ rest) ++ ups)) row
      ∙ by_match match (subst (λ (l : List Declaration). AreDeclared w ((l ++ rest) ++ ups)) row fine)
      (wrote ∙ ap (λ l. w ++ ((l ++ rest) ++ ups)) row)
      (λ u r b m f x. rows_again xs (earlier ++ Declaration.Up ∷ []) u s r b m are.1 f
      (is ∙ sym (append_assoc earlier (Declaration.Up ∷ []) xs)) x)
      ∙ ap (λ l. (l ++ rows_from own_code mB (earlier ++ Declaration.Up ∷ []) xs)
      ++ ups_at own_code mB (enclosing all)) (sym below)
    where
      by_match : Matched (e ∷ s) t
          → AreDeclared w ((cond (mA e.0) (Declaration.Up ∷ []) []
          ++ rows_from own_code mA (earlier ++ Declaration.Up ∷ []) xs) ++ ups)
          → es ≡ w ++ ((cond (mA e.0) (Declaration.Up ∷ []) []
          ++ rows_from own_code mA (earlier ++ Declaration.Up ∷ []) xs) ++ ups)
          → ((u : List Declaration) (r : List Open) → Beside (earlier ++ Declaration.Up ∷ []) u s r
          → Matched s r → AreDeclared u (rows (earlier ++ Declaration.Up ∷ []) xs)
          → es ≡ u ++ rows (earlier ++ Declaration.Up ∷ []) xs
          → rows_from own_code mW u (rows (earlier ++ Declaration.Up ∷ []) xs)
          ≡ rows_from own_code mB (earlier ++ Declaration.Up ∷ []) xs
          ++ ups_at own_code mB (enclosing all))
          → rows_from own_code mW w ((cond (mA e.0) (Declaration.Up ∷ []) []
          ++ rows_from own_code mA (earlier ++ Declaration.Up ∷ []) xs) ++ ups)
          ≡ (cond (mB e.0) (Declaration.Up ∷ []) []
          ++ rows_from own_code mB (earlier ++ Declaration.Up ∷ []) xs)
          ++ ups_at own_code mB (enclosing all)
      by_match (inl h) fine wrote more =
          let k = h.0 in
          let rest = rows (earlier ++ Declaration.Up ∷ []) xs in
          let fits : AreDeclared w (Declaration.Up ∷ rest) = rw k at fine in
          let here : es ≡ w ++ Declaration.Up ∷ rest = rw k at wrote in
          let inner = up_kept earlier w e s t k at in
          let open_now : HasOpen w (h.1 ∷ h.2) = subst (HasOpen w) h.3 at.wrote in
          let row : row_of own_code mW w Declaration.Up ≡ cond (mB e.0) (Declaration.Up ∷ []) []
          = up_row mW w h.1 h.2 open_now ∙ ap (λ b. cond b (Declaration.Up ∷ []) []) h.4 in
          let same : inner.rest ≡ h.2 = (let x = sym inner.parts ∙ h.3 in cc) in
          let again = more (w ++ Declaration.Up ∷ []) inner.rest inner.beside
          (subst (Matched s) (sym same) h.5) fits.1
          (here ∙ sym (append_assoc w (Declaration.Up ∷ []) rest)) in
          rw k (ap (λ l. l ++ rows_from own_code mW (w ++ Declaration.Up ∷ []) rest) row
          ∙ ap (λ l. cond (mB e.0) (Declaration.Up ∷ []) [] ++ l) again
          ∙ sym (append_assoc (cond (mB e.0) (Declaration.Up ∷ []) [])
          (rows_from own_code mB (earlier ++ Declaration.Up ∷ []) xs)
          (ups_at own_code mB (enclosing all))))
      by_match (inr h) fine wrote more =
          let k = h.0 in
          let fits : AreDeclared w (rows (earlier ++ Declaration.Up ∷ []) xs) = rw k at fine in
          let here : es ≡ w ++ rows (earlier ++ Declaration.Up ∷ []) xs = rw k at wrote in
          rw (k, h.1) (more w t (up_left earlier w e s t k at) h.2 fits here)
  rows_again (Declaration.Var v ∷ xs) earlier w s t at match are fine is wrote =
      by_mark (is_selected first earlier (Declaration.Var v)) refl fine wrote
      (var_mark first earlier xs v s at.opens are is)
      (var_mark both earlier xs v s at.opens are is)
      (λ u b f e. rows_again xs (earlier ++ Declaration.Var v ∷ []) u s t b match are.1 f
      (is ∙ sym (append_assoc earlier (Declaration.Var v ∷ []) xs)) e)
    where
      by_mark : (b : Bool) → is_selected first earlier (Declaration.Var v) ≡ b
          → AreDeclared w ((cond (mA (length earlier)) (Declaration.Var v ∷ []) []
          ++ rows_from own_code mA (earlier ++ Declaration.Var v ∷ []) xs) ++ ups)
          → es ≡ w ++ ((cond (mA (length earlier)) (Declaration.Var v ∷ []) []
          ++ rows_from own_code mA (earlier ++ Declaration.Var v ∷ []) xs) ++ ups)
          → mA (length earlier) ≡ is_selected first earlier (Declaration.Var v)
          → mB (length earlier) ≡ is_selected both earlier (Declaration.Var v)
          → ((u : List Declaration) → Beside (earlier ++ Declaration.Var v ∷ []) u s t
          → AreDeclared u (rows (earlier ++ Declaration.Var v ∷ []) xs)
          → es ≡ u ++ rows (earlier ++ Declaration.Var v ∷ []) xs
          → rows_from own_code mW u (rows (earlier ++ Declaration.Var v ∷ []) xs)
          ≡ rows_from own_code mB (earlier ++ Declaration.Var v ∷ []) xs
          ++ ups_at own_code mB (enclosing all))
          → rows_from own_code mW w ((cond (mA (length earlier)) (Declaration.Var v ∷ []) []
          ++ rows_from own_code mA (earlier ++ Declaration.Var v ∷ []) xs) ++ ups)
          ≡ (cond (mB (length earlier)) (Declaration.Var v ∷ []) []
          ++ rows_from own_code mB (earlier ++ Declaration.Var v ∷ []) xs)
          ++ ups_at own_code mB (enclosing all)
      by_mark true some fine wrote in_first in_both more =
          let k : mA (length earlier) ≡ true = in_first ∙ some in
          let rest = rows (earlier ++ Declaration.Var v ∷ []) xs in
          let fits : AreDeclared w (Declaration.Var v ∷ rest) = rw k at fine in
          let here : es ≡ w ++ Declaration.Var v ∷ rest = rw k at wrote in
          let mark : mW (length w) ≡ mB (length earlier)
          = ap (λ (l : List Declaration). is_among (marked_places wanted l) (length w)) here
          ∙ own_mark wanted w rest v t at.wrote fits (is_selected wanted w (Declaration.Var v)) refl
          ∙ same_selection earlier w xs s t v at is some ∙ sym in_both in
          let again = more (w ++ Declaration.Var v ∷ []) (var_kept earlier w s t v at) fits.1
          (here ∙ sym (append_assoc w (Declaration.Var v ∷ []) rest)) in
          rw k (ap (λ b. cond b (Declaration.Var v ∷ []) [] ++ rows_from own_code mW
          (w ++ Declaration.Var v ∷ []) rest) mark
          ∙ ap (λ l. cond (mB (length earlier)) (Declaration.Var v ∷ []) [] ++ l) again
          ∙ sym (append_assoc (cond (mB (length earlier)) (Declaration.Var v ∷ []) [])
          (rows_from own_code mB (earlier ++ Declaration.Var v ∷ []) xs)
          (ups_at own_code mB (enclosing all))))
      by_mark false none fine wrote in_first in_both more =
          let k : mA (length earlier) ≡ false = in_first ∙ none in
          let other : mB (length earlier) ≡ false = in_both ∙ not_both earlier xs v is none in
          let fits : AreDeclared w (rows (earlier ++ Declaration.Var v ∷ []) xs) = rw k at fine in
          let here : es ≡ w ++ rows (earlier ++ Declaration.Var v ∷ []) xs = rw k at wrote in
          rw (k, other) (more w (var_left earlier w s t v at) fits here)

  -- what was written for the first names, written for the others, is what is written for both
  pub head_of_head : written own_code mW es ≡ written own_code mB all
  unfolding Matched
  head_of_head =
      let r = rows_written first all declared in
      let closed = no_open es r.t r.wrote r.same in
      let o = closed.opens in
      let start : Beside [] [] [] [] = record { opens = has_none; wrote = has_none; same = refl } in
      ap (λ l. rows_from own_code mW [] es ++ ups_at own_code mW l) o.are
      ∙ append-nil (rows_from own_code mW [] es)
      ∙ rows_again all [] [] [] [] start refl declared (rows_declared first all declared) refl refl
