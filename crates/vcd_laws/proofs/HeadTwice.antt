-- A head that was written for some names is written again for them as it is.
use Rattle.vcd_laws.proofs.Cited.{◌≡◌, ℕ, zero, suc, ◌<◌, ◌==◌, Bool, true, false, cond, ◌||◌, List, [], ◌∷◌, ◌++◌, length, map, filter, refl, sym, ap, ◌∙◌, subst, arith, ⊤, AllByRecursion, list_any, append_assoc, append-nil, length_push, list_any-append, eq-eqb, ne_eqb, Declaration, Variable, enclosing, first_place, is_selected, is_among, enclosing_below, AreDeclared, Open, HasOpen, has_none, has_scope, has_up, has_var, open_count, with_code, ups_at, row_of, rows_from, written, places_at, places_after, places_split, places_below, below_other, none_any, own_mark}
use Rattle.vcd_model.specs.Selection.{marked_places}
use Rattle.vcd_laws.proofs.HeadBack.{marks, own_code}

-- ---- what is inside a scope

-- a variable is declared before the scope at this depth is closed
abbrev uses : ℕ → List Declaration → Bool
uses d [] = false
uses d (Declaration.Scope type name ∷ ds) = uses (suc d) ds
uses d (Declaration.Var v ∷ ds) = true
uses zero (Declaration.Up ∷ ds) = false
uses (suc d) (Declaration.Up ∷ ds) = uses d ds

module _ (names : List (List ℕ)) where
  -- a selected variable is declared before it is closed
  abbrev pub uses_selected : ℕ → List Declaration → List Declaration → Bool
  uses_selected d earlier [] = false
  uses_selected d earlier (Declaration.Scope type name ∷ ds) =
      uses_selected (suc d) (earlier ++ Declaration.Scope type name ∷ []) ds
  uses_selected d earlier (Declaration.Var v ∷ ds) =
      is_selected names earlier (Declaration.Var v) || uses_selected d
      (earlier ++ Declaration.Var v ∷ []) ds
  uses_selected zero earlier (Declaration.Up ∷ ds) = false
  uses_selected (suc d) earlier (Declaration.Up ∷ ds) =
      uses_selected d (earlier ++ Declaration.Up ∷ []) ds

  abbrev NotThere : ℕ → List Open → Type 0
  NotThere j s = AllByRecursion (λ e. (j == e.0) ≡ false) s

  not_enclosing : (j : ℕ) (s : List Open) → NotThere j s
      → list_any (λ i. j == i) (map (λ e. e.0) s) ≡ false
  not_enclosing j [] h = refl
  not_enclosing j (e ∷ s) h = rw (h.0, not_enclosing j s h.1) refl

  is_enclosing : (j : ℕ) (n : List ℕ) (above below : List Open)
      → list_any (λ i. j == i) (map (λ e. e.0) (above ++ (j, n) ∷ below)) ≡ true
  is_enclosing j n [] below = rw (eq-eqb j j refl) refl
  is_enclosing j n (e ∷ above) below = rw (is_enclosing j n above below) (or_true (j == e.0))
    where
      or_true : (b : Bool) → (b || true) ≡ true
      or_true true = refl
      or_true false = refl

  after_one : (j : ℕ) (earlier : List Declaration) (d : Declaration) (ds : List Declaration)
      → is_among (places_after names earlier (d ∷ ds)) j
      ≡ (is_among (places_at names earlier d) j || is_among
      (places_after names (earlier ++ d ∷ []) ds) j)
  after_one j earlier d ds =
      list_any-append (λ i. j == i) (places_at names earlier d)
      (places_after names (earlier ++ d ∷ []) ds)

  -- an index that is not open is not marked from here on
  closed_none : (j : ℕ) (ds earlier : List Declaration) (s : List Open) → HasOpen earlier s
      → AreDeclared earlier ds → j < length earlier → NotThere j s
      → is_among (places_after names earlier ds) j ≡ false
  closed_none j [] earlier s is are l n = refl
  closed_none j (Declaration.Scope type name ∷ ds) earlier s is are l n =
      closed_none j ds (earlier ++ Declaration.Scope type name ∷ []) ((length earlier, name) ∷ s)
      (has_scope earlier s type name is) are.1
      (let k = length_push earlier (Declaration.Scope type name) in omega arith)
      (ne_eqb j (length earlier) (λ e. absurd (omega arith)), n)
  closed_none j (Declaration.Up ∷ ds) earlier [] is are l n =
      absurd (let k = open_count earlier [] is in let g = are.0 in omega arith)
  closed_none j (Declaration.Up ∷ ds) earlier (e ∷ s) is are l n =
      closed_none j ds (earlier ++ Declaration.Up ∷ []) s (has_up earlier e s is) are.1
      (let k = length_push earlier Declaration.Up in omega arith) n.1
  closed_none j (Declaration.Var v ∷ ds) earlier s is are l n =
      let opens = is.opens in
      let more = closed_none j ds (earlier ++ Declaration.Var v ∷ []) s (has_var earlier s v is)
      are.1 (let k = length_push earlier (Declaration.Var v) in omega arith) n in
      let around : list_any (λ i. j == i) (enclosing earlier) ≡ false =
      ap (list_any (λ i. j == i)) opens.are ∙ not_enclosing j s n in
      let other : (j == length earlier) ≡ false =
      ne_eqb j (length earlier) (λ e. absurd (omega arith)) in
      after_one j earlier (Declaration.Var v) ds
      ∙ rw more (here (is_selected names earlier (Declaration.Var v)) other around)
    where
      here : (b : Bool) → (j == length earlier) ≡ false
          → list_any (λ i. j == i) (enclosing earlier) ≡ false
          → (is_among (cond b (length earlier ∷ enclosing earlier) []) j || false) ≡ false
      here true e f = rw (e, f) refl
      here false e f = refl

  -- an open one is marked from here on if and only if a selected variable is in its scope
  place_used : (j : ℕ) (n : List ℕ) (below : List Open) (ds earlier : List Declaration)
      (above : List Open) → HasOpen earlier (above ++ (j, n) ∷ below) → AreDeclared earlier ds
      → j < length earlier → NotThere j below
      → is_among (places_after names earlier ds) j ≡ uses_selected (length above) earlier ds
  place_used j n below [] earlier above is are l out = refl
  place_used j n below (Declaration.Scope type name ∷ ds) earlier above is are l out =
      place_used j n below ds (earlier ++ Declaration.Scope type name ∷ [])
      ((length earlier, name) ∷ above) (has_scope earlier (above ++ (j, n) ∷ below) type name
      is) are.1 (let k = length_push earlier (Declaration.Scope type name) in omega arith) out
  place_used j n below (Declaration.Up ∷ ds) earlier [] is are l out =
      closed_none j ds (earlier ++ Declaration.Up ∷ []) below (has_up earlier (j, n) below is) are.1
      (let k = length_push earlier Declaration.Up in omega arith) out
  place_used j n below (Declaration.Up ∷ ds) earlier (e ∷ above) is are l out =
      place_used j n below ds (earlier ++ Declaration.Up ∷ []) above
      (has_up earlier e (above ++ (j, n) ∷ below) is) are.1
      (let k = length_push earlier Declaration.Up in omega arith) out
  place_used j n below (Declaration.Var v ∷ ds) earlier above is are l out =
      let opens = is.opens in
      let more = place_used j n below ds (earlier ++ Declaration.Var v ∷ []) above
      (has_var earlier (above ++ (j, n) ∷ below) v is) are.1
      (let k = length_push earlier (Declaration.Var v) in omega arith) out in
      let around : list_any (λ i. j == i) (enclosing earlier) ≡ true =
      ap (list_any (λ i. j == i)) opens.are ∙ is_enclosing j n above below in
      after_one j earlier (Declaration.Var v) ds
      ∙ rw more (here (is_selected names earlier (Declaration.Var v)) around)
    where
      or_true : (b : Bool) → (b || true) ≡ true
      or_true true = refl
      or_true false = refl

      here : (b : Bool) → list_any (λ i. j == i) (enclosing earlier) ≡ true
          → (is_among (cond b (length earlier ∷ enclosing earlier) []) j || uses_selected
          (length above) (earlier ++ Declaration.Var v ∷ []) ds)
          ≡ (b || uses_selected (length above) (earlier ++ Declaration.Var v ∷ []) ds)
      here true f = rw (f, or_true (j == length earlier)) refl
      here false f = refl

  -- a scope is marked if and only if a selected variable is in it
  pub scope_mark : (front back : List Declaration) (type name : List ℕ) (s : List Open)
      → HasOpen front s → AreDeclared front (Declaration.Scope type name ∷ back)
      → is_among (marked_places names (front ++ Declaration.Scope type name ∷ back)) (length front)
      ≡ uses_selected 0 (front ++ Declaration.Scope type name ∷ []) back
  unfolding marked_places
  scope_mark front back type name s is are =
      let n = length front in
      let scope = Declaration.Scope type name in
      let opens = is.opens in
      let first : is_among (places_after names [] front) n ≡ false =
      none_any (λ j. n == j) (places_after names [] front)
      (below_other n (places_after names [] front)
      (places_below names n [] front (omega arith))) in
      let low : AllByRecursion (λ i. i < n) (map (λ (e : Open). e.0) s) =
      subst (AllByRecursion (λ i. i < n)) opens.are (enclosing_below front) in
      ap (λ l. is_among l n) (places_split names [] front (scope ∷ back))
      ∙ list_any-append (λ j. n == j) (places_after names [] front)
      (places_after names front (scope ∷ back))
      ∙ rw first (place_used n name s back (front ++ scope ∷ []) [] (has_scope front s type name is)
      are.1 (let k = length_push front scope in omega arith) (apart s low))
    where
      apart : (s : List Open) → AllByRecursion (λ i. i < length front) (map (λ e. e.0) s)
          → NotThere (length front) s
      apart [] h = tt
      apart (e ∷ s) h = (
        ne_eqb (length front) e.0 (λ x. let l = h.0 in absurd (omega arith)),
        apart
            s h.1,
      )

-- each scope has a variable in it
abbrev AllUsed : List Declaration → Type 0
AllUsed [] = ⊤
AllUsed (Declaration.Scope type name ∷ ds) = (uses 0 ds ≡ true) × AllUsed ds
AllUsed (Declaration.Up ∷ ds) = AllUsed ds
AllUsed (Declaration.Var v ∷ ds) = AllUsed ds

-- ---- what is written has such scopes

module _ (names : List (List ℕ)) (all : List Declaration) (declared : AreDeclared [] all) where
  abbrev marked : ℕ → Bool
  marked = marks names all

  abbrev is_marked : Open → Bool
  is_marked e = marked e.0

  var_mark : (earlier ds : List Declaration) (v : Variable) (s : List Open) → HasOpen earlier s
      → AreDeclared earlier (Declaration.Var v ∷ ds) → all ≡ earlier ++ Declaration.Var v ∷ ds
      → marked (length earlier) ≡ is_selected names earlier (Declaration.Var v)
  var_mark earlier ds v s is are e =
      ap (λ (l : List Declaration). is_among (marked_places names l) (length earlier)) e
      ∙ own_mark names earlier ds v s is are (is_selected names earlier (Declaration.Var v)) refl

  up_row : (earlier : List Declaration) (e : Open) (s : List Open) → HasOpen earlier (e ∷ s)
      → row_of own_code marked earlier Declaration.Up ≡ cond (marked e.0) (Declaration.Up ∷ []) []
  up_row earlier e s is = let o = is.opens in ap (λ l. ups_at own_code marked (first_place l)) o.are
      ∙ append-nil (cond (marked e.0) (Declaration.Up ∷ []) [])

  kept_uses : (ds earlier more : List Declaration) (above : List Open) (e : Open)
      (below : List Open) → HasOpen earlier (above ++ e ∷ below) → AreDeclared earlier ds
      → all ≡ earlier ++ ds → uses_selected names (length above) earlier ds ≡ true
      → uses (length (filter is_marked above)) (rows_from own_code marked earlier ds ++ more) ≡ true
  kept_uses [] earlier more above e below is are same u = cc
  kept_uses (Declaration.Scope type name ∷ ds) earlier more above e below is are same u =
      by_mark (marked (length earlier)) refl (kept_uses ds
      (earlier ++ Declaration.Scope type name ∷ []) more ((length earlier, name) ∷ above) e
      below (has_scope earlier (above ++ e ∷ below) type name is) are.1
      (same ∙ sym (append_assoc earlier (Declaration.Scope type name ∷ []) ds)) u)
    where
      rest : List Declaration
      rest = rows_from own_code marked (earlier ++ Declaration.Scope type name ∷ []) ds

      by_mark : (b : Bool) → marked (length earlier) ≡ b
          → uses (length (filter is_marked ((length earlier, name) ∷ above))) (rest ++ more) ≡ true
          → uses (length (filter is_marked above))
          (cond (marked (length earlier)) (Declaration.Scope type name ∷ []) [] ++ rest ++ more)
          ≡ true
      by_mark true m h = rw m (rw m at h)
      by_mark false m h = rw m (rw m at h)
  kept_uses (Declaration.Up ∷ ds) earlier more [] e below is are same u = cc
  kept_uses (Declaration.Up ∷ ds) earlier more (f ∷ above) e below is are same u =
      by_mark (marked f.0) refl (kept_uses ds (earlier ++ Declaration.Up ∷ []) more above e below
      (has_up earlier f (above ++ e ∷ below) is) are.1
      (same ∙ sym (append_assoc earlier (Declaration.Up ∷ []) ds)) u)
    where
      rest : List Declaration
      rest = rows_from own_code marked (earlier ++ Declaration.Up ∷ []) ds

      by_mark : (b : Bool) → marked f.0 ≡ b
          → uses (length (filter is_marked above)) (rest ++ more) ≡ true
          → uses (length (filter is_marked (f ∷ above)))
          (row_of own_code marked earlier Declaration.Up ++ rest ++ more) ≡ true
      by_mark true m h = rw (up_row earlier f (above ++ e ∷ below) is, m) h
      by_mark false m h = rw (up_row earlier f (above ++ e ∷ below) is, m) h
  kept_uses (Declaration.Var v ∷ ds) earlier more above e below is are same u =
      by_mark (is_selected names earlier (Declaration.Var v))
      (var_mark earlier ds v (above ++ e ∷ below) is are same) u
      (λ w. kept_uses ds (earlier ++ Declaration.Var v ∷ []) more above e below
      (has_var earlier (above ++ e ∷ below) v is) are.1
      (same ∙ sym (append_assoc earlier (Declaration.Var v ∷ []) ds)) w)
    where
      rest : List Declaration
      rest = rows_from own_code marked (earlier ++ Declaration.Var v ∷ []) ds

      by_mark : (b : Bool) → marked (length earlier) ≡ b
          → (b || uses_selected names (length above) (earlier ++ Declaration.Var v ∷ []) ds) ≡ true
          → (uses_selected names (length above) (earlier ++ Declaration.Var v ∷ []) ds ≡ true
          → uses (length (filter is_marked above)) (rest ++ more) ≡ true)
          → uses (length (filter is_marked above))
          (cond (marked (length earlier)) (Declaration.Var (with_code own_code marked v) ∷ [])
          [] ++ rest ++ more) ≡ true
      by_mark true m w h = rw m refl
      by_mark false m w h = rw m (h w)

  ups_used : (places : List ℕ) → AllUsed (ups_at own_code marked places)
  ups_used [] = tt
  ups_used (i ∷ places) = by_mark (marked i) (ups_used places)
    where
      by_mark : (b : Bool) → AllUsed (ups_at own_code marked places)
          → AllUsed (cond b (Declaration.Up ∷ []) [] ++ ups_at own_code marked places)
      by_mark true h = h
      by_mark false h = h

  written_used : (ds earlier more : List Declaration) (s : List Open) → HasOpen earlier s
      → AreDeclared earlier ds → all ≡ earlier ++ ds → AllUsed more
      → AllUsed (rows_from own_code marked earlier ds ++ more)
  written_used [] earlier more s is are same h = h
  written_used (Declaration.Scope type name ∷ ds) earlier more s is are same h =
      let scope = Declaration.Scope type name in
      let there = same ∙ sym (append_assoc earlier (scope ∷ []) ds) in
      let opens = has_scope earlier s type name is in
      let mark : marked (length earlier) ≡ uses_selected names 0 (earlier ++ scope ∷ []) ds =
      ap (λ (l : List Declaration). is_among (marked_places names l) (length earlier)) same
      ∙ scope_mark names earlier ds type name s is are in
      by_mark (marked (length earlier)) refl mark
      (kept_uses ds (earlier ++ scope ∷ []) more [] (length earlier, name) s opens are.1 there)
      (written_used ds (earlier ++ scope ∷ []) more ((length earlier, name) ∷ s) opens are.1
      there h)
    where
      rest : List Declaration
      rest = rows_from own_code marked (earlier ++ Declaration.Scope type name ∷ []) ds

      by_mark : (b : Bool) → marked (length earlier) ≡ b
          → marked (length earlier) ≡ uses_selected names 0
          (earlier ++ Declaration.Scope type name ∷ []) ds
          → (uses_selected names 0 (earlier ++ Declaration.Scope type name ∷ []) ds ≡ true
          → uses 0 (rest ++ more) ≡ true)
          → AllUsed (rest ++ more)
          → AllUsed (cond (marked (length earlier)) (Declaration.Scope type name ∷ []) []
          ++ rest ++ more)
      by_mark true m mark u h = rw m (u (sym mark ∙ m), h)
      by_mark false m mark u h = rw m h
  written_used (Declaration.Up ∷ ds) earlier more [] is are same h =
      absurd (let k = open_count earlier [] is in let g = are.0 in omega arith)
  written_used (Declaration.Up ∷ ds) earlier more (e ∷ s) is are same h =
      by_mark (marked e.0) refl (written_used ds (earlier ++ Declaration.Up ∷ []) more s
      (has_up earlier e s is) are.1 (same ∙ sym (append_assoc earlier (Declaration.Up ∷ []) ds))
      h)
    where
      rest : List Declaration
      rest = rows_from own_code marked (earlier ++ Declaration.Up ∷ []) ds

      by_mark : (b : Bool) → marked e.0 ≡ b → AllUsed (rest ++ more)
          → AllUsed (row_of own_code marked earlier Declaration.Up ++ rest ++ more)
      by_mark true m h = rw (up_row earlier e s is, m) h
      by_mark false m h = rw (up_row earlier e s is, m) h
  written_used (Declaration.Var v ∷ ds) earlier more s is are same h =
      by_mark (marked (length earlier)) (written_used ds (earlier ++ Declaration.Var v ∷ []) more s
      (has_var earlier s v is) are.1 (same
      ∙ sym (append_assoc earlier (Declaration.Var v ∷ []) ds)) h)
    where
      rest : List Declaration
      rest = rows_from own_code marked (earlier ++ Declaration.Var v ∷ []) ds

      by_mark : (b : Bool) → AllUsed (rest ++ more)
          → AllUsed (cond b (Declaration.Var (with_code own_code marked v) ∷ []) [] ++ rest ++ more)
      by_mark true h = h
      by_mark false h = h

  pub all_used : AllUsed (written own_code marked all)
  all_used = written_used all [] (ups_at own_code marked (enclosing all)) [] has_none declared refl
      (ups_used (enclosing all))

-- ---- and is written again as it is

module _ (names : List (List ℕ)) (all : List Declaration) (declared : AreDeclared [] all)
    (chosen : (front back : List Declaration) (v : Variable)
    → all ≡ front ++ Declaration.Var v ∷ back → is_selected names front (Declaration.Var v) ≡ true)
  where
    abbrev again : ℕ → Bool
    again = marks names all

    selected_uses : (d : ℕ) (earlier ds : List Declaration) → all ≡ earlier ++ ds → uses d ds ≡ true
        → uses_selected names d earlier ds ≡ true
    selected_uses d earlier [] e u = cc
    selected_uses d earlier (Declaration.Scope type name ∷ ds) e u =
        selected_uses (suc d) (earlier ++ Declaration.Scope type name ∷ []) ds
        (e ∙ sym (append_assoc earlier (Declaration.Scope type name ∷ []) ds)) u
    selected_uses zero earlier (Declaration.Up ∷ ds) e u = cc
    selected_uses (suc d) earlier (Declaration.Up ∷ ds) e u =
        selected_uses d (earlier ++ Declaration.Up ∷ []) ds
        (e ∙ sym (append_assoc earlier (Declaration.Up ∷ []) ds)) u
    selected_uses d earlier (Declaration.Var v ∷ ds) e u = rw (chosen earlier ds v e) refl

    AllMarked : List Open → Type 0
    AllMarked s = AllByRecursion (λ e. again e.0 ≡ true) s

    rows_same : (ds earlier : List Declaration) (s : List Open) → HasOpen earlier s
        → AreDeclared earlier ds → all ≡ earlier ++ ds → AllUsed ds → AllMarked s
        → rows_from own_code again earlier ds ≡ ds
    unfolding AllMarked
    rows_same [] earlier s is are e used m = refl
    rows_same (Declaration.Scope type name ∷ ds) earlier s is are e used m =
        let scope = Declaration.Scope type name in
        let there = e ∙ sym (append_assoc earlier (scope ∷ []) ds) in
        let mark : again (length earlier) ≡ true =
        ap (λ (l : List Declaration). is_among (marked_places names l) (length earlier)) e
        ∙ scope_mark names earlier ds type name s is are
        ∙ selected_uses 0 (earlier ++ scope ∷ []) ds there used.0 in
        rw mark (ap (λ l. scope ∷ l) (rows_same ds (earlier ++ scope ∷ [])
        ((length earlier, name) ∷ s) (has_scope earlier s type name is) are.1 there used.1
        (mark, m)))
    rows_same (Declaration.Up ∷ ds) earlier [] is are e used m =
        absurd (let k = open_count earlier [] is in let g = are.0 in omega arith)
    rows_same (Declaration.Up ∷ ds) earlier (f ∷ s) is are e used m =
        let o = is.opens in
        let row : row_of own_code again earlier Declaration.Up ≡ Declaration.Up ∷ [] =
        ap (λ l. ups_at own_code again (first_place l)) o.are ∙ rw m.0 refl in
        ap (λ l. l ++ rows_from own_code again (earlier ++ Declaration.Up ∷ []) ds) row
        ∙ ap (λ l. Declaration.Up ∷ l) (rows_same ds (earlier ++ Declaration.Up ∷ []) s
        (has_up earlier f s is) are.1 (e ∙ sym (append_assoc earlier (Declaration.Up ∷ []) ds))
        used m.1)
    rows_same (Declaration.Var v ∷ ds) earlier s is are e used m =
        let mark : again (length earlier) ≡ true =
        ap (λ (l : List Declaration). is_among (marked_places names l) (length earlier)) e
        ∙ own_mark names earlier ds v s is are (is_selected names earlier (Declaration.Var v))
        refl ∙ chosen earlier ds v e in
        rw mark (ap (λ l. Declaration.Var v ∷ l)
        (rows_same ds (earlier ++ Declaration.Var v ∷ []) s (has_var earlier s v is) are.1
        (e ∙ sym (append_assoc earlier (Declaration.Var v ∷ []) ds)) used m))

    pub written_same : HasOpen all [] → AllUsed all → written own_code again all ≡ all
    unfolding AllMarked
    written_same closed used =
        let o = closed.opens in
        ap (λ l. rows_from own_code again [] all ++ ups_at own_code again l) o.are
        ∙ append-nil (rows_from own_code again [] all)
        ∙ rows_same all [] [] has_none declared refl used tt
