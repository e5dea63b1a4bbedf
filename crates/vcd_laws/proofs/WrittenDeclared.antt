-- What is written passes the checks of a header, and declares the selected variables with their
-- paths.
use Rattle.vcd_laws.proofs.Cited.{◌≡◌, ℕ, ◌+◌, ◌<◌, ◌≤◌, ◌==◌, Bool, true, false, cond, not, ◌&&◌, ◌||◌, List, [], ◌∷◌, ◌++◌, length, map, filter, filter_map, reverse, bytes_eq, Option, None, refl, sym, ap, ◌∙◌, subst, arith, AllByRecursion, list_all, join_with_byte, append_assoc, append-nil, map-append, length-append, length-map, filter_map-append, and_parts, and_from, ⊤, is_code_byte, each_after, Declaration, Variable, variable_of, variables_of, code_of, open_scopes, enclosing, name_of, path_of, same_flag, first_place, Selected, is_selected, with_path, IsWord, all_front, all_back, all_append, each_after-append, IsToken, IsGoodVariable, AreDeclared, Open, HasOpen, has_none, has_scope, has_up, has_var, open_count, path_is, with_code, ups_at, row_of, rows_from, written}

-- ---- variables that agree

abbrev pub fits : Variable → Variable → Bool
fits v u = not (bytes_eq u.code v.code) || ((u.size == v.size) && same_flag (code_of u).event
    (code_of v).event)

-- each of these variables agrees with this one
abbrev pub AllFit : Variable → List Variable → Type 0
AllFit v us = AllByRecursion (λ u. fits v u ≡ true) us

pub all_true : {X : Type 0} (test : X → Bool) (xs : List X) → list_all test xs ≡ true
    → AllByRecursion (λ x. test x ≡ true) xs
all_true test [] h = tt
all_true test (x ∷ xs) h = let a = and_parts (test x) (list_all test xs) h in
    (a.0, all_true test xs a.1)

pub true_all : {X : Type 0} (test : X → Bool) (xs : List X) → AllByRecursion (λ x. test x ≡ true) xs
    → list_all test xs ≡ true
true_all test [] h = refl
true_all test (x ∷ xs) h = and_from (test x) (list_all test xs) h.0 (true_all test xs h.1)

-- ---- new codes

-- codes of such variables may be replaced, after these other variables
pub record IsRenaming (rename : List ℕ → List ℕ) (marked : ℕ → Bool) (M : Variable → Type 0)
    (outer : List Variable) : Type 0 where
  pub words : (v : Variable) → M v → IsWord (rename v.code)
  pub bytes : (v : Variable) → M v → list_all is_code_byte (rename v.code) ≡ true
  pub outside : (v : Variable) → M v → AllFit (with_code rename marked v) outer
  pub inside : (u v : Variable) → M u → M v → fits v u ≡ true
      → fits (with_code rename marked v) (with_code rename marked u) ≡ true

-- the paths inside some more scopes
abbrev pub IsInside : List (List ℕ) → (List ℕ → List ℕ) → Type 0
IsInside base inner = (ns : List (List ℕ)) (n : List ℕ)
    → join_with_byte 46 (reverse (ns ++ base) ++ n ∷ [])
    ≡ inner (join_with_byte 46 (reverse ns ++ n ∷ []))

pub AreDeclared-append : (earlier xs ys : List Declaration) → AreDeclared earlier xs
    → AreDeclared (earlier ++ xs) ys → AreDeclared earlier (xs ++ ys)
AreDeclared-append earlier [] ys h g = rw append-nil at g
AreDeclared-append earlier (x ∷ xs) ys h g = (
  h.0,
  AreDeclared-append (earlier ++ x ∷ []) xs ys h.1
      (subst (λ (l : List Declaration). AreDeclared l ys)
      (sym (append_assoc earlier (x ∷ []) xs)) g),
)

pub filter_fewer : {X : Type 0} (test : X → Bool) (xs : List X) → length (filter test xs) ≤ length xs
filter_fewer test [] = omega arith
filter_fewer test (x ∷ xs) = by_test (test x) (filter_fewer test xs)
  where
    by_test : (b : Bool) → length (filter test xs) ≤ length xs
        → length (cond b (x ∷ filter test xs) (filter test xs)) ≤ length (x ∷ xs)
    by_test true h = omega arith
    by_test false h = omega arith

module _ (rename : List ℕ → List ℕ) (marked : ℕ → Bool) (names : List (List ℕ))
    (M : Variable → Type 0) (outer : List Variable) (base : List (List ℕ)) (inner : List ℕ → List ℕ)
    (renames : IsRenaming rename marked M outer) (inside : IsInside base inner) where
  abbrev pub is_marked : Open → Bool
  is_marked e = marked e.0

  -- the variable is marked if it is selected, and then the scopes around it are
  pub record IsMarkedRight (earlier : List Declaration) (v : Variable) : Type 0 where
    pub own : marked (length earlier) ≡ is_selected names earlier (Declaration.Var v)
    pub around : is_selected names earlier (Declaration.Var v) ≡ true
        → AllByRecursion (λ i. marked i ≡ true) (enclosing earlier)

  -- the declaration can be written
  abbrev pub IsReady : List Declaration → Declaration → Type 0
  IsReady earlier (Declaration.Scope type name) =
      (open_scopes earlier + length base < 1000) × IsToken type × IsToken name
  IsReady earlier Declaration.Up = 0 < open_scopes earlier
  IsReady earlier (Declaration.Var v) = IsGoodVariable earlier v × M v × IsMarkedRight earlier v

  abbrev pub AreReady : List Declaration → List Declaration → Type 0
  AreReady earlier [] = ⊤
  AreReady earlier (d ∷ ds) = IsReady earlier d × AreReady (earlier ++ d ∷ []) ds

  -- a selected variable as it is written
  abbrev pub image : Selected → Selected
  image s = record { path = inner s.path; variable = with_code rename marked s.variable }

  -- what is written so far, w, has open the marked ones of the open scopes, within the outer ones
  pub record Stands (earlier w : List Declaration) (s t : List Open) : Type 0 where
    pub opens : HasOpen earlier s
    pub wrote : HasOpen w t
    pub same : map (λ e. e.1) t ≡ map (λ e. e.1) (filter is_marked s) ++ base
    pub agreed : (v : Variable) → M v → AllFit v (variables_of earlier)
        → AllFit (with_code rename marked v) (variables_of w)

  few_open : (earlier w : List Declaration) (s t : List Open) → Stands earlier w s t
      → open_scopes w ≤ open_scopes earlier + length base
  few_open earlier w s t at =
      let a = open_count earlier s at.opens in
      let b = open_count w t at.wrote in
      let c = length-map t (λ (e : Open). e.1) in
      let d = ap length at.same in
      let e = length-append (map (λ (e : Open). e.1) (filter is_marked s)) base in
      let f = length-map (filter is_marked s) (λ (e : Open). e.1) in
      let g = filter_fewer is_marked s in
      omega arith

  -- one declaration more
  record Steps (earlier : List Declaration) (d : Declaration) (w : List Declaration) : Type 0 where
    declared : AreDeclared w (row_of rename marked earlier d)
    chosen : filter_map (λ o. o) (each_after (with_path []) w (row_of rename marked earlier d))
        ≡ map image (filter_map (λ o. o) (with_path names earlier d ∷ []))
    s : List Open
    t : List Open
    stands : Stands (earlier ++ d ∷ []) (w ++ row_of rename marked earlier d) s t

  no_variable : (ds : List Declaration) (d : Declaration) → variable_of d ≡ None
      → variables_of (ds ++ d ∷ []) ≡ variables_of ds
  no_variable ds d e = filter_map-append variable_of ds (d ∷ [])
      ∙ rw e (append-nil (variables_of ds))

  one_variable : (ds : List Declaration) (v : Variable)
      → variables_of (ds ++ Declaration.Var v ∷ []) ≡ variables_of ds ++ v ∷ []
  one_variable ds v = filter_map-append variable_of ds (Declaration.Var v ∷ [])

  -- nothing is written
  passes_over : (earlier : List Declaration) (d : Declaration) (w : List Declaration)
      (s t s' : List Open) → Stands earlier w s t → HasOpen (earlier ++ d ∷ []) s'
      → map (λ e. e.1) (filter is_marked s') ≡ map (λ e. e.1) (filter is_marked s)
      → row_of rename marked earlier d ≡ []
      → filter_map (λ o. o) (with_path names earlier d ∷ []) ≡ [] → Steps earlier d w
  passes_over earlier d w s t s' at opens same none nothing = record {
    declared = rw none tt;
    chosen = rw (none, nothing) refl;
    s = s';
    t = t;
    stands = rw (none, append-nil) (record {
      opens = opens;
      wrote = at.wrote;
      same = at.same ∙ ap (λ l. l ++ base) (sym same);
      agreed = λ v m all. at.agreed v m (all_front (λ u. fits v u ≡ true) (variables_of earlier)
          (variables_of (d ∷ [])) (rw filter_map-append at all));
    });
  }

  step_scope : (earlier : List Declaration) (type name : List ℕ) (w : List Declaration)
      (s t : List Open) (b : Bool) → marked (length earlier) ≡ b → Stands earlier w s t
      → IsReady earlier (Declaration.Scope type name)
      → Steps earlier (Declaration.Scope type name) w
  step_scope earlier type name w s t false e at ready =
      passes_over earlier (Declaration.Scope type name) w s t ((length earlier, name) ∷ s) at
      (has_scope earlier s type name at.opens) (rw e refl) (rw e refl) refl
  step_scope earlier type name w s t true e at ready =
      let few = few_open earlier w s t at in
      let low = ready.0 in
      record {
        declared = rw e (((omega arith), ready.1, ready.2), tt);
        chosen = rw e refl;
        s = (length earlier, name) ∷ s;
        t = (length w, name) ∷ t;
        stands = rw e (record {
          opens = has_scope earlier s type name at.opens;
          wrote = has_scope w t type name at.wrote;
          same = rw e (ap (λ l. name ∷ l) at.same);
          agreed = λ v m all. rw (no_variable w (Declaration.Scope type name) refl)
              (at.agreed v m (rw (no_variable earlier (Declaration.Scope type name) refl) at all));
        });
      }

  tail_same : (e : Open) (t : List Open) (n : List ℕ) (l : List (List ℕ))
      → map (λ (x : Open). x.1) (e ∷ t) ≡ n ∷ l → map (λ (x : Open). x.1) t ≡ l
  tail_same e t n l h = cc

  up_written : (earlier w : List Declaration) (e : Open) (s t : List Open) → marked e.0 ≡ true
      → row_of rename marked earlier Declaration.Up ≡ Declaration.Up ∷ []
      → Stands earlier w (e ∷ s) t → Steps earlier Declaration.Up w
  up_written earlier w e s [] m row at = let h = at.same in let g = rw m at h in cc
  up_written earlier w e s (f ∷ t) m row at = record {
    declared = rw row ((let n = open_count w (f ∷ t) at.wrote in omega arith), tt);
    chosen = rw row refl;
    s = s;
    t = t;
    stands = rw row (record {
      opens = has_up earlier e s at.opens;
      wrote = has_up w f t at.wrote;
      same = tail_same f t e.1 (map (λ (x : Open). x.1) (filter is_marked s) ++ base)
          (at.same ∙ rw m refl);
      agreed = λ v n all. rw (no_variable w Declaration.Up refl)
          (at.agreed v n (rw (no_variable earlier Declaration.Up refl) at all));
    });
  }

  step_up : (earlier w : List Declaration) (s t : List Open) → Stands earlier w s t
      → 0 < open_scopes earlier → Steps earlier Declaration.Up w
  step_up earlier w [] t at some = absurd (let n = open_count earlier [] at.opens in omega arith)
  step_up earlier w (e ∷ s) t at some = by_mark (marked e.0) refl
    where
      row_is : (b : Bool) → marked e.0 ≡ b
          → row_of rename marked earlier Declaration.Up ≡ cond b (Declaration.Up ∷ []) []
      row_is b m = let h = at.opens in let o = h.opens in
          rw (o.are, m) (append-nil (cond b (Declaration.Up ∷ []) []))

      by_mark : (b : Bool) → marked e.0 ≡ b → Steps earlier Declaration.Up w
      by_mark true m = up_written earlier w e s t m (row_is true m) at
      by_mark false m = passes_over earlier Declaration.Up w (e ∷ s) t s at
          (has_up earlier e s at.opens) (rw m refl) (row_is false m) refl

  filter_all : (s : List Open) → AllByRecursion (λ i. marked i ≡ true) (map (λ e. e.0) s)
      → filter is_marked s ≡ s
  filter_all [] h = refl
  filter_all (e ∷ s) h = rw h.0 (ap (λ l. e ∷ l) (filter_all s h.1))

  -- the path of a selected variable, if it is written
  path_written : (earlier w : List Declaration) (s t : List Open) (v : Variable)
      → Stands earlier w s t → AllByRecursion (λ i. marked i ≡ true) (enclosing earlier)
      → path_of w (Declaration.Var (with_code rename marked v))
      ≡ inner (path_of earlier (Declaration.Var v))
  path_written earlier w s t v at all =
      let opens = at.opens in
      let o = opens.opens in
      let whole = filter_all s (subst (AllByRecursion (λ i. marked i ≡ true)) o.are all) in
      let n = name_of (Declaration.Var v) in
      path_is w t (Declaration.Var (with_code rename marked v)) at.wrote
      ∙ ap (λ l. join_with_byte 46 (reverse l ++ n ∷ []))
      (at.same ∙ ap (λ l. map (λ (e : Open). e.1) l ++ base) whole)
      ∙ inside (map (λ (e : Open). e.1) s) n
      ∙ ap inner (sym (path_is earlier s (Declaration.Var v) at.opens))

  step_var : (earlier : List Declaration) (v : Variable) (w : List Declaration) (s t : List Open)
      (b : Bool) → marked (length earlier) ≡ b → Stands earlier w s t
      → IsReady earlier (Declaration.Var v) → Steps earlier (Declaration.Var v) w
  step_var earlier v w s t false e at ready =
      let right = ready.2 in
      let none : is_selected names earlier (Declaration.Var v) ≡ false = sym right.own ∙ e in
      passes_over earlier (Declaration.Var v) w s t s at (has_var earlier s v at.opens) refl
      (rw e refl) (rw none refl)
  step_var earlier v w s t true e at ready =
      let right = ready.2 in
      let good = ready.0 in
      let some : is_selected names earlier (Declaration.Var v) ≡ true = sym right.own ∙ e in
      let path = path_written earlier w s t v at (right.around some) in
      let x = with_code rename marked v in
      let all : AllFit v (variables_of earlier) =
      all_true (fits v) (variables_of earlier) good.agreed in
      record {
        declared = rw e (
          record {
            type = good.type;
            other = good.other;
            some = good.some;
            small = good.small;
            code = renames.words v ready.1;
            bytes = renames.bytes v ready.1;
            agreed = true_all (fits x) (variables_of w) (at.agreed v ready.1 all);
            words = good.words;
            none = good.none;
            filled = good.filled;
          },
          tt,
        );
        chosen = rw (e, some, path) refl;
        s = s;
        t = t;
        stands = rw e (record {
          opens = has_var earlier s v at.opens;
          wrote = has_var w t x at.wrote;
          same = at.same;
          agreed = λ u m fit.
              let parts = rw one_variable at fit in
              rw (one_variable w x) (all_append (λ y. fits (with_code rename marked u) y ≡ true)
              (variables_of w) (x ∷ [])
              (at.agreed u m (all_front (λ y. fits u y ≡ true) (variables_of earlier) (v ∷ [])
              parts)) (
                renames.inside v u ready.1 m (all_back (λ y. fits u y ≡ true) (variables_of earlier)
                    (v ∷ []) parts).0,
                tt,
              ));
        });
      }

  one_step : (earlier : List Declaration) (d : Declaration) (w : List Declaration) (s t : List Open)
      → Stands earlier w s t → IsReady earlier d → Steps earlier d w
  one_step earlier (Declaration.Scope type name) w s t at ready =
      step_scope earlier type name w s t (marked (length earlier)) refl at ready
  one_step earlier Declaration.Up w s t at ready = step_up earlier w s t at ready
  one_step earlier (Declaration.Var v) w s t at ready =
      step_var earlier v w s t (marked (length earlier)) refl at ready

  -- ---- all of them

  abbrev pub selected_after : List (List ℕ) → List Declaration → List Declaration → List Selected
  selected_after wanted earlier ds = filter_map (λ o. o) (each_after (with_path wanted) earlier ds)

  pub record Walks (earlier ds w : List Declaration) : Type 0 where
    pub declared : AreDeclared w (rows_from rename marked earlier ds)
    pub chosen : selected_after [] w (rows_from rename marked earlier ds)
        ≡ map image (selected_after names earlier ds)
    pub s : List Open
    pub t : List Open
    pub stands : Stands (earlier ++ ds) (w ++ rows_from rename marked earlier ds) s t

  selected_after-append : (wanted : List (List ℕ)) (earlier xs ys : List Declaration)
      → selected_after wanted earlier (xs ++ ys) ≡ selected_after wanted earlier xs
      ++ selected_after wanted (earlier ++ xs) ys
  selected_after-append wanted earlier xs ys =
      ap (filter_map (λ o. o)) (each_after-append (with_path wanted) earlier xs ys)
      ∙ filter_map-append (λ (o : Option Selected). o) (each_after (with_path wanted) earlier xs)
      (each_after (with_path wanted) (earlier ++ xs) ys)

  pub walks : (ds earlier w : List Declaration) (s t : List Open) → Stands earlier w s t
      → AreReady earlier ds → Walks earlier ds w
  walks [] earlier w s t at ready =
      record {
        declared = tt;
        chosen = refl;
        s = s;
        t = t;
        stands = rw (append-nil earlier, append-nil w) at;
      }
  walks (d ∷ ds) earlier w s t at ready =
      let one = one_step earlier d w s t at ready.0 in
      let row = row_of rename marked earlier d in
      let rows = rows_from rename marked (earlier ++ d ∷ []) ds in
      let more = walks ds (earlier ++ d ∷ []) (w ++ row) one.s one.t one.stands ready.1 in
      record {
        declared = AreDeclared-append w row rows one.declared more.declared;
        chosen = selected_after-append [] w row rows
            ∙ ap (λ l. l ++ selected_after [] (w ++ row) rows) one.chosen
            ∙ ap (λ l. map image (selected_after names earlier (d ∷ [])) ++ l) more.chosen
            ∙ sym (map-append image (selected_after names earlier (d ∷ []))
            (selected_after names (earlier ++ d ∷ []) ds))
            ∙ ap (map image) (sym (selected_after-append names earlier (d ∷ []) ds));
        s = more.s;
        t = more.t;
        stands = subst (λ (l : List Declaration). Stands l (w ++ (row ++ rows)) more.s more.t)
            (append_assoc earlier (d ∷ []) ds)
            (subst (λ (l : List Declaration). Stands (earlier ++ d ∷ [] ++ ds) l more.s more.t)
            (append_assoc w row rows) more.stands);
      }

  -- ---- and the scopes that are left open are closed

  record Closes (w : List Declaration) (s : List Open) : Type 0 where
    declared : AreDeclared w (ups_at rename marked (map (λ e. e.0) s))
    chosen : selected_after [] w (ups_at rename marked (map (λ e. e.0) s)) ≡ []
    vars : variables_of (ups_at rename marked (map (λ e. e.0) s)) ≡ []
    few : length (ups_at rename marked (map (λ e. e.0) s)) ≤ length s
    t : List Open
    wrote : HasOpen (w ++ ups_at rename marked (map (λ e. e.0) s)) t
    same : map (λ e. e.1) t ≡ base

  closes_more : (w : List Declaration) (e f : Open) (s t : List Open) → HasOpen w (f ∷ t)
      → marked e.0 ≡ true → Closes (w ++ Declaration.Up ∷ []) s → Closes w (e ∷ s)
  closes_more w e f s t is m rest = record {
    declared = rw m ((let n = open_count w (f ∷ t) is in omega arith), rest.declared);
    chosen = rw m rest.chosen;
    vars = rw m rest.vars;
    few = rw m (let n = rest.few in omega arith);
    t = rest.t;
    wrote = rw m (subst (λ (l : List Declaration). HasOpen l rest.t)
        (append_assoc w (Declaration.Up ∷ []) (ups_at rename marked (map (λ (x : Open). x.0) s)))
        rest.wrote);
    same = rest.same;
  }

  closes_one : (w : List Declaration) (e : Open) (s t : List Open) → HasOpen w t → marked e.0 ≡ true
      → map (λ x. x.1) t ≡ map (λ x. x.1) (filter is_marked (e ∷ s)) ++ base
      → ((w : List Declaration) (t : List Open) → HasOpen w t
      → map (λ x. x.1) t ≡ map (λ x. x.1) (filter is_marked s) ++ base → Closes w s)
      → Closes w (e ∷ s)
  closes_one w e s [] is m same more = let g = rw m at same in cc
  closes_one w e s (f ∷ t) is m same more =
      closes_more w e f s t is m (more (w ++ Declaration.Up ∷ []) t (has_up w f t is)
      (tail_same f t e.1 (map (λ (x : Open). x.1) (filter is_marked s) ++ base)
      (same ∙ rw m refl)))

  closes : (s : List Open) (w : List Declaration) (t : List Open) → HasOpen w t
      → map (λ e. e.1) t ≡ map (λ e. e.1) (filter is_marked s) ++ base → Closes w s
  closes [] w t is same = record {
    declared = tt;
    chosen = refl;
    vars = refl;
    few = omega arith;
    t = t;
    wrote = rw append-nil is;
    same = same;
  }
  closes (e ∷ s) w t is same = by_mark (marked e.0) refl (closes s)
    where
      passed_over : marked e.0 ≡ false → Closes w s → Closes w (e ∷ s)
      passed_over m more = record {
        declared = rw m more.declared;
        chosen = rw m more.chosen;
        vars = rw m more.vars;
        few = rw m (let n = more.few in omega arith);
        t = more.t;
        wrote = rw m more.wrote;
        same = more.same;
      }

      by_mark : (b : Bool) → marked e.0 ≡ b
          → ((w : List Declaration) (t : List Open) → HasOpen w t
          → map (λ x. x.1) t ≡ map (λ x. x.1) (filter is_marked s) ++ base → Closes w s)
          → Closes w (e ∷ s)
      by_mark true m more = closes_one w e s t is m same more
      by_mark false m more = passed_over m (more w t is (same ∙ rw m refl))

  row_few : (earlier : List Declaration) (d : Declaration)
      → length (row_of rename marked earlier d) ≤ 1
  row_few earlier (Declaration.Scope type name) = by_mark (marked (length earlier))
    where
      by_mark : (b : Bool) → length (cond b (Declaration.Scope type name ∷ []) []) ≤ 1
      by_mark true = omega arith
      by_mark false = omega arith
  row_few earlier (Declaration.Var v) = by_mark (marked (length earlier))
    where
      by_mark : (b : Bool) → length (cond b (Declaration.Var (with_code rename marked v) ∷ []) [])
          ≤ 1
      by_mark true = omega arith
      by_mark false = omega arith
  row_few earlier Declaration.Up = by_places (enclosing earlier)
    where
      by_mark : (b : Bool) → length (cond b (Declaration.Up ∷ []) [] ++ []) ≤ 1
      by_mark true = omega arith
      by_mark false = omega arith

      by_places : (places : List ℕ) → length (ups_at rename marked (first_place places)) ≤ 1
      by_places [] = omega arith
      by_places (p ∷ ps) = by_mark (marked p)

  rows_few : (ds earlier : List Declaration)
      → length (rows_from rename marked earlier ds) ≤ length ds
  rows_few [] earlier = omega arith
  rows_few (d ∷ ds) earlier =
      let a = row_few earlier d in
      let b = rows_few ds (earlier ++ d ∷ []) in
      let c = length-append (row_of rename marked earlier d)
      (rows_from rename marked (earlier ++ d ∷ []) ds) in
      omega arith

  -- all that is written, after w
  pub record IsWritten (w ds : List Declaration) : Type 0 where
    pub declared : AreDeclared w (written rename marked ds)
    pub chosen : selected_after [] w (written rename marked ds)
        ≡ map image (selected_after names [] ds)
    pub agreed : (v : Variable) → M v → AllFit v (variables_of ds)
        → AllFit (with_code rename marked v) (variables_of (w ++ written rename marked ds))
    pub few : length (written rename marked ds) ≤ length ds + open_scopes ds
    pub t : List Open
    pub wrote : HasOpen (w ++ written rename marked ds) t
    pub same : map (λ e. e.1) t ≡ base

  record IsClosed (w ds ups : List Declaration) : Type 0 where
    declared : AreDeclared w (rows_from rename marked [] ds ++ ups)
    chosen : selected_after [] w (rows_from rename marked [] ds ++ ups)
        ≡ map image (selected_after names [] ds)
    agreed : (v : Variable) → M v → AllFit v (variables_of ds)
        → AllFit (with_code rename marked v) (variables_of
        (w ++ (rows_from rename marked [] ds ++ ups)))
    few : length (rows_from rename marked [] ds ++ ups) ≤ length ds + open_scopes ds
    t : List Open
    wrote : HasOpen (w ++ (rows_from rename marked [] ds ++ ups)) t
    same : map (λ e. e.1) t ≡ base

  pub is_written : (w ds : List Declaration) (t : List Open) → HasOpen w t → map (λ e. e.1) t ≡ base
      → variables_of w ≡ outer → AreReady [] ds → IsWritten w ds
  is_written w ds t is same vars ready =
      let start : Stands [] w [] t = record {
        opens = has_none;
        wrote = is;
        same = same;
        agreed =
            λ v m all. subst (AllFit (with_code rename marked v)) (sym vars)
            (renames.outside v m);
      } in
      let walk = walks ds [] w [] t start ready in
      let rows = rows_from rename marked [] ds in
      let opens = walk.stands.opens in
      let o = opens.opens in
      let end = closes walk.s (w ++ rows) walk.t walk.stands.wrote walk.stands.same in
      let ups = ups_at rename marked (map (λ (e : Open). e.0) walk.s) in
      let all : IsClosed w ds ups = record {
        declared = AreDeclared-append w rows ups walk.declared end.declared;
        chosen = selected_after-append [] w rows ups
            ∙ ap (λ l. selected_after [] w rows ++ l) end.chosen
            ∙ append-nil (selected_after [] w rows) ∙ walk.chosen;
        agreed = λ v m all. subst (AllFit (with_code rename marked v))
            (sym (ap variables_of (sym (append_assoc w rows ups))
            ∙ filter_map-append variable_of (w ++ rows) ups
            ∙ ap (λ l. variables_of (w ++ rows) ++ l) end.vars
            ∙ append-nil (variables_of (w ++ rows)))) (walk.stands.agreed v m all);
        few = let a = length-append rows ups in let b = rows_few ds [] in let c = end.few in
            let d = open_count ds walk.s opens in omega arith;
        t = end.t;
        wrote = subst (λ (l : List Declaration). HasOpen l end.t) (append_assoc w rows ups)
            end.wrote;
        same = end.same;
      } in
      let closed : IsClosed w ds (ups_at rename marked (enclosing ds)) =
      subst (λ (l : List ℕ). IsClosed w ds (ups_at rename marked l)) (sym o.are) all in
      record {
        declared = closed.declared;
        chosen = closed.chosen;
        agreed = closed.agreed;
        few = closed.few;
        t = closed.t;
        wrote = closed.wrote;
        same = closed.same;
      }
