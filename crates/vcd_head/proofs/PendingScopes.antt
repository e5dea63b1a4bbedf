-- The scopes of a merged head, whose lines are withheld until a variable is declared inside them.
use Rattle.vcd_head.proofs.Cited.{◌≡◌, ℕ, zero, suc, ◌+◌, ◌-◌, ◌^◌, ◌<◌, ◌≤◌, ◌==◌, Bool, true, false, cond, ◌||◌, List, [], ◌∷◌, ◌++◌, length, take, drop, reverse, flat_map, slice_get, Option, Some, refl, sym, ap, subst, ◌∙◌, arith, AllByRecursion, concat, Appends, take-length, flat_map-append, append_assoc, append-nil, length-drop, length-take, length_push, reverse-append, take-append-drop, list_any-append, each, each_after, Declaration, Variable, Header, row_line, up_line, up_lines_at, var_line, is_among, around_marks, below_other, none_any, places_after, places_below, places_split, enclosing-scope, enclosing-up, enclosing-var, enclosing_below, innermost, AppendsSome, appends-first, appends-none, appends-some, appends-twice, IsBehind, closing, due, numbered, opening, opening_of, openings, pending_behind, written_behind, GivesNext, LeavesScopes, Enclosing, Kind, Row, HeadShown, IsRow, Views, row_of}
use Rattle.vcd_model.specs.Declarations.{enclosing}
use Rattle.vcd_model.specs.HeadText.{rows_text}
use Rattle.vcd_model.specs.Selection.{marked_places}
use Rattle.vcd_view.specs.declared.view.Kind.TheVariants as kind
use Rattle.vcd_head.proofs.EnclosingLemmas.{few_around}
use Rattle.vcd_head.proofs.PathLemmas.{scope_at}
use Rattle.vcd_head.proofs.WriteLemmas.{front-length, lines-append, lines-next}
use Rattle.vcd_head.proofs.SelectionLemmas.{in_parts, marked_is, none_after, one_on}

-- ---- lists

all_take : (P : ℕ → Type 0) (n : ℕ) (xs : List ℕ) → AllByRecursion P xs → AllByRecursion P (take n xs)
all_take P zero xs h = tt
all_take P (suc n) [] h = tt
all_take P (suc n) (x ∷ xs) h = (h.0, all_take P n xs h.1)

all_lower : (m n : ℕ) (xs : List ℕ) → m ≤ n → AllByRecursion (λ x. x < m) xs → AllByRecursion (λ x. x < n) xs
all_lower m n [] l h = tt
all_lower m n (x ∷ xs) l h = let first = h.0 in (omega arith, all_lower m n xs l h.1)

-- ---- which scopes have a variable

-- the index of a variable is marked, and those of the scopes around it
var_marks : (ds : List Declaration) (i : ℕ) (v : Variable) → slice_get ds i ≡ Some (Declaration.Var v)
    → AllByRecursion (λ p. is_among (marked_places [] ds) p ≡ true) (i ∷ enclosing (take i ds))
var_marks ds i v at =
    let front = take i ds in (
      marked_is [] ds i v at,
      subst (λ (l : List Declaration). AllByRecursion (λ p. is_among (marked_places [] l) p ≡ true) (enclosing front))
          (sym (in_parts ds i (Declaration.Var v) at)) (around_marks [] front (drop (i + 1) ds) v refl),
    )

-- a scope, or the end of one, marks nothing
scope_marks : (ds : List Declaration) (i : ℕ) (type name : List ℕ) → slice_get ds i ≡ Some (Declaration.Scope type name) → marked_places [] (take (i + 1) ds) ≡ marked_places [] (take i ds)
unfolding marked_places
scope_marks ds i type name at = ap (places_after [] []) (one_on ds i (Declaration.Scope type name) at)
    ∙ places_split [] [] (take i ds) (Declaration.Scope type name ∷ []) ∙ append-nil (places_after [] [] (take i ds))

up_marks : (ds : List Declaration) (i : ℕ) → slice_get ds i ≡ Some Declaration.Up → marked_places [] (take (i + 1) ds) ≡ marked_places [] (take i ds)
unfolding marked_places
up_marks ds i at = ap (places_after [] []) (one_on ds i Declaration.Up at) ∙ places_split [] [] (take i ds) (Declaration.Up ∷ []) ∙ append-nil (places_after [] [] (take i ds))

-- nor is a declaration marked by those before it
not_yet : (ds : List Declaration) (i : ℕ) → is_among (marked_places [] (take i ds)) i ≡ false
unfolding marked_places
not_yet ds i =
    let positions = places_after [] [] (take i ds) in
    none_any (λ j. i == j) positions (below_other i positions (places_below [] i [] (take i ds) (omega (arith, length-take i ds))))

-- a scope without a variable that is closed is not marked at all
never : (ds : List Declaration) (i p : ℕ) (around : List ℕ) → slice_get ds i ≡ Some Declaration.Up → enclosing (take i ds) ≡ p ∷ around
    → is_among (marked_places [] (take i ds)) p ≡ false → is_among (marked_places [] ds) p ≡ false
unfolding marked_places
never ds i p around at are_open none =
    let front = take i ds in
    let e = take (i + 1) ds in
    let rest = drop (i + 1) ds in
    let inner = innermost front p around are_open in
    let more = one_on ds i Declaration.Up at in
    let within : p < length e = omega (arith, inner.before, ap length more, length_push front Declaration.Up) in
    let outer : enclosing e ≡ around = ap enclosing more ∙ enclosing-up front ∙ ap (drop 1) are_open in
    let below : AllByRecursion (λ j. j < length (take p front)) around = subst (AllByRecursion (λ j. j < length (take p front))) inner.outer (enclosing_below (take p front)) in
    let lower : AllByRecursion (λ j. j < p) around = all_lower (length (take p front)) p around (omega (arith, length-take p front)) below in
    let gone : is_among (enclosing e) p ≡ false = ap (λ ps. is_among ps p) outer ∙ none_any (λ j. p == j) around (below_other p around lower) in
    let first : is_among (places_after [] [] e) p ≡ false = ap (λ ps. is_among ps p) (up_marks ds i at) ∙ none in
    ap (λ l. is_among (places_after [] [] l) p) (sym (take-append-drop (i + 1) ds)) ∙ ap (λ ps. is_among ps p) (places_split [] [] e rest)
    ∙ list_any-append (λ j. p == j) (places_after [] [] e) (places_after [] e rest) ∙ ap (λ b. b || is_among (places_after [] e rest) p) first ∙ none_after [] e rest p within gone

-- ---- lines that are withheld

-- the lines that open those of these scopes that are marked, of which the innermost is the first
abbrev pub withheld : (ℕ → Bool) → List Declaration → List ℕ → List ℕ
withheld m ds [] = []
withheld m ds (p ∷ ps) = withheld m ds ps ++ cond (m p) (opening ds p) []

all_withheld : (m : ℕ → Bool) (ds : List Declaration) (ps : List ℕ) → AllByRecursion (λ p. m p ≡ true) ps → withheld m ds ps ≡ openings ds ps
all_withheld m ds [] h = refl
all_withheld m ds (p ∷ ps) h =
    ap (λ b. withheld m ds ps ++ cond b (opening ds p) []) h.0 ∙ ap (λ l. l ++ opening ds p) (all_withheld m ds ps h.1)
    ∙ sym (ap (flat_map (opening ds)) (reverse-append (p ∷ []) ps) ∙ flat_map-append (opening ds) (reverse ps) (p ∷ []) ∙ ap (λ l. openings ds ps ++ l) (append-nil (opening ds p)))

none_withheld : (m : ℕ → Bool) (ds : List Declaration) (ps : List ℕ) → AllByRecursion (λ p. m p ≡ false) ps → withheld m ds ps ≡ []
none_withheld m ds [] h = refl
none_withheld m ds (p ∷ ps) h = ap (λ b. withheld m ds ps ++ cond b (opening ds p) []) h.0 ∙ append-nil (withheld m ds ps) ∙ none_withheld m ds ps h.1

none_closed : (m : ℕ → Bool) (ps : List ℕ) → AllByRecursion (λ p. m p ≡ false) ps → up_lines_at m ps ≡ []
none_closed m [] h = refl
none_closed m (p ∷ ps) h = ap (λ b. cond b up_line [] ++ up_lines_at m ps) h.0 ∙ none_closed m ps h.1

all_closed : (m : ℕ → Bool) (ps : List ℕ) → AllByRecursion (λ p. m p ≡ true) ps → up_lines_at m ps ≡ flat_map (λ p. up_line) ps
all_closed m [] h = refl
all_closed m (p ∷ ps) h = ap (λ b. cond b up_line [] ++ up_lines_at m ps) h.0 ∙ ap (λ l. up_line ++ l) (all_closed m ps h.1)

-- ---- row by row

-- whether an index is marked
abbrev pub is_kept : Header → ℕ → Bool
is_kept h = is_among (marked_places [] h.declarations)

-- the line of a row, among all that are written in the end
abbrev pub line_in : ℕ → Header → List Declaration → Declaration → List ℕ
line_in first h = row_line (numbered first h) (is_among (marked_places [] h.declarations))

-- after i rows this text is written, and of the open scopes `pending` are pending and
-- `written` are written
pub record IsWritten (first : ℕ) (h : Header) (i pending written : ℕ) (text : List ℕ) : Type 0 where
  pub scopes : List ℕ
  pub are : enclosing (take i h.declarations) ≡ scopes
  pub count : length scopes ≡ pending + written
  pub unmet : AllByRecursion (λ p. is_among (marked_places [] (take i h.declarations)) p ≡ false) (take pending scopes)
  pub met : AllByRecursion (λ p. is_kept h p ≡ true) (drop pending scopes)
  pub split : concat (each (line_in first h) (take i h.declarations)) ≡ text ++ withheld (is_kept h) h.declarations (take pending scopes)

pub nothing_written : (first : ℕ) (h : Header) → IsWritten first h 0 0 0 []
unfolding enclosing
nothing_written first h = record { scopes = []; are = refl; count = refl; unmet = tt; met = tt; split = refl }

module _ (first : ℕ) (h : Header) (i pending written : ℕ) (text : List ℕ) (w : IsWritten first h i pending written text) where
  abbrev front : List Declaration
  front = take i h.declarations

  -- a scope is one more that is pending
  scope_next : (type name : List ℕ) → slice_get h.declarations i ≡ Some (Declaration.Scope type name) → IsWritten first h (i + 1) (suc pending) written (text ++ [])
  scope_next type name at =
      let m = is_kept h in
      let D = h.declarations in
      let own : opening D i ≡ opening_of (Some (Declaration.Scope type name)) = ap opening_of at in
      let n = front-length D i (Declaration.Scope type name) at in
      let rest = withheld m D (take pending w.scopes) in
      let count = w.count in
      record {
        scopes = i ∷ w.scopes;
        are = ap enclosing (one_on D i (Declaration.Scope type name) at) ∙ enclosing-scope front type name ∙ ap (λ k. k ∷ enclosing front) n ∙ ap (λ l. i ∷ l) w.are;
        count = omega arith;
        unmet = subst (λ (ps : List ℕ). AllByRecursion (λ p. is_among ps p ≡ false) (i ∷ take pending w.scopes)) (sym (scope_marks D i type name at)) (not_yet D i, w.unmet);
        met = w.met;
        split = lines-next (line_in first h) D i (Declaration.Scope type name) at ∙ ap (λ l. l ++ line_in first h front (Declaration.Scope type name)) w.split
            ∙ ap (λ k. (text ++ rest) ++ cond (m k) (opening_of (Some (Declaration.Scope type name))) []) n
            ∙ ap (λ l. (text ++ rest) ++ cond (m i) l []) (sym own) ∙ append_assoc text rest (cond (m i) (opening D i) [])
            ∙ ap (λ l. l ++ (rest ++ cond (m i) (opening D i) [])) (sym (append-nil text));
      }

  -- the end of a scope that is pending
  pending_next : (k : ℕ) → pending ≡ suc k → slice_get h.declarations i ≡ Some Declaration.Up → IsWritten first h (i + 1) k written (text ++ [])
  pending_next k e at = by_scopes w.scopes refl
    where
      m : ℕ → Bool
      m = is_kept h

      D : List Declaration
      D = h.declarations

      by_scopes : (ss : List ℕ) → w.scopes ≡ ss → IsWritten first h (i + 1) k written (text ++ [])
      by_scopes [] s = let count = w.count in absurd (omega (arith, ap length s))
      by_scopes (p ∷ around) s =
          let count = w.count in
          let are_open : enclosing front ≡ p ∷ around = w.are ∙ s in
          let unmet : AllByRecursion (λ q. is_among (marked_places [] front) q ≡ false) (p ∷ take k around) = subst
          (λ (l : List ℕ). AllByRecursion (λ q. is_among (marked_places [] front) q ≡ false) l) (ap (λ n. take n w.scopes) e
          ∙ ap (take (suc k)) s) w.unmet in
          let gone : m p ≡ false = never D i p around at are_open unmet.0 in
          let rest = withheld m D (take k around) in
          record {
            scopes = around;
            are = ap enclosing (one_on D i Declaration.Up at) ∙ enclosing-up front ∙ ap (drop 1) are_open;
            count = omega (arith, ap length s);
            unmet = subst (λ (ps : List ℕ). AllByRecursion (λ q. is_among ps q ≡ false) (take k around)) (sym (up_marks D i at)) unmet.1;
            met = subst (λ (l : List ℕ). AllByRecursion (λ q. m q ≡ true) l) (ap (λ n. drop n w.scopes) e ∙ ap (drop (suc k)) s) w.met;
            split = lines-next (line_in first h) D i Declaration.Up at ∙ ap (λ l. l ++ line_in first h front Declaration.Up) w.split
                ∙ ap (λ l. (text ++ withheld m D l) ++ line_in first h front Declaration.Up) (ap (λ n. take n w.scopes) e ∙ ap (take (suc k)) s)
                ∙ ap (λ l. (text ++ withheld m D (p ∷ take k around)) ++ up_lines_at m (take 1 l)) are_open
                ∙ ap (λ b. (text ++ (rest ++ cond b (opening D p) [])) ++ (cond b up_line [] ++ [])) gone
                ∙ append-nil (text ++ (rest ++ [])) ∙ ap (λ l. text ++ l) (append-nil rest) ∙ ap (λ l. l ++ rest) (sym (append-nil text));
          }

  -- the end of a scope that is written, or of none
  written_next : pending ≡ 0 → slice_get h.declarations i ≡ Some Declaration.Up → IsWritten first h (i + 1) 0 (written - 1) (text ++ closing 0 written)
  written_next e at = by_scopes w.scopes refl
    where
      m : ℕ → Bool
      m = is_kept h

      D : List Declaration
      D = h.declarations

      by_scopes : (ss : List ℕ) → w.scopes ≡ ss → IsWritten first h (i + 1) 0 (written - 1) (text ++ closing 0 written)
      by_scopes [] s =
          let count = w.count in
          let are_open : enclosing front ≡ [] = w.are ∙ s in
          let none : written ≡ 0 = omega (arith, ap length s) in
          record {
            scopes = [];
            are = ap enclosing (one_on D i Declaration.Up at) ∙ enclosing-up front ∙ ap (drop 1) are_open;
            count = omega (arith, ap length s);
            unmet = tt;
            met = tt;
            split = lines-next (line_in first h) D i Declaration.Up at ∙ ap (λ l. l ++ line_in first h front Declaration.Up) w.split
                ∙ ap (λ n. (text ++ withheld m D (take n w.scopes)) ++ line_in first h front Declaration.Up) e
                ∙ ap (λ l. (text ++ []) ++ up_lines_at m (take 1 l)) are_open
                ∙ ap (λ n. (text ++ closing 0 n) ++ []) (sym none);
          }
      by_scopes (p ∷ around) s =
          let count = w.count in
          let are_open : enclosing front ≡ p ∷ around = w.are ∙ s in
          let some : written ≡ suc (length around) = omega (arith, ap length s) in
          let met : AllByRecursion (λ q. m q ≡ true) (p ∷ around) = subst (λ (l : List ℕ). AllByRecursion (λ q. m q ≡ true) l) (ap (λ n. drop n w.scopes) e ∙ s) w.met in
          record {
            scopes = around;
            are = ap enclosing (one_on D i Declaration.Up at) ∙ enclosing-up front ∙ ap (drop 1) are_open;
            count = omega arith;
            unmet = tt;
            met = met.1;
            split = lines-next (line_in first h) D i Declaration.Up at ∙ ap (λ l. l ++ line_in first h front Declaration.Up) w.split
                ∙ ap (λ n. (text ++ withheld m D (take n w.scopes)) ++ line_in first h front Declaration.Up) e
                ∙ ap (λ l. (text ++ []) ++ up_lines_at m (take 1 l)) are_open
                ∙ ap (λ b. (text ++ []) ++ (cond b up_line [] ++ [])) met.0
                ∙ ap (λ l. l ++ (up_line ++ [])) (append-nil text) ∙ sym (append_assoc text up_line [])
                ∙ ap (λ n. (text ++ closing 0 n) ++ []) (sym some);
          }

  -- a variable, after which none is pending
  variable_next : (v : Variable) → slice_get h.declarations i ≡ Some (Declaration.Var v)
      → IsWritten first h (i + 1) 0 (written + pending) (text ++ due h first pending written front (Declaration.Var v))
  variable_next v at =
      let m = is_kept h in
      let D = h.declarations in
      let marks : AllByRecursion (λ p. m p ≡ true) (i ∷ w.scopes) = subst (λ (l : List ℕ). AllByRecursion (λ p. m p ≡ true) (i ∷ l)) w.are (var_marks D i v at) in
      let own : m (length front) ≡ true = ap m (front-length D i (Declaration.Var v) at) ∙ marks.0 in
      let count = w.count in
      let opened = openings D (take pending w.scopes) in
      let var = var_line v (numbered first h v.code) in
      record {
        scopes = w.scopes;
        are = ap enclosing (one_on D i (Declaration.Var v) at) ∙ enclosing-var front v ∙ w.are;
        count = omega arith;
        unmet = tt;
        met = marks.1;
        split = lines-next (line_in first h) D i (Declaration.Var v) at ∙ ap (λ l. l ++ line_in first h front (Declaration.Var v)) w.split
            ∙ ap (λ b. (text ++ withheld m D (take pending w.scopes)) ++ cond b var []) own
            ∙ ap (λ l. (text ++ l) ++ var) (all_withheld m D (take pending w.scopes) (all_take (λ p. m p ≡ true) pending w.scopes marks.1))
            ∙ append_assoc text opened var ∙ ap (λ l. text ++ (openings D (take pending l) ++ var)) (sym w.are)
            ∙ sym (append-nil (text ++ (openings D (take pending (enclosing front)) ++ var)));
      }

  -- one row on
  pub row_next : (d : Declaration) → slice_get h.declarations i ≡ Some d
      → IsWritten first h (i + 1) (pending_behind d pending) (written_behind d pending written)
      (text ++ due h first pending written (take i h.declarations) d)
  row_next (Declaration.Scope type name) at = scope_next type name at
  row_next Declaration.Up at = by_pending pending refl
    where
      by_pending : (n : ℕ) → pending ≡ n → IsWritten first h (i + 1) (n - 1) (written_behind Declaration.Up n written) (text ++ closing n written)
      by_pending zero e = written_next e at
      by_pending (suc k) e = let less : k ≡ suc k - 1 = omega arith in subst (λ (n : ℕ). IsWritten first h (i + 1) n written (text ++ [])) less (pending_next k e at)
  row_next (Declaration.Var v) at = variable_next v at

  -- what is written is the front of the whole text
  pub is_front : (rest : List ℕ) × (rows_text (numbered first h) (is_kept h) h.declarations ≡ text ++ rest)
  unfolding rows_text
  is_front =
      let D = h.declarations in
      let held = withheld (is_kept h) D (take pending w.scopes) in
      let behind = concat (each_after (line_in first h) front (drop i D)) in
      let ups = up_lines_at (is_kept h) (enclosing D) in
      let whole : concat (each (line_in first h) D) ≡ (text ++ held) ++ behind = ap (λ l. concat (each (line_in first h) l))
      (sym (take-append-drop i D)) ∙ lines-append (line_in first h) front (drop i D) ∙ ap (λ l. l ++ behind) w.split in
      (held ++ (behind ++ ups), ap (λ l. l ++ ups) whole ∙ append_assoc (text ++ held) behind ups ∙ append_assoc text held (behind ++ ups))

  -- after the last row the scopes that are written are left to close
  pub last_lines : i ≡ length h.declarations → (scopes : List ℕ) × (length scopes ≡ written)
      × (rows_text (numbered first h) (is_kept h) h.declarations ≡ text ++ flat_map (λ p. up_line) scopes)
  unfolding rows_text
  last_lines e =
      let m = is_kept h in
      let D = h.declarations in
      let all : front ≡ D = ap (λ n. take n D) e ∙ take-length D in
      let inner = take pending w.scopes in
      let outer = drop pending w.scopes in
      let none : AllByRecursion (λ p. m p ≡ false) inner = subst (λ (l : List Declaration). AllByRecursion (λ p. is_among (marked_places [] l) p ≡ false) inner) all w.unmet in
      let parts : inner ++ outer ≡ w.scopes = take-append-drop pending w.scopes in
      let count = w.count in
      let ups : up_lines_at m (enclosing D) ≡ flat_map (λ p. up_line) outer =
      ap (λ l. up_lines_at m (enclosing l)) (sym all) ∙ ap (up_lines_at m) (w.are ∙ sym parts) ∙ flat_map-append (λ p. cond (m p) up_line []) inner outer
      ∙ ap (λ l. l ++ up_lines_at m outer) (none_closed m inner none) ∙ all_closed m outer w.met in
      let lines : concat (each (line_in first h) D) ≡ text = ap (λ l. concat (each (line_in first h) l)) (sym all) ∙ w.split
      ∙ ap (λ l. text ++ l) (none_withheld m D inner none) ∙ append-nil text in
      (outer, length-drop pending w.scopes ∙ omega arith, ap (λ l. l ++ up_lines_at m (enclosing D)) lines ∙ ap (λ l. text ++ l) ups)

-- a row whose text was not wholly written
pub row_some : (first : ℕ) (h : Header) (i pending written : ℕ) (text : List ℕ) (old mid new : Option (List ℕ)) (d : Declaration)
    → IsWritten first h i pending written text → slice_get h.declarations i ≡ Some d → Appends old mid text
    → AppendsSome mid new (due h first pending written (take i h.declarations) d) → AppendsSome old new (rows_text (numbered first h) (is_kept h) h.declarations)
row_some first h i pending written text old mid new d w at puts some =
    let more = text ++ due h first pending written (take i h.declarations) d in
    let f = is_front first h (i + 1) _ _ more (row_next first h i pending written text w d at) in
    subst (AppendsSome old new) (sym f.1) (appends-first old new more f.0 (appends-some old mid new text _ puts some))

-- ---- what a row declares, by its kind

pub scope_row_is : (s : HeadShown) (h : Header) (i : ℕ) (r : Row) (d : Declaration) → Views s h → slice_get s.rows i ≡ Some r
    → slice_get h.declarations i ≡ Some d → r.kind ≡ kind.Scope → (type : List ℕ) × (name : List ℕ) × (d ≡ Declaration.Scope type name)
scope_row_is s h i r d v at is k = by_kind d refl (row_of s h i r d v at is)
  where
    by_kind : (x : Declaration) → d ≡ x → IsRow s.text h.codes (take i h.declarations) r x → (type : List ℕ) × (name : List ℕ) × (d ≡ Declaration.Scope type name)
    by_kind (Declaration.Scope type name) e row = (type, name, e)
    by_kind Declaration.Up e row = let other = row.own.0 in cc
    by_kind (Declaration.Var u) e row = let other = row.own.0 in cc

pub up_row_is : (s : HeadShown) (h : Header) (i : ℕ) (r : Row) (d : Declaration) → Views s h → slice_get s.rows i ≡ Some r
    → slice_get h.declarations i ≡ Some d → r.kind ≡ kind.Up → d ≡ Declaration.Up
up_row_is s h i r d v at is k = by_kind d refl (row_of s h i r d v at is)
  where
    by_kind : (x : Declaration) → d ≡ x → IsRow s.text h.codes (take i h.declarations) r x → d ≡ Declaration.Up
    by_kind (Declaration.Scope type name) e row = let other = row.own.0 in cc
    by_kind Declaration.Up e row = e
    by_kind (Declaration.Var u) e row = let other = row.own.0 in cc

pub var_row_is : (s : HeadShown) (h : Header) (i : ℕ) (r : Row) (d : Declaration) → Views s h → slice_get s.rows i ≡ Some r
    → slice_get h.declarations i ≡ Some d → r.kind ≡ kind.Var → (u : Variable) × (d ≡ Declaration.Var u)
var_row_is s h i r d v at is k = by_kind d refl (row_of s h i r d v at is)
  where
    by_kind : (x : Declaration) → d ≡ x → IsRow s.text h.codes (take i h.declarations) r x → (u : Variable) × (d ≡ Declaration.Var u)
    by_kind (Declaration.Scope type name) e row = let other = row.own.0 in cc
    by_kind Declaration.Up e row = let other = row.own.0 in cc
    by_kind (Declaration.Var u) e row = (u, e)

-- the kind of a row, by what it declares
abbrev pub kind_of : Declaration → Kind
kind_of (Declaration.Scope type name) = kind.Scope
kind_of Declaration.Up = kind.Up
kind_of (Declaration.Var v) = kind.Var

pub kind_is : (s : HeadShown) (h : Header) (i : ℕ) (r : Row) (d : Declaration) → Views s h → slice_get s.rows i ≡ Some r → slice_get h.declarations i ≡ Some d → r.kind ≡ kind_of d
kind_is s h i r d v at is = by_kind d (row_of s h i r d v at is)
  where
    by_kind : (x : Declaration) → IsRow s.text h.codes (take i h.declarations) r x → r.kind ≡ kind_of x
    by_kind (Declaration.Scope type name) row = row.own.0
    by_kind Declaration.Up row = row.own.0
    by_kind (Declaration.Var u) row = row.own.0

pub behind_is : (d : Declaration) (pending written pending' written' : ℕ) → written + pending + 1 < 2 ^ 64
    → IsBehind (kind_of d) pending written pending' written' → (pending_behind d pending ≡ pending') × (written_behind d pending written ≡ written')
behind_is (Declaration.Scope type name) pending written pending' written' few b = let s = b.scope refl (omega arith) in (omega (arith, s.0), sym s.1)
behind_is Declaration.Up zero written pending' written' few b = let s = b.written_up refl refl in (sym s.0, sym s.1)
behind_is Declaration.Up (suc pending) written pending' written' few b = let s = b.pending_up refl (omega arith) in (omega (arith, s.0), sym s.1)
behind_is (Declaration.Var v) pending written pending' written' few b = let s = b.variable refl (omega arith) in (sym s.0, sym s.1)

-- as many as are open, fewer than the rows
pub few_written : (first : ℕ) (h : Header) (i pending written : ℕ) (text : List ℕ) → IsWritten first h i pending written text → written + pending ≤ i
few_written first h i pending written text w =
    let few = few_around h.declarations i in
    let count = w.count in
    omega (arith, few, count, ap length w.are)

-- the line of an `$upscope` that closes a scope which is written
pub closing_is : (pending written : ℕ) → pending ≡ 0 → 0 < written → up_line ≡ closing pending written
closing_is zero zero none some = absurd (omega arith)
closing_is zero (suc written) none some = refl
closing_is (suc pending) written none some = absurd (omega arith)

-- ---- the lines that open scopes, one after the other

-- the lines of some scopes are written, and those of the others are left
pub record Opens (h : Header) (row count : ℕ) (e : Enclosing) (old new : Option (List ℕ)) : Type 0 where
  pub done : List ℕ
  pub rest : List ℕ
  pub split : reverse (take count (enclosing (take row h.declarations))) ≡ done ++ rest
  pub puts : Appends old new (flat_map (opening h.declarations) done)
  pub leaves : LeavesScopes h row rest e

pub opens_first : (h : Header) (row count : ℕ) (e : Enclosing) (old : Option (List ℕ))
    → LeavesScopes h row (reverse (take count (enclosing (take row h.declarations)))) e → Opens h row count e old old
opens_first h row count e old l = record { done = []; rest = reverse (take count (enclosing (take row h.declarations))); split = refl; puts = appends-none old; leaves = l }

-- the declaration of the next one
pub record OpensNext (h : Header) (row scope : ℕ) (rest : List ℕ) (e : Enclosing) : Type 0 where
  pub declared : Declaration
  pub at : slice_get h.declarations scope ≡ Some declared
  pub others : List ℕ
  pub parts : rest ≡ scope ∷ others
  pub leaves : LeavesScopes h row others e

pub opens_next : (h : Header) (row scope : ℕ) (rest : List ℕ) (e : Enclosing) → row < length h.declarations → GivesNext h row rest e (Some scope) → OpensNext h row scope rest e
opens_next h row scope rest e l g = let is = scope_at h row scope g.2 l in record { declared = is.declared; at = is.at; others = g.0; parts = g.1; leaves = g.3 }

-- its line is written
pub opens_more : (h : Header) (row count scope : ℕ) (e e2 : Enclosing) (old mid new : Option (List ℕ)) (o : Opens h row count e old mid)
    (n : OpensNext h row scope o.rest e2) → Appends mid new (opening_of (Some n.declared)) → Opens h row count e2 old new
opens_more h row count scope e e2 old mid new o n line =
    let f = opening h.declarations in
    let own : f scope ≡ opening_of (Some n.declared) = ap opening_of n.at in
    record {
      done = o.done ++ scope ∷ [];
      rest = n.others;
      split = o.split ∙ ap (λ l. o.done ++ l) n.parts ∙ sym (append_assoc o.done (scope ∷ []) n.others);
      puts = subst (Appends old new) (sym (flat_map-append f o.done (scope ∷ []) ∙ ap (λ l. flat_map f o.done ++ l) (append-nil (f scope))))
          (appends-twice old mid new (flat_map f o.done) (f scope) o.puts (subst (Appends mid new) (sym own) line));
      leaves = n.leaves;
    }

-- it was not wholly written
pub opens_some : (h : Header) (row count scope : ℕ) (e e2 : Enclosing) (old mid new : Option (List ℕ)) (o : Opens h row count e old mid)
    (n : OpensNext h row scope o.rest e2) → AppendsSome mid new (opening_of (Some n.declared))
    → AppendsSome old new (openings h.declarations (take count (enclosing (take row h.declarations))))
opens_some h row count scope e e2 old mid new o n line =
    let f = opening h.declarations in
    let own : f scope ≡ opening_of (Some n.declared) = ap opening_of n.at in
    let whole : openings h.declarations (take count (enclosing (take row h.declarations))) ≡ (flat_map f o.done ++ f scope) ++ flat_map f n.others =
    ap (flat_map f) (o.split ∙ ap (λ l. o.done ++ l) n.parts) ∙ flat_map-append f o.done (scope ∷ n.others) ∙ sym (append_assoc (flat_map f o.done) (f scope) (flat_map f n.others)) in
    subst (AppendsSome old new) (sym whole) (appends-first old new _ (flat_map f n.others) (appends-some old mid new (flat_map f o.done) (f scope) o.puts (subst (AppendsSome mid new) (sym own) line)))
