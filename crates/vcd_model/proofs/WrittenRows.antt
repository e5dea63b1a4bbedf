-- The declarations that a head is written for: the marked ones, and an `$upscope` for each marked
-- scope that is closed, or left open.
use Rattle.vcd_model.proofs.Cited.{◌≡◌, ℕ, zero, suc, Bool, true, false, cond, List, [], ◌∷◌, ◌++◌, length, map, flat_map, filter_map, reverse, slice_get, Option, Some, option_map, refl, sym, ap, ◌∙◌, AllByRecursion, concat, join_with_byte, append-nil, reverse-append, flat_map-append, filter_map-append, each_after, Declaration, Variable, open_scopes, enclosing, name_of, names_at, up_line, up_lines_at, first_place, row_line}
use Rattle.vcd_model.specs.Declarations.{path_of}
use Rattle.vcd_model.specs.HeadText.{rows_text}
use Rattle.vcd_model.proofs.HeadLines.{declaration_line}
use Rattle.vcd_model.proofs.ScopeLemmas.{LeavesOpen, none_open, scope_open, up_open, var_open, open_scopes_is}

-- ---- the open scopes, with their names

-- an open scope: its index, and its name
abbrev pub Open : Type 0
Open = ℕ × List ℕ

abbrev pub IsNamed : List Declaration → Open → Type 0
IsNamed ds e = (type : List ℕ) × (slice_get ds e.0 ≡ Some (Declaration.Scope type e.1))

-- the declarations leave these scopes open, innermost first
pub record HasOpen (ds : List Declaration) (s : List Open) : Type 0 where
  pub opens : LeavesOpen ds (map (λ e. e.0) s)
  pub named : AllByRecursion (IsNamed ds) s

pub slice_get-more : {X : Type 0} (xs ys : List X) (i : ℕ) (x : X) → slice_get xs i ≡ Some x
    → slice_get (xs ++ ys) i ≡ Some x
slice_get-more [] ys i x e = cc
slice_get-more (y ∷ xs) ys zero x e = e
slice_get-more (y ∷ xs) ys (suc i) x e = slice_get-more xs ys i x e

pub slice_get-last : {X : Type 0} (xs : List X) (x : X)
    → slice_get (xs ++ x ∷ []) (length xs) ≡ Some x
slice_get-last [] x = refl
slice_get-last (y ∷ xs) x = slice_get-last xs x

named_more : (ds : List Declaration) (d : Declaration) (s : List Open)
    → AllByRecursion (IsNamed ds) s → AllByRecursion (IsNamed (ds ++ d ∷ [])) s
named_more ds d [] h = tt
named_more ds d (e ∷ s) h = (
  (h.0.0, slice_get-more ds (d ∷ []) e.0 (Declaration.Scope h.0.0 e.1) h.0.1),
  named_more ds d s
      h.1,
)

pub has_none : HasOpen [] []
has_none = record { opens = none_open; named = tt }

pub has_scope : (ds : List Declaration) (s : List Open) (type name : List ℕ) → HasOpen ds s
    → HasOpen (ds ++ Declaration.Scope type name ∷ []) ((length ds, name) ∷ s)
has_scope ds s type name is =
    record {
      opens = scope_open ds (map (λ e. e.0) s) type name is.opens;
      named = (
        (type, slice_get-last ds (Declaration.Scope type name)),
        named_more ds
            (Declaration.Scope type name) s is.named,
      );
    }

pub has_up : (ds : List Declaration) (e : Open) (s : List Open) → HasOpen ds (e ∷ s)
    → HasOpen (ds ++ Declaration.Up ∷ []) s
has_up ds e s is = let n = is.named in record {
  opens = up_open ds e.0 (map (λ x. x.0) s) is.opens;
  named = named_more ds Declaration.Up s n.1;
}

pub has_var : (ds : List Declaration) (s : List Open) (v : Variable) → HasOpen ds s
    → HasOpen (ds ++ Declaration.Var v ∷ []) s
has_var ds s v is = record {
  opens = var_open ds (map (λ e. e.0) s) v is.opens;
  named = named_more ds (Declaration.Var v) s is.named;
}

length_map : {X Y : Type 0} (f : X → Y) (xs : List X) → length (map f xs) ≡ length xs
length_map f [] = refl
length_map f (x ∷ xs) = ap suc (length_map f xs)

pub open_count : (ds : List Declaration) (s : List Open) → HasOpen ds s → open_scopes ds ≡ length s
open_count ds s is = open_scopes_is ds (map (λ e. e.0) s) is.opens
    ∙ length_map (λ (e : Open). e.0) s

names_back : (ds : List Declaration) (s : List Open) → AllByRecursion (IsNamed ds) s
    → names_at ds (reverse (map (λ e. e.0) s)) ≡ reverse (map (λ e. e.1) s)
names_back ds [] h = refl
names_back ds (e ∷ s) h =
    let g = λ (i : ℕ). option_map name_of (slice_get ds i) in
    ap (filter_map g) (reverse-append (e.0 ∷ []) (map (λ (x : Open). x.0) s))
    ∙ filter_map-append g (reverse (map (λ (x : Open). x.0) s)) (e.0 ∷ [])
    ∙ ap (λ l. l ++ filter_map g (e.0 ∷ [])) (names_back ds s h.1)
    ∙ ap (λ (o : Option Declaration). reverse (map (λ (x : Open). x.1) s)
    ++ filter_map (λ (i : ℕ). option_map name_of o) (e.0 ∷ [])) h.0.1
    ∙ sym (reverse-append (e.1 ∷ []) (map (λ (x : Open). x.1) s))

-- the path of a declaration after these
pub path_is : (ds : List Declaration) (s : List Open) (d : Declaration) → HasOpen ds s
    → path_of ds d ≡ join_with_byte 46 (reverse (map (λ e. e.1) s) ++ name_of d ∷ [])
unfolding path_of
path_is ds s d is = let o = is.opens in
    ap (λ l. join_with_byte 46 (l ++ name_of d ∷ []))
    (ap (λ l. names_at ds (reverse l)) o.are ∙ names_back ds s is.named)

-- ---- what is written

module _ (rename : List ℕ → List ℕ) (marked : ℕ → Bool) where
  -- a variable with its new code
  abbrev pub with_code : Variable → Variable
  with_code v = record {
    type = v.type;
    size = v.size;
    code = rename v.code;
    reference = v.reference;
  }

  abbrev pub ups_at : List ℕ → List Declaration
  ups_at places = flat_map (λ i. cond (marked i) (Declaration.Up ∷ []) []) places

  -- what is written for a declaration that has these before it
  abbrev pub row_of : List Declaration → Declaration → List Declaration
  row_of earlier (Declaration.Scope type name) =
      cond (marked (length earlier)) (Declaration.Scope type name ∷ []) []
  row_of earlier (Declaration.Var v) =
      cond (marked (length earlier)) (Declaration.Var (with_code v) ∷ []) []
  row_of earlier Declaration.Up = ups_at (first_place (enclosing earlier))

  abbrev pub rows_from : List Declaration → List Declaration → List Declaration
  rows_from earlier [] = []
  rows_from earlier (d ∷ ds) = row_of earlier d ++ rows_from (earlier ++ d ∷ []) ds

  -- all of it
  abbrev pub written : List Declaration → List Declaration
  written ds = rows_from [] ds ++ ups_at (enclosing ds)

  ups_text : (places : List ℕ)
      → up_lines_at marked places ≡ flat_map declaration_line (ups_at places)
  ups_text [] = refl
  ups_text (i ∷ places) = by_mark (marked i) (ups_text places)
      ∙ sym (flat_map-append declaration_line (cond (marked i) (Declaration.Up ∷ []) [])
      (ups_at places))
    where
      by_mark : (b : Bool) → up_lines_at marked places ≡ flat_map declaration_line (ups_at places)
          → cond b up_line [] ++ up_lines_at marked places
          ≡ flat_map declaration_line (cond b (Declaration.Up ∷ []) [])
          ++ flat_map declaration_line (ups_at places)
      by_mark true more = ap (λ l. up_line ++ l) more
      by_mark false more = more

  row_text : (earlier : List Declaration) (d : Declaration)
      → row_line rename marked earlier d ≡ flat_map declaration_line (row_of earlier d)
  row_text earlier (Declaration.Scope type name) = by_mark (marked (length earlier))
    where
      by_mark : (b : Bool) → cond b (declaration_line (Declaration.Scope type name)) []
          ≡ flat_map declaration_line (cond b (Declaration.Scope type name ∷ []) [])
      by_mark true = sym (append-nil (declaration_line (Declaration.Scope type name)))
      by_mark false = refl
  row_text earlier (Declaration.Var v) = by_mark (marked (length earlier))
    where
      by_mark : (b : Bool) → cond b (declaration_line (Declaration.Var (with_code v))) []
          ≡ flat_map declaration_line (cond b (Declaration.Var (with_code v) ∷ []) [])
      by_mark true = sym (append-nil (declaration_line (Declaration.Var (with_code v))))
      by_mark false = refl
  row_text earlier Declaration.Up = ups_text (first_place (enclosing earlier))

  rows_are : (earlier ds : List Declaration)
      → concat (each_after (row_line rename marked) earlier ds)
      ≡ flat_map declaration_line (rows_from earlier ds)
  rows_are earlier [] = refl
  rows_are earlier (d ∷ ds) =
      ap (λ l. l ++ concat (each_after (row_line rename marked) (earlier ++ d ∷ []) ds))
      (row_text earlier d)
      ∙ ap (λ l. flat_map declaration_line (row_of earlier d) ++ l)
      (rows_are (earlier ++ d ∷ []) ds)
      ∙ sym (flat_map-append declaration_line (row_of earlier d) (rows_from (earlier ++ d ∷ []) ds))

  -- the text of a head's rows is that of the declarations
  pub text_of_rows : (ds : List Declaration)
      → rows_text rename marked ds ≡ flat_map declaration_line (written ds)
  unfolding rows_text
  text_of_rows ds =
      ap (λ l. l ++ up_lines_at marked (enclosing ds)) (rows_are [] ds)
      ∙ ap (λ l. flat_map declaration_line (rows_from [] ds) ++ l) (ups_text (enclosing ds))
      ∙ sym (flat_map-append declaration_line (rows_from [] ds) (ups_at (enclosing ds)))
