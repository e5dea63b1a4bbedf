-- The head of a strobe is read again as what it was written from.
use Rattle.vcd_laws.proofs.Cited.{Bool, List, None, [], ap, arith, codes, decimal, false, flat_map, inl, inr, length, map, refl, subst, sym, true, ℕ, ◌++◌, ◌+◌, ◌<◌, ◌∙◌, ◌∷◌, ◌≡◌, ◌≤◌, append_assoc, filter_map-append, most_declared, AreParts, declaration_line, head_of, header_back, plain_word, reads_head, AreDeclared, AreCodes, IsWord, texts_from, texts_of-tokens, HasOpen, has_none, has_scope, has_up, open_count, written, Declaration, IdCode, Variable, code_of, codes_of, open_scopes, variable_of, variables_of, end_line, scope_line, up_line, words, Header, HeaderPhrase, header_fault_of, Keyword, is_end, keyword_text, Reading, phrases_of, texts_of, Selected, selects_code, Stream, tokens_of}
use Rattle.std.specs.Fmt.{digits}
use Rattle.vcd_model.specs.HeadText.{head_for, var_line}
use Rattle.vcd_model.specs.HeaderPhrases.{HasNoEnd}
use Rattle.vcd_model.specs.Header.{header_of}
use Rattle.vcd_model.specs.Selection.{selected}
use Rattle.vcd_model.specs.Reading.{reading_of}
use Rattle.vcd_model.specs.HeaderReading.{read_header}
use Rattle.vcd_model.specs.Strobe.{bare, strobe_codes, strobe_head, time_code}
use Rattle.vcd_laws.specs.Strobes.{IsStrobeHead, time_variable, written_codes}
use Rattle.vcd_model.proofs.HeadPhrases.{IsToken}
use Rattle.vcd_model.proofs.WrittenRows.{has_var, path_is}
use Rattle.vcd_laws.proofs.HeadersGood.{IsGoodHeader}
use Rattle.vcd_laws.proofs.WrittenDeclared.{IsRenaming, image, IsWritten, is_written}
use Rattle.vcd_laws.proofs.MergedHead.{apart_fits}
use Rattle.vcd_laws.proofs.WrittenCodes.{In, from_codes_of, from_contained, from_filter, in_right, to_codes_of, to_contained, to_filter}
use Rattle.vcd_laws.proofs.HeadBack.{HasCode, all_ready, codes_back, codes_there, declared_at, head_is, marks, no_fault, no_scope, own_code, rows_declared, rows_few, rows_selected}
use Rattle.vcd_laws.proofs.StrobeChanges.{longer_differ, time_code_new}
use Rattle.vcd_laws.proofs.StrobeFacts.{time_bytes, time_word}

-- ---- the declarations

-- the variable of the time, as it is declared
abbrev pub time_declaration : Header → Variable
time_declaration h = (time_variable h).variable

abbrev pub time_scope : Declaration
time_scope = Declaration.Scope (codes "module") (codes "strobe")

-- the declarations of the time
abbrev pub time_rows : Header → List Declaration
time_rows h = time_scope ∷ Declaration.Var (time_declaration h) ∷ Declaration.Up ∷ []

-- the declarations of the names
abbrev pub name_rows : Header → List (List ℕ) → List Declaration
name_rows h names = written own_code (marks names h.declarations) h.declarations

abbrev pub strobe_rows : Header → List (List ℕ) → List Declaration
strobe_rows h names = time_rows h ++ name_rows h names

-- ---- the text

size_text : decimal 64 ≡ codes "64"
unfolding digits
size_text = refl

pub strobe_text : (h : Header) (names : List (List ℕ))
    → strobe_head h names ≡ head_of (bare h) (strobe_rows h names)
unfolding strobe_head
strobe_text h names =
    let s = scope_line (codes "module") (codes "strobe") in
    let v = var_line (time_declaration h) (time_code h).text in
    let w = flat_map declaration_line (name_rows h names) in
    ap (λ d. s ++ words (keyword_text Keyword.Var ∷ codes "time" ∷ d ∷ (time_code h).text
    ∷ codes "time" ∷ keyword_text Keyword.End ∷ []) ++ up_line ++ head_for (bare h) names)
    (sym size_text)
    ∙ ap (λ l. s ++ v ++ up_line ++ l) (head_is (bare h) names)
    ∙ append_assoc (s ++ v) up_line (w ++ end_line)
    ∙ append_assoc s v (up_line ++ (w ++ end_line))
    ∙ ap (λ l. s ++ (v ++ l)) (sym (append_assoc up_line w end_line))
    ∙ ap (λ l. s ++ l) (sym (append_assoc v (up_line ++ w) end_line))
    ∙ sym (append_assoc s (v ++ (up_line ++ w)) end_line)

-- ---- they may be declared

-- the code of a variable is shorter than that of the time
abbrev IsOld : Header → Variable → Type 0
IsOld h v = HasCode v × (length v.code < length (time_code h).text)

old_codes : (h : Header) (marked : ℕ → Bool)
    → IsRenaming own_code marked (IsOld h) (time_declaration h ∷ [])
old_codes h marked = record {
  words = λ v m. m.0.0;
  bytes = λ v m. m.0.1;
  outside = λ v m. (
    apart_fits (time_declaration h) v (longer_differ (time_code h).text v.code m.1),
    tt,
  );
  inside = λ u v m n e. e;
}

time_no_end : HasNoEnd (codes "time" ∷ [])
time_no_end = (λ e. let x : false ≡ true = ap is_end e in cc, tt)

module _ (h : Header) (names : List (List ℕ)) (good : IsGoodHeader h) (found : AreCodes h.codes) where
  shallow : (front back : List Declaration) (type name : List ℕ)
      → h.declarations ≡ front ++ Declaration.Scope type name ∷ back
      → open_scopes front + length {A = List ℕ} [] < 1000
  shallow front back type name e =
      let d = declared_at [] front back (Declaration.Scope type name)
      (subst (AreDeclared []) e good.declared) in
      let low = d.0 in omega arith

  old : (front back : List Declaration) (v : Variable)
      → h.declarations ≡ front ++ Declaration.Var v ∷ back → IsOld h v
  old front back v e =
      let d = declared_at [] front back (Declaration.Var v)
      (subst (AreDeclared []) e good.declared) in
      let there : In v (variables_of h.declarations) =
      subst (In v) (sym (ap variables_of e
      ∙ filter_map-append variable_of front (Declaration.Var v ∷ back)))
      (in_right (variables_of front) (v ∷ variables_of back) v (inl refl)) in
      let own : In (code_of v) h.codes = subst (In (code_of v)) (sym good.codes)
      (to_codes_of h.declarations v good.declared there) in
      ((d.code, d.bytes), time_code_new h (code_of v) own)

  scope_open : HasOpen (time_scope ∷ []) ((0, codes "strobe") ∷ [])
  scope_open = has_scope [] [] (codes "module") (codes "strobe") has_none

  var_open : HasOpen (time_scope ∷ Declaration.Var (time_declaration h) ∷ [])
      ((0, codes "strobe") ∷ [])
  var_open = has_var (time_scope ∷ []) ((0, codes "strobe") ∷ []) (time_declaration h) scope_open

  up_open : HasOpen (time_rows h) []
  up_open = has_up (time_scope ∷ Declaration.Var (time_declaration h) ∷ []) (0, codes "strobe") []
      var_open

  rows : IsWritten own_code (marks names h.declarations) names (IsOld h)
      (time_declaration h ∷ []) [] (λ p. p) (old_codes h (marks names h.declarations)) no_scope
      (time_rows h) h.declarations
  rows =
      is_written own_code (marks names h.declarations) names (IsOld h) (time_declaration h ∷ []) []
      (λ p. p) (old_codes h (marks names h.declarations)) no_scope (time_rows h) h.declarations []
      up_open refl refl
      (all_ready names h.declarations own_code (IsOld h) (time_declaration h ∷ []) [] (λ p. p)
      (old_codes h (marks names h.declarations)) no_scope shallow old good.declared)

  token : (text : List ℕ) → IsWord text → is_end text ≡ false → IsToken text
  token text word other = record { word = word; other = other }

  pub strobe_declared : AreDeclared [] (strobe_rows h names)
  strobe_declared =
      let r = rows in
      let n = open_count (time_scope ∷ Declaration.Var (time_declaration h) ∷ [])
      ((0, codes "strobe") ∷ []) var_open in (
        (
          (omega arith),
          token (codes "module") (plain_word (codes "module") (omega arith) refl) refl,
          token (codes "strobe") (plain_word (codes "strobe") (omega arith) refl) refl,
        ),
        (
          record {
            type = plain_word (codes "time") (omega arith) refl;
            other = refl;
            some = omega arith;
            small = omega arith;
            code = time_word h;
            bytes = time_bytes h;
            agreed = refl;
            words = (plain_word (codes "time") (omega arith) refl, tt);
            none = time_no_end;
            filled = λ e. cc;
          },
          ((omega arith), r.declared),
        ),
      )

  -- ---- what they select

  map_same : (vs : List Selected)
      → map (image own_code (marks names h.declarations) names (IsOld h)
      (time_declaration h ∷ []) [] (λ p. p) (old_codes h (marks names h.declarations)) no_scope) vs
      ≡ vs
  map_same [] = refl
  map_same (v ∷ vs) = ap (λ l. v ∷ l) (map_same vs)

  pub strobe_selected : selected [] (strobe_rows h names)
      ≡ time_variable h ∷ selected names h.declarations
  unfolding selected
  strobe_selected =
      let r = rows in
      let path = path_is (time_scope ∷ []) ((0, codes "strobe") ∷ [])
      (Declaration.Var (time_declaration h)) scope_open in
      rw path (ap (λ l. time_variable h ∷ l) (r.chosen ∙ map_same (selected names h.declarations)))

  -- ---- the codes

  name_there : (c : IdCode) → In c (codes_of (name_rows h names)) → In c (strobe_codes h names)
  name_there c i =
      let a = codes_there names h.declarations (name_rows h names) good.declared
      (rows_selected names h.declarations good.declared) c i in
      to_filter (selects_code (selected names h.declarations)) h.codes c
      (subst (In c) (sym good.codes) a.0) a.1

  name_back : (c : IdCode) → In c (strobe_codes h names) → In c (codes_of (name_rows h names))
  name_back c i =
      let f = from_filter (selects_code (selected names h.declarations)) h.codes c i in
      codes_back names h.declarations (name_rows h names) good.declared
      (rows_declared names h.declarations good.declared) (subst AreCodes good.codes found)
      (rows_selected names h.declarations good.declared) c (subst (In c) good.codes f.0) f.1

  strobe_there : (c : IdCode) → In c (codes_of (strobe_rows h names))
      → In c (written_codes h names)
  strobe_there c i = by_variable (from_codes_of (strobe_rows h names) c i)
    where
      by_variable : (v : Variable) × In v (variables_of (strobe_rows h names)) × (c ≡ code_of v)
          → In c (written_codes h names)
      by_variable (v, inl e, f) = inl (f ∙ ap code_of e)
      by_variable (v, inr j, f) =
          inr (name_there c (subst (λ (d : IdCode). In d (codes_of (name_rows h names))) (sym f)
          (to_codes_of (name_rows h names) v (rows_declared names h.declarations good.declared) j)))

  strobe_back : (c : IdCode) → In c (written_codes h names)
      → In c (codes_of (strobe_rows h names))
  strobe_back c (inl e) =
      subst (λ (d : IdCode). In d (codes_of (strobe_rows h names))) (sym e)
      (to_codes_of (strobe_rows h names) (time_declaration h) strobe_declared (inl refl))
  strobe_back c (inr i) =
      let v = from_codes_of (name_rows h names) c (name_back c i) in
      subst (λ (d : IdCode). In d (codes_of (strobe_rows h names))) (sym v.2)
      (to_codes_of (strobe_rows h names) v.0 strobe_declared (inr v.1))

  -- ---- the header

  says : IsStrobeHead h names (record {
    declarations = strobe_rows h names;
    codes = codes_of (strobe_rows h names);
    date = [];
    version = [];
    scale = None;
  })
  says = record {
    date = refl;
    version = refl;
    scale = refl;
    variables = strobe_selected;
    codes = λ c. (
      λ i. to_contained (written_codes h names) c
          (strobe_there c (from_contained (codes_of (strobe_rows h names)) c i)),
      λ i. to_contained (codes_of (strobe_rows h names)) c
          (strobe_back c (from_contained (written_codes h names) c i)),
    );
  }

  pub bare_parts : AreParts (bare h)
  bare_parts = record {
    dates = [];
    date = refl;
    date_words = tt;
    date_none = tt;
    versions = [];
    version = refl;
    version_words = tt;
    version_none = tt;
    scale = tt;
  }

  -- the reading of a head and what follows it
  pub record IsStrobeRead (stream : Stream) (r : Reading HeaderPhrase)
      (text : List ℕ) : Type 0 where
    pub whole : header_fault_of stream r ≡ None
    pub head : IsStrobeHead h names (header_of (phrases_of r.placed))
    pub left : texts_of r.rest ≡ texts_of (tokens_of text)

  pub strobe_read : (most : ℕ) (stream : Stream) (text : List ℕ) → most_declared h + 3 ≤ most
      → texts_of stream.tokens ≡ texts_from true (strobe_head h names ++ text)
      → IsStrobeRead stream (read_header most stream) text
  unfolding read_header reading_of
  strobe_read most stream text few e =
      let rows = strobe_rows h names in
      let fewer = rows_few names h.declarations good.declared in
      let all = reads_head most (bare h) bare_parts rows text stream.tokens strobe_declared
      (omega arith) (e ∙ ap (λ l. texts_from true (l ++ text)) (strobe_text h names)) in
      let back : header_of (phrases_of (read_header most stream).placed) ≡ record {
        declarations = rows;
        codes = codes_of rows;
        date = [];
        version = [];
        scale = None;
      } = ap header_of all.phrases ∙ header_back (bare h) bare_parts rows in
      record {
        whole = no_fault stream (read_header most stream) all.ending;
        head = subst (IsStrobeHead h names) (sym back) says;
        left = all.texts ∙ sym (texts_of-tokens text);
      }
