-- A head is read again as what it was written from.
use Rattle.vcd_laws.proofs.Cited.{◌≡◌, ℕ, ◌+◌, ◌<◌, ◌≤◌, Bool, true, false, cond, List, [], ◌∷◌, ◌++◌, length, map, filter_map, bytes_eq, Some, None, IsTrue, option_map, unwrap_or, inl, inr, refl, sym, ap, ◌∙◌, subst, arith, AllByRecursion, list_all, cons_option, append_assoc, append-nil, bytes_eq-Decides, is_code_byte, each_after, Input, Stream, tokens_of, Keyword, scale_text, Declaration, Variable, IdCode, variables_of, code_of, codes_of, open_scopes, enclosing, path_of, Header, header_of, three_lines_of, end_line, Selected, is_selected, with_path, marked_places, is_among, selects_code, Reading, phrases_of, texts_of, AtLast, header_fault_of, HeaderPhrase, declared_code, Opened, stream_over, Opens, most_declared, IsHeadFor, HeadIsReadBack, IsWord, texts_from, texts_of-tokens, AreCodes, IsDeclared, AreDeclared, head_of, reads_head, header_back, Open, HasOpen, has_none, written, text_of_rows, opens_more, own_mark, around_marks}
use Rattle.vcd_model.specs.HeadText.{head_text, head_for}
use Rattle.vcd_model.specs.Selection.{selected}
use Rattle.vcd_model.specs.Reading.{reading_of}
use Rattle.vcd_model.specs.HeaderReading.{read_header}
use Rattle.vcd_laws.proofs.OpenedBodies.{opens_good}
use Rattle.vcd_laws.proofs.HeadersGood.{IsGoodHeader, headers_good}
use Rattle.vcd_laws.proofs.WrittenDeclared.{IsRenaming, IsInside, IsReady, AreReady, image, IsWritten, is_written}
use Rattle.vcd_laws.proofs.WrittenCodes.{In, from_contained, to_contained, in_map, from_map, any_of, from_any, from_codes_of, to_codes_of, found_in}

-- ---- what may be written

pub declared_at : (earlier front back : List Declaration) (d : Declaration)
    → AreDeclared earlier (front ++ d ∷ back) → IsDeclared (earlier ++ front) d
declared_at earlier [] back d are = rw append-nil are.0
declared_at earlier (x ∷ front) back d are =
    subst (λ (l : List Declaration). IsDeclared l d) (append_assoc earlier (x ∷ []) front)
    (declared_at (earlier ++ x ∷ []) front back d are.1)

module _ (names : List (List ℕ)) (ds : List Declaration) where
  -- the indexes that are marked
  abbrev pub marks : ℕ → Bool
  marks = is_among (marked_places names ds)

  module _ (rename : List ℕ → List ℕ) (M : Variable → Type 0) (outer : List Variable)
      (base : List (List ℕ)) (inner : List ℕ → List ℕ) (renames : IsRenaming rename marks M outer)
      (inside : IsInside base inner)
      (depth : (front back : List Declaration) (type name : List ℕ)
      → ds ≡ front ++ Declaration.Scope type name ∷ back
      → open_scopes front + length base < 1000)
      (member : (front back : List Declaration) (v : Variable)
      → ds ≡ front ++ Declaration.Var v ∷ back → M v) where
    one_ready : (front back : List Declaration) (d : Declaration) (s : List Open) → HasOpen front s
        → AreDeclared front (d ∷ back) → ds ≡ front ++ d ∷ back
        → IsReady rename marks names M outer base inner renames inside front d
    one_ready front back (Declaration.Scope type name) s is are e = let x = are.0 in
        (depth front back type name e, x.1, x.2)
    one_ready front back Declaration.Up s is are e = are.0
    one_ready front back (Declaration.Var v) s is are e = (
      are.0,
      member front back v e,
      record {
        own = ap (λ (l : List Declaration). is_among (marked_places names l) (length front)) e
            ∙ own_mark names front back v s is are (is_selected names front (Declaration.Var v))
            refl;
        around = λ some. subst (λ (l : List Declaration). AllByRecursion
            (λ i. is_among (marked_places names l) i ≡ true) (enclosing front)) (sym e)
            (around_marks names front back v some);
      },
    )

    ready_from : (back front : List Declaration) (s : List Open) → HasOpen front s
        → AreDeclared front back → ds ≡ front ++ back
        → AreReady rename marks names M outer base inner renames inside front back
    ready_from [] front s is are e = tt
    ready_from (d ∷ back) front s is are e =
        let more = opens_more front d s is are.0 in (
          one_ready front back d s is are e,
          ready_from back (front ++ d ∷ []) more.0 more.1 are.1
              (e ∙ sym (append_assoc front (d ∷ []) back)),
        )

    pub all_ready : AreDeclared [] ds
        → AreReady rename marks names M outer base inner renames inside [] ds
    all_ready are = ready_from ds [] [] has_none are refl

-- ---- under the codes that they have

-- a variable's code is a word of bytes that a code may have
abbrev pub HasCode : Variable → Type 0
HasCode v = IsWord v.code × (list_all is_code_byte v.code ≡ true)

abbrev pub own_code : List ℕ → List ℕ
own_code code = code

pub same_codes : (marked : ℕ → Bool) → IsRenaming own_code marked HasCode []
same_codes marked = record {
  words = λ v m. m.0;
  bytes = λ v m. m.1;
  outside = λ v m. tt;
  inside = λ u v m n e. e;
}

pub no_scope : IsInside [] (λ p. p)
no_scope ns n = rw (append-nil ns) refl

module _ (names : List (List ℕ)) (ds : List Declaration) (are : AreDeclared [] ds) where
  abbrev pub kept_rows : List Declaration
  kept_rows = written own_code (marks names ds) ds

  shallow : (front back : List Declaration) (type name : List ℕ)
      → ds ≡ front ++ Declaration.Scope type name ∷ back
      → open_scopes front + length {A = List ℕ} [] < 1000
  shallow front back type name e =
      let h =
      declared_at [] front back (Declaration.Scope type name) (subst (AreDeclared []) e are) in
      let low = h.0 in omega arith

  coded : (front back : List Declaration) (v : Variable) → ds ≡ front ++ Declaration.Var v ∷ back
      → HasCode v
  coded front back v e =
      let h = declared_at [] front back (Declaration.Var v) (subst (AreDeclared []) e are) in
      (h.code, h.bytes)

  pub rows_written : IsWritten own_code (marks names ds) names HasCode [] [] (λ p. p)
      (same_codes (marks names ds)) no_scope [] ds
  rows_written =
      is_written own_code (marks names ds) names HasCode [] [] (λ p. p)
      (same_codes (marks names ds)) no_scope [] ds [] has_none refl refl
      (all_ready names ds own_code HasCode [] [] (λ p. p) (same_codes (marks names ds)) no_scope
      shallow coded are)

  map_same : (vs : List Selected)
      → map (image own_code (marks names ds) names HasCode [] [] (λ p. p)
      (same_codes (marks names ds)) no_scope) vs ≡ vs
  map_same [] = refl
  map_same (v ∷ vs) = ap (λ l. v ∷ l) (map_same vs)

  pub rows_declared : AreDeclared [] kept_rows
  rows_declared = let w = rows_written in w.declared

  pub rows_few : length kept_rows ≤ length ds + open_scopes ds
  rows_few = let w = rows_written in w.few

  pub rows_selected : selected [] kept_rows ≡ selected names ds
  unfolding selected
  rows_selected = let w = rows_written in w.chosen ∙ map_same (selected names ds)

-- ---- the codes

selected_in : (names : List (List ℕ)) (earlier ds : List Declaration) (s : Selected)
    → In s (filter_map (λ o. o) (each_after (with_path names) earlier ds))
    → In s.variable (variables_of ds)
selected_in names earlier [] s i = absurd i
selected_in names earlier (Declaration.Scope type name ∷ ds) s i =
    selected_in names (earlier ++ Declaration.Scope type name ∷ []) ds s i
selected_in names earlier (Declaration.Up ∷ ds) s i =
    selected_in names (earlier ++ Declaration.Up ∷ []) ds s i
selected_in names earlier (Declaration.Var v ∷ ds) s i =
    by_case (is_selected names earlier (Declaration.Var v)) i
    (selected_in names (earlier ++ Declaration.Var v ∷ []) ds s)
  where
    rest : List Selected
    rest = filter_map (λ o. o) (each_after (with_path names) (earlier ++ Declaration.Var v ∷ []) ds)

    by_case : (b : Bool) → In s (cons_option (cond b
        (Some (record { path = path_of earlier (Declaration.Var v); variable = v })) None) rest)
        → (In s rest → In s.variable (variables_of ds)) → In s.variable (v ∷ variables_of ds)
    by_case true (inl e) more = inl (ap (λ (x : Selected). x.variable) e)
    by_case true (inr j) more = inr (more j)
    by_case false j more = inr (more j)

-- without names each variable is selected
pub all_selected : (earlier ds : List Declaration)
    → map (λ (s : Selected). s.variable) (filter_map (λ o. o)
    (each_after (with_path []) earlier ds)) ≡ variables_of ds
all_selected earlier [] = refl
all_selected earlier (Declaration.Scope type name ∷ ds) =
    all_selected (earlier ++ Declaration.Scope type name ∷ []) ds
all_selected earlier (Declaration.Up ∷ ds) = all_selected (earlier ++ Declaration.Up ∷ []) ds
all_selected earlier (Declaration.Var v ∷ ds) =
    ap (λ l. v ∷ l) (all_selected (earlier ++ Declaration.Var v ∷ []) ds)

pub in_selected : (names : List (List ℕ)) (ds : List Declaration) (s : Selected)
    → In s (selected names ds) → In s.variable (variables_of ds)
unfolding selected
in_selected names ds s i = selected_in names [] ds s i

pub variables_are : (ds : List Declaration)
    → map (λ (s : Selected). s.variable) (selected [] ds) ≡ variables_of ds
unfolding selected
variables_are ds = all_selected [] ds

-- declarations of the selected variables have the codes that these carry
pub codes_there : (names : List (List ℕ)) (ds es : List Declaration) → AreDeclared [] ds
    → selected [] es ≡ selected names ds → (c : IdCode) → In c (codes_of es)
    → In c (codes_of ds) × IsTrue (selects_code (selected names ds) c)
codes_there names ds es are same c i =
    let from = from_codes_of es c i in
    let v = from.0 in
    let there : In v (map (λ (s : Selected). s.variable) (selected names ds)) =
    subst (In v) (sym (variables_are es) ∙ ap (map (λ (s : Selected). s.variable)) same)
    from.1 in
    let s = from_map (λ (s : Selected). s.variable) (selected names ds) v there in
    let own = to_codes_of ds s.0.variable are (in_selected names ds s.0 s.1) in
    let code : c ≡ code_of s.0.variable = from.2 ∙ ap code_of s.2 in (
      subst (λ (d : IdCode). In d (codes_of ds)) (sym code) own,
      any_of
          (λ (x : Selected). bytes_eq x.variable.code c.text) (selected names ds) s.0 s.1
          ((bytes_eq-Decides s.0.variable.code c.text).1 (ap (λ (d : IdCode). d.text) (sym code))),
    )

pub codes_back : (names : List (List ℕ)) (ds es : List Declaration) → AreDeclared [] ds
    → AreDeclared [] es → AreCodes (codes_of ds) → selected [] es ≡ selected names ds → (c : IdCode)
    → In c (codes_of ds) → selects_code (selected names ds) c ≡ true → In c (codes_of es)
codes_back names ds es are fine found same c i picked =
    let s = from_any (λ (x : Selected). bytes_eq x.variable.code c.text) (selected names ds)
    picked in
    let v = s.0.variable in
    let own = to_codes_of ds v are (in_selected names ds s.0 s.1) in
    let text : v.code ≡ c.text = (bytes_eq-Decides v.code c.text).0 s.2 in
    let one : declared_code (codes_of ds) v.code ≡ Some (code_of v) =
    found_in (codes_of ds) (code_of v) found own in
    let other : declared_code (codes_of ds) c.text ≡ Some c = found_in (codes_of ds) c found i in
    let both : Some (code_of v) ≡ Some c = sym one ∙ ap (declared_code (codes_of ds)) text
    ∙ other in
    let code : code_of v ≡ c = cc in
    let there : In v (variables_of es) =
    subst (In v) (ap (map (λ (x : Selected). x.variable)) (sym same) ∙ variables_are es)
    (in_map (λ (x : Selected). x.variable) (selected names ds) s.0 s.1) in
    subst (λ (d : IdCode). In d (codes_of es)) code (to_codes_of es v fine there)

-- ---- the header

pub head_is : (h : Header) (names : List (List ℕ))
    → head_for h names ≡ head_of h (written own_code (marks names h.declarations) h.declarations)
unfolding head_for head_text
head_is h names =
    ap (λ l. three_lines_of Keyword.Date h.date ++ three_lines_of Keyword.Version h.version
    ++ three_lines_of Keyword.Timescale (unwrap_or (option_map scale_text h.scale) []) ++ l
    ++ end_line)
    (text_of_rows own_code (marks names h.declarations) h.declarations)

says : (h : Header) (names : List (List ℕ)) (es : List Declaration) → IsGoodHeader h
    → AreCodes h.codes → AreDeclared [] es → selected [] es ≡ selected names h.declarations
    → IsHeadFor h names (record {
      declarations = es;
      codes = codes_of es;
      date = h.date;
      version = h.version;
      scale = h.scale;
    })
says h names es good found fine same = record {
  date = refl;
  version = refl;
  scale = refl;
  variables = same;
  codes = λ c. (
    λ i. let a = codes_there names h.declarations es good.declared same c
        (from_contained (codes_of es) c i) in
        (to_contained h.codes c (subst (In c) (sym good.codes) a.0), a.1),
    λ i. to_contained (codes_of es) c (codes_back names h.declarations es good.declared fine
        (subst AreCodes good.codes found) same c
        (subst (In c) good.codes (from_contained h.codes c i.0)) i.1),
  );
}

-- a reading that ends with its last phrase has no fault
pub no_fault : (stream : Stream) (r : Reading HeaderPhrase) → r.ending ≡ AtLast
    → header_fault_of stream r ≡ None
no_fault stream r e = rw e refl

-- the reading of a head and what follows it
pub record IsHeadRead (h : Header) (names : List (List ℕ)) (stream : Stream)
    (r : Reading HeaderPhrase) (text : List ℕ) : Type 0 where
  pub whole : header_fault_of stream r ≡ None
  pub head : IsHeadFor h names (header_of (phrases_of r.placed))
  pub left : texts_of r.rest ≡ texts_of (tokens_of text)
  pub rows : (header_of (phrases_of r.placed)).declarations
      ≡ written own_code (marks names h.declarations) h.declarations

pub head_read : (h : Header) (names : List (List ℕ)) (most : ℕ) (stream : Stream) (text : List ℕ)
    → IsGoodHeader h → AreCodes h.codes → most_declared h ≤ most
    → texts_of stream.tokens ≡ texts_from true (head_for h names ++ text)
    → IsHeadRead h names stream (read_header most stream) text
unfolding read_header reading_of
head_read h names most stream text good found few e =
    let es = written own_code (marks names h.declarations) h.declarations in
    let fine = rows_declared names h.declarations good.declared in
    let fewer = rows_few names h.declarations good.declared in
    let all = reads_head most h good.parts es text stream.tokens fine (omega arith)
    (e ∙ ap (λ l. texts_from true (l ++ text)) (head_is h names)) in
    let back : header_of (phrases_of (read_header most stream).placed) ≡ record {
      declarations = es;
      codes = codes_of es;
      date = h.date;
      version = h.version;
      scale = h.scale;
    } = ap header_of all.phrases ∙ header_back h good.parts es in
    record {
      whole = no_fault stream (read_header most stream) all.ending;
      head = subst (IsHeadFor h names) (sym back)
          (says h names es good found fine (rows_selected names h.declarations good.declared));
      left = all.texts ∙ sym (texts_of-tokens text);
      rows = ap (λ (x : Header). x.declarations) back;
    }

-- the header of an opened input is good
pub opens_header : (limit : ℕ) (input : Input) (o : Opened) → Opens limit input o
    → IsGoodHeader o.header
opens_header limit input o h = (headers_good limit [] (input ∷ []) (o ∷ []) h).0

pub head_is_read_back : HeadIsReadBack
head_is_read_back limit input o names text most opens few =
    let whole = head_for o.header names ++ text in
    let good = opens_good limit input o opens in
    let r = head_read o.header names most (stream_over whole) text
    (opens_header limit input o opens) good.codes few (texts_of-tokens whole) in
    record { whole = r.whole; says = r.head; left = r.left }
