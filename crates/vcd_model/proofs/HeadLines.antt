-- The lines of a head, read as a text: its phrases, and then what follows it.
use Rattle.vcd_model.proofs.Cited.{◌≡◌, ℕ, ℤ, ◌<◌, ◌≤◌, ◌^◌, true, false, not, List, [], ◌∷◌, ◌++◌, length, map, flat_map, filter_map, decimal, Option, Some, None, option_map, unwrap_or, refl, sym, ap, ◌∙◌, arith, AllByRecursion, list_all, join_with_byte, append_assoc, map-append, filter_map-append, and_parts, not-true, is_white_space, is_empty, as_line, Keyword, keyword_text, scale_text, Token, Declaration, codes_of, Header, three_lines, three_lines_of, scope_line, up_line, var_line, end_line, Placed, phrases_of, texts_of, HeaderPhrase, HasNoEnd, declaration_of, declarations_of, date_of, version_of, timescale_of, Date, Version, Timescale, Declares, EndDefinitions}
use Rattle.vcd_model.specs.Header.{header_of}
use Rattle.vcd_model.proofs.TokenTexts.{IsWord, texts_from, texts_from-word}
use Rattle.vcd_model.proofs.Decimals.{spells}
use Rattle.vcd_model.proofs.HeaderGrammar.{end_text}
use Rattle.vcd_model.proofs.BodyFacts.{all_append}
use Rattle.vcd_model.proofs.Lines.{word_line}
use Rattle.vcd_model.proofs.HeadPhrases.{IsGoodScale, declaration_tokens, IsDeclared, AreDeclared, read_on, ReadsPhrases, ReadsHead, reads_none, reads_declarations, reads_date, reads_version, reads_timescale, reads_end, reads_to_end}

-- ---- words

pub all_plain : (bs : List ℕ) → list_all (λ b. not (is_white_space b)) bs ≡ true
    → AllByRecursion (λ b. is_white_space b ≡ false) bs
all_plain [] h = tt
all_plain (b ∷ bs) h =
    let a = and_parts (not (is_white_space b)) (list_all (λ c. not (is_white_space c)) bs) h in
    (not-true (is_white_space b) a.0, all_plain bs a.1)

pub plain_word : (text : List ℕ) → 0 < length text
    → list_all (λ b. not (is_white_space b)) text ≡ true → IsWord text
plain_word text l h = record { filled = l; plain = all_plain text h }

pub keyword_word : (k : Keyword) → IsWord (keyword_text k)
keyword_word Keyword.Comment = plain_word _ (omega arith) refl
keyword_word Keyword.Date = plain_word _ (omega arith) refl
keyword_word Keyword.EndDefinitions = plain_word _ (omega arith) refl
keyword_word Keyword.Scope = plain_word _ (omega arith) refl
keyword_word Keyword.Timescale = plain_word _ (omega arith) refl
keyword_word Keyword.Upscope = plain_word _ (omega arith) refl
keyword_word Keyword.Var = plain_word _ (omega arith) refl
keyword_word Keyword.Version = plain_word _ (omega arith) refl
keyword_word Keyword.DumpAll = plain_word _ (omega arith) refl
keyword_word Keyword.DumpOff = plain_word _ (omega arith) refl
keyword_word Keyword.DumpOn = plain_word _ (omega arith) refl
keyword_word Keyword.DumpVars = plain_word _ (omega arith) refl
keyword_word Keyword.End = plain_word _ (omega arith) refl

pub decimal_word : (n : ℕ) → n < 2 ^ 64 → IsWord (decimal n)
decimal_word n h = let s = spells n h in record {
  filled = some (decimal n) s.filled;
  plain = s.plain;
}
  where
    some : (ds : List ℕ) → is_empty ds ≡ false → 0 < length ds
    some [] e = cc
    some (d ∷ ds) e = omega arith

-- the words of a line
pub line_words : (ws : List (List ℕ)) (rest : List ℕ) → AllByRecursion IsWord ws
    → texts_from true (as_line (join_with_byte 32 ws) ++ rest) ≡ ws ++ texts_from true rest
line_words [] rest all = refl
line_words (w ∷ []) rest all = word_line w rest all.0
line_words (w ∷ x ∷ ws) rest all =
    let j = join_with_byte 32 (x ∷ ws) in
    ap (texts_from true) (ap (λ l. l ++ rest) (append_assoc w (32 ∷ j) (10 ∷ []))
    ∙ append_assoc w (32 ∷ j ++ 10 ∷ []) rest)
    ∙ texts_from-word w 32 ((j ++ 10 ∷ []) ++ rest) all.0 refl
    ∙ ap (λ l. w ∷ l) (line_words (x ∷ ws) rest all.1)

-- a keyword, words after a tab, and `$end`, on three lines
pub three_words : (k : Keyword) (ws : List (List ℕ)) (rest : List ℕ) → AllByRecursion IsWord ws
    → texts_from true (three_lines k (join_with_byte 32 ws) ++ rest) ≡ keyword_text k ∷ ws
    ++ end_text ∷ texts_from true rest
three_words k ws rest all =
    let j = join_with_byte 32 ws in
    ap (texts_from true) (append_assoc (as_line (keyword_text k) ++ as_line (9 ∷ j))
    (as_line end_text) rest ∙ append_assoc (as_line (keyword_text k)) (as_line (9 ∷ j))
    (as_line end_text ++ rest))
    ∙ word_line (keyword_text k) (as_line (9 ∷ j) ++ (as_line end_text ++ rest)) (keyword_word k)
    ∙ ap (λ l. keyword_text k ∷ l) (
    line_words ws (as_line end_text ++ rest) all
    ∙ ap (λ l. ws ++ l) (word_line end_text rest (keyword_word Keyword.End))
    )

-- ---- declarations

-- the line of a declaration
abbrev pub declaration_line : Declaration → List ℕ
declaration_line (Declaration.Scope type name) = scope_line type name
declaration_line Declaration.Up = up_line
declaration_line (Declaration.Var v) = var_line v v.code

declaration_words : (earlier : List Declaration) (d : Declaration) (rest : List ℕ)
    → IsDeclared earlier d → texts_from true (declaration_line d ++ rest) ≡ declaration_tokens d
    ++ texts_from true rest
declaration_words earlier (Declaration.Scope type name) rest is =
    line_words (keyword_text Keyword.Scope ∷ type ∷ name ∷ end_text ∷ []) rest
    (keyword_word Keyword.Scope, (is.1.word, (is.2.word, (keyword_word Keyword.End, tt))))
declaration_words earlier Declaration.Up rest is =
    line_words (keyword_text Keyword.Upscope ∷ end_text ∷ []) rest
    (keyword_word Keyword.Upscope, (keyword_word Keyword.End, tt))
declaration_words earlier (Declaration.Var v) rest is =
    line_words (keyword_text Keyword.Var ∷ v.type ∷ decimal v.size ∷ v.code ∷ v.reference
    ++ end_text ∷ []) rest (
      keyword_word Keyword.Var,
      (
        is.type,
        (
          decimal_word v.size (let s = is.small in omega arith),
          (
            is.code,
            all_append IsWord v.reference (end_text ∷ []) is.words
                (keyword_word Keyword.End, tt),
          ),
        ),
      ),
    )

pub declarations_words : (earlier ds : List Declaration) (rest : List ℕ) → AreDeclared earlier ds
    → texts_from true (flat_map declaration_line ds ++ rest) ≡ flat_map declaration_tokens ds
    ++ texts_from true rest
declarations_words earlier [] rest are = refl
declarations_words earlier (d ∷ ds) rest are =
    ap (texts_from true) (append_assoc (declaration_line d) (flat_map declaration_line ds) rest)
    ∙ declaration_words earlier d (flat_map declaration_line ds ++ rest) are.0
    ∙ ap (λ l. declaration_tokens d ++ l) (declarations_words (earlier ++ d ∷ []) ds rest are.1)
    ∙ sym (append_assoc (declaration_tokens d) (flat_map declaration_tokens ds)
    (texts_from true rest))

-- ---- a whole head

-- the tokens of a date or a version, none if there is no text
abbrev pub text_tokens : Keyword → List (List ℕ) → List (List ℕ)
text_tokens k [] = []
text_tokens k (w ∷ ws) = keyword_text k ∷ (w ∷ ws) ++ end_text ∷ []

abbrev pub scale_tokens : Option ℤ → List (List ℕ)
scale_tokens None = []
scale_tokens (Some e) = keyword_text Keyword.Timescale ∷ scale_text e ∷ end_text ∷ []

-- the phrase of a date or a version, none if there is no text
abbrev pub text_phrases : (List (List ℕ) → HeaderPhrase) → List (List ℕ) → List HeaderPhrase
text_phrases f [] = []
text_phrases f (w ∷ ws) = f (w ∷ ws) ∷ []

abbrev pub scale_phrases : Option ℤ → List HeaderPhrase
scale_phrases None = []
scale_phrases (Some e) = Timescale e ∷ []

-- some scale: its text is read as it again
abbrev pub AreGoodScales : Option ℤ → Type 0
AreGoodScales None = Unit {0}
AreGoodScales (Some e) = IsGoodScale e

text_lines : (k : Keyword) (ws : List (List ℕ)) (rest : List ℕ) → AllByRecursion IsWord ws
    → texts_from true (three_lines_of k (join_with_byte 32 ws) ++ rest) ≡ text_tokens k ws
    ++ texts_from true rest
text_lines k [] rest all = refl
text_lines k (w ∷ ws) rest all =
    rw (joined w ws all.0) (three_words k (w ∷ ws) rest all
    ∙ ap (λ l. keyword_text k ∷ l) (sym (append_assoc (w ∷ ws) (end_text ∷ [])
    (texts_from true rest))))
  where
    joined : (w : List ℕ) (ws : List (List ℕ)) → IsWord w
        → is_empty (join_with_byte 32 (w ∷ ws)) ≡ false
    joined [] ws is = absurd (let h = is.filled in omega arith)
    joined (b ∷ bs) [] is = refl
    joined (b ∷ bs) (x ∷ ws) is = refl

scale_lines : (scale : Option ℤ) (rest : List ℕ) → AreGoodScales scale
    → texts_from true (three_lines_of Keyword.Timescale (unwrap_or (option_map scale_text scale) [])
    ++ rest) ≡ scale_tokens scale ++ texts_from true rest
scale_lines None rest good = refl
scale_lines (Some e) rest good =
    text_lines Keyword.Timescale (scale_text e ∷ []) rest
    (record { filled = good.filled; plain = all_plain (scale_text e) good.plain }, tt)

-- what a head is written from
pub record AreParts (h : Header) : Type 0 where
  pub dates : List (List ℕ)
  pub date : h.date ≡ join_with_byte 32 dates
  pub date_words : AllByRecursion IsWord dates
  pub date_none : HasNoEnd dates
  pub versions : List (List ℕ)
  pub version : h.version ≡ join_with_byte 32 versions
  pub version_words : AllByRecursion IsWord versions
  pub version_none : HasNoEnd versions
  pub scale : AreGoodScales h.scale

-- the head of these declarations
abbrev pub head_of : Header → List Declaration → List ℕ
head_of h ds =
    three_lines_of Keyword.Date h.date
    ++ three_lines_of Keyword.Version h.version
    ++ three_lines_of Keyword.Timescale (unwrap_or (option_map scale_text h.scale) [])
    ++ flat_map declaration_line ds
    ++ end_line

-- the phrases that it is read as
abbrev pub phrases_in : (h : Header) → AreParts h → List Declaration → List HeaderPhrase
phrases_in h parts ds = text_phrases Date parts.dates
    ++ (text_phrases Version parts.versions ++ (scale_phrases h.scale
    ++ (map Declares ds ++ EndDefinitions ∷ [])))

pub head_words : (h : Header) (parts : AreParts h) (ds : List Declaration) (text : List ℕ)
    → AreDeclared [] ds
    → texts_from true (head_of h ds ++ text) ≡ text_tokens Keyword.Date parts.dates
    ++ (text_tokens Keyword.Version parts.versions
    ++ (scale_tokens h.scale ++ (flat_map declaration_tokens ds
    ++ keyword_text Keyword.EndDefinitions ∷ end_text ∷ texts_from true text)))
head_words h parts ds text are =
    let date = three_lines_of Keyword.Date (join_with_byte 32 parts.dates) in
    let version = three_lines_of Keyword.Version (join_with_byte 32 parts.versions) in
    let scale = three_lines_of Keyword.Timescale (unwrap_or (option_map scale_text h.scale) []) in
    let rows = flat_map declaration_line ds in
    let behind : texts_from true (rows ++ (end_line ++ text)) ≡ flat_map declaration_tokens ds
    ++ keyword_text Keyword.EndDefinitions ∷ end_text ∷ texts_from true text
    = declarations_words [] ds (end_line ++ text) are
    ∙ ap (λ l. flat_map declaration_tokens ds ++ l)
    (line_words (keyword_text Keyword.EndDefinitions ∷ end_text ∷ []) text
    (keyword_word Keyword.EndDefinitions, (keyword_word Keyword.End, tt))) in
    let third = scale_lines h.scale (rows ++ (end_line ++ text)) parts.scale
    ∙ ap (λ l. scale_tokens h.scale ++ l) behind in
    let second = text_lines Keyword.Version parts.versions (scale ++ (rows ++ (end_line ++ text)))
    parts.version_words ∙ ap (λ l. text_tokens Keyword.Version parts.versions ++ l) third in
    let first = text_lines Keyword.Date parts.dates
    (version ++ (scale ++ (rows ++ (end_line ++ text)))) parts.date_words
    ∙ ap (λ l. text_tokens Keyword.Date parts.dates ++ l) second in
    rw (parts.date, parts.version)
    (ap (texts_from true) (append_assoc (date ++ version ++ scale ++ rows) end_line text
    ∙ append_assoc (date ++ version ++ scale) rows (end_line ++ text)
    ∙ append_assoc (date ++ version) scale (rows ++ (end_line ++ text))
    ∙ append_assoc date version (scale ++ (rows ++ (end_line ++ text))))
    ∙ first)

module _ (most : ℕ) where
  text_part : (k : Keyword) (f : List (List ℕ) → HeaderPhrase) (done : List (Placed HeaderPhrase))
      (ws : List (List ℕ)) (ts : List Token) (more : List (List ℕ)) → HasNoEnd ws
      → ((ts : List Token) → HasNoEnd ws → texts_of ts ≡ keyword_text k ∷ ws ++ end_text ∷ more
      → ReadsPhrases most done (f ws ∷ []) ts more) → texts_of ts ≡ text_tokens k ws ++ more
      → ReadsPhrases most done (text_phrases f ws) ts more
  text_part k f done [] ts more none reads e = reads_none most done ts more e
  text_part k f done (w ∷ ws) ts more none reads e =
      reads ts none (e ∙ ap (λ l. keyword_text k ∷ l) (append_assoc (w ∷ ws) (end_text ∷ []) more))

  scale_part : (done : List (Placed HeaderPhrase)) (scale : Option ℤ) (ts : List Token)
      (more : List (List ℕ)) → AreGoodScales scale → texts_of ts ≡ scale_tokens scale ++ more
      → ReadsPhrases most done (scale_phrases scale) ts more
  scale_part done None ts more good e = reads_none most done ts more e
  scale_part done (Some x) ts more good e = reads_timescale most done x ts more good e

  no_declarations : (f : List (List ℕ) → HeaderPhrase) (ws : List (List ℕ))
      → ((ws : List (List ℕ)) → declaration_of (f ws) ≡ None)
      → declarations_of (text_phrases f ws) ≡ []
  no_declarations f [] h = refl
  no_declarations f (w ∷ ws) h = rw (h (w ∷ ws)) refl

  no_declaration : (scale : Option ℤ) → declarations_of (scale_phrases scale) ≡ []
  no_declaration None = refl
  no_declaration (Some e) = refl

  declared_in : (done placed : List (Placed HeaderPhrase)) (ps : List HeaderPhrase)
      → declarations_of (phrases_of done) ≡ [] → phrases_of placed ≡ ps → declarations_of ps ≡ []
      → declarations_of (phrases_of (done ++ placed)) ≡ []
  declared_in done placed ps e p none = ap declarations_of (map-append (λ p. p.phrase) done placed)
      ∙ filter_map-append declaration_of (phrases_of done) (phrases_of placed)
      ∙ rw (e, p, none) refl

  -- a head, and whatever follows it, is read as the phrases that it was written from
  pub reads_head : (h : Header) (parts : AreParts h) (ds : List Declaration) (text : List ℕ)
      (ts : List Token) → AreDeclared [] ds → length ds ≤ most
      → texts_of ts ≡ texts_from true (head_of h ds ++ text)
      → ReadsHead most [] (phrases_in h parts ds) (read_on most [] ts) (texts_from true text)
  reads_head h parts ds text ts are few e =
      let last = keyword_text Keyword.EndDefinitions ∷ end_text ∷ texts_from true text in
      let rows = flat_map declaration_tokens ds ++ last in
      let scaled = scale_tokens h.scale ++ rows in
      let dated = text_tokens Keyword.Version parts.versions ++ scaled in
      reads_to_end most [] (text_phrases Date parts.dates)
      (text_phrases Version parts.versions
      ++ (scale_phrases h.scale ++ (map Declares ds ++ EndDefinitions ∷ []))) ts dated
      (texts_from true text)
      (text_part Keyword.Date Date [] parts.dates ts dated parts.date_none
      (λ us none f. reads_date most [] parts.dates us dated none f)
      (e ∙ head_words h parts ds text are))
      (λ p1 t1 q1 e1. let d1 =
      declared_in [] p1 (text_phrases Date parts.dates) refl q1
      (no_declarations Date parts.dates (λ ws. refl)) in
      reads_to_end most p1 (text_phrases Version parts.versions)
      (scale_phrases h.scale ++ (map Declares ds ++ EndDefinitions ∷ [])) t1 scaled
      (texts_from true text)
      (text_part Keyword.Version Version p1 parts.versions t1 scaled parts.version_none
      (λ us none f. reads_version most p1 parts.versions us scaled none f) e1)
      (λ p2 t2 q2 e2. let d2 =
      declared_in p1 p2 (text_phrases Version parts.versions) d1 q2
      (no_declarations Version parts.versions (λ ws. refl)) in
      reads_to_end most (p1 ++ p2) (scale_phrases h.scale) (map Declares ds ++ EndDefinitions ∷ [])
      t2 rows (texts_from true text)
      (scale_part (p1 ++ p2) h.scale t2 rows parts.scale e2)
      (λ p3 t3 q3 e3. let d3 =
      declared_in (p1 ++ p2) p3 (scale_phrases h.scale) d2 q3 (no_declaration h.scale) in
      reads_to_end most (p1 ++ p2 ++ p3) (map Declares ds) (EndDefinitions ∷ []) t3 last
      (texts_from true text)
      (reads_declarations most (p1 ++ p2 ++ p3) [] ds t3 last d3 (omega arith) are e3)
      (λ p4 t4 q4 e4. reads_end most (p1 ++ p2 ++ p3 ++ p4) t4 (texts_from true text) e4))))

-- ---- the header of these phrases

abbrev rows_in : List Declaration → List HeaderPhrase
rows_in ds = map Declares ds ++ EndDefinitions ∷ []

declared_rows : (ds : List Declaration) → declarations_of (rows_in ds) ≡ ds
declared_rows [] = refl
declared_rows (d ∷ ds) = ap (λ l. d ∷ l) (declared_rows ds)

no_date : (ds : List Declaration) → filter_map date_of (rows_in ds) ≡ []
no_date [] = refl
no_date (d ∷ ds) = no_date ds

no_version : (ds : List Declaration) → filter_map version_of (rows_in ds) ≡ []
no_version [] = refl
no_version (d ∷ ds) = no_version ds

no_scale : (ds : List Declaration) → filter_map timescale_of (rows_in ds) ≡ []
no_scale [] = refl
no_scale (d ∷ ds) = no_scale ds

header_parts : (dates versions : List (List ℕ)) (scale : Option ℤ) (ds : List Declaration)
    → header_of (text_phrases Date dates ++ (text_phrases Version versions
    ++ (scale_phrases scale ++ rows_in ds)))
    ≡ record {
      declarations = ds;
      codes = codes_of ds;
      date = join_with_byte 32 dates;
      version = join_with_byte 32 versions;
      scale = scale;
    }
unfolding header_of
header_parts [] [] None ds = rw (declared_rows ds, no_date ds, no_version ds, no_scale ds) refl
header_parts [] [] (Some e) ds = rw (declared_rows ds, no_date ds, no_version ds, no_scale ds) refl
header_parts [] (v ∷ vs) None ds =
    rw (declared_rows ds, no_date ds, no_version ds, no_scale ds) refl
header_parts [] (v ∷ vs) (Some e) ds =
    rw (declared_rows ds, no_date ds, no_version ds, no_scale ds) refl
header_parts (w ∷ ws) [] None ds =
    rw (declared_rows ds, no_date ds, no_version ds, no_scale ds) refl
header_parts (w ∷ ws) [] (Some e) ds =
    rw (declared_rows ds, no_date ds, no_version ds, no_scale ds) refl
header_parts (w ∷ ws) (v ∷ vs) None ds =
    rw (declared_rows ds, no_date ds, no_version ds, no_scale ds) refl
header_parts (w ∷ ws) (v ∷ vs) (Some e) ds =
    rw (declared_rows ds, no_date ds, no_version ds, no_scale ds) refl

-- the header that a head is read as
pub header_back : (h : Header) (parts : AreParts h) (ds : List Declaration)
    → header_of (phrases_in h parts ds) ≡ record {
      declarations = ds;
      codes = codes_of ds;
      date = h.date;
      version = h.version;
      scale = h.scale;
    }
header_back h parts ds = header_parts parts.dates parts.versions h.scale ds
    ∙ rw (parts.date, parts.version) refl
