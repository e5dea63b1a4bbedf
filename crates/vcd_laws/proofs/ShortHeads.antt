-- A head that is written for a header has tokens no longer than those of the header, and no longer
-- than 64 bytes otherwise.
use Rattle.vcd_laws.proofs.Cited.{◌≡◌, ℕ, ℤ, ◌<◌, ◌≤◌, ◌^◌, Bool, true, false, cond, List, [], ◌∷◌, ◌++◌, length, filter_map, flat_map, decimal, Option, Some, None, Ok, unwrap_or, refl, sym, ap, ◌∙◌, subst, arith, AllByRecursion, join_with_byte, last_or, cons_option, append_assoc, append-nil, map-append, length-decimal-le, as_line, Keyword, keyword_text, Input, Token, Stream, stream_of, Declaration, enclosing, Header, first_place, HeaderPhrase, IsDeclaration, declaration_of, declarations_of, date_of, version_of, Date, Version, Timescale, Declares, Unknown, EndDefinitions, header_grammar, Reading, reading_of, Placed, phrases_of, texts_of, IsGood, AreGood, IsReading, Opened, open_from, reading_is_one, header_computes, end_text, IsWord, texts_from, all_front, all_back, all_append, stream_words, inputs_all, declaration_tokens, IsDeclared, AreDeclared, line_words, AreGoodScales, AreParts, head_of, head_words, text_tokens, scale_tokens, with_code, ups_at, row_of, rows_from, written}
use Rattle.vcd_model.specs.Header.{header_of}
use Rattle.vcd_model.specs.HeaderPhrases.HeaderPhrase.{Comment}
use Rattle.vcd_model.specs.HeaderReading.{read_header}
use Rattle.vcd_laws.proofs.ShortTokens.{AllShort, stream_short}

-- ---- what is short in a header

-- a declaration of such tokens
abbrev pub ShortDeclaration : ℕ → Declaration → Type 0
ShortDeclaration limit (Declaration.Scope type name) = (length type ≤ limit) × (length name ≤ limit)
ShortDeclaration limit Declaration.Up = Unit {0}
ShortDeclaration limit (Declaration.Var v) =
    (length v.type ≤ limit) × (length v.code ≤ limit) × AllShort limit v.reference

-- a text of such tokens
abbrev pub ShortText : ℕ → List ℕ → Type 0
ShortText limit text = (ws : List (List ℕ)) × (text ≡ join_with_byte 32 ws)
    × AllByRecursion IsWord ws × AllShort limit ws

pub record IsShortHeader (limit : ℕ) (h : Header) : Type 0 where
  pub date : ShortText limit h.date
  pub version : ShortText limit h.version
  pub declared : AllByRecursion (ShortDeclaration limit) h.declarations

module _ (limit : ℕ) where
  record IsShortPhrase (p : HeaderPhrase) : Type 0 where
    date : (text : List ℕ) → date_of p ≡ Some text → ShortText limit text
    version : (text : List ℕ) → version_of p ≡ Some text → ShortText limit text
    declares : (d : Declaration) → declaration_of p ≡ Some d → ShortDeclaration limit d

  inner_short : (k : Keyword) (inner ts : List (List ℕ))
      → ts ≡ keyword_text k ∷ inner ++ end_text ∷ [] → AllByRecursion IsWord ts → AllShort limit ts
      → ShortText limit (join_with_byte 32 inner)
  inner_short k inner ts e words short =
      let w = subst (AllByRecursion IsWord) e words in
      let s = subst (AllShort limit) e short in (
        inner,
        refl,
        all_front IsWord inner (end_text ∷ []) w.1,
        all_front (λ t. length t ≤ limit)
            inner (end_text ∷ []) s.1,
      )

  declaration_short : (d : Declaration) (ts : List (List ℕ)) → IsDeclaration ts d
      → AllShort limit ts → ShortDeclaration limit d
  declaration_short (Declaration.Scope type name) ts is short =
      let s = subst (AllShort limit) is short in (s.1.0, s.1.1.0)
  declaration_short Declaration.Up ts is short = tt
  declaration_short (Declaration.Var v) ts is short = let s = subst (AllShort limit) is.3 short in
      (s.1.0, s.1.1.1.0, all_front (λ t. length t ≤ limit) v.reference (end_text ∷ []) s.1.1.1.1)

  phrase_short : (most : ℕ) (earlier : List HeaderPhrase) (own : List Token) (p : HeaderPhrase)
      (line : ℕ) → IsGood (header_grammar most) earlier own (record { phrase = p; line = line })
      → AllByRecursion IsWord (texts_of own) → AllShort limit (texts_of own) → IsShortPhrase p
  phrase_short most earlier own (Comment inner) line g words short = record {
    date = λ t e. cc;
    version = λ t e. cc;
    declares = λ d e. cc;
  }
  phrase_short most earlier own (Date inner) line g words short =
      let is = g.phrase in
      let s = inner_short Keyword.Date inner (texts_of own) is.0 words short in
      record {
        date = λ t e. let same : join_with_byte 32 inner ≡ t = cc in
            subst (ShortText limit) same s;
        version = λ t e. cc;
        declares = λ d e. cc;
      }
  phrase_short most earlier own (Version inner) line g words short =
      let is = g.phrase in
      let s = inner_short Keyword.Version inner (texts_of own) is.0 words short in
      record {
        date = λ t e. cc;
        version = λ t e. let same : join_with_byte 32 inner ≡ t = cc in
            subst (ShortText limit) same s;
        declares = λ d e. cc;
      }
  phrase_short most earlier own (Timescale x) line g words short = record {
    date = λ t e. cc;
    version = λ t e. cc;
    declares = λ d e. cc;
  }
  phrase_short most earlier own (Declares x) line g words short =
      let s = declaration_short x (texts_of own) g.phrase short in
      record {
        date = λ t e. cc;
        version = λ t e. cc;
        declares = λ d e. let same : x ≡ d = cc in
            subst (ShortDeclaration limit) same s;
      }
  phrase_short most earlier own (Unknown command inner) line g words short = record {
    date = λ t e. cc;
    version = λ t e. cc;
    declares = λ d e. cc;
  }
  phrase_short most earlier own EndDefinitions line g words short = record {
    date = λ t e. cc;
    version = λ t e. cc;
    declares = λ d e. cc;
  }

  phrases_short : (most : ℕ) (earlier : List HeaderPhrase) (ts : List Token)
      (ps : List (Placed HeaderPhrase)) → AreGood (header_grammar most) earlier ts ps
      → AllByRecursion IsWord (texts_of ts) → AllShort limit (texts_of ts)
      → AllByRecursion IsShortPhrase (phrases_of ps)
  phrases_short most earlier ts [] good words short = tt
  phrases_short most earlier ts (p ∷ ps) good words short =
      let e = ap texts_of good.2 ∙ map-append (λ (x : Token). x.bytes) good.0 good.1 in
      let w = subst (AllByRecursion IsWord) e words in
      let s = subst (AllShort limit) e short in (
        phrase_short most earlier good.0 p.phrase p.line good.3
            (all_front IsWord (texts_of good.0) (texts_of good.1) w)
            (all_front (λ t. length t ≤ limit) (texts_of good.0) (texts_of good.1) s),
        phrases_short most (earlier ++ p.phrase ∷ []) good.1 ps good.4
            (all_back IsWord (texts_of good.0) (texts_of good.1) w)
            (all_back (λ t. length t ≤ limit) (texts_of good.0) (texts_of good.1) s),
      )

  abbrev ShortIfSome : Option (List ℕ) → Type 0
  ShortIfSome None = Unit {0}
  ShortIfSome (Some text) = ShortText limit text

  last_short : (f : HeaderPhrase → Option (List ℕ)) (ps : List HeaderPhrase) (o : Option (List ℕ))
      → ShortIfSome o → AllByRecursion (λ p. (text : List ℕ) → f p ≡ Some text
      → ShortText limit text) ps → ShortIfSome (last_or o (filter_map f ps))
  last_short f [] o is all = is
  last_short f (p ∷ ps) o is all = by_text (f p) all.0 (λ q g. last_short f ps q g all.1)
    where
      by_text : (x : Option (List ℕ)) → ((text : List ℕ) → x ≡ Some text → ShortText limit text)
          → ((q : Option (List ℕ)) → ShortIfSome q → ShortIfSome (last_or q (filter_map f ps)))
          → ShortIfSome (last_or o (cons_option x (filter_map f ps)))
      by_text None h more = more o is
      by_text (Some text) h more = more (Some text) (h text refl)

  some_short : (o : Option (List ℕ)) → ShortIfSome o → ShortText limit (unwrap_or o [])
  some_short None is = ([], refl, tt, tt)
  some_short (Some text) is = is

  dates_of : (ps : List HeaderPhrase) → AllByRecursion IsShortPhrase ps
      → AllByRecursion (λ p. (text : List ℕ) → date_of p ≡ Some text → ShortText limit text) ps
  dates_of [] h = tt
  dates_of (p ∷ ps) h = let s = h.0 in (s.date, dates_of ps h.1)

  versions_of : (ps : List HeaderPhrase) → AllByRecursion IsShortPhrase ps
      → AllByRecursion (λ p. (text : List ℕ) → version_of p ≡ Some text → ShortText limit text) ps
  versions_of [] h = tt
  versions_of (p ∷ ps) h = let s = h.0 in (s.version, versions_of ps h.1)

  all_declared : (ps : List HeaderPhrase) → AllByRecursion IsShortPhrase ps
      → AllByRecursion (ShortDeclaration limit) (declarations_of ps)
  all_declared [] h = tt
  all_declared (p ∷ ps) h =
      by_declaration (declaration_of p) (let s = h.0 in s.declares) (all_declared ps h.1)
    where
      by_declaration : (o : Option Declaration)
          → ((d : Declaration) → o ≡ Some d → ShortDeclaration limit d)
          → AllByRecursion (ShortDeclaration limit) (declarations_of ps)
          → AllByRecursion (ShortDeclaration limit) (cons_option o (declarations_of ps))
      by_declaration None f more = more
      by_declaration (Some d) f more = (f d refl, more)

  header_short : (ps : List HeaderPhrase) → AllByRecursion IsShortPhrase ps
      → IsShortHeader limit (header_of ps)
  unfolding header_of
  header_short ps h = record {
    date = some_short (last_or None (filter_map date_of ps))
        (last_short date_of ps None tt (dates_of ps h));
    version = some_short (last_or None (filter_map version_of ps))
        (last_short version_of ps None tt (versions_of ps h));
    declared = all_declared ps h;
  }

  -- an input whose header and body have such tokens
  pub record IsShortInput (o : Opened) : Type 0 where
    pub header : IsShortHeader limit o.header
    pub rest : AllShort limit (texts_of o.rest)

  reading_short : (most : ℕ) (stream : Stream) (r : Reading HeaderPhrase)
      → IsReading (header_grammar most) stream.tokens r
      → AllByRecursion IsWord (texts_of stream.tokens) → AllShort limit (texts_of stream.tokens)
      → IsShortInput (record {
        header = header_of (phrases_of r.placed);
        stream = stream;
        rest = r.rest;
      })
  reading_short most stream r is words short =
      let e = ap texts_of is.tokens ∙ ap texts_of (append_assoc is.done is.before r.rest)
      ∙ map-append (λ (x : Token). x.bytes) is.done (is.before ++ r.rest) in
      let w = subst (AllByRecursion IsWord) e words in
      let s = subst (AllShort limit) e short in
      let back = all_back (λ t. length t ≤ limit) (texts_of is.done)
      (texts_of (is.before ++ r.rest)) s in
      record {
        header = header_short (phrases_of r.placed)
            (phrases_short most [] is.done r.placed is.good
            (all_front IsWord (texts_of is.done) (texts_of (is.before ++ r.rest)) w)
            (all_front (λ t. length t ≤ limit) (texts_of is.done) (texts_of (is.before ++ r.rest))
            s));
        rest = all_back (λ t. length t ≤ limit) (texts_of is.before) (texts_of r.rest)
            (subst (AllShort limit) (map-append (λ (x : Token). x.bytes) is.before r.rest) back);
      }

  stream_reading_short : (most : ℕ) (input : Input)
      → IsShortInput (record {
        header = header_of (phrases_of (read_header most (stream_of limit input)).placed);
        stream = stream_of limit input;
        rest = (read_header most (stream_of limit input)).rest;
      })
  unfolding read_header
  stream_reading_short most input =
      reading_short most (stream_of limit input)
      (reading_of (header_grammar most) (stream_of limit input).tokens)
      (reading_is_one (header_grammar most) (header_computes most) (stream_of limit input).tokens)
      (stream_words limit input) (stream_short limit input)

  pub inputs_short : (earlier : List Header) (inputs : List Input) (os : List Opened)
      → open_from limit earlier inputs ≡ Ok os → AllByRecursion IsShortInput os
  inputs_short earlier inputs os h =
      inputs_all IsShortInput limit stream_reading_short earlier inputs os h

-- ---- what is written

module _ (rename : List ℕ → List ℕ) (marked : ℕ → Bool) (limit : ℕ)
    (short : (code : List ℕ) → length code ≤ limit → length (rename code) ≤ limit) where
  ups_short : (places : List ℕ)
      → AllByRecursion (ShortDeclaration limit) (ups_at rename marked places)
  ups_short [] = tt
  ups_short (i ∷ places) =
      all_append (ShortDeclaration limit) (cond (marked i) (Declaration.Up ∷ []) [])
      (ups_at rename marked places) (by_mark (marked i)) (ups_short places)
    where
      by_mark : (b : Bool) → AllByRecursion (ShortDeclaration limit)
          (cond b (Declaration.Up ∷ []) [])
      by_mark true = (tt, tt)
      by_mark false = tt

  row_short : (earlier : List Declaration) (d : Declaration) → ShortDeclaration limit d
      → AllByRecursion (ShortDeclaration limit) (row_of rename marked earlier d)
  row_short earlier (Declaration.Scope type name) s = by_mark (marked (length earlier))
    where
      by_mark : (b : Bool) → AllByRecursion (ShortDeclaration limit)
          (cond b (Declaration.Scope type name ∷ []) [])
      by_mark true = (s, tt)
      by_mark false = tt
  row_short earlier (Declaration.Var v) s = by_mark (marked (length earlier))
    where
      by_mark : (b : Bool) → AllByRecursion (ShortDeclaration limit)
          (cond b (Declaration.Var (with_code rename marked v) ∷ []) [])
      by_mark true = ((s.0, short v.code s.1, s.2), tt)
      by_mark false = tt
  row_short earlier Declaration.Up s = ups_short (first_place (enclosing earlier))

  rows_short : (ds earlier : List Declaration) → AllByRecursion (ShortDeclaration limit) ds
      → AllByRecursion (ShortDeclaration limit) (rows_from rename marked earlier ds)
  rows_short [] earlier h = tt
  rows_short (d ∷ ds) earlier h =
      all_append (ShortDeclaration limit) (row_of rename marked earlier d)
      (rows_from rename marked (earlier ++ d ∷ []) ds) (row_short earlier d h.0)
      (rows_short ds (earlier ++ d ∷ []) h.1)

  pub written_short : (ds : List Declaration) → AllByRecursion (ShortDeclaration limit) ds
      → AllByRecursion (ShortDeclaration limit) (written rename marked ds)
  written_short ds h = all_append (ShortDeclaration limit) (rows_from rename marked [] ds)
      (ups_at rename marked (enclosing ds)) (rows_short ds [] h) (ups_short (enclosing ds))

module _ (limit : ℕ) (least : 64 ≤ limit) where
  pub keyword_short : (k : Keyword) → length (keyword_text k) ≤ limit
  keyword_short Keyword.Comment = omega arith
  keyword_short Keyword.Date = omega arith
  keyword_short Keyword.EndDefinitions = omega arith
  keyword_short Keyword.Scope = omega arith
  keyword_short Keyword.Timescale = omega arith
  keyword_short Keyword.Upscope = omega arith
  keyword_short Keyword.Var = omega arith
  keyword_short Keyword.Version = omega arith
  keyword_short Keyword.DumpAll = omega arith
  keyword_short Keyword.DumpOff = omega arith
  keyword_short Keyword.DumpOn = omega arith
  keyword_short Keyword.DumpVars = omega arith
  keyword_short Keyword.End = omega arith

  -- a number has at most 20 digits
  pub number_short : (n : ℕ) → n < 2 ^ 64 → length (decimal n) ≤ 20
  number_short n h = length-decimal-le 20 n (omega arith) (omega arith) h

  declared_short : (earlier ds : List Declaration) → AreDeclared earlier ds
      → AllByRecursion (ShortDeclaration limit) ds → AllShort limit (flat_map declaration_tokens ds)
  declared_short earlier [] are h = tt
  declared_short earlier (d ∷ ds) are h =
      all_append (λ t. length t ≤ limit) (declaration_tokens d) (flat_map declaration_tokens ds)
      (one d are.0 h.0) (declared_short (earlier ++ d ∷ []) ds are.1 h.1)
    where
      one : (d : Declaration) → IsDeclared earlier d → ShortDeclaration limit d
          → AllShort limit (declaration_tokens d)
      one (Declaration.Scope type name) is s =
          (keyword_short Keyword.Scope, (s.0, (s.1, (keyword_short Keyword.End, tt))))
      one Declaration.Up is s = (keyword_short Keyword.Upscope, (keyword_short Keyword.End, tt))
      one (Declaration.Var v) is s =
          let n = number_short v.size (let m = is.small in omega arith) in (
            keyword_short Keyword.Var,
            (
              s.0,
              (
                (omega arith),
                (
                  s.1,
                  all_append (λ t. length t ≤ limit) v.reference (end_text ∷ []) s.2
                      (keyword_short Keyword.End, tt),
                ),
              ),
            ),
          )

  -- the tokens of a text are those that it was joined of
  own_tokens : (ws : List (List ℕ)) → AllByRecursion IsWord ws
      → texts_from true (as_line (join_with_byte 32 ws) ++ []) ≡ ws
  own_tokens ws all = line_words ws [] all ∙ append-nil ws

  same_tokens : (text : List ℕ) (ws : List (List ℕ)) → text ≡ join_with_byte 32 ws
      → AllByRecursion IsWord ws → ShortText limit text → AllShort limit ws
  same_tokens text ws e words s =
      let same : s.0 ≡ ws = sym (own_tokens s.0 s.2)
      ∙ ap (λ l. texts_from true (as_line l ++ [])) (sym s.1 ∙ e) ∙ own_tokens ws words in
      subst (AllShort limit) same s.3

  text_short : (k : Keyword) (ws : List (List ℕ)) → AllShort limit ws
      → AllShort limit (text_tokens k ws)
  text_short k [] h = tt
  text_short k (w ∷ ws) h = (
    keyword_short k,
    all_append (λ t. length t ≤ limit) (w ∷ ws) (end_text ∷ []) h
        (keyword_short Keyword.End, tt),
  )

  scale_short : (scale : Option ℤ) → AreGoodScales scale → AllShort limit (scale_tokens scale)
  scale_short None good = tt
  scale_short (Some e) good = (
    keyword_short Keyword.Timescale,
    (
      (let s = good.small in omega arith),
      (keyword_short Keyword.End, tt),
    ),
  )

  -- the tokens of a head, and of what follows it
  pub head_short : (h : Header) (parts : AreParts h) (ds : List Declaration) (text : List ℕ)
      → AreDeclared [] ds → ShortText limit h.date → ShortText limit h.version
      → AllByRecursion (ShortDeclaration limit) ds → AllShort limit (texts_from true text)
      → AllShort limit (texts_from true (head_of h ds ++ text))
  head_short h parts ds text are date version rows behind =
      let last = keyword_text Keyword.EndDefinitions ∷ end_text ∷ texts_from true text in
      let P : List ℕ → Type 0 = λ t. length t ≤ limit in
      subst (AllShort limit) (sym (head_words h parts ds text are))
      (all_append P (text_tokens Keyword.Date parts.dates)
      (text_tokens Keyword.Version parts.versions
      ++ (scale_tokens h.scale ++ (flat_map declaration_tokens ds ++ last)))
      (text_short Keyword.Date parts.dates
      (same_tokens h.date parts.dates parts.date parts.date_words date))
      (all_append P (text_tokens Keyword.Version parts.versions)
      (scale_tokens h.scale ++ (flat_map declaration_tokens ds ++ last))
      (text_short Keyword.Version parts.versions
      (same_tokens h.version parts.versions parts.version parts.version_words version))
      (all_append P (scale_tokens h.scale) (flat_map declaration_tokens ds ++ last)
      (scale_short h.scale parts.scale)
      (all_append P (flat_map declaration_tokens ds) last (declared_short [] ds are rows)
      (keyword_short Keyword.EndDefinitions, (keyword_short Keyword.End, behind))))))
