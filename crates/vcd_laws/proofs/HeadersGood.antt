-- What a header without a fault has: a head can be written from it.
use Rattle.vcd_laws.proofs.Cited.{◌≡◌, ℕ, ℤ, ◌<◌, ◌&&◌, true, false, not, nat_lt, List, [], ◌∷◌, ◌++◌, length, filter_map, Option, Some, None, Ok, unwrap_or, refl, sym, ap, ◌∙◌, subst, arith, AllByRecursion, list_all, join_with_byte, last_or, append_assoc, append-nil, map-append, filter_map-append, and_parts, not-true, ltb-true, is_code_byte, is_decimal, decimal_value, Keyword, keyword_text, is_end, Input, Token, Stream, stream_of, Declaration, open_scopes, codes_of, Header, HeaderPhrase, HasNoEnd, IsScale, IsDeclaration, declaration_of, declarations_of, date_of, version_of, timescale_of, Date, Version, Timescale, Declares, Unknown, EndDefinitions, is_size, agrees, header_grammar, Reading, reading_of, Placed, phrases_of, texts_of, PassChecks, IsGood, AreGood, IsReading, Opened, open_from, reading_is_one, header_computes, keyword_of-text, end_text, IsWord, passes, all_front, all_back, stream_words, inputs_all, IsGoodScale, scale_good, IsDeclared, AreDeclared, AreGoodScales, AreParts}
use Rattle.vcd_model.specs.Header.{header_of}
use Rattle.vcd_model.specs.HeaderPhrases.HeaderPhrase.{Comment}
use Rattle.vcd_model.specs.HeaderChecks.{header_fault}
use Rattle.vcd_model.specs.HeaderReading.{read_header}

-- ---- declarations

module _ (most : ℕ) (earlier : List HeaderPhrase) where
  scope_depth : header_fault most earlier [] (keyword_text Keyword.Scope) ≡ None
      → open_scopes (declarations_of earlier) < 1000
  unfolding header_fault
  scope_depth h =
      let a = passes (nat_lt (length (declarations_of earlier)) most) 11 _
      (rw keyword_of-text at h) in
      ltb-true (open_scopes (declarations_of earlier)) 1000
      (passes (nat_lt (open_scopes (declarations_of earlier)) 1000) 10 None a.1).0

  scope_type : (type : List ℕ)
      → header_fault most earlier (keyword_text Keyword.Scope ∷ []) type ≡ None
      → is_end type ≡ false
  unfolding header_fault
  scope_type type h = not-true (is_end type) (passes (not (is_end type)) 6 None
      (rw keyword_of-text at h)).0

  scope_name : (type name : List ℕ)
      → header_fault most earlier (keyword_text Keyword.Scope ∷ type ∷ []) name ≡ None
      → is_end name ≡ false
  unfolding header_fault
  scope_name type name h =
      not-true (is_end name) (passes (not (is_end name)) 6 None (rw keyword_of-text at h)).0

  up_depth : header_fault most earlier [] (keyword_text Keyword.Upscope) ≡ None
      → 0 < open_scopes (declarations_of earlier)
  unfolding header_fault
  up_depth h =
      let a = passes (nat_lt (length (declarations_of earlier)) most) 11 _
      (rw keyword_of-text at h) in
      ltb-true 0 (open_scopes (declarations_of earlier))
      (passes (nat_lt 0 (open_scopes (declarations_of earlier))) 9 None a.1).0

  var_type : (type : List ℕ) → header_fault most earlier (keyword_text Keyword.Var ∷ []) type ≡ None
      → is_end type ≡ false
  unfolding header_fault
  var_type type h = not-true (is_end type) (passes (not (is_end type)) 7 None
      (rw keyword_of-text at h)).0

  var_size : (type size : List ℕ)
      → header_fault most earlier (keyword_text Keyword.Var ∷ type ∷ []) size ≡ None
      → is_size size ≡ true
  unfolding header_fault
  var_size type size h = (passes (is_size size) 7 None (rw keyword_of-text at h)).0

  var_code : (type size code : List ℕ)
      → header_fault most earlier (keyword_text Keyword.Var ∷ type ∷ size ∷ []) code ≡ None
      → (list_all is_code_byte code ≡ true) × (agrees (declarations_of earlier)
      (record { type = type; size = decimal_value size; code = code; reference = [] }) ≡ true)
  unfolding header_fault
  var_code type size code h =
      let a = passes (list_all is_code_byte code) 7 _ (rw keyword_of-text at h) in (
        a.0,
        (passes (agrees (declarations_of earlier)
            (record { type = type; size = decimal_value size; code = code; reference = [] })) 8 None
            a.1).0,
      )

  size_parts : (size : List ℕ) (n : ℕ) → is_size size ≡ true → decimal_value size ≡ n
      → (0 < n) × (n < 16777216)
  size_parts size n h e =
      let s = and_parts (is_decimal size && nat_lt 0 (decimal_value size))
      (nat_lt (decimal_value size) 16777216) h in
      let low = ltb-true 0 (decimal_value size)
      (and_parts (is_decimal size) (nat_lt 0 (decimal_value size)) s.0).1 in
      let high = ltb-true (decimal_value size) 16777216 s.1 in
      (omega arith, omega arith)

  declaration_good : (d : Declaration) (ts : List (List ℕ)) → IsDeclaration ts d
      → PassChecks (header_grammar most) earlier [] ts → AllByRecursion IsWord ts
      → IsDeclared (declarations_of earlier) d
  declaration_good (Declaration.Scope type name) ts is passed words =
      let p = subst (PassChecks (header_grammar most) earlier []) is passed in
      let w = subst (AllByRecursion IsWord) is words in (
        scope_depth p.0,
        record { word = w.1.0; other = scope_type type p.1.0 },
        record { word = w.1.1.0; other = scope_name type name p.1.1.0 },
      )
  declaration_good Declaration.Up ts is passed words =
      let p = subst (PassChecks (header_grammar most) earlier []) is passed in up_depth p.0
  declaration_good (Declaration.Var v) ts is passed words =
      let p = subst (PassChecks (header_grammar most) earlier []) is.3 passed in
      let w = subst (AllByRecursion IsWord) is.3 words in
      let n = size_parts is.0 v.size (var_size v.type is.0 p.1.1.0) is.2 in
      let c = var_code v.type is.0 v.code p.1.1.1.0 in
      record {
        type = w.1.0;
        other = var_type v.type p.1.0;
        some = n.0;
        small = n.1;
        code = w.1.1.1.0;
        bytes = c.0;
        agreed = ap (λ s. agrees (declarations_of earlier)
            (record { type = v.type; size = s; code = v.code; reference = [] })) (sym is.2) ∙ c.1;
        words = all_front IsWord v.reference (end_text ∷ []) w.1.1.1.1;
        none = is.4;
        filled = is.5;
      }

-- ---- phrases

-- tokens of a text
pub record AreTextTokens (inner : List (List ℕ)) : Type 0 where
  pub words : AllByRecursion IsWord inner
  pub none : HasNoEnd inner

-- what a good phrase says can be written
abbrev Says : HeaderPhrase → Type 0
Says (Date inner) = AreTextTokens inner
Says (Version inner) = AreTextTokens inner
Says (Timescale e) = IsGoodScale e
Says p = Unit {0}

scale_says : (inner : List (List ℕ)) (e : ℤ) → IsScale inner e → IsGoodScale e
scale_says [] e is = absurd is
scale_says (scale ∷ []) e is = scale_good scale e is
scale_says (number ∷ unit ∷ []) e is = scale_good (number ++ unit) e is.2
scale_says (a ∷ b ∷ c ∷ ts) e is = absurd is

text_says : (k : Keyword) (inner ts : List (List ℕ)) → ts ≡ keyword_text k ∷ inner ++ end_text ∷ []
    → HasNoEnd inner → AllByRecursion IsWord ts → AreTextTokens inner
text_says k inner ts e none words = let w = subst (AllByRecursion IsWord) e words in record {
  words = all_front IsWord inner (end_text ∷ []) w.1;
  none = none;
}

-- the phrases of a good header
record AreSaid (earlier : List HeaderPhrase) (ps : List HeaderPhrase) : Type 0 where
  declared : AreDeclared (declarations_of earlier) (declarations_of ps)
  said : AllByRecursion Says ps

phrases_said : (most : ℕ) (earlier : List HeaderPhrase) (ts : List Token)
    (ps : List (Placed HeaderPhrase)) → AreGood (header_grammar most) earlier ts ps
    → AllByRecursion IsWord (texts_of ts) → AreSaid earlier (phrases_of ps)
phrases_said most earlier ts [] good words = record { declared = tt; said = tt }
phrases_said most earlier ts (p ∷ ps) good words =
    let w = subst (AllByRecursion IsWord) (ap texts_of good.2
    ∙ map-append (λ (x : Token). x.bytes) good.0 good.1) words in
    by_phrase p.phrase p.line good.3 (all_front IsWord (texts_of good.0) (texts_of good.1) w)
    (phrases_said most (earlier ++ p.phrase ∷ []) good.1 ps good.4
    (all_back IsWord (texts_of good.0) (texts_of good.1) w))
  where
    same_declared : (q : HeaderPhrase) → declarations_of (q ∷ []) ≡ []
        → declarations_of (earlier ++ q ∷ []) ≡ declarations_of earlier
    same_declared q e = filter_map-append declaration_of earlier (q ∷ [])
        ∙ ap (λ l. declarations_of earlier ++ l) e ∙ append-nil (declarations_of earlier)

    other : (q : HeaderPhrase) → declaration_of q ≡ None → Says q
        → AreSaid (earlier ++ q ∷ []) (phrases_of ps) → AreSaid earlier (q ∷ phrases_of ps)
    other q e says more =
        let none : declarations_of (q ∷ []) ≡ [] = rw e refl in
        record {
          declared = rw e (subst (λ (l : List Declaration). AreDeclared l
              (declarations_of (phrases_of ps))) (same_declared q none) more.declared);
          said = (says, more.said);
        }

    by_phrase : (q : HeaderPhrase) (line : ℕ)
        → IsGood (header_grammar most) earlier good.0 (record { phrase = q; line = line })
        → AllByRecursion IsWord (texts_of good.0) → AreSaid (earlier ++ q ∷ []) (phrases_of ps)
        → AreSaid earlier (q ∷ phrases_of ps)
    by_phrase (Comment inner) line g w more = other (Comment inner) refl tt more
    by_phrase (Date inner) line g w more = let is = g.phrase in
        other (Date inner) refl (text_says Keyword.Date inner (texts_of good.0) is.0 is.1 w) more
    by_phrase (Version inner) line g w more = let is = g.phrase in
        other (Version inner) refl (text_says Keyword.Version inner (texts_of good.0) is.0 is.1 w)
        more
    by_phrase (Timescale e) line g w more = let is = g.phrase in
        other (Timescale e) refl (scale_says is.0 e is.1) more
    by_phrase (Declares d) line g w more = record {
      declared = (
        declaration_good most earlier d (texts_of good.0) g.phrase g.passed w,
        subst (λ (l : List Declaration). AreDeclared l (declarations_of (phrases_of ps)))
            (filter_map-append declaration_of earlier (Declares d ∷ [])) more.declared,
      );
      said = (tt, more.said);
    }
    by_phrase (Unknown command inner) line g w more = other (Unknown command inner) refl tt more
    by_phrase EndDefinitions line g w more = other EndDefinitions refl tt more

-- ---- texts and scales

-- a text whose tokens are such
abbrev IsText : List ℕ → Type 0
IsText text = (inner : List (List ℕ)) × (text ≡ join_with_byte 32 inner) × AreTextTokens inner

abbrev IsSomeText : Option (List ℕ) → Type 0
IsSomeText None = Unit {0}
IsSomeText (Some text) = IsText text

text_or_none : (o : Option (List ℕ)) → IsSomeText o → IsText (unwrap_or o [])
text_or_none None is = ([], refl, record { words = tt; none = tt })
text_or_none (Some text) is = is

last_date : (o : Option (List ℕ)) (ps : List HeaderPhrase) → IsSomeText o → AllByRecursion Says ps
    → IsSomeText (last_or o (filter_map date_of ps))
last_date o [] is said = is
last_date o (Comment inner ∷ ps) is said = last_date o ps is said.1
last_date o (Date inner ∷ ps) is said =
    last_date (Some (join_with_byte 32 inner)) ps (inner, refl, said.0) said.1
last_date o (Version inner ∷ ps) is said = last_date o ps is said.1
last_date o (Timescale e ∷ ps) is said = last_date o ps is said.1
last_date o (Declares d ∷ ps) is said = last_date o ps is said.1
last_date o (EndDefinitions ∷ ps) is said = last_date o ps is said.1
last_date o (Unknown command inner ∷ ps) is said = last_date o ps is said.1

last_version : (o : Option (List ℕ)) (ps : List HeaderPhrase) → IsSomeText o
    → AllByRecursion Says ps → IsSomeText (last_or o (filter_map version_of ps))
last_version o [] is said = is
last_version o (Comment inner ∷ ps) is said = last_version o ps is said.1
last_version o (Date inner ∷ ps) is said = last_version o ps is said.1
last_version o (Version inner ∷ ps) is said =
    last_version (Some (join_with_byte 32 inner)) ps (inner, refl, said.0) said.1
last_version o (Timescale e ∷ ps) is said = last_version o ps is said.1
last_version o (Declares d ∷ ps) is said = last_version o ps is said.1
last_version o (EndDefinitions ∷ ps) is said = last_version o ps is said.1
last_version o (Unknown command inner ∷ ps) is said = last_version o ps is said.1

last_scale : (o : Option ℤ) (ps : List HeaderPhrase) → AreGoodScales o → AllByRecursion Says ps
    → AreGoodScales (last_or o (filter_map timescale_of ps))
last_scale o [] is said = is
last_scale o (Comment inner ∷ ps) is said = last_scale o ps is said.1
last_scale o (Date inner ∷ ps) is said = last_scale o ps is said.1
last_scale o (Version inner ∷ ps) is said = last_scale o ps is said.1
last_scale o (Timescale e ∷ ps) is said = last_scale (Some e) ps said.0 said.1
last_scale o (Declares d ∷ ps) is said = last_scale o ps is said.1
last_scale o (EndDefinitions ∷ ps) is said = last_scale o ps is said.1
last_scale o (Unknown command inner ∷ ps) is said = last_scale o ps is said.1

parts_of : (ps : List HeaderPhrase) → AllByRecursion Says ps → AreParts (header_of ps)
unfolding header_of
parts_of ps said =
    let date = text_or_none (last_or None (filter_map date_of ps)) (last_date None ps tt said) in
    let version = text_or_none (last_or None (filter_map version_of ps))
    (last_version None ps tt said) in
    record {
      dates = date.0;
      date = date.1;
      date_words = date.2.words;
      date_none = date.2.none;
      versions = version.0;
      version = version.1;
      version_words = version.2.words;
      version_none = version.2.none;
      scale = last_scale None ps tt said;
    }

-- ---- headers

-- a header that a head can be written from
pub record IsGoodHeader (h : Header) : Type 0 where
  pub parts : AreParts h
  pub declared : AreDeclared [] h.declarations
  pub codes : h.codes ≡ codes_of h.declarations

header_says : (ps : List HeaderPhrase) → AreSaid [] ps → IsGoodHeader (header_of ps)
unfolding header_of
header_says ps said = record {
  parts = parts_of ps said.said;
  declared = said.declared;
  codes = refl;
}

reading_says : (most : ℕ) (stream : Stream) → AllByRecursion IsWord (texts_of stream.tokens)
    → IsGoodHeader (header_of (phrases_of (read_header most stream).placed))
unfolding read_header
reading_says most stream words =
    by_reading (reading_of (header_grammar most) stream.tokens)
    (reading_is_one (header_grammar most) (header_computes most) stream.tokens)
  where
    by_reading : (r : Reading HeaderPhrase) → IsReading (header_grammar most) stream.tokens r
        → IsGoodHeader (header_of (phrases_of r.placed))
    by_reading r is =
        let w = subst (AllByRecursion IsWord)
        (ap texts_of is.tokens ∙ ap texts_of (append_assoc is.done is.before r.rest)
        ∙ map-append (λ (x : Token). x.bytes) is.done (is.before ++ r.rest)) words in
        header_says (phrases_of r.placed) (phrases_said most [] is.done r.placed is.good
        (all_front IsWord (texts_of is.done) (texts_of (is.before ++ r.rest)) w))

pub headers_good : (limit : ℕ) (earlier : List Header) (inputs : List Input) (os : List Opened)
    → open_from limit earlier inputs ≡ Ok os
    → AllByRecursion (λ (o : Opened). IsGoodHeader o.header) os
headers_good limit earlier inputs os h =
    inputs_all (λ (o : Opened). IsGoodHeader o.header) limit
    (λ most input. reading_says most (stream_of limit input) (stream_words limit input)) earlier
    inputs os h
