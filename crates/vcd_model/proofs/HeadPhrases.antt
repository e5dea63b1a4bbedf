-- Tokens of a written head are read as its phrases.
use Rattle.vcd_model.proofs.Cited.{not, find, bytes_eq, ◌≡◌, ◌≢◌, ℕ, ℤ, ◌+◌, ◌<◌, ◌≤◌, true, false, List, [], ◌∷◌, ◌++◌, length, map, flat_map, decimal, Some, None, refl, sym, ap, ◌∙◌, subst, arith, ⊤, AllByRecursion, list_all, append_assoc, append-nil, map-append, length_push, filter_map-append, lt-ltb, is_white_space, is_code_byte, Keyword, keyword_text, is_end, scales, Token, Declaration, Variable, open_scopes, Reading, Placed, phrases_of, texts_of, read_from, PassChecks, AtLast, HeaderPhrase, HasNoEnd, IsHeaderPhrase, until_end, declaration_of, declarations_of, Date, Version, Timescale, Declares, EndDefinitions, agrees, is_size, header_grammar, is_last}
use Rattle.vcd_model.specs.Scales.{exponent_of, scale_text, is_scale_number}
use Rattle.vcd_model.specs.HeaderPhrases.{header_phrase}
use Rattle.vcd_model.specs.HeaderChecks.{header_fault}
use Rattle.vcd_model.proofs.Readings.{at_last}
use Rattle.vcd_model.proofs.HeaderGrammar.{end_text, no_end, mapped, keyword_of-text, header_computes}
use Rattle.vcd_model.proofs.ReadBack.{at_more}
use Rattle.vcd_model.proofs.Decimals.{Spells, spells}
use Rattle.vcd_model.proofs.TokenTexts.{IsWord}
use Rattle.vcd_model.proofs.FoundCodes.{find_all}

-- ---- the tokens of one phrase

-- after these tokens of its phrase, none of these completes one
abbrev NoneWhole : List (List ℕ) → List (List ℕ) → Type 0
NoneWhole before [] = ⊤
NoneWhole before (w ∷ ws) =
    (header_phrase (before ++ w ∷ []) ≡ None) × NoneWhole (before ++ w ∷ []) ws

-- ---- scales

-- the exponent of a scale: its text is read as it again
pub record IsGoodScale (e : ℤ) : Type 0 where
  pub back : exponent_of (scale_text e) ≡ Some e
  pub number : is_scale_number (scale_text e) ≡ false
  pub other : is_end (scale_text e) ≡ false
  pub filled : 0 < length (scale_text e)
  pub small : length (scale_text e) ≤ 64
  pub plain : list_all (λ b. not (is_white_space b)) (scale_text e) ≡ true

scales_good : AllByRecursion (λ (s : List ℕ × ℤ). IsGoodScale s.1) scales
unfolding exponent_of scale_text is_scale_number
scales_good = (
  record {
    back = refl;
    number = refl;
    other = refl;
    filled = omega arith;
    small = omega arith;
    plain = refl;
  },
  (
    record {
      back = refl;
      number = refl;
      other = refl;
      filled = omega arith;
      small = omega arith;
      plain = refl;
    },
    (
      record {
        back = refl;
        number = refl;
        other = refl;
        filled = omega arith;
        small = omega arith;
        plain = refl;
      },
      (
        record {
          back = refl;
          number = refl;
          other = refl;
          filled = omega arith;
          small = omega arith;
          plain = refl;
        },
        (
          record {
            back = refl;
            number = refl;
            other = refl;
            filled = omega arith;
            small = omega arith;
            plain = refl;
          },
          (
            record {
              back = refl;
              number = refl;
              other = refl;
              filled = omega arith;
              small = omega arith;
              plain = refl;
            },
            (
              record {
                back = refl;
                number = refl;
                other = refl;
                filled = omega arith;
                small = omega arith;
                plain = refl;
              },
              (
                record {
                  back = refl;
                  number = refl;
                  other = refl;
                  filled = omega arith;
                  small = omega arith;
                  plain = refl;
                },
                (
                  record {
                    back = refl;
                    number = refl;
                    other = refl;
                    filled = omega arith;
                    small = omega arith;
                    plain = refl;
                  },
                  (
                    record {
                      back = refl;
                      number = refl;
                      other = refl;
                      filled = omega arith;
                      small = omega arith;
                      plain = refl;
                    },
                    (
                      record {
                        back = refl;
                        number = refl;
                        other = refl;
                        filled = omega arith;
                        small = omega arith;
                        plain = refl;
                      },
                      (
                        record {
                          back = refl;
                          number = refl;
                          other = refl;
                          filled = omega arith;
                          small = omega arith;
                          plain = refl;
                        },
                        (
                          record {
                            back = refl;
                            number = refl;
                            other = refl;
                            filled = omega arith;
                            small = omega arith;
                            plain = refl;
                          },
                          (
                            record {
                              back = refl;
                              number = refl;
                              other = refl;
                              filled = omega arith;
                              small = omega arith;
                              plain = refl;
                            },
                            (
                              record {
                                back = refl;
                                number = refl;
                                other = refl;
                                filled = omega arith;
                                small = omega arith;
                                plain = refl;
                              },
                              (
                                record {
                                  back = refl;
                                  number = refl;
                                  other = refl;
                                  filled = omega arith;
                                  small = omega arith;
                                  plain = refl;
                                },
                                (
                                  record {
                                    back = refl;
                                    number = refl;
                                    other = refl;
                                    filled = omega arith;
                                    small = omega arith;
                                    plain = refl;
                                  },
                                  (
                                    record {
                                      back = refl;
                                      number = refl;
                                      other = refl;
                                      filled = omega arith;
                                      small = omega arith;
                                      plain = refl;
                                    },
                                    tt,
                                  ),
                                ),
                              ),
                            ),
                          ),
                        ),
                      ),
                    ),
                  ),
                ),
              ),
            ),
          ),
        ),
      ),
    ),
  ),
)

pub scale_good : (text : List ℕ) (e : ℤ) → exponent_of text ≡ Some e → IsGoodScale e
unfolding exponent_of
scale_good text e h = mapped (λ (s : List ℕ × ℤ). s.1)
    (find (λ (s : List ℕ × ℤ). bytes_eq s.0 text) scales) e h
    (λ s f g. subst IsGoodScale g (find_all (λ (s : List ℕ × ℤ). IsGoodScale s.1)
    (λ (s : List ℕ × ℤ). bytes_eq s.0 text) scales s scales_good f))

-- the tokens that a declaration is written as
abbrev pub declaration_tokens : Declaration → List (List ℕ)
declaration_tokens (Declaration.Scope type name) =
    keyword_text Keyword.Scope ∷ type ∷ name ∷ end_text ∷ []
declaration_tokens Declaration.Up = keyword_text Keyword.Upscope ∷ end_text ∷ []
declaration_tokens (Declaration.Var v) =
    keyword_text Keyword.Var ∷ v.type ∷ decimal v.size ∷ v.code ∷ v.reference ++ end_text ∷ []

-- ---- declarations that may be read

-- a token that is not `$end`
pub record IsToken (text : List ℕ) : Type 0 where
  pub word : IsWord text
  pub other : is_end text ≡ false

-- a variable that passes its checks after these declarations
pub record IsGoodVariable (earlier : List Declaration) (v : Variable) : Type 0 where
  pub type : IsWord v.type
  pub other : is_end v.type ≡ false
  pub some : 0 < v.size
  pub small : v.size < 16777216
  pub code : IsWord v.code
  pub bytes : list_all is_code_byte v.code ≡ true
  pub agreed : agrees earlier v ≡ true
  pub words : AllByRecursion IsWord v.reference
  pub none : HasNoEnd v.reference
  pub filled : v.reference ≢ []

-- a declaration that passes its checks after these, their number aside
abbrev pub IsDeclared : List Declaration → Declaration → Type 0
IsDeclared earlier (Declaration.Scope type name) =
    (open_scopes earlier < 1000) × IsToken type × IsToken name
IsDeclared earlier Declaration.Up = 0 < open_scopes earlier
IsDeclared earlier (Declaration.Var v) = IsGoodVariable earlier v

-- declarations in a row that pass their checks after these
abbrev pub AreDeclared : List Declaration → List Declaration → Type 0
AreDeclared earlier [] = ⊤
AreDeclared earlier (d ∷ ds) = IsDeclared earlier d × AreDeclared (earlier ++ d ∷ []) ds

module _ (most : ℕ) where
  -- what reading these tokens after these phrases gives
  abbrev pub read_on : List (Placed HeaderPhrase) → List Token → Reading HeaderPhrase
  read_on done ts = read_from (header_grammar most) done [] ts

  -- reading continues after these phrases more
  pub record ReadsPhrases (done : List (Placed HeaderPhrase)) (ps : List HeaderPhrase)
      (ts : List Token) (more : List (List ℕ)) : Type 0 where
    pub placed : List (Placed HeaderPhrase)
    pub rest : List Token
    pub phrases : phrases_of placed ≡ ps
    pub reads : read_on done ts ≡ read_on (done ++ placed) rest
    pub texts : texts_of rest ≡ more

  -- over the tokens before the last of a phrase
  record ReadsFront (done : List (Placed HeaderPhrase)) (before ws : List (List ℕ))
      (ts : List Token) (more : List (List ℕ)) : Type 0 where
    rest : List Token
    reads : read_from (header_grammar most) done before ts
        ≡ read_from (header_grammar most) done (before ++ ws) rest
    texts : texts_of rest ≡ more

  reads_front : (done : List (Placed HeaderPhrase)) (before ws : List (List ℕ)) (ts : List Token)
      (more : List (List ℕ)) → texts_of ts ≡ ws ++ more
      → PassChecks (header_grammar most) (phrases_of done) before ws → NoneWhole before ws
      → ReadsFront done before ws ts more
  reads_front done before [] ts more e passed none = record {
    rest = ts;
    reads = rw append-nil refl;
    texts = e;
  }
  reads_front done before (w ∷ ws) [] more e passed none = cc
  reads_front done before (w ∷ ws) (t ∷ ts) more e passed none =
      let same : t.bytes ≡ w = cc in
      let texts : texts_of ts ≡ ws ++ more = cc in
      let all = reads_front done (before ++ w ∷ []) ws ts more texts passed.1 none.1 in
      record {
        rest = all.rest;
        reads = at_more (header_grammar most) done before t ts
            (ap (header_fault most (phrases_of done) before) same ∙ passed.0)
            (ap (λ l. header_phrase (before ++ l ∷ [])) same ∙ none.0)
            ∙ ap (λ l. read_from (header_grammar most) done (before ++ l ∷ []) ts) same
            ∙ all.reads
            ∙ ap (λ l. read_from (header_grammar most) done l all.rest)
            (append_assoc before (w ∷ []) ws);
        texts = all.texts;
      }

  -- the tokens of a phrase that others follow
  record AreTokens (earlier : List HeaderPhrase) (front : List (List ℕ)) (last : List ℕ)
      (p : HeaderPhrase) : Type 0 where
    passed : PassChecks (header_grammar most) earlier [] front
    passes : header_fault most earlier front last ≡ None
    none : NoneWhole [] front
    whole : IsHeaderPhrase (front ++ last ∷ []) p

  reads_last : (done : List (Placed HeaderPhrase)) (front : List (List ℕ)) (last : List ℕ)
      (p : HeaderPhrase) (ts : List Token) (more : List (List ℕ)) → is_last p ≡ false
      → header_fault most (phrases_of done) front last ≡ None
      → IsHeaderPhrase (front ++ last ∷ []) p
      → texts_of ts ≡ last ∷ more
      → (placed : Placed HeaderPhrase) × (rest : List Token) × (placed.phrase ≡ p)
      × (read_from (header_grammar most) done front ts ≡ read_on (done ++ placed ∷ []) rest)
      × (texts_of rest ≡ more)
  reads_last done front last p [] more on passes is e = cc
  reads_last done front last p (t ∷ ts) more on passes is e =
      let same : t.bytes ≡ last = cc in
      let texts : texts_of ts ≡ more = cc in
      let computes = header_computes most in
      let whole : header_phrase (front ++ last ∷ []) ≡ Some p =
      computes.only (front ++ last ∷ []) p is in (
        record { phrase = p; line = t.line },
        ts,
        refl,
        at_last (header_grammar most) (header_computes most) done front t ts p
            (ap (header_fault most (phrases_of done) front) same ∙ passes)
            (ap (λ l. header_phrase (front ++ l ∷ [])) same ∙ whole)
            ∙ rw on refl,
        texts,
      )

  reads_phrase : (done : List (Placed HeaderPhrase)) (front : List (List ℕ)) (last : List ℕ)
      (p : HeaderPhrase) (ts : List Token) (more : List (List ℕ)) → is_last p ≡ false
      → AreTokens (phrases_of done) front last p
      → texts_of ts ≡ front ++ last ∷ more → ReadsPhrases done (p ∷ []) ts more
  reads_phrase done front last p ts more on are e =
      let all = reads_front done [] front ts (last ∷ more) e are.passed are.none in
      let one = reads_last done front last p all.rest more on are.passes are.whole all.texts in
      record {
        placed = one.0 ∷ [];
        rest = one.1;
        phrases = ap (λ q. q ∷ []) one.2;
        reads = all.reads ∙ one.3;
        texts = one.4;
      }

  -- some phrases, and some more
  reads_then : (done : List (Placed HeaderPhrase)) (ps qs : List HeaderPhrase) (ts : List Token)
      (mid more : List (List ℕ)) → ReadsPhrases done ps ts mid
      → ((placed : List (Placed HeaderPhrase)) (rest : List Token) → phrases_of placed ≡ ps
      → texts_of rest ≡ mid → ReadsPhrases (done ++ placed) qs rest more)
      → ReadsPhrases done (ps ++ qs) ts more
  reads_then done ps qs ts mid more first next =
      let second = next first.placed first.rest first.phrases first.texts in
      record {
        placed = first.placed ++ second.placed;
        rest = second.rest;
        phrases = map-append (λ p. p.phrase) first.placed second.placed
            ∙ ap (λ l. l ++ phrases_of second.placed) first.phrases
            ∙ ap (λ l. ps ++ l) second.phrases;
        reads = first.reads ∙ second.reads
            ∙ ap (λ l. read_on l second.rest) (append_assoc done first.placed second.placed);
        texts = second.texts;
      }

  pub reads_none : (done : List (Placed HeaderPhrase)) (ts : List Token) (more : List (List ℕ))
      → texts_of ts ≡ more → ReadsPhrases done [] ts more
  reads_none done ts more e =
      record {
        placed = [];
        rest = ts;
        phrases = refl;
        reads = ap (λ l. read_on l ts) (sym (append-nil done));
        texts = e;
      }

  -- ---- each kind of phrase

  no_end_push : (ts : List (List ℕ)) → HasNoEnd ts → until_end ts ≡ None
  no_end_push [] h = refl
  no_end_push (t ∷ ts) h = rw (no_end t (is_end t) refl h.0, no_end_push ts h.1) refl

  all_push : (ts : List (List ℕ)) (t : List ℕ) → HasNoEnd ts → t ≢ end_text
      → HasNoEnd (ts ++ t ∷ [])
  all_push [] t h n = (n, tt)
  all_push (u ∷ ts) t h n = (h.0, all_push ts t h.1 n)

  date_none : (before ws : List (List ℕ)) → HasNoEnd before → HasNoEnd ws
      → NoneWhole (keyword_text Keyword.Date ∷ before) ws
  unfolding header_phrase
  date_none before [] h g = tt
  date_none before (w ∷ ws) h g = (
    rw (keyword_of-text, no_end_push (before ++ w ∷ []) (all_push before w h g.0)) refl,
    date_none (before ++ w ∷ []) ws (all_push before w h g.0) g.1,
  )

  version_none : (before ws : List (List ℕ)) → HasNoEnd before → HasNoEnd ws
      → NoneWhole (keyword_text Keyword.Version ∷ before) ws
  unfolding header_phrase
  version_none before [] h g = tt
  version_none before (w ∷ ws) h g = (
    rw (keyword_of-text, no_end_push (before ++ w ∷ []) (all_push before w h g.0)) refl,
    version_none (before ++ w ∷ []) ws (all_push before w h g.0) g.1,
  )

  date_passed : (earlier : List HeaderPhrase) (before ws : List (List ℕ))
      → PassChecks (header_grammar most) earlier (keyword_text Keyword.Date ∷ before) ws
  unfolding header_fault
  date_passed earlier before [] = tt
  date_passed earlier before (w ∷ ws) =
      (rw keyword_of-text refl, date_passed earlier (before ++ w ∷ []) ws)

  version_passed : (earlier : List HeaderPhrase) (before ws : List (List ℕ))
      → PassChecks (header_grammar most) earlier (keyword_text Keyword.Version ∷ before) ws
  unfolding header_fault
  version_passed earlier before [] = tt
  version_passed earlier before (w ∷ ws) =
      (rw keyword_of-text refl, version_passed earlier (before ++ w ∷ []) ws)

  date_tokens : (earlier : List HeaderPhrase) (inner : List (List ℕ)) → HasNoEnd inner
      → AreTokens earlier (keyword_text Keyword.Date ∷ inner) end_text (Date inner)
  unfolding header_fault header_phrase
  date_tokens earlier inner h = record {
    passed = (rw keyword_of-text refl, date_passed earlier [] inner);
    passes = rw keyword_of-text refl;
    none = (rw keyword_of-text refl, date_none [] inner tt h);
    whole = (refl, h);
  }

  version_tokens : (earlier : List HeaderPhrase) (inner : List (List ℕ)) → HasNoEnd inner
      → AreTokens earlier (keyword_text Keyword.Version ∷ inner) end_text (Version inner)
  unfolding header_fault header_phrase
  version_tokens earlier inner h = record {
    passed = (rw keyword_of-text refl, version_passed earlier [] inner);
    passes = rw keyword_of-text refl;
    none = (rw keyword_of-text refl, version_none [] inner tt h);
    whole = (refl, h);
  }

  timescale_tokens : (earlier : List HeaderPhrase) (e : ℤ) → IsGoodScale e
      → AreTokens earlier (keyword_text Keyword.Timescale ∷ scale_text e ∷ []) end_text
      (Timescale e)
  unfolding header_fault header_phrase
  timescale_tokens earlier e good = record {
    passed = (rw keyword_of-text refl, (rw (keyword_of-text, good.number, good.back) refl, tt));
    passes = rw (keyword_of-text, good.number) refl;
    none = (rw keyword_of-text refl, (rw (keyword_of-text, good.other) refl, tt));
    whole = (
      scale_text e ∷ [],
      good.back,
      (
        refl,
        (λ same. let h : is_end (scale_text e) ≡ true = rw same refl in cc, tt),
      ),
    );
  }

  scope_tokens : (earlier : List HeaderPhrase) (type name : List ℕ)
      → length (declarations_of earlier) < most → open_scopes (declarations_of earlier) < 1000
      → is_end type ≡ false → is_end name ≡ false
      → AreTokens earlier (keyword_text Keyword.Scope ∷ type ∷ name ∷ []) end_text
      (Declares (Declaration.Scope type name))
  unfolding header_fault header_phrase
  scope_tokens earlier type name few shallow t n =
      let f = lt-ltb (length (declarations_of earlier)) most few in
      let s = lt-ltb (open_scopes (declarations_of earlier)) 1000 shallow in
      record {
        passed = (
          rw (keyword_of-text, f, s) refl,
          (rw (keyword_of-text, t) refl, (rw (keyword_of-text, n) refl, tt)),
        );
        passes = rw keyword_of-text refl;
        none = (rw keyword_of-text refl, (rw keyword_of-text refl, (rw keyword_of-text refl, tt)));
        whole = refl;
      }

  up_tokens : (earlier : List HeaderPhrase) → length (declarations_of earlier) < most
      → 0 < open_scopes (declarations_of earlier)
      → AreTokens earlier (keyword_text Keyword.Upscope ∷ []) end_text (Declares Declaration.Up)
  unfolding header_fault header_phrase
  up_tokens earlier few some =
      let f = lt-ltb (length (declarations_of earlier)) most few in
      let s = lt-ltb 0 (open_scopes (declarations_of earlier)) some in
      record {
        passed = (rw (keyword_of-text, f, s) refl, tt);
        passes = rw keyword_of-text refl;
        none = (rw keyword_of-text refl, tt);
        whole = refl;
      }

  var_none : (type size code : List ℕ) (before ws : List (List ℕ)) → HasNoEnd before → HasNoEnd ws
      → NoneWhole (keyword_text Keyword.Var ∷ type ∷ size ∷ code ∷ before) ws
  unfolding header_phrase
  var_none type size code before [] h g = tt
  var_none type size code before (w ∷ ws) h g = (
    rw (keyword_of-text, no_end_push (before ++ w ∷ []) (all_push before w h g.0)) refl,
    var_none type size code (before ++ w ∷ []) ws (all_push before w h g.0) g.1,
  )

  var_passed : (earlier : List HeaderPhrase) (type size code r : List ℕ) (before ws : List (List ℕ))
      → PassChecks (header_grammar most) earlier
      (keyword_text Keyword.Var ∷ type ∷ size ∷ code ∷ r ∷ before) ws
  unfolding header_fault
  var_passed earlier type size code r before [] = tt
  var_passed earlier type size code r before (w ∷ ws) =
      (rw keyword_of-text refl, var_passed earlier type size code r (before ++ w ∷ []) ws)

  size_passes : (n : ℕ) → 0 < n → n < 16777216 → Spells n (decimal n) → is_size (decimal n) ≡ true
  size_passes n some small s =
      rw (s.filled, s.digits, s.value, lt-ltb 0 n some, lt-ltb n 16777216 small) refl

  var_tokens : (earlier : List HeaderPhrase) (v : Variable) (r : List ℕ) (rs : List (List ℕ))
      → v.reference ≡ r ∷ rs → length (declarations_of earlier) < most
      → IsGoodVariable (declarations_of earlier) v
      → AreTokens earlier (keyword_text Keyword.Var ∷ v.type ∷ decimal
      v.size ∷ v.code ∷ v.reference) end_text (Declares (Declaration.Var v))
  unfolding header_fault header_phrase
  var_tokens earlier v r rs same few good =
      let f = lt-ltb (length (declarations_of earlier)) most few in
      let s = spells v.size (let g = good.small in omega arith) in
      let size = size_passes v.size good.some good.small s in
      let other = good.other in
      let none : HasNoEnd (r ∷ rs) = subst HasNoEnd same good.none in
      let parts : PassChecks (header_grammar most) earlier []
      (keyword_text Keyword.Var ∷ v.type ∷ decimal v.size ∷ v.code ∷ r ∷ rs) = (
        rw (keyword_of-text, f) refl,
        (
          rw (keyword_of-text, other) refl,
          (
            rw (keyword_of-text, size) refl,
            (
              rw (keyword_of-text, good.bytes, s.value, good.agreed) refl,
              (
                rw (keyword_of-text, no_end r (is_end r) refl none.0) refl,
                var_passed earlier v.type (decimal v.size) v.code r [] rs,
              ),
            ),
          ),
        ),
      ) in
      record {
        passed = rw same parts;
        passes = rw (same, keyword_of-text) refl;
        none = (
          rw keyword_of-text refl,
          (
            rw keyword_of-text refl,
            (
              rw keyword_of-text refl,
              (
                rw keyword_of-text refl,
                var_none v.type (decimal v.size)
                    v.code [] v.reference tt good.none,
              ),
            ),
          ),
        );
        whole = (decimal v.size, (rw (s.filled, s.digits) refl), s.value, refl, good.none, λ e. cc);
      }

  -- ---- declarations in a row

  reads_one : (done : List (Placed HeaderPhrase)) (d : Declaration) (ts : List Token)
      (more : List (List ℕ)) → length (declarations_of (phrases_of done)) < most
      → IsDeclared (declarations_of (phrases_of done)) d
      → texts_of ts ≡ declaration_tokens d ++ more → ReadsPhrases done (Declares d ∷ []) ts more
  reads_one done (Declaration.Scope type name) ts more few is e =
      reads_phrase done (keyword_text Keyword.Scope ∷ type ∷ name ∷ []) end_text
      (Declares (Declaration.Scope type name)) ts more refl
      (scope_tokens (phrases_of done) type name few is.0 is.1.other is.2.other) e
  reads_one done Declaration.Up ts more few is e =
      reads_phrase done (keyword_text Keyword.Upscope ∷ []) end_text (Declares Declaration.Up) ts
      more refl (up_tokens (phrases_of done) few is) e
  reads_one done (Declaration.Var v) ts more few is e = by_reference v.reference refl
    where
      by_reference : (rs : List (List ℕ)) → v.reference ≡ rs
          → ReadsPhrases done (Declares (Declaration.Var v) ∷ []) ts more
      by_reference [] same = absurd (is.filled same)
      by_reference (r ∷ rs) same =
          reads_phrase done (keyword_text Keyword.Var ∷ v.type ∷ decimal
          v.size ∷ v.code ∷ v.reference) end_text (Declares (Declaration.Var v)) ts more refl
          (var_tokens (phrases_of done) v r rs same few is)
          (e ∙ ap (λ l. keyword_text Keyword.Var ∷ v.type ∷ decimal v.size ∷ v.code ∷ l)
          (append_assoc v.reference (end_text ∷ []) more))

  declared_more : (done placed : List (Placed HeaderPhrase)) (d : Declaration)
      → phrases_of placed ≡ Declares d ∷ []
      → declarations_of (phrases_of (done ++ placed)) ≡ declarations_of (phrases_of done) ++ d ∷ []
  declared_more done placed d e = ap declarations_of (map-append (λ p. p.phrase) done placed)
      ∙ filter_map-append declaration_of (phrases_of done) (phrases_of placed)
      ∙ ap (λ l. declarations_of (phrases_of done) ++ declarations_of l) e

  -- tokens of declarations that pass their checks are read as these declarations
  pub reads_declarations : (done : List (Placed HeaderPhrase)) (earlier ds : List Declaration)
      (ts : List Token) (more : List (List ℕ)) → declarations_of (phrases_of done) ≡ earlier
      → length earlier + length ds ≤ most → AreDeclared earlier ds
      → texts_of ts ≡ flat_map declaration_tokens ds ++ more
      → ReadsPhrases done (map Declares ds) ts more
  reads_declarations done earlier [] ts more same few are e = reads_none done ts more e
  reads_declarations done earlier (d ∷ ds) ts more same few are e =
      let less : length earlier < most = omega arith in
      let n = length_push earlier d in
      let rest : length (earlier ++ d ∷ []) + length ds ≤ most = omega arith in
      reads_then done (Declares d ∷ []) (map Declares ds) ts
      (flat_map declaration_tokens ds ++ more) more
      (reads_one done d ts (flat_map declaration_tokens ds ++ more)
      (subst (λ (l : List Declaration). length l < most) (sym same) less)
      (subst (λ (l : List Declaration). IsDeclared l d) (sym same) are.0)
      (e ∙ append_assoc (declaration_tokens d) (flat_map declaration_tokens ds) more))
      (λ placed left p t. reads_declarations (done ++ placed) (earlier ++ d ∷ []) ds left more
      (declared_more done placed d p ∙ ap (λ l. l ++ d ∷ []) same) rest are.1 t)

  -- ---- a whole head

  pub reads_date : (done : List (Placed HeaderPhrase)) (inner : List (List ℕ)) (ts : List Token)
      (more : List (List ℕ)) → HasNoEnd inner
      → texts_of ts ≡ keyword_text Keyword.Date ∷ inner ++ end_text ∷ more
      → ReadsPhrases done (Date inner ∷ []) ts more
  reads_date done inner ts more h e =
      reads_phrase done (keyword_text Keyword.Date ∷ inner) end_text (Date inner) ts more refl
      (date_tokens (phrases_of done) inner h) e

  pub reads_version : (done : List (Placed HeaderPhrase)) (inner : List (List ℕ)) (ts : List Token)
      (more : List (List ℕ)) → HasNoEnd inner
      → texts_of ts ≡ keyword_text Keyword.Version ∷ inner ++ end_text ∷ more
      → ReadsPhrases done (Version inner ∷ []) ts more
  reads_version done inner ts more h e =
      reads_phrase done (keyword_text Keyword.Version ∷ inner) end_text (Version inner) ts more refl
      (version_tokens (phrases_of done) inner h) e

  pub reads_timescale : (done : List (Placed HeaderPhrase)) (scale : ℤ) (ts : List Token)
      (more : List (List ℕ)) → IsGoodScale scale
      → texts_of ts ≡ keyword_text Keyword.Timescale ∷ scale_text scale ∷ end_text ∷ more
      → ReadsPhrases done (Timescale scale ∷ []) ts more
  reads_timescale done scale ts more good e =
      reads_phrase done (keyword_text Keyword.Timescale ∷ scale_text scale ∷ []) end_text
      (Timescale scale) ts more refl (timescale_tokens (phrases_of done) scale good) e

  -- a reading that ends with `$enddefinitions $end`: these phrases, and these texts after them
  pub record ReadsHead (done : List (Placed HeaderPhrase)) (ps : List HeaderPhrase)
      (r : Reading HeaderPhrase) (more : List (List ℕ)) : Type 0 where
    pub ending : r.ending ≡ AtLast
    pub phrases : phrases_of r.placed ≡ phrases_of done ++ ps
    pub texts : texts_of r.rest ≡ more

  ends_pass : (earlier : List HeaderPhrase)
      → header_fault most earlier [] (keyword_text Keyword.EndDefinitions) ≡ None
  unfolding header_fault
  ends_pass earlier = rw keyword_of-text refl

  ends_none : header_phrase (keyword_text Keyword.EndDefinitions ∷ []) ≡ None
  unfolding header_phrase
  ends_none = rw keyword_of-text refl

  last_passes : (earlier : List HeaderPhrase)
      → header_fault most earlier (keyword_text Keyword.EndDefinitions ∷ []) end_text ≡ None
  unfolding header_fault
  last_passes earlier = rw keyword_of-text refl

  last_whole : header_phrase (keyword_text Keyword.EndDefinitions ∷ end_text ∷ [])
      ≡ Some EndDefinitions
  unfolding header_phrase
  last_whole = rw keyword_of-text refl

  pub reads_end : (done : List (Placed HeaderPhrase)) (ts : List Token) (more : List (List ℕ))
      → texts_of ts ≡ keyword_text Keyword.EndDefinitions ∷ end_text ∷ more
      → ReadsHead done (EndDefinitions ∷ []) (read_on done ts) more
  reads_end done [] more e = cc
  reads_end done (t ∷ []) more e = cc
  reads_end done (t ∷ u ∷ ts) more e =
      let same : t.bytes ≡ keyword_text Keyword.EndDefinitions = cc in
      let same' : u.bytes ≡ end_text = cc in
      let texts : texts_of ts ≡ more = cc in
      let g = header_grammar most in
      let first : read_on done (t ∷ u ∷ ts) ≡ read_from g done
      (keyword_text Keyword.EndDefinitions ∷ []) (u ∷ ts)
      = at_more g done [] t (u ∷ ts) (ap (header_fault most (phrases_of done) []) same
      ∙ ends_pass (phrases_of done)) (ap (λ l. header_phrase (l ∷ [])) same ∙ ends_none)
      ∙ ap (λ l. read_from g done (l ∷ []) (u ∷ ts)) same in
      let second = at_last g (header_computes most) done (keyword_text Keyword.EndDefinitions ∷ [])
      u ts EndDefinitions (ap (header_fault most (phrases_of done)
      (keyword_text Keyword.EndDefinitions ∷ [])) same' ∙ last_passes (phrases_of done))
      (ap (λ l. header_phrase (keyword_text Keyword.EndDefinitions ∷ l ∷ [])) same' ∙ last_whole) in
      subst (λ (r : Reading HeaderPhrase). ReadsHead done (EndDefinitions ∷ []) r more)
      (sym (first ∙ second)) (record {
        ending = refl;
        phrases = map-append (λ p. p.phrase) done
            (record { phrase = EndDefinitions; line = u.line } ∷ []);
        texts = texts;
      })

  -- phrases, and then the end
  pub reads_to_end : (done : List (Placed HeaderPhrase)) (ps qs : List HeaderPhrase)
      (ts : List Token) (mid more : List (List ℕ)) → ReadsPhrases done ps ts mid
      → ((placed : List (Placed HeaderPhrase)) (rest : List Token) → phrases_of placed ≡ ps
      → texts_of rest ≡ mid → ReadsHead (done ++ placed) qs (read_on (done ++ placed) rest)
      more) → ReadsHead done (ps ++ qs) (read_on done ts) more
  reads_to_end done ps qs ts mid more first next =
      let second = next first.placed first.rest first.phrases first.texts in
      subst (λ (r : Reading HeaderPhrase). ReadsHead done (ps ++ qs) r more) (sym first.reads)
      (record {
        ending = second.ending;
        phrases = second.phrases
            ∙ ap (λ l. l ++ qs) (map-append (λ p. p.phrase) done first.placed
            ∙ ap (λ l. phrases_of done ++ l) first.phrases) ∙ append_assoc (phrases_of done) ps qs;
        texts = second.texts;
      })
