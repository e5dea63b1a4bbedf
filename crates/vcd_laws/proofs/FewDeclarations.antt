-- A header without a fault is read alike wherever no fewer declarations are allowed than it has.
use Rattle.vcd_laws.proofs.Cited.{◌≡◌, ℕ, ◌<◌, ◌≤◌, Bool, true, false, nat_lt, List, [], ◌∷◌, ◌++◌, length, Option, Some, None, refl, sym, ap, ◌∙◌, subst, arith, lt-ltb, filter_map-append, Token, Stream, Keyword, keyword_of, Declaration, HeaderPhrase, IsHeaderPhrase, phrase_with, scope_of, up_of, var_of, declaration_of, declarations_of, Declares, first_failed, header_grammar, read_header, Placed, phrases_of, texts_of, Ending, Reading, PassChecks, AreGood, Ends, IsReading, AtFault, AtEnd, AtLast, mapped, header_computes, header_reading_is_unique, passes}
use Rattle.std.proofs.Common.{append_assoc, length-append}
use Rattle.vcd_model.specs.HeaderPhrases.{header_phrase}
use Rattle.vcd_model.specs.HeaderChecks.{start_of, header_fault}

-- a phrase that begins so declares something
abbrev begins_declaration : Option Keyword → Bool
begins_declaration None = false
begins_declaration (Some Keyword.Scope) = true
begins_declaration (Some Keyword.Upscope) = true
begins_declaration (Some Keyword.Var) = true
begins_declaration (Some k) = false

declares : (k : Keyword) (ts : List (List ℕ)) (p : HeaderPhrase) → begins_declaration (Some k) ≡ true
    → phrase_with k ts ≡ Some p → (d : Declaration) × (p ≡ Declares d)
declares Keyword.Scope ts p b e = mapped Declares (scope_of ts) p e (λ d f g. (d, sym g))
declares Keyword.Upscope ts p b e = mapped Declares (up_of ts) p e (λ d f g. (d, sym g))
declares Keyword.Var ts p b e = mapped Declares (var_of ts) p e (λ d f g. (d, sym g))
declares Keyword.Comment ts p b e = cc
declares Keyword.Date ts p b e = cc
declares Keyword.EndDefinitions ts p b e = cc
declares Keyword.Timescale ts p b e = cc
declares Keyword.Version ts p b e = cc
declares Keyword.DumpAll ts p b e = cc
declares Keyword.DumpOff ts p b e = cc
declares Keyword.DumpOn ts p b e = cc
declares Keyword.DumpVars ts p b e = cc
declares Keyword.End ts p b e = cc

phrase_declares : (t : List ℕ) (ts : List (List ℕ)) (p : HeaderPhrase) → header_phrase (t ∷ ts) ≡ Some p
    → begins_declaration (keyword_of t) ≡ true → (d : Declaration) × (p ≡ Declares d)
unfolding header_phrase
phrase_declares t ts p e b = by_keyword (keyword_of t) refl b e
  where
    by_keyword : (k : Option Keyword) → keyword_of t ≡ k → begins_declaration k ≡ true
        → header_phrase (t ∷ ts) ≡ Some p → (d : Declaration) × (p ≡ Declares d)
    by_keyword None f b e = cc
    by_keyword (Some k) f b e = declares k ts p b (rw f at e)

-- the first token of a phrase, if another number of declarations is allowed
start_passes : (most m : ℕ) (ds : List Declaration) (t : List ℕ) (k : Option Keyword)
    → (begins_declaration k ≡ true → length ds < m)
    → first_failed (start_of most ds t k) ≡ None → first_failed (start_of m ds t k) ≡ None
start_passes most m ds t None few h = h
start_passes most m ds t (Some Keyword.Scope) few h =
    let p = passes (nat_lt (length ds) most) 11 _ h in rw (lt-ltb (length ds) m (few refl)) p.1
start_passes most m ds t (Some Keyword.Upscope) few h =
    let p = passes (nat_lt (length ds) most) 11 _ h in rw (lt-ltb (length ds) m (few refl)) p.1
start_passes most m ds t (Some Keyword.Var) few h =
    let p = passes (nat_lt (length ds) most) 11 _ h in rw (lt-ltb (length ds) m (few refl)) p.1
start_passes most m ds t (Some Keyword.Comment) few h = h
start_passes most m ds t (Some Keyword.Date) few h = h
start_passes most m ds t (Some Keyword.EndDefinitions) few h = h
start_passes most m ds t (Some Keyword.Timescale) few h = h
start_passes most m ds t (Some Keyword.Version) few h = h
start_passes most m ds t (Some Keyword.DumpAll) few h = h
start_passes most m ds t (Some Keyword.DumpOff) few h = h
start_passes most m ds t (Some Keyword.DumpOn) few h = h
start_passes most m ds t (Some Keyword.DumpVars) few h = h
start_passes most m ds t (Some Keyword.End) few h = h

-- later tokens pass the same checks
inner_pass : (most m : ℕ) (earlier : List HeaderPhrase) (first : List ℕ) (before ts : List (List ℕ))
    → PassChecks (header_grammar most) earlier (first ∷ before) ts
    → PassChecks (header_grammar m) earlier (first ∷ before) ts
unfolding header_fault
inner_pass most m earlier first before [] p = tt
inner_pass most m earlier first before (t ∷ ts) p =
    (p.0, inner_pass most m earlier first (before ++ t ∷ []) ts p.1)

phrase_passes : (most m : ℕ) (earlier : List HeaderPhrase) (ts : List (List ℕ)) (p : HeaderPhrase)
    → IsHeaderPhrase ts p
    → ((d : Declaration) → p ≡ Declares d → length (declarations_of earlier) < m)
    → PassChecks (header_grammar most) earlier [] ts → PassChecks (header_grammar m) earlier [] ts
unfolding header_fault
phrase_passes most m earlier [] p is few pass = tt
phrase_passes most m earlier (t ∷ ts) p is few pass =
    let phrase = (header_computes most).only (t ∷ ts) p is in (
      start_passes most m (declarations_of earlier) t (keyword_of t)
          (λ b. let d = phrase_declares t ts p phrase b in few d.0 d.1) pass.0,
      inner_pass most m earlier t [] ts pass.1,
    )

-- phrases with no more declarations than that
declared_first : (earlier : List HeaderPhrase) (d : Declaration) (more : List HeaderPhrase) (m : ℕ)
    → length (declarations_of (earlier ++ Declares d ∷ more)) ≤ m → length (declarations_of earlier) < m
declared_first earlier d more m h =
    let e = ap length (filter_map-append declaration_of earlier (Declares d ∷ more)) in
    let n = length-append (declarations_of earlier) (d ∷ declarations_of more) in
    omega arith

are_good : (most m : ℕ) (earlier : List HeaderPhrase) (ts : List Token) (ps : List (Placed HeaderPhrase))
    → length (declarations_of (earlier ++ phrases_of ps)) ≤ m
    → AreGood (header_grammar most) earlier ts ps → AreGood (header_grammar m) earlier ts ps
are_good most m earlier ts [] few good = good
are_good most m earlier ts (p ∷ ps) few good =
    let own = good.0 in
    let is = good.3 in (
      own,
      good.1,
      good.2,
      record {
        front = is.front;
        last = is.last;
        tokens = is.tokens;
        line = is.line;
        phrase = is.phrase;
        first = is.first;
        passed = phrase_passes most m earlier (texts_of own) p.phrase is.phrase
            (λ d e. declared_first earlier d (phrases_of ps) m
            (subst (λ (q : HeaderPhrase). length (declarations_of (earlier ++ q ∷ phrases_of ps)) ≤ m) e few))
            is.passed;
      },
      are_good most m (earlier ++ p.phrase ∷ []) good.1 ps
          (subst (λ (l : List HeaderPhrase). length (declarations_of l) ≤ m) (sym (append_assoc earlier (p.phrase ∷ []) (phrases_of ps))) few) good.4,
    )

reads_alike : (most m : ℕ) (ts : List Token) (r : Reading HeaderPhrase) → r.ending ≡ AtLast
    → length (declarations_of (phrases_of r.placed)) ≤ m
    → IsReading (header_grammar most) ts r → IsReading (header_grammar m) ts r
reads_alike most m ts r e few is =
    let ends : Ends (header_grammar most) r is.before AtLast r.rest = subst (λ (x : Ending). Ends (header_grammar most) r is.before x r.rest) e is.ends in
    let none : r.before ≡ [] = is.texts ∙ ap texts_of ends.0 in
    record {
      done = is.done;
      before = is.before;
      tokens = is.tokens;
      good = are_good most m [] is.done r.placed few is.good;
      texts = is.texts;
      passed = subst (PassChecks (header_grammar m) (phrases_of r.placed) []) (sym none) tt;
      unfinished = is.unfinished;
      ends = subst (λ (x : Ending). Ends (header_grammar m) r is.before x r.rest) (sym e) ends;
    }

pub few_declarations : (most m : ℕ) (stream : Stream) → (read_header most stream).ending ≡ AtLast
    → length (declarations_of (phrases_of (read_header most stream).placed)) ≤ m
    → read_header m stream ≡ read_header most stream
few_declarations most m stream e few =
    let r = read_header most stream in
    let is = (header_reading_is_unique most stream r).1 refl in
    sym ((header_reading_is_unique m stream r).0 (reads_alike most m stream.tokens r e few is))

-- ---- any header, if more are allowed than it has

start_same : (most m : ℕ) (ds : List Declaration) (t : List ℕ) (k : Option Keyword) → length ds < most → length ds < m
    → first_failed (start_of most ds t k) ≡ first_failed (start_of m ds t k)
start_same most m ds t None a b = refl
start_same most m ds t (Some Keyword.Scope) a b = rw (lt-ltb (length ds) most a, lt-ltb (length ds) m b) refl
start_same most m ds t (Some Keyword.Upscope) a b = rw (lt-ltb (length ds) most a, lt-ltb (length ds) m b) refl
start_same most m ds t (Some Keyword.Var) a b = rw (lt-ltb (length ds) most a, lt-ltb (length ds) m b) refl
start_same most m ds t (Some Keyword.Comment) a b = refl
start_same most m ds t (Some Keyword.Date) a b = refl
start_same most m ds t (Some Keyword.EndDefinitions) a b = refl
start_same most m ds t (Some Keyword.Timescale) a b = refl
start_same most m ds t (Some Keyword.Version) a b = refl
start_same most m ds t (Some Keyword.DumpAll) a b = refl
start_same most m ds t (Some Keyword.DumpOff) a b = refl
start_same most m ds t (Some Keyword.DumpOn) a b = refl
start_same most m ds t (Some Keyword.DumpVars) a b = refl
start_same most m ds t (Some Keyword.End) a b = refl

module _ (most m : ℕ) (earlier : List HeaderPhrase) (a : length (declarations_of earlier) < most) (b : length (declarations_of earlier) < m) where
  fault_same : (before : List (List ℕ)) (t : List ℕ) → header_fault most earlier before t ≡ header_fault m earlier before t
  unfolding header_fault
  fault_same [] t = start_same most m (declarations_of earlier) t (keyword_of t) a b
  fault_same (k ∷ before) t = refl

  pass_same : (before ts : List (List ℕ)) → PassChecks (header_grammar most) earlier before ts → PassChecks (header_grammar m) earlier before ts
  pass_same before [] p = tt
  pass_same before (t ∷ ts) p = (sym (fault_same before t) ∙ p.0, pass_same (before ++ t ∷ []) ts p.1)

reads_same : (most m : ℕ) (ts : List Token) (r : Reading HeaderPhrase)
    → length (declarations_of (phrases_of r.placed)) < most → length (declarations_of (phrases_of r.placed)) < m
    → IsReading (header_grammar most) ts r → IsReading (header_grammar m) ts r
reads_same most m ts r a b is = record {
  done = is.done;
  before = is.before;
  tokens = is.tokens;
  good = are_good most m [] is.done r.placed (omega arith) is.good;
  texts = is.texts;
  passed = pass_same most m (phrases_of r.placed) a b [] r.before is.passed;
  unfinished = is.unfinished;
  ends = ends_same r.ending r.rest is.ends;
}
  where
    ends_same : (x : Ending) (rest : List Token) → Ends (header_grammar most) r is.before x rest → Ends (header_grammar m) r is.before x rest
    ends_same AtEnd rest h = h
    ends_same AtLast rest h = h
    ends_same (AtFault f) [] h = absurd h
    ends_same (AtFault f) (t ∷ ts) h = (sym (fault_same most m (phrases_of r.placed) a b r.before t.bytes) ∙ h.0, h.1, h.2)

pub fewer_declarations : (most m : ℕ) (stream : Stream)
    → length (declarations_of (phrases_of (read_header most stream).placed)) < most
    → length (declarations_of (phrases_of (read_header most stream).placed)) < m
    → read_header m stream ≡ read_header most stream
fewer_declarations most m stream a b =
    let r = read_header most stream in
    let is = (header_reading_is_unique most stream r).1 refl in
    sym ((header_reading_is_unique m stream r).0 (reads_same most m stream.tokens r a b is))
