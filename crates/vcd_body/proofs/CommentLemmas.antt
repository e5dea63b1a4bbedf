-- A comment that lies ahead.
use Rattle.vcd_body.proofs.Cited.{◌≡◌, ℕ, ◌<◌, ◌≤◌, ◌∙◌, true, false, List, [], ◌∷◌, ◌++◌, None, append-nil, append_assoc, length, refl, sym, subst, arith, bytes_eq-Decides, BodyPhrase, body_grammar, IdCode, BodyItem, Keyword, is_end, keyword_text, Grammar, Placed, phrases_of, IsSoFar, Token, so_far-phrase, so_far-token, TakesToken, bytes_of, longest_of, passed_of, start_of, Passed, line_ahead, Ahead, AreWords, NoEnds, no_ends_more, texts_of, GaveAhead, PassesNoItem, is_comment}
use Rattle.vcd_body.proofs.AheadLemmas.{GoesOn, passed_over}
use Rattle.vcd_body.proofs.PhraseLemmas.{comment_begins, comment_goes_on, comment_open, comment_whole}

-- ---- words

pub words_more : (ts : List Token) (t : Token) → AreWords ts → is_end t.bytes ≡ false → AreWords (ts ++ t ∷ [])
words_more [] t h e = (e, tt)
words_more (u ∷ ts) t h e = (h.0, words_more ts t h.1 e)

-- a phrase in which any tokens may come up to `$end` continues after such tokens
pub words_on : {P : Type 0} (g : Grammar P) (placed : List (Placed P)) (before : List (List ℕ)) →
    ((inner : List (List ℕ)) (t : List ℕ) → NoEnds inner → (g.fault (phrases_of placed) (before ++ inner) t ≡ None)
    × (is_end t ≡ false → g.phrase (before ++ inner ++ t ∷ []) ≡ None))
    → (given more : List Token) (inner : List (List ℕ)) → NoEnds inner → AreWords more → IsSoFar g given placed (before ++ inner)
    → NoEnds (inner ++ texts_of more) × IsSoFar g (given ++ more) placed (before ++ (inner ++ texts_of more))
words_on g placed before runs given [] inner none words h = rw (append-nil inner, append-nil given) (none, h)
words_on g placed before runs given (t ∷ more) inner none words h =
    let step = runs inner t.bytes none in
    let one = so_far-token g given placed (before ++ inner) t h step.0 (step.1 words.0) in
    rw (sym (append_assoc given (t ∷ []) more), sym (append_assoc inner (t.bytes ∷ []) (texts_of more)))
    (words_on g placed before runs (given ++ t ∷ []) more (inner ++ t.bytes ∷ []) (no_ends_more inner t.bytes none words.0) words.1
    (subst (IsSoFar g (given ++ t ∷ []) placed) (append_assoc before inner (t.bytes ∷ [])) one))

-- a token is passed after those before, over the bytes at the first of them
pub passed_on : (limit lines : ℕ) (bytes : List ℕ) (a b : Ahead) (token : List ℕ) → longest_of a ≡ limit → bytes_of a ≡ bytes → (ts : List Token)
    → TakesToken a b token → Passed limit lines bytes (passed_of a) ts
    → Passed limit lines bytes (passed_of b) (ts ++ record { bytes = token; line = line_ahead lines (bytes_of a) (start_of b token) } ∷ [])
passed_on limit lines bytes a b token l e ts takes p =
    let from = subst (λ x. Passed (longest_of a) lines x (passed_of a) ts) (sym e) (subst (λ x. Passed x lines bytes (passed_of a) ts) (sym l) p) in
    let t : Token = record { bytes = token; line = line_ahead lines (bytes_of a) (start_of b token) } in
    subst (λ x. Passed x lines bytes (passed_of b) (ts ++ t ∷ [])) l (subst (λ x. Passed (longest_of a) lines x (passed_of b) (ts ++ t ∷ [])) e (takes.gives lines ts from))

-- ---- comments

-- the keyword of a comment
abbrev keyword : ℕ → Token
keyword line = record { bytes = keyword_text Keyword.Comment; line = line }

-- its tokens are a phrase
comment_reads : (codes : List IdCode) (limit lines : ℕ) (bytes : List ℕ) (before items : List BodyItem) (line : ℕ) (words : List Token) (end : Token)
    → AreWords words → is_end end.bytes ≡ true
    → GoesOn codes limit lines bytes before items ((keyword line ∷ words) ++ end ∷ []) (record { phrase = BodyPhrase.Comment (texts_of words); line = end.line })
comment_reads codes limit lines bytes before items line words end are ends given earlier e s =
    let grammar = body_grammar codes in
    let kind = keyword_text Keyword.Comment in
    let begins = comment_begins codes (phrases_of earlier) kind refl in
    let first = so_far-token grammar given earlier [] (keyword line) s begins.0 begins.1 in
    let inner = words_on grammar earlier (kind ∷ []) (λ inner t none.
    (comment_goes_on codes (phrases_of earlier) inner t, comment_open codes inner t none)) (given ++ keyword line ∷ []) words [] tt are first in
    let whole = so_far-phrase grammar ((given ++ keyword line ∷ []) ++ words) earlier (kind ∷ texts_of words) end
    (BodyPhrase.Comment (texts_of words)) inner.1 (comment_goes_on codes (phrases_of earlier) (texts_of words) end.bytes)
    (comment_whole codes (texts_of words) end.bytes inner.0 ends) refl in
    let after : List (Placed BodyPhrase) = earlier ++ record { phrase = BodyPhrase.Comment (texts_of words); line = end.line } ∷ [] in
    subst (λ (l : List Token). IsSoFar grammar l after []) (append_assoc (given ++ keyword line ∷ []) words (end ∷ []) ∙ append_assoc given (keyword line ∷ []) (words ++ end ∷ [])) whole

-- from one position ahead to another the keyword of a comment was passed, and then some words
pub record OpensComment (a a' : Ahead) : Type 0 where
  pub passes : (lines : ℕ) (ts : List Token) → Passed (longest_of a) lines (bytes_of a) (passed_of a) ts → (line : ℕ) × (words : List Token)
      × AreWords words × Passed (longest_of a) lines (bytes_of a) (passed_of a') (ts ++ keyword line ∷ words)
  pub further : passed_of a < passed_of a'
  pub same : (bytes_of a' ≡ bytes_of a) × (longest_of a' ≡ longest_of a)

pub comment_opens : (a b : Ahead) (token : List ℕ) → TakesToken a b token → is_comment token ≡ true → OpensComment a b
comment_opens a b token takes is = record {
  passes = λ lines ts p.
      let line = line_ahead lines (bytes_of a) (start_of b token) in
      let same : keyword_text Keyword.Comment ≡ token = (bytes_eq-Decides (keyword_text Keyword.Comment) token).0 is in
      (line, [], tt, subst (λ (t : List ℕ). Passed (longest_of a) lines (bytes_of a) (passed_of b) (ts ++ record { bytes = t; line = line } ∷ [])) (sym same) (takes.gives lines ts p));
  further = let further = takes.further in omega (arith, further);
  same = takes.same;
}

module _ (a b c : Ahead) (token : List ℕ) (begun : OpensComment a b) (takes : TakesToken b c token) where
  abbrev one : ℕ → Token
  one lines = record { bytes = token; line = line_ahead lines (bytes_of b) (start_of c token) }

  less : passed_of a < passed_of c
  less = let first = begun.further in let further = takes.further in omega (arith, first, further)

  same : (bytes_of c ≡ bytes_of a) × (longest_of c ≡ longest_of a)
  same = (takes.same.0 ∙ begun.same.0, takes.same.1 ∙ begun.same.1)

  -- with one token more
  passes_one : (lines : ℕ) (ts : List Token) → Passed (longest_of a) lines (bytes_of a) (passed_of a) ts
      → (line : ℕ) × (words : List Token) × AreWords words × Passed (longest_of a) lines (bytes_of a) (passed_of c) (ts ++ ((keyword line ∷ words) ++ one lines ∷ []))
  passes_one lines ts p =
      let o = begun.passes lines ts p in
      let q = passed_on (longest_of a) lines (bytes_of a) b c token begun.same.1 begun.same.0 (ts ++ keyword o.0 ∷ o.1) takes o.3 in
      (o.0, o.1, o.2, subst (Passed (longest_of a) lines (bytes_of a) (passed_of c)) (append_assoc ts (keyword o.0 ∷ o.1) (one lines ∷ [])) q)

  pub word_passes : is_end token ≡ false → OpensComment a c
  word_passes word = record {
    passes = λ lines ts p. let o = passes_one lines ts p in (o.0, o.1 ++ one lines ∷ [], words_more o.1 (one lines) o.2 word, o.3);
    further = less;
    same = same;
  }

  pub comment_passes : is_end token ≡ true → PassesNoItem a c
  comment_passes end = record {
    gives = λ codes limit lines bytes before items over.
        let here : GaveAhead codes (longest_of a) lines (bytes_of a) (passed_of a) before items → GaveAhead codes (longest_of a) lines (bytes_of a) (passed_of c) before items =
        λ g.
        let o = passes_one lines g.tokens g.passed in
        passed_over codes (longest_of a) lines (bytes_of a) before items (passed_of a) (passed_of c) ((keyword o.0 ∷ o.1) ++ one lines ∷ [])
        (record { phrase = BodyPhrase.Comment (texts_of o.1); line = (one lines).line }) g (omega (arith, less)) o.3 refl
        (comment_reads codes (longest_of a) lines (bytes_of a) before items o.0 o.1 (one lines) o.2 end) in
        subst (λ (bs : List ℕ). GaveAhead codes limit lines bs (passed_of a) before items → GaveAhead codes limit lines bs (passed_of c) before items) over.1
        (subst (λ (k : ℕ). GaveAhead codes k lines (bytes_of a) (passed_of a) before items → GaveAhead codes k lines (bytes_of a) (passed_of c) before items) over.0 here);
    passes = λ limit lines bytes ts over.
        let here : Passed (longest_of a) lines (bytes_of a) (passed_of a) ts → (more : List Token) × Passed (longest_of a) lines (bytes_of a) (passed_of c) (ts ++ more) =
        λ p. let o = passes_one lines ts p in ((keyword o.0 ∷ o.1) ++ one lines ∷ [], o.3) in
        subst (λ (bs : List ℕ). Passed limit lines bs (passed_of a) ts → (more : List Token) × Passed limit lines bs (passed_of c) (ts ++ more)) over.1
        (subst (λ (k : ℕ). Passed k lines (bytes_of a) (passed_of a) ts → (more : List Token) × Passed k lines (bytes_of a) (passed_of c) (ts ++ more)) over.0 here);
    further = omega (arith, less);
    within = λ _. subst (λ (bs : List ℕ). passed_of c ≤ length bs) (sym takes.same.0) takes.within;
    same = same;
  }

-- another look-ahead at the same position passes nothing
pub same_place : (a b : Ahead) → (passed_of b ≡ passed_of a) × (bytes_of b ≡ bytes_of a) × (longest_of b ≡ longest_of a) → PassesNoItem a b
same_place a b there = record {
  gives = λ codes limit lines bytes before items over g. subst (λ (n : ℕ). GaveAhead codes limit lines bytes n before items) (sym there.0) g;
  passes = λ limit lines bytes ts over p. ([], rw (append-nil ts, there.0) p);
  further = let e = there.0 in omega (arith, e);
  within = λ within. subst (λ (bs : List ℕ). passed_of b ≤ length bs) (sym there.1) (subst (λ (n : ℕ). n ≤ length (bytes_of a)) (sym there.0) within);
  same = (there.1, there.2);
}

-- and more comments
pub passes_both : (a b c : Ahead) → PassesNoItem a b → PassesNoItem b c → PassesNoItem a c
passes_both a b c first then = record {
  gives = λ codes limit lines bytes before items over g. then.gives codes limit lines bytes before items (
    first.same.1 ∙ over.0,
    first.same.0
        ∙ over.1,
  ) (first.gives codes limit lines bytes before items over g);
  passes = λ limit lines bytes ts over p.
      let one = first.passes limit lines bytes ts over p in
      let two = then.passes limit lines bytes (ts ++ one.0) (first.same.1 ∙ over.0, first.same.0 ∙ over.1) one.1 in
      (one.0 ++ two.0, subst (Passed limit lines bytes (passed_of c)) (append_assoc ts one.0 two.0) two.1);
  further = let p = first.further in let q = then.further in omega (arith, p, q);
  within = λ within. then.within (first.within within);
  same = (then.same.0 ∙ first.same.0, then.same.1 ∙ first.same.1);
}
