use Rattle.vcd_body.proofs.Cited.{advances_on, advances_nowhere, ◌≡◌, ℕ, List, ◌∷◌, [], ◌++◌, true, false, refl, sym, ap, subst, ◌∙◌, arith, err_from_is_err_and, Keyword, keyword_text, is_end, BodyPhrase, body_grammar, IdCode, Input, Placed, phrases_of, Token, HasGiven, token_of, Ghosts, Feed, NoEnds, PassesWords, texts_of, no_ends_more, Reads}
use Rattle.vcd_body.proofs.Facts.{taken, taken_phrase, comment_goes_on, comment_open, comment_whole, words_on}
use Rattle.std.proofs.lemmas.List.{append_assoc}
use Rattle.vcd_body.proofs.phrases.skip_comment.Goals as goal

-- the comment goes on after the words that were passed
comment_words : {X : Type 0} {g : Ghosts X} (codes : List IdCode) (i : Input) (front : List Token) (placed : List (Placed BodyPhrase)) (old new : Feed X g) → PassesWords old new
    → (inner : List (List ℕ)) × NoEnds inner × Reads codes i front placed (keyword_text Keyword.Comment ∷ inner) old → (inner : List (List ℕ))
    × NoEnds inner × Reads codes i front placed (keyword_text Keyword.Comment ∷ inner) new
comment_words codes i front placed old new words on =
    let r = on.2 in
    let all = words_on (body_grammar codes) placed (keyword_text Keyword.Comment ∷ [])
    (λ inner t none. (comment_goes_on codes (phrases_of placed) inner t, comment_open codes inner t none))
    r.given words.0 on.0 on.1 words.1 r.so_far in (
      on.0 ++ texts_of words.0,
      all.0,
      record {
        given = r.given ++ words.0;
        stands = subst (λ ts. HasGiven i ts new)
            (append_assoc front r.given words.0) (words.2 i (front ++ r.given) r.stands);
        so_far = all.1;
      },
    )

pub tokens-init : goal.tokens-init
tokens-init g c = (advances_nowhere g.S.Source.failures c.args.feed.now, omega arith, λ codes i front placed r. ([], tt, r))

pub returns-in_err-next_inner-clause-reads : goal.returns-in_err-next_inner-clause-reads
returns-in_err-next_inner-clause-reads g c =
    let p = err_from_is_err_and c.from_residual.result c.from_residual.ensures.1 in
    rw (p.1, p.2) (λ codes i front placed r. let on = comment_words codes i front placed _ _ c.pass_words.ensures.passes
    (c.tokens.invariant.2 codes i front placed r) in c.in_err-next_inner.ensures.reads codes i front placed
    (keyword_text Keyword.Comment) on.0 on.2)

pub returns-then-is_end-clause-reads : goal.returns-then-is_end-clause-reads
returns-then-is_end-clause-reads g c = λ codes i front placed r.
    let on = comment_words codes i front placed _ _ c.pass_words.ensures.passes (c.tokens.invariant.2 codes i front placed r) in
    let l = c.in_ok-next_inner.ensures.reads codes i front placed (keyword_text Keyword.Comment) on.0 on.2 in
    let t = (token_of c.next_inner.new.feed).bytes in
    let e : is_end t ≡ true = sym (c.is_end.ensures ∙ ap is_end c.token.ensures) ∙ c.if-is_end.true in (
      on.0,
      taken_phrase codes i front placed (keyword_text Keyword.Comment ∷ on.0) c.next_inner.new.feed (BodyPhrase.Comment on.0)
          (comment_goes_on codes (phrases_of placed) on.0 t) (comment_whole codes on.0 t on.1 e) l,
    )

pub tokens-preserved : goal.tokens-preserved
tokens-preserved g c = (
  advances_on g.S.Source.failures _ _ _ _ (advances_on g.S.Source.failures _ _ _ _ c.tokens.invariant.0 c.pass_words.ensures.advances) c.in_ok-next_inner.ensures.goes.advances,
  (let so_far = c.tokens.invariant.1 in let passed = c.pass_words.ensures.advances.on refl in let more = c.in_ok-next_inner.ensures.goes.progress in omega arith),
  λ codes i front placed r.
      let on = comment_words codes i front placed _ _ c.pass_words.ensures.passes (c.tokens.invariant.2 codes i front placed r) in
      let l = c.in_ok-next_inner.ensures.reads codes i front placed (keyword_text Keyword.Comment) on.0 on.2 in
      let t = (token_of c.next_inner.new.feed).bytes in
      let e : is_end t ≡ false = sym (c.is_end.ensures ∙ ap is_end c.token.ensures) ∙ c.if-is_end.false in (
        on.0 ++ t ∷ [],
        no_ends_more on.0 t on.1 e,
        taken codes i front placed (keyword_text Keyword.Comment ∷ on.0) c.next_inner.new.feed (comment_goes_on codes (phrases_of placed) on.0 t) (comment_open codes on.0 t on.1 e) l,
      ),
)
