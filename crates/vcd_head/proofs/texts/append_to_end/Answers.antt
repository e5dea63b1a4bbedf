use Rattle.vcd_head.proofs.Cited.{advances_nowhere, advances_on, [], ◌∷◌, ◌++◌, length, sym, ap, subst, ◌∙◌, arith, append_assoc, append-nil, length-append, err_from_is_err_and, token_of, Reads, spaced}
use Rattle.vcd_head.proofs.Facts.{faultless_more, reads_more, spaced_more}
use Rattle.vcd_head.proofs.texts.append_to_end.Goals as goal

pub tokens-init : goal.tokens-init
tokens-init g c = (
  advances_nowhere _ c.args.feed.now,
  λ most i placed before runs r. record {
    inner = [];
    none = tt;
    reads = subst (λ b. Reads most i placed b c.args.feed.now)
        (sym (append-nil before)) r;
    grows = sym (append-nil c.args.text.now.items);
  },
  omega arith,
)

pub returns-in_err-next_ends-clause-reads : goal.returns-in_err-next_ends-clause-reads
returns-in_err-next_ends-clause-reads g c =
    let p = err_from_is_err_and c.from_residual.result c.from_residual.ensures.1 in
    rw (p.1, p.2) (λ most i placed before runs r. let on = c.tokens.invariant.1 most i placed before runs r in c.in_err-next_ends.ensures.reads most i placed (before ++ on.inner) on.reads)

pub returns-clause-reads : goal.returns-clause-reads
returns-clause-reads g c = λ most i placed before runs r.
    let on = c.tokens.invariant.1 most i placed before runs r in
    record {
      inner = on.inner;
      none = on.none;
      token_read = c.in_ok-next_ends.ensures.reads most i placed
          (before ++ on.inner) on.reads;
      ends = sym c.in_ok-next_ends.ensures.end ∙ c.if-not-branch.false;
      grows = on.grows;
    }

pub returns-in_err-push-clause-reads : goal.returns-in_err-push-clause-reads
returns-in_err-push-clause-reads g c =
    let p = err_from_is_err_and c.from_residual-in_err-push.result c.from_residual-in_err-push.ensures.1 in
    rw (p.1, p.2) (λ most i placed before runs r.
    let on = c.tokens.invariant.1 most i placed before runs r in
    faultless_more most i placed before c.next_ends.new.feed on.inner runs on.none (sym c.in_ok-next_ends.ensures.end ∙ c.if-not-branch.true)
    (c.in_ok-next_ends.ensures.reads most i placed (before ++ on.inner) on.reads))

pub returns-in_err-extend_from_slice-clause-reads : goal.returns-in_err-extend_from_slice-clause-reads
returns-in_err-extend_from_slice-clause-reads g c =
    let p = err_from_is_err_and c.from_residual-in_err-extend_from_slice.result c.from_residual-in_err-extend_from_slice.ensures.1 in
    rw (p.1, p.2) (λ most i placed before runs r.
    let on = c.tokens.invariant.1 most i placed before runs r in
    faultless_more most i placed before c.next_ends.new.feed on.inner runs on.none (sym c.in_ok-next_ends.ensures.end ∙ c.if-not-branch.true)
    (c.in_ok-next_ends.ensures.reads most i placed (before ++ on.inner) on.reads))

pub tokens-preserved : goal.tokens-preserved
tokens-preserved g c =
    let grown = c.in_ok-extend_from_slice.ensures.items ∙ ap (λ x. x ++ c.token.result.now) c.in_ok-push.ensures.items ∙ append_assoc c.tokens.text.items (32 ∷ []) c.token.result.now in (
      advances_on g.S.Source.failures _ _ _ _ c.tokens.invariant.0 c.in_ok-next_ends.ensures.goes.advances,
      λ most i placed before runs r.
          let on = c.tokens.invariant.1 most i placed before runs r in
          let t = (token_of c.next_ends.new.feed).bytes in
          let old = c.args.text.now.items in
          reads_more most i placed before c.next_ends.new.feed on.inner runs on.none (sym c.in_ok-next_ends.ensures.end ∙ c.if-not-branch.true)
          (c.in_ok-next_ends.ensures.reads most i placed (before ++ on.inner) on.reads)
          (grown ∙ ap (λ x. c.tokens.text.items ++ 32 ∷ x) c.token.ensures ∙ ap (λ x. x ++ 32 ∷ t) on.grows
          ∙ append_assoc old (spaced on.inner) (32 ∷ t) ∙ ap (λ x. old ++ x) (sym (spaced_more on.inner t))),
      omega (arith, ap length grown, length-append c.tokens.text.items (32 ∷ c.token.result.now), c.tokens.invariant.2),
    )
