use Rattle.vcd_head.proofs.Cited.{[], MatchBool, sym, ap, subst, ◌∙◌, err_from_is_err_and, keyword_of, DraftsUpTo, DraftsAll}
use Rattle.vcd_head.proofs.Facts.{begun_by}
use Rattle.vcd_head.proofs.phrases.read_phrase.Goals as goal

pub returns-in_err-next_token-clause-reads : goal.returns-in_err-next_token-clause-reads
returns-in_err-next_token-clause-reads g c =
    let p = err_from_is_err_and c.from_residual.result c.from_residual.ensures.1 in
    rw (p.1, p.2) (λ i b. c.in_err-next_token.ensures.reads c.args.most i b.placed [] b.reads)

pub returns-in_err-read_rest-clause-reads : goal.returns-in_err-read_rest-clause-reads
returns-in_err-read_rest-clause-reads g c =
    let p = err_from_is_err_and c.from_residual-in_err-read_rest.result c.from_residual-in_err-read_rest.ensures.1 in
    rw (p.1, p.2) (λ i b.
    let l = c.in_ok-next_token.ensures.reads c.args.most i b.placed [] b.reads in
    c.in_err-read_rest.ensures.reads i (begun_by c.args.most i c.args.draft.now c.next_token.new.feed b.placed c.of-keyword.result (c.of-keyword.ensures ∙ ap keyword_of c.token.ensures) l b.holds))

pub returns-clause-reads : goal.returns-clause-reads
returns-clause-reads g c = λ i b.
    let l = c.in_ok-next_token.ensures.reads c.args.most i b.placed [] b.reads in
    let after = c.in_ok-read_rest.ensures.reads i (begun_by c.args.most i c.args.draft.now c.next_token.new.feed b.placed c.of-keyword.result
    (c.of-keyword.ensures ∙ ap keyword_of c.token.ensures) l b.holds) in
    subst (λ more. MatchBool more (DraftsUpTo c.args.most i c.read_rest.new.draft c.read_rest.new.feed)
    (DraftsAll c.args.most i c.read_rest.new.draft c.read_rest.new.feed)) (sym c.goes_on.ensures) after
