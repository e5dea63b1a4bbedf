use Rattle.vcd_head.proofs.Cited.{advances_on, sym, ◌∙◌, ◌++◌, err_from_is_err_and}
use Rattle.vcd_head.proofs.Facts.{reads_more}
use Rattle.vcd_head.proofs.texts.skip_to_end.Goals as goal

pub returns-in_err-next_ends-clause-reads : goal.returns-in_err-next_ends-clause-reads
returns-in_err-next_ends-clause-reads g c =
    let p = err_from_is_err_and c.from_residual.result c.from_residual.ensures.1 in
    rw (p.1, p.2) (λ most i placed before runs r. let on = c.tokens.invariant.1 most i placed before runs r in c.in_err-next_ends.ensures.reads most i placed (before ++ on.inner) on.reads)

pub returns-clause-reads : goal.returns-clause-reads
returns-clause-reads g c = λ most i placed before runs r.
    let on = c.tokens.invariant.1 most i placed before runs r in
    record {
      inner = on.inner;
      none = on.none;
      token_read = c.in_ok-next_ends.ensures.reads most i placed
          (before ++ on.inner) on.reads;
      ends = sym c.in_ok-next_ends.ensures.end ∙ c.if-not-branch.false;
      grows = tt;
    }

pub tokens-preserved : goal.tokens-preserved
tokens-preserved g c = (
  advances_on g.S.Source.failures _ _ _ _ c.tokens.invariant.0 c.in_ok-next_ends.ensures.goes.advances,
  λ most i placed before runs r.
      let on = c.tokens.invariant.1 most i placed before runs r in
      reads_more most i placed before c.next_ends.new.feed on.inner runs on.none (sym c.in_ok-next_ends.ensures.end ∙ c.if-not-branch.true)
      (c.in_ok-next_ends.ensures.reads most i placed (before ++ on.inner) on.reads) tt,
)
