use Rattle.vcd_head.proofs.Cited.{CallEnd, advances_on, advances_nowhere, MatchBool-at_false, MatchBool-at_true, err_from_is_err_and}
use Rattle.vcd_head.proofs.read.read_phrases.Goals as goal

pub phrases-init : goal.phrases-init
phrases-init g c = (advances_nowhere g.S.Source.failures c.args.feed.now, λ i b. b)

pub returns-in_err-read_phrase-clause-reads : goal.returns-in_err-read_phrase-clause-reads
returns-in_err-read_phrase-clause-reads g c =
    let p = err_from_is_err_and c.from_residual.result c.from_residual.ensures.1 in
    rw (p.1, p.2) (λ i b. c.in_err-read_phrase.ensures.reads i (c.phrases.invariant.1 i b))

pub returns-in_err-read_phrase-clause-advances : goal.returns-in_err-read_phrase-clause-advances
returns-in_err-read_phrase-clause-advances g c =
    let p = err_from_is_err_and c.from_residual.result c.from_residual.ensures.1 in
    rw (p.1, p.2) (advances_on g.S.Source.failures c.args.feed.now c.phrases.feed c.read_phrase.new.feed _ c.phrases.invariant.0 c.in_err-read_phrase.ensures.advances)

pub returns-clause-reads : goal.returns-clause-reads
returns-clause-reads g c = λ i b. MatchBool-at_false _ _ c.if-branch.false (c.in_ok-read_phrase.ensures.reads i (c.phrases.invariant.1 i b))

pub returns-clause-advances : goal.returns-clause-advances
returns-clause-advances g c = advances_on g.S.Source.failures c.args.feed.now c.phrases.feed c.read_phrase.new.feed CallEnd.GoesOn c.phrases.invariant.0 c.in_ok-read_phrase.ensures.advances

pub phrases-preserved : goal.phrases-preserved
phrases-preserved g c = (
  advances_on g.S.Source.failures c.args.feed.now c.phrases.feed c.read_phrase.new.feed CallEnd.GoesOn c.phrases.invariant.0 c.in_ok-read_phrase.ensures.advances,
  λ i b. MatchBool-at_true _ _ c.if-branch.true (c.in_ok-read_phrase.ensures.reads i (c.phrases.invariant.1 i b)),
)
