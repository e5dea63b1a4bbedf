use Rattle.vcd_body.proofs.Cited.{refl, ◌∙◌, arith, err_from_is_err_and, advances_on}
use Rattle.vcd_body.proofs.Facts.{still_first}
use Rattle.vcd_body.proofs.read.next_item.Goals as goal

pub returns-in-Some-clause-reads : goal.returns-in-Some-clause-reads
returns-in-Some-clause-reads g c = λ h i front items v s.
    let on = c.phrases.invariant.3 h i front items v s in
    rw c.in-Some.is at c.in_ok-item.ensures.reads h i front items v on

pub returns-in-Some-clause-ahead : goal.returns-in-Some-clause-ahead
returns-in-Some-clause-ahead g c = λ w.
    let a = still_first c.args.feed.now c.phrases.feed c.phrases.invariant.4 w in
    (c.in_ok-item.ensures.ahead a.0).1 ∙ a.1

pub returns-in_err-item-clause-ahead : goal.returns-in_err-item-clause-ahead
returns-in_err-item-clause-ahead g c = λ w.
    let a = still_first c.args.feed.now c.phrases.feed c.phrases.invariant.4 w in
    (c.in_err-item.ensures.ahead a.0).1 ∙ a.1

pub returns-in_err-item-clause-advances : goal.returns-in_err-item-clause-advances
returns-in_err-item-clause-advances g c =
    let p = err_from_is_err_and c.from_residual.result c.from_residual.ensures.1 in
    rw (p.1, p.2) (advances_on g.S.Source.failures _ _ _ _ c.phrases.invariant.0 c.in_err-item.ensures.advances)

pub phrases-preserved : goal.phrases-preserved
phrases-preserved g c = (
  advances_on g.S.Source.failures _ _ _ _ (advances_on g.S.Source.failures _ _ _ _ c.phrases.invariant.0 c.in_ok-item.ensures.advances) c.pass_comments.ensures.advances,
  (let so_far = c.phrases.invariant.1 in let more = c.in_ok-item.ensures.advances.on refl in let past = c.pass_comments.ensures.advances.on refl in omega arith),
  (rw c.in_default.is at c.in_ok-item.ensures.regs) ∙ c.phrases.invariant.2,
  λ h i front items v s. c.pass_comments.ensures.gives h.codes i front items _ (rw c.in_default.is at c.in_ok-item.ensures.reads h i front items v (c.phrases.invariant.3 h i front items v s)),
  λ w.
      let a = still_first c.args.feed.now c.phrases.feed c.phrases.invariant.4 w in
      let none = rw c.in_default.is at (c.in_ok-item.ensures.ahead a.0).0 in
      absurd (cc),
)
