use Rattle.vcd_body.proofs.Cited.{◌≤◌, ℕ, drop, ap, subst, sym, ◌∙◌, arith, err_from_is_err_and, BodyItem, time_after, items_of, RefusesTimestamp, Passes, spelled_below}
use Rattle.vcd_body.proofs.Facts.{none_spelled, time_spelled, bad_time, mark_own, mark_refused, time_passes}
use Rattle.vcd_body.proofs.phrases.read_timestamp.Goals as goal

pub returns-in_default-clause-time : goal.returns-in_default-clause-time
returns-in_default-clause-time c = λ codes earlier k. (
  λ x. cc,
  bad_time codes earlier c.args.token.now c.requires (none_spelled (drop 1 c.args.token.now) (ap spelled_below (sym c.rest_of.ensures)
      ∙ sym c.decimal_of.ensures ∙ c.in_default.is)),
)

pub returns-in_err-accept_timestamp-clause-time : goal.returns-in_err-accept_timestamp-clause-time
returns-in_err-accept_timestamp-clause-time c =
    let p = err_from_is_err_and c.from_residual.result c.from_residual.ensures.1 in
    rw (p.1, p.2) (λ codes earlier k.
    let t = time_spelled (drop 1 c.args.token.now) c.in-Some.time (ap spelled_below (sym c.rest_of.ensures) ∙ sym c.decimal_of.ensures ∙ c.in-Some.is) in
    mark_refused codes earlier c.args.token.now c.requires c.args.regs.now k t.0 c.in_err-accept_timestamp.field-0.0
    (subst (λ n. RefusesTimestamp c.args.regs.now n c.in_err-accept_timestamp.field-0.0) (sym t.1) c.in_err-accept_timestamp.ensures.may))

pub returns-in_err-accept_timestamp-clause-own : goal.returns-in_err-accept_timestamp-clause-own
returns-in_err-accept_timestamp-clause-own c =
    let p = err_from_is_err_and c.from_residual.result c.from_residual.ensures.1 in
    rw (p.1, p.2) (mark_own c.args.regs.now c.in-Some.time c.in_err-accept_timestamp.field-0.0 c.in_err-accept_timestamp.ensures.may)

pub returns-clause-time : goal.returns-clause-time
returns-clause-time c = λ codes earlier k.
    let t = time_spelled (drop 1 c.args.token.now) c.in-Some.time (ap spelled_below (sym c.rest_of.ensures) ∙ sym c.decimal_of.ensures ∙ c.in-Some.is) in
    let value = t.1 in
    let may = c.in_ok-accept_timestamp.ensures.may in
    let forth = may.forth in
    subst (λ (n : ℕ). Passes codes earlier c.args.token.now (BodyItem.Time n) × (time_after (items_of earlier) ≤ n)) t.1
    (time_passes codes earlier c.args.token.now c.requires c.args.regs.now k t.0 may.outside (omega (arith, forth, value)))
