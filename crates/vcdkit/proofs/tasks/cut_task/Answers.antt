use Rattle.vcdkit.proofs.Cited.{◌≡◌, Err, rules, sym, asked, tick_refusal, above, from_refused, in_order, ordered, to_refused}
use Rattle.vcdkit.proofs.tasks.cut_task.Goals as goal

pub returns-in_err-from-clause-request : goal.returns-in_err-from-clause-request
returns-in_err-from-clause-request c = λ h v.
    let same : c.from_residual.result ≡ Err (tick_refusal c.in_err-from.field-0.0) = search rules in
    rw same (from_refused h.scale (asked c.args.from) (asked c.args.to) c.in_err-from.field-0.0 (sym (c.in_err-from.ensures.header h v)))

pub returns-in_err-to-clause-request : goal.returns-in_err-to-clause-request
returns-in_err-to-clause-request c = λ h v.
    let same : c.from_residual-in_err-to.result ≡ Err (tick_refusal c.in_err-to.field-0.0) = search rules in
    rw same (to_refused h.scale (asked c.args.from) (asked c.args.to) c.in_ok-from.from c.in_err-to.field-0.0 (sym (c.in_ok-from.ensures.header h v)) (sym (c.in_err-to.ensures.header h v)))

pub returns-then-to-from-clause-request : goal.returns-then-to-from-clause-request
returns-then-to-from-clause-request c = λ h v.
    above h.scale (asked c.args.from) (asked c.args.to) c.in_ok-from.from c.in_ok-to.to (ordered c.args.from.unit c.args.to.unit c.args.from.number c.args.to.number c.requires)
    (sym (c.in_ok-from.ensures.header h v)) (sym (c.in_ok-to.ensures.header h v)) c.if-to-from.true

pub returns-clause-request : goal.returns-clause-request
returns-clause-request c = λ h v. in_order h.scale (asked c.args.from) (asked c.args.to) c.in_ok-from.from c.in_ok-to.to
    (sym (c.in_ok-from.ensures.header h v)) (sym (c.in_ok-to.ensures.header h v)) c.if-to-from.false
