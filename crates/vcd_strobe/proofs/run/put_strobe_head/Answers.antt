use Rattle.std.proofs.Common.{◌≡◌, List, ℕ, Err, rules, subst}
use Rattle.vcd_model.specs.HeadText.{head_for}
use Rattle.vcd_model.specs.Strobe.{bare}
use Rattle.vcd_text.proofs.Writes.{AppendsSome, appends-first, takes-twice}
use Rattle.vcd_text.specs.Device.{Takes}
use Rattle.vcd_strobe.proofs.HeadSteps.{head_is}
use Rattle.vcd_strobe.specs.Heads.{variable_lines}
use Rattle.vcd_strobe.proofs.run.put_strobe_head.Goals as goal

pub returns-in_err-put_variable-clause-takes : goal.returns-in_err-put_variable-clause-takes
returns-in_err-put_variable-clause-takes g c = λ h names views marked is.
    let e : c.from_residual.result ≡ Err c.in_err-put_variable.field-0.0 = search rules in
    rw e (subst (AppendsSome (g.W.Sink.device c.args.out.now).held (g.W.Sink.device c.put_variable.new.out).held) (head_is h names c.args.id.now is)
    (appends-first _ _ (variable_lines c.args.id.now) (head_for (bare h) names) c.in_err-put_variable.ensures.0))

pub returns-clause-takes : goal.returns-clause-takes
returns-clause-takes g c = λ h names views marked is.
    subst (λ (l : List ℕ). Takes (g.W.Sink.device c.args.out.now) (g.W.Sink.device c.put_head.new.w) l c.put_head.result) (head_is h names c.args.id.now is)
    (takes-twice _ _ _ (variable_lines c.args.id.now) (head_for (bare h) names) c.put_head.result c.in_ok-put_variable.ensures.0
    (c.put_head.ensures.selected (bare h) names (c.bare.ensures h views) marked))
