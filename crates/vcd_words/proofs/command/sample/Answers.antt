use Rattle.vcd_words.proofs.Cited.{codes, false, true, IfOk-weaker, named_app, time_rule}
use Rattle.vcd_words.proofs.Facts.{with_arg, with_required}
use Rattle.vcd_words.proofs.command.sample.Goals as goal

pub returns : goal.returns
returns c =
    let at = with_required c.time.result c.required-at.result (time_rule (codes "at")) c.time.ensures true c.required-at.ensures in
    IfOk-weaker c.arg.result _ _ (λ r h. with_arg c.in_ok-command.command r (named_app (codes "sample") false) c.in_ok-command.ensures c.required-at.result _ h at) c.arg.ensures
