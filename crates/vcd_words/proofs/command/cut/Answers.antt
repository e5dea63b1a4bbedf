use Rattle.vcd_words.proofs.Cited.{codes, IfOk-weaker, with_rule, file_app, time_or_rule, time_rule, IsLocal}
use Rattle.vcd_words.proofs.Facts.{with_arg, with_default, with_hidden_default}
use Rattle.vcd_words.proofs.command.cut.Goals as goal

pub returns : goal.returns
returns c =
    let from_rule = time_or_rule (codes "from") (codes "0") in
    let to_rule = time_or_rule (codes "to") (codes "18446744073709551615") in
    let from : IsLocal c.default_value-from.result from_rule = with_default c.time.result c.default_value-from.result (time_rule (codes "from")) c.time.ensures _ c.default_value-from.ensures in
    let last : IsLocal c.default_value.result to_rule = with_default c.time-2.result c.default_value.result (time_rule (codes "to")) c.time-2.ensures _ c.default_value.ensures in
    let to = with_hidden_default c.default_value.result c.hide_default_value-to.result to_rule last _ c.hide_default_value-to.ensures in
    let first = with_arg c.in_ok-command.command c.in_ok-command-2.command (file_app (codes "cut")) c.in_ok-command.ensures c.default_value-from.result from_rule c.in_ok-command-2.ensures from in
    IfOk-weaker c.arg-2.result _ _ (λ r h. with_arg c.in_ok-command-2.command r (with_rule (file_app (codes "cut")) from_rule) first c.hide_default_value-to.result to_rule h to) c.arg-2.ensures
