use Rattle.vcd_words.proofs.Cited.{codes, IfOk-weaker, new_rule, file_rule, one_input_app, IsLocal}
use Rattle.vcd_words.proofs.Facts.{with_arg, with_help, with_value_name}
use Rattle.vcd_words.proofs.command.with_file.Goals as goal

pub returns : goal.returns
returns c =
    let valued = with_value_name c.new.result c.value_name.result (new_rule (codes "input")) (c.new.ensures.rule, c.new.ensures.optional.1) _ c.value_name.ensures in
    let file : IsLocal c.help-file.result file_rule = with_help c.value_name.result c.help-file.result _ valued _ c.help-file.ensures in
    IfOk-weaker c.arg.result _ _ (λ r h. with_arg c.in_ok-command.command r (one_input_app c.args.name.now) c.in_ok-command.ensures c.help-file.result file_rule h file) c.arg.ensures
