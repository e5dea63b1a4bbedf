use Rattle.vcd_words.proofs.Cited.{codes, IfOk-weaker, new_app, new_rule, with_rule, input_rule, limit_rule, IsLocal}
use Rattle.vcd_words.proofs.Facts.{with_arg, with_help, with_short, with_value_name}
use Rattle.vcd_words.proofs.command.one_input.Goals as goal

pub returns : goal.returns
returns c =
    let short = with_short c.new.result c.short.result (new_rule (codes "input")) (c.new.ensures.rule, c.new.ensures.optional.1) _ c.short.ensures in
    let valued = with_value_name c.short.result c.value_name.result _ short _ c.value_name.ensures in
    let input : IsLocal c.help-input.result input_rule = with_help c.value_name.result c.help-input.result _ valued _ c.help-input.ensures in
    let first = with_arg c.new_command.result c.in_ok-arg.field-0 (new_app c.args.name.now) c.new_command.ensures c.help-input.result input_rule c.in_ok-arg.ensures input in
    IfOk-weaker c.arg-2.result _ _ (λ r h. with_arg c.in_ok-arg.field-0 r
    (with_rule (new_app c.args.name.now) input_rule) first c.token_limit.result limit_rule h c.token_limit.ensures) c.arg-2.ensures
