use Rattle.vcd_compare_words.proofs.Cited.{true, IfOk-weaker, with_rule, except_rule, input_rule, names_rule, with_arg}
use Rattle.vcd_compare_words.proofs.command.with_names.Goals as goal

pub returns : goal.returns
returns c = λ before whole.
    let first = with_arg c.args.program c.in_ok-arg.field-0 before whole c.except.result except_rule c.in_ok-arg.ensures c.except.ensures in
    let second = with_arg c.in_ok-arg.field-0 c.in_ok-arg-2.field-0 (with_rule before except_rule) first c.input.result input_rule c.in_ok-arg-2.ensures c.input.ensures in
    IfOk-weaker c.arg-3.result _ _ (λ r h. with_arg c.in_ok-arg-2.field-0 r
    (with_rule (with_rule before except_rule) input_rule) second c.names.result (names_rule true) h c.names.ensures) c.arg-3.ensures
