use Rattle.vcd_words.proofs.Cited.{codes, IfOk-weaker, usize_max, new_rule, ValueRange, names_rule, one_input_app, IsLocal}
use Rattle.vcd_words.proofs.Facts.{with_arg, with_help, with_range, with_required, with_value_name, some-is}
use Rattle.vcd_words.proofs.command.named.Goals as goal

pub returns : goal.returns
returns c =
    let many : ValueRange = record { start_inclusive = 1; end_inclusive = usize_max } in
    let valued = with_value_name c.new.result c.value_name.result (new_rule (codes "names")) (c.new.ensures.rule, c.new.ensures.optional.1) _ c.value_name.ensures in
    let counted = with_range c.value_name.result c.num_args.result _ valued many c.num_args.ensures.0 (some-is c.num_args.result.num_vals many c.num_args.ensures.1) in
    let required = with_required c.num_args.result c.required.result _ counted _ c.required.ensures in
    let names : IsLocal c.help-names.result (names_rule c.args.required) = with_help c.required.result c.help-names.result _ required _ c.help-names.ensures in
    IfOk-weaker c.arg.result _ _
    (λ r h. with_arg c.in_ok-command.command r (one_input_app c.args.name.now) c.in_ok-command.ensures c.help-names.result (names_rule c.args.required) h names) c.arg.ensures
