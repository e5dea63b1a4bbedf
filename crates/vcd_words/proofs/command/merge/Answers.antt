use Rattle.vcd_words.proofs.Cited.{codes, IfOk-weaker, usize_max, new_app, new_rule, with_rule, ValueRange, files_rule, limit_rule, IsLocal}
use Rattle.vcd_words.proofs.Facts.{with_arg, with_help, with_range, with_required, with_value_name, some-is}
use Rattle.vcd_words.proofs.command.merge.Goals as goal

pub returns : goal.returns
returns c =
    let many : ValueRange = record { start_inclusive = 1; end_inclusive = usize_max } in
    let valued = with_value_name c.new.result c.value_name.result (new_rule (codes "files")) (c.new.ensures.rule, c.new.ensures.optional.1) _ c.value_name.ensures in
    let counted = with_range c.value_name.result c.num_args.result _ valued many c.num_args.ensures.0 (some-is c.num_args.result.num_vals many c.num_args.ensures.1) in
    let required = with_required c.num_args.result c.required.result _ counted _ c.required.ensures in
    let files : IsLocal c.help-files.result files_rule = with_help c.required.result c.help-files.result _ required _ c.help-files.ensures in
    let first = with_arg c.new_command.result c.in_ok-command.command (new_app (codes "merge")) c.new_command.ensures c.token_limit.result limit_rule c.in_ok-command.ensures c.token_limit.ensures in
    IfOk-weaker c.arg-2.result _ _ (λ r h. with_arg c.in_ok-command.command r (with_rule (new_app (codes "merge")) limit_rule) first c.help-files.result files_rule h files) c.arg-2.ensures
