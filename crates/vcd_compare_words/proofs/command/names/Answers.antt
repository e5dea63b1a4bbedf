use Rattle.vcd_compare_words.proofs.Cited.{codes, usize_max, new_rule, ValueRange, some-is, with_help, with_range, with_required, with_value_name}
use Rattle.vcd_compare_words.proofs.command.names.Goals as goal

pub returns : goal.returns
returns c =
    let many : ValueRange = record { start_inclusive = 1; end_inclusive = usize_max } in
    let valued = with_value_name c.new.result c.value_name.result (new_rule (codes "names")) (c.new.ensures.rule, c.new.ensures.optional.1) _ c.value_name.ensures in
    let counted = with_range c.value_name.result c.num_args.result _ valued many c.num_args.ensures.0 (some-is c.num_args.result.num_vals many c.num_args.ensures.1) in
    let required = with_required c.num_args.result c.required.result _ counted _ c.required.ensures in
    with_help c.required.result c.help.result _ required _ c.help.ensures
