use Rattle.vcd_words.proofs.Cited.{new_rule}
use Rattle.vcd_words.proofs.Facts.{with_help, with_long, with_value_name}
use Rattle.vcd_words.proofs.command.time.Goals as goal

pub returns : goal.returns
returns c =
    let long = with_long c.new.result c.long.result (new_rule c.args.name.now) (c.new.ensures.rule, c.new.ensures.optional.1) _ c.long.ensures in
    let valued = with_value_name c.long.result c.value_name.result _ long _ c.value_name.ensures in
    with_help c.value_name.result c.help.result _ valued _ c.help.ensures
