use Rattle.vcd_words.proofs.Cited.{new_app}
use Rattle.vcd_words.proofs.Facts.{with_about, with_after_help, with_usage}
use Rattle.vcd_words.proofs.command.new_command.Goals as goal

pub returns : goal.returns
returns c =
    let about = with_about c.new.result c.about.result (new_app c.args.name.now) (c.new.ensures.app, c.new.ensures.whole) _ c.about.ensures in
    let usage = with_usage c.about.result c.override_usage.result _ about _ c.override_usage.ensures in
    with_after_help c.override_usage.result c.after_help.result _ usage _ c.after_help.ensures
