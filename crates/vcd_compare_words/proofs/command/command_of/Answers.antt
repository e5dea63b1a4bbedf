use Rattle.vcd_compare_words.proofs.Cited.{codes, new_app, bare_app, IsWhole, with_about, with_after_help, with_usage, with_version}
use Rattle.vcd_compare_words.proofs.command.command_of.Goals as goal

pub returns : goal.returns
returns c =
    let version = with_version c.new.result c.version.result (new_app (codes "vcdkit-compare")) (c.new.ensures.app, c.new.ensures.whole) _ c.version.ensures in
    let about = with_about c.version.result c.about.result _ version _ c.about.ensures in
    let usage = with_usage c.about.result c.override_usage.result _ about _ c.override_usage.ensures in
    let bare : IsWhole c.after_help-program.result bare_app = with_after_help c.override_usage.result c.after_help-program.result _ usage _ c.after_help-program.ensures in
    c.with_names.ensures _ (c.in_ok-program-2.ensures _ (c.in_ok-program.ensures bare_app bare))
