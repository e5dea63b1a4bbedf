use Rattle.vcd_words.proofs.Cited.{codes, refl, true, false, new_app, file_app, bare_app, cut_app, merge_app, named_app, sample_app, IsWhole}
use Rattle.vcd_words.proofs.Facts.{with_subcommand_required, with_version, without_help}
use Rattle.vcd_words.proofs.command.command_of.Goals as goal

pub returns : goal.returns
returns c =
    let version = with_version c.new_command.result c.version.result (new_app (codes "vcdkit")) c.new_command.ensures _ c.version.ensures in
    let required = with_subcommand_required c.version.result c.subcommand_required.result _ version c.subcommand_required.ensures in
    let bare : IsWhole c.disable_help_subcommand-program.result bare_app = without_help c.subcommand_required.result c.disable_help_subcommand-program.result _ required c.disable_help_subcommand-program.ensures in
    let first = c.in_ok-program.ensures bare_app (file_app (codes "check")) bare c.with_file.ensures refl in
    let second = c.in_ok-program-2.ensures _ (file_app (codes "list")) first c.with_file-2.ensures refl in
    let third = c.in_ok-program-3.ensures _ (named_app (codes "pick") true) second c.named.ensures refl in
    let fourth = c.in_ok-program-4.ensures _ cut_app third c.cut.ensures refl in
    let fifth = c.in_ok-program-5.ensures _ sample_app fourth c.sample.ensures refl in
    let sixth = c.in_ok-program-6.ensures _ (named_app (codes "edges") false) fifth c.named-2.ensures refl in
    c.add-7.ensures _ merge_app sixth c.merge.ensures refl
