use Rattle.vcd_words.proofs.Cited.{codes, IfOk-weaker, new_app, new_rule, IsLocal}
use Rattle.vcd_words.proofs.Facts.{with_arg, with_required, with_value_name}
use Rattle.std.proofs.Common.{refl}
use Rattle.vcd_program_tests.specs.Echo.{echo_name, word_rule}
use Rattle.vcd_program_tests.proofs.echo.EchoProgram.command_of.Goals as goal

pub returns-clause-whole : goal.returns-clause-whole
returns-clause-whole c =
    let valued = with_value_name c.new.result c.value_name.result (new_rule (codes "word")) (c.new.ensures.rule, c.new.ensures.optional.1) _ c.value_name.ensures in
    let word : IsLocal c.required-word.result word_rule = with_required c.value_name.result c.required-word.result _ valued _ c.required-word.ensures in
    IfOk-weaker c.arg.result _ _ (λ r h. with_arg c.new-2.result r (new_app echo_name) (c.new-2.ensures.app, c.new-2.ensures.whole) c.required-word.result word_rule h word) c.arg.ensures

pub returns-clause-simple : goal.returns-clause-simple
returns-clause-simple c = refl
