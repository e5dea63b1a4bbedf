use Rattle.std.proofs.Common.{[], ◌∙◌}
use Rattle.vcd_head.specs.ViewShown.{parts}
use Rattle.example_head.proofs.RowLemmas.{variables_are}
use Rattle.example_head.proofs.variables_in.Goals as goal

pub returns : goal.returns
returns c = λ h views. c.variable_rows.ensures ∙ variables_are (parts c.args.view).text h.codes [] c.args.view.rows.now h.declarations views.rows
