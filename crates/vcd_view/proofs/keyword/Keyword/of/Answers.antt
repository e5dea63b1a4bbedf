use Rattle.vcd_view.proofs.Cited.{sym, ◌∙◌, Keyword}
use Rattle.vcd_view.proofs.Facts.{keyword_found}
use Rattle.vcd_view.proofs.keyword.Keyword.of.Goals as goal

pub returns-then-is_var : goal.returns-then-is_var
returns-then-is_var c = keyword_found Keyword.Var c.args.token.now (sym c.is_var.ensures ∙ c.if-is_var.true)
