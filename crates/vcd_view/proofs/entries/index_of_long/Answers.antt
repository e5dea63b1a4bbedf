use Rattle.vcd_view.proofs.Cited.{sym, ◌∙◌, bytes_eq-Decides}
use Rattle.vcd_view.proofs.entries.index_of_long.Goals as goal

pub returns-then-eq : goal.returns-then-eq
returns-then-eq c = (
  c.in_ok-other.other,
  sym c.code_in.ensures ∙ c.in_ok-other.was,
  sym c.text_in.ensures
      ∙ (bytes_eq-Decides c.text_in.result.now c.args.code.now).0 (sym c.eq.ensures ∙ c.if-eq.true),
)
