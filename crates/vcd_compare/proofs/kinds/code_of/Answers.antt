use Rattle.vcd_compare.proofs.Cited.{sym, ◌∙◌, slice_get_within, Declaration, parts, row_of}
use Rattle.vcd_view.proofs.RowLemmas.{there}
use Rattle.vcd_compare.proofs.kinds.code_of.Goals as goal

pub returns-in-Some : goal.returns-in-Some
returns-in-Some c = λ h v view at.
    (row_of (parts c.args.view) h c.args.row c.in-Some.row (Declaration.Var v) view (sym c.row_at.ensures ∙ c.in-Some.is) at).own.2

pub returns-in-None : goal.returns-in-None
returns-in-None c = λ h v view at.
    let r = there (parts c.args.view) h c.args.row view (slice_get_within h.declarations c.args.row (Declaration.Var v) at) in
    let none = sym c.in-None.is ∙ c.row_at.ensures ∙ r.1 in
    absurd (cc)
