use Rattle.std.proofs.Common.{◌∙◌, sym}
use Rattle.std.proofs.lemmas.Option.{slice_get_within}
use Rattle.vcd_model.specs.Declarations.{Declaration}
use Rattle.vcd_view.proofs.RowLemmas.{row_of, there}
use Rattle.vcd_view.specs.Shown.{parts}
use Rattle.vcd_strobe.proofs.named.code_of.Goals as goal

pub returns-in-Some : goal.returns-in-Some
returns-in-Some c = λ h v views at.
    (row_of (parts c.args.view) h c.args.row c.in-Some.row (Declaration.Var v) views (sym c.row_at.ensures ∙ c.in-Some.is) at).own.2

pub returns-in-None : goal.returns-in-None
returns-in-None c = λ h v views at.
    let r = there (parts c.args.view) h c.args.row views (slice_get_within h.declarations c.args.row (Declaration.Var v) at) in
    let none = sym c.in-None.is ∙ c.row_at.ensures ∙ r.1 in
    absurd (cc)
