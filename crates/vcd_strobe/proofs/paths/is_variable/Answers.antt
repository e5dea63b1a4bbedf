use Rattle.std.proofs.Common.{◌∙◌, sym}
use Rattle.std.proofs.lemmas.Option.{slice_get_within}
use Rattle.vcd_head.proofs.InsideLemmas.{declares_none, declares_one}
use Rattle.vcd_view.proofs.RowLemmas.{there}
use Rattle.vcd_view.specs.Shown.{parts}
use Rattle.vcd_strobe.proofs.paths.is_variable.Goals as goal

pub returns-in-Var : goal.returns-in-Var
returns-in-Var c = λ h d views at. sym (declares_one (parts c.args.view) h c.args.row c.in-Some.row d views (sym c.row_at.ensures ∙ c.in-Some.is) at c.in-Var.is)

pub returns-in_default : goal.returns-in_default
returns-in_default c = λ h d views at. sym (declares_none (parts c.args.view) h c.args.row c.in-Some.row d views (sym c.row_at.ensures ∙ c.in-Some.is) at c.in_default.not-Var)

pub returns-in-None : goal.returns-in-None
returns-in-None c = λ h d views at.
    let r = there (parts c.args.view) h c.args.row views (slice_get_within h.declarations c.args.row d at) in
    let none = sym c.in-None.is ∙ c.row_at.ensures ∙ r.1 in
    absurd (cc)
