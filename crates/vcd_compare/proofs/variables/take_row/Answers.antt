use Rattle.vcd_compare.proofs.Cited.{Some, take, sym, ap, subst, ◌∙◌, slice_get_within, parts, row_of, path_of, IsNumberOf}
use Rattle.vcd_compare.proofs.Facts.{ok_then, is_variable, not_variable, some_more, some_same}
use Rattle.vcd_view.proofs.RowLemmas.{there}
use Rattle.vcd_compare.proofs.variables.take_row.Goals as goal

pub returns-in_default : goal.returns-in_default
returns-in_default c = λ h d texts view apart at number s.
    let r = there (parts c.args.view) h c.args.row view (slice_get_within h.declarations c.args.row d at) in
    absurd (c.in_default.not-Some r.0 (c.row_at.ensures ∙ r.1))

pub returns-in-Scope : goal.returns-in-Scope
returns-in-Scope c = λ h d texts view apart at number s.
    let row = row_of (parts c.args.view) h c.args.row c.in-Some.declared d view (sym c.row_at.ensures ∙ c.in-Some.is) at in
    let k = c.in-Scope.is in
    some_same h texts c.args.row c.args.variables.now c.args.counts.now.items d at (not_variable c.args.view.text.now h.codes (take c.args.row h.declarations) c.in-Some.declared d row (λ e. cc)) s

pub returns-in-Up : goal.returns-in-Up
returns-in-Up c = λ h d texts view apart at number s.
    let row = row_of (parts c.args.view) h c.args.row c.in-Some.declared d view (sym c.row_at.ensures ∙ c.in-Some.is) at in
    let k = c.in-Up.is in
    some_same h texts c.args.row c.args.variables.now c.args.counts.now.items d at (not_variable c.args.view.text.now h.codes (take c.args.row h.declarations) c.in-Some.declared d row (λ e. cc)) s

pub returns-in_ok-range-in-Var : goal.returns-in_ok-range-in-Var
returns-in_ok-range-in-Var c = ok_then c.add_variable.result _ _ (λ _ adds h d texts view apart at number s.
    let row = row_of (parts c.args.view) h c.args.row c.in-Some.declared d view (sym c.row_at.ensures ∙ c.in-Some.is) at in
    let v = is_variable c.args.view.text.now h.codes (take c.args.row h.declarations) c.in-Some.declared d row c.in-Var.is in
    let range = c.deref.ensures.value ∙ c.in_ok-range-in-Var.ensures h v.0 view (at ∙ ap Some v.1) in
    some_more h texts c.args.row c.args.path c.args.variables.now c.add_variable.new.variables c.args.counts.now.items c.add_variable.new.counts.items c.deref.result.now v.0 apart (at ∙ ap Some v.1)
    (subst (λ x. IsNumberOf texts c.args.path (path_of (take c.args.row h.declarations) x)) v.1 number) range adds s) c.add_variable.ensures
