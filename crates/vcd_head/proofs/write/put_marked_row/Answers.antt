use Rattle.vcd_head.proofs.Cited.{List, ℕ, subst, sym, ◌∙◌, rules, Appends, slice_get_within, Takes, appends-none, counted, is_marked, Declaration, var_line, parts}
use Rattle.vcd_head.proofs.Facts.{own_text, up_some, up_none, scope_row, variable_row, unmarked_row, row_there}
use Rattle.vcd_head.proofs.write.put_marked_row.Goals as goal

pub returns-in_default : goal.returns-in_default
returns-in_default g c = counted (search rules) (λ h d v is. absurd (row_there (parts c.args.view) h c.args.row d v is (sym c.row_at.ensures ∙ c.in_default.is)))

pub returns-in-Scope : goal.returns-in-Scope
returns-in-Scope g c = counted (search rules) (λ h d v is.
    scope_row (λ (l : List ℕ). Takes (g.W.Sink.device c.args.w.now) (g.W.Sink.device c.put_scope_line.new.w) l c.put_scope_line.result)
    (λ code. code) (is_marked c.args.marks.now) (parts c.args.view) h c.args.row c.in-Some.declared d v
    (sym c.row_at.ensures ∙ c.in-Some.is) is c.in-Scope.is (sym c.is_marked.ensures ∙ c.if-is_marked.true) (λ type name q. c.put_scope_line.ensures.0 h (Declaration.Scope type name) v q))

pub returns-in-Var : goal.returns-in-Var
returns-in-Var g c = counted (search rules) (λ h d v is.
    variable_row (λ (l : List ℕ). Takes (g.W.Sink.device c.args.w.now) (g.W.Sink.device c.put_var_line.new.w) l c.put_var_line.result) (λ code. code)
    (is_marked c.args.marks.now) (parts c.args.view) h c.args.row c.in-Some.declared d v
    (sym c.row_at.ensures ∙ c.in-Some.is) is c.in-Var.is (sym c.if-is_marked-2.ensures) (λ u q.
    let text = c.code_text.ensures h v ∙ own_text (parts c.args.view) h c.args.row c.in-Some.declared u v (sym c.row_at.ensures ∙ c.in-Some.is) q in
    subst (λ (code : List ℕ). Takes (g.W.Sink.device c.args.w.now) (g.W.Sink.device c.put_var_line.new.w) (var_line u code) c.put_var_line.result) text (c.put_var_line.ensures.0 h u v q)))

pub returns-in_default-kind : goal.returns-in_default-kind
returns-in_default-kind g c = counted (search rules) (λ h d v is.
    let none = unmarked_row (λ code. code) (is_marked c.args.marks.now) (parts c.args.view) h c.args.row c.in-Some.declared d v (sym c.row_at.ensures
    ∙ c.in-Some.is) is c.in_default-kind.not-Up (sym c.is_marked.ensures ∙ c.if-is_marked.false) in
    subst (λ (l : List ℕ). Appends (g.W.Sink.device c.args.w.now).held (g.W.Sink.device c.args.w.now).held l) none (appends-none (g.W.Sink.device c.args.w.now).held))

pub returns-in_default-kind-2 : goal.returns-in_default-kind-2
returns-in_default-kind-2 g c = counted (search rules) (λ h d v is.
    let none = unmarked_row (λ code. code) (is_marked c.args.marks.now) (parts c.args.view) h c.args.row c.in-Some.declared d v (sym c.row_at.ensures
    ∙ c.in-Some.is) is c.in_default-kind.not-Up (sym c.if-is_marked-2.ensures) in
    subst (λ (l : List ℕ). Appends (g.W.Sink.device c.args.w.now).held (g.W.Sink.device c.args.w.now).held l) none (appends-none (g.W.Sink.device c.args.w.now).held))

pub returns-in-Some-scope_of : goal.returns-in-Some-scope_of
returns-in-Some-scope_of g c = counted (search rules) (λ h d v is.
    let around = c.in-Some-scope_of.ensures.scope h v (slice_get_within h.declarations c.args.row d is) in
    let line = up_some (λ code. code) (is_marked c.args.marks.now) (parts c.args.view) h c.args.row c.in-Some-scope_of.scope c.in-Some.declared d v
    (sym c.row_at.ensures ∙ c.in-Some.is) is c.in-Up.is around in
    subst (λ (l : List ℕ). Takes (g.W.Sink.device c.args.w.now) (g.W.Sink.device c.put_up_line.new.w) l c.put_up_line.result) line c.put_up_line.ensures.0)

pub returns-in-None : goal.returns-in-None
returns-in-None g c = counted (search rules) (λ h d v is.
    let around = c.in-None.ensures.scope h v (slice_get_within h.declarations c.args.row d is) in
    let line = up_none (λ code. code) (is_marked c.args.marks.now) (parts c.args.view) h c.args.row c.in-Some.declared d v (sym c.row_at.ensures ∙ c.in-Some.is) is c.in-Up.is around in
    subst (λ (l : List ℕ). Appends (g.W.Sink.device c.args.w.now).held (g.W.Sink.device c.args.w.now).held l) line (appends-none (g.W.Sink.device c.args.w.now).held))
