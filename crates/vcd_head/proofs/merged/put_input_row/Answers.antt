use Rattle.vcd_head.proofs.Cited.{◌≡◌, ◌+◌, List, ℕ, Err, Some, take, ap, subst, sym, ◌∙◌, arith, rules, Appends, slice_get_within, Declaration, code_place, new_code, var_line, Takes, AppendsSome, appends-first, appends-none, counted, takes-twice, due, numbered, parts}
use Rattle.vcd_head.proofs.Facts.{scope_row_is, up_row_is, var_row_is, place_read, row_there}
use Rattle.vcd_head.proofs.merged.put_input_row.Goals as goal

pub returns-in_default : goal.returns-in_default
returns-in_default g c = counted (search rules) (λ h d v is fits. absurd (row_there (parts c.args.view) h c.args.row d v is (sym c.row_at.ensures ∙ c.in_default.is)))

pub returns-in-Scope : goal.returns-in-Scope
returns-in-Scope g c = counted (search rules) (λ h d v is fits.
    let held = (g.W.Sink.device c.args.w.now).held in
    let (type, name, e) = scope_row_is (parts c.args.view) h c.args.row c.in-Some.declared d v (sym c.row_at.ensures ∙ c.in-Some.is) is c.in-Scope.is in
    subst (λ (x : Declaration). Appends held held (due h c.args.first c.args.scopes.pending c.args.scopes.written (take c.args.row h.declarations) x)) (sym e) (appends-none held))

pub returns-in-Up : goal.returns-in-Up
returns-in-Up g c = counted (search rules) (λ h d v is fits.
    let e = up_row_is (parts c.args.view) h c.args.row c.in-Some.declared d v (sym c.row_at.ensures ∙ c.in-Some.is) is c.in-Up.is in
    subst (λ (x : Declaration). Takes (g.W.Sink.device c.args.w.now) (g.W.Sink.device c.put_closing.new.w)
    (due h c.args.first c.args.scopes.pending c.args.scopes.written (take c.args.row h.declarations) x) c.put_closing.result)
    (sym e) c.put_closing.ensures.0)

pub returns-in_err-put_openings-in-Var : goal.returns-in_err-put_openings-in-Var
returns-in_err-put_openings-in-Var g c = counted (search rules) (λ h d v is fits.
    let failed : c.from_residual.result ≡ Err c.in_err-put_openings-in-Var.field-0.0 = search rules in
    let (u, e) = var_row_is (parts c.args.view) h c.args.row c.in-Some.declared d v (sym c.row_at.ensures ∙ c.in-Some.is) is c.in-Var.is in
    rw failed (subst (λ (x : Declaration). AppendsSome (g.W.Sink.device c.args.w.now).held (g.W.Sink.device c.put_openings.new.w).held
    (due h c.args.first c.args.scopes.pending c.args.scopes.written (take c.args.row h.declarations) x)) (sym e)
    (appends-first _ _ _ (var_line u (numbered c.args.first h u.code)) (c.in_err-put_openings-in-Var.ensures.0 h v (slice_get_within h.declarations c.args.row d is)))))

pub returns-in_ok-put_openings-in-Var : goal.returns-in_ok-put_openings-in-Var
returns-in_ok-put_openings-in-Var g c = counted (search rules) (λ h d v is fits.
    let at = sym c.row_at.ensures ∙ c.in-Some.is in
    let (u, e) = var_row_is (parts c.args.view) h c.args.row c.in-Some.declared d v at is c.in-Var.is in
    let position = place_read (parts c.args.view) h c.args.row c.in-Some.declared u v at (is ∙ ap Some e) in
    let within = position.within in
    let is_place = position.position in
    let sum : c.saturating_add.result ≡ c.args.first + code_place h u.code = omega (arith, c.saturating_add.ensures, within, is_place, fits) in
    let line = subst (λ (code : List ℕ). Takes (g.W.Sink.device c.put_openings.new.w) (g.W.Sink.device c.put_var_line.new.w)
    (var_line u code) c.put_var_line.result) (c.text.ensures ∙ c.of-id.ensures ∙ ap new_code sum)
    (c.put_var_line.ensures.0 h u v (is ∙ ap Some e)) in
    subst (λ (x : Declaration). Takes (g.W.Sink.device c.args.w.now) (g.W.Sink.device c.put_var_line.new.w)
    (due h c.args.first c.args.scopes.pending c.args.scopes.written (take c.args.row h.declarations) x) c.put_var_line.result) (sym e)
    (takes-twice _ _ _ _ (var_line u (numbered c.args.first h u.code)) c.put_var_line.result (c.in_ok-put_openings-in-Var.ensures.0 h v (slice_get_within h.declarations c.args.row d is)) line))
