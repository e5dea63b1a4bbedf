use Rattle.vcd_head.proofs.Cited.{◌≡◌, List, ℕ, Err, decimal, subst, sym, ◌∙◌, rules, Declaration, Takes, parts, AppendsSome, appends-first, appends-some, appends-twice, counted, takes-twice}
use Rattle.vcd_head.proofs.Facts.{code_size, code_there, row_there, some_reference, variable_rest, variable_text}
use Rattle.vcd_head.proofs.write.put_var_line.Goals as goal

pub returns-in_default : goal.returns-in_default
returns-in_default g c = counted (search rules) (λ h v views is. absurd (row_there (parts c.args.view) h c.args.row (Declaration.Var v) views is (sym c.row_at.ensures ∙ c.in_default.is)))

pub returns-in_default-code_at : goal.returns-in_default-code_at
returns-in_default-code_at g c = counted (search rules) (λ h v views is. absurd
    (code_there (parts c.args.view) h c.args.row c.in-Some.declared v views (sym c.row_at.ensures ∙ c.in-Some.is) is (sym c.code_at.ensures
    ∙ c.in_default-code_at.is)))

pub returns-in_err-put_texts : goal.returns-in_err-put_texts
returns-in_err-put_texts g c = counted (search rules) (λ h v views is.
    let e : c.from_residual.result ≡ Err c.in_err-put_texts.field-0.0 = search rules in
    let d = Declaration.Var v in
    let size = code_size (parts c.args.view) h c.args.row c.in-Some.declared v c.in-Some-code_at.own views (sym c.row_at.ensures ∙ c.in-Some.is) is
    (sym c.code_at.ensures ∙ c.in-Some-code_at.is) in
    let line = variable_text v c.type_of-type_text.result.now c.in-Some-code_at.own.size c.args.code.now c.reference_of-reference.result.now
    (c.type_of-type_text.ensures h d views is) (sym size) (some_reference (parts c.args.view) h c.args.row v views is)
    (c.reference_of-reference.ensures h d views is) in
    rw e
    (subst (λ (l : List ℕ). AppendsSome (g.W.Sink.device c.args.w.now).held (g.W.Sink.device c.put_texts.new.w).held l) line
    (appends-first _ _ _ (variable_rest c.args.code.now c.reference_of-reference.result.now) (appends-first _ _ _ (decimal c.in-Some-code_at.own.size) c.in_err-put_texts.ensures.0))))

pub returns-in_err-put_number : goal.returns-in_err-put_number
returns-in_err-put_number g c = counted (search rules) (λ h v views is.
    let e : c.from_residual-in_err-put_number.result ≡ Err c.in_err-put_number.field-0.0 = search rules in
    let d = Declaration.Var v in
    let size = code_size (parts c.args.view) h c.args.row c.in-Some.declared v c.in-Some-code_at.own views (sym c.row_at.ensures ∙ c.in-Some.is) is
    (sym c.code_at.ensures ∙ c.in-Some-code_at.is) in
    let line = variable_text v c.type_of-type_text.result.now c.in-Some-code_at.own.size c.args.code.now c.reference_of-reference.result.now
    (c.type_of-type_text.ensures h d views is) (sym size) (some_reference (parts c.args.view) h c.args.row v views is)
    (c.reference_of-reference.ensures h d views is) in
    rw e
    (subst (λ (l : List ℕ). AppendsSome (g.W.Sink.device c.args.w.now).held (g.W.Sink.device c.put_number.new.w).held l) line
    (appends-first _ _ _ (variable_rest c.args.code.now c.reference_of-reference.result.now)
    (appends-some _ _ _ _ (decimal c.in-Some-code_at.own.size) c.in_ok-put_texts.ensures.0 c.in_err-put_number.ensures.0))))

pub returns : goal.returns
returns g c = counted (search rules) (λ h v views is.
    let d = Declaration.Var v in
    let size = code_size (parts c.args.view) h c.args.row c.in-Some.declared v c.in-Some-code_at.own views (sym c.row_at.ensures ∙ c.in-Some.is) is
    (sym c.code_at.ensures ∙ c.in-Some-code_at.is) in
    let line = variable_text v c.type_of-type_text.result.now c.in-Some-code_at.own.size c.args.code.now c.reference_of-reference.result.now
    (c.type_of-type_text.ensures h d views is) (sym size) (some_reference (parts c.args.view) h c.args.row v views is)
    (c.reference_of-reference.ensures h d views is) in
    subst (λ (l : List ℕ). Takes (g.W.Sink.device c.args.w.now) (g.W.Sink.device c.put_texts-2.new.w) l c.put_texts-2.result) line
    (takes-twice _ _ _ _ (variable_rest c.args.code.now c.reference_of-reference.result.now) c.put_texts-2.result
    (appends-twice _ _ _ _ (decimal c.in-Some-code_at.own.size) c.in_ok-put_texts.ensures.0 c.in_ok-put_number.ensures.0) c.put_texts-2.ensures.0))
