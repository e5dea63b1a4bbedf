use Rattle.vcd_engine.proofs.Cited.{◌≡◌, sym, ◌∙◌, List, ℕ, [], ◌∷◌, Err, decimal, subst, rules, Declaration, Takes, AppendsSome, appends-first, appends-some, appends-twice, counted, takes-twice, parts, code_there}
use Rattle.vcd_engine.proofs.Facts.{line_of_row, row_there}
use Rattle.vcd_engine.proofs.rows.put_list_line.Goals as goal

pub returns-in_default : goal.returns-in_default
returns-in_default g c = counted (search rules) (λ h v views declared. absurd (row_there (parts c.args.view) h c.args.row v views declared (sym c.row_at.ensures ∙ c.in_default.is)))

pub returns-in_default-code_at : goal.returns-in_default-code_at
returns-in_default-code_at g c = counted (search rules) (λ h v views declared.
    absurd (code_there (parts c.args.view) h c.args.row c.in-Some.variable v views (sym c.row_at.ensures ∙ c.in-Some.is) declared (sym c.code_at.ensures ∙ c.in_default-code_at.is)))

pub returns-in_err-put_path : goal.returns-in_err-put_path
returns-in_err-put_path g c = counted (search rules) (λ h v views declared.
    let e : c.from_residual.result ≡ Err c.in_err-put_path.field-0.0 = search rules in
    let line = line_of_row
    (parts c.args.view) h c.args.row c.in-Some.variable c.in-Some-code_at.code v c.type_of-kind.result.now c.code_text-bytes.result.now views
    (sym c.row_at.ensures ∙ c.in-Some.is) (sym c.code_at.ensures ∙ c.in-Some-code_at.is) declared
    (c.type_of-kind.ensures h (Declaration.Var v) views declared) (c.code_text-bytes.ensures h views) in
    rw e (subst (λ (l : List ℕ). AppendsSome (g.W.Sink.device c.args.out.now).held (g.W.Sink.device c.put_path.new.w).held l) line
    (appends-first _ _ _ (10 ∷ []) (appends-first _ _ _ (32 ∷ c.code_text-bytes.result.now)
    (appends-first _ _ _ (decimal c.in-Some-code_at.code.size) (appends-first _ _ _ (32 ∷ [])
    (appends-first _ _ _ (32 ∷ c.type_of-kind.result.now) (c.in_err-put_path.ensures.takes h (Declaration.Var v) views declared))))))))

pub returns-in_err-put_word : goal.returns-in_err-put_word
returns-in_err-put_word g c = counted (search rules) (λ h v views declared.
    let e : c.from_residual-in_err-put_word.result ≡ Err c.in_err-put_word.field-0.0 = search rules in
    let line = line_of_row
    (parts c.args.view) h c.args.row c.in-Some.variable c.in-Some-code_at.code v c.type_of-kind.result.now c.code_text-bytes.result.now views
    (sym c.row_at.ensures ∙ c.in-Some.is) (sym c.code_at.ensures ∙ c.in-Some-code_at.is) declared
    (c.type_of-kind.ensures h (Declaration.Var v) views declared) (c.code_text-bytes.ensures h views) in
    rw e (subst (λ (l : List ℕ). AppendsSome (g.W.Sink.device c.args.out.now).held (g.W.Sink.device c.put_word.new.out).held l) line
    (appends-first _ _ _ (10 ∷ []) (appends-first _ _ _ (32 ∷ c.code_text-bytes.result.now)
    (appends-first _ _ _ (decimal c.in-Some-code_at.code.size) (appends-first _ _ _ (32 ∷ [])
    (appends-some _ _ _ _ (32 ∷ c.type_of-kind.result.now) (c.in_ok-put_path.ensures.takes h (Declaration.Var v) views declared)
    c.in_err-put_word.ensures.0)))))))

pub returns-in_err-put : goal.returns-in_err-put
returns-in_err-put g c = counted (search rules) (λ h v views declared.
    let e : c.from_residual-in_err-put.result ≡ Err c.in_err-put.field-0.0 = search rules in
    let line = line_of_row
    (parts c.args.view) h c.args.row c.in-Some.variable c.in-Some-code_at.code v c.type_of-kind.result.now c.code_text-bytes.result.now views
    (sym c.row_at.ensures ∙ c.in-Some.is) (sym c.code_at.ensures ∙ c.in-Some-code_at.is) declared
    (c.type_of-kind.ensures h (Declaration.Var v) views declared) (c.code_text-bytes.ensures h views) in
    rw e (subst (λ (l : List ℕ). AppendsSome (g.W.Sink.device c.args.out.now).held (g.W.Sink.device c.put.new.w).held l) line
    (appends-first _ _ _ (10 ∷ []) (appends-first _ _ _ (32 ∷ c.code_text-bytes.result.now)
    (appends-first _ _ _ (decimal c.in-Some-code_at.code.size) (appends-some _ _ _ _ (32 ∷ [])
    (appends-twice _ _ _ _ (32 ∷ c.type_of-kind.result.now) (c.in_ok-put_path.ensures.takes h (Declaration.Var v) views declared)
    c.in_ok-put_word.ensures.0) c.in_err-put.ensures.0))))))

pub returns-in_err-put_number : goal.returns-in_err-put_number
returns-in_err-put_number g c = counted (search rules) (λ h v views declared.
    let e : c.from_residual-in_err-put_number.result ≡ Err c.in_err-put_number.field-0.0 = search rules in
    let line = line_of_row
    (parts c.args.view) h c.args.row c.in-Some.variable c.in-Some-code_at.code v c.type_of-kind.result.now c.code_text-bytes.result.now views
    (sym c.row_at.ensures ∙ c.in-Some.is) (sym c.code_at.ensures ∙ c.in-Some-code_at.is) declared
    (c.type_of-kind.ensures h (Declaration.Var v) views declared) (c.code_text-bytes.ensures h views) in
    rw e (subst (λ (l : List ℕ). AppendsSome (g.W.Sink.device c.args.out.now).held (g.W.Sink.device c.put_number.new.w).held l) line
    (appends-first _ _ _ (10 ∷ []) (appends-first _ _ _ (32 ∷ c.code_text-bytes.result.now)
    (appends-some _ _ _ _ (decimal c.in-Some-code_at.code.size) (appends-twice _ _ _ _ (32 ∷ [])
    (appends-twice _ _ _ _ (32 ∷ c.type_of-kind.result.now) (c.in_ok-put_path.ensures.takes h (Declaration.Var v) views declared)
    c.in_ok-put_word.ensures.0) c.in_ok-put.ensures.0) c.in_err-put_number.ensures.0)))))

pub returns-in_err-put_word-2 : goal.returns-in_err-put_word-2
returns-in_err-put_word-2 g c = counted (search rules) (λ h v views declared.
    let e : c.from_residual-in_err-put_word-2.result ≡ Err c.in_err-put_word-2.field-0.0 = search rules in
    let line = line_of_row
    (parts c.args.view) h c.args.row c.in-Some.variable c.in-Some-code_at.code v c.type_of-kind.result.now c.code_text-bytes.result.now views
    (sym c.row_at.ensures ∙ c.in-Some.is) (sym c.code_at.ensures ∙ c.in-Some-code_at.is) declared
    (c.type_of-kind.ensures h (Declaration.Var v) views declared) (c.code_text-bytes.ensures h views) in
    rw e (subst (λ (l : List ℕ). AppendsSome (g.W.Sink.device c.args.out.now).held (g.W.Sink.device c.put_word-2.new.out).held l) line
    (appends-first _ _ _ (10 ∷ []) (appends-some _ _ _ _ (32 ∷ c.code_text-bytes.result.now)
    (appends-twice _ _ _ _ (decimal c.in-Some-code_at.code.size)
    (appends-twice _ _ _ _ (32 ∷ []) (appends-twice _ _ _ _ (32 ∷ c.type_of-kind.result.now)
    (c.in_ok-put_path.ensures.takes h (Declaration.Var v) views declared) c.in_ok-put_word.ensures.0) c.in_ok-put.ensures.0)
    c.in_ok-put_number.ensures.0) c.in_err-put_word-2.ensures.0))))

pub returns : goal.returns
returns g c = counted (search rules) (λ h v views declared.
    let line = line_of_row
    (parts c.args.view) h c.args.row c.in-Some.variable c.in-Some-code_at.code v c.type_of-kind.result.now c.code_text-bytes.result.now views
    (sym c.row_at.ensures ∙ c.in-Some.is) (sym c.code_at.ensures ∙ c.in-Some-code_at.is) declared
    (c.type_of-kind.ensures h (Declaration.Var v) views declared) (c.code_text-bytes.ensures h views) in
    subst (λ (l : List ℕ). Takes (g.W.Sink.device c.args.out.now) (g.W.Sink.device c.put-2.new.w) l c.put-2.result) line
    (takes-twice _ _ _ _ (10 ∷ []) c.put-2.result (appends-twice _ _ _ _ (32 ∷ c.code_text-bytes.result.now)
    (appends-twice _ _ _ _ (decimal c.in-Some-code_at.code.size)
    (appends-twice _ _ _ _ (32 ∷ []) (appends-twice _ _ _ _ (32 ∷ c.type_of-kind.result.now)
    (c.in_ok-put_path.ensures.takes h (Declaration.Var v) views declared) c.in_ok-put_word.ensures.0) c.in_ok-put.ensures.0)
    c.in_ok-put_number.ensures.0) c.in_ok-put_word-2.ensures.0) c.put-2.ensures.0))
