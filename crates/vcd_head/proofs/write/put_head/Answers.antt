use Rattle.vcd_head.proofs.Cited.{◌≡◌, [], List, ℕ, Err, refl, subst, rules, rows_text, three_lines_of, end_line, option_map, unwrap_or, Keyword, scale_text, Takes, AppendsSome, appends-first, appends-some, appends-twice, takes-twice, is_marked, parts}
use Rattle.vcd_head.proofs.Facts.{head_is, head_of_parts}
use Rattle.vcd_head.proofs.write.put_head.Goals as goal

pub returns-in_err-put_optional_phrase-clause-takes : goal.returns-in_err-put_optional_phrase-clause-takes
returns-in_err-put_optional_phrase-clause-takes g c = λ h v.
    let e : c.from_residual.result ≡ Err c.in_err-put_optional_phrase.field-0.0 = search rules in
    let whole = head_of_parts (parts c.args.view) h (is_marked c.args.marks.now) (unwrap_or (option_map scale_text (option_map (λ x. x.exponent) c.args.view.scale)) []) v refl in
    rw e (subst (AppendsSome (g.W.Sink.device c.args.w.now).held (g.W.Sink.device c.put_optional_phrase.new.w).held) whole
    (appends-first _ _ _ end_line (appends-first _ _ _ (rows_text (λ code. code) (is_marked c.args.marks.now) h.declarations)
    (appends-first _ _ _ (three_lines_of Keyword.Timescale (unwrap_or
    (option_map scale_text (option_map (λ x. x.exponent) c.args.view.scale)) []))
    (appends-first _ _ _ (three_lines_of Keyword.Version c.args.view.version.now) (c.in_err-put_optional_phrase.ensures.0 Keyword.Date refl))))))

pub returns-in_err-put_optional_phrase-clause-selected : goal.returns-in_err-put_optional_phrase-clause-selected
returns-in_err-put_optional_phrase-clause-selected g c = λ h names v marks.
    subst (λ (l : List ℕ). Takes (g.W.Sink.device c.args.w.now) (g.W.Sink.device c.put_optional_phrase.new.w) l c.from_residual.result)
    (head_is h names c.args.marks.now marks) (returns-in_err-put_optional_phrase-clause-takes g c h v)

pub returns-in_err-put_optional_phrase-2-clause-takes : goal.returns-in_err-put_optional_phrase-2-clause-takes
returns-in_err-put_optional_phrase-2-clause-takes g c = λ h v.
    let e : c.from_residual-in_err-put_optional_phrase-2.result ≡ Err c.in_err-put_optional_phrase-2.field-0.0 = search rules in
    let whole = head_of_parts (parts c.args.view) h (is_marked c.args.marks.now) (unwrap_or (option_map scale_text (option_map (λ x. x.exponent) c.args.view.scale)) []) v refl in
    rw e (subst (AppendsSome (g.W.Sink.device c.args.w.now).held (g.W.Sink.device c.put_optional_phrase-2.new.w).held) whole
    (appends-first _ _ _ end_line (appends-first _ _ _ (rows_text (λ code. code) (is_marked c.args.marks.now) h.declarations)
    (appends-first _ _ _ (three_lines_of Keyword.Timescale (unwrap_or
    (option_map scale_text (option_map (λ x. x.exponent) c.args.view.scale)) []))
    (appends-some _ _ _ _ (three_lines_of Keyword.Version c.args.view.version.now) (c.in_ok-put_optional_phrase.ensures.0 Keyword.Date refl)
    (c.in_err-put_optional_phrase-2.ensures.0 Keyword.Version refl))))))

pub returns-in_err-put_optional_phrase-2-clause-selected : goal.returns-in_err-put_optional_phrase-2-clause-selected
returns-in_err-put_optional_phrase-2-clause-selected g c = λ h names v marks.
    subst (λ (l : List ℕ). Takes (g.W.Sink.device c.args.w.now) (g.W.Sink.device c.put_optional_phrase-2.new.w)
    l c.from_residual-in_err-put_optional_phrase-2.result) (head_is h names c.args.marks.now marks)
    (returns-in_err-put_optional_phrase-2-clause-takes g c h v)

pub returns-in_err-put_optional_phrase-3-clause-takes : goal.returns-in_err-put_optional_phrase-3-clause-takes
returns-in_err-put_optional_phrase-3-clause-takes g c = λ h v.
    let e : c.from_residual-in_err-put_optional_phrase-3.result ≡ Err c.in_err-put_optional_phrase-3.field-0.0 = search rules in
    let whole = head_of_parts (parts c.args.view) h (is_marked c.args.marks.now) c.text_of_scale.result.now v c.text_of_scale.ensures in
    rw e (subst (AppendsSome (g.W.Sink.device c.args.w.now).held (g.W.Sink.device c.put_optional_phrase-3.new.w).held) whole
    (appends-first _ _ _ end_line (appends-first _ _ _ (rows_text (λ code. code) (is_marked c.args.marks.now) h.declarations)
    (appends-some _ _ _ _ (three_lines_of Keyword.Timescale c.text_of_scale.result.now)
    (appends-twice _ _ _ _ (three_lines_of Keyword.Version c.args.view.version.now) (c.in_ok-put_optional_phrase.ensures.0 Keyword.Date refl)
    (c.in_ok-put_optional_phrase-2.ensures.0 Keyword.Version refl)) (c.in_err-put_optional_phrase-3.ensures.0 Keyword.Timescale refl)))))

pub returns-in_err-put_optional_phrase-3-clause-selected : goal.returns-in_err-put_optional_phrase-3-clause-selected
returns-in_err-put_optional_phrase-3-clause-selected g c = λ h names v marks.
    subst (λ (l : List ℕ). Takes (g.W.Sink.device c.args.w.now) (g.W.Sink.device c.put_optional_phrase-3.new.w)
    l c.from_residual-in_err-put_optional_phrase-3.result) (head_is h names c.args.marks.now marks)
    (returns-in_err-put_optional_phrase-3-clause-takes g c h v)

pub returns-in_err-put_declarations-clause-takes : goal.returns-in_err-put_declarations-clause-takes
returns-in_err-put_declarations-clause-takes g c = λ h v.
    let e : c.from_residual-in_err-put_declarations.result ≡ Err c.in_err-put_declarations.field-0.0 = search rules in
    let whole = head_of_parts (parts c.args.view) h (is_marked c.args.marks.now) c.text_of_scale.result.now v c.text_of_scale.ensures in
    rw e (subst (AppendsSome (g.W.Sink.device c.args.w.now).held (g.W.Sink.device c.put_declarations.new.w).held) whole
    (appends-first _ _ _ end_line (appends-some _ _ _ _ (rows_text (λ code. code) (is_marked c.args.marks.now) h.declarations)
    (appends-twice _ _ _ _ (three_lines_of Keyword.Timescale c.text_of_scale.result.now)
    (appends-twice _ _ _ _ (three_lines_of Keyword.Version c.args.view.version.now) (c.in_ok-put_optional_phrase.ensures.0 Keyword.Date refl)
    (c.in_ok-put_optional_phrase-2.ensures.0 Keyword.Version refl)) (c.in_ok-put_optional_phrase-3.ensures.0 Keyword.Timescale refl))
    (c.in_err-put_declarations.ensures.0 h v))))

pub returns-in_err-put_declarations-clause-selected : goal.returns-in_err-put_declarations-clause-selected
returns-in_err-put_declarations-clause-selected g c = λ h names v marks.
    subst (λ (l : List ℕ). Takes (g.W.Sink.device c.args.w.now) (g.W.Sink.device c.put_declarations.new.w)
    l c.from_residual-in_err-put_declarations.result) (head_is h names c.args.marks.now marks)
    (returns-in_err-put_declarations-clause-takes g c h v)

pub returns-clause-takes : goal.returns-clause-takes
returns-clause-takes g c = λ h v.
    let whole = head_of_parts (parts c.args.view) h (is_marked c.args.marks.now) c.text_of_scale.result.now v c.text_of_scale.ensures in
    subst (λ (l : List ℕ). Takes (g.W.Sink.device c.args.w.now) (g.W.Sink.device c.put.new.w) l c.put.result) whole
    (takes-twice _ _ _ _ end_line c.put.result (appends-twice _ _ _ _ (rows_text (λ code. code) (is_marked c.args.marks.now) h.declarations)
    (appends-twice _ _ _ _ (three_lines_of Keyword.Timescale c.text_of_scale.result.now)
    (appends-twice _ _ _ _ (three_lines_of Keyword.Version c.args.view.version.now) (c.in_ok-put_optional_phrase.ensures.0 Keyword.Date refl)
    (c.in_ok-put_optional_phrase-2.ensures.0 Keyword.Version refl)) (c.in_ok-put_optional_phrase-3.ensures.0 Keyword.Timescale refl))
    (c.in_ok-put_declarations.ensures.0 h v)) c.put.ensures.0)

pub returns-clause-selected : goal.returns-clause-selected
returns-clause-selected g c = λ h names v marks.
    subst (λ (l : List ℕ). Takes (g.W.Sink.device c.args.w.now) (g.W.Sink.device c.put.new.w) l c.put.result) (head_is h names c.args.marks.now marks) (returns-clause-takes g c h v)
