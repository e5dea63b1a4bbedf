use Rattle.vcd_engine.proofs.Cited.{◌≡◌, sym, ◌∙◌, [], ◌∷◌, Err, true, false, subst, take, rules, Appends, Declaration, path_of, shown, Takes, AppendsSome, appends-first, appends-none, appends-some, appends-twice, counted, takes-twice, parts, codes_shown, value_in}
use Rattle.vcd_engine.proofs.Facts.{row_there, event_is, no_line}
use Rattle.vcd_engine.proofs.SampleLines.{line_of}
use Rattle.vcd_engine.proofs.sample_lines.put_sample_line.Goals as goal

pub returns-in_default : goal.returns-in_default
returns-in_default g c = counted (search rules) (λ h v views declared items held late. absurd (row_there (parts c.args.view) h c.args.row v views declared (sym c.row_at.ensures ∙ c.in_default.is)))

pub returns-then-is_event : goal.returns-then-is_event
returns-then-is_event g c = counted (search rules) (λ h v views declared items held late.
    let event = event_is c.args.view h c.args.row c.in-Some.variable v items c.args.time views (sym c.row_at.ensures ∙ c.in-Some.is) declared true
    (sym c.if-is_event.true ∙ c.is_event.ensures.event h views) in
    let none = no_line c.args.view h c.args.row c.in-Some.variable v items c.args.time views (sym c.row_at.ensures ∙ c.in-Some.is) declared event in
    subst (Appends (g.W.Sink.device c.args.out.now).held (g.W.Sink.device c.args.out.now).held) (sym none) (appends-none (g.W.Sink.device c.args.out.now).held))

pub returns-in_err-put_number : goal.returns-in_err-put_number
returns-in_err-put_number g c = counted (search rules) (λ h v views declared items held late.
    let at = sym c.row_at.ensures ∙ c.in-Some.is in
    let event = event_is c.args.view h c.args.row c.in-Some.variable v items c.args.time views at declared false (sym c.if-is_event.false ∙ c.is_event.ensures.event h views) in
    let line = line_of c.args.view h c.args.row c.in-Some.variable v items c.args.time views at declared c.args.table.now held late event in
    let e : c.from_residual.result ≡ Err c.in_err-put_number.field-0.0 = search rules in
    rw e (subst (AppendsSome (g.W.Sink.device c.args.out.now).held (g.W.Sink.device c.put_number.new.w).held) line
    (appends-first _ _ _ (10 ∷ []) (appends-first _ _ _ (shown (value_in (codes_shown c.args.view) c.args.table.now c.in-Some.variable.code))
    (appends-first _ _ _ (32 ∷ []) (appends-first _ _ _ (path_of (take c.args.row h.declarations) (Declaration.Var v))
    (appends-first _ _ _ (32 ∷ []) (c.in_err-put_number.ensures.0))))))))

pub returns-in_err-put : goal.returns-in_err-put
returns-in_err-put g c = counted (search rules) (λ h v views declared items held late.
    let at = sym c.row_at.ensures ∙ c.in-Some.is in
    let event = event_is c.args.view h c.args.row c.in-Some.variable v items c.args.time views at declared false (sym c.if-is_event.false ∙ c.is_event.ensures.event h views) in
    let line = line_of c.args.view h c.args.row c.in-Some.variable v items c.args.time views at declared c.args.table.now held late event in
    let e : c.from_residual-in_err-put.result ≡ Err c.in_err-put.field-0.0 = search rules in
    rw e (subst (AppendsSome (g.W.Sink.device c.args.out.now).held (g.W.Sink.device c.put.new.w).held) line
    (appends-first _ _ _ (10 ∷ []) (appends-first _ _ _ (shown (value_in (codes_shown c.args.view) c.args.table.now c.in-Some.variable.code))
    (appends-first _ _ _ (32 ∷ []) (appends-first _ _ _ (path_of (take c.args.row h.declarations) (Declaration.Var v))
    (appends-some _ _ _ _ (32 ∷ []) c.in_ok-put_number.ensures.0 (c.in_err-put.ensures.0))))))))

pub returns-in_err-put_path : goal.returns-in_err-put_path
returns-in_err-put_path g c = counted (search rules) (λ h v views declared items held late.
    let at = sym c.row_at.ensures ∙ c.in-Some.is in
    let event = event_is c.args.view h c.args.row c.in-Some.variable v items c.args.time views at declared false (sym c.if-is_event.false ∙ c.is_event.ensures.event h views) in
    let line = line_of c.args.view h c.args.row c.in-Some.variable v items c.args.time views at declared c.args.table.now held late event in
    let e : c.from_residual-in_err-put_path.result ≡ Err c.in_err-put_path.field-0.0 = search rules in
    rw e (subst (AppendsSome (g.W.Sink.device c.args.out.now).held (g.W.Sink.device c.put_path.new.w).held) line
    (appends-first _ _ _ (10 ∷ []) (appends-first _ _ _ (shown (value_in (codes_shown c.args.view) c.args.table.now c.in-Some.variable.code))
    (appends-first _ _ _ (32 ∷ []) (appends-some _ _ _ _ (path_of (take c.args.row h.declarations) (Declaration.Var v))
    (appends-twice _ _ _ _ (32 ∷ []) c.in_ok-put_number.ensures.0 (c.in_ok-put.ensures.0))
    (c.in_err-put_path.ensures.takes h (Declaration.Var v) views declared)))))))

pub returns-in_err-put-2 : goal.returns-in_err-put-2
returns-in_err-put-2 g c = counted (search rules) (λ h v views declared items held late.
    let at = sym c.row_at.ensures ∙ c.in-Some.is in
    let event = event_is c.args.view h c.args.row c.in-Some.variable v items c.args.time views at declared false (sym c.if-is_event.false ∙ c.is_event.ensures.event h views) in
    let line = line_of c.args.view h c.args.row c.in-Some.variable v items c.args.time views at declared c.args.table.now held late event in
    let e : c.from_residual-in_err-put-2.result ≡ Err c.in_err-put-2.field-0.0 = search rules in
    rw e (subst (AppendsSome (g.W.Sink.device c.args.out.now).held (g.W.Sink.device c.put-2.new.w).held) line
    (appends-first _ _ _ (10 ∷ []) (appends-first _ _ _ (shown (value_in (codes_shown c.args.view) c.args.table.now c.in-Some.variable.code))
    (appends-some _ _ _ _ (32 ∷ []) (appends-twice _ _ _ _ (path_of (take c.args.row h.declarations) (Declaration.Var v))
    (appends-twice _ _ _ _ (32 ∷ []) c.in_ok-put_number.ensures.0 (c.in_ok-put.ensures.0))
    (c.in_ok-put_path.ensures.takes h (Declaration.Var v) views declared)) (c.in_err-put-2.ensures.0))))))

pub returns-in_err-put_full : goal.returns-in_err-put_full
returns-in_err-put_full g c = counted (search rules) (λ h v views declared items held late.
    let at = sym c.row_at.ensures ∙ c.in-Some.is in
    let event = event_is c.args.view h c.args.row c.in-Some.variable v items c.args.time views at declared false (sym c.if-is_event.false ∙ c.is_event.ensures.event h views) in
    let line = line_of c.args.view h c.args.row c.in-Some.variable v items c.args.time views at declared c.args.table.now held late event in
    let e : c.from_residual-in_err-put_full.result ≡ Err c.in_err-put_full.field-0.0 = search rules in
    rw e (subst (AppendsSome (g.W.Sink.device c.args.out.now).held (g.W.Sink.device c.put_full.new.w).held) line
    (appends-first _ _ _ (10 ∷ []) (appends-some _ _ _ _ (shown (value_in (codes_shown c.args.view) c.args.table.now c.in-Some.variable.code))
    (appends-twice _ _ _ _ (32 ∷ []) (appends-twice _ _ _ _ (path_of (take c.args.row h.declarations) (Declaration.Var v))
    (appends-twice _ _ _ _ (32 ∷ []) c.in_ok-put_number.ensures.0 (c.in_ok-put.ensures.0))
    (c.in_ok-put_path.ensures.takes h (Declaration.Var v) views declared)) (c.in_ok-put-2.ensures.0))
    (c.in_err-put_full.ensures.takes held.values.laid)))))

pub returns : goal.returns
returns g c = counted (search rules) (λ h v views declared items held late.
    let at = sym c.row_at.ensures ∙ c.in-Some.is in
    let event = event_is c.args.view h c.args.row c.in-Some.variable v items c.args.time views at declared false (sym c.if-is_event.false ∙ c.is_event.ensures.event h views) in
    let line = line_of c.args.view h c.args.row c.in-Some.variable v items c.args.time views at declared c.args.table.now held late event in
    subst (λ l. Takes (g.W.Sink.device c.args.out.now) (g.W.Sink.device c.put-3.new.w) l c.put-3.result) line
    (takes-twice _ _ _ _ (10 ∷ []) c.put-3.result (appends-twice _ _ _ _
    (shown (value_in (codes_shown c.args.view) c.args.table.now c.in-Some.variable.code))
    (appends-twice _ _ _ _ (32 ∷ []) (appends-twice _ _ _ _ (path_of (take c.args.row h.declarations) (Declaration.Var v))
    (appends-twice _ _ _ _ (32 ∷ []) c.in_ok-put_number.ensures.0 (c.in_ok-put.ensures.0))
    (c.in_ok-put_path.ensures.takes h (Declaration.Var v) views declared)) (c.in_ok-put-2.ensures.0))
    (c.in_ok-put_full.ensures.takes held.values.laid)) c.put-3.ensures.0))
