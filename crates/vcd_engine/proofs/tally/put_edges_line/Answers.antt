use Rattle.vcd_engine.proofs.Cited.{◌≡◌, ℕ, List, [], ◌∷◌, Err, get_or, decimal, sym, subst, ◌∙◌, rules, Declaration, Takes, AppendsSome, appends-first, appends-some, appends-twice, counted, takes-twice, parts}
use Rattle.vcd_engine.proofs.Facts.{row_there, row_is}
use Rattle.vcd_engine.proofs.tally.put_edges_line.Goals as goal

pub returns-in_default : goal.returns-in_default
returns-in_default g c = counted (search rules) (λ h v views declared items tallied. absurd (row_there (parts c.args.view) h c.args.row v views declared (sym c.row_at.ensures ∙ c.in_default.is)))

pub returns-in_err-put_path : goal.returns-in_err-put_path
returns-in_err-put_path g c = counted (search rules) (λ h v views declared items tallied.
    let e : c.from_residual.result ≡ Err c.in_err-put_path.field-0.0 = search rules in
    let ns = c.tally.result in
    let line = row_is c.args.view h c.args.table.now items c.args.row c.in-Some.variable v ns views tallied (sym c.row_at.ensures ∙ c.in-Some.is) declared c.tally.ensures in
    rw e (subst (λ (l : List ℕ). AppendsSome (g.W.Sink.device c.args.out.now).held (g.W.Sink.device c.put_path.new.w).held l) line
    (appends-first _ _ _ (10 ∷ []) (appends-first _ _ _ (32 ∷ decimal (get_or ns 2 0))
    (appends-first _ _ _ (32 ∷ decimal (get_or ns 1 0)) (appends-first _ _ _ (32 ∷ decimal (get_or ns 0 0))
    (c.in_err-put_path.ensures.takes h (Declaration.Var v) views declared)))))))

pub returns-in_err-put_counter : goal.returns-in_err-put_counter
returns-in_err-put_counter g c = counted (search rules) (λ h v views declared items tallied.
    let e : c.from_residual-in_err-put_counter.result ≡ Err c.in_err-put_counter.field-0.0 = search rules in
    let ns = c.tally.result in
    let line = row_is c.args.view h c.args.table.now items c.args.row c.in-Some.variable v ns views tallied (sym c.row_at.ensures ∙ c.in-Some.is) declared c.tally.ensures in
    rw e (subst (λ (l : List ℕ). AppendsSome (g.W.Sink.device c.args.out.now).held (g.W.Sink.device c.put_counter.new.out).held l) line
    (appends-first _ _ _ (10 ∷ []) (appends-first _ _ _ (32 ∷ decimal (get_or ns 2 0))
    (appends-first _ _ _ (32 ∷ decimal (get_or ns 1 0)) (appends-some _ _ _ _ (32 ∷ decimal (get_or ns 0 0))
    (c.in_ok-put_path.ensures.takes h (Declaration.Var v) views declared) c.in_err-put_counter.ensures.0))))))

pub returns-in_err-put_counter-2 : goal.returns-in_err-put_counter-2
returns-in_err-put_counter-2 g c = counted (search rules) (λ h v views declared items tallied.
    let e : c.from_residual-in_err-put_counter-2.result ≡ Err c.in_err-put_counter-2.field-0.0 = search rules in
    let ns = c.tally.result in
    let line = row_is c.args.view h c.args.table.now items c.args.row c.in-Some.variable v ns views tallied (sym c.row_at.ensures ∙ c.in-Some.is) declared c.tally.ensures in
    rw e (subst (λ (l : List ℕ). AppendsSome (g.W.Sink.device c.args.out.now).held (g.W.Sink.device c.put_counter-2.new.out).held l) line
    (appends-first _ _ _ (10 ∷ []) (appends-first _ _ _ (32 ∷ decimal (get_or ns 2 0))
    (appends-some _ _ _ _ (32 ∷ decimal (get_or ns 1 0)) (appends-twice _ _ _ _ (32 ∷ decimal (get_or ns 0 0))
    (c.in_ok-put_path.ensures.takes h (Declaration.Var v) views declared) c.in_ok-put_counter.ensures.0) c.in_err-put_counter-2.ensures.0)))))

pub returns-in_err-put_counter-3 : goal.returns-in_err-put_counter-3
returns-in_err-put_counter-3 g c = counted (search rules) (λ h v views declared items tallied.
    let e : c.from_residual-in_err-put_counter-3.result ≡ Err c.in_err-put_counter-3.field-0.0 = search rules in
    let ns = c.tally.result in
    let line = row_is c.args.view h c.args.table.now items c.args.row c.in-Some.variable v ns views tallied (sym c.row_at.ensures ∙ c.in-Some.is) declared c.tally.ensures in
    rw e (subst (λ (l : List ℕ). AppendsSome (g.W.Sink.device c.args.out.now).held (g.W.Sink.device c.put_counter-3.new.out).held l) line
    (appends-first _ _ _ (10 ∷ []) (appends-some _ _ _ _ (32 ∷ decimal (get_or ns 2 0))
    (appends-twice _ _ _ _ (32 ∷ decimal (get_or ns 1 0)) (appends-twice _ _ _ _ (32 ∷ decimal (get_or ns 0 0))
    (c.in_ok-put_path.ensures.takes h (Declaration.Var v) views declared) c.in_ok-put_counter.ensures.0) c.in_ok-put_counter-2.ensures.0)
    c.in_err-put_counter-3.ensures.0))))

pub returns : goal.returns
returns g c = counted (search rules) (λ h v views declared items tallied.
    let ns = c.tally.result in
    let line = row_is c.args.view h c.args.table.now items c.args.row c.in-Some.variable v ns views tallied (sym c.row_at.ensures ∙ c.in-Some.is) declared c.tally.ensures in
    subst (λ (l : List ℕ). Takes (g.W.Sink.device c.args.out.now) (g.W.Sink.device c.put.new.w) l c.put.result) line
    (takes-twice _ _ _ _ (10 ∷ []) c.put.result (appends-twice _ _ _ _ (32 ∷ decimal (get_or ns 2 0))
    (appends-twice _ _ _ _ (32 ∷ decimal (get_or ns 1 0)) (appends-twice _ _ _ _ (32 ∷ decimal (get_or ns 0 0))
    (c.in_ok-put_path.ensures.takes h (Declaration.Var v) views declared) c.in_ok-put_counter.ensures.0) c.in_ok-put_counter-2.ensures.0)
    c.in_ok-put_counter-3.ensures.0) c.put.ensures.0))
