use Rattle.vcd_head.proofs.Cited.{◌≡◌, [], List, ℕ, Err, codes, decimal, subst, rules, rows_text, up_line, is_among, marked_places, Takes, AppendsSome, appends-first, appends-some, appends-twice, counted, takes-twice, numbered}
use Rattle.vcd_head.proofs.Facts.{input_text}
use Rattle.vcd_head.proofs.merged.put_input_head.Goals as goal

pub returns-in_err-put : goal.returns-in_err-put
returns-in_err-put g c = counted (search rules) (λ earlier h v n f fits.
    let e : c.from_residual.result ≡ Err c.in_err-put.field-0.0 = search rules in
    let whole = input_text earlier h c.args.number c.args.first n f in
    rw e (subst (AppendsSome (g.W.Sink.device c.args.w.now).held (g.W.Sink.device c.put.new.w).held) whole
    (appends-first _ _ _ up_line (appends-first _ _ _ (rows_text (numbered c.args.first h)
    (is_among (marked_places [] h.declarations)) h.declarations)
    (appends-first _ _ _ (codes " $end\n") (appends-first _ _ _ (decimal c.args.number) c.in_err-put.ensures.0))))))

pub returns-in_err-put_number : goal.returns-in_err-put_number
returns-in_err-put_number g c = counted (search rules) (λ earlier h v n f fits.
    let e : c.from_residual-in_err-put_number.result ≡ Err c.in_err-put_number.field-0.0 = search rules in
    let whole = input_text earlier h c.args.number c.args.first n f in
    rw e (subst (AppendsSome (g.W.Sink.device c.args.w.now).held (g.W.Sink.device c.put_number.new.w).held) whole
    (appends-first _ _ _ up_line (appends-first _ _ _ (rows_text (numbered c.args.first h)
    (is_among (marked_places [] h.declarations)) h.declarations)
    (appends-first _ _ _ (codes " $end\n") (appends-some _ _ _ _ (decimal c.args.number) c.in_ok-put.ensures.0 c.in_err-put_number.ensures.0))))))

pub returns-in_err-put-2 : goal.returns-in_err-put-2
returns-in_err-put-2 g c = counted (search rules) (λ earlier h v n f fits.
    let e : c.from_residual-in_err-put-2.result ≡ Err c.in_err-put-2.field-0.0 = search rules in
    let whole = input_text earlier h c.args.number c.args.first n f in
    let front = appends-twice _ _ _ _ (decimal c.args.number) c.in_ok-put.ensures.0 c.in_ok-put_number.ensures.0 in
    rw e (subst (AppendsSome (g.W.Sink.device c.args.w.now).held (g.W.Sink.device c.put-2.new.w).held) whole
    (appends-first _ _ _ up_line (appends-first _ _ _ (rows_text (numbered c.args.first h)
    (is_among (marked_places [] h.declarations)) h.declarations) (appends-some _ _ _ _ (codes " $end\n") front c.in_err-put-2.ensures.0)))))

pub returns-in_err-put_input_rows : goal.returns-in_err-put_input_rows
returns-in_err-put_input_rows g c = counted (search rules) (λ earlier h v n f fits.
    let e : c.from_residual-in_err-put_input_rows.result ≡ Err c.in_err-put_input_rows.field-0.0 = search rules in
    let whole = input_text earlier h c.args.number c.args.first n f in
    let front = appends-twice _ _ _ _ (codes " $end\n") (appends-twice _ _ _ _ (decimal c.args.number) c.in_ok-put.ensures.0 c.in_ok-put_number.ensures.0) c.in_ok-put-2.ensures.0 in
    rw e (subst (AppendsSome (g.W.Sink.device c.args.w.now).held (g.W.Sink.device c.put_input_rows.new.w).held) whole
    (appends-first _ _ _ up_line (appends-some _ _ _ _ (rows_text (numbered c.args.first h)
    (is_among (marked_places [] h.declarations)) h.declarations) front (c.in_err-put_input_rows.ensures.0 h v fits)))))

pub returns : goal.returns
returns g c = counted (search rules) (λ earlier h v n f fits.
    let whole = input_text earlier h c.args.number c.args.first n f in
    let front = appends-twice _ _ _ _ (codes " $end\n") (appends-twice _ _ _ _ (decimal c.args.number) c.in_ok-put.ensures.0 c.in_ok-put_number.ensures.0) c.in_ok-put-2.ensures.0 in
    subst (λ (l : List ℕ). Takes (g.W.Sink.device c.args.w.now) (g.W.Sink.device c.put-3.new.w) l c.put-3.result) whole
    (takes-twice _ _ _ _ up_line c.put-3.result (appends-twice _ _ _ _
    (rows_text (numbered c.args.first h) (is_among (marked_places [] h.declarations)) h.declarations) front
    (c.in_ok-put_input_rows.ensures.0 h v fits)) c.put-3.ensures.0))
