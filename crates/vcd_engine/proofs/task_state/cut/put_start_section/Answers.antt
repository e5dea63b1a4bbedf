use Rattle.vcd_engine.proofs.Cited.{◌≡◌, List, ℕ, ◌+◌, ◌++◌, Err, length, take, drop, sym, ap, ◌∙◌, append_assoc, append-nil, subst, arith, rules, Appends, take-length, as_line, line_if_set, Header, value_before, BodyItem, time_line, Keyword, keyword_text, Takes, AppendsSome, appends-first, appends-some, appends-twice, takes-twice, codes_len, values_text}
use Rattle.vcd_engine.proofs.Facts.{read_code, values_line, values_pass, values_rest}
use Rattle.vcd_model.specs.Cut.{start_section}
use Rattle.vcd_engine.proofs.CutLemmas.{line_at}
use Rattle.vcd_engine.proofs.task_state.cut.put_start_section.Goals as goal
use Rattle.vcd_engine.proofs.task_state.cut.put_start_section.Goals.{then-not-declared+in_ok-put_short, else-not-declared}

-- what is written before the values
abbrev front : ℕ → List ℕ
front time = time_line time ++ as_line (keyword_text Keyword.DumpVars)

rejoin : (a b c d : List ℕ) → ((a ++ b) ++ c) ++ d ≡ a ++ ((b ++ c) ++ d)
rejoin a b c d = simp (append_assoc)

regroup : (a b c d : List ℕ) → ((a ++ b) ++ c) ++ d ≡ a ++ b ++ c ++ d
regroup a b c d = simp (append_assoc)

-- the section in the parts that are written
parts : (h : Header) (items : List BodyItem) (from : ℕ) → ((time_line from ++ as_line (keyword_text Keyword.DumpVars))
    ++ values_text h.codes items from) ++ as_line (keyword_text Keyword.End) ≡ start_section h from items
unfolding start_section
parts h items from = regroup (time_line from) (as_line (keyword_text Keyword.DumpVars)) (values_text h.codes items from) (as_line (keyword_text Keyword.End))

pub returns-in_err-put_time-clause-takes : goal.returns-in_err-put_time-clause-takes
returns-in_err-put_time-clause-takes g c = λ h items views has.
    let e : c.from_residual.result ≡ Err c.in_err-put_time.field-0.0 = search rules in
    rw (e, ← parts h items c.args.from) (appends-first _ _ _ (as_line (keyword_text Keyword.End))
    (appends-first _ _ _ (values_text h.codes items c.args.from)
    (appends-first _ _ _ (as_line (keyword_text Keyword.DumpVars)) c.in_err-put_time.ensures.0)))

pub returns-in_err-put-clause-takes : goal.returns-in_err-put-clause-takes
returns-in_err-put-clause-takes g c = λ h items views has.
    let e : c.from_residual-in_err-put.result ≡ Err c.in_err-put.field-0.0 = search rules in
    rw (e, ← parts h items c.args.from) (appends-first _ _ _ (as_line (keyword_text Keyword.End))
    (appends-first _ _ _ (values_text h.codes items c.args.from)
    (appends-some _ _ _ _ (as_line (keyword_text Keyword.DumpVars)) c.in_ok-put_time.ensures.0 c.in_err-put.ensures.0)))

pub loop-code-init : goal.loop-code-init
loop-code-init g c = (
  c.in_ok-put.ensures.1 ∙ c.in_ok-put_time.ensures.1,
  λ h items views has.
      let begun = front c.args.from in
      subst (Appends (g.W.Sink.device c.args.out.now).held (g.W.Sink.device c.put.new.w).held) (sym (append-nil begun))
      (appends-twice _ _ _ (time_line c.args.from) (as_line (keyword_text Keyword.DumpVars)) c.in_ok-put_time.ensures.0 c.in_ok-put.ensures.0),
)

pub returns-in_err-put_short-clause-takes : goal.returns-in_err-put_short-clause-takes
returns-in_err-put_short-clause-takes g c = λ h items views has.
    let i = c.loop-code.code in
    let time = c.args.from in
    let e : c.from_residual-in_err-put_short.result ≡ Err c.in_err-put_short.field-0.0 = search rules in
    let r = read_code c.args.view h i _ views c.loop-code-test.true in
    let none = sym r.2 ∙ c.if-not-declared.true in
    let some = values_text (take i h.codes) items time in
    let line = line_if_set r.0 (value_before items r.0 time) in
    let rest = values_text (drop (i + 1) h.codes) items time in
    let put = subst (AppendsSome _ (g.W.Sink.device c.put_short.new.w).held) (line_at c.args.view h c.args.table.now items time i r.0 views r.1 none has) (c.in_err-put_short.ensures.takes has.laid) in
    let whole : ((front time ++ some) ++ line) ++ rest ≡ front time ++ values_text h.codes items time =
    rejoin (front time) some line rest ∙ ap (λ l. front time ++ l) (sym (values_rest h.codes items time (i + 1) ∙ ap (λ l. l ++ rest) (values_line h.codes items time i r.0 r.1 none))) in
    rw (e, ← parts h items time)
    (appends-first _ _ (front time ++ values_text h.codes items time) (as_line (keyword_text Keyword.End))
    (subst (AppendsSome (g.W.Sink.device c.args.out.now).held (g.W.Sink.device c.put_short.new.w).held) whole
    (appends-first _ _ ((front time ++ some) ++ line) rest (appends-some _ _ _ (front time ++ some) line
    (c.loop-code.invariant.1 h items views has) put))))

pub loop-code-preserved : goal.loop-code-preserved
loop-code-preserved g c =
    let i = c.loop-code.code in
    let time = c.args.from in
    elim c.if-not-declared.branch [
      | then-not-declared+in_ok-put_short w ↦
          rw w.out-is (
            w.in_ok-put_short.ensures.counts ∙ c.loop-code.invariant.0,
            λ h items views has.
                let r = read_code c.args.view h i _ views c.loop-code-test.true in
                let none = sym r.2 ∙ w.if-not-declared.true in
                let some = values_text (take i h.codes) items time in
                let line = line_if_set r.0 (value_before items r.0 time) in
                let put = subst (Appends _ (g.W.Sink.device w.put_short.new.w).held)
                (line_at c.args.view h c.args.table.now items time i r.0 views r.1 none has) (w.in_ok-put_short.ensures.takes has.laid) in
                subst (λ (l : List ℕ). Appends (g.W.Sink.device c.args.out.now).held (g.W.Sink.device w.put_short.new.w).held l)
                (append_assoc (front time) some line ∙ ap (λ l. front time ++ l) (sym (values_line h.codes items time i r.0 r.1 none)))
                (appends-twice _ _ _ (front time ++ some) line (c.loop-code.invariant.1 h items views has) put),
          )
      | else-not-declared w ↦
          rw w.out-is (
            c.loop-code.invariant.0,
            λ h items views has.
                let r = read_code c.args.view h i _ views c.loop-code-test.true in
                subst (λ (l : List ℕ). Appends (g.W.Sink.device c.args.out.now).held (g.W.Sink.device c.loop-code.out).held (front time ++ l))
                (sym (values_pass h.codes items time i r.0 r.1 (sym r.2 ∙ w.if-not-declared.false))) (c.loop-code.invariant.1 h items views has),
          )
    ]

pub returns-clause-takes : goal.returns-clause-takes
returns-clause-takes g c = λ h items views has.
    let time = c.args.from in
    let same = codes_len c.args.view.text.now c.args.view.codes.now h.codes views.codes in
    let end : c.loop-code.code ≡ length h.codes = omega (arith, same, c.loop-code-test.false, c.loop-code.auto.code-end) in
    let all = ap (λ n. values_text (take n h.codes) items time) end ∙ ap (λ cs. values_text cs items time) (take-length h.codes) in
    let lines = subst (λ (l : List ℕ). Appends (g.W.Sink.device c.args.out.now).held (g.W.Sink.device c.loop-code.out).held (front time ++ l)) all (c.loop-code.invariant.1 h items views has) in
    subst (λ (l : List ℕ). Takes (g.W.Sink.device c.args.out.now) (g.W.Sink.device c.put-2.new.w) l c.put-2.result) (parts h items time)
    (takes-twice _ _ _ _ (as_line (keyword_text Keyword.End)) c.put-2.result lines c.put-2.ensures.0)
