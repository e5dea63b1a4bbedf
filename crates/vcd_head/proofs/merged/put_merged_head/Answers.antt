use Rattle.vcd_head.proofs.Cited.{◌≡◌, ◌++◌, List, ℕ, Err, refl, subst, ap, ◌∙◌, rules, concat, each, Header, end_line, input_head, three_lines, Keyword, scale_text, Takes, AppendsSome, appends-first, appends-some, appends-twice, takes-twice}
use Rattle.vcd_model.specs.HeadText.{least_exponent as least_of, merged_head}
use Rattle.vcd_head.proofs.merged.put_merged_head.Goals as goal

-- the parts that are written
parts_of : (exponent : List ℕ) (hs : List Header) → exponent ≡ scale_text (least_of hs) → (three_lines Keyword.Timescale exponent ++ concat (each input_head hs)) ++ end_line ≡ merged_head hs
unfolding merged_head
parts_of exponent hs e = ap (λ l. (three_lines Keyword.Timescale l ++ concat (each input_head hs)) ++ end_line) e

pub returns-in_err-put_phrase-clause-takes : goal.returns-in_err-put_phrase-clause-takes
returns-in_err-put_phrase-clause-takes g c = λ hs s.
    let e : c.from_residual.result ≡ Err c.in_err-put_phrase.field-0.0 = search rules in
    let text : c.text_of_exponent.result.now ≡ scale_text c.least_exponent.result = search rules in
    let whole = parts_of c.text_of_exponent.result.now hs (text ∙ ap scale_text (c.least_exponent.ensures hs s)) in
    rw e (subst (AppendsSome (g.W.Sink.device c.args.w.now).held (g.W.Sink.device c.put_phrase.new.w).held) whole
    (appends-first _ _ _ end_line (appends-first _ _ _ (concat (each input_head hs)) (c.in_err-put_phrase.ensures.0 Keyword.Timescale refl))))

pub returns-in_err-put_input_heads-clause-takes : goal.returns-in_err-put_input_heads-clause-takes
returns-in_err-put_input_heads-clause-takes g c = λ hs s.
    let e : c.from_residual-in_err-put_input_heads.result ≡ Err c.in_err-put_input_heads.field-0.0 = search rules in
    let text : c.text_of_exponent.result.now ≡ scale_text c.least_exponent.result = search rules in
    let whole = parts_of c.text_of_exponent.result.now hs (text ∙ ap scale_text (c.least_exponent.ensures hs s)) in
    rw e (subst (AppendsSome (g.W.Sink.device c.args.w.now).held (g.W.Sink.device c.put_input_heads.new.w).held) whole
    (appends-first _ _ _ end_line (appends-some _ _ _ _ (concat (each input_head hs)) (c.in_ok-put_phrase.ensures.0 Keyword.Timescale refl) (c.in_err-put_input_heads.ensures.0 hs s))))

pub returns-clause-takes : goal.returns-clause-takes
returns-clause-takes g c = λ hs s.
    let text : c.text_of_exponent.result.now ≡ scale_text c.least_exponent.result = search rules in
    let whole = parts_of c.text_of_exponent.result.now hs (text ∙ ap scale_text (c.least_exponent.ensures hs s)) in
    subst (λ (l : List ℕ). Takes (g.W.Sink.device c.args.w.now) (g.W.Sink.device c.put.new.w) l c.put.result) whole
    (takes-twice _ _ _ _ end_line c.put.result (appends-twice _ _ _ _ (concat (each input_head hs))
    (c.in_ok-put_phrase.ensures.0 Keyword.Timescale refl) (c.in_ok-put_input_heads.ensures.0 hs s)) c.put.ensures.0)
