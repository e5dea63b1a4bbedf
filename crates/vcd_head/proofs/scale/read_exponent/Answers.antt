use Rattle.vcd_head.proofs.Cited.{◌≡◌, ◌∷◌, [], Some, None, sym, ap, subst, ◌∙◌, ScaleRead, err_from_is_err_and, Keyword, keyword_text, exponent_of, token_of, power_in, unit_in}
use Rattle.vcd_head.proofs.Facts.{number_read, one_read, one_refused, two_added, two_refused, not_some}
use Rattle.vcd_head.proofs.scale.read_exponent.Goals as goal

pub returns-in_err-next_token-clause-reads : goal.returns-in_err-next_token-clause-reads
returns-in_err-next_token-clause-reads g c =
    let p = err_from_is_err_and c.from_residual.result c.from_residual.ensures.1 in
    rw (p.1, p.2) (λ most i placed r. c.in_err-next_token.ensures.reads most i placed (keyword_text Keyword.Timescale ∷ []) r)

pub returns-in_err-next_token-2-clause-reads : goal.returns-in_err-next_token-2-clause-reads
returns-in_err-next_token-2-clause-reads g c =
    let p = err_from_is_err_and c.from_residual-in_err-next_token-2.result c.from_residual-in_err-next_token-2.ensures.1 in
    rw (p.1, p.2) (λ most i placed r.
    let h : power_in (token_of c.next_token.new.feed).bytes ≡ Some c.in-Some.power = sym (c.power_of.ensures ∙ ap power_in c.token.ensures) ∙ c.in-Some.is in
    let n = number_read most i placed c.next_token.new.feed c.in-Some.power h (c.in_ok-next_token.ensures.reads most i placed (keyword_text Keyword.Timescale ∷ []) r) in
    c.in_err-next_token-2.ensures.reads most i placed (keyword_text Keyword.Timescale ∷ (token_of c.next_token.new.feed).bytes ∷ []) n)

pub returns-in-Some-unit_of-clause-reads : goal.returns-in-Some-unit_of-clause-reads
returns-in-Some-unit_of-clause-reads g c = λ most i placed r.
    let h : power_in (token_of c.next_token.new.feed).bytes ≡ Some c.in-Some.power = sym (c.power_of.ensures ∙ ap power_in c.token.ensures) ∙ c.in-Some.is in
    let n = number_read most i placed c.next_token.new.feed c.in-Some.power h (c.in_ok-next_token.ensures.reads most i placed (keyword_text Keyword.Timescale ∷ []) r) in
    let u : unit_in (token_of c.next_token-2.new.feed).bytes ≡ Some c.in-Some-unit_of.unit = sym (c.unit_of.ensures ∙ ap unit_in c.token-2.ensures) ∙ c.in-Some-unit_of.is in
    two_added most i placed c.next_token-2.new.feed (token_of c.next_token.new.feed).bytes c.in-Some.power c.in-Some-unit_of.unit h u
    (c.in_ok-next_token-2.ensures.reads most i placed (keyword_text Keyword.Timescale ∷ (token_of c.next_token.new.feed).bytes ∷ []) n)

pub returns-in-Some-exponent_of-clause-reads : goal.returns-in-Some-exponent_of-clause-reads
returns-in-Some-exponent_of-clause-reads g c = λ most i placed r.
    let h = sym (c.power_of.ensures ∙ ap power_in c.token.ensures) ∙ not_some c.power_of.result c.in_default.not-Some in
    let x : exponent_of (token_of c.next_token.new.feed).bytes ≡ Some c.in-Some-exponent_of.exponent = sym (c.exponent_of.ensures
    ∙ ap exponent_of c.token-in_default.ensures) ∙ c.in-Some-exponent_of.is in
    let s = one_read most i placed c.next_token.new.feed c.in-Some-exponent_of.exponent h x (c.in_ok-next_token.ensures.reads most i placed (keyword_text Keyword.Timescale ∷ []) r) in
    subst (ScaleRead most i placed c.next_token.new.feed) (sym s.fits) s

pub returns-in-None-clause-reads : goal.returns-in-None-clause-reads
returns-in-None-clause-reads g c = λ most i placed r.
    let h = sym (c.power_of.ensures ∙ ap power_in c.token.ensures) ∙ not_some c.power_of.result c.in_default.not-Some in
    let x : exponent_of (token_of c.next_token.new.feed).bytes ≡ None = sym (c.exponent_of.ensures ∙ ap exponent_of c.token-in_default.ensures) ∙ c.in-None.is in
    one_refused most i placed c.next_token.new.feed h x (c.in_ok-next_token.ensures.reads most i placed (keyword_text Keyword.Timescale ∷ []) r)

pub returns-in-None-unit_of-clause-reads : goal.returns-in-None-unit_of-clause-reads
returns-in-None-unit_of-clause-reads g c = λ most i placed r.
    let h : power_in (token_of c.next_token.new.feed).bytes ≡ Some c.in-Some.power = sym (c.power_of.ensures ∙ ap power_in c.token.ensures) ∙ c.in-Some.is in
    let n = number_read most i placed c.next_token.new.feed c.in-Some.power h (c.in_ok-next_token.ensures.reads most i placed (keyword_text Keyword.Timescale ∷ []) r) in
    let u : unit_in (token_of c.next_token-2.new.feed).bytes ≡ None = sym (c.unit_of.ensures ∙ ap unit_in c.token-2.ensures) ∙ c.in-None-unit_of.is in
    two_refused most i placed c.next_token-2.new.feed (token_of c.next_token.new.feed).bytes c.in-Some.power h u
    (c.in_ok-next_token-2.ensures.reads most i placed (keyword_text Keyword.Timescale ∷ (token_of c.next_token.new.feed).bytes ∷ []) n)
