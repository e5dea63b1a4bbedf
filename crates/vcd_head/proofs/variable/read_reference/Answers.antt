use Rattle.vcd_head.proofs.Cited.{[], ◌∷◌, ◌++◌, length, sym, ap, ◌∙◌, append_assoc, err_from_is_err_and, Keyword, keyword_text, token_of, spaced}
use Rattle.vcd_head.proofs.Facts.{faultless, joined, var_runs, var_welcomes_reference}
use Rattle.vcd_head.proofs.variable.read_reference.Goals as goal

pub returns-in_err-next_word-clause-reads : goal.returns-in_err-next_word-clause-reads
returns-in_err-next_word-clause-reads g c =
    let p = err_from_is_err_and c.from_residual.result c.from_residual.ensures.1 in
    rw (p.1, p.2) (λ most i placed type digits code r. c.in_err-next_word.ensures.reads most i placed
    (keyword_text Keyword.Var ∷ type ∷ digits ∷ code ∷ []) (var_welcomes_reference most placed type digits code) (λ x. x) r)

pub returns-in_err-extend_from_slice-clause-reads : goal.returns-in_err-extend_from_slice-clause-reads
returns-in_err-extend_from_slice-clause-reads g c =
    let p = err_from_is_err_and c.from_residual-in_err-extend_from_slice.result c.from_residual-in_err-extend_from_slice.ensures.1 in
    rw (p.1, p.2) (λ most i placed type digits code r.
    let w = c.in_ok-next_word.ensures.reads most i placed (keyword_text Keyword.Var ∷ type ∷ digits ∷ code ∷ []) (var_welcomes_reference most placed type digits code) (λ x. x) r in
    faultless most i placed (keyword_text Keyword.Var ∷ type ∷ digits ∷ code ∷ []) _ c.next_word.new.feed w.0)

pub returns-in_err-append_to_end-clause-reads : goal.returns-in_err-append_to_end-clause-reads
returns-in_err-append_to_end-clause-reads g c =
    let p = err_from_is_err_and c.from_residual-in_err-append_to_end.result c.from_residual-in_err-append_to_end.ensures.1 in
    rw (p.1, p.2) (λ most i placed type digits code r.
    let w = c.in_ok-next_word.ensures.reads most i placed (keyword_text Keyword.Var ∷ type ∷ digits ∷ code ∷ []) (var_welcomes_reference most placed type digits code) (λ x. x) r in
    let first = (token_of c.next_word.new.feed).bytes in
    c.in_err-append_to_end.ensures.reads most i placed (keyword_text Keyword.Var ∷ type ∷ digits ∷ code ∷ first ∷ []) (var_runs most placed type digits code first w.1) w.0)

pub returns-clause-reads : goal.returns-clause-reads
returns-clause-reads g c = λ most i placed type digits code r.
    let w = c.in_ok-next_word.ensures.reads most i placed (keyword_text Keyword.Var ∷ type ∷ digits ∷ code ∷ []) (var_welcomes_reference most placed type digits code) (λ x. x) r in
    let first = (token_of c.next_word.new.feed).bytes in
    let e = c.in_ok-append_to_end.ensures.reads most i placed (keyword_text Keyword.Var ∷ type ∷ digits ∷ code ∷ first ∷ []) (var_runs most placed type digits code first w.1) w.0 in
    let old = c.args.text.now.items in
    record {
      first = first;
      first_on = w.1;
      name_is = ap length c.token-name.ensures;
      ends = record {
        inner = e.inner;
        none = e.none;
        token_read = e.token_read;
        ends = e.ends;
        grows = e.grows ∙ ap (λ l. l ++ spaced e.inner) (c.in_ok-extend_from_slice.ensures.items ∙ ap (λ l. old ++ l) c.token.ensures)
            ∙ append_assoc old first (spaced e.inner) ∙ ap (λ l. old ++ l) (sym (joined first e.inner));
      };
    }
