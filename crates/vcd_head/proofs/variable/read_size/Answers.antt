use Rattle.vcd_head.proofs.Cited.{◌≡◌, ◌∷◌, [], refl, sym, ap, ◌∙◌, Some, None, err_from_is_err_and, Keyword, keyword_text, token_of, size_in}
use Rattle.vcd_head.proofs.Facts.{size_found, size_missing, inside, refused_inside, passed_test, failed_test}
use Rattle.vcd_head.proofs.variable.read_size.Goals as goal

pub returns-in_err-next_token-clause-reads : goal.returns-in_err-next_token-clause-reads
returns-in_err-next_token-clause-reads g c =
    let p = err_from_is_err_and c.from_residual.result c.from_residual.ensures.1 in
    rw (p.1, p.2) (λ most i placed type r. c.in_err-next_token.ensures.reads most i placed (keyword_text Keyword.Var ∷ type ∷ []) r)

pub returns-in-Some-clause-reads : goal.returns-in-Some-clause-reads
returns-in-Some-clause-reads g c = λ most i placed type r.
    let l = c.in_ok-next_token.ensures.reads most i placed (keyword_text Keyword.Var ∷ type ∷ []) r in
    let s : size_in (token_of c.next_token.new.feed).bytes ≡ Some c.in-Some.size = sym (c.size_of.ensures ∙ ap size_in c.token.ensures) ∙ c.in-Some.is in
    record { reads = inside most i placed Keyword.Var c.next_token.new.feed (type ∷ []) (passed_test _ 7 (size_found (token_of c.next_token.new.feed).bytes c.in-Some.size s).0) refl l; size_is = s }

pub returns-in-None-clause-reads : goal.returns-in-None-clause-reads
returns-in-None-clause-reads g c = λ most i placed type r.
    let l = c.in_ok-next_token.ensures.reads most i placed (keyword_text Keyword.Var ∷ type ∷ []) r in
    let s : size_in (token_of c.next_token.new.feed).bytes ≡ None = sym (c.size_of.ensures ∙ ap size_in c.token.ensures) ∙ c.in-None.is in
    refused_inside most i placed Keyword.Var c.next_token.new.feed (type ∷ []) 7 (failed_test _ 7 (size_missing (token_of c.next_token.new.feed).bytes s)) l
