use Rattle.vcd_compare_words.proofs.Cited.{◌≡◌, ◌∙◌, [], Err, List, Ok, Some, ap, ap₂, codes, rules, sym, unwrap_or, Asked, Names, OutOfMemory, comparing_with, model_asked, names_in, some_names_asked, texts, texts_of, words_of}
use Rattle.vcd_compare_words.proofs.NamesLemmas.{names-kept}
use Rattle.vcd_compare_words.proofs.job.job_of.Goals as goal

pub returns-in_err-copied_names : goal.returns-in_err-copied_names
returns-in_err-copied_names c =
    let same : c.from_residual-in_err-copied_names.result ≡ Err OutOfMemory = search rules in
    let words : Some (texts c.in-Some.words.now) ≡ words_of c.args.matches.now (codes "names") = ap texts_of (sym c.in-Some.is) ∙ c.words_of.ensures in
    let names = c.in_ok-check_names.ensures.names in
    rw same (_, ap₂ comparing_with c.in_ok-asked.ensures.asked (ap some_names_asked (sym words) ∙ names.1))

pub returns-in_err-copied_words : goal.returns-in_err-copied_words
returns-in_err-copied_words c =
    let same : c.from_residual-in_err-copied_words.result ≡ Err OutOfMemory = search rules in
    let words : Some (texts c.in-Some.words.now) ≡ words_of c.args.matches.now (codes "names") = ap texts_of (sym c.in-Some.is) ∙ c.words_of.ensures in
    let names = c.in_ok-check_names.ensures.names in
    rw same (_, ap₂ comparing_with c.in_ok-asked.ensures.asked (ap some_names_asked (sym words) ∙ names.1))

pub returns : goal.returns
returns c =
    let words : Some (texts c.in-Some.words.now) ≡ words_of c.args.matches.now (codes "names") = ap texts_of (sym c.in-Some.is) ∙ c.words_of.ensures in
    let names = c.in_ok-check_names.ensures.names in
    let kept : names.0 ≡ names_in c.in_ok-copied_names.field-0.items = sym (c.in_ok-copied_names.ensures ∙ names-kept (texts c.in-Some.words.now) names.0 names.2) in
    let left = ap (model_asked c.in_ok-asked.asked) (sym (c.in_ok-copied_words.ensures ∙ ap (λ w. unwrap_or w []) c.words_of-2.ensures)) in
    ap₂ comparing_with c.in_ok-asked.ensures.asked (ap some_names_asked (sym words) ∙ names.1) ∙ ap₂ (λ (q : Asked) (ns : List Names). Ok (q, ns)) left kept
