use Rattle.vcd_head.proofs.Cited.{◌≡◌, ℕ, List, ◌∷◌, [], true, false, None, Some, bytes_eq, codes, find, refl, sym, ap, subst, ◌∙◌, arith, err_from_is_err_and, list_all, is_code_byte, code_of, codes_of, has_text, agrees, declarations_of, Keyword, keyword_text, phrases_of, token_of, value_of, AreBytes, IsSize, codes_few, keys_of, IsEntered, Reads, variable}
use Rattle.vcd_head.proofs.Facts.{faultless, kept, inside, refused_inside, var_welcomes_type, code_bad, code_bytes, code_checked, len_of, none_entered, agrees_new, size_found, size_parts}
use Rattle.vcd_head.proofs.variable.read_code.Goals as goal

pub returns-in_err-next_word-clause-reads : goal.returns-in_err-next_word-clause-reads
returns-in_err-next_word-clause-reads g c =
    let p = err_from_is_err_and c.from_residual.result c.from_residual.ensures.1 in
    rw (p.1, p.2) (λ most i placed h few r. c.in_err-next_word.ensures.reads most i placed (keyword_text Keyword.Var ∷ []) (var_welcomes_type most placed) (λ x. x) r)

pub returns-in_err-size-clause-reads : goal.returns-in_err-size-clause-reads
returns-in_err-size-clause-reads g c =
    let p = err_from_is_err_and c.from_residual-in_err-size.result c.from_residual-in_err-size.ensures.1 in
    rw (p.1, p.2) (λ most i placed h few r.
    let w = c.in_ok-next_word.ensures.reads most i placed (keyword_text Keyword.Var ∷ []) (var_welcomes_type most placed) (λ x. x) r in
    let type = (token_of c.next_word.new.feed).bytes in
    c.in_err-size.ensures.reads most i placed type (kept most i placed (keyword_text Keyword.Var ∷ type ∷ []) c.next_word.new.feed c.keep.new.self c.keep.ensures.still c.keep.ensures.token w.0))

pub returns-in_err-next_token-clause-reads : goal.returns-in_err-next_token-clause-reads
returns-in_err-next_token-clause-reads g c =
    let p = err_from_is_err_and c.from_residual-in_err-next_token.result c.from_residual-in_err-next_token.ensures.1 in
    rw (p.1, p.2) (λ most i placed h few r.
    let w = c.in_ok-next_word.ensures.reads most i placed (keyword_text Keyword.Var ∷ []) (var_welcomes_type most placed) (λ x. x) r in
    let type = (token_of c.next_word.new.feed).bytes in
    let s = c.in_ok-size.ensures.reads most i placed type (kept most i placed
    (keyword_text Keyword.Var ∷ type ∷ []) c.next_word.new.feed c.keep.new.self c.keep.ensures.still c.keep.ensures.token w.0) in
    c.in_err-next_token.ensures.reads most i placed (keyword_text Keyword.Var ∷ type ∷ (token_of c.read_size.new.feed).bytes ∷ []) s.reads)

pub returns-then-not-is_code-clause-reads : goal.returns-then-not-is_code-clause-reads
returns-then-not-is_code-clause-reads g c = λ most i placed h few r.
    let w = c.in_ok-next_word.ensures.reads most i placed (keyword_text Keyword.Var ∷ []) (var_welcomes_type most placed) (λ x. x) r in
    let type = (token_of c.next_word.new.feed).bytes in
    let s = c.in_ok-size.ensures.reads most i placed type (kept most i placed
    (keyword_text Keyword.Var ∷ type ∷ []) c.next_word.new.feed c.keep.new.self c.keep.ensures.still c.keep.ensures.token w.0) in
    let digits = (token_of c.read_size.new.feed).bytes in
    let code = (token_of c.next_token.new.feed).bytes in
    let bad : list_all is_code_byte code ≡ false = sym (c.is_code.ensures ∙ ap (list_all is_code_byte) c.token.ensures) ∙ c.if-not-is_code.true in
    refused_inside most i placed Keyword.Var c.next_token.new.feed (type ∷ digits ∷ []) 7 (code_bad (declarations_of (phrases_of placed)) type digits code bad)
    (c.in_ok-next_token.ensures.reads most i placed (keyword_text Keyword.Var ∷ type ∷ digits ∷ []) s.reads)

pub returns-in_err-code-clause-reads : goal.returns-in_err-code-clause-reads
returns-in_err-code-clause-reads g c =
    let p = err_from_is_err_and c.from_residual-in_err-code.result c.from_residual-in_err-code.ensures.1 in
    rw (p.1, p.2, c.in_err-code.ensures.memory) (λ most i placed h few r.
    let w = c.in_ok-next_word.ensures.reads most i placed (keyword_text Keyword.Var ∷ []) (var_welcomes_type most placed) (λ x. x) r in
    let type = (token_of c.next_word.new.feed).bytes in
    let s = c.in_ok-size.ensures.reads most i placed type (kept most i placed
    (keyword_text Keyword.Var ∷ type ∷ []) c.next_word.new.feed c.keep.new.self c.keep.ensures.still c.keep.ensures.token w.0) in
    let digits = (token_of c.read_size.new.feed).bytes in
    let code = (token_of c.next_token.new.feed).bytes in
    let ds = declarations_of (phrases_of placed) in
    let bytes = c.token-2.result.now in
    let good : list_all is_code_byte code ≡ true = sym (c.is_code.ensures ∙ ap (list_all is_code_byte) c.token.ensures) ∙ c.if-not-is_code.false in
    let are = subst AreBytes (sym c.token-2.ensures) (code_bytes code good) in
    let absent = c.in_err-code.ensures.refused h.rises (omega (arith, few, codes_few ds, len_of bytes are (keys_of c.args.known.now) (codes_of ds) h.keys)) in
    let none = none_entered bytes are (keys_of c.args.known.now) (codes_of ds) h.held.texts h.keys absent in
    let agree = agrees_new c.args.text.now.items c.args.known.now ds (variable type digits code []) h (subst (λ t. find (has_text t) (codes_of ds) ≡ None) c.token-2.ensures none) in
    faultless most i placed (keyword_text Keyword.Var ∷ type ∷ digits ∷ []) code c.next_token.new.feed
    (inside most i placed Keyword.Var c.next_token.new.feed (type ∷ digits ∷ []) (code_checked ds type digits code true good agree) refl
    (c.in_ok-next_token.ensures.reads most i placed (keyword_text Keyword.Var ∷ type ∷ digits ∷ []) s.reads)))

pub returns-in-None-clause-reads : goal.returns-in-None-clause-reads
returns-in-None-clause-reads g c = λ most i placed h few r.
    let w = c.in_ok-next_word.ensures.reads most i placed (keyword_text Keyword.Var ∷ []) (var_welcomes_type most placed) (λ x. x) r in
    let type = (token_of c.next_word.new.feed).bytes in
    let s = c.in_ok-size.ensures.reads most i placed type (kept most i placed
    (keyword_text Keyword.Var ∷ type ∷ []) c.next_word.new.feed c.keep.new.self c.keep.ensures.still c.keep.ensures.token w.0) in
    let digits = (token_of c.read_size.new.feed).bytes in
    let code = (token_of c.next_token.new.feed).bytes in
    let ds = declarations_of (phrases_of placed) in
    let sf = size_found digits c.in_ok-size.size s.size_is in
    let sp = size_parts digits sf.0 in
    let size : IsSize c.in_ok-size.size = record { some = omega (arith, sp.1, sf.1); most = omega (arith, sp.2, sf.1) } in
    let held = c.value.ensures ∙ c.in_ok-next_token.ensures.value ∙ c.in_ok-size.ensures.value ∙ c.keep.ensures.value in
    let event : bytes_eq (codes "event") type ≡ c.is_event_type-event.result = sym (c.is_event_type-event.ensures ∙ ap (bytes_eq (codes "event")) held) in
    let is : code_of (variable type digits code [])
    ≡ record { text = c.token-2.result.now; size = c.in_ok-size.size; event = c.is_event_type-event.result } = λ j.
    record { text = sym c.token-2.ensures j; size = sf.1 j; event = event j } in
    let good : list_all is_code_byte code ≡ true = sym (c.is_code.ensures ∙ ap (list_all is_code_byte) c.token.ensures) ∙ c.if-not-is_code.false in
    let e = rw c.in-None.is at (c.in_ok-code.ensures.codes ds (variable type digits code []) h is size) in
    refused_inside most i placed Keyword.Var c.next_token.new.feed (type ∷ digits ∷ []) 8 (code_checked ds type digits code false good e.0)
    (c.in_ok-next_token.ensures.reads most i placed (keyword_text Keyword.Var ∷ type ∷ digits ∷ []) s.reads)

pub returns-in-Some-clause-reads : goal.returns-in-Some-clause-reads
returns-in-Some-clause-reads g c = λ most i placed h few r.
    let w = c.in_ok-next_word.ensures.reads most i placed (keyword_text Keyword.Var ∷ []) (var_welcomes_type most placed) (λ x. x) r in
    let type = (token_of c.next_word.new.feed).bytes in
    let s = c.in_ok-size.ensures.reads most i placed type (kept most i placed
    (keyword_text Keyword.Var ∷ type ∷ []) c.next_word.new.feed c.keep.new.self c.keep.ensures.still c.keep.ensures.token w.0) in
    let f = c.next_token.new.feed in
    let digits = (token_of c.read_size.new.feed).bytes in
    let code = (token_of f).bytes in
    let ds = declarations_of (phrases_of placed) in
    let sf = size_found digits c.in_ok-size.size s.size_is in
    let sp = size_parts digits sf.0 in
    let size : IsSize c.in_ok-size.size = record { some = omega (arith, sp.1, sf.1); most = omega (arith, sp.2, sf.1) } in
    let same : value_of f ≡ type = c.in_ok-next_token.ensures.value ∙ c.in_ok-size.ensures.value ∙ c.keep.ensures.value in
    let event : bytes_eq (codes "event") (value_of f) ≡ c.is_event_type-event.result = sym (c.is_event_type-event.ensures ∙ ap (bytes_eq (codes "event")) c.value.ensures) in
    let is : (reference : List (List ℕ)) → code_of (variable (value_of f) digits code reference)
    ≡ record { text = c.token-2.result.now; size = c.in_ok-size.size; event = c.is_event_type-event.result } = λ reference j.
    record { text = sym c.token-2.ensures j; size = sf.1 j; event = event j } in
    let good : list_all is_code_byte code ≡ true = sym (c.is_code.ensures ∙ ap (list_all is_code_byte) c.token.ensures) ∙ c.if-not-is_code.false in
    let e : (reference : List (List ℕ)) → IsEntered c.args.text.now.items c.enter_code.new.text.items c.enter_code.new.known ds
    (variable (value_of f) digits code reference) (Some c.in-Some.code) = λ reference. rw c.in-Some.is at
    (c.in_ok-code.ensures.codes ds (variable (value_of f) digits code reference) h (is reference) size) in
    let agree = ap (λ t. agrees ds (variable t digits code [])) (sym same) ∙ (e []).0 in
    record {
      digits = digits;
      code = code;
      decimal = sp.0;
      reads = subst (λ (t : List ℕ). Reads most i placed (keyword_text Keyword.Var ∷ t ∷ digits ∷ code ∷ []) f) (sym same)
          (inside most i placed Keyword.Var f (type ∷ digits ∷ []) (code_checked ds type digits code true good agree) refl
          (c.in_ok-next_token.ensures.reads most i placed (keyword_text Keyword.Var ∷ type ∷ digits ∷ []) s.reads));
      held = λ reference. (e reference).1;
    }
