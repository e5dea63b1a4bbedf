use Rattle.vcd_head.proofs.Cited.{◌≡◌, ◌<◌, ◌^◌, ◌-◌, [], ◌∷◌, ◌++◌, length, refl, sym, ap, subst, ◌∙◌, arith, join_with_byte, append_assoc, append-nil, length-append, err_from_is_err_and, Keyword, keyword_text, HeaderPhrase, declarations_of, Declaration, phrases_of, token_of, value_of, Row, HasCodes, variable}
use Rattle.vcd_head.proofs.Facts.{faultless, faultless_phrase, stays, barred, begun, ended, var_whole, carried, room, code_narrow, has_codes_grow, holds_declared, scope_narrow, some_token, var_entered}
use Rattle.vcd_view.specs.declared.view.Kind.TheVariants as kind
use Rattle.vcd_head.proofs.variable.read_variable.Goals as goal

pub returns-in_err-check_start-clause-advances : goal.returns-in_err-check_start-clause-advances
returns-in_err-check_start-clause-advances g c =
    let p = err_from_is_err_and c.from_residual.result c.from_residual.ensures.1 in
    rw (p.1, p.2) (stays _ c.args.feed.now _ c.in_err-check_start.ensures.ends)

pub returns-in_err-check_start-clause-reads : goal.returns-in_err-check_start-clause-reads
returns-in_err-check_start-clause-reads g c =
    let p = err_from_is_err_and c.from_residual.result c.from_residual.ensures.1 in
    rw (p.1, p.2) (λ i b.
    barred c.args.most i b.placed kind.Var c.args.feed.now c.in_err-check_start.field-0.0 b.keyword (c.in_err-check_start.ensures.checks (phrases_of b.placed) b.holds) b.token_read)

pub returns-in_err-code-clause-reads : goal.returns-in_err-code-clause-reads
returns-in_err-code-clause-reads g c =
    let p = err_from_is_err_and c.from_residual-in_err-code.result c.from_residual-in_err-code.ensures.1 in
    rw (p.1, p.2) (λ i b.
    let start = c.in_ok-check_start.ensures.checks (phrases_of b.placed) b.holds in
    let r = begun c.args.most i b.placed Keyword.Var c.args.feed.now b.keyword start refl b.token_read in
    let held = b.holds.declares in
    c.in_err-code.ensures.reads c.args.most i b.placed held.codes (omega (arith, held.few, held.allowed)) r)

pub returns-in_err-extend_from_slice-clause-reads : goal.returns-in_err-extend_from_slice-clause-reads
returns-in_err-extend_from_slice-clause-reads g c =
    let p = err_from_is_err_and c.from_residual-in_err-extend_from_slice.result c.from_residual-in_err-extend_from_slice.ensures.1 in
    rw (p.1, p.2) (λ i b.
    let start = c.in_ok-check_start.ensures.checks (phrases_of b.placed) b.holds in
    let r = begun c.args.most i b.placed Keyword.Var c.args.feed.now b.keyword start refl b.token_read in
    let held = b.holds.declares in
    let k = c.in_ok-code.ensures.reads c.args.most i b.placed held.codes (omega (arith, held.few, held.allowed)) r in
    faultless c.args.most i b.placed (keyword_text Keyword.Var ∷ value_of c.read_code.new.feed ∷ k.digits ∷ []) k.code c.read_code.new.feed k.reads)

pub returns-in_err-name-clause-reads : goal.returns-in_err-name-clause-reads
returns-in_err-name-clause-reads g c =
    let p = err_from_is_err_and c.from_residual-in_err-name.result c.from_residual-in_err-name.ensures.1 in
    rw (p.1, p.2) (λ i b.
    let start = c.in_ok-check_start.ensures.checks (phrases_of b.placed) b.holds in
    let r = begun c.args.most i b.placed Keyword.Var c.args.feed.now b.keyword start refl b.token_read in
    let held = b.holds.declares in
    let k = c.in_ok-code.ensures.reads c.args.most i b.placed held.codes (omega (arith, held.few, held.allowed)) r in
    c.in_err-name.ensures.reads c.args.most i b.placed (value_of c.read_code.new.feed) k.digits k.code k.reads)

pub returns-in_err-push-clause-reads : goal.returns-in_err-push-clause-reads
returns-in_err-push-clause-reads g c =
    let p = err_from_is_err_and c.from_residual-in_err-push.result c.from_residual-in_err-push.ensures.1 in
    rw (p.1, p.2, c.in_err-push.ensures.memory) (λ i b.
    let start = c.in_ok-check_start.ensures.checks (phrases_of b.placed) b.holds in
    let r = begun c.args.most i b.placed Keyword.Var c.args.feed.now b.keyword start refl b.token_read in
    let held = b.holds.declares in
    let k = c.in_ok-code.ensures.reads c.args.most i b.placed held.codes (omega (arith, held.few, held.allowed)) r in
    let type = value_of c.read_code.new.feed in
    let q = c.in_ok-name.ensures.reads c.args.most i b.placed type k.digits k.code k.reads in
    let f = c.read_reference.new.feed in
    let x = HeaderPhrase.Declares (Declaration.Var (variable type k.digits k.code (q.first ∷ q.ends.inner))) in
    faultless_phrase c.args.most i b.placed (record { phrase = x; line = (token_of f).line }) f
    (ended c.args.most i b.placed Keyword.Var f (type ∷ k.digits ∷ k.code ∷ q.first ∷ q.ends.inner) x refl
    (var_whole type k.digits k.code q.first q.ends.inner (token_of f).bytes q.first_on q.ends.none q.ends.ends k.decimal) refl q.ends.token_read))

pub returns-clause-reads : goal.returns-clause-reads
returns-clause-reads g c = λ i b.
    let most = c.args.most in
    let ps = phrases_of b.placed in
    let ds = declarations_of ps in
    let d = c.args.draft.now in
    let start = c.in_ok-check_start.ensures.checks ps b.holds in
    let r = begun most i b.placed Keyword.Var c.args.feed.now b.keyword start refl b.token_read in
    let held = b.holds.declares in
    let k = c.in_ok-code.ensures.reads most i b.placed held.codes (omega (arith, held.few, held.allowed)) r in
    let type = value_of c.read_code.new.feed in
    let q = c.in_ok-name.ensures.reads most i b.placed type k.digits k.code k.reads in
    let f = c.read_reference.new.feed in
    let reference = q.first ∷ q.ends.inner in
    let v = variable type k.digits k.code reference in
    let x = HeaderPhrase.Declares (Declaration.Var v) in
    let read = ended most i b.placed Keyword.Var f (type ∷ k.digits ∷ k.code ∷ reference) x refl
    (var_whole type k.digits k.code q.first q.ends.inner (token_of f).bytes q.first_on q.ends.none q.ends.ends k.decimal)
    refl q.ends.token_read in
    let h = k.held reference in
    let join = join_with_byte 32 reference in
    let middle = c.read_code.new.text.items in
    let known = c.read_code.new.known in
    let typed = c.in_ok-extend_from_slice.ensures.items ∙ ap (λ l. middle ++ l) c.value.ensures in
    let text : c.read_reference.new.text.items ≡ middle ++ (type ++ join) = q.ends.grows ∙ ap (λ l. l ++ join) typed ∙ append_assoc middle type join in
    let grown : c.read_reference.new.text.items ≡ d.text.items ++ (h.more ++ (type ++ (join ++ []))) = text ∙ ap (λ t. t ++ (type ++ join)) h.grown
    ∙ append_assoc d.text.items h.more (type ++ join) ∙ ap (λ l. d.text.items ++ (h.more ++ (type ++ l))) (sym (append-nil join)) in
    let codes : HasCodes c.read_reference.new.text.items known (ds ++ Declaration.Var v ∷ []) = subst
    (λ t. HasCodes t known (ds ++ Declaration.Var v ∷ [])) (sym text)
    (has_codes_grow middle (type ++ join) known (ds ++ Declaration.Var v ∷ []) h.held_codes) in
    let typed_len = ap length typed in
    let from : c.len-start.result ≡ length (d.text.items ++ h.more) = omega (arith, ap length h.grown) in
    let word : c.len-name_start.result - c.len-start.result ≡ length type = omega (arith, typed_len, length-append middle type) in
    let all : c.len.result - c.len-name_start.result ≡ length join = omega (arith, ap length q.ends.grows, length-append c.extend_from_slice.new.self.items join) in
    let row : Row = record { kind = kind.Var; parent = c.parent.result; start = c.len-start.result; word = c.len-name_start.result - c.len-start.result; name = c.in_ok-name.name; all = c.len.result - c.len-name_start.result; code = c.in_ok-code.code } in
    carried most i _ f b.placed (record { phrase = x; line = (token_of f).line }) read
    (holds_declared most d _ ps (Declaration.Var v) b.holds
    (var_entered most d _ ds v row h.more [] held (room most ps kind.Var start) (some_token q.first q.ends.inner) grown (omega (arith, h.short))
    (c.in_ok-push.ensures.items (record {
      parent = subst (λ n. n < 2 ^ 32) (sym c.parent.ensures)
          (scope_narrow most d ds held);
      code = code_narrow most d ds v c.in_ok-code.code held (room most ps kind.Var start) h.held_at;
    }))
    codes h.held_at refl refl c.parent.ensures from word all q.name_is)
    refl refl refl)
