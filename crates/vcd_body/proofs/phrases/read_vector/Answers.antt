use Rattle.vcd_body.proofs.Cited.{◌∷◌, [], true, false, ◌||◌, nat_le, length, drop, sym, ap, subst, ◌∙◌, arith, list_all, err_from_is_err_and, is_value_digit, phrases_of, token_of, value_of, parts, AreBinary}
use Rattle.vcd_body.proofs.Facts.{refused_at, refused_text, opened_text, digits_ask, too_wide, same_room, vector_read, vector_sound}
use Rattle.vcd_body.proofs.phrases.read_vector.Goals as goal

pub vector_text-requires : goal.vector_text-requires
vector_text-requires g c = record { begins = rw c.token-token.ensures c.requires.begins; binary = λ e. subst AreBinary c.rest_of.ensures (c.are_binary.ensures e) }

pub returns-in_err-vector_text-clause-reads : goal.returns-in_err-vector_text-clause-reads
returns-in_err-vector_text-clause-reads g c =
    let p = err_from_is_err_and c.from_residual.result c.from_residual.ensures.1 in
    rw (p.1, p.2) (λ h i front placed v l. refused_text h.codes i front placed c.args.feed.now _ _ c.token-token.ensures (c.in_err-vector_text.ensures.opens h.codes (phrases_of placed)) l)

pub returns-in_err-found-clause-reads : goal.returns-in_err-found-clause-reads
returns-in_err-found-clause-reads g c =
    let p = err_from_is_err_and c.from_residual-in_err-found.result c.from_residual-in_err-found.ensures.1 in
    rw (p.1, p.2) (λ h i front placed v l.
    let t = (token_of c.args.feed.now).bytes in
    let opened = opened_text h.codes i front placed c.args.feed.now _ c.token-token.ensures (c.in_ok-vector_text.ensures.opens h.codes (phrases_of placed)) l in
    c.in_err-found.ensures.reads h i front placed t v (digits_ask h.codes (phrases_of placed) t c.requires.begins) opened)

pub returns-then-not-may_have_digits-clause-reads : goal.returns-then-not-may_have_digits-clause-reads
returns-then-not-may_have_digits-clause-reads g c = λ h i front placed v l.
    let t = (token_of c.args.feed.now).bytes in
    let opened = opened_text h.codes i front placed c.args.feed.now _ c.token-token.ensures (c.in_ok-vector_text.ensures.opens h.codes (phrases_of placed)) l in
    let k = c.in_ok-found.ensures.reads h i front placed t v (digits_ask h.codes (phrases_of placed) t c.requires.begins) opened in
    let n = ap length (sym (c.rest_of-2.ensures ∙ ap (drop 1) (c.value.ensures ∙ c.in_ok-found.ensures.value))) in
    let x = c.in_ok-found.ensures.sized in
    refused_at h.codes i front placed (t ∷ []) c.read_code.new.feed 17
    (too_wide h.codes (phrases_of placed) t c.requires.begins (token_of c.read_code.new.feed).bytes k.0 k.2
    (same_room (parts c.args.view) h v c.in_ok-found.found.position k.0 x.0 (length (drop 1 t)) false k.1 x.1
    (ap (λ m. x.0.event || nat_le m x.0.size) n ∙ sym (c.may_have_digits.ensures x.0 x.1) ∙ c.if-not-may_have_digits.true))) k.3

pub returns-clause-reads : goal.returns-clause-reads
returns-clause-reads g c = λ h i front placed v l.
    let t = (token_of c.args.feed.now).bytes in
    let opened = opened_text h.codes i front placed c.args.feed.now _ c.token-token.ensures (c.in_ok-vector_text.ensures.opens h.codes (phrases_of placed)) l in
    let k = c.in_ok-found.ensures.reads h i front placed t v (digits_ask h.codes (phrases_of placed) t c.requires.begins) opened in
    let n = ap length (sym (c.rest_of-2.ensures ∙ ap (drop 1) (c.value.ensures ∙ c.in_ok-found.ensures.value))) in
    let x = c.in_ok-found.ensures.sized in
    vector_read h.codes i front placed c.read_code.new.feed t c.requires.begins c.in_ok-found.found.position c.in_ok-found.ensures.value k
    (same_room (parts c.args.view) h v c.in_ok-found.found.position k.0 x.0 (length (drop 1 t)) true k.1 x.1
    (ap (λ m. x.0.event || nat_le m x.0.size) n ∙ sym (c.may_have_digits.ensures x.0 x.1) ∙ c.if-not-may_have_digits.false))

pub returns-clause-sound : goal.returns-clause-sound
returns-clause-sound g c =
    let same = ap (drop 1) c.in_ok-found.ensures.value ∙ sym (c.in_ok-vector_text.ensures.text ∙ ap (drop 1) c.token-token.ensures) in
    let d = c.in_ok-vector_text.ensures.digits in
    let n = ap length (sym (c.rest_of-2.ensures ∙ ap (drop 1) c.value.ensures)) in
    let some = d.0 in
    let long = ap length same in
    let x = c.in_ok-found.ensures.sized in
    vector_sound c.args.view.codes.now (drop 1 (value_of c.read_code.new.feed)) c.in_ok-found.found.position x.0 x.1 (omega (arith, some, long))
    (ap (list_all is_value_digit) same ∙ d.1) (ap (λ m. x.0.event || nat_le m x.0.size) n ∙ sym (c.may_have_digits.ensures x.0 x.1)
    ∙ c.if-not-may_have_digits.false)
