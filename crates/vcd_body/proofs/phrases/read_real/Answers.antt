use Rattle.vcd_body.proofs.Cited.{length, drop, sym, ap, ◌∙◌, arith, err_from_is_err_and, phrases_of, token_of, value_of}
use Rattle.vcd_body.proofs.Facts.{refused_text, opened_text, real_read, real_sound, number_asks}
use Rattle.vcd_body.proofs.phrases.read_real.Goals as goal

pub real_text-requires : goal.real_text-requires
real_text-requires g c = record { begins = rw c.token.ensures c.requires.begins }

pub returns-in_err-real_text-clause-reads : goal.returns-in_err-real_text-clause-reads
returns-in_err-real_text-clause-reads g c =
    let p = err_from_is_err_and c.from_residual.result c.from_residual.ensures.1 in
    rw (p.1, p.2) (λ h i front placed v l. refused_text h.codes i front placed c.args.feed.now _ _ c.token.ensures (c.in_err-real_text.ensures.opens h.codes (phrases_of placed)) l)

pub returns-in_err-found-clause-reads : goal.returns-in_err-found-clause-reads
returns-in_err-found-clause-reads g c =
    let p = err_from_is_err_and c.from_residual-in_err-found.result c.from_residual-in_err-found.ensures.1 in
    rw (p.1, p.2) (λ h i front placed v l.
    let t = (token_of c.args.feed.now).bytes in
    let opened = opened_text h.codes i front placed c.args.feed.now _ c.token.ensures (c.in_ok-real_text.ensures.opens h.codes (phrases_of placed)) l in
    c.in_err-found.ensures.reads h i front placed t v (number_asks h.codes (phrases_of placed) t c.requires.begins) opened)

pub returns-clause-reads : goal.returns-clause-reads
returns-clause-reads g c = λ h i front placed v l.
    let t = (token_of c.args.feed.now).bytes in
    let opened = opened_text h.codes i front placed c.args.feed.now _ c.token.ensures (c.in_ok-real_text.ensures.opens h.codes (phrases_of placed)) l in
    real_read h.codes i front placed c.read_code.new.feed t c.requires.begins c.in_ok-found.found.position c.in_ok-found.ensures.value
    (c.in_ok-found.ensures.reads h i front placed t v (number_asks h.codes (phrases_of placed) t c.requires.begins) opened)

pub returns-clause-sound : goal.returns-clause-sound
returns-clause-sound g c =
    let long = ap length (ap (drop 1) c.in_ok-found.ensures.value ∙ sym (c.in_ok-real_text.ensures.text ∙ ap (drop 1) c.token.ensures)) in
    let few = c.in_ok-real_text.ensures.few in
    let some = few.0 in
    let most = few.1 in
    let x = c.in_ok-found.ensures.sized in
    real_sound c.args.view.codes.now (drop 1 (value_of c.read_code.new.feed)) c.in_ok-found.found.position x.0 x.1 (omega (arith, long, some)) (omega (arith, long, most))
