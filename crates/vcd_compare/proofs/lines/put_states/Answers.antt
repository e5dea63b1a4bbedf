use Rattle.vcd_compare.proofs.Cited.{refl, rules, code_of, state_at, shown, counted}
use Rattle.vcd_compare.proofs.Facts.{pair_codes, state_texts, state_words, texts_cut, texts_last, texts_more, texts_none}
use Rattle.vcd_compare.proofs.lines.put_states.Goals as goal

pub returns-in_err-put_state : goal.returns-in_err-put_state
returns-in_err-put_state g c = counted (search rules) (λ h items p views current class late.
    let ts = state_texts (shown (state_at 1 items (code_of p.one) c.args.time)) (shown (state_at 1 items (code_of p.other) c.args.time)) in
    let there = pair_codes h c.args.current.now.pairs.now.ends.items c.args.class p class _ c.in-Some.ensures in
    texts_cut _ _ _ ts 0 _ refl (texts_none ts _) c.from_residual.result _ (state_words items p c.args.time) c.from_residual.ensures.0
    (c.in_err-put_state.ensures.0 h items (code_of p.one) views current there.0 late))

pub returns-in_err-put : goal.returns-in_err-put
returns-in_err-put g c = counted (search rules) (λ h items p views current class late.
    let ts = state_texts (shown (state_at 1 items (code_of p.one) c.args.time)) (shown (state_at 1 items (code_of p.other) c.args.time)) in
    let there = pair_codes h c.args.current.now.pairs.now.ends.items c.args.class p class _ c.in-Some.ensures in
    texts_cut _ _ _ ts 1 _ refl (texts_more _ _ _ ts 0 _ refl (texts_none ts _)
    (c.in_ok-put_state.ensures.0 h items (code_of p.one) views current there.0 late)) c.from_residual-in_err-put.result _
    (state_words items p c.args.time) c.from_residual-in_err-put.ensures.0 c.in_err-put.ensures.0)

pub returns-in_err-put_state-2 : goal.returns-in_err-put_state-2
returns-in_err-put_state-2 g c = counted (search rules) (λ h items p views current class late.
    let ts = state_texts (shown (state_at 1 items (code_of p.one) c.args.time)) (shown (state_at 1 items (code_of p.other) c.args.time)) in
    let there = pair_codes h c.args.current.now.pairs.now.ends.items c.args.class p class _ c.in-Some.ensures in
    texts_cut _ _ _ ts 2 _ refl (texts_more _ _ _ ts 1 _ refl (texts_more _ _ _ ts 0 _ refl (texts_none ts _)
    (c.in_ok-put_state.ensures.0 h items (code_of p.one) views current there.0 late)) c.in_ok-put.ensures.0)
    c.from_residual-in_err-put_state-2.result _ (state_words items p c.args.time) c.from_residual-in_err-put_state-2.ensures.0
    (c.in_err-put_state-2.ensures.0 h items (code_of p.other) views current there.1 late))

pub returns : goal.returns
returns g c = counted (search rules) (λ h items p views current class late.
    let ts = state_texts (shown (state_at 1 items (code_of p.one) c.args.time)) (shown (state_at 1 items (code_of p.other) c.args.time)) in
    let there = pair_codes h c.args.current.now.pairs.now.ends.items c.args.class p class _ c.in-Some.ensures in
    texts_last _ _ _ ts 3 _ refl (texts_more _ _ _ ts 2 _ refl (texts_more _ _ _ ts 1 _ refl
    (texts_more _ _ _ ts 0 _ refl (texts_none ts _) (c.in_ok-put_state.ensures.0 h items (code_of p.one) views current there.0 late))
    c.in_ok-put.ensures.0) (c.in_ok-put_state-2.ensures.0 h items (code_of p.other) views current there.1 late)) c.put-2.result _
    (state_words items p c.args.time) refl c.put-2.ensures.0)

pub returns-in_default : goal.returns-in_default
returns-in_default g c = counted (search rules) (λ h items p views current class late. absurd (pair_codes h c.args.current.now.pairs.now.ends.items c.args.class p class _ c.in_default.ensures))
