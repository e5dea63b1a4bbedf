use Rattle.vcd_words.proofs.Cited.{◌≡◌, ◌∷◌, ◌&&◌, [], false, not, length, Err, rules, refl, sym, ap, ◌∙◌, lit<, Bor, List, ℕ, YieldsList-so_far, YieldsList-turn, YieldsList-end, YieldsList-from_str_split, map-append, asked}
use Rattle.vcd_words.proofs.Facts.{times_of-push, word_fails, sample_good, sample_falls}
use Rattle.vcd_model.specs.Words as model
use Rattle.vcd_words.proofs.moment_word.check_times.Goals as goal
use Rattle.vcd_words.proofs.moment_word.check_times.Goals.{else-not-order-via-then-not-order+else-not-order-2, else-not-order-via-else-not-order}

pub returns-in_err-time_of-clause-fault : goal.returns-in_err-time_of-clause-fault
returns-in_err-time_of-clause-fault c =
    let same : c.from_residual.result ≡ Err c.in_err-time_of.field-0.0 = search rules in
    let chain = YieldsList-from_str_split 44 c.args.at.now (lit< tt) (cc) (cc) (cc) in
    let turn = YieldsList-turn chain c.loop-word.yielded _ c.loop-word.yielded_by _ _ c.in-Some.word c.in-Some.is c.next.ensures.steps in
    let so_far = YieldsList-so_far chain c.loop-word.yielded _ c.loop-word.yielded_by in
    rw same (λ names. word_fails names _ (length c.loop-word.yielded) c.in-Some.word.now c.loop-word.invariant.2.0 c.in_err-time_of.field-0.0 turn.0 turn.1
    (ap model.times_of (sym so_far) ∙ c.loop-word.invariant.2.1) c.in_err-time_of.ensures.fault)

pub loop-word-preserved : goal.loop-word-preserved
loop-word-preserved c =
    let times = c.loop-word.invariant.2 in
    let words = map-append (λ (word : Bor (List ℕ)). word.now) c.loop-word.yielded (c.in-Some.word ∷ []) in
    (tt, tt, (_, ap model.times_of words ∙ times_of-push _ c.in-Some.word.now times.0 (asked c.in_ok-time_of.field-0) times.1 c.in_ok-time_of.ensures.time, c.with-order.ensures times.0 times.2))

pub returns-then-not-order-2-clause-fault : goal.returns-then-not-order-2-clause-fault
returns-then-not-order-2-clause-fault c =
    let times = c.loop-word.invariant.2 in
    let chain = YieldsList-from_str_split 44 c.args.at.now (lit< tt) (cc) (cc) (cc) in
    let all = YieldsList-end chain c.loop-word.yielded _ c.loop-word.yielded_by _ _ c.in-None.is c.next.ensures.steps in
    λ names. ap (λ words. model.sample_of names (model.times_of words)) (sym all.0) ∙ ap (model.sample_of names) times.1
    ∙ sample_falls names times.0 c.loop-word.order times.2 (rw (c.if-not-order.true, c.if-not-order-2.true) refl)

pub returns-clause-times : goal.returns-clause-times
returns-clause-times c =
    let times = c.loop-word.invariant.2 in
    let chain = YieldsList-from_str_split 44 c.args.at.now (lit< tt) (cc) (cc) (cc) in
    let all = YieldsList-end chain c.loop-word.yielded _ c.loop-word.yielded_by _ _ c.in-None.is c.next.ensures.steps in
    let good : (not c.loop-word.order.has_unit && not c.loop-word.order.rises) ≡ false =
    elim c.else-not-order.branch [
      | else-not-order-via-then-not-order+else-not-order-2 w ↦ rw (w.if-not-order.true, w.if-not-order-2.false) refl
      | else-not-order-via-else-not-order w ↦ rw w.if-not-order.false refl
    ] in
    λ names. (times.0, ap model.times_of (sym all.0) ∙ times.1, sample_good names times.0 c.loop-word.order times.2 good)
