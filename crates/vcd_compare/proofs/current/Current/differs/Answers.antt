use Rattle.vcd_compare.proofs.Cited.{◌≡◌, Bool, true, false, not, cond, Option, Some, slice_get, refl, sym, ap, ◌∙◌, Code, is_triggered_last, values_differ}
use mathlib.Core.Bool.{beq}
use Rattle.vcd_compare.specs.Comparing.{both_differ, differs_now, states_differ}
use Rattle.vcd_compare.proofs.current.Current.differs.Goals as goal

other_than : (x y : Bool) → not (beq x y) ≡ cond x (not y) y
other_than true true = refl
other_than true false = refl
other_than false true = refl
other_than false false = refl

pub returns-in_default : goal.returns-in_default
unfolding differs_now
returns-in_default c = ap (both_differ c.args.self.now c.args.at) c.in_default.ensures

pub returns-in_default-code_at : goal.returns-in_default-code_at
unfolding differs_now
returns-in_default-code_at c =
    let s = c.args.self.now in
    ap (λ (o : Option Code). states_differ s c.args.at (c.in-Some.one, c.in-Some.other) o (slice_get s.view.codes.now c.in-Some.other)) c.in_default-code_at.ensures
    ∙ ap (both_differ s c.args.at) c.in-Some.ensures

pub returns-in_default-code_at-2 : goal.returns-in_default-code_at-2
unfolding differs_now
returns-in_default-code_at-2 c =
    let s = c.args.self.now in
    ap (states_differ s c.args.at (c.in-Some.one, c.in-Some.other) (Some c.in-Some-code_at.code)) c.in_default-code_at-2.ensures
    ∙ ap (λ (o : Option Code). states_differ s c.args.at (c.in-Some.one, c.in-Some.other) o (slice_get s.view.codes.now c.in-Some.other)) c.in-Some-code_at.ensures
    ∙ ap (both_differ s c.args.at) c.in-Some.ensures

pub returns-then-code : goal.returns-then-code
unfolding differs_now
returns-then-code c =
    let s = c.args.self.now in
    let at = c.args.at in
    let one = c.in-Some.one in
    let other = c.in-Some.other in
    other_than c.is_triggered.result c.is_triggered-then-code.result
    ∙ ap (λ x. cond x (not c.is_triggered-then-code.result) c.is_triggered-then-code.result) c.is_triggered.ensures
    ∙ ap (λ y. cond (is_triggered_last s one at) (not y) y) c.is_triggered-then-code.ensures
    ∙ sym (ap (λ e. cond e (cond (is_triggered_last s one at) (not (is_triggered_last s other at)) (is_triggered_last s other at)) (values_differ s one other)) c.if-code.true)
    ∙ ap (states_differ s at (one, other) (Some c.in-Some-code_at.code)) c.in-Some-code_at-2.ensures
    ∙ ap (λ (o : Option Code). states_differ s at (one, other) o (slice_get s.view.codes.now other)) c.in-Some-code_at.ensures
    ∙ ap (both_differ s at) c.in-Some.ensures

pub returns : goal.returns
unfolding differs_now
returns c =
    let s = c.args.self.now in
    let at = c.args.at in
    let one = c.in-Some.one in
    let other = c.in-Some.other in
    c.values_differ.ensures
    ∙ sym (ap (λ e. cond e (cond (is_triggered_last s one at) (not (is_triggered_last s other at)) (is_triggered_last s other at)) (values_differ s one other)) c.if-code.false)
    ∙ ap (states_differ s at (one, other) (Some c.in-Some-code_at.code)) c.in-Some-code_at-2.ensures
    ∙ ap (λ (o : Option Code). states_differ s at (one, other) o (slice_get s.view.codes.now other)) c.in-Some-code_at.ensures
    ∙ ap (both_differ s at) c.in-Some.ensures
