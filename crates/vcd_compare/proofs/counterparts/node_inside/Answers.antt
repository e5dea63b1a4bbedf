use Rattle.vcd_compare.proofs.Cited.{◌≡◌, ℕ, Some, slice_get, sym, ap, ap₂, ◌∙◌, arith, slice_get-get_or, texts_in, looked_up}
use Rattle.vcd_compare.proofs.Facts.{looked_next}
use Rattle.vcd_compare.proofs.counterparts.node_inside.Goals as goal

pub returns-then-last-part : goal.returns-then-last-part
returns-then-last-part c = λ texts has.
    let nodes = c.args.paths.now.nodes.keys in
    let m = c.in_ok-around.around in
    let k = c.args.part in
    let place : c.args.place ≡ Some m = c.in_ok-around.was in
    let key : c.key_at-first.result ≡ (m, k) = ap₂ (λ (a b : ℕ). (a, b)) c.if-first-around.true c.if-last-part.true in
    let at : slice_get nodes m ≡ Some (m, k) = slice_get-get_or nodes m (0, 0) (omega (arith, c.if-around-len.true, c.len.ensures.len)) ∙ ap Some (sym c.key_at-first.ensures ∙ key) in
    place ∙ sym (looked_next (texts_in c.args.paths.now.parts) nodes texts has m k at) ∙ ap (looked_up nodes k) (sym place)
