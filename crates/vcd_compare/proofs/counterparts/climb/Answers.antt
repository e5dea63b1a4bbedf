use Rattle.vcd_compare.proofs.Cited.{◌≡◌, ◌≢◌, ◌-◌, ◌++◌, ◌∷◌, [], ℕ, min, refl, sym, ap, subst, ◌∙◌, arith, texts_in, node_at, Climbs, IsBelow, IsNumberOf}
use Rattle.vcd_compare.proofs.Facts.{climbs_on}
use Rattle.vcd_compare.proofs.counterparts.climb.Goals as goal

pub loop-number-init : goal.loop-number-init
loop-number-init c = λ n texts has own below. (subst (λ l. Climbs c.args.paths.now.nodes.keys n texts c.args.from l c.args.from) (sym c.clear.ensures.items) refl, below)

pub loop-number-preserved : goal.loop-number-preserved
loop-number-preserved c = λ n texts has own below.
    let nodes = c.args.paths.now.nodes.keys in
    let m = c.loop-number.number in
    let ms = c.loop-number.climbed.items in
    let s = c.loop-number.invariant n texts has own below in
    let other : s.1.0 ≢ n.0 = λ e. c.if-number_at-turn.true (c.number_at.ensures ∙ own m (subst (IsNumberOf texts m) e s.1.1)) in
    let next = climbs_on (texts_in c.args.paths.now.parts) nodes texts has n c.args.from m ms s.1 other s.0 in
    let same : c.min-number.result ≡ min (node_at nodes m).0 (m - 1) = c.min-number.ensures ∙ ap (λ (x : ℕ × ℕ). min x.0 (m - 1)) c.node_at-around.ensures in
    subst (λ l. Climbs nodes n texts c.args.from l c.min-number.result × IsBelow n texts c.min-number.result) (sym c.in_ok-push.ensures.items)
    (subst (λ up. Climbs nodes n texts c.args.from (ms ++ m ∷ []) up × IsBelow n texts up) (sym same) next)

pub returns-else-number_at-turn : goal.returns-else-number_at-turn
returns-else-number_at-turn c = λ n texts has own below. (c.loop-number.number, (c.loop-number.invariant n texts has own below).0, sym c.number_at.ensures ∙ c.if-number_at-turn.false)

pub returns-after-loop-number : goal.returns-after-loop-number
returns-after-loop-number c = λ n texts has own below.
    let is = (c.loop-number.invariant n texts has own below).1.1 in
    let e = is.1 in
    absurd (omega (arith, e, c.loop-number-test.false))
