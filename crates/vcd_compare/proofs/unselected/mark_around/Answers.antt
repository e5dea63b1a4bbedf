use Rattle.vcd_compare.proofs.Cited.{◌-◌, ℕ, min, refl, sym, ap, ◌∙◌, arith, Bool, List, false, get_or, texts_in}
use Rattle.vcd_compare.proofs.Facts.{marking_first, marking_met, marking_next, marking_top}
use Rattle.vcd_compare.proofs.unselected.mark_around.Goals as goal

pub loop-number-init : goal.loop-number-init
loop-number-init c = λ texts has within. marking_first texts c.args.from c.args.held.now.items

pub loop-number-preserved : goal.loop-number-preserved
loop-number-preserved c = λ texts has within.
    let number = c.loop-number.number in
    marking_next (texts_in c.args.paths.now.parts)
    c.args.paths.now.nodes.keys texts has c.args.from within c.args.held.now.items number c.min-number.result c.loop-number.held.items _
    (λ e. omega (arith, e, c.loop-number-test.true)) (omega arith) refl
    (c.min-number.ensures ∙ ap (λ (n : ℕ × ℕ). min n.0 (number - 1)) c.node_at-around.ensures) (c.loop-number.invariant texts has within)

pub returns-else-not-is_held : goal.returns-else-not-is_held
returns-else-not-is_held c = λ texts before has within marked.
    marking_met (texts_in c.args.paths.now.parts)
    c.args.paths.now.nodes.keys texts has c.args.from within c.args.held.now.items before c.loop-number.number c.loop-number.held.items marked
    (c.loop-number.invariant texts has within) (ap (λ (l : List Bool). get_or l c.loop-number.number false) (sym c.deref.ensures.value)
    ∙ sym c.is_held.ensures ∙ c.if-not-is_held.false)

pub returns-else-number-len : goal.returns-else-number-len
returns-else-number-len c = λ texts before has within marked.
    let s = c.loop-number.invariant texts has within in
    let a = s.len in
    let b = marked.len in
    let l = s.within in
    absurd (omega (arith, a, b, l, within, c.if-number-len.false))

pub returns-after-loop-number : goal.returns-after-loop-number
returns-after-loop-number c = λ texts before has within marked.
    marking_top (texts_in c.args.paths.now.parts)
    c.args.paths.now.nodes.keys texts has c.args.from within c.args.held.now.items before c.loop-number.number c.loop-number.held.items marked
    (c.loop-number.invariant texts has within) (omega (arith, c.loop-number-test.false))
