use Rattle.vcd_compare.proofs.Cited.{refl, sym, ◌∙◌}
use Rattle.vcd_compare.proofs.Facts.{up_found, up_next, up_none}
use Rattle.vcd_compare.proofs.outermost.is_covered.Goals as goal

pub loop-around-init : goal.loop-around-init
loop-around-init c = λ texts n ns has is keys. record { names = n; numbers = is; same = refl }

pub returns-then-contains : goal.returns-then-contains
returns-then-contains c = λ texts n ns has is keys.
    let s = c.loop-around.invariant texts n ns has is keys in
    sym (up_found texts c.loop-around.inner n ns s c.in-Some.around (c.in-Some.ensures.around texts s.names has s.numbers) c.args.all.now.keys keys (sym c.contains.ensures ∙ c.if-contains.true))

pub loop-around-preserved : goal.loop-around-preserved
loop-around-preserved c = λ texts n ns has is keys.
    let s = c.loop-around.invariant texts n ns has is keys in
    up_next texts c.loop-around.inner n ns s c.in-Some.around (c.in-Some.ensures.around texts s.names has s.numbers) c.args.all.now.keys keys (sym c.contains.ensures ∙ c.if-contains.false)

pub returns : goal.returns
returns c = λ texts n ns has is keys.
    let s = c.loop-around.invariant texts n ns has is keys in
    sym (up_none texts c.loop-around.inner n ns s (c.in_default.ensures.around texts s.names has s.numbers))
