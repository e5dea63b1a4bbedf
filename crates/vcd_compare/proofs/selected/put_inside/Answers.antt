use Rattle.vcd_compare.proofs.Cited.{sym, subst, ◌∙◌, texts_in}
use Rattle.vcd_compare.proofs.SelectedLemmas.{IsPutting, put_all, put_none, putting_first, putting_next}
use Rattle.vcd_compare.proofs.selected.put_inside.Goals as goal

pub returns-then-number_at-ne0 : goal.returns-then-number_at-ne0
returns-then-number_at-ne0 c = λ texts names es has near left l room.
    put_none (texts_in c.args.paths.now.parts)
    c.args.paths.now.nodes.keys texts has names c.args.nearest.now near es c.args.left_out.now left c.args.around c.args.index l c.args.lists.now.items
    (λ e. c.if-number_at-ne0.true (c.number_at.ensures ∙ e))

pub loop-number-init : goal.loop-number-init
loop-number-init c = λ texts names has near l room.
    putting_first (texts_in c.args.paths.now.parts)
    c.args.paths.now.nodes.keys texts has names c.args.nearest.now near c.args.around c.args.index c.number_at-number.result c.args.lists.now.items l c.number_at-number.ensures

pub loop-number-preserved : goal.loop-number-preserved
loop-number-preserved c = λ texts names has near l room.
    let s = c.loop-number.invariant texts names has near l room in
    let some = c.loop-number-test.true in
    putting_next (texts_in c.args.paths.now.parts)
    c.args.paths.now.nodes.keys texts has names c.args.nearest.now near c.args.around c.args.index c.loop-number.number c.number_above-number.result c.args.lists.now.items c.loop-number.lists.items c.push_at.new.lists.items
    room some c.number_above-number.ensures.is c.in_ok-push_at.ensures s

pub returns : goal.returns
returns c = λ texts names es has near left l room.
    let parts = texts_in c.args.paths.now.parts in
    let nodes = c.args.paths.now.nodes.keys in
    let s = c.loop-number.invariant texts names has near l room in
    put_all parts nodes texts has names c.args.nearest.now near es c.args.left_out.now left c.args.around c.args.index l c.args.lists.now.items c.loop-number.lists.items
    (sym c.number_at.ensures ∙ c.if-number_at-ne0.false)
    (subst (λ m. IsPutting parts nodes texts has names c.args.nearest.now near c.args.around c.args.index m c.args.lists.now.items c.loop-number.lists.items) c.loop-number-test.false s)
