use Rattle.vcd_compare.proofs.Cited.{◌≤◌, not, ℕ, suc, List, length, get_or, slice_get-get_or, sym, ap, subst, ◌∙◌, add-one, arith, Vec, IsNth, selected_in}
use Rattle.vcd_compare.proofs.Facts.{AloneBefore, alone_all, alone_one, alone_same, named_row, same_len, zip_from}
use Rattle.vcd_compare.proofs.pairs.add_alone.Goals as goal
use Rattle.vcd_compare.proofs.pairs.add_alone.Goals.{else-is_none, then-is_none+in_ok-push}

pub loop-index-preserved : goal.loop-index-preserved
loop-index-preserved c = λ q h n texts others finds selected all.
    let i = c.loop-index.index-index in
    let list = c.args.selected.now in
    let index = get_or list i 0 in
    let rows = c.args.variables.now.rows.items in
    let old = c.loop-index.alone.items in
    let s = c.loop-index.invariant q h n texts others finds selected all in
    let v = zip_from (IsNth h) list (selected_in q h n) i index selected (slice_get-get_or list i 0 (omega arith)) in
    let place = c.counterpart_of.ensures q h n texts i v.0 finds v.2 v.1 in
    let next : AloneBefore q h n others c.if-is_none.alone.items (suc i) = elim c.if-is_none.branch [
      | then-is_none+in_ok-push w ↦
          let row = named_row h rows index w.number_at.result v.0 finds.are.rows v.2 (w.number_at.ensures ∙ ap (λ (l : List ℕ). get_or l index 0) w.deref.ensures.value) in
          subst (λ a. AloneBefore q h n others a (suc i)) (sym (ap (λ (a : Vec ℕ). a.items) w.alone-is ∙ w.in_ok-push.ensures.items))
          (alone_one q h n others old i w.number_at.result v.0 c.counterpart_of.result v.1 place
          (ap not (c.is_none.ensures ∙ ap not w.if-is_none.true)) row s)
      | else-is_none w ↦ subst (λ a. AloneBefore q h n others a (suc i)) (sym (ap (λ (a : Vec ℕ). a.items) w.alone-is))
          (alone_same q h n others old i v.0 c.counterpart_of.result v.1 place (ap not (c.is_none.ensures ∙ ap not w.if-is_none.false)) s)
    ] in
    subst (AloneBefore q h n others c.if-is_none.alone.items) (sym (add-one i)) next

pub returns : goal.returns
returns c = λ q h n texts others finds selected all.
    let len = same_len (IsNth h) c.args.selected.now (selected_in q h n) selected in
    let past : length (selected_in q h n) ≤ c.loop-index.index-index = omega (arith, len) in
    alone_all q h n others c.loop-index.alone.items c.loop-index.index-index past (c.loop-index.invariant q h n texts others finds selected all)
