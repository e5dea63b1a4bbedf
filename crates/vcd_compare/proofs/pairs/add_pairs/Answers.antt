use Rattle.vcd_compare.proofs.Cited.{◌≤◌, ◌++◌, length, get_or, slice_get-get_or, sym, subst, add-one, arith, IsNth, alone_at, compared_at, selected_in, unlike_at}
use Rattle.vcd_compare.proofs.Facts.{HeldBefore, held_all, held_next, places_before, same_len, zip_from}
use Rattle.vcd_compare.proofs.pairs.add_pairs.Goals as goal

pub loop-index-preserved : goal.loop-index-preserved
loop-index-preserved c = λ q h n texts compared other_kinds ones others view finds selected held.
    let i = c.loop-index.index-index in
    let list = c.args.selected.now in
    let before = places_before q h n i in
    let s = c.loop-index.invariant q h n texts compared other_kinds ones others view finds selected held in
    let v = zip_from (IsNth h) list (selected_in q h n) i (get_or list i 0) selected (slice_get-get_or list i 0 (omega arith)) in
    let more = c.in_ok-take_variable.ensures q h n texts i v.0 (compared ++ compared_at h before) (other_kinds ++ unlike_at h before) (ones ++ alone_at before) others view finds v.2 v.1 s in
    subst (HeldBefore c.take_variable.new.keys.keys c.take_variable.new.pairs q h n compared other_kinds ones others) (sym (add-one i))
    (held_next c.take_variable.new.keys.keys c.take_variable.new.pairs q h n compared other_kinds ones others i v.0 v.1 more)

pub returns : goal.returns
returns c = λ q h n texts compared other_kinds ones others view finds selected held.
    let len = same_len (IsNth h) c.args.selected.now (selected_in q h n) selected in
    let past : length (selected_in q h n) ≤ c.loop-index.index-index = omega (arith, len) in
    held_all c.loop-index.keys.keys c.loop-index.pairs q h n compared other_kinds ones others c.loop-index.index-index past
    (c.loop-index.invariant q h n texts compared other_kinds ones others view finds selected held)
