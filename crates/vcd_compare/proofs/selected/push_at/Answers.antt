use Rattle.vcd_compare.proofs.Cited.{◌++◌, ◌∷◌, [], ℕ, List, set, sym, ap, ◌∙◌, Vec, arith, lists_in}
use Rattle.std.proofs.lemmas.List.{get_or-map, map-set}
use Rattle.vcd_compare.proofs.selected.push_at.Goals as goal

abbrev items_of : Vec ℕ → List ℕ
items_of v = v.items

pub returns-in_ok-push : goal.returns-in_ok-push
returns-in_ok-push c =
    let lists = c.args.lists.now.items in
    let at = c.args.at in
    let v = c.index_mut.ensures.value in
    map-set items_of lists at c.push.new.self ∙ ap (set (lists_in lists) at) (c.in_ok-push.ensures.items
    ∙ ap (λ l. l ++ c.args.number ∷ []) (ap items_of v ∙ sym (get_or-map items_of lists at c.index_mut.result.now [] (omega arith))))
