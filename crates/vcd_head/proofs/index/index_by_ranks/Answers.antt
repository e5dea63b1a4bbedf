use Rattle.vcd_head.proofs.Cited.{◌≡◌, ◌∙◌, ℕ, length, map, drop, IfSome, ap, sym, subst, Vec, length-map, take_at, AreRanks, position_in_rank, IsIndex}
use Rattle.vcd_head.proofs.Facts.{ranks_made}
use Rattle.vcd_head.proofs.index.index_by_ranks.Goals as goal

pub returns : goal.returns
returns c = λ cs h.
    let sorted = c.sort_unstable.new.self in
    let positions = c.ranks_to_indexes.new.ranks in
    let ranks = c.in-Some.ranks in
    let are = subst (λ o. IfSome o (λ (r : Vec ℕ). AreRanks c.args.text.now c.args.codes.now r.items)) c.in-Some.is c.in_ok-ranks.ensures in
    let index = ranks_made c.args.text.now c.args.codes.now cs ranks.items sorted.items h are.few are.short are.numbers c.sort_unstable.ensures.permutation c.sort_unstable.ensures.sorted in
    let left : positions ≡ map position_in_rank sorted.items = c.ranks_to_indexes.ensures ∙ ap (map position_in_rank) c.deref_mut.ensures.value in
    let len : length positions ≡ sorted.len = ap length c.ranks_to_indexes.ensures ∙ length-map _ _ ∙ c.deref_mut.ensures.len in
    subst (IsIndex cs) (sym (take_at positions (drop (length positions) sorted.items) sorted.len len ∙ left)) index
