use Rattle.vcd_head.proofs.Cited.{◌<◌, ◌++◌, ◌∙◌, length, map, set, take, drop, get_or, ap, sym, arith, add-one, position_in_rank}
use Rattle.vcd_head.proofs.Facts.{place_left}
use Rattle.vcd_head.proofs.index.ranks_to_indexes.Goals as goal

pub loop-rank-preserved : goal.loop-rank-preserved
loop-rank-preserved c =
    let at = c.loop-rank.rank-index in
    let ranks = c.args.ranks.now in
    let below : at < length ranks = omega (arith, c.loop-rank-test.true, c.loop-rank.auto.ranks) in
    ap (λ l. set l at (position_in_rank (get_or l at 0))) c.loop-rank.invariant ∙ place_left position_in_rank ranks at below
    ∙ ap (λ n. map position_in_rank (take n ranks) ++ drop n ranks) (sym (add-one at))
