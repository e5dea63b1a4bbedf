use Rattle.vcd_head.proofs.Cited.{◌≡◌, ◌++◌, map, take, drop, position_in_rank}
use Rattle.vcd_head.proofs.index.ranks_to_indexes.Given as goal

abbrev pub invariant-loop-rank : goal.invariant-loop-rank
invariant-loop-rank l = l.ranks ≡ map position_in_rank (take l.rank-index l.initial.ranks) ++ drop l.rank-index l.initial.ranks
