use Rattle.vcd_head.proofs.Cited.{◌≡◌, ℕ, ◌<◌, ◌≤◌, length, map, range_with_len, code_bytes, rank_in}
use Rattle.vcd_head.proofs.index.ranks_of.Given as goal

abbrev pub invariant-loop-position : goal.invariant-loop-position
invariant-loop-position l = (l.ranks.items ≡ map (rank_in l.text l.codes) (range_with_len 0 l.position)) × ((p : ℕ) → p < l.position → length (code_bytes l.text l.codes p) ≤ 4)
