use Rattle.vcd_view.proofs.Cited.{◌≡◌, length, hashed}
use Rattle.vcd_view.proofs.code_hash.CodeSeed.hashed_by_words.Given as goal

abbrev pub invariant-loop-rest : goal.invariant-loop-rest
invariant-loop-rest l = hashed l.self l.hash l.rest ≡ hashed l.self l.state l.bytes

abbrev pub decreases-loop-rest : goal.decreases-loop-rest
decreases-loop-rest l = length l.rest
