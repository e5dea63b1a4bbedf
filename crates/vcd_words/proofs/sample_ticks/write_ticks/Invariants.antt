use Rattle.vcd_words.proofs.Cited.{◌≡◌, Header, IsViewOf, all_ticks}
use Rattle.vcd_words.proofs.Facts.{so_far}
use Rattle.vcd_words.proofs.sample_ticks.write_ticks.Given as goal

abbrev pub invariant-loop-place : goal.invariant-loop-place
invariant-loop-place l = (h : Header) → IsViewOf l.fn.view h → all_ticks h.scale l.fn.numbers l.fn.units ≡ so_far h.scale l.numbers l.units l.place
