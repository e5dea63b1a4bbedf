use Rattle.vcd_body.proofs.Facts.{some_of}
use Rattle.vcd_body.proofs.ahead.vector_bits.Goals as goal

pub after_first-requires : goal.after_first-requires
after_first-requires c = let b = c.requires.begins in some_of _ _ _ b.3
