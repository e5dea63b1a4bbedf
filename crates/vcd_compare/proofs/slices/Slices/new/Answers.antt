use Rattle.vcd_compare.proofs.Cited.{map, ap, Vec}
use Rattle.vcd_compare.proofs.Facts.{slices_none}
use Rattle.vcd_compare.proofs.slices.Slices.new.Goals as goal

pub returns : goal.returns
returns c = λ texts. slices_none _ texts c.with_hasher-2.ensures.empty (ap (map (λ (v : Vec _). v.items)) c.with_hasher.ensures.empty)
