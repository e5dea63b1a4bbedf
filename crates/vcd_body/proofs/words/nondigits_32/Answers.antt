use Rattle.vcd_body.proofs.Cited.{inl, inr}
use Rattle.vcd_body.proofs.Facts.{none_of_two}
use Rattle.vcd_body.proofs.words.nondigits_32.Goals as goal

pub returns : goal.returns
returns c = λ k less e. elim (none_of_two c.nonbinary_32.result c.known_32.result k e) [
  | inl none ↦ c.nonbinary_32.ensures.digits k less none
  | inr none ↦ c.known_32.ensures k less none
]
