use Rattle.vcd_merge.proofs.Cited.{refl}
use Rattle.vcd_merge.proofs.Facts.{section_taken}
use Rattle.vcd_merge.proofs.merging.MergingVisitOptionU64.take_section.Goals as goal

pub returns-clause-takes : goal.returns-clause-takes
returns-clause-takes g c = λ a a' item. section_taken _ _ _ c.args._section item c.requires.section c.requires.after refl refl refl
