use Rattle.vcd_merge.proofs.Cited.{◌*◌, ◌^◌, refl, leb-false}
use Rattle.vcd_merge.proofs.Facts.{mark_taken}
use Rattle.vcd_merge.proofs.merging.MergingVisitOptionU64.take_timestamp.Goals as goal

pub returns-clause-takes : goal.returns-clause-takes
returns-clause-takes c = λ a a' out item.
    let fits = leb-false (2 ^ 64) (c.args.time * c.args.self.now.factor) c.requires.no_stop in
    mark_taken _ _ _ c.args._timestamp item c.args.time c.requires.time fits (record { factor = refl; first = refl; before = refl }) refl refl refl refl
