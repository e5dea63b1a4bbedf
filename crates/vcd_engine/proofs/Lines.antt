-- Lines that are written one after the other, up to a failed write.
use Rattle.vcd_engine.proofs.Cited.{ℕ, zero, suc, arith, ◌<◌, List, [], ◌∷◌, length, get_or, AllByRecursion}

-- what holds of all elements holds of the one at an index
pub all-at : {Z : Type 0} (P : Z → Type 0) (xs : List Z) (k : ℕ) (d : Z) → k < length xs → AllByRecursion P xs → P (get_or xs k d)
all-at P [] k d h all = absurd (omega arith)
all-at P (x ∷ xs) zero d h all = all.0
all-at P (x ∷ xs) (suc k) d h all = all-at P xs k d (omega arith) all.1
