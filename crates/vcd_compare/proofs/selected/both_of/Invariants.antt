use Rattle.vcd_compare.proofs.Cited.{◌≡◌, ◌∷◌, [], ℕ, take, flat_map}
use Rattle.vcd_compare.proofs.selected.both_of.Given as goal

abbrev pub invariant-loop-one : goal.invariant-loop-one
invariant-loop-one l = l.all.items ≡ flat_map (λ (m : ℕ × ℕ). m.0 ∷ m.1 ∷ []) (take l.one-index l.numbers)
