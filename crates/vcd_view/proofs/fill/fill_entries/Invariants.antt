use Rattle.vcd_view.proofs.Cited.{◌≡◌, true, length, are_right}
use Rattle.vcd_view.proofs.fill.fill_entries.Given as goal

abbrev pub invariant-loop-position : goal.invariant-loop-position
invariant-loop-position l = (are_right l.text l.codes l.initial.entries ≡ true → are_right l.text l.codes l.entries ≡ true) × (length l.entries ≡ length l.initial.entries)
