use Rattle.vcd_changes.proofs.Cited.{◌≡◌, take, is_known, is_one, number_where}
use Rattle.vcd_changes.proofs.digits.digits_of.Given as goal

-- the numbers of the digits before this index
abbrev pub invariant-loop-digit : goal.invariant-loop-digit
invariant-loop-digit l = (l.value ≡ number_where is_one (take l.digit-index l.last)) × (l.known ≡ number_where is_known (take l.digit-index l.last))
