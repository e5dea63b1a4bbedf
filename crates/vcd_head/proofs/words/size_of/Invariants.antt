use Rattle.vcd_head.proofs.Cited.{◌≡◌, true, min, take, list_all, is_ascii_digit, decimal_value}
use Rattle.vcd_head.proofs.words.size_of.Given as goal

abbrev pub invariant-loop-digit : goal.invariant-loop-digit
invariant-loop-digit l = (l.size ≡ min (decimal_value (take l.digit-index l.token)) 16777216) × (list_all is_ascii_digit (take l.digit-index l.token) ≡ true)
