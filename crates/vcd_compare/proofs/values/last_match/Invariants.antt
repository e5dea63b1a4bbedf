use Rattle.vcd_compare.proofs.Cited.{◌≡◌, ℕ, ◌-◌, true, List, Some, drop, length, all_match, Value, IsLaidOut, codes_shown, value_in, rule_of}
use Rattle.vcd_compare.proofs.values.last_match.Given as goal

-- the digits that were compared so far, the last ones, match
abbrev pub invariant-loop-back : goal.invariant-loop-back
invariant-loop-back l = (ds es : List ℕ) → IsLaidOut l.table → length ds ≡ l.count → length es ≡ l.count
    → value_in (codes_shown l.view) l.table l.one ≡ Some (Value.Bits ds) → value_in (codes_shown l.view) l.table l.other ≡ Some (Value.Bits es)
    → all_match (rule_of l.asked) (drop (l.count - l.back) ds) (drop (l.count - l.back) es) ≡ true
