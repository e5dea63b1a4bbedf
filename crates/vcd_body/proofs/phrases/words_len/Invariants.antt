use Rattle.vcd_body.proofs.Cited.{◌≡◌, ℕ, ◌-◌, List, length, Token, bytes_of, longest_of, passed_of, Passed, AreWords}
use Rattle.vcd_body.proofs.phrases.words_len.Given as goal

abbrev pub invariant-words : goal.invariant-words
invariant-words l = (bytes_of l.next ≡ bytes_of l.fn.ahead) × (longest_of l.next ≡ longest_of l.fn.ahead)
    × ((lines : ℕ) → (ts : List Token) × AreWords ts × Passed (longest_of l.fn.ahead) lines (bytes_of l.fn.ahead) (passed_of l.next) ts)

abbrev pub decreases-words : goal.decreases-words
decreases-words l = length (bytes_of l.next) - passed_of l.next
