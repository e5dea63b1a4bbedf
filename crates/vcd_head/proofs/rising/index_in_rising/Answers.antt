use Rattle.vcd_head.proofs.Cited.{◌≡◌, ◌∙◌, ℕ, Option, Result, Some, None, Ok, Err, MatchResult, sym, arith}
use Rattle.vcd_head.proofs.Facts.{last_is, place_above, place_searched}
use Rattle.std.specs.Result.{result_ok}
use Rattle.vcd_head.proofs.rising.index_in_rising.Goals as goal

pub returns-then-key-last_rising : goal.returns-then-key-last_rising
returns-then-key-last_rising c = λ h. sym (place_above c.args.key c.args.rising.now h (omega (arith, last_is c.args.rising.now, c.last_rising.ensures)))

ok_is : (p : Option ℕ) (r : Result ℕ ℕ) → MatchResult r (λ i. p ≡ Some i) (λ _. p ≡ None) → result_ok r ≡ p
ok_is p (Ok i) e = sym e
ok_is p (Err i) e = sym e

pub returns : goal.returns
returns c = λ h. c.ok.ensures.value ∙ ok_is _ _ (place_searched c.args.key c.args.rising.now c.binary_search.result h c.binary_search.ensures.position)
