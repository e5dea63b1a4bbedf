-- The outcome of a body, by its first items or by all of them.
use Rattle.std.specs.Prelude.{ℕ, List}
use Rattle.std.proofs.lemmas.Bool.{false≢true}
use Rattle.vcd_model.specs.Declarations.{IdCode}
use Rattle.vcd_model.specs.Header.{Header}
use Rattle.vcd_model.specs.Strobe.{Clock}
use Rattle.vcd_model.proofs.StrobeGrows.{strobe_grows}
use Rattle.vcd_run.specs.Outcomes.{IsSound}
use Rattle.vcd_strobe.specs.Strobes.{strobe_plan}

-- no item takes a line back, and none ends a run
pub sound : (ks : List Clock) (h : Header) (names : List (List ℕ)) (codes : List IdCode) → IsSound (strobe_plan ks h names) codes
sound ks h names codes limit i front rest items more tokens is = (strobe_grows ks h names items more, λ e. absurd (false≢true e))
