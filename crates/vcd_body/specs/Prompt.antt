-- What a failed read, with which a call ends, leaves of the output.
use Rattle.std.specs.Prelude.{◌≡◌, ℕ, Result, Err}
use Rattle.vcd_body.specs.declared.answer.Stop.{Stop}
use Rattle.vcd_body.specs.declared.answer.Stop.TheVariants.{Read}

-- the sink is as it was before
abbrev pub LeavesSink : {W A : Type 0} → W → W → Result A Stop → Type 0
LeavesSink out out' result = (input : ℕ) → result ≡ Err (Read input) → out' ≡ out

-- The sink keeps no byte back (`kept_back` says how many it does). Nobody can tell before a read
-- whether it will fail: so it kept none back before any read that may wait.
abbrev pub HasPassedOn : {A : Type 0} → ℕ → Result A Stop → Type 0
HasPassedOn kept_back result = (input : ℕ) → result ≡ Err (Read input) → kept_back ≡ 0
