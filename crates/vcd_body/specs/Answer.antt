-- What an answer says: the fault of a body, which calls failed, and whether the run continues; and
-- what is left of an input.
use Rattle.std.specs.Prelude.{◌≡◌, ℕ, ◌+◌, ◌⊎◌, Bool, true, false, Result, Ok, Err}
use Rattle.vcd_model.specs.Input.{Clean, Input}
use Rattle.vcd_text.specs.Answer.{failed_after}
use Rattle.vcd_text.specs.Device.{Supply}
use Rattle.vcd_text.specs.ReadAhead.{HasRest}
use Rattle.vcd_body.specs.Fault.{fault_number}
use Rattle.vcd_body.specs.declared.fault.BodyFault.{BodyFault}
use Rattle.vcd_body.specs.declared.fault.BodyFault.TheVariants.{ReadFailed}
use Rattle.vcd_body.specs.declared.answer.More.{More}
use Rattle.vcd_body.specs.declared.answer.More.TheVariants.{Again}
use Rattle.vcd_body.specs.declared.answer.Stop.{Stop}
use Rattle.vcd_body.specs.declared.answer.Stop.TheVariants.{Dump, Read, Write}

-- how many reads failed
abbrev pub reads_failed : {A : Type 0} → Result A Stop → ℕ
reads_failed (Err (Read input)) = 1
reads_failed result = 0

-- a failed read is one of the input at this index
abbrev pub NamesInput : {A : Type 0} → ℕ → Result A Stop → Type 0
NamesInput position (Err (Read input)) = input ≡ position
NamesInput position result = Unit {0}

-- how many writes failed
abbrev pub writes_failed : {A : Type 0} → Result A Stop → ℕ
writes_failed (Err Write) = 1
writes_failed result = 0

-- a failed read was the last read of its source; `last_failed` says whether that failed
abbrev pub EndsAtRead : {A : Type 0} → Bool → Result A Stop → Type 0
EndsAtRead last_failed result = (input : ℕ) → result ≡ Err (Read input) → last_failed ≡ true

-- how a run stops at a fault of the body of this input at this line
abbrev pub stop_of_body : BodyFault → ℕ → ℕ → Stop
stop_of_body ReadFailed input line = Read input
stop_of_body fault input line = Dump input line (fault_number fault)

-- the answer is that the run continues
abbrev pub goes_on : Result More Stop → Bool
goes_on (Ok Again) = true
goes_on result = false

-- what is left of an input: all of it; or, if a read failed, what its source gave until then, and
-- the source still has the rest
abbrev pub IsLeft : Input → (old new : Supply) → Input → Type 0
IsLeft i old new left = ((new.failures ≡ old.failures) × (left ≡ i))
    ⊎ ((new.failures ≡ old.failures + 1) × (n : ℕ) × (left ≡ failed_after n i) × (i.mark ≡ Clean → HasRest new.rest n i))
