-- What is written on the error stream at each end, and the exit status.
use Rattle.std.specs.Prelude.{◌≡◌, ◌⊎◌, ℕ, List, [], ◌++◌, codes, decimal}
use Rattle.vcd_job.specs.Cited.{Outcome, name_at, shown_message, fault_text, Device, Writes, WritesSome, Stop, Dump, Read, Write, Unmatched, UseFault, use_text}
use Rattle.vcd_job.specs.declared.failure.Failure.{Failure}
use Rattle.vcd_job.specs.declared.failure.Failure.TheVariants.{Stopped, OutOfMemory}
use Rattle.vcd_words.specs.declared.job.UseFault.TheVariants as use_fault

-- the stream took the whole text, or failed once after a prefix of it; that failure is ignored
abbrev pub Shows : Device → Device → List ℕ → Type 0
Shows old new text = Writes old new text ⊎ WritesSome old new text

-- the stream shows this message of the program of this name
abbrev pub Tells : (program : List ℕ) → Device → Device → (message : List ℕ) → Type 0
Tells program old new message = Shows old new (shown_message program message)

-- the same, as far as the stream describes itself
abbrev pub ShowsOn : {E : Type 0} → (E → Device) → E → E → List ℕ → Type 0
ShowsOn device old new text = Shows (device old) (device new) text

-- this text was shown, and this is the exit status that is wanted
pub record Reports {E : Type 0} (device : E → Device) (old new : E) (text : List ℕ) (wanted answer : ℕ) : Type 0 where
  pub line : ShowsOn device old new text
  pub status : answer ≡ wanted

-- ---- a run

-- the message of a run that stops, whose inputs have these names, and which was asked for those
abbrev pub stop_message : (names asked : List (List ℕ)) → Stop → List ℕ
stop_message names asked (Dump input line fault) = name_at names input ++ codes ":" ++ decimal line ++ codes ": " ++ fault_text fault
stop_message names asked (Read input) = name_at names input ++ codes ": read failed"
stop_message names asked Write = codes "write failed"
stop_message names asked (Unmatched place) = name_at asked place ++ codes ": selects nothing"

-- the exit status of a run that stops, if a fault has this one
abbrev pub stop_status : (faulty : ℕ) → Stop → ℕ
stop_status faulty (Dump input line fault) = faulty
stop_status faulty (Read input) = 3
stop_status faulty Write = 3
stop_status faulty (Unmatched place) = faulty

-- the message of a run that fails
abbrev pub failure_message : (names asked : List (List ℕ)) → Failure → List ℕ
failure_message names asked (Stopped stop) = stop_message names asked stop
failure_message names asked OutOfMemory = codes "out of memory"

abbrev pub failure_status : (faulty : ℕ) → Failure → ℕ
failure_status faulty (Stopped stop) = stop_status faulty stop
failure_status faulty OutOfMemory = 3

-- ---- no job, or no input: there is no output

-- why there is no job
abbrev pub use_outcome : UseFault → Outcome
use_outcome use_fault.OutOfMemory = record { output = []; message = fault_text 32; status = 3 }
use_outcome fault = record { output = []; message = use_text fault; status = 2 }

-- the file of this name cannot be opened
abbrev pub unopened_outcome : List ℕ → Outcome
unopened_outcome name = record { output = []; message = name ++ codes ": cannot be opened"; status = 3 }
