-- Why a run ends before it is done, and which calls of its devices failed.
use Rattle.std.specs.Prelude.{◌≡◌, ◌≢◌, ℕ, ◌+◌, ◌<◌, Bool, true, List, length, map, slice_get, slice_set, slice_index, Option, Some, None, Result, Ok, Err}
use Rattle.vcd_job.specs.Cited.{Device, failures_then, fault_number, HeadFault, Done, Stop, Dump, Read, Write}
use Rattle.vcd_job.specs.declared.failure.Failure.{Failure}
use Rattle.vcd_job.specs.declared.failure.Failure.TheVariants.{Stopped, OutOfMemory}
use Rattle.vcd_head.specs.declared.fault.HeadFault.TheVariants as head_fault

-- the fault of the header of the input at this index, at this line
abbrev pub head_failure : HeadFault → ℕ → ℕ → Failure
head_failure head_fault.ReadFailed input line = Stopped (Read input)
head_failure head_fault.OutOfMemory input line = OutOfMemory
head_failure fault input line = Stopped (Dump input line (fault_number fault))

-- the stop of a task whose only input has this index
abbrev pub stop_failure : Stop → ℕ → Failure
stop_failure (Dump only line fault) input = Stopped (Dump input line fault)
stop_failure (Read only) input = Stopped (Read input)
stop_failure stop input = Stopped stop

-- the end of a run whose merge returned this
abbrev pub merge_end : Result Done Stop → Result Done Failure
merge_end (Ok done) = Ok done
merge_end (Err stop) = Err (Stopped stop)

-- why a call failed, if it did
abbrev pub failure_of : {A : Type 0} → Result A Failure → Option Failure
failure_of (Ok done) = None
failure_of (Err failure) = Some failure

-- ---- the devices

-- a read of the reader at this index failed if the failure says so and names this index
abbrev pub CountsRead : (place before after : ℕ) → Option Failure → Type 0
CountsRead place before after (Some (Stopped (Read input))) = (input ≡ place) × (after ≡ before + 1)
CountsRead place before after why = after ≡ before

-- the same for all readers: only the one at the index that the failure names had a failed read
abbrev pub CountsReads : (before after : List ℕ) → Option Failure → Type 0
CountsReads before after (Some (Stopped (Read input))) = (input < length before) × (after ≡ slice_set before input (slice_index before input + 1))
CountsReads before after why = after ≡ before

-- a failed read was the last one of its reader; `last_failed` says whether the last one failed
abbrev pub EndsAtRead : Bool → Option Failure → Type 0
EndsAtRead last_failed why = (input : ℕ) → why ≡ Some (Stopped (Read input)) → last_failed ≡ true

-- the same for all readers, by the one that the failure names
abbrev pub EndsAtReadOf : List Bool → Option Failure → Type 0
EndsAtReadOf last_failed why = (input : ℕ) → why ≡ Some (Stopped (Read input)) → slice_get last_failed input ≡ Some true

-- how many writes of the output failed
abbrev pub writes_failed : Option Failure → ℕ
writes_failed (Some (Stopped Write)) = 1
writes_failed why = 0

-- if a read failed, the output keeps nothing back, unless it did so before: so what was due before
-- the read is with its reader
abbrev pub HasPassedOn : {W : Type 0} → (kept_back : W → ℕ) → W → W → Option Failure → Type 0
HasPassedOn kept_back out out' why = (input : ℕ) → why ≡ Some (Stopped (Read input)) → kept_back out ≡ 0 → kept_back out' ≡ 0

-- the same of a run over these readers, by what they say of themselves
abbrev pub PassesOn : {X W : Type 0} → (failures : X → ℕ) → (kept_back : W → ℕ) → (old new : List X) → W → W → Type 0
PassesOn failures kept_back old new out out' = map failures new ≢ map failures old → kept_back out ≡ 0 → kept_back out' ≡ 0

-- ---- the devices themselves

-- a call failed with a failed read of this reader if its failure says so of the reader at this
-- index
abbrev pub CountsAt : {X A : Type 0} → (X → ℕ) → ℕ → X → X → Result A Failure → Type 0
CountsAt failures place old new result = CountsRead place (failures old) (failures new) (failure_of result)

-- the same for these readers
abbrev pub CountsReadsOf : {X : Type 0} → (X → ℕ) → (old new : List X) → Option Failure → Type 0
CountsReadsOf failures old new why = CountsReads (map failures old) (map failures new) why

-- this many writes of this sink failed, the last one among them
abbrev pub CountsWrites : {W : Type 0} → (W → Device) → W → W → ℕ → Type 0
CountsWrites device old new count = failures_then count (device new) ≡ (device old).failures + count
