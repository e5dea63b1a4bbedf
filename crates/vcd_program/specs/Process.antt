-- A process as a host: what is read of its files and of its standard input, and what is opened.
use Rattle.std.specs.Prelude.{◌≡◌, ◌≢◌, ◌≤◌, ℕ, Bool, true, false, IfSome, List, [], ◌∷◌, length, Option, Some, None, Result, Ok, Err}
use Rattle.std.specs.IoError.{error_kind}
pub use Rattle.std.specs.declared.io.Error.{Error}
use Rattle.std.specs.declared.io.ErrorKind.TheVariants as kind
use Rattle.vcd_text.specs.declared.device.Watch.{Watch}
pub use Rattle.vcd_words.specs.declared.job.UseFault.{UseFault}
use Rattle.vcd_host.specs.declared.host.OpenFault.{OpenFault}
use Rattle.vcd_host.specs.declared.host.OpenFault.TheVariants.{Unopened, OutOfMemory}
use Rattle.vcd_program.specs.declared.process.ProcessHost.{ProcessHost}
use Rattle.vcd_program.specs.declared.process.Stream.{Stream}
use Rattle.vcd_program.specs.declared.process.Stream.TheVariants.{File, Input, Refused}

-- if the bytes are known, and so is this number, they are at most that many
abbrev pub GivesAtMost : Option (List ℕ) → Option ℕ → Type 0
GivesAtMost bytes most = IfSome bytes (λ text. IfSome most (λ n. length text ≤ n))

-- The bytes that reads of an input give from here on, if those of its file or of standard input are
-- known. Of `Refused` it is one byte, which no read gives, so that no read can be at its end.
abbrev pub bytes_left : {F I : Type 0} → (F → Option (List ℕ)) → (I → Option (List ℕ)) → Stream F I → Option (List ℕ)
bytes_left of_file of_input (File file) = of_file file.device
bytes_left of_file of_input (Input input) = of_input input.device
bytes_left of_file of_input Refused = Some (0 ∷ [])

-- what is read for an input: in a process without random numbers nothing of it
abbrev pub read_as : {F I : Type 0} → Bool → Stream F I → Stream F I
read_as true stream = stream
read_as false stream = Refused

-- In what follows `opens` says what a process may return for the name of a file, and `gives` what it
-- may return as its standard input, and what that leaves of it.

-- What is opened in a process that was `old` and is `new`: the file of this name if there is a
-- name, otherwise standard input. That is one call, since nothing else can change a process.
abbrev pub OpensInput : {P F I : Type 0} → (P → List ℕ → Result F Error → P → Type 0) → (P → I → P → Type 0) → (seeded : Bool) → (old : P)
    → Option (List ℕ) → Result (Watch (Stream F I)) OpenFault → (new : P) → Type 0
OpensInput opens gives seeded old None (Ok watch) new = (input : _) × gives old input new × (watch.device ≡ read_as seeded (Input (record { device = input })))
OpensInput opens gives seeded old None (Err fault) new = ⊥
OpensInput opens gives seeded old (Some name) (Ok watch) new = (file : _) × opens old name (Ok file) new × (watch.device ≡ read_as seeded (File (record { device = file })))
OpensInput opens gives seeded old (Some name) (Err Unopened) new = (error : Error) × opens old name (Err error) new × (error_kind error ≢ kind.OutOfMemory)
OpensInput opens gives seeded old (Some name) (Err OutOfMemory) new = (error : Error) × opens old name (Err error) new × (error_kind error ≡ kind.OutOfMemory)

-- it is the host of this process, and has random numbers or none
abbrev pub IsHostOf : {P : Type 0} → (ghost_name : ℕ) → (seeded : Bool) → ProcessHost P → Type 0
IsHostOf ghost_name seeded host = (host.process.ghost_name ≡ ghost_name) × (host.is_seeded ≡ seeded)

-- an input is opened in the process of a host
abbrev pub OpensOn : {P F I : Type 0} → (P → List ℕ → Result F Error → P → Type 0) → (P → I → P → Type 0) → ProcessHost P → Option (List ℕ)
    → Result (Watch (Stream F I)) OpenFault → ProcessHost P → Type 0
OpensOn opens gives old name result new = OpensInput opens gives old.is_seeded old.process.now name result new.process.now × IsHostOf old.process.ghost_name old.is_seeded new
