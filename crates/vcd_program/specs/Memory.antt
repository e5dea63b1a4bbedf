-- A host in memory: what a call of `open` leaves, and what a program leaves over it, which is the
-- whole of the definitions.
use Rattle.std.specs.Prelude.{◌≡◌, ◌≢◌, ◌⊎◌, ◌==◌, ℕ, true, cond, List, [], ◌∷◌, ◌++◌, codes, map, Option, Some, None, option_map, string_bytes, Result, Ok, Err}
use Rattle.std.specs.Str.{bytes_eq}
use Rattle.clap.specs.Words.{HasMatchesOf, IsAmong, Text, fault_of, takes}
use Rattle.clap.specs.declared.error.kind.ErrorKind.{ErrorKind}
use Rattle.clap.specs.declared.error.kind.ErrorKind.TheVariants as kind
use Rattle.clap.specs.declared.parser.matches.ArgMatches.{ArgMatches}
use Rattle.vcd_model.specs.Outcome.{Outcome, shown_message}
use Rattle.vcd_text.specs.Answer.{whole}
use Rattle.vcd_words.specs.Words.{parse_status_of}
use Rattle.vcd_words.specs.declared.job.UseFault.{UseFault}
use Rattle.vcd_words.specs.declared.job.UseFault.TheVariants as use_fault
use Rattle.vcdkit.specs.Message.{unopened_outcome}
use Rattle.vcd_host.specs.Opens.{called}
pub use Rattle.vcd_host.specs.Fills.{Fills}
use Rattle.vcd_program.specs.declared.program.Program.{Ghosts}
use Rattle.vcd_host.specs.declared.host.OpenFault.{OpenFault}
use Rattle.vcd_host.specs.declared.host.OpenFault.TheVariants.{Unopened, OutOfMemory}
use Rattle.vcd_text.specs.declared.device.Bytes.{Bytes}
use Rattle.vcd_program.specs.declared.memory.Left.{Left}
use Rattle.vcd_program.specs.declared.memory.Memory.{Memory}
use Rattle.vcd_program.specs.declared.memory.MemoryFile.{MemoryFile}

-- ---- one call

-- the bytes of the first of these files that has this name, if there is one
abbrev pub bytes_named : List MemoryFile → Text → Option Text
bytes_named [] name = None
bytes_named (file ∷ files) name = cond (bytes_eq file.name.now name) (Some file.bytes.now) (bytes_named files name)

-- the bytes of an input among these files, if there is one: of standard input, which has no name,
-- or of the file of this name
abbrev pub bytes_among : List MemoryFile → (input : Text) → Option Text → Option Text
bytes_among files input None = Some input
bytes_among files input (Some name) = bytes_named files name

abbrev pub bytes_in : Memory → Option Text → Option Text
bytes_in m name = bytes_among m.files.now m.input.now name

-- the names that were noted
abbrev pub noted : Memory → List (Option Text)
noted m = map (λ name. option_map string_bytes name) m.opened.items

-- it has the files and the input that it had
pub record SameFiles (old new : Memory) : Type 0 where
  pub files_are : new.files ≡ old.files
  pub input_is : new.input ≡ old.input

-- the name was noted, and what is returned are its bytes, or that there are none; or memory ran out
-- for the note
abbrev pub OpensIn : Memory → Option Text → Result Bytes OpenFault → Memory → Type 0
OpensIn old name (Ok bytes) new = SameFiles old new × (noted new ≡ noted old ++ name ∷ []) × (bytes_in old name ≡ Some bytes.rest.now)
OpensIn old name (Err Unopened) new = SameFiles old new × (noted new ≡ noted old ++ name ∷ []) × (bytes_in old name ≡ None)
OpensIn old name (Err OutOfMemory) new = SameFiles old new

-- ---- a whole run

-- what is left: the names of what was opened or tried, in order, the bytes on both streams, and the
-- status
pub record End : Type 0 where
  pub opened : List (Option Text)
  pub output : Text
  pub message : Text
  pub status : ℕ

abbrev pub end_of : Left → End
end_of left = record {
  opened = map (λ name. option_map string_bytes name) left.opened.items;
  output = left.output.items;
  message = left.message.items;
  status = left.status;
}

-- this was opened or tried, and this outcome of the program of this name was left
pub record IsLeft (program : Text) (left : End) (names : List (Option Text)) (o : Outcome) : Type 0 where
  pub opened : left.opened ≡ names
  pub output : left.output ≡ o.output
  pub message : left.message ≡ shown_message program o.message
  pub status : left.status ≡ o.status

-- nothing was opened, and this text of a parse of this kind was left: help and the version as the
-- output, all else as the message
pub record IsAnswered (left : End) (why : ErrorKind) (text : Text) : Type 0 where
  pub opened : left.opened ≡ []
  pub output : left.output ≡ cond (parse_status_of why == 0) text []
  pub message : left.message ≡ cond (parse_status_of why == 0) [] text
  pub status : left.status ≡ parse_status_of why

-- the texts of these inputs are these
abbrev pub HaveTexts : List MemoryFile → (input : Text) → List (Option Text) → List Text → Type 0
HaveTexts files input names texts = map (λ name. bytes_among files input name) names ≡ map (λ text. Some text) texts

-- What is left of words that were parsed, of a program that says this of itself: over files that are
-- all there the outcome of the words and of their bytes. If the words ask for no job, nothing was
-- opened; if a file is not there, those before it were.
pub data IsLeftOf {P J : Type 0} (p : Ghosts P J) (matches : ArgMatches) (files : List MemoryFile) (input : Text) (left : End) : Type 0 where
  Refused : (fault : UseFault) (is : p.asks matches (Err fault)) (of_words : fault ≢ use_fault.OutOfMemory)
      (leaves : IsLeft p.name left [] (p.outcome matches [] [])) → IsLeftOf p matches files input left
  Ran : (job : J) (is : p.asks matches (Ok job)) (texts : List Text) (have : HaveTexts files input (p.inputs matches) texts)
      (leaves : IsLeft p.name left (p.inputs matches) (p.outcome matches (map called (p.inputs matches)) (map whole texts)))
      → IsLeftOf p matches files input left
  Stopped : (job : J) (is : p.asks matches (Ok job)) (before after : List (Option Text)) (name : Option Text)
      (order : p.inputs matches ≡ before ++ name ∷ after) (texts : List Text) (have : HaveTexts files input before texts)
      (missing : bytes_among files input name ≡ None) (leaves : IsLeft p.name left (before ++ name ∷ []) (unopened_outcome (called name))) → IsLeftOf p matches files input left

-- memory ran out: no output, and a line
pub record IsOutOfMemory (program : Text) (left : End) : Type 0 where
  pub output : left.output ≡ []
  pub message : left.message ≡ shown_message program (codes "out of memory")
  pub status : left.status ≡ 3

-- what is left of any words, the program's name first
pub data IsLeftBy {P J : Type 0} (p : Ghosts P J) (words : List Text) (files : List MemoryFile) (input : Text) (left : End) : Type 0 where
  Parsed : (matches : ArgMatches) (is : HasMatchesOf p.app words matches) (leaves : IsLeftOf p matches files input left) → IsLeftBy p words files input left
  NoMatches : (why : ErrorKind) (is : (why ≡ kind.OutOfMemory) ⊎ IsAmong why (fault_of p.app words)) (only : takes p.app words ≡ true
      → why ≡ kind.OutOfMemory) (other : why ≢ kind.OutOfMemory) (text : Text)
      (leaves : IsAnswered left why text) → IsLeftBy p words files input left
  NoMemory : (fails : IsOutOfMemory p.name left) → IsLeftBy p words files input left

-- this output, this message and this status are left
abbrev pub IsLeftAs : {P J : Type 0} → Ghosts P J → List Text → List MemoryFile → (input output message : Text) → (status : ℕ) → Type 0
IsLeftAs p words files input output message status = (opened : List (Option Text)) × IsLeftBy p words files input (record { opened = opened; output = output; message = message; status = status })

-- ---- the same in bytes that were lent

-- What is left of any words, the program's name first, if output and message went to bytes that
-- were lent: each of the two as far as there is room for it, and how long it is.
pub record IsLeftIn {P J : Type 0} (p : Ghosts P J) (words : List Text) (files : List MemoryFile) (input out : Text) (output : ℕ) (err : Text) (message : ℕ) (status : ℕ) : Type 0 where
  pub left : End
  pub is_left : IsLeftBy p words files input left
  pub on_out : Fills out output left.output
  pub on_err : Fills err message left.message
  pub status_is : status ≡ left.status
