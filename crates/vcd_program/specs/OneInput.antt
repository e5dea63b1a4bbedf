-- What a program over one input says of itself, by its job.
use Rattle.std.specs.Prelude.{◌≡◌, List, [], ◌∷◌, Option, option_and_then, Result, Ok, Err}
use Rattle.clap.specs.Words.{Text}
use Rattle.clap.specs.declared.parser.matches.ArgMatches.{ArgMatches}
use Rattle.vcd_model.specs.Input.{Input}
use Rattle.vcd_model.specs.Outcome.{Outcome, name_at}
use Rattle.vcd_words.specs.Matches.{file_asked}
use Rattle.vcd_words.specs.declared.job.UseFault.{UseFault}
use Rattle.vcd_job.proofs.ProgramLemmas.{IsUnnamed}
use Rattle.vcd_job.specs.Message.{use_outcome}
use Rattle.vcd_job.specs.Work.{outcome_of}
use Rattle.vcd_job.specs.declared.one_input.OneInput.{Ghosts}
use Rattle.vcd_host.specs.Asked.{input_named}
use Rattle.vcd_program.specs.Leaves.{IsRefusal}

-- the only input; standard input has no name
abbrev pub only_input : ArgMatches → List (Option Text)
only_input matches = option_and_then input_named (file_asked matches) ∷ []

-- A job can be run, and this is its outcome over any input of any name. What settles it and what is
-- due do not depend on the name of the input.
abbrev pub IsJobOf : {P J R : Type 0} → Ghosts P J R → (List Text → List Input → Outcome) → J → Type 0
IsJobOf one outcome job = one.is_ready job × IsUnnamed (one.work job)
    × ((names : List Text) (left : Input) → outcome names (left ∷ []) ≡ outcome_of (one.work job) (one.limit job) (name_at names 0) left)

-- the outcome of words is that of the job that they ask for, or what is said of their fault
abbrev pub HasLaw : {P J R : Type 0} → Ghosts P J R → (asks : ArgMatches → Result J UseFault → Type 0)
    → (outcome : ArgMatches → List Text → List Input → Outcome) → Type 0
HasLaw {J = J} one asks outcome =
    ((matches : ArgMatches) (job : J) → asks matches (Ok job) → IsJobOf one (outcome matches) job)
    × ((matches : ArgMatches) (fault : UseFault) → asks matches (Err fault) → IsRefusal fault (outcome matches [] []) (use_outcome fault))
