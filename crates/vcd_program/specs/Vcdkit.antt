-- What vcdkit says of itself: which words ask for which job, and what a job leaves.
use Rattle.std.specs.Prelude.{◌≡◌, ◌+◌, ℕ, Bool, true, false, List, [], Result, Ok, Err}
use Rattle.clap.specs.Words.{Text}
use Rattle.clap.specs.declared.parser.matches.ArgMatches.{ArgMatches}
use Rattle.vcd_model.specs.Input.{Input}
use Rattle.vcd_model.specs.Job.{Want}
use Rattle.vcd_model.specs.Outcome.{Outcome}
use Rattle.vcd_model.specs.Settled.{is_header_over, is_settled}
use Rattle.vcd_model.specs.Tokens.{Token}
use Rattle.vcd_model.specs.Words.{command_outcome}
use Rattle.vcd_text.specs.Device.{Device, Supply, failures_then}
use Rattle.vcd_words.specs.Job.{model_want}
use Rattle.vcd_words.specs.Words.{AsksFor, IsFaultOf, job_asked, words_used}
use Rattle.vcd_words.specs.declared.job.Job.{Job}
use Rattle.vcd_words.specs.declared.job.UseFault.{UseFault}
use Rattle.vcdkit.specs.Calls.{speech_with}
use Rattle.vcdkit.specs.Calls.{Answers}
use Rattle.vcdkit.specs.Ends.{end_message, end_status}
use Rattle.vcdkit.specs.Failure.{CountsReads, EndsAtReadOf, failure_of, writes_failed}
use Rattle.vcdkit.specs.Message.{Tells}
use Rattle.vcdkit.specs.Work.{program_name}
use Rattle.vcdkit.specs.Run.{AreInTurn, AreNeeded, AreRead}

-- the words ask for this job, or have this fault
abbrev pub Asks : ArgMatches → Result Job UseFault → Type 0
Asks matches (Ok job) = AsksFor matches job.task job.limit × (job.chunk ≡ 65536)
Asks matches (Err fault) = IsFaultOf fault (job_asked matches)

-- the outcome of the words
abbrev pub outcome_of : ArgMatches → (names : List Text) → List Input → Outcome
outcome_of matches names inputs = command_outcome (words_used matches) names inputs

-- the names that have to select something
abbrev pub names_wanted : Want → List Text
names_wanted (Want.Pick names) = names
names_wanted (Want.Sample times names) = names
names_wanted (Want.Edges names) = names
names_wanted want = []

-- Over any inputs a job that was asked for these names succeeds or fails, and says which; it fails with a failed read only if a
-- read of the input that is named failed, its last one, and none of another; likewise for a write.
abbrev pub EndsAsked : (asked names : List Text) → (before after : List ℕ) → (last_failed : List Bool) → (out out' err err' : Device) → (status : ℕ) → Type 0
EndsAsked asked names before after last_failed out out' err err' status =
    (end : _) × Answers (λ n. n ≡ 0) end × CountsReads before after (failure_of end) × (failures_then (writes_failed (failure_of end)) out' ≡ out.failures + writes_failed (failure_of end))
    × (status ≡ end_status (speech_with asked) names end) × Tells program_name err err' (end_message (speech_with asked) names end) × EndsAtReadOf last_failed (failure_of end)

abbrev pub EndsSo : Job → (names : List Text) → (before after : List ℕ) → (last_failed : List Bool) → (out out' err err' : Device) → (status : ℕ) → Type 0
EndsSo job names before after last_failed out out' err err' status = EndsAsked (names_wanted (model_want job.task)) names before after last_failed out out' err err' status

-- which first tokens settle a run; if memory ran out, those that settle the header
abbrev pub settled_by : (ended : Bool) → Want → ℕ → List Token → Bool
settled_by true want = is_settled want
settled_by false want = is_header_over

-- the inputs are what was read of each; no more was read than what settles them, and no read ran
-- ahead of the output
pub record WereRead (want : Want) (limit : ℕ) (ended : Bool) (texts : List Text) (old new : List Supply) (inputs : List Input) (out out' : Device) : Type 0 where
  pub read : AreRead (settled_by ended want) limit 65536 [] texts old new inputs
  pub needed : AreNeeded want limit 65536 old new inputs
  pub in_turn : AreInTurn want limit 65536 texts old new inputs out out'

-- the same of a job
abbrev pub Reads : Job → (ended : Bool) → (texts : List Text) → (old new : List Supply) → List Input → (out out' : Device) → Type 0
Reads job ended texts old new inputs out out' = WereRead (model_want job.task) job.limit ended texts old new inputs out out'
