-- The outcome of the words is that of their job.
use Rattle.std.proofs.Common.{◌≡◌, ◌∙◌, ℕ, List, [], ◌∷◌, Option, Some, None, Result, Ok, Err, refl, sym, ap}
use Rattle.clap.specs.Words.{Text}
use Rattle.clap.specs.declared.parser.matches.ArgMatches.{ArgMatches}
use Rattle.vcd_model.specs.Input.{Input}
use Rattle.vcd_model.specs.Outcome.{Outcome, name_at}
use Rattle.vcd_model.specs.Selection.{first_unmatched}
use Rattle.vcd_model.specs.Strobe.{no_clock}
use Rattle.vcd_words.specs.declared.job.UseFault.{UseFault}
use Rattle.vcd_words.specs.declared.job.UseFault.TheVariants as use_fault
use Rattle.vcd_strobe_words.specs.Asked.{Asks, strobe_in}
use Rattle.vcd_strobe_words.specs.declared.strobing.Strobing.{Strobing}
use Rattle.vcd_job.proofs.ProgramLemmas.{IsUnnamed}
use Rattle.vcd_job.specs.Message.{use_outcome}
use Rattle.vcd_job.specs.Work.{Course, due_by, outcome_of as job_outcome, settled_by}
use Rattle.vcd_program.specs.Leaves.{IsRefusal}
use Rattle.vcdkit_strobe.specs.Program.{outcome_if, outcome_of}
use Rattle.vcdkit_strobe.specs.Work.{course_if, work_in}
use Rattle.vcdkit_strobe.proofs.WorkLemmas.{work_is_strobe}

-- what is said of a fault is the outcome of the words
pub refusal-is : (matches : ArgMatches) (f : UseFault) → Asks matches (Err f) → IsRefusal f (outcome_of matches [] []) (use_outcome f)
refusal-is matches use_fault.OutOfMemory e = tt
refusal-is matches f e = ap (λ r. outcome_if r [] []) e

-- the outcome of the words is that of their job
pub outcome-is : (job : Strobing) (matches : ArgMatches) → Asks matches (Ok job) → (names : List Text) (left : Input)
    → outcome_of matches names (left ∷ []) ≡ job_outcome (work_in job) job.limit (name_at names 0) left
outcome-is job matches asks names left = ap (λ r. outcome_if r names (left ∷ [])) asks ∙ sym (work_is_strobe (strobe_in job) job.limit (name_at names 0) left)

-- what settles it and what is due do not depend on the name of the input
pub unnamed : (job : Strobing) → IsUnnamed (work_in job)
unnamed job name h ts = by_found (no_clock h (strobe_in job).clocks) (first_unmatched (strobe_in job).names h.declarations)
  where
    by_found : (none : Option (List ℕ)) (unmatched : Option ℕ) → let course : List ℕ → Result Course Outcome = λ n. course_if none unmatched (strobe_in job) n h in
        (settled_by (course name) h ts ≡ settled_by (course []) h ts) × (due_by (course name) h ts ≡ due_by (course []) h ts)
    by_found (Some message) unmatched = (refl, refl)
    by_found None (Some i) = (refl, refl)
    by_found None None = (refl, refl)
