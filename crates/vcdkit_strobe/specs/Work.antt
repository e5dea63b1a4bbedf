-- What a strobe over one input is, as a job.
use Rattle.std.specs.Prelude.{◌≡◌, ◌==◌, ℕ, cond, List, [], ◌++◌, codes, slice_get, Option, Some, None, option_map, unwrap_or, Result, Ok, Err}
use Rattle.vcd_model.specs.Compare.{fault_after}
use Rattle.vcd_model.specs.Header.{Header}
use Rattle.vcd_model.specs.Input.{Input}
use Rattle.vcd_model.specs.Outcome.{Outcome, clean_outcome, name_at}
use Rattle.vcd_model.specs.Selection.{first_unmatched}
use Rattle.vcd_model.specs.Strobe.{Clock, Strobe, at_end, clocks_of, edges_in, no_clock, no_clock_text, refused, strobe}
use Rattle.vcd_run.specs.Outcomes.{Ways}
use Rattle.vcd_strobe.specs.Strobes.{strobe_plan}
use Rattle.vcd_strobe_words.specs.Asked.{strobe_in}
use Rattle.vcd_strobe_words.specs.declared.strobing.Strobing.{Strobing}
use Rattle.vcd_job.specs.Work.{Course, Work, outcome_of}
use Rattle.vcd_job.specs.declared.answer.Answer.{Answer}
use Rattle.vcd_job.specs.declared.answer.Answer.TheVariants.{Status, Refused}
use Rattle.vcd_job.specs.Failure.{stop_failure}
use Rattle.vcd_job.specs.declared.failure.Failure.{Failure}
use Rattle.vcd_body.specs.declared.answer.Done.{Done}
use Rattle.vcd_body.specs.declared.answer.Done.TheVariants.{Early, Whole}
use Rattle.vcd_body.specs.declared.answer.Stop.{Stop}
use Rattle.vcd_strobe.specs.Named.{model_why}
use Rattle.vcd_strobe.specs.declared.named.NoClock.{NoClock as Why}
use Rattle.vcdkit_strobe.specs.declared.job.Refusal.{Refusal}
use Rattle.vcdkit_strobe.specs.declared.job.Refusal.TheVariants.{NoClock, NoEdge}

-- the name of the program
abbrev pub program_name : List ℕ
program_name = codes "vcdkit-strobe"

-- ---- what is done

-- an outcome by its text, over an input of this name
abbrev pub ways_of : List Clock → List ℕ → Ways
ways_of ks name = record {
  early = clean_outcome;
  well = λ items text. at_end name (edges_in ks items) text;
  faulty = λ text fault. fault_after text name fault;
}

-- what is said of a name with this argument, which is that of no clock
abbrev pub no_clock_line : List ℕ → Why → Outcome
no_clock_line word why = refused (word ++ codes ": " ++ no_clock_text (model_why why))

-- what is said of an input of this name without an edge
abbrev pub no_edge : List ℕ → Outcome
no_edge name = at_end name [] []

-- what is done with a body if each name of a clock selects one, and each name something
abbrev pub course_of : Strobe → List ℕ → Header → Course
course_of q name h = record { plan = strobe_plan (clocks_of h q.clocks) h q.names; ways = ways_of (clocks_of h q.clocks) name }

-- a name that selects nothing is refused
abbrev pub course_if : Option (List ℕ) → Option ℕ → Strobe → List ℕ → Header → Result Course Outcome
course_if (Some message) unmatched q name h = Err (refused message)
course_if None (Some i) q name h = Err (refused (name_at q.names i ++ codes ": selects nothing"))
course_if None None q name h = Ok (course_of q name h)

-- a fault has status 2
abbrev pub work_of : Strobe → Work
work_of q = record { course = λ name h. course_if (no_clock h q.clocks) (first_unmatched q.names h.declarations) q name h; faulty = 2 }

-- its outcome is that of the definitions
abbrev pub WorkIsStrobe : Type 0
WorkIsStrobe = (q : Strobe) (limit : ℕ) (name : List ℕ) (i : Input) → outcome_of (work_of q) limit name i ≡ strobe q limit name i

-- ---- a job of the program

abbrev pub work_in : Strobing → Work
work_in job = work_of (strobe_in job)

-- the argument of the clock's name at an index, empty if there is none
abbrev pub word_at : Strobing → ℕ → List ℕ
word_at job at = unwrap_or (option_map (λ name. name.word) (slice_get (strobe_in job).clocks at)) []

-- what is said of a refusal over an input of this name
abbrev pub refusal_of : Strobing → Refusal → List ℕ → Outcome
refusal_of job (NoClock at why) name = no_clock_line (word_at job at) why
refusal_of job NoEdge name = no_edge name

-- what is answered to a strobe that has ended so, after this many edges
abbrev pub edges_end : ℕ → Result Done Stop → Result (Answer Refusal) Failure
edges_end edges (Ok Whole) = Ok (cond (edges == 0) (Refused NoEdge) (Status 0))
edges_end edges (Ok Early) = Ok (Status 0)
edges_end edges (Err stop) = Err (stop_failure stop 0)
