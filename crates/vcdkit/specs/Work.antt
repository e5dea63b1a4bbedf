-- What a command over one input is, as a job.
use Rattle.std.specs.Prelude.{ℕ, List, codes, Option, Some, None, Result, Ok, Err}
use Rattle.vcdkit.specs.Cited.{list_text, Header, Outcome, Request, clean_outcome, fault_outcome, name_at, names_of, unmatched_outcome, first_unmatched, Ways, model_refusal, Refusal, plan_of, Course, Work}
use Rattle.vcd_model.specs.Job as model

-- the name of the program
abbrev pub program_name : List ℕ
program_name = codes "vcdkit"

-- an outcome of a request, by its output, over an input of this name
abbrev pub ways_of : List ℕ → Ways
ways_of name = record { early = clean_outcome; well = λ items text. clean_outcome text; faulty = λ text f. fault_outcome text name f }

-- what is done with a body, unless a name selects nothing
abbrev pub course_if : Option ℕ → Request → List ℕ → Header → Result Course Outcome
course_if (Some unmatched) task name h = Err (unmatched_outcome (name_at (names_of task) unmatched))
course_if None task name h = Ok (record { plan = plan_of task h; ways = ways_of name })

-- a list needs no body
abbrev pub course_of : Request → List ℕ → Header → Result Course Outcome
course_of Request.Listing name h = Err (clean_outcome (list_text h))
course_of task name h = course_if (first_unmatched (names_of task) h.declarations) task name h

-- nor do times that are refused
abbrev pub course_by : Result Request model.Refusal → List ℕ → Header → Result Course Outcome
course_by (Ok task) name h = course_of task name h
course_by (Err why) name h = Err (model.refusal_outcome name why)

-- what is wanted of one input
abbrev pub work_of : model.Want → Work
work_of want = record { course = λ name h. course_by (model.request_of h.scale want) name h; faulty = 1 }

-- what is said of times that are refused, over an input of this name
abbrev pub refusal_of : Refusal → List ℕ → Outcome
refusal_of why name = model.refusal_outcome name (model_refusal why)
