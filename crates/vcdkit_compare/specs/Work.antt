-- What a comparison over one input is, as a job.
use Rattle.std.specs.Prelude.{◌≡◌, ℕ, List, [], codes, slice_get, Option, Some, None, option_map, unwrap_or, Result, Ok, Err}
use Rattle.vcd_model.specs.Compare.{Asked, fault_after}
use Rattle.vcd_model.specs.Header.{Header}
use Rattle.vcd_model.specs.Input.{Input}
use Rattle.vcd_model.specs.Outcome.{Outcome}
use Rattle.vcd_model.specs.Within.{Names, answer_in, at_end, comparison, late, outermost, refused, unselected}
use Rattle.vcd_run.specs.Outcomes.{Ways}
use Rattle.vcd_compare.specs.Run.{plan_within}
use Rattle.vcd_compare.specs.declared.unselected.PairsFault.{PairsFault}
use Rattle.vcd_compare.specs.declared.unselected.PairsFault.TheVariants.{One, Other, Exception, OutOfMemory}
use Rattle.vcd_compare_words.specs.Asked.{asked_in}
use Rattle.vcd_compare_words.specs.declared.job.Comparing.{Comparing}
use Rattle.vcd_job.specs.Work.{Course, Work, outcome_of}
use Rattle.vcdkit_compare.specs.declared.job.Refusal.{Refusal}
use Rattle.vcdkit_compare.specs.declared.job.Refusal.TheVariants.{Unselected, Late}

-- the name of the program
abbrev pub program_name : List ℕ
program_name = codes "vcdkit-compare"

-- ---- what is done

-- an outcome by its lines, over an input of this name: a dump that ends before the first time gives
-- no count
abbrev pub ways_of : Asked → Header → List Names → List ℕ → Ways
ways_of q h ns name = record { early = answer_in q h ns; well = λ items lines. at_end q h ns items lines; faulty = λ lines fault. fault_after lines name fault }

-- what is done with a body if each name selects something
abbrev pub course_of : Asked → List Names → List ℕ → Header → Course
course_of q ns name h = record { plan = plan_within q h ns; ways = ways_of q h ns name }

-- a name that selects nothing is refused; otherwise each pair is compared once
abbrev pub course_if : Option (List ℕ) → Asked → List Names → List ℕ → Header → Result Course Outcome
course_if (Some one) q ns name h = Err (refused one)
course_if None q ns name h = Ok (course_of q (outermost ns) name h)

-- a fault has status 2
abbrev pub work_of : Asked → List Names → Work
work_of q ns = record { course = λ name h. course_if (unselected q h ns) q ns name h; faulty = 2 }

-- its outcome is that of the definitions
abbrev pub WorkIsComparison : Type 0
WorkIsComparison = (q : Asked) (limit : ℕ) (ns : List Names) (name : List ℕ) (i : Input) → outcome_of (work_of q ns) limit name i ≡ comparison q limit ns name i

-- ---- a job of the program

-- what a job asks for, and its names
abbrev pub query_of : Comparing → Asked
query_of job = (asked_in job).0

abbrev pub names_of : Comparing → List Names
names_of job = (asked_in job).1

abbrev pub work_in : Comparing → Work
work_in job = work_of (query_of job) (names_of job)

-- the name that a fault is about, empty if there is none
abbrev pub name_of : Comparing → PairsFault → List ℕ
name_of job (One i) = unwrap_or (option_map (λ n. n.0) (slice_get (names_of job) i)) []
name_of job (Other i) = unwrap_or (option_map (λ n. n.1) (slice_get (names_of job) i)) []
name_of job (Exception i) = unwrap_or (slice_get (query_of job).exceptions i) []
name_of job OutOfMemory = []

-- what is said of a refusal
abbrev pub refusal_of : Comparing → Refusal → Outcome
refusal_of job (Unselected fault) = refused (name_of job fault)
refusal_of job (Late last) = late (query_of job).from last []
