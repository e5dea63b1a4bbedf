-- A job over one input, whatever it is: what its header makes of it, and what comes of that.
use Rattle.std.specs.Prelude.{ℕ, Bool, true, false, cond, ◌==◌, List, [], ◌∷◌, Result, Ok, Err}
use Rattle.vcd_job.specs.Cited.{Header, header_of, HeaderPhrase, header_grammar, Input, Opened, Outcome, fault_in, fault_outcome, items_in, open_from, Ending, Fault, Reading, phrases_of, reading_of, AtEnd, AtFault, AtLast, Token, Ways, over_plan, Plan, due_with, is_settled_with}

-- what is done with a body, and how an outcome is made of what was written
pub record Course : Type 0 where
  pub plan : Plan
  pub ways : Ways

-- For an input of a name: what is done over a header, or the outcome if no body is needed; and the
-- status of a fault.
pub record Work : Type 0 where
  pub course : List ℕ → Header → Result Course Outcome
  pub faulty : ℕ

-- ---- the outcome

-- a fault after this output, with this status; a failed read keeps its own
abbrev pub fault_as : ℕ → List ℕ → List ℕ → Fault → Outcome
fault_as faulty output name f = let o = fault_outcome output name f in record o { status = cond (o.status == 1) faulty o.status }

-- the outcome of an input whose header is read
abbrev pub over_header : Result Course Outcome → Opened → Outcome
over_header (Ok c) o = over_plan c.plan c.ways (items_in o) (fault_in o)
over_header (Err outcome) o = outcome

abbrev pub over_opened : Work → List ℕ → List Opened → Outcome
over_opened w name [] = record { output = []; message = []; status = 0 }
over_opened w name (o ∷ os) = over_header (w.course name o.header) o

-- the outcome of an input of this name, under a token limit
unfoldable pub outcome_of : Work → ℕ → List ℕ → Input → Outcome
outcome_of w limit name input = elim (open_from limit [] (input ∷ [])) [ Ok os ↦ over_opened w name os | Err e ↦ fault_as w.faulty [] name e.1 ]

-- ---- what settles it, and what is due

-- these first tokens after the header settle it
abbrev pub settled_by : Result Course Outcome → Header → List Token → Bool
settled_by (Ok c) h ts = is_settled_with c.plan h ts
settled_by (Err outcome) h ts = true

-- what is due with these tokens after the header
abbrev pub due_by : Result Course Outcome → Header → List Token → List ℕ
due_by (Ok c) h ts = due_with c.plan h ts
due_by (Err outcome) h ts = outcome.output

-- by what a reading of the header met
abbrev pub settled_at : Work → List ℕ → Reading HeaderPhrase → Ending → Bool
settled_at w name r (AtFault fault) = true
settled_at w name r AtEnd = false
settled_at w name r AtLast = let h = header_of (phrases_of r.placed) in settled_by (w.course name h) h r.rest

abbrev pub due_at : Work → List ℕ → Reading HeaderPhrase → Ending → List ℕ
due_at w name r (AtFault fault) = []
due_at w name r AtEnd = []
due_at w name r AtLast = let h = header_of (phrases_of r.placed) in due_by (w.course name h) h r.rest

-- these first tokens of an input of this name with this many declarations allowed settle it
unfoldable pub settled_of : Work → List ℕ → ℕ → List Token → Bool
settled_of w name most ts = let r = reading_of (header_grammar most) ts in settled_at w name r r.ending

-- what is due once these first tokens of it are known
unfoldable pub due_of : Work → List ℕ → ℕ → List Token → List ℕ
due_of w name most ts = let r = reading_of (header_grammar most) ts in due_at w name r r.ending
