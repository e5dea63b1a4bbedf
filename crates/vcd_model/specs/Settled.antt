-- When the first tokens of an input settle what a run does, so that no more of them need be read
-- (profile).
use Rattle.std.specs.Prelude.{ℕ, Bool, true, false, ◌||◌, is_some, List, Result, Ok, Err}
use Rattle.std.specs.List.{list_any}
use Rattle.vcd_model.specs.Tokens.{Token}
use Rattle.vcd_model.specs.Header.{Header, header_of}
use Rattle.vcd_model.specs.HeaderReading.{header_grammar}
use Rattle.vcd_model.specs.HeaderPhrases.{HeaderPhrase}
use Rattle.vcd_model.specs.BodyReading.{read_body, body_items}
use Rattle.vcd_model.specs.Reading.{Ending, Reading, phrases_of, reading_of}
use Rattle.vcd_model.specs.Reading.Ending.{AtFault, AtEnd, AtLast}
use Rattle.vcd_model.specs.Selection.{first_unmatched}
use Rattle.vcd_model.specs.Outcome.{Request, ends_early, names_of}
use Rattle.vcd_model.specs.Job.{Want, Refusal, request_of}

-- a token has a fault
abbrev pub is_faulty : Ending → Bool
is_faulty (AtFault fault) = true
is_faulty AtEnd = false
is_faulty AtLast = false

-- the first tokens of a body settle it: one of them has a fault, or one of their items ends the run
abbrev pub body_settles : Request → Header → List Token → Bool
body_settles task h ts = is_faulty (read_body h.codes ts).ending || list_any (ends_early task) (body_items (read_body h.codes ts))

-- the header settles it: nothing is asked of the body, or a name selects nothing
abbrev pub header_settles : Request → Header → Bool
header_settles Request.Listing h = true
header_settles task h = is_some (first_unmatched (names_of task) h.declarations)

-- these first tokens after the header settle it
abbrev pub is_settled_behind : Request → Header → List Token → Bool
is_settled_behind task h ts = header_settles task h || body_settles task h ts

-- whether they settle it, if times that ticks cannot express are refused
abbrev pub is_settled_by : Result Request Refusal → Header → List Token → Bool
is_settled_by (Ok task) h ts = is_settled_behind task h ts
is_settled_by (Err refusal) h ts = true

-- by what a reading of the header met
abbrev pub is_settled_at : Want → Reading HeaderPhrase → Ending → Bool
is_settled_at want r (AtFault fault) = true
is_settled_at want r AtEnd = false
is_settled_at want r AtLast = let h = header_of (phrases_of r.placed) in is_settled_by (request_of h.scale want) h r.rest

-- with these first tokens a header is whole, or has a fault
abbrev pub is_over : Ending → Bool
is_over (AtFault fault) = true
is_over AtEnd = false
is_over AtLast = true

unfoldable pub is_header_over : ℕ → List Token → Bool
is_header_over most ts = is_over (reading_of (header_grammar most) ts).ending

-- these first tokens of an input with this many declarations allowed settle it
unfoldable pub is_settled : Want → ℕ → List Token → Bool
is_settled want most ts = let r = reading_of (header_grammar most) ts in is_settled_at want r r.ending
