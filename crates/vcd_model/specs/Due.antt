-- What is due once the first tokens of an input are known.
use Rattle.std.specs.Prelude.{ℕ, List, [], Option, Some, None, Result, Ok, Err}
use Rattle.vcd_model.specs.Backward.{up_to_first}
use Rattle.vcd_model.specs.Tokens.{Token}
use Rattle.vcd_model.specs.Header.{Header, header_of}
use Rattle.vcd_model.specs.HeaderPhrases.{HeaderPhrase}
use Rattle.vcd_model.specs.HeaderReading.{header_grammar}
use Rattle.vcd_model.specs.BodyReading.{read_body, body_items}
use Rattle.vcd_model.specs.Reading.{Ending, Reading, phrases_of, reading_of}
use Rattle.vcd_model.specs.Reading.Ending.{AtFault, AtEnd, AtLast}
use Rattle.vcd_model.specs.Selection.{first_unmatched}
use Rattle.vcd_model.specs.CheckAndList.{list_text}
use Rattle.vcd_model.specs.Outcome.{Request, ends_early, names_of, open_text}
use Rattle.vcd_model.specs.Job.{Want, Refusal, request_of}

-- What is due with the first tokens of a body: the text of the items that are whole with them, up
-- to a timestamp that ends the run. It is nothing if a name selects nothing.
abbrev pub due_of_body : Option ℕ → Request → Header → List Token → List ℕ
due_of_body (Some unmatched) task h ts = []
due_of_body None task h ts = open_text task h (up_to_first (ends_early task) (body_items (read_body h.codes ts)))

-- what is due with a whole header and these tokens after it: all of a `list` is due with the header
abbrev pub due_after : Request → Header → List Token → List ℕ
due_after Request.Listing h ts = list_text h
due_after task h ts = due_of_body (first_unmatched (names_of task) h.declarations) task h ts

-- what is due of a request, or of times that are refused: then it is nothing
abbrev pub due_of_request : Result Request Refusal → Header → List Token → List ℕ
due_of_request (Ok task) h ts = due_after task h ts
due_of_request (Err refusal) h ts = []

-- by how a reading of the header ended: nothing is due if it has a fault, or before it is whole
abbrev pub due_at : Want → Reading HeaderPhrase → Ending → List ℕ
due_at want r (AtFault fault) = []
due_at want r AtEnd = []
due_at want r AtLast = let h = header_of (phrases_of r.placed) in due_of_request (request_of h.scale want) h r.rest

-- what is due once these first tokens of an input are known, which may have this many declarations,
-- for a job that has one input
unfoldable pub due : Want → ℕ → List Token → List ℕ
due want most ts = let r = reading_of (header_grammar most) ts in due_at want r r.ending
