-- The outcome that an answer and an output of a comparison belong to.
use Rattle.std.specs.Prelude.{◌≡◌, ℕ, Bool, not, cond, ◌||◌, ◌==◌, List, [], ◌++◌, length, Result}
use Rattle.vcd_model.specs.Bytes.{is_empty}
use Rattle.vcd_model.specs.Compare.{Asked as ModelAsked, count_line, fault_after}
use Rattle.vcd_model.specs.Header.{Header, header_of}
use Rattle.vcd_model.specs.HeaderPhrases.{HeaderPhrase}
use Rattle.vcd_model.specs.HeaderReading.{header_grammar}
use Rattle.vcd_model.specs.Input.{Input}
use Rattle.vcd_model.specs.Outcome.{declarations_allowed}
use Rattle.vcd_model.specs.Reading.{Placed, phrases_of}
use Rattle.vcd_model.specs.SoFar.{IsWhole}
use Rattle.vcd_model.specs.Tokens.{Token}
use Rattle.vcd_model.specs.Within.{Names, answer_in, within}
use Rattle.vcd_text.specs.Device.{Device}
use Rattle.vcd_body.specs.declared.answer.Stop.{Stop}
use Rattle.vcd_run.specs.Outcomes.{Belongs, Ways}
use Rattle.vcd_run.specs.Run.{BodyGives, left_of}
use Rattle.vcd_compare.specs.Pairs.{ArePairs}
use Rattle.vcd_compare.specs.Run.{Answers, done_of, plan_within}
use Rattle.vcd_compare.specs.declared.pairs.Pairs.{Pairs}
use Rattle.vcd_compare.specs.declared.whole.Answer.{Answer}

-- The outcome by the lines that were written, of the one input, which has this name. After a run
-- that did not fail, it has one more line, which says how many pairs were compared.
abbrev pub ways_within : ModelAsked → Header → List Names → List ℕ → Ways
ways_within q h ns name = record { early = answer_in q h ns; well = λ items lines. answer_in q h ns lines; faulty = λ lines fault. fault_after lines name fault }

-- What a run over a body leaves belongs to the outcome of its input, if these first tokens are its
-- header.
abbrev pub BodiesGiveOutcomes : Type 0
BodiesGiveOutcomes = (q : ModelAsked) (ns : List Names) (name : List ℕ) (i : Input) (front : List Token) (placed : List (Placed HeaderPhrase))
    (limit read : ℕ) (out out' : Device) (result : Result Answer Stop)
    → IsWhole (header_grammar declarations_allowed) front placed
    → BodyGives (Answers result) (plan_within q (header_of (phrases_of placed)) ns) (header_of (phrases_of placed)) i front limit read out out'
    (done_of result)
    → Belongs (Answers result) (ways_within q (header_of (phrases_of placed)) ns name) (within q limit ns name (left_of i read result)) out out' (done_of result)

-- The outcome of a run that did not fail, by what it wrote, whether that is anything, and how many
-- pairs were compared.
abbrev pub AnswersGiveOutcomes : Type 0
AnswersGiveOutcomes = (q : ModelAsked) (h : Header) (ns : List Names) (ps : Pairs) (lines : List ℕ) (differs : Bool) → ArePairs ps h q ns → differs ≡ not (is_empty lines)
    → answer_in q h ns lines ≡ record { output = lines ++ count_line (length ps.rows.items); message = []; status = cond (differs || length ps.rows.items == 0) 1 0 }
