-- What the calls of a run over one input promise, as far as reader and writer describe themselves.
use Rattle.std.specs.Prelude.{◌≡◌, ℕ, ◌-◌, ◌^◌, ◌<◌, ◌≤◌, true, List, [], Some, Result, Ok}
use Rattle.vcd_job.specs.Cited.{Header, Input, Outcome, declarations_allowed, is_header_over, Token, whole, supply, HasGiven, chunk_len_of, limit_of, supply_of, Ghosts, Feed, IsViewOf, HeadView}
use Rattle.vcd_text.specs.declared.device.Sink.{Ghosts as Sinks}
use Rattle.vcd_job.specs.Ends.{Ends, IsAfter, IsOfWork, Speech, settled_for}
use Rattle.vcd_job.specs.Work.{Work, due_by, due_of, settled_by, settled_of}
use Rattle.vcd_job.specs.declared.answer.Answer.{Answer}
use Rattle.vcd_job.specs.declared.answer.Answer.TheVariants.{Status}
use Rattle.vcd_job.specs.declared.failure.Failure.{Failure}

-- how a job speaks
abbrev pub speech : {R : Type 0} → List (List ℕ) → (R → List ℕ → Outcome) → Work → Speech R
speech asked refusal work = record { asked = asked; refusal = refusal; faulty = work.faulty }

-- the job was run over the body after the header that is shown, of a feed that had given some
-- tokens
abbrev pub BodyEnds : {X W R : Type 0} {g : Ghosts X} → Sinks W → Work → Speech R → HeadView → (old new : Feed X g) → (out out' : W) → Result (Answer R) Failure → Type 0
BodyEnds w work s view old new out out' result = (h : Header) (i : Input) (front : List Token) (name : List ℕ) → IsViewOf view h → HasGiven i front old
    → Ends s (IsAfter work (limit_of old) front h name) (limit_of old) (chunk_len_of old) i name front
    (settled_for result (settled_by (work.course name h) h) (λ _. true)) (due_by (work.course name h) h) (supply_of old) (supply_of new) (w.device out) (w.device out') result

-- the job was run over its reader
abbrev pub InputEnds : {X W R : Type 0} → Ghosts X → Sinks W → Work → Speech R → (limit chunk : ℕ) → (old new : X) → (out out' : W) → Result (Answer R) Failure → Type 0
InputEnds g w work s limit chunk old new out out' result = (text name : List ℕ) → g.rest old ≡ Some text
    → Ends s (IsOfWork work limit name) limit chunk (whole text) name []
    (settled_for result (settled_of work name declarations_allowed) (is_header_over declarations_allowed)) (due_of work name declarations_allowed)
    (supply g.rest g.failures old) (supply g.rest g.failures new) (w.device out) (w.device out') result

-- a status is one of those that a run may have that does not fail, and at most 3
abbrev pub Answers : {R : Type 0} → (ℕ → Type 0) → Result (Answer R) Failure → Type 0
Answers may result = (status : ℕ) → result ≡ Ok (Status status) → may status × (status ≤ 3)

-- one more failed write of each sink can be counted
pub record MayFailOnce {W E : Type 0} (w : Sinks W) (e : Sinks E) (out : W) (err : E) : Type 0 where
  pub out_low : (w.device out).failures < 2 ^ 64 - 1
  pub err_low : (e.device err).failures < 2 ^ 64 - 1
