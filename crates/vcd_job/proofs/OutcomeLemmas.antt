-- The outcome of a run over one input, by its header and the tokens after it.
use Rattle.vcd_job.proofs.Cited.{◌≡◌, ℕ, List, [], ◌∷◌, ◌++◌, Some, None, Ok, Err, refl, ap, ◌∙◌, Input, Token, stream_of, header_of, HeaderPhrase, header_grammar, header_fault_of, Opened, declarations_allowed, Fault, Placed, Reading, reading_of, phrases_of, AtLast, IsWhole, whole-more, Work, fault_as, over_header}
use Rattle.vcd_model.specs.HeaderReading.{read_header}
use Rattle.vcd_model.specs.Outcome.{open_from}
use Rattle.vcd_job.specs.Work.{outcome_of}

-- the header is read
abbrev pub head_of : ℕ → Input → Reading HeaderPhrase
head_of limit i = read_header declarations_allowed (stream_of limit i)

-- an input whose header reads so
abbrev pub opened_as : ℕ → Input → Reading HeaderPhrase → Opened
opened_as limit i r = record { header = header_of (phrases_of r.placed); stream = stream_of limit i; rest = r.rest }

pub opened_is : (limit : ℕ) (i : Input) → header_fault_of (stream_of limit i) (head_of limit i) ≡ None → open_from limit [] (i ∷ []) ≡ Ok (opened_as limit i (head_of limit i) ∷ [])
unfolding open_from
opened_is limit i e = rw (e, open_from) refl

pub not_opened : (limit : ℕ) (i : Input) (f : Fault) → header_fault_of (stream_of limit i) (head_of limit i) ≡ Some f → open_from limit [] (i ∷ []) ≡ Err (0, f)
unfolding open_from
not_opened limit i f e = rw (e, open_from) refl

opened_outcome : (w : Work) (limit : ℕ) (name : List ℕ) (i : Input) → header_fault_of (stream_of limit i) (head_of limit i) ≡ None
    → let o = opened_as limit i (head_of limit i) in outcome_of w limit name i ≡ over_header (w.course name o.header) o
unfolding outcome_of
opened_outcome w limit name i e = rw (opened_is limit i e, outcome_of) refl

-- a header with a fault
pub at_header : (w : Work) (limit : ℕ) (name : List ℕ) (i : Input) (f : Fault) → header_fault_of (stream_of limit i) (head_of limit i) ≡ Some f
    → outcome_of w limit name i ≡ fault_as w.faulty [] name f
unfolding outcome_of
at_header w limit name i f e = rw (not_opened limit i f e, outcome_of) refl

-- tokens of a whole header, and these after it
pub after_header : (w : Work) (limit : ℕ) (name : List ℕ) (i : Input) (given rest : List Token) (placed : List (Placed HeaderPhrase))
    → IsWhole (header_grammar declarations_allowed) given placed → (stream_of limit i).tokens ≡ given ++ rest
    → outcome_of w limit name i ≡ over_header (w.course name (header_of (phrases_of placed))) (record { header = header_of (phrases_of placed); stream = stream_of limit i; rest = rest })
unfolding read_header
after_header w limit name i given rest placed is e =
    let reading : head_of limit i ≡ record { placed = placed; before = []; ending = AtLast; rest = rest } =
    ap (reading_of (header_grammar declarations_allowed)) e ∙ whole-more (header_grammar declarations_allowed) given placed rest is in
    let no_fault : header_fault_of (stream_of limit i) (head_of limit i) ≡ None = ap (header_fault_of (stream_of limit i)) reading in
    opened_outcome w limit name i no_fault ∙ ap (λ r. let o = opened_as limit i r in over_header (w.course name o.header) o) reading
