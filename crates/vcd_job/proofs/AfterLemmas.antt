-- How a run ends after its header, whatever its job.
use Rattle.vcd_job.proofs.Cited.{◌≡◌, ◌∙◌, ℕ, Bool, true, false, nat_lt, List, [], ◌++◌, length, inl, Result, Ok, Err, arith, refl, sym, ap, subst, length-append, Input, Header, Opened, Outcome, fault_outcome, Token, stream_of, Device, Writes, Supply, ReadsAsNeeded, Nothing, HasGiven, limit_of, Ghosts, Feed, appends-none, KeepsUp, is_more_due, Dump, Read, Write, Unmatched, Stop, Failure, OutOfMemory, Answer, Work, Speech, Ends, IsAfter, Leaves, settled_for, settled_by, due_by, over_header, fault_as, EndsAtRead, failure_of}
use Rattle.std.proofs.lemmas.Bool.{le-ltb, ltb-false}
use Rattle.std.specs.Io.KnownBytes.{Appends}
use Rattle.vcd_model.specs.BodyReading.{body_fault_of, body_items, read_body}
use Rattle.vcd_model.specs.Items.{BodyItem}
use Rattle.vcd_model.specs.Outcome.{body_of}
use Rattle.vcd_model.specs.Reading.{Fault}
use Rattle.vcd_model.specs.Tokens.{Stream}
use Rattle.vcd_text.proofs.Writes.{appends-twice}
use Rattle.vcd_body.proofs.Results.{writes-none}
use Rattle.vcd_body.specs.Answer.{EndsAtRead as EndsAtStop}
use Rattle.vcd_body.specs.Prompt.{HasPassedOn as HasPassedOnAt}
use Rattle.vcd_body.specs.declared.answer.Done.{Done}
use Rattle.vcd_run.proofs.OutcomeLemmas.{gives_outcome}
use Rattle.vcd_run.specs.Outcomes.{Belongs, IsSound, KeepOutput, Ways, over_plan}
use Rattle.vcd_run.specs.Run.{BodyGives, ReadsNeeded, left_of}
use Rattle.vcd_job.proofs.HeaderLemmas.{reads_for}
use Rattle.vcd_job.specs.Ends.{answer_end}
use Rattle.vcd_job.specs.Failure.{HasPassedOn, stop_failure}
use Rattle.vcd_job.specs.Work.{Course}

-- ---- the answer of a task

-- it is settled as its task is
pub settled_placed : (R : Type 0) (r : Result Done Stop) (run header : List Token → Bool) → settled_for {A = Answer R} (answer_end r) run header ≡ run
settled_placed R (Err (Read input)) run header = refl
settled_placed R r run header = refl

-- a failed read of the task is the run's
pub ended_last : (R : Type 0) (last_failed : Bool) (r : Result Done Stop) → EndsAtStop last_failed r → EndsAtRead last_failed (failure_of {A = Answer R} (answer_end r))
ended_last R last_failed (Err (Read only)) e = λ input is. e only refl
ended_last R last_failed r e = λ input is. absurd (cc)

pub ended_passed : {W : Type 0} (R : Type 0) (kept : W → ℕ) (out out' : W) (r : Result Done Stop) → HasPassedOnAt (kept out') r
    → HasPassedOn kept out out' (failure_of {A = Answer R} (answer_end r))
ended_passed R kept out out' (Err (Read only)) e = λ input is before. e only refl
ended_passed R kept out out' r e = λ input is before. absurd (cc)

-- what a run leaves that stopped, if its faults are those of its work
pub stop_leaves : {R : Type 0} (s : Speech R) (told : List BodyItem → List ℕ → Type 0) (ways : Ways) (name : List ℕ)
    → ((text : List ℕ) (f : Fault) → ways.faulty text f ≡ fault_as s.faulty text name f) → (o : Outcome) (out out' : Device) (stop : Stop)
    → Belongs told ways o out out' (Err stop) → Leaves s o name out out' (Err (stop_failure stop 0))
stop_leaves s told ways name is_fault o out out' (Dump input line f) (text, first, other, is, written) =
    let all = is ∙ is_fault text (record { number = f; line = line }) in (
      refl,
      ap (λ (x : Outcome). x.message) all ∙ rw (other, fault_outcome) refl,
      ap (λ (x : Outcome). x.status) all ∙ rw (other, fault_outcome) refl,
      subst (λ (l : List ℕ). Writes out out' l) (sym (ap (λ (x : Outcome). x.output) all ∙ rw (other, fault_outcome) refl)) written,
    )
stop_leaves s told ways name is_fault o out out' (Read input) (text, line, first, is, written) =
    let all = is ∙ is_fault text (record { number = 31; line = line }) in (
      refl,
      ap (λ (x : Outcome). x.message) all,
      ap (λ (x : Outcome). x.status) all,
      subst (λ (l : List ℕ). Writes out out' l) (sym (ap (λ (x : Outcome). x.output) all)) written,
    )
stop_leaves s told ways name is_fault o out out' Write some = some
stop_leaves s told ways name is_fault o out out' (Unmatched place) given = absurd given

-- ---- more output

-- no more is written than some bytes
abbrev pub Adds : Device → Device → Type 0
Adds mid out' = (more : List ℕ) × Appends mid.held out'.held more

pub adds-none : (out : Device) → Adds out out
adds-none out = ([], appends-none out.held)

-- an output that keeps up still does with more bytes
more_kept : (due : List Token → List ℕ) (limit chunk : ℕ) (i : Input) (front : List Token) (old new : Supply) (out mid out' : Device)
    → KeepsUp due limit chunk i front old new out mid → Adds mid out' → KeepsUp due limit chunk i front old new out out'
more_kept due limit chunk i front old new out mid out' up more = (
  up.0 ++ more.0,
  appends-twice out.held mid.held out'.held up.0 more.0 up.1 more.1,
  reads_for limit chunk old new i front (is_more_due due (length up.0)) (is_more_due due (length (up.0 ++ more.0))) (λ ts e. still (length (due ts)) e) up.2,
)
  where
    still : (n : ℕ) → nat_lt (length up.0) n ≡ false → nat_lt (length (up.0 ++ more.0)) n ≡ false
    still n e = let long = length-append up.0 more.0 in let low = ltb-false (length up.0) n e in le-ltb (length (up.0 ++ more.0)) n (omega (arith, long, low))

-- ---- after the header

over_body : (c : Course) (h : Header) (stream : Stream) (rest : List Token)
    → over_plan c.plan c.ways (body_items (read_body h.codes rest)) (body_fault_of stream (read_body h.codes rest))
    ≡ over_header (Ok c) (record { header = h; stream = stream; rest = rest })
unfolding body_of
over_body c h stream rest = refl

module _ {R : Type 0} (w : Work) (s : Speech R) (limit chunk : ℕ) (i : Input) (front : List Token) (h : Header) (name : List ℕ) where
  -- how a run ends whose header was read
  abbrev pub EndsAfter : (old new : Supply) → (out out' : Device) → Result (Answer R) Failure → Type 0
  EndsAfter old new out out' r = Ends s (IsAfter w limit front h name) limit chunk i name front
      (settled_for r (settled_by (w.course name h) h) (λ _. true)) (due_by (w.course name h) h) old new out out' r

  -- a plan was run over the body, and then more was written
  pub ran_over : (told : List BodyItem → List ℕ → Type 0) (c : Course) (read : ℕ) (before after : Supply) (out mid out' : Device) (r : Result Done Stop)
      (end : Result (Answer R) Failure) → w.course name h ≡ Ok c → KeepOutput c.ways → IsSound c.plan h.codes
      → BodyGives told c.plan h i front limit read out mid r
      → ReadsNeeded c.plan h limit chunk i (left_of i read r) front before after out mid → Adds mid out'
      → ((run header : List Token → Bool) → settled_for end run header ≡ run)
      → ((o : Outcome) → Belongs told c.ways o out mid r → Leaves s o name out out' end) → EndsAfter before after out out' end
  ran_over told c read before after out mid out' r end course kept sound gives needed more run leaves =
      let left = left_of i read r in
      let given = gives_outcome c.plan c.ways kept told h sound i front limit read out mid r gives in
      let opened : Opened = record { header = h; stream = stream_of limit left; rest = given.rest } in
      record {
        left = left;
        is_left = needed.is_left;
        read = subst (ReadsAsNeeded limit chunk before after left front) (sym (run (settled_by (w.course name h) h) (λ _. true)))
            (subst (λ k. ReadsAsNeeded limit chunk before after left front (settled_by k h)) (sym course) needed.read);
        keeps_up = subst (λ k. KeepsUp (due_by k h) limit chunk left front before after out out') (sym course)
            (more_kept (due_by (Ok c) h) limit chunk left front before after out mid out' needed.keeps_up more);
        due = over_header (Ok c) opened;
        is_due = (given.rest, given.tokens, sym (ap (λ k. over_header k opened) course));
        leaves = leaves (over_header (Ok c) opened)
            (subst (λ (o : Outcome). Belongs told c.ways o out mid r) (over_body c h (stream_of limit left) given.rest) given.belongs);
      }

  -- nothing was read after the header, and nothing written
  module _ {X : Type 0} {x : Ghosts X} (before : Supply) (feed : Feed X x) (out : Device) (l : limit_of feed ≡ limit) (st : HasGiven i front feed) where
    abbrev opened_here : Opened
    opened_here = record { header = h; stream = stream_of limit i; rest = st.given_first.0 }

    unread : (end : Result (Answer R) Failure) → Leaves s (over_header (w.course name h) opened_here) name out out end → EndsAfter before before out out end
    unread end leaves = record {
      left = i;
      is_left = inl (refl, refl);
      read = Nothing refl;
      keeps_up = ([], appends-none out.held, Nothing refl);
      due = over_header (w.course name h) opened_here;
      is_due = (st.given_first.0, ap (λ n. (stream_of n i).tokens) (sym l) ∙ st.given_first.1, refl);
      leaves = leaves;
    }

    -- memory ran out
    pub no_room : EndsAfter before before out out (Err OutOfMemory)
    no_room = unread (Err OutOfMemory) (writes-none out)

    -- the header has an outcome without output
    pub refused_here : (o : Outcome) (end : Result (Answer R) Failure) → w.course name h ≡ Err o → Leaves s o name out out end → EndsAfter before before out out end
    refused_here o end course leaves = unread end (subst (λ (c : Result Course Outcome). Leaves s (over_header c opened_here) name out out end) (sym course) leaves)
