-- How a run ends, and what it leaves.
use Rattle.vcdkit.proofs.Cited.{◌≡◌, ◌≢◌, ℕ, Bool, true, false, ◌+◌, ◌++◌, inl, List, [], ◌∷◌, length, take, Option, Some, Result, Ok, Err, refl, sym, ap, subst, ◌∙◌, arith, MatchResult, IfOk, IfErr, list_any, Input, due_after, request_of, is_settled_behind, BodyItem, body_items, read_body, Header, list_text, Opened, Outcome, Request, ends_early, name_at, names_of, Token, stream_of, Counts, Device, failures_then, Supply, Takes, Writes, ReadsAsNeeded, Nothing, HasGiven, limit_of, Ghosts, Feed, Belongs, Follows, IsRefused, KeepsUp, is_early, nat_lt, reads_failed, writes_failed, Done, Stop, Dump, Read, Write, Unmatched, Failure, Stopped, Refusal, Answer, Answers, Status, Refused, failure_of, merge_end, CountsReads, EndsAtReadOf, HasPassedOn, model_refusal, model_want, is_merge, names_asked, Leaves, settled_by, due_by, over_header, course_by, course_of, codes, refusal_of, work_of}
use Rattle.vcd_model.specs.Outcome.{fault_outcome, over_dump}
use Rattle.vcd_body.specs.Answer.{EndsAtRead as EndsAtStop}
use Rattle.vcd_body.specs.Prompt.{HasPassedOn as HasPassedOnAt}
use Rattle.vcd_words.specs.declared.job.Want.{Want}
use Rattle.vcd_words.specs.declared.refusal.Refusal.TheVariants as refusal
use Rattle.vcd_job.specs.Ends.{answer_end}
use Rattle.vcd_merge.specs.MergeStep.{EndsAtReadOf as EndsAtStops}
use Rattle.vcd_body.proofs.Results.{writes-none}
use Rattle.vcd_job.proofs.AfterLemmas as any_job
use Rattle.vcd_job.proofs.AfterLemmas.{refused_here, settled_placed}
use Rattle.vcd_job.proofs.HeaderLemmas.{reads_for}
use Rattle.vcdkit.specs.Calls.{speech_of}
use Rattle.vcdkit.proofs.WorkLemmas.{due_same, names_due, over_same_dump, settled_same}

-- ---- `list`: the body is not read

-- a list that was written, or in part, belongs to its outcome
list_belongs : (limit : ℕ) (i : Input) (rest : List Token) (h : Header) (name : List ℕ) (out out' : Device) (r : Result Done Stop)
    → Takes out out' (list_text h) r → Counts out out' r → ((stop : Stop) → r ≡ Err stop → stop ≡ Write)
    → Belongs Request.Listing (over_dump Request.Listing name (record { header = h; stream = stream_of limit i; rest = rest })) name out out' r
unfolding over_dump
list_belongs limit i rest h name out out' (Ok done) t f w = (refl, (t, f))
list_belongs limit i rest h name out out' (Err Write) t f w = (t, f)
list_belongs limit i rest h name out out' (Err stop) t f w = let e : stop ≡ Write = w stop refl in cc

-- the one way in which a list stops
only_write : (r : Result Done Stop) → MatchResult r (λ done. done ≡ Done.Whole) (λ stop. stop ≡ Write) → (stop : Stop) → r ≡ Err stop → stop ≡ Write
only_write (Ok done) m stop e = cc
only_write (Err x) m stop e = cc

none_listed : (items : List BodyItem) → list_any (ends_early Request.Listing) items ≡ false
none_listed [] = refl
none_listed (x ∷ items) = none_listed items

list_ends : (items : List BodyItem) (r : Result Done Stop) → MatchResult r (λ done. done ≡ Done.Whole) (λ stop. stop ≡ Write)
    → IfOk r (λ done. is_early done ≡ list_any (ends_early Request.Listing) items)
list_ends items (Ok done) m = rw m (sym (none_listed items))
list_ends items (Err stop) m = tt

list_stops : (h : Header) (r : Result Done Stop) → MatchResult r (λ done. done ≡ Done.Whole) (λ stop. stop ≡ Write) → IfErr r (IsRefused Request.Listing h)
list_stops h (Ok done) m = tt
list_stops h (Err stop) m = rw m tt

-- nothing is read
list_keeps_up : (limit chunk : ℕ) (i : Input) (front : List Token) (h : Header) (before : Supply) (out out' : Device) (r : Result Done Stop)
    → Takes out out' (list_text h) r → KeepsUp (due_after Request.Listing h) limit chunk i front before before out out'
list_keeps_up limit chunk i front h before out out' (Ok done) t = (list_text h, t, Nothing refl)
list_keeps_up limit chunk i front h before out out' (Err stop) t = (take t.0 (list_text h), t.1, Nothing refl)

-- a list reads nothing, and where it stops a write failed
pub list_reads : (n : ℕ) (r : Result Done Stop) → MatchResult r (λ done. done ≡ Done.Whole) (λ stop. stop ≡ Write) → n ≡ n + reads_failed r
list_reads n (Ok done) m = omega arith
list_reads n (Err stop) m = rw m (omega arith)

pub list_writes : (out out' : Device) (r : Result Done Stop) → Counts out out' r → MatchResult r (λ done. done ≡ Done.Whole) (λ stop. stop ≡ Write)
    → failures_then (writes_failed r) out' ≡ out.failures + writes_failed r
list_writes out out' (Ok done) f m = omega (arith, f)
list_writes out out' (Err stop) f m = rw m f

pub list_last : (last_failed : Bool) (r : Result Done Stop) → MatchResult r (λ done. done ≡ Done.Whole) (λ stop. stop ≡ Write) → EndsAtStop last_failed r
list_last last_failed (Ok done) m = λ input is. absurd (cc)
list_last last_failed (Err stop) m = λ input is. absurd (cc)

-- a run over several inputs ends with the failure of their merge
pub merged_last : (last_failed : List Bool) (r : Result Done Stop) → EndsAtStops last_failed r → EndsAtReadOf last_failed (failure_of (merge_end r))
merged_last last_failed (Ok done) e = λ input is. absurd (cc)
merged_last last_failed (Err stop) e = λ input is. e input (cc)

-- ---- what is kept back after a failed read

pub list_passed : (kept : ℕ) (r : Result Done Stop) → MatchResult r (λ done. done ≡ Done.Whole) (λ stop. stop ≡ Write) → HasPassedOnAt kept r
list_passed kept (Ok done) m = λ input is. absurd (cc)
list_passed kept (Err stop) m = λ input is. absurd (cc)

pub merged_passed : {W : Type 0} (kept : W → ℕ) (out out' : W) (r : Result Done Stop) → HasPassedOnAt (kept out') r → HasPassedOn kept out out' (failure_of (merge_end r))
merged_passed kept out out' (Ok done) e = λ input is before. absurd (cc)
merged_passed kept out out' (Err stop) e = λ input is before. e input (cc)

-- if a count of failed reads grew, a failed read ended the run
pub failed_read : (before after : List ℕ) (why : Option Failure) → CountsReads before after why → after ≢ before → (input : ℕ) × why ≡ Some (Stopped (Read input))
failed_read before after (Some (Stopped (Read input))) counts more = (input, refl)
failed_read before after why counts more = absurd (more counts)

pub listed : {X : Type 0} {x : Ghosts X} (limit chunk : ℕ) (i : Input) (front : List Token) (h : Header) (name : List ℕ) (before : Supply)
    (old : Feed X x) (out out' : Device) (r : Result Done Stop)
    → limit_of old ≡ limit → HasGiven i front old → Takes out out' (list_text h) r → Counts out out' r → MatchResult r (λ done. done ≡ Done.Whole) (λ stop. stop ≡ Write)
    → Follows Request.Listing limit chunk i front h name before before out out' r
listed limit chunk i front h name before old out out' r l st t f answer = record {
  left = i;
  is_left = inl (refl, refl);
  rest = st.given_first.0;
  tokens = ap (λ n. (stream_of n i).tokens) (sym l) ∙ st.given_first.1;
  belongs = list_belongs limit i st.given_first.0 h name out out' r t f (only_write r answer);
  read = Nothing refl;
  keeps_up = list_keeps_up limit chunk i front h before out out' r t;
  early = list_ends (body_items (read_body h.codes st.given_first.0)) r answer;
  refused = list_stops h r answer;
}

-- times that are refused leave no output
refused_output : (name : List ℕ) (why : Refusal) → (refusal_of why name).output ≡ []
refused_output name refusal.NoTimescale = refl
refused_output name why = refl

-- ---- after the header

-- the answer of a task has the message and the status of its outcome
leaves-placed : (wanted : Want) (task : Request) (o : Outcome) (name : List ℕ) (out out' : Device) (r : Result Done Stop)
    → names_of task ≡ names_asked wanted → Belongs task o name out out' r → Leaves (speech_of wanted) o name out out' (answer_end r)
leaves-placed wanted task o name out out' (Ok done) same b = (ap (λ (x : Outcome). x.message) b.0, ap (λ (x : Outcome). x.status) b.0, b.1)
leaves-placed wanted task o name out out' (Err (Dump input line fault)) same b =
    (refl, ap (λ (x : Outcome). x.message) b.1 ∙ rw (b.2, fault_outcome) refl, ap (λ (x : Outcome). x.status) b.1 ∙ rw (b.2, fault_outcome) refl, b.3)
leaves-placed wanted task o name out out' (Err (Read input)) same b = (refl, ap (λ (x : Outcome). x.message) b.1.1, ap (λ (x : Outcome). x.status) b.1.1, b.2)
leaves-placed wanted task o name out out' (Err Write) same b = b
leaves-placed wanted task o name out out' (Err (Unmatched place)) same b =
    (ap (λ (x : Outcome). x.message) b.0 ∙ ap (λ names. name_at names place ++ codes ": selects nothing") same, ap (λ (x : Outcome). x.status) b.0, b.1)

-- how a run ends after the header
abbrev pub EndsAfter : Want → (limit chunk : ℕ) → Input → List Token → Header → List ℕ → (old new : Supply) → (out out' : Device) → Result (Answer Refusal) Failure → Type 0
EndsAfter wanted limit chunk i front h name = any_job.EndsAfter (work_of (model_want wanted)) (speech_of wanted) limit chunk i front h name

-- a task, or a list, was done
pub followed : (wanted : Want) (task : Request) (limit chunk : ℕ) (i : Input) (front : List Token) (h : Header) (name : List ℕ)
    (before after : Supply) (out out' : Device) (r : Result Done Stop) → is_merge wanted ≡ false → request_of h.scale (model_want wanted) ≡ Ok task
    → Follows task limit chunk i front h name before after out out' r
    → EndsAfter wanted limit chunk i front h name before after out out' (answer_end r)
followed wanted task limit chunk i front h name before after out out' r one e f =
    let course : course_by (request_of h.scale (model_want wanted)) name h ≡ course_of task name h = ap (λ q. course_by q name h) e in
    let opened : Opened = record { header = h; stream = stream_of limit f.left; rest = f.rest } in
    let up = f.keeps_up in
    record {
      left = f.left;
      is_left = f.is_left;
      read = subst (ReadsAsNeeded limit chunk before after f.left front) (sym (settled_placed Refusal r (settled_by (course_by (request_of h.scale (model_want wanted)) name h) h) (λ _. true)))
          (reads_for limit chunk before after f.left front (is_settled_behind task h)
          (settled_by (course_by (request_of h.scale (model_want wanted)) name h) h) (λ ts u. ap (λ q. settled_by q h ts) course
          ∙ settled_same task name h ts ∙ u) f.read);
      keeps_up = (
        up.0,
        up.1,
        reads_for limit chunk before after f.left front _ _
            (λ ts u. ap (λ (text : List ℕ). nat_lt (length up.0) (length text)) (ap (λ q. due_by q h ts) course ∙ due_same task name h ts) ∙ u) up.2,
      );
      due = over_dump task name opened;
      is_due = (f.rest, f.tokens, sym (ap (λ q. over_header q opened) course ∙ over_same_dump task name opened));
      leaves = leaves-placed wanted task _ name out out' r (names_due wanted h.scale task one e) f.belongs;
    }

-- times were refused, before anything was read after the header
pub no_ticks : {X : Type 0} {x : Ghosts X} (wanted : Want) (limit chunk : ℕ) (i : Input) (front : List Token) (h : Header) (name : List ℕ)
    (before : Supply) (feed : Feed X x) (out : Device) → limit_of feed ≡ limit → HasGiven i front feed → (why : Refusal)
    → request_of h.scale (model_want wanted) ≡ Err (model_refusal why) → EndsAfter wanted limit chunk i front h name before before out out (Ok (Refused why))
no_ticks wanted limit chunk i front h name before feed out l st why e =
    refused_here (work_of (model_want wanted)) (speech_of wanted) limit chunk i front h name before feed out l st (refusal_of why name) (Ok (Refused why))
    (ap (λ q. course_by q name h) e) (refl, refl, subst (λ (l : List ℕ). Writes out out l) (sym (refused_output name why)) (writes-none out))

-- a merge that is done has status 0, and one that failed answers nothing
pub done_well : Answers {R = Refusal} (λ n. n ≡ 0) (Ok (Status 0))
done_well = λ status e. let z : status ≡ 0 = cc in (z, omega (arith, z))

pub not_answered : (failure : Failure) → Answers {R = Refusal} (λ n. n ≡ 0) (Err failure)
not_answered failure = λ status e. absurd (cc)
