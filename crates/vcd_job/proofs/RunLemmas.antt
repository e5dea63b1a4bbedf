-- How a run over one input ends, and what it leaves.
use Rattle.vcd_job.proofs.Cited.{◌≡◌, ◌≢◌, ◌==◌, ℕ, Bool, true, false, cond, zero, suc, ◌+◌, ◌<◌, ◌≤◌, ◌++◌, inl, inr, List, [], ◌∷◌, length, nat_lt, map, slice_set, Option, Some, Result, Err, refl, sym, ap, subst, ◌∙◌, arith, Input, is_header_over, IsWhole, HeaderPhrase, Header, header_of, header_grammar, codes, decimal, name_at, Outcome, fault_outcome, declarations_allowed, Fault, Placed, phrases_of, Token, stream_of, Device, failures_then, Supply, Writes, ReadsAsNeeded, Nothing, appends-none, KeepsUp, is_more_due, Dump, Read, Write, Unmatched, Failure, Stopped, OutOfMemory, CountsRead, EndsAtRead, EndsAtReadOf, failure_status, whole, Shows, Tells, HasFailed, HasFault, Stop, IsBegun, Lane, set_last, failure_of, Answer, Work, Speech, Ends, HasRun, IsOutcome, IsAfter, IsOfWork, Leaves, end_message, end_status, settled_for, settled_by, settled_of, due_by, due_of, fault_as, outcome_of, over_header, NoMemory, WithOutcome, Part, Whole}
use Rattle.vcd_body.proofs.Results.{writes-none}
use Rattle.vcd_job.specs.Failure.{writes_failed}
use Rattle.vcd_model.specs.Outcome.{fault_text}
use Rattle.vcd_job.proofs.HeaderLemmas.{all_read, due_run, left_since, reads_for, settled_header, settled_run, undue_header, unsettled_header}
use Rattle.vcd_job.proofs.OutcomeLemmas.{after_header, at_header}

-- nothing is said
pub shows_nothing : (err : Device) → Shows err err []
shows_nothing err = inl (writes-none err)

-- at most one write more has failed
pub most_one : (n : ℕ) (old new : Device) → n ≤ 1 → failures_then n new ≡ old.failures + n → new.failures ≤ old.failures + 1
most_one zero old new few e = omega (arith, e)
most_one (suc n) old new few e = by_flag new.last_failed e
  where
    by_flag : (b : Bool) → cond b new.failures 0 ≡ old.failures + suc n → new.failures ≤ old.failures + 1
    by_flag true is = omega (arith, few, is)
    by_flag false is = absurd (omega (arith, is))

pub few_writes : (why : Option Failure) → writes_failed why ≤ 1
few_writes (Some (Stopped Write)) = omega arith
few_writes why = omega arith

-- a line counts one failure at most
pub shown_once : (old new : Device) (line : List ℕ) → Shows old new line → new.failures ≤ old.failures + 1
shown_once old new line (inl all) = let same = all.1 in omega (arith, same)
shown_once old new line (inr some) = most_one 1 old new (omega arith) some.1

-- of several readers the one at an index was read
pub one_last : {X : Type 0} (f : X → Bool) (xs : List X) (k before after : ℕ) (x : X) (why : Option Failure) → k < length xs
    → CountsRead k before after why → EndsAtRead (f x) why → EndsAtReadOf (map f (slice_set xs k x)) why
one_last f xs k before after x why within counts e = λ input is.
    let named : input ≡ k = (subst (CountsRead k before after) is counts).0 in
    rw named (set_last f xs k x within (e input is))

-- if a count of failed reads grew, a failed read ended the run
pub failed_read : (before after : ℕ) (why : Option Failure) → CountsRead 0 before after why → after ≢ before → (input : ℕ) × why ≡ Some (Stopped (Read input))
failed_read before after (Some (Stopped (Read input))) counts more = (input, refl)
failed_read before after why counts more = absurd (more counts)

module _ {R : Type 0} (w : Work) (s : Speech R) (same : s.faulty ≡ w.faulty) (limit chunk : ℕ) (i : Input) (name : List ℕ) where
  -- ---- the header

  -- what settles a run over one input
  abbrev pub settles : Result (Answer R) Failure → List Token → Bool
  settles r = settled_for r (settled_of w name declarations_allowed) (is_header_over declarations_allowed)

  -- how a run of one input ends
  abbrev pub InputEnds : (old new : Supply) → (out out' : Device) → Result (Answer R) Failure → Type 0
  InputEnds old new out out' r = Ends s (IsOfWork w limit name) limit chunk i name [] (settles r) (due_of w name declarations_allowed) old new out out' r

  -- a run that memory ends before anything was read
  pub no_memory : (before : Supply) (out : Device) → InputEnds before before out out (Err OutOfMemory)
  no_memory before out = record {
    left = i;
    is_left = inl (refl, refl);
    read = Nothing refl;
    keeps_up = ([], appends-none out.held, Nothing refl);
    due = outcome_of w limit name i;
    is_due = refl;
    leaves = writes-none out;
  }

  -- a header that ends a run leaves no output
  dump_leaves : (input n line : ℕ) (out : Device) → input ≡ 0 → (n == 31) ≡ false
      → Leaves s (fault_as w.faulty [] name (record { number = n; line = line })) name out out (Err (Stopped (Dump input line n)))
  dump_leaves input n line out first k =
      let f : Fault = record { number = n; line = line } in
      let output : (fault_outcome [] name f).output ≡ [] = rw (k, fault_outcome) refl in
      let message : (fault_outcome [] name f).message ≡ end_message s (name ∷ []) (Err (Stopped (Dump input line n))) = rw (k, first, fault_outcome) refl in
      let status : (fault_as w.faulty [] name f).status ≡ w.faulty = rw (k, fault_outcome) refl in
      (first, message, status ∙ sym same, subst (λ (l : List ℕ). Writes out out l) (sym output) (writes-none out))

  read_leaves : (input line : ℕ) (out : Device) → input ≡ 0 → Leaves s (fault_as w.faulty [] name (record { number = 31; line = line })) name out out (Err (Stopped (Read input)))
  read_leaves input line out first = (first, rw first refl, refl, writes-none out)

  -- with which nothing is due
  header_keeps_up : (left : Input) (before after : Supply) (out : Device)
      → ReadsAsNeeded limit chunk before after left [] (is_header_over declarations_allowed)
      → KeepsUp (due_of w name declarations_allowed) limit chunk left [] before after out out
  header_keeps_up left before after out read = (
    [],
    appends-none out.held,
    reads_for limit chunk before after left [] (is_header_over declarations_allowed)
        (is_more_due (due_of w name declarations_allowed) 0) (undue_header w name declarations_allowed 0) read,
  )

  faulted : (before after : Supply) (out : Device) (stop : Stop) (h : HasFailed declarations_allowed limit chunk 0 i before after (Stopped stop))
      (f : Fault) → HasFault declarations_allowed limit h.left f.number f.line
      → Leaves s (fault_as w.faulty [] name f) name out out (Err (Stopped stop)) → InputEnds before after out out (Err (Stopped stop))
  faulted before after out stop h f fault leaves = record {
    left = h.left;
    is_left = h.is_left;
    read = reads_for limit chunk before after h.left [] (is_header_over declarations_allowed) (settled_of w name declarations_allowed) (unsettled_header w name declarations_allowed) h.read;
    keeps_up = header_keeps_up h.left before after out h.read;
    due = fault_as w.faulty [] name f;
    is_due = sym (at_header w limit name h.left f fault);
    leaves = leaves;
  }

  pub refused : (before after : Supply) (out : Device) (why : Failure) → HasFailed declarations_allowed limit chunk 0 i before after why → InputEnds before after out out (Err why)
  refused before after out (Stopped (Dump input line n)) h = faulted before after out (Dump input line n) h
      (record { number = n; line = line }) h.is_why.2 (dump_leaves input n line out h.is_why.0 h.is_why.1)
  refused before after out (Stopped (Read input)) h = faulted before after out (Read input) h (record { number = 31; line = h.is_why.1 }) h.is_why.2 (read_leaves input h.is_why.1 out h.is_why.0)
  refused before after out (Stopped stop) h = absurd h.is_why
  refused before after out OutOfMemory h = record {
    left = h.left;
    is_left = h.is_left;
    read = h.read;
    keeps_up = header_keeps_up h.left before after out h.read;
    due = outcome_of w limit name h.left;
    is_due = refl;
    leaves = writes-none out;
  }

  -- ---- after the header

  -- a header that is not over settles nothing
  going : (r : Result (Answer R) Failure) (ts : List Token) → is_header_over declarations_allowed ts ≡ false → settles r ts ≡ false
  going (Err OutOfMemory) ts e = e
  going r ts e = unsettled_header w name declarations_allowed ts e

  -- what settles a run after its header
  abbrev behind : Result (Answer R) Failure → Header → List Token → Bool
  behind r h = settled_for r (settled_by (w.course name h) h) (λ _. true)

  -- it settles the run
  settled_both : (r : Result (Answer R) Failure) (given ts : List Token) (placed : List (Placed HeaderPhrase))
      → IsWhole (header_grammar declarations_allowed) given placed → settles r (given ++ ts) ≡ behind r (header_of (phrases_of placed)) ts
  settled_both (Err OutOfMemory) given ts placed is = settled_header declarations_allowed given ts placed is
  settled_both r given ts placed is = settled_run w name declarations_allowed given ts placed is

  -- how a run ends after the header
  abbrev pub EndsAfter : (limit chunk : ℕ) → List Token → Header → (old new : Supply) → (out out' : Device) → Result (Answer R) Failure → Type 0
  EndsAfter limit' chunk' front h old new out out' r = Ends s (IsAfter w limit' front h name) limit' chunk' i name front (behind r h) (due_by (w.course name h) h) old new out out' r

  -- how a run ends whose header was read
  pub read_on : (limit' chunk' : ℕ) (l : Lane) (before mid after : Supply) (out out' : Device) (end : Result (Answer R) Failure) → limit' ≡ limit
      → chunk' ≡ chunk → IsBegun declarations_allowed limit chunk i l before mid
      → EndsAfter limit' chunk' l.front l.header mid after out out' end → InputEnds before after out out' end
  read_on limit' chunk' l before mid after out out' end l' size' b f =
      let e : EndsAfter limit chunk l.front l.header mid after out out' end =
      subst (λ (n : ℕ). EndsAfter limit n l.front l.header mid after out out' end) size'
      (subst (λ (n : ℕ). EndsAfter n chunk' l.front l.header mid after out out' end) l' f) in
      let written = e.keeps_up.0 in
      let n = length written in
      record {
        left = e.left;
        is_left = left_since declarations_allowed limit chunk i l before mid b after e.left e.is_left;
        read = all_read declarations_allowed limit chunk i l before mid b (settles end) (behind end l.header) (going end)
            (λ ts u. settled_both end l.front ts b.placed b.whole ∙ ap (λ (h : Header). behind end h ts) (sym b.header_is) ∙ u) after e.left e.is_left e.read;
        keeps_up = (
          written,
          e.keeps_up.1,
          all_read declarations_allowed limit chunk i l before mid b (is_more_due (due_of w name declarations_allowed) n)
              (is_more_due (due_by (w.course name l.header) l.header) n) (undue_header w name declarations_allowed n)
              (λ ts u. ap (λ text. nat_lt n (length text)) (due_run w name declarations_allowed l.front ts b.placed b.whole
              ∙ ap (λ (h : Header). due_by (w.course name h) h ts) (sym b.header_is)) ∙ u) after e.left e.is_left e.keeps_up.2,
        );
        due = e.due;
        is_due = e.is_due.2
            ∙ ap (λ (h : Header). over_header (w.course name h) (record { header = h; stream = stream_of limit e.left; rest = e.is_due.0 })) b.header_is
            ∙ sym (after_header w limit name e.left l.front e.is_due.0 b.placed b.whole e.is_due.1);
        leaves = e.leaves;
      }

-- ---- what is said

-- a run that ends so, and whose line and status these are, leaves the outcome of its input
module _ {R : Type 0} (program : List ℕ) (w : Work) (s : Speech R) (limit chunk : ℕ) (names : List (List ℕ)) (text : List ℕ) (old new : Supply)
    (out out' err err' : Device) (status : ℕ) where
  abbrev name : List ℕ
  name = name_at names 0

  abbrev Says : Result (Answer R) Failure → Type 0
  Says end = Tells program err err' (end_message s names end)

  abbrev Runs : Type 0
  Runs = HasRun program w limit chunk name text old new out out' err err' status

  abbrev EndsWith : Result (Answer R) Failure → Type 0
  EndsWith end = Ends s (IsOfWork w limit name) limit chunk (whole text) name []
      (settled_for end (settled_of w name declarations_allowed) (is_header_over declarations_allowed))
      (due_of w name declarations_allowed) old new out out' end

  -- all of an outcome with this message and this status
  all_of : (left : Input) (o : Outcome) (message : List ℕ) → o ≡ outcome_of w limit name left → o.message ≡ message → o.status ≡ status → Writes out out' o.output
      → Tells program err err' message → IsOutcome program (outcome_of w limit name left) out out' err err' status
  all_of left o message is same k written says =
      subst (λ (x : Outcome). IsOutcome program x out out' err err' status) is (Whole written (subst (λ (l : List ℕ). Tells program err err' l) (sym same) says) (sym k))

  -- the message of the first name
  at_first : (input : ℕ) (line : List ℕ) → input ≡ 0 → name_at (name ∷ []) input ++ line ≡ name_at names input ++ line
  at_first input line first = ap (λ n. name_at (name ∷ []) n ++ line) first ∙ ap (λ n. name_at names n ++ line) (sym first)

  pub has_run : (end : Result (Answer R) Failure) → EndsWith end → CountsRead 0 old.failures new.failures (failure_of end) → status ≡ end_status s names end → Says end → Runs
  has_run (Err (Stopped (Dump input line n))) e k are says =
      let (first, message, is, written) = e.leaves in
      let same : name_at (name ∷ []) input ++ codes ":" ++ decimal line ++ codes ": " ++ fault_text n ≡ name_at names input ++ codes ":" ++ decimal line ++ codes ": " ++ fault_text n =
      ap (λ m. name_at (name ∷ []) m ++ codes ":" ++ decimal line ++ codes ": " ++ fault_text n) first
      ∙ ap (λ m. name_at names m ++ codes ":" ++ decimal line ++ codes ": " ++ fault_text n) (sym first) in
      WithOutcome e.left e.is_left e.read e.keeps_up (all_of e.left e.due _ e.is_due (message ∙ same) (is ∙ sym are) written says)
  has_run (Err (Stopped (Read input))) e k are says =
      let (first, message, is, written) = e.leaves in
      WithOutcome e.left e.is_left e.read e.keeps_up (all_of e.left e.due _ e.is_due (message ∙ at_first input (codes ": read failed") first) (is ∙ sym are) written says)
  has_run (Err (Stopped Write)) e k are says = WithOutcome e.left e.is_left e.read e.keeps_up (subst (λ (x : Outcome). IsOutcome program x out out' err err' status) e.is_due (Part e.leaves says are))
  has_run (Err OutOfMemory) e k are says = NoMemory e.left e.is_left e.read e.keeps_up k e.leaves says are
  has_run end e k are says = WithOutcome e.left e.is_left e.read e.keeps_up (all_of e.left e.due _ e.is_due e.leaves.0 (e.leaves.1 ∙ sym are) e.leaves.2 says)

-- no end has a status above 3
pub end_low : {R : Type 0} (s : Speech R) (failure : Failure) → s.faulty ≤ 3 → failure_status s.faulty failure ≤ 3
end_low s (Stopped (Dump input line n)) low = low
end_low s (Stopped (Unmatched place)) low = low
end_low s failure low = omega arith
