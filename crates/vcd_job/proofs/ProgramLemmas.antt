-- What a program over one input leaves, from what a run of its job leaves.
use Rattle.vcd_job.proofs.Cited.{◌≡◌, ◌≢◌, ◌+◌, ℕ, Bool, true, false, List, [], ◌∷◌, length, map, get_or, nat_lt, Option, Some, Result, refl, sym, ap, subst, ◌∙◌, arith, header_of, Header, HeaderPhrase, header_grammar, Input, declarations_allowed, is_header_over, Ending, Reading, reading_of, phrases_of, AtLast, Token, Device, failures_then, Supply, ReadsAsNeeded, KeepsUp, is_more_due, Read, Failure, Stopped, CountsRead, CountsReads, EndsAtRead, EndsAtReadOf, failure_of, Tells, Answer, Work, Speech, end_message, end_status, settled_by, settled_at, due_by, due_at}
use Rattle.std.specs.Prelude.{set}
use Rattle.vcd_job.proofs.HeaderLemmas.{reads_for}
use Rattle.vcd_job.proofs.RunLemmas.{one_last}
use Rattle.vcd_job.specs.Calls.{Answers}
use Rattle.vcd_job.specs.Failure.{writes_failed}
use Rattle.vcd_job.specs.OneProgram.{EndsAlone, WasRead}
use Rattle.vcd_job.specs.Work.{due_of, settled_of}

-- ---- one reader

pub one_of : {X : Type 0} (xs : List X) (d : X) → length xs ≡ 1 → xs ≡ get_or xs 0 d ∷ []
one_of (x ∷ []) d h = refl
one_of xs d h = absurd (omega arith)

pub set_one : {X : Type 0} (xs : List X) (x : X) → length xs ≡ 1 → set xs 0 x ≡ x ∷ []
set_one (x ∷ []) y h = refl
set_one xs y h = absurd (omega arith)

-- the only reader counts its failed read
counts_one : {X : Type 0} (failures : X → ℕ) (r r' : X) (why : Option Failure) → CountsRead 0 (failures r) (failures r') why
    → CountsReads (map failures (r ∷ [])) (map failures (r' ∷ [])) why
counts_one failures r r' (Some (Stopped (Read input))) (first, e) = subst
    (λ n. CountsReads (map failures (r ∷ [])) (map failures (r' ∷ [])) (Some (Stopped (Read n)))) (sym first) (omega arith, ap (λ n. n ∷ []) e)
counts_one failures r r' why e = ap (λ n. n ∷ []) e

module _ {X : Type 0} (failures : X → ℕ) (readers readers' : List X) (r r' : X) (is : readers ≡ r ∷ []) (is' : readers' ≡ r' ∷ []) where
  counts_alone : (why : Option Failure) → CountsRead 0 (failures r) (failures r') why → CountsReads (map failures readers) (map failures readers') why
  counts_alone why counts = subst (λ (l : List X). CountsReads (map failures l) (map failures readers') why) (sym is)
      (subst (λ (l : List X). CountsReads (map failures (r ∷ [])) (map failures l) why) (sym is') (counts_one failures r r' why counts))

  pub passes_alone : {W : Type 0} (kept_back : W → ℕ) (out out' : W) → (failures r' ≢ failures r → kept_back out ≡ 0 → kept_back out' ≡ 0)
      → map failures readers' ≢ map failures readers → kept_back out ≡ 0 → kept_back out' ≡ 0
  passes_alone kept_back out out' one more before = one (λ same. more (ap (map failures) is' ∙ ap (λ n. n ∷ []) same ∙ sym (ap (map failures) is))) before

  -- a job that ends so over its reader ends so as a program
  pub ends_alone : {R : Type 0} (last_failed : X → Bool) (program : List ℕ) (answers : ℕ → Type 0) (s : Speech R) (names : List (List ℕ))
      (out out' err err' : Device) (status : ℕ)
      → ((end : Result (Answer R) Failure) × Answers answers end × CountsRead 0 (failures r) (failures r') (failure_of end)
      × (failures_then (writes_failed (failure_of end)) out' ≡ out.failures + writes_failed (failure_of end))
      × (status ≡ end_status s names end) × Tells program err err' (end_message s names end) × EndsAtRead (last_failed r') (failure_of end))
      → EndsAlone program answers s names (map failures readers) (map failures readers') (map last_failed readers') out out' err err' status
  ends_alone last_failed program answers s names out out' err err' status e = (
    e.0,
    e.1,
    counts_alone (failure_of e.0) e.2,
    e.3,
    e.4,
    e.5,
    subst (λ (l : List X). EndsAtReadOf (map last_failed l) (failure_of e.0)) (sym is')
        (one_last last_failed (r ∷ []) 0 (failures r) (failures r') r' (failure_of e.0) (omega arith) e.2 e.6),
  )

-- ---- whatever the name of the input

-- what settles a job and what is due do not depend on the name of its input
abbrev pub IsUnnamed : Work → Type 0
IsUnnamed work = (name : List ℕ) (h : Header) (ts : List Token)
    → (settled_by (work.course name h) h ts ≡ settled_by (work.course [] h) h ts) × (due_by (work.course name h) h ts ≡ due_by (work.course [] h) h ts)

module _ (work : Work) (same : IsUnnamed work) (limit chunk : ℕ) (name : List ℕ) where
  settled_any : (most : ℕ) (ts : List Token) → settled_of work name most ts ≡ settled_of work [] most ts
  unfolding settled_of
  settled_any most ts = by_end (reading_of (header_grammar most) ts) (reading_of (header_grammar most) ts).ending
    where
      by_end : (r : Reading HeaderPhrase) (x : Ending) → settled_at work name r x ≡ settled_at work [] r x
      by_end r AtLast = (same name (header_of (phrases_of r.placed)) r.rest).0
      by_end r x = refl

  due_any : (most : ℕ) (ts : List Token) → due_of work name most ts ≡ due_of work [] most ts
  unfolding due_of
  due_any most ts = by_end (reading_of (header_grammar most) ts) (reading_of (header_grammar most) ts).ending
    where
      by_end : (r : Reading HeaderPhrase) (x : Ending) → due_at work name r x ≡ due_at work [] r x
      by_end r AtLast = (same name (header_of (phrases_of r.placed)) r.rest).1
      by_end r x = refl

  module _ (old new : Supply) (i : Input) (out out' : Device) (up : KeepsUp (due_of work name declarations_allowed) limit chunk i [] old new out out') where
    keeps_any : KeepsUp (due_of work [] declarations_allowed) limit chunk i [] old new out out'
    keeps_any = (
      up.0,
      up.1,
      reads_for limit chunk old new i [] _ (is_more_due (due_of work [] declarations_allowed) (length up.0))
          (λ ts e. ap (λ (l : List ℕ). nat_lt (length up.0) (length l)) (sym (due_any declarations_allowed ts)) ∙ e) up.2,
    )

    -- a run with an outcome read so
    pub read_whole : ReadsAsNeeded limit chunk old new i [] (settled_of work name declarations_allowed) → WasRead work limit chunk true old new i out out'
    read_whole read = record {
      read = reads_for limit chunk old new i [] _ (settled_of work [] declarations_allowed) (λ ts e. sym (settled_any declarations_allowed ts) ∙ e) read;
      keeps_up = keeps_any;
    }

    -- and one whose memory ran out
    pub read_head : ReadsAsNeeded limit chunk old new i [] (is_header_over declarations_allowed) → WasRead work limit chunk false old new i out out'
    read_head read = record { read = read; keeps_up = keeps_any }
