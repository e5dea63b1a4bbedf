-- How a run of the job ends, from what the comparison and the line after it leave.
use Rattle.std.proofs.Common.{◌≡◌, ◌==◌, ◌||◌, ◌&&◌, ℕ, ◌+◌, Bool, true, false, not, cond, nat_lt, List, [], ◌++◌, length, unwrap_or, take, Option, Some, Result, Ok, Err, refl, sym, ap, subst, ◌∙◌}
use Rattle.std.specs.Io.KnownBytes.{Appends}
use Rattle.vcd_model.specs.Bytes.{is_empty}
use Rattle.vcd_model.specs.Compare.{Asked as Query, count_line}
use Rattle.vcd_model.specs.Header.{Header}
use Rattle.vcd_model.specs.Input.{Input}
use Rattle.vcd_model.specs.Items.{time_after}
use Rattle.vcd_model.specs.Outcome.{Outcome}
use Rattle.vcd_model.specs.Tokens.{Token}
use Rattle.vcd_model.specs.Within.{Names, answer_in, late, outermost, refused, unselected}
use Rattle.vcd_text.proofs.Writes.{appends-none, both-written, some-behind}
use Rattle.vcd_text.specs.Device.{Device, Supply, Writes, WritesSome}
use Rattle.vcd_text.specs.Feed.{HasGiven, limit_of}
use Rattle.vcd_text.specs.declared.device.Source.{Ghosts}
use Rattle.vcd_text.specs.declared.feed.Feed.{Feed}
use Rattle.vcd_body.specs.declared.answer.Done.{Done}
use Rattle.vcd_body.specs.declared.answer.Done.TheVariants.{Early, Whole}
use Rattle.vcd_body.specs.declared.answer.Stop.{Stop}
use Rattle.vcd_body.specs.declared.answer.Stop.TheVariants.{Dump, Read, Write, Unmatched}
use Rattle.vcd_run.specs.Outcomes.{Belongs}
use Rattle.vcd_run.specs.Run.{BodyGives, ReadsNeeded, left_of}
use Rattle.vcd_compare.proofs.Outcomes.{answers_give_outcomes, left_same, sound}
use Rattle.vcd_compare.specs.Pairs.{ArePairs}
use Rattle.vcd_compare.specs.Unselected.{IsFaultOf}
use Rattle.vcd_compare.specs.Run.{Answers as Told, Tells, done_of, plan_within}
use Rattle.vcd_compare.specs.declared.pairs.Pairs.{Pairs}
use Rattle.vcd_compare.specs.declared.unselected.PairsFault.{PairsFault}
use Rattle.vcd_compare.specs.declared.unselected.PairsFault.TheVariants as fault
use Rattle.vcd_compare.specs.declared.whole.Answer.{Answer as Compared}
use Rattle.vcd_compare_words.specs.declared.job.Comparing.{Comparing}
use Rattle.vcd_body.proofs.Results.{writes-none}
use Rattle.vcd_job.proofs.AfterLemmas.{Adds, EndsAfter, no_room, ran_over, refused_here, stop_leaves}
use Rattle.vcd_job.specs.Ends.{Leaves, settled_for}
use Rattle.vcd_job.specs.Failure.{stop_failure}
use Rattle.vcd_job.specs.declared.answer.Answer.{Answer}
use Rattle.vcd_job.specs.declared.answer.Answer.TheVariants.{Status, Refused}
use Rattle.vcd_job.specs.declared.failure.Failure.{Failure}
use Rattle.vcd_job.specs.declared.failure.Failure.TheVariants.{Stopped, OutOfMemory}
use Rattle.vcdkit_compare.specs.Calls.{Finishes, HasPairsOf, fault_end, is_whole, speech_in}
use Rattle.vcdkit_compare.specs.Work.{course_if, course_of, name_of, names_of, query_of, ways_of, work_in}
use Rattle.vcdkit_compare.specs.declared.job.Refusal.{Refusal}
use Rattle.vcdkit_compare.specs.declared.job.Refusal.TheVariants.{Late, Unselected}
use Rattle.vcdkit_compare.proofs.WorkLemmas.{kept}

-- ---- the line after the comparison

-- what it is answered with, if it did not fail, and what is written then
abbrev pub EndsWith : Comparing → ℕ → Result Compared Stop → (mid out' : Device) → Result (Answer Refusal) Failure → Type 0
EndsWith job count (Ok answer) mid out' end = Finishes job.asked answer count mid out' end
EndsWith job count (Err stop) mid out' end = (end ≡ Err (stop_failure stop 0)) × (out' ≡ mid)

module _ (job : Comparing) (count : ℕ) (mid out' : Device) where
  added : (r : Result Compared Stop) (end : Result (Answer Refusal) Failure) → EndsWith job count r mid out' end → Adds mid out'
  added (Ok answer) (Ok (Status n)) (on, is, written) = (count_line count, written.0)
  added (Ok answer) (Ok (Refused (Late last))) (late, is, same) = ([], subst (λ (d : Device). Appends mid.held d.held []) (sym same) (appends-none mid.held))
  added (Ok answer) (Ok (Refused (Unselected f))) given = absurd given
  added (Ok answer) (Err (Stopped Write)) (on, some) = (take some.0.0 (count_line count), some.0.1)
  added (Ok answer) (Err (Stopped (Dump input line f))) given = absurd given
  added (Ok answer) (Err (Stopped (Read input))) given = absurd given
  added (Ok answer) (Err (Stopped (Unmatched place))) given = absurd given
  added (Ok answer) (Err OutOfMemory) given = absurd given
  added (Err stop) end (is, same) = ([], subst (λ (d : Device). Appends mid.held d.held []) (sym same) (appends-none mid.held))

-- ---- the outcome

module _ (job : Comparing) (h : Header) (name : List ℕ) (ps : Pairs) (are : ArePairs ps h (query_of job) (outermost (names_of job))) where
  abbrev q : Query
  q = query_of job

  abbrev ns : List Names
  ns = outermost (names_of job)

  abbrev pairs : ℕ
  pairs = length ps.rows.items

  -- a status is that of the outcome of these lines, and the count is its last line
  status_leaves : (o : Outcome) (lines : List ℕ) (differs : Bool) (n : ℕ) (out mid out' : Device) → o ≡ answer_in q h ns lines
      → differs ≡ not (is_empty lines) → Writes out mid lines → n ≡ cond (differs || pairs == 0) 1 0 → Writes mid out' (count_line pairs)
      → Leaves (speech_in job) o name out out' (Ok (Status n))
  status_leaves o lines differs n out mid out' is tells first n_is last =
      let all : o ≡ record { output = lines ++ count_line pairs; message = []; status = cond (differs || pairs == 0) 1 0 } = is ∙ answers_give_outcomes q h ns ps lines differs are tells in (
        ap (λ (x : Outcome). x.message) all,
        ap (λ (x : Outcome). x.status) all ∙ sym n_is,
        subst (λ (l : List ℕ). Writes out out' l) (sym (ap (λ (x : Outcome). x.output) all)) (both-written out mid out' lines (count_line pairs) first last),
      )

  -- a failed write of the count leaves a prefix
  part_leaves : (o : Outcome) (lines : List ℕ) (differs : Bool) (out mid out' : Device) → o ≡ answer_in q h ns lines → differs ≡ not (is_empty lines)
      → Writes out mid lines → WritesSome mid out' (count_line pairs) → WritesSome out out' o.output
  part_leaves o lines differs out mid out' is tells first last =
      let all : o ≡ record { output = lines ++ count_line pairs; message = []; status = cond (differs || pairs == 0) 1 0 } = is ∙ answers_give_outcomes q h ns ps lines differs are tells in
      subst (λ (l : List ℕ). WritesSome out out' l) (sym (ap (λ (x : Outcome). x.output) all)) (some-behind out mid out' lines (count_line pairs) first last)

  -- a dump that is not late has the outcome of its lines
  on_time : (last from : ℕ) (lines : List ℕ) → nat_lt last from ≡ false → cond (nat_lt last from) (late from last lines) (answer_in q h ns lines) ≡ answer_in q h ns lines
  on_time last from lines on = rw on refl

  too_late : (last from : ℕ) (lines : List ℕ) → nat_lt last from ≡ true → cond (nat_lt last from) (late from last lines) (answer_in q h ns lines) ≡ late from last lines
  too_late last from lines is = rw is refl

  module _ (o : Outcome) (out mid out' : Device) where
    abbrev ways_belong : Compared → Done → Type 0
    ways_belong answer d = Belongs (Tells answer.differs answer.last) (ways_of q h ns name) o out mid (Ok d)

    abbrev left_as : Result (Answer Refusal) Failure → Type 0
    left_as end = Leaves (speech_in job) o name out out' end

    answer_leaves : (answer : Compared) (d : Done) (end : Result (Answer Refusal) Failure) → answer.done ≡ d → ways_belong answer d
        → Finishes job.asked answer pairs mid out' end → left_as end
    answer_leaves answer Whole (Ok (Status n)) done (items, lines, is, written, told) (on, n_is, more) =
        let not_late : nat_lt (time_after items) job.asked.from ≡ false = ap (λ t. nat_lt t job.asked.from) (sym told.1)
        ∙ sym (ap (λ d. is_whole d && nat_lt answer.last job.asked.from) done) ∙ on in
        status_leaves o lines answer.differs n out mid out' (is ∙ on_time (time_after items) job.asked.from lines not_late) told.0 written n_is more
    answer_leaves answer Early (Ok (Status n)) done (items, lines, is, written, told) (on, n_is, more) = status_leaves o lines answer.differs n out mid out' is told.0 written n_is more
    answer_leaves answer Whole (Ok (Refused (Late t))) done (items, lines, is, written, told) (late_is, t_is, same) =
        let ends : nat_lt (time_after items) job.asked.from ≡ true = ap (λ t. nat_lt t job.asked.from) (sym told.1)
        ∙ sym (ap (λ d. is_whole d && nat_lt answer.last job.asked.from) done) ∙ late_is in
        let all : o ≡ late job.asked.from (time_after items) lines = is ∙ too_late (time_after items) job.asked.from lines ends in (
          ap (λ (x : Outcome). x.message) all ∙ ap (λ n. (late job.asked.from n lines).message) (sym told.1 ∙ sym t_is),
          ap (λ (x : Outcome). x.status) all,
          subst (λ (d : Device). Writes out d o.output) (sym same) (subst (λ (l : List ℕ). Writes out mid l) (sym (ap (λ (x : Outcome). x.output) all)) written),
        )
    answer_leaves answer Early (Ok (Refused (Late t))) done b (late_is, t_is, same) =
        let never : false ≡ true = sym (ap (λ d. is_whole d && nat_lt answer.last job.asked.from) done) ∙ late_is in absurd (cc)
    answer_leaves answer d (Ok (Refused (Unselected f))) done b given = absurd given
    answer_leaves answer Whole (Err (Stopped Write)) done (items, lines, is, written, told) (on, some) =
        let not_late : nat_lt (time_after items) job.asked.from ≡ false = ap (λ t. nat_lt t job.asked.from) (sym told.1)
        ∙ sym (ap (λ d. is_whole d && nat_lt answer.last job.asked.from) done) ∙ on in
        part_leaves o lines answer.differs out mid out' (is ∙ on_time (time_after items) job.asked.from lines not_late) told.0 written some
    answer_leaves answer Early (Err (Stopped Write)) done (items, lines, is, written, told) (on, some) = part_leaves o lines answer.differs out mid out' is told.0 written some
    answer_leaves answer d (Err (Stopped (Dump input line f))) done b given = absurd given
    answer_leaves answer d (Err (Stopped (Read input))) done b given = absurd given
    answer_leaves answer d (Err (Stopped (Unmatched place))) done b given = absurd given
    answer_leaves answer d (Err OutOfMemory) done b given = absurd given

  leaves : (r : Result Compared Stop) (end : Result (Answer Refusal) Failure) (o : Outcome) (out mid out' : Device)
      → Belongs (Told r) (ways_of q h ns name) o out mid (done_of r) → EndsWith job pairs r mid out' end → Leaves (speech_in job) o name out out' end
  leaves (Ok answer) end o out mid out' belongs finishes = answer_leaves o out mid out' answer answer.done end refl belongs finishes
  leaves (Err stop) end o out mid out' belongs (is, same) = subst (λ (e : Result (Answer Refusal) Failure). Leaves (speech_in job) o name out out' e) (sym is)
      (subst (λ (d : Device). Leaves (speech_in job) o name out d (Err (stop_failure stop 0))) (sym same)
      (stop_leaves (speech_in job) (Told (Err stop)) (ways_of q h ns name) name (λ text f. refl) o out mid stop belongs))

-- ---- a run over a body

-- what settles it
settled_placed : (job : Comparing) (count : ℕ) (mid out' : Device) (r : Result Compared Stop) (end : Result (Answer Refusal) Failure)
    (run header : List Token → Bool) → EndsWith job count r mid out' end → settled_for end run header ≡ run
settled_placed job count mid out' (Ok answer) (Ok end) run header given = refl
settled_placed job count mid out' (Ok answer) (Err (Stopped stop)) run header given = refl
settled_placed job count mid out' (Ok answer) (Err OutOfMemory) run header given = absurd given
settled_placed job count mid out' (Err (Dump input line f)) end run header (is, same) = ap (λ (e : Result (Answer Refusal) Failure). settled_for e run header) is
settled_placed job count mid out' (Err (Read input)) end run header (is, same) = ap (λ (e : Result (Answer Refusal) Failure). settled_for e run header) is
settled_placed job count mid out' (Err Write) end run header (is, same) = ap (λ (e : Result (Answer Refusal) Failure). settled_for e run header) is
settled_placed job count mid out' (Err (Unmatched place)) end run header (is, same) = ap (λ (e : Result (Answer Refusal) Failure). settled_for e run header) is

-- a comparison of the pairs was run, and answered
pub compared : (job : Comparing) (limit chunk read : ℕ) (i : Input) (front : List Token) (h : Header) (name : List ℕ) (ps : Pairs)
    (before after : Supply) (out mid out' : Device) (r : Result Compared Stop) (end : Result (Answer Refusal) Failure) → HasPairsOf job h ps
    → BodyGives (Told r) (plan_within (query_of job) h (outermost (names_of job))) h i front limit read out mid (done_of r)
    → ReadsNeeded (plan_within (query_of job) h (outermost (names_of job))) h limit chunk i (left_of i read r) front before after out mid
    → EndsWith job (length ps.rows.items) r mid out' end
    → EndsAfter (work_in job) (speech_in job) limit chunk i front h name before after out out' end
compared job limit chunk read i front h name ps before after out mid out' r end has gives needed ended =
    let q = query_of job in
    let ns = outermost (names_of job) in
    ran_over (work_in job) (speech_in job) limit chunk i front h name (Told r) (course_of q ns name h) read before after out mid out' (done_of r) end
    (ap (λ u. course_if u q (names_of job) name h) has.selected) (kept q h ns name) (sound q h ns) gives
    (subst (λ (l : Input). ReadsNeeded (plan_within q h ns) h limit chunk i l front before after out mid) (sym (left_same i read r)) needed)
    (added job (length ps.rows.items) mid out' r end ended) (λ run header. settled_placed job (length ps.rows.items) mid out' r end run header ended)
    (λ o belongs. leaves job h name ps has.are r end o out mid out' belongs ended)

-- ---- an end without output, before anything was read after the header

module _ {X : Type 0} {x : Ghosts X} (job : Comparing) (limit chunk : ℕ) (i : Input) (front : List Token) (h : Header) (name : List ℕ)
    (before : Supply) (feed : Feed X x) (out : Device) (l : limit_of feed ≡ limit) (st : HasGiven i front feed) where
  -- a name selects nothing
  unselected_ends : (f : PairsFault) (one : List ℕ) → unselected (query_of job) h (names_of job) ≡ Some one → name_of job f ≡ one
      → EndsAfter (work_in job) (speech_in job) limit chunk i front h name before before out out (Ok (Refused (Unselected f)))
  unselected_ends f one found named =
      refused_here (work_in job) (speech_in job) limit chunk i front h name before feed out l st (refused one) (Ok (Refused (Unselected f)))
      (ap (λ u. course_if u (query_of job) (names_of job) name h) found) (ap (λ n. (refused n).message) (sym named), refl, writes-none out)

  -- there are no pairs
  pub no_pairs : (f : PairsFault) → IsFaultOf (query_of job) h (names_of job) f
      → EndsAfter (work_in job) (speech_in job) limit chunk i front h name before before out out (fault_end f)
  no_pairs (fault.One at) (one, there, found) = unselected_ends (fault.One at) one found (ap (λ (n : Option (List ℕ)). unwrap_or n []) there)
  no_pairs (fault.Other at) (one, there, found) = unselected_ends (fault.Other at) one found (ap (λ (n : Option (List ℕ)). unwrap_or n []) there)
  no_pairs (fault.Exception at) (one, there, found) = unselected_ends (fault.Exception at) one found (ap (λ (n : Option (List ℕ)). unwrap_or n []) there)
  no_pairs fault.OutOfMemory given = no_room (work_in job) (speech_in job) limit chunk i front h name before feed out l st
