-- A command over one input, as a job: its outcome, what settles it and what is due are those of the
-- definitions.
use Rattle.vcdkit.proofs.Cited.{◌≡◌, ◌==◌, ◌&&◌, ℕ, Bool, true, false, not, cond, nat_lt, List, [], ◌∷◌, length, map, filter_map, is_ok, Option, Some, None, Result, Ok, Err, refl, sym, ap, subst, ◌∙◌, ℤ, string_bytes, list_all, Input, Token, stream_of, header_of, Header, HeaderPhrase, header_grammar, header_fault_of, Opened, Outcome, Request, declarations_allowed, over_dumps, fault_outcome, refusal_outcome, name_at, names_of, moment_ticks, asked, Fault, Ending, Reading, reading_of, phrases_of, AtLast, is_settled_at, is_settled_behind, is_settled_by, due_after, due_at, due_of_request, is_merge, model_want, names_asked, request_for, task_request, taskless, Task, times_with, Supply, supply, is_more_due, Device, HasRun, IsOutcome, program_name, settled_by, due_by, over_header, course_by, course_if, course_of, work_of}
use Rattle.std.specs.Prelude.{◌||◌, is_some}
use Rattle.vcd_model.specs.Due.{due, due_of_body}
use Rattle.vcd_model.specs.Job as model
use Rattle.vcd_model.specs.Job.{outcome, request_of}
use Rattle.vcd_model.specs.Outcome.{fault_in, items_in, over_body, over_dump, unmatched_outcome}
use Rattle.vcd_model.specs.Selection.{first_unmatched}
use Rattle.vcd_model.specs.Settled.{body_settles, is_settled}
use Rattle.vcd_words.specs.declared.job.Want.{Want}
use Rattle.vcd_words.specs.declared.job.Want.TheVariants as want
use Rattle.vcd_engine.proofs.RunLemmas.{over_same}
use Rattle.vcd_job.proofs.HeaderLemmas.{reads_for}
use Rattle.vcd_job.proofs.OutcomeLemmas.{head_of, not_opened, opened_as, opened_is}
use Rattle.vcd_job.specs.Ends.{HasRun as JobRun}
use Rattle.vcd_job.specs.Work.{due_at as job_due_at, due_of, fault_as, outcome_of, settled_at as job_settled_at, settled_of}
use Rattle.vcdkit.specs.Run.HasRun.{NoMemory, WithOutcome}
use Rattle.vcdkit.proofs.NeededLemmas.{none_others}
use Rattle.vcdkit.proofs.TurnLemmas.{one_in_turn, one_keeps_up}

-- ---- what is asked for, with times in ticks

-- a cut is asked for, and its times are not refused
cut_is : (units : Bool) (from to : Result ℕ ℕ) (task : Request) → model.cut_request units from to ≡ Ok task → (a b : ℕ) × (task ≡ Request.Cut a b)
cut_is units (Ok from) (Ok to) task e = by_test (units && nat_lt to from) e
  where
    by_test : (b : Bool) → cond b (Err model.Refusal.FromAboveTo) (Ok (Request.Cut from to)) ≡ Ok task → (a b : ℕ) × (task ≡ Request.Cut a b)
    by_test true e = cc
    by_test false e = (from, to, cc)
cut_is units from to task e = cc

-- a sample is asked for, and its times are not refused
at_ticks : (rises : Bool) (times : List ℕ) (names : List (List ℕ)) (task : Request)
    → cond rises (Err model.Refusal.NotRising) (Ok (Request.Sample times names)) ≡ Ok task → task ≡ Request.Sample times names
at_ticks true times names task e = cc
at_ticks false times names task e = cc

sample_is : (units : Bool) (ks : List (Result ℕ ℕ)) (names : List (List ℕ)) (task : Request) → model.sample_request units ks names ≡ Ok task
    → (times : List ℕ) × (task ≡ Request.Sample times names)
sample_is units ks names task e = by_test (list_all is_ok ks) e
  where
    by_test : (b : Bool) → cond b (model.sample_at units (filter_map model.ok_of ks) names) (Err (model.first_refusal ks)) ≡ Ok task → (times : List ℕ) × (task ≡ Request.Sample times names)
    by_test true e = (filter_map model.ok_of ks, at_ticks (units && not (model.do_rise (filter_map model.ok_of ks))) (filter_map model.ok_of ks) names task e)
    by_test false e = cc

module _ (wanted : Want) (names : List (List ℕ)) (o : Opened) where
  -- a request that is no merge has one input
  over_request : (task : Request) → request_of o.header.scale (model_want wanted) ≡ Ok task → model.over_opened (model_want wanted) names (o ∷ []) ≡ over_dumps task names (o ∷ [])
  over_request task e = rw (e, model.over_opened) refl

  -- times are refused
  pub over_none : (why : model.Refusal) → request_of o.header.scale (model_want wanted) ≡ Err why
      → model.over_opened (model_want wanted) names (o ∷ []) ≡ model.refusal_outcome (name_at names 0) why
  over_none why e = rw (e, model.over_opened) refl

-- a request that is made of one input, with these names that have to select something
abbrev IsOfOne : Want → Request → Type 0
IsOfOne wanted task = (names_of task ≡ names_asked wanted) × ((names : List (List ℕ)) (o : Opened) → over_dumps task names (o ∷ []) ≡ over_dump task (name_at names 0) o)

of_one : (wanted : Want) (scale : Option ℤ) (task : Request) → is_merge wanted ≡ false → request_of scale (model_want wanted) ≡ Ok task → IsOfOne wanted task
unfolding request_of
of_one want.Check scale task one e = let same : Request.Check ≡ task = cc in subst (IsOfOne want.Check) same (refl, λ names o. refl)
of_one want.List scale task one e = let same : Request.Listing ≡ task = cc in subst (IsOfOne want.List) same (refl, λ names o. refl)
of_one (want.Pick asked) scale task one e = let same : Request.Pick (map string_bytes asked.items) ≡ task = cc in subst (IsOfOne (want.Pick asked)) same (refl, λ names o. refl)
of_one (want.Cut from to) scale task one e =
    let first = moment_ticks scale (asked from) true in
    let last = moment_ticks scale (asked to) false in
    let cut = cut_is (model.has_unit (asked from ∷ asked to ∷ [])) first last task e in
    subst (IsOfOne (want.Cut from to)) (sym cut.2) (refl, λ names o. refl)
of_one (want.Sample numbers units names) scale task one e =
    let asked = times_with numbers.items units.items in
    let sample = sample_is (model.has_unit asked) (map (λ m. moment_ticks scale m false) asked) (map string_bytes names.items) task e in
    subst (IsOfOne (want.Sample numbers units names)) (sym sample.1) (refl, λ names o. refl)
of_one (want.Edges names) scale task one e = let same : Request.Edges (map string_bytes names.items) ≡ task = cc in subst (IsOfOne (want.Edges names)) same (refl, λ names o. refl)
of_one want.Merge scale task one e = cc

-- no task over the items of a body is that of a list
pub listing_due : (wanted : Want) → is_merge wanted ≡ false → taskless wanted ≡ Request.Listing
listing_due want.Merge one = cc
listing_due wanted one = refl

-- what is asked where no times are refused, as the request of a task or a list
pub asked_for : (wanted : Want) (task : Option Task) → is_merge wanted ≡ false → task_request wanted (Ok task) ≡ Ok (request_for task)
asked_for wanted (Some task) one = refl
asked_for wanted None one = ap (λ (r : Request). Ok r) (listing_due wanted one)

pub names_due : (wanted : Want) (scale : Option ℤ) (task : Request) → is_merge wanted ≡ false → request_of scale (model_want wanted) ≡ Ok task → names_of task ≡ names_asked wanted
names_due wanted scale task one e = (of_one wanted scale task one e).0

pub over_one : (wanted : Want) (names : List (List ℕ)) (o : Opened) (task : Request) → is_merge wanted ≡ false
    → request_of o.header.scale (model_want wanted) ≡ Ok task → model.over_opened (model_want wanted) names (o ∷ []) ≡ over_dump task
    (name_at names 0) o
over_one wanted names o task one e = over_request wanted names o task e ∙ (of_one wanted o.header.scale task one e).1 names o

-- ---- a request over a header

module _ (task : Request) (name : List ℕ) (h : Header) (ts : List Token) where
  settled_if : (place : Option ℕ) → settled_by (course_if place task name h) h ts ≡ (is_some place || body_settles task h ts)
  settled_if (Some unmatched) = refl
  settled_if None = refl

  due_if : (place : Option ℕ) → due_by (course_if place task name h) h ts ≡ due_of_body place task h ts
  due_if (Some unmatched) = refl
  due_if None = refl

pub settled_same : (task : Request) (name : List ℕ) (h : Header) (ts : List Token) → settled_by (course_of task name h) h ts ≡ is_settled_behind task h ts
settled_same Request.Listing name h ts = refl
settled_same task name h ts = settled_if task name h ts (first_unmatched (names_of task) h.declarations)

pub due_same : (task : Request) (name : List ℕ) (h : Header) (ts : List Token) → due_by (course_of task name h) h ts ≡ due_after task h ts
due_same Request.Listing name h ts = refl
due_same task name h ts = due_if task name h ts (first_unmatched (names_of task) h.declarations)

over_if : (task : Request) (name : List ℕ) (o : Opened) (place : Option ℕ)
    → over_header (course_if place task name o.header) o ≡ elim place [ Some i ↦ unmatched_outcome (name_at (names_of task) i) | None ↦ over_body task o.header (items_in o) name (fault_in o) ]
over_if task name o (Some i) = refl
over_if task name o None = over_same task o.header (items_in o) name (fault_in o)

pub over_same_dump : (task : Request) (name : List ℕ) (o : Opened) → over_header (course_of task name o.header) o ≡ over_dump task name o
unfolding over_dump
over_same_dump Request.Listing name o = refl
over_same_dump task name o = over_if task name o (first_unmatched (names_of task) o.header.declarations)

-- ---- what is wanted of an input

module _ (name : List ℕ) (h : Header) (ts : List Token) where
  settled_request : (r : Result Request model.Refusal) → settled_by (course_by r name h) h ts ≡ is_settled_by r h ts
  settled_request (Ok task) = settled_same task name h ts
  settled_request (Err why) = refl

  due_request : (r : Result Request model.Refusal) → due_by (course_by r name h) h ts ≡ due_of_request r h ts
  due_request (Ok task) = due_same task name h ts
  due_request (Err model.Refusal.NoTimescale) = refl
  due_request (Err why) = refl

module _ (wanted : model.Want) (name : List ℕ) (most : ℕ) (ts : List Token) where
  settled_is : settled_of (work_of wanted) name most ts ≡ is_settled wanted most ts
  unfolding settled_of is_settled
  settled_is = by_end (reading_of (header_grammar most) ts) (reading_of (header_grammar most) ts).ending
    where
      by_end : (r : Reading HeaderPhrase) (x : Ending) → job_settled_at (work_of wanted) name r x ≡ is_settled_at wanted r x
      by_end r AtLast = let h = header_of (phrases_of r.placed) in settled_request name h r.rest (request_of h.scale wanted)
      by_end r x = refl

  due_is : due_of (work_of wanted) name most ts ≡ due wanted most ts
  unfolding due_of due
  due_is = by_end (reading_of (header_grammar most) ts) (reading_of (header_grammar most) ts).ending
    where
      by_end : (r : Reading HeaderPhrase) (x : Ending) → job_due_at (work_of wanted) name r x ≡ due_at wanted r x
      by_end r AtLast = let h = header_of (phrases_of r.placed) in due_request name h r.rest (request_of h.scale wanted)
      by_end r x = refl

-- the fault of a header
fault_same : (name : List ℕ) (f : Fault) → fault_as 1 [] name f ≡ fault_outcome [] name f
fault_same name f = by_number (f.number == 31) refl
  where
    by_number : (b : Bool) → (f.number == 31) ≡ b → fault_as 1 [] name f ≡ fault_outcome [] name f
    by_number true e = rw (e, fault_outcome) refl
    by_number false e = rw (e, fault_outcome) refl

module _ (wanted : Want) (one : is_merge wanted ≡ false) (limit : ℕ) (name : List ℕ) (i : Input) where
  abbrev asks : model.Want
  asks = model_want wanted

  over_request_same : (o : Opened) → over_header (course_by (request_of o.header.scale asks) name o.header) o ≡ model.over_opened asks (name ∷ []) (o ∷ [])
  over_request_same o = by_request (request_of o.header.scale asks) refl
    where
      by_request : (r : Result Request model.Refusal) → request_of o.header.scale asks ≡ r
          → over_header (course_by (request_of o.header.scale asks) name o.header) o ≡ model.over_opened asks (name ∷ []) (o ∷ [])
      by_request (Ok task) e = ap (λ q. over_header (course_by q name o.header) o) e ∙ over_same_dump task name o ∙ sym (over_one wanted (name ∷ []) o task one e)
      by_request (Err why) e = ap (λ q. over_header (course_by q name o.header) o) e ∙ sym (over_none wanted (name ∷ []) o why e)

  outcome_is : outcome_of (work_of asks) limit name i ≡ outcome asks limit (name ∷ []) (i ∷ [])
  unfolding outcome_of outcome
  outcome_is = by_fault (header_fault_of (stream_of limit i) (head_of limit i)) refl
    where
      by_fault : (f : Option Fault) → header_fault_of (stream_of limit i) (head_of limit i) ≡ f → outcome_of (work_of asks) limit name i ≡ outcome asks limit (name ∷ []) (i ∷ [])
      by_fault None e = rw (opened_is limit i e, outcome_of, outcome) (over_request_same (opened_as limit i (head_of limit i)))
      by_fault (Some f) e = rw (not_opened limit i f e, outcome_of, outcome) (fault_same name f)

-- ---- a run

module _ (wanted : Want) (one : is_merge wanted ≡ false) (limit chunk : ℕ) (out out' err err' : Device) (status : ℕ) where
  -- a run of a job over one input is one of its command
  ran : (name text : List ℕ) (s t : Supply) → JobRun program_name (work_of (model_want wanted)) limit chunk name text s t out out' err err' status
      → HasRun (model_want wanted) limit chunk (name ∷ []) (text ∷ []) (s ∷ []) (t ∷ []) out out' err err' status
  ran name text s t (JobRun.WithOutcome left is_left read up leaves) =
      let w = model_want wanted in
      WithOutcome (left ∷ []) (
        is_left,
        reads_for limit chunk s t left [] _ (is_settled w declarations_allowed)
            (λ ts e. sym (settled_is w name declarations_allowed ts) ∙ e) read,
        refl,
      ) (none_others wanted limit chunk _ _ _ one)
      (one_in_turn wanted limit chunk (text ∷ []) _ _ _ out out' one (one_keeps_up w limit chunk s t left out out' (
        up.0,
        up.1,
        reads_for limit chunk s t left [] _ (is_more_due (due w declarations_allowed) (length up.0))
            (λ ts e. ap (λ (l : List ℕ). nat_lt (length up.0) (length l)) (sym (due_is w name declarations_allowed ts)) ∙ e) up.2,
      )))
      (subst (λ (o : Outcome). IsOutcome program_name o out out' err err' status) (outcome_is wanted one limit name left) leaves)
  ran name text s t (JobRun.NoMemory left is_left read up same written shown status_is) =
      let w = model_want wanted in
      NoMemory (left ∷ []) (is_left, read, refl) (none_others wanted limit chunk _ _ _ one)
      (one_in_turn wanted limit chunk (text ∷ []) _ _ _ out out' one (one_keeps_up w limit chunk s t left out out' (
        up.0,
        up.1,
        reads_for limit chunk s t left [] _ (is_more_due (due w declarations_allowed) (length up.0))
            (λ ts e. ap (λ (l : List ℕ). nat_lt (length up.0) (length l)) (sym (due_is w name declarations_allowed ts)) ∙ e) up.2,
      )))
      (ap (λ n. n ∷ []) same) written shown status_is

  -- over the only one of these readers
  pub ran_one : {X : Type 0} (rest : X → Option (List ℕ)) (failures : X → ℕ) (r r' : X) (names : List (List ℕ)) (readers readers' : List X)
      → readers ≡ r ∷ [] → readers' ≡ r' ∷ [] → length names ≡ 1
      → ((text : List ℕ) → rest r ≡ Some text → JobRun program_name (work_of (model_want wanted)) limit chunk (name_at names 0) text
      (supply rest failures r) (supply rest failures r') out out' err err' status)
      → (texts : List (List ℕ)) → map rest readers ≡ map (λ text. Some text) texts
      → HasRun (model_want wanted) limit chunk names texts (map (supply rest failures) readers)
      (map (supply rest failures) readers') out out' err err' status
  ran_one {X} rest failures r r' names readers readers' is is' many runs texts known = by_names names many runs
    where
      by_texts : (name : List ℕ) → ((text : List ℕ) → rest r ≡ Some text
          → JobRun program_name (work_of (model_want wanted)) limit chunk name text (supply rest failures r)
          (supply rest failures r') out out' err err' status)
          → (texts : List (List ℕ)) → map rest (r ∷ []) ≡ map (λ text. Some text) texts
          → HasRun (model_want wanted) limit chunk (name ∷ []) texts (map (supply rest failures) (r ∷ []))
          (map (supply rest failures) (r' ∷ [])) out out' err err' status
      by_texts name given (text ∷ []) e = ran name text (supply rest failures r) (supply rest failures r') (given text (cc))
      by_texts name given texts e = absurd (cc)

      by_names : (names : List (List ℕ)) → length names ≡ 1 → ((text : List ℕ) → rest r ≡ Some text
          → JobRun program_name (work_of (model_want wanted)) limit chunk (name_at names 0) text (supply rest failures r)
          (supply rest failures r') out out' err err' status)
          → HasRun (model_want wanted) limit chunk names texts (map (supply rest failures) readers) (map (supply rest failures) readers') out out' err err' status
      by_names (name ∷ []) n given =
          subst (λ (l : List X). HasRun (model_want wanted) limit chunk (name ∷ []) texts (map (supply rest failures) l) (map (supply rest failures) readers') out out' err err' status) (sym is)
          (subst (λ (l : List X). HasRun (model_want wanted) limit chunk (name ∷ []) texts (map (supply rest failures) (r ∷ [])) (map (supply rest failures) l) out out' err err' status) (sym is')
          (by_texts name given texts (ap (map rest) (sym is) ∙ known)))
      by_names names n given = absurd (cc)

-- the only command over several inputs
pub merge_wanted : (wanted : Want) → is_merge wanted ≡ true → (model_want wanted ≡ model.Want.Merge) × (names_asked wanted ≡ [])
merge_wanted want.Merge e = (refl, refl)
merge_wanted wanted e = absurd (cc)
