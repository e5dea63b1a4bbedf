-- What a run by the plan of a request leaves is what `Follows` says, and what a step leaves is what
-- `StepGives` says.
use Rattle.vcd_engine.proofs.Cited.{◌≡◌, ℕ, inl, inr, Bool, true, false, cond, ◌||◌, nat_lt, List, [], ◌∷◌, ◌++◌, length, Option, Some, None, Result, Ok, Err, refl, sym, ap, subst, ◌∙◌, append-nil, append_assoc, IfErr, IfOk, list_any, list_any-append, up_to_first, goes_on, nothing_revised, fault_output, Input, Token, stream_of, Header, BodyItem, body_items, body_fault_of, read_body, due_after, due_of_body, Outcome, Request, clean_outcome, close_text, ends_early, fault_outcome, open_text, over_dump, Fault, IsPrefixOf, IsValid, ReadsAsNeeded, Device, Supply, Writes, WritesSome, Ghosts, Feed, DueBy, CanRun, Belongs, Follows, Keeps, Runs, IsRefused, is_early, StepGives, Done, Whole, Early, More, Again, Ended, Stop, Dump, Read, Write, Unmatched, Regs, request_in, request_of_engine, TaskState, Engine}
use Rattle.vcd_model.specs.Outcome.{body_of, over_body}
use Rattle.vcd_text.specs.ReadAhead.ReadsAsNeeded.{Nothing, ToEnd, ToToken}
use Rattle.vcd_run.proofs.OutcomeLemmas.{begins, gives_outcome}
use Rattle.vcd_run.specs.Outcomes.{Belongs as PlanBelongs, EndsAs, IsSound, KeepOutput, Ways, over_plan}
use Rattle.vcd_run.specs.Plan.{due_with, is_settled_with}
use Rattle.vcd_run.specs.Run.{BodyGives, HasTaken, ReadsNeeded, StepGives as PlanGives, left_of}
use Rattle.vcd_engine.specs.Plan.{KeepsPlan, plan_of}
use Rattle.vcd_engine.proofs.BodyOutcomes.{goes_behind, over_matched}
use Rattle.vcd_engine.proofs.PlanLemmas.{all_count, due_by, ends_one, last_known, opens_all, opens_one}
use Rattle.std.specs.Prelude.{⊤}

-- ---- the plan is sound

-- no item counts after one that ends the run
none_after : (test : BodyItem → Bool) (p q : List BodyItem) → list_any test p ≡ true → up_to_first test (p ++ q) ≡ up_to_first test p
none_after test [] q e = cc
none_after test (x ∷ p) q e = ap (λ (l : List BodyItem). x ∷ l) (by_first (test x) refl (none_after test p q))
  where
    or_right : (b c : Bool) → b ≡ false → (b || c) ≡ true → c ≡ true
    or_right true c f e = cc
    or_right false c f e = e

    by_first : (b : Bool) → test x ≡ b → (list_any test p ≡ true → up_to_first test (p ++ q) ≡ up_to_first test p)
        → cond (test x) [] (up_to_first test (p ++ q)) ≡ cond (test x) [] (up_to_first test p)
    by_first true is rest = rw is refl
    by_first false is rest = ap (λ (l : List BodyItem). cond (test x) [] l) (rest (or_right (test x) (list_any test p) is e))

grows_with : (t : Request) (h : Header) → IsValid t → (items more : List BodyItem)
    → IsPrefixOf ((plan_of t h).opens items) ((plan_of t h).opens (items ++ more))
    × ((plan_of t h).ends items ≡ true → ((plan_of t h).ends (items ++ more) ≡ true)
    × ((plan_of t h).opens (items ++ more) ≡ (plan_of t h).opens items))
grows_with t h valid items more = by_end (list_any (ends_early t) items) refl
  where
    by_end : (b : Bool) → list_any (ends_early t) items ≡ b
        → IsPrefixOf ((plan_of t h).opens items) ((plan_of t h).opens (items ++ more))
        × ((plan_of t h).ends items ≡ true → ((plan_of t h).ends (items ++ more) ≡ true)
        × ((plan_of t h).opens (items ++ more) ≡ (plan_of t h).opens items))
    by_end true e =
        let same = ap (open_text t h) (none_after (ends_early t) items more e) in
        (([], same ∙ sym (append-nil ((plan_of t h).opens items))), λ _. (list_any-append (ends_early t) items more ∙ ap (λ (b : Bool). b || list_any (ends_early t) more) e, same))
    by_end false e =
        let r = nothing_revised t h items (up_to_first (ends_early t) more) valid e in (
          (r.0, ap (open_text t h) (goes_on (ends_early t) items more e) ∙ r.1 ∙ ap (λ (l : List ℕ). l ++ r.0) (sym (opens_all t items e h))),
          λ ends.
              let both : ◌≡◌ {A = Bool} true false = sym ends ∙ e in absurd (cc),
        )

sound_plan : (t : Request) (h : Header) → IsValid t → IsSound (plan_of t h) h.codes
sound_plan t h valid limit i front rest items more tokens are = grows_with t h valid items more

-- ---- the outcome

-- an outcome of a request, by its output
abbrev ways : List ℕ → Ways
ways name = record { early = clean_outcome; well = λ items text. clean_outcome text; faulty = λ text f. fault_outcome text name f }

keep_output : (name : List ℕ) → KeepOutput (ways name)
keep_output name = record { early = λ text. ([], sym (append-nil text)); well = λ items text. ([], sym (append-nil text)); faulty = λ text f. fault_output text name f }

-- the outcome of the plan is that of the request
pub over_same : (t : Request) (h : Header) (items : List BodyItem) (name : List ℕ) (fault : Option Fault) → over_plan (plan_of t h) (ways name) items fault ≡ over_body t h items name fault
unfolding over_plan over_body
over_same t h items name fault = by_end (list_any (ends_early t) items) refl
  where
    by_fault : (f : Option Fault) → list_any (ends_early t) items ≡ false → over_plan (plan_of t h) (ways name) items f ≡ over_body t h items name f
    by_fault None on = rw (on, over_plan, over_body) (ap (λ (l : List BodyItem). clean_outcome (open_text t h l ++ close_text t h items)) (all_count t items on))
    by_fault (Some f) on = rw (on, over_plan, over_body) (ap (λ (l : List BodyItem). fault_outcome (open_text t h l) name f) (all_count t items on))

    by_end : (b : Bool) → list_any (ends_early t) items ≡ b → over_plan (plan_of t h) (ways name) items fault ≡ over_body t h items name fault
    by_end true e = rw (e, over_plan, over_body) refl
    by_end false e = by_fault fault e

-- each outcome begins with what comes before all items
pub opens_first : (t : Request) (h : Header) (items : List BodyItem) (name : List ℕ) (fault : Option Fault) → IsValid t → IsPrefixOf (open_text t h []) (over_body t h items name fault).output
opens_first t h items name fault valid =
    let first = (grows_with t h valid [] items).0 in
    let all = begins (plan_of t h) (ways name) (keep_output name) items fault in (
      first.0 ++ all.0,
      ap (λ (o : Outcome). o.output) (sym (over_same t h items name fault)) ∙ all.1 ∙ ap (λ (l : List ℕ). l ++ all.0) first.1
          ∙ append_assoc (open_text t h []) first.0 all.0,
    )

-- ---- a run

-- what settles it, and what is due, in other words
reads_as : (limit chunk : ℕ) (old new : Supply) (i : Input) (front : List Token) (f g : List Token → Bool) → ((ts : List Token) → g ts ≡ f ts)
    → ReadsAsNeeded limit chunk old new i front f → ReadsAsNeeded limit chunk old new i front g
reads_as limit chunk old new i front f g is (Nothing same) = Nothing same
reads_as limit chunk old new i front f g is (ToToken asked last first so_far near) = ToToken asked last first (is asked ∙ so_far) near
reads_as limit chunk old new i front f g is (ToEnd asked all so_far near) = ToEnd asked all (is asked ∙ so_far) near

due_same : (t : Request) (h : Header) → CanRun t h → (ts : List Token) → due_after t h ts ≡ due_with (plan_of t h) h ts
due_same Request.Check h can ts = refl
due_same Request.Listing h can ts = let body = can.body in cc
due_same (Request.Pick names) h can ts = ap (λ place. due_of_body place (Request.Pick names) h ts) can.matched
due_same (Request.Cut from to) h can ts = refl
due_same (Request.Sample times names) h can ts = ap (λ place. due_of_body place (Request.Sample times names) h ts) can.matched
due_same (Request.Edges names) h can ts = ap (λ place. due_of_body place (Request.Edges names) h ts) can.matched
due_same Request.Merge h can ts = refl

belongs_to : (t : Request) (o : Outcome) (name : List ℕ) (out out' : Device) (result : Result Done Stop)
    → PlanBelongs (λ _ _. ⊤) (ways name) o out out' result → Belongs t o name out out' result
belongs_to t o name out out' (Ok Whole) (items, text, is, written, told) = subst (λ (x : Outcome). (x ≡ clean_outcome x.output) × Writes out out' x.output) (sym is) (refl, written)
belongs_to t o name out out' (Ok Early) (items, text, is, written, told) = subst (λ (x : Outcome). (x ≡ clean_outcome x.output) × Writes out out' x.output) (sym is) (refl, written)
belongs_to t o name out out' (Err (Dump input line fault)) (text, first, other, is, written) =
    let f : Fault = record { number = fault; line = line } in
    let e = fault_output text name f in
    let both = subst (λ (x : Outcome). (x ≡ fault_outcome x.output name f) × Writes out out' x.output) (sym is)
    (ap (λ l. fault_outcome l name f) (sym e), subst (Writes out out') (sym e) written) in
    (first, both.0, other, both.1)
belongs_to t o name out out' (Err (Read input)) (text, line, first, is, written) =
    let f : Fault = record { number = 31; line = line } in
    let e = fault_output text name f in
    let both = subst (λ (x : Outcome). (x ≡ fault_outcome x.output name f) × Writes out out' x.output) (sym is)
    (ap (λ l. fault_outcome l name f) (sym e), subst (Writes out out') (sym e) written) in
    (first, (line, both.0), both.1)
belongs_to t o name out out' (Err Write) some = some
belongs_to t o name out out' (Err (Unmatched place)) none = absurd none

-- a run by the plan does the task
pub follows : (t : Request) (h : Header) (i : Input) (front : List Token) (name : List ℕ) (limit chunk read : ℕ) (old new : Supply)
    (out out' : Device) (result : Result Done Stop) → CanRun t h → BodyGives (λ _ _. ⊤) (plan_of t h) h i front limit read out out' result
    → ReadsNeeded (plan_of t h) h limit chunk i (left_of i read result) front old new out out' → Follows t limit chunk i front h name old new out out' result
unfolding body_of
follows t h i front name limit chunk read old new out out' result can gives needed =
    let left = left_of i read result in
    let o = gives_outcome (plan_of t h) (ways name) (keep_output name) (λ _ _. ⊤) h (sound_plan t h can.valid) i front limit read out out' result gives in
    let items = body_items (read_body h.codes o.rest) in
    let fault = body_fault_of (stream_of limit left) (read_body h.codes o.rest) in
    let is : over_dump t name (record { header = h; stream = stream_of limit left; rest = o.rest }) ≡ over_plan (plan_of t h) (ways name) items fault =
    over_matched t name (record { header = h; stream = stream_of limit left; rest = o.rest }) can.body can.matched ∙ sym (over_same t h items name fault) in
    let up = needed.keeps_up in
    record {
      left = left;
      is_left = needed.is_left;
      rest = o.rest;
      tokens = o.tokens;
      belongs = subst (λ (x : Outcome). Belongs t x name out out' result) (sym is) (belongs_to t _ name out out' result o.belongs);
      read = reads_as limit chunk old new left front _ _ (λ ts. ap (λ (b : Bool). b || is_settled_with (plan_of t h) h ts) (goes_behind t h can)) needed.read;
      keeps_up = (up.0, up.1, reads_as limit chunk old new left front _ _ (λ ts. ap (λ (l : List ℕ). nat_lt (length up.0) (length l)) (due_same t h can ts)) up.2);
      early = by_end _ result o.early;
      refused = by_refusal result gives;
    }
  where
    by_end : (b : Bool) (r : Result Done Stop) → EndsAs b r → IfOk r (λ done. is_early done ≡ b)
    by_end b (Ok Whole) e = sym e
    by_end b (Ok Early) e = sym e
    by_end b (Err stop) e = tt

    by_refusal : (r : Result Done Stop) → BodyGives (λ _ _. ⊤) (plan_of t h) h i front limit read out out' r → IfErr r (IsRefused t h)
    by_refusal (Ok done) is = tt
    by_refusal (Err (Unmatched place)) none = absurd none
    by_refusal (Err stop) is = tt

-- at first the state of a request goes on by its plan
pub begun_plan : (t : Request) (m : TaskState) (h : Header) → request_in m ≡ t → Keeps m h [] → KeepsPlan m (plan_of t h) h []
begun_plan t m h is keeps = record {
  plan = ap (λ (q : Request). plan_of q h) (sym is);
  keeps = keeps;
  last = λ (r : Regs) known. ap (λ (b : Bool). cond b (Some r.time) None) known.marked_is;
}

-- ---- a step

-- the state of an engine goes on by the plan of its request
pub runs_plan : {X : Type 0} {g : Ghosts X} (e : Engine) (h : Header) (i : Input) (front : List Token) (items : List BodyItem) (f : Feed X g)
    → Runs e h i front items f → HasTaken KeepsPlan (plan_of (request_of_engine e) h) h i front items e.task_state e.regs f
runs_plan e h i front items f s = record {
  gave = s.gave;
  stands = record { plan = refl; keeps = s.holds.keeps; last = last_known items e.regs s.holds.known s.holds.last };
  on = s.on;
  few = s.few;
}

-- what a step by the plan leaves, as an engine's
pub step_plan : {X : Type 0} {g : Ghosts X} (h : Header) (i : Input) (front : List Token) (items : List BodyItem) (f f' : Feed X g)
    (out out' : Device) (e e' : Engine) (result : Result More Stop) → Runs e h i front items f → e'.view ≡ e.view
    → request_of_engine e' ≡ request_of_engine e
    → PlanGives KeepsPlan (plan_of (request_of_engine e) h) h i front (λ _ _. ⊤) items e'.task_state e'.regs f' out out' result
    → StepGives (request_of_engine e) h i front items e' f' out out' result
step_plan h i front items f f' out out' e e' result s view same gives = by_result result gives
  where
    t : Request
    t = request_of_engine e

    one : (takes : List ℕ → Type 0) (x : BodyItem) → DueBy takes ((plan_of t h).opens items) ((plan_of t h).opens (items ++ x ∷ []))
        → DueBy takes (open_text t h items) (open_text t h (items ++ x ∷ []))
    one takes x due = due_by takes _ _ _ _ (opens_all t items s.on h) (opens_one t items s.on h x) due

    by_result : (r : Result More Stop) → PlanGives KeepsPlan (plan_of t h) h i front (λ _ _. ⊤) items e'.task_state e'.regs f' out out' r → StepGives t h i front items e' f' out out' r
    by_result (Ok Again) (x, gave, taken, grows) = (
      x,
      record {
        holds = record {
          views = rw view s.holds.views;
          can = subst (λ (q : Request). CanRun q h) (sym same) s.holds.can;
          known = taken.gave.known;
          last = taken.stands.last e'.regs taken.gave.known;
          keeps = taken.stands.keeps;
        };
        gave = taken.gave;
        on = subst (λ (q : Request). list_any (ends_early q) (items ++ x ∷ []) ≡ false) (sym same) taken.on;
        few = taken.few;
      },
      one (Writes out out') x grows,
      gave,
    )
    by_result (Ok (Ended Whole)) (all, close, told) = (all, close)
    by_result (Ok (Ended Early)) (x, gave, ends, grows, told) = (x, sym (ends_one t items s.on x) ∙ ends, gave, one (Writes out out') x grows)
    by_result (Err (Dump input line fault)) stop = stop
    by_result (Err (Read input)) stop = stop
    by_result (Err Write) (inl (x, gave, grows)) = inl (x, gave, one (WritesSome out out') x grows)
    by_result (Err Write) (inr (all, some)) = inr (all, (close_text t h items, refl, some))
    by_result (Err (Unmatched name)) none = absurd none
