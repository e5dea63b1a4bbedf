-- What each call of a task's state promises is what a task of `vcd_run` promises, by the plan of its
-- request.
use Rattle.vcd_engine.proofs.Cited.{◌≡◌, ℕ, Bool, true, false, cond, ◌||◌, List, [], ◌∷◌, ◌++◌, Some, None, Result, Ok, Err, refl, sym, ap, ap₂, subst, ◌∙◌, append-nil, or-false, IfOk, list_any, list_any-append, up_to_first, goes_on, Header, BodyItem, last_mark, Request, close_text, ends_early, open_text, bytes_of, longest_of, passed_of, Ahead, Device, HeadView, Takes, Writes, WritesSome, DueBy, GaveAhead, gave_none_ahead, AreRegsAfter, Item, Regs, EndsAhead, RunsOver, StandsAhead, Keeps, last_time_of, request_in, TaskState}
use Rattle.std.specs.Prelude.{⊤}
use Rattle.vcd_run.specs.Plan.{Plan}
use Rattle.vcd_run.specs.Task.{ClosesOver, EndsAhead as PlanEnds, RunsOver as PlanRuns, TakesEach as PlanTakes, TakesOne}
use Rattle.vcd_run.specs.declared.task.AheadEnd.{AheadEnd}
use Rattle.vcd_engine.specs.Engine.{AtClose, TakesEach}
use Rattle.vcd_engine.specs.Plan.{KeepsPlan, plan_of}
use Rattle.vcd_engine.specs.Room.{SameTask}
use Rattle.vcd_engine.proofs.EngineLemmas.{last_more}

-- ---- the output by some first items

module _ (t : Request) (items : List BodyItem) (on : list_any (ends_early t) items ≡ false) where
  -- all items count if none of them ends the run, and so does one more
  pub all_count : up_to_first (ends_early t) items ≡ items
  all_count = ap (up_to_first (ends_early t)) (sym (append-nil items)) ∙ goes_on (ends_early t) items [] on ∙ append-nil items

  nothing : (b : Bool) → ◌≡◌ {A = List BodyItem} (cond b [] []) []
  nothing true = refl
  nothing false = refl

  one_more : (x : BodyItem) → up_to_first (ends_early t) (items ++ x ∷ []) ≡ items ++ x ∷ []
  one_more x = goes_on (ends_early t) items (x ∷ []) on ∙ ap (λ (l : List BodyItem). items ++ x ∷ l) (nothing (ends_early t x))

  pub ends_one : (x : BodyItem) → list_any (ends_early t) (items ++ x ∷ []) ≡ ends_early t x
  ends_one x = list_any-append (ends_early t) items (x ∷ []) ∙ ap (λ (b : Bool). b || (ends_early t x || false)) on ∙ or-false (ends_early t x)

  pub opens_all : (h : Header) → (plan_of t h).opens items ≡ open_text t h items
  opens_all h = ap (open_text t h) all_count

  pub opens_one : (h : Header) (x : BodyItem) → (plan_of t h).opens (items ++ x ∷ []) ≡ open_text t h (items ++ x ∷ [])
  opens_one h x = ap (open_text t h) (one_more x)

-- what is due, by texts that are the same
pub due_by : (takes : List ℕ → Type 0) (a a' b b' : List ℕ) → a ≡ a' → b ≡ b' → DueBy takes a b → DueBy takes a' b'
due_by takes a a' b b' same more (due, is, taken) = (due, sym more ∙ is ∙ ap (λ l. l ++ due) same, taken)

-- all registers after these items tell the same time
pub last_known : (items : List BodyItem) (r : Regs) → AreRegsAfter items r → last_time_of r ≡ last_mark items → (r' : Regs) → AreRegsAfter items r' → last_time_of r' ≡ last_mark items
last_known items r known last r' known' = ap₂ (λ (b : Bool) (n : ℕ). cond b (Some n) None) (known'.marked_is ∙ sym known.marked_is) (known'.time_is ∙ sym known.time_is) ∙ last

-- ---- the calls

-- one item
pub takes_plan : {E : Type 0} (v : HeadView) (r : Regs) (item : Item) (text : List ℕ) (m m' : TaskState) (out out' : Device) (result : Result Bool E)
    → SameTask m m' → TakesEach v r item text (Keeps m) (Keeps m') (request_in m) out out' result
    → PlanTakes KeepsPlan (λ _ _ _. ⊤) v r item text m m' out out' result
takes_plan {E = E} v r item text m m' out out' result same takes p h items before x views known after regs is few keeps on =
    let t = request_in m in
    let off : list_any (ends_early t) items ≡ false = sym (ap (λ (q : Plan). q.ends items) keeps.plan) ∙ on in
    let one = takes h items before x views known regs is few keeps.keeps in
    let last = ap last_time_of regs ∙ last_more h.codes text items before item x is (keeps.last before known) in
    subst (λ (q : Plan). TakesOne {E = E} (KeepsPlan m' q h) (λ _ _. ⊤) q items x out out' result) (sym keeps.plan) (record {
      due = due_by (λ due. Takes out out' due result) _ _ _ _ (sym (opens_all t items off h)) (sym (opens_one t items off h x)) one.due;
      ends = by_result result one.ends (ends_one t items off x);
      keeps_on = λ goes. record { plan = ap (λ (s : Request). plan_of s h) (sym same.0); keeps = one.keeps goes; last = last_known (items ++ x ∷ []) r after last };
      tells_all = λ ends. tt;
    })
  where
    by_result : (q : Result Bool E) → IfOk q (λ ended. ended ≡ ends_early (request_in m) x)
        → list_any (ends_early (request_in m)) (items ++ x ∷ []) ≡ ends_early (request_in m) x
        → IfOk q (λ ended. ended ≡ list_any (ends_early (request_in m)) (items ++ x ∷ []))
    by_result (Ok b) e is = e ∙ sym is
    by_result (Err f) e is = tt

-- the end of a body
pub closes_plan : {A E : Type 0} (v : HeadView) (r : Regs) (m : TaskState) (out out' : Device) (result : Result A E)
    → AtClose v r (λ h items. Keeps m h items → Takes out out' (close_text (request_in m) h items) result)
    → ClosesOver KeepsPlan (λ _ _ _. ⊤) v r m m out out' result
closes_plan {A} {E} v r m out out' result closes p h items views known keeps on =
    (subst (λ (q : Plan). Takes out out' (q.closes items) result) (sym keeps.plan) (closes h items views known (keeps.last r known) keeps.keeps), any result)
  where
    any : (q : Result A E) → IfOk q (λ _. ⊤)
    any (Ok v) = tt
    any (Err e) = tt

-- the items ahead
ends_plan : {A E : Type 0} (m m' : TaskState) (p : Plan) (h : Header) (limit lines : ℕ) (bytes : List ℕ) (before : List BodyItem) (n : ℕ) (r : Regs)
    (out out' : Device) (result : Result A E) (more : List BodyItem) → request_in m' ≡ request_in m → p ≡ plan_of (request_in m) h
    → list_any (ends_early (request_in m)) before ≡ false → list_any (ends_early (request_in m)) (before ++ more) ≡ false
    → EndsAhead (request_in m) h limit lines bytes before n m' r out out' result more
    → PlanEnds KeepsPlan p h limit lines bytes n m' r out out' result before more
ends_plan {A} {E} m m' p h limit lines bytes before n r out out' result more same plan off on ends =
    subst (λ (q : Plan). PlanEnds KeepsPlan q h limit lines bytes n m' r out out' result before more) (sym plan) (by_result result ends)
  where
    t : Request
    t = request_in m

    grows : (takes : List ℕ → Type 0) → DueBy takes (open_text t h before) (open_text t h (before ++ more)) → DueBy takes ((plan_of t h).opens before) ((plan_of t h).opens (before ++ more))
    grows takes due = due_by takes _ _ _ _ (sym (opens_all t before off h)) (sym (opens_all t (before ++ more) on h)) due

    by_result : (q : Result A E) → EndsAhead t h limit lines bytes before n m' r out out' q more → PlanEnds KeepsPlan (plan_of t h) h limit lines bytes n m' r out out' q before more
    by_result (Ok v) (s, due) =
        (s.gave, s.known, record { plan = ap (λ (q : Request). plan_of q h) (sym same); keeps = s.keeps; last = last_known (before ++ more) r s.known s.last }, on, grows (Writes out out') due)
    by_result (Err e) (gave, known, due) = (gave, known, grows (WritesSome out out') due)

pub ahead_plan : (v : HeadView) (a : Ahead) (r : Regs) (m m' : TaskState) (out out' : Device) (end : AheadEnd) → RunsOver v a r m m' out out' end → PlanRuns KeepsPlan v a r m m' out out' end
ahead_plan v a r m m' out out' end runs = record {
  gives = λ p h lines before views known few keeps on first.
      let t = request_in m in
      let off : list_any (ends_early t) before ≡ false = sym (ap (λ (q : Plan). q.ends before) keeps.plan) ∙ on in
      let nil = sym (append-nil before) in
      let stands : StandsAhead t h (longest_of a) lines (bytes_of a) before (passed_of a) [] m r = record {
        gave = subst (λ n. GaveAhead h.codes (longest_of a) lines (bytes_of a) n before []) (sym first) (gave_none_ahead h.codes (longest_of a) lines (bytes_of a) before);
        known = subst (λ l. AreRegsAfter l r) nil known;
        last = subst (λ l. last_time_of r ≡ last_mark l) nil (keeps.last r known);
        keeps = subst (Keeps m h) nil keeps.keeps;
        on = subst (λ l. list_any (ends_early t) l ≡ false) nil off;
      } in
      let all = runs.gives h lines before views few stands in
      (all.0, ends_plan m m' p h (longest_of a) lines (bytes_of a) before end.passed end.regs out out' end.written all.0 runs.same.0 keeps.plan off all.1 all.2);
  passes = λ lines first. runs.passes lines [] first;
  counts = runs.counts;
}
