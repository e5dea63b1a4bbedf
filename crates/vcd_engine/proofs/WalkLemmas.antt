-- The loop over the items ahead, step by step.
use Rattle.vcd_engine.proofs.Cited.{◌≡◌, ℕ, ◌+◌, ◌≤◌, Bool, false, List, [], ◌∷◌, ◌++◌, length, Result, Ok, Err, refl, sym, ap, subst, ◌∙◌, append-nil, IfOk, Token, bytes_of, longest_of, passed_of, Passed, Device, Puts, counts-on, Ahead, WriteFailed, HeadView, PassesNoItem, Begins, Further, Past, Stage, Trail, Walks, Regs, walk_passes, RunsOver, request_in, TakesNext, Walk, walk_at, IsLine, IsPart, pending_in, CanTake, HasWalked, TakesByTask, walk_of, TaskState, WalkState, PendingCopy, WalkEnd, AtItem, AtLines, Over}
use Rattle.vcd_text.specs.Device.{Counts}
use Rattle.vcd_run.specs.declared.task.AheadEnd.{AheadEnd}
use Rattle.vcd_engine.proofs.AheadLemmas.{ends_before}
use Rattle.vcd_engine.proofs.NextLemmas.{next, next_fails, next_grows, next_stands}
use Rattle.vcd_engine.proofs.PieceLemmas.{but_none}

-- whole tokens were passed, up to there
abbrev PassesTo : Ahead → ℕ → Type 0
PassesTo a to = (lines : ℕ) (ts : List Token) → Passed (longest_of a) lines (bytes_of a) (passed_of a) ts → (more : List Token) × Passed (longest_of a) lines (bytes_of a) to (ts ++ more)

-- it begins with no item, and with nothing that is pending
pub walk_begins : (v : HeadView) (a : Ahead) (r : Regs) (m : TaskState) (out : Device) (line : ℕ × ℕ) (p : PendingCopy)
    → passed_of a ≤ length (bytes_of a) → ((bytes : List ℕ) (time : ℕ) → IsLine bytes line time) → IsPart (bytes_of a) p
    → pending_in (bytes_of a) p ≡ [] → HasWalked v a r m out (walk_at a r line) p out m
walk_begins v a r m out line p within unknown part none = record {
  over = (refl, refl);
  within = within;
  failures = refl;
  same = (refl, refl);
  part = part;
  line = unknown (bytes_of a) r.time;
  stands = λ h lines before views few s. ([], s, rw append-nil (but_none out _ _ none));
}

module _ (v : HeadView) (a : Ahead) (r : Regs) (m : TaskState) (begin : Device) (w : Walk) (p : PendingCopy) (out : Device) (m' : TaskState) (walked : HasWalked v a r m begin w p out m') where
  -- no item was passed
  pub walk_past : (there : Ahead) → PassesNoItem w.ahead there → HasWalked v a r m begin (walk_at there w.regs w.line) p out m'
  walk_past there none = record {
    over = (none.same.1 ∙ walked.over.0, none.same.0 ∙ walked.over.1);
    within = none.within walked.within;
    failures = walked.failures;
    same = walked.same;
    part = rw none.same.0 walked.part;
    line = rw none.same.0 walked.line;
    stands = λ h lines before views few s.
        let all = walked.stands h lines before views few s in
        let on = all.1 in
        (all.0, record { gave = none.gives h.codes (longest_of a) lines (bytes_of a) before all.0 walked.over on.gave; known = on.known; last = on.last; keeps = on.keeps; on = on.on }, all.2);
  }

  within_all : passed_of w.ahead ≤ length (bytes_of a)
  within_all = subst (λ (bs : List ℕ). passed_of w.ahead ≤ length bs) walked.over.1 walked.within

  module _ {A E : Type 0} (w' : Walk) (p' : PendingCopy) (out' : Device) (m'' : TaskState) (result : Result A E) (n : TakesNext v w w' p p' out out' m' m'' result) where
    -- one item more was taken
    pub walk_on : (x : A) → result ≡ Ok x → HasWalked v a r m begin w' p' out' m''
    walk_on x e =
        let t = request_in m in
        let limit = longest_of a in
        let bytes = bytes_of a in
        let part : IsPart (bytes_of w.ahead) p' = subst (λ (q : Result A E). IfOk q (λ _. IsPart (bytes_of w.ahead) p')) e n.part in
        record {
          over = (n.item.same.1 ∙ walked.over.0, n.item.same.0 ∙ walked.over.1);
          within = n.item.within;
          failures = subst (λ (q : Result A E). Counts out out' q) e n.counts ∙ walked.failures;
          same = (n.same.0 ∙ walked.same.0, n.same.1 ∙ walked.same.1);
          part = subst (λ (bs : List ℕ). IsPart bs p') (sym n.item.same.0) part;
          line = n.line;
          stands = λ h lines before views few s.
              let all = walked.stands h lines before views few s in (
                all.0 ++ next t h limit lines bytes before v views few _ _ _ _ _ _ _ _ _ n all.0 walked.over walked.same.0 within_all all.1 ∷ [],
                next_stands t h limit lines bytes before v views few _ _ _ _ _ _ _ _ _ n all.0 walked.over walked.same.0 within_all all.1 x e,
                next_grows t h limit lines bytes before v views few _ _ _ _ _ _ _ _ _ n all.0 walked.over walked.same.0 within_all all.1 begin all.2 x e,
              );
        }

    -- or a write of what is due with it failed
    pub walk_fails : (t : AheadEnd) (failed : E) → result ≡ Err failed → t.passed ≡ passed_of w'.ahead → t.regs ≡ w'.regs → (told : _)
        → t.written ≡ Err told → PassesTo a (passed_of w'.ahead) → RunsOver v a r m m'' begin out' t
    walk_fails t failed e passed_is regs_is told written_is passes =
        let task = request_in m in
        let limit = longest_of a in
        let bytes = bytes_of a in
        rw (passed_is, regs_is, written_is) (record {
          gives = λ h lines before views few s.
              let all = walked.stands h lines before views few s in
              next_fails task h limit lines bytes before v views few _ _ _ _ _ _ _ _ _ n all.0 walked.over walked.same.0 within_all all.1 begin all.2 failed told e;
          passes = passes;
          counts = subst (λ (q : Result A E). Counts out out' q) e n.counts ∙ ap (λ (k : ℕ). k + 1) walked.failures;
          same = (n.same.0 ∙ walked.same.0, n.same.1 ∙ walked.same.1);
        })

  -- it ends, and what is pending is written
  pub walk_ends : (out' : Device) (t : AheadEnd) → t.passed ≡ passed_of w.ahead → t.regs ≡ w.regs → PassesTo a (passed_of w.ahead)
      → Puts out out' (pending_in (bytes_of w.ahead) p) t.written → RunsOver v a r m m' begin out' t
  walk_ends out' t passed_is regs_is passes puts =
      let here = subst (λ (bs : List ℕ). Puts out out' (pending_in bs p) t.written) walked.over.1 puts in
      record {
        gives = λ h lines before views few s.
            let all = walked.stands h lines before views few s in
            rw (passed_is, regs_is) (ends_before (request_in m) h _ lines (bytes_of a) before p begin out out' t.written here _ all.0 _ _ all.1 all.2);
        passes = rw passed_is passes;
        counts = counts-on begin out out' t.written walked.failures puts.1;
        same = walked.same;
      }

module _ {L C : Type 0} (line : L → ℕ × ℕ) (is_ready : C → Bool) (task_state : C → TaskState) (v : HeadView) (s : Stage (WalkState L) C) where
  abbrev On : Stage (WalkState L) C → Result WalkEnd WriteFailed → Type 0
  On z ended = Walks (TakesByTask line task_state) (CanTake line is_ready) (λ _. false) v s z ended

  pub passed_to : (z : Stage (WalkState L) C) (ended : Result WalkEnd WriteFailed) → On z ended → PassesTo s.ahead (passed_of z.ahead)
  passed_to z ended on lines ts passed = (walk_passes _ _ _ _ s (longest_of s.ahead) lines (bytes_of s.ahead) ts (refl, refl) passed z ended on).1

  module _ (r : Regs) (m : TaskState) (begin : Device) (walked : HasWalked v s.ahead r m begin (walk_of line s) s.visit.pending s.out (task_state s.command)) where
    along : (z : Stage (WalkState L) C) → Trail (TakesByTask line task_state) (CanTake line is_ready) (λ _. false) v s z
        → HasWalked v s.ahead r m begin (walk_of line z) z.visit.pending z.out (task_state z.command)
    along z Begins = walked
    along _ (Further b c so_far one on) = walk_on v s.ahead r m begin _ _ _ _ (along b so_far) _ _ _ _ _ one.did tt refl
    along _ (Past b c so_far there none is) = rw is (walk_past v s.ahead r m begin _ _ _ _ (along b so_far) there none)

    -- no other item was taken
    pub walk_over : (z : Stage (WalkState L) C) (end : WalkEnd) → On z (Ok end) → HasWalked v s.ahead r m begin (walk_of line z) z.visit.pending z.out (task_state z.command)
    walk_over z AtLines on = absurd on
    walk_over z AtItem on = along z on.trail
    walk_over z Over on = let e = on.3 in absurd (cc)

    -- or a write of what is due with one more failed
    pub walk_wrong : (z : Stage (WalkState L) C) (e : WriteFailed) → On z (Err e) → (t : AheadEnd) → t.passed ≡ passed_of z.ahead → t.regs ≡ z.regs
        → t.written ≡ Err e → RunsOver v s.ahead r m (task_state z.command) begin z.out t
    walk_wrong z e on t passed_is regs_is written_is = walk_fails v s.ahead r m begin _ _ _ _
        (along on.0 on.1.trail) _ _ _ _ _ on.2.did t e refl passed_is regs_is e written_is (passed_to z (Err e) on)
