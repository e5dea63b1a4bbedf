-- Items that a task's state takes ahead in a feed's chunk, one after the other.
use Rattle.vcd_engine.proofs.Cited.{◌≡◌, ℕ, ◌+◌, ◌^◌, ◌<◌, ◌≤◌, false, List, [], ◌∷◌, ◌++◌, length, ap, subst, ◌∙◌, append_assoc, arith, Result, Ok, Err, list_any, length-append, Header, BodyItem, last_mark, Request, ends_early, open_text, Device, GaveAhead, IsItem, AreRegsAfter, regs_after, Item, Regs, StandsAhead, Keeps, last_time_of, TaskState, EndsAhead, RunsAhead, GrowsBut, pending_in, PendingCopy, Puts}
use Rattle.vcd_engine.proofs.PieceLemmas.{but_some, but_written}
use Rattle.vcd_engine.proofs.EngineLemmas.{last_more, none_at}

module _ (t : Request) (h : Header) (limit lines : ℕ) (bytes : List ℕ) (before : List BodyItem) where
  module _ (n : ℕ) (items : List BodyItem) (m : TaskState) (r : Regs) (s : StandsAhead t h limit lines bytes before n items m r) where
    -- there are fewer items than a counter can count
    pub few_ahead : n ≤ length bytes → length before + length bytes < 2 ^ 63 → length (before ++ items) < 2 ^ 63
    few_ahead within few = let each = s.gave.few in omega (arith, length-append before items)

    -- one item more, after which the run continues
    pub stands_on : (n' : ℕ) (m' : TaskState) (r' : Regs) (text : List ℕ) (item : Item) (x : BodyItem) → IsItem h.codes text item x
        → GaveAhead h.codes limit lines bytes n' before (items ++ x ∷ []) → AreRegsAfter (before ++ (items ++ x ∷ [])) r' → r' ≡ regs_after r item
        → Keeps m' h ((before ++ items) ++ x ∷ []) → ends_early t x ≡ false → StandsAhead t h limit lines bytes before n' (items ++ x ∷ []) m' r'
    stands_on n' m' r' text item x is gave known regs keeps stays =
        let e = append_assoc before items (x ∷ []) in
        record {
          gave = gave;
          known = known;
          last = subst (λ l. last_time_of r' ≡ last_mark l) e (ap last_time_of regs ∙ last_more h.codes text (before ++ items) r item x is s.last);
          keeps = subst (Keeps m' h) e keeps;
          on = subst (λ l. list_any (ends_early t) l ≡ false) e (none_at (ends_early t) (before ++ items) x s.on stays);
        }

module _ (t : Request) (h : Header) (limit lines : ℕ) (bytes : List ℕ) (before : List BodyItem) (p : PendingCopy)
    (out mid out' : Device) {A E : Type 0} (result : Result A E) (puts : Puts mid out' (pending_in bytes p) result) where
  -- how the items end where no other is taken, and what is pending is written
  pub ends_before : (n : ℕ) (items : List BodyItem) (m : TaskState) (r : Regs) → StandsAhead t h limit lines bytes before n items m r
      → GrowsBut out mid (pending_in bytes p) (open_text t h before) (open_text t h (before ++ items))
      → RunsAhead t h limit lines bytes before n m r out out' result
  ends_before n items m r s g = (items, s.on, by_result result puts)
    where
      by_result : (q : Result A E) → Puts mid out' (pending_in bytes p) q → EndsAhead t h limit lines bytes before n m r out out' q items
      by_result (Ok v) puts = (s, but_written out mid out' (pending_in bytes p) (open_text t h before) (open_text t h (before ++ items)) g puts)
      by_result (Err e) puts = (s.gave, s.known, but_some out mid out' (pending_in bytes p) (open_text t h before) (open_text t h (before ++ items)) g puts)
