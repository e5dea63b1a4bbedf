-- One item that a command takes ahead, after those before.
use Rattle.vcd_engine.proofs.Cited.{◌≡◌, ℕ, ◌+◌, ◌≤◌, ◌<◌, ◌^◌, false, List, [], ◌∷◌, ◌++◌, length, Result, Ok, Err, refl, sym, subst, append_assoc, list_any, IfOk, IdCode, Header, BodyItem, marks, Request, ends_early, open_text, goes_on_other, bytes_of, passed_of, Device, IsViewOf, HeadView, GaveAhead, LooksOver, DueBy, GrowsSome, IsItem, AreRegsAfter, regs_after, Item, RunsAhead, StandsAhead, IsNoTimestamp, Keeps, request_in, TakesMore, TakesNext, Walk, GrowsBut, PutsOn, pending_in, TakesQuietly, TaskState, PendingCopy}
use Rattle.vcd_engine.proofs.AheadLemmas.{few_ahead, stands_on}
use Rattle.vcd_engine.proofs.EngineLemmas.{none_at}
use Rattle.vcd_engine.proofs.PieceLemmas.{but_failed, but_on, none_on}
use Rattle.vcd_engine.proofs.SampleLemmas.{no_marks}

-- an item with which nothing is due
pub more_quietly : {A E : Type 0} (v : A) (holds : Type 0) (task : Request) (h : Header) (items : List BodyItem) (x : BodyItem) (pending : List ℕ)
    (out : Device) → TakesQuietly holds task h items x → TakesMore {A = A} {E = E}
    (λ due. PutsOn {A = A} {E = E} pending pending out out due (Ok v)) holds task h items x (Ok v)
more_quietly v holds task h items x pending out q = record { due = ([], q.due, none_on pending out); on = q.on; keeps = q.keeps }

-- an item that is no timestamp ends no run
other_goes_on : (t : Request) (x : BodyItem) → marks (x ∷ []) ≡ [] → ends_early t x ≡ false
other_goes_on Request.Check x none = refl
other_goes_on Request.Listing x none = refl
other_goes_on (Request.Pick names) x none = refl
other_goes_on (Request.Cut from to) (BodyItem.Time time) none = cc
other_goes_on (Request.Cut from to) (BodyItem.Begin s) none = refl
other_goes_on (Request.Cut from to) BodyItem.End none = refl
other_goes_on (Request.Cut from to) (BodyItem.Changes y) none = refl
other_goes_on (Request.Sample times names) x none = goes_on_other names times x none
other_goes_on (Request.Edges names) x none = refl
other_goes_on Request.Merge x none = refl

pub goes_on_item : (t : Request) (codes : List IdCode) (text : List ℕ) (item : Item) (x : BodyItem) → IsNoTimestamp item → IsItem codes text item x → ends_early t x ≡ false
goes_on_item t codes text item x none is = other_goes_on t x (no_marks codes text item x is none)

module _ {A E : Type 0} (t : Request) (h : Header) (limit lines : ℕ) (bytes : List ℕ) (before : List BodyItem) (v : HeadView) (views : IsViewOf v h)
    (few : length before + length bytes < 2 ^ 63) (w w' : Walk) (p p' : PendingCopy) (out out' : Device) (m m' : TaskState) (result : Result A E)
    (n : TakesNext v w w' p p' out out' m m' result)
    (items : List BodyItem) (over : LooksOver limit bytes w.ahead) (same : request_in m ≡ t) (within : passed_of w.ahead ≤ length bytes)
    (s : StandsAhead t h limit lines bytes before (passed_of w.ahead) items m w.regs) where
  pub one : (x : BodyItem) × IsItem h.codes n.scanned.text.now n.scanned.item x
      × GaveAhead h.codes limit lines bytes (passed_of w'.ahead) before (items ++ x ∷ [])
      × AreRegsAfter (before ++ (items ++ x ∷ [])) (regs_after w.regs n.scanned.item)
  one = n.item.gives h limit lines bytes before items views over s.known s.gave

  abbrev pub next : BodyItem
  next = one.0

  taken : TakesMore (λ due. PutsOn (pending_in (bytes_of w.ahead) p) (pending_in (bytes_of w.ahead) p') out out' due result)
      (Keeps m' h ((before ++ items) ++ next ∷ [])) t h (before ++ items) next result
  taken = subst (λ (q : Request). TakesMore (λ due. PutsOn (pending_in (bytes_of w.ahead) p) (pending_in (bytes_of w.ahead) p') out out' due result)
      (Keeps m' h ((before ++ items) ++ next ∷ [])) q h (before ++ items) next result) same
      (n.one h (before ++ items) next views s.known one.1 (few_ahead t h limit lines bytes before (passed_of w.ahead) items m w.regs s within few)
      s.keeps)

  known : AreRegsAfter (before ++ (items ++ next ∷ [])) w'.regs
  known = subst (AreRegsAfter (before ++ (items ++ next ∷ []))) (sym n.regs) one.3

  -- the run continues
  pub next_stands : (a : A) → result ≡ Ok a → StandsAhead t h limit lines bytes before (passed_of w'.ahead) (items ++ next ∷ []) m' w'.regs
  next_stands a e =
      let keeps = subst (λ (q : Result A E). IfOk q (λ _. Keeps m' h ((before ++ items) ++ next ∷ []))) e taken.keeps in
      stands_on t h limit lines bytes before (passed_of w.ahead) items m w.regs s (passed_of w'.ahead) m' w'.regs n.scanned.text.now n.scanned.item next one.1 one.2 known n.regs keeps taken.on

  -- what is due with it
  due : DueBy (λ due. PutsOn (pending_in bytes p) (pending_in bytes p') out out' due result) (open_text t h (before ++ items)) (open_text t h ((before ++ items) ++ next ∷ []))
  due = subst (λ (bs : List ℕ). DueBy (λ due. PutsOn (pending_in bs p) (pending_in bs p') out out' due result) (open_text t h (before ++ items))
      (open_text t h ((before ++ items) ++ next ∷ []))) over.1 taken.due

  module _ (begin : Device) (grown : GrowsBut begin out (pending_in bytes p) (open_text t h before) (open_text t h (before ++ items))) where
    -- was put
    pub next_grows : (a : A) → result ≡ Ok a → GrowsBut begin out' (pending_in bytes p') (open_text t h before) (open_text t h (before ++ (items ++ next ∷ [])))
    next_grows a e =
        let put = subst (λ (q : Result A E). PutsOn (pending_in bytes p) (pending_in bytes p') out out' due.0 q) e due.2 in
        subst (λ l. GrowsBut begin out' (pending_in bytes p') (open_text t h before) (open_text t h l)) (append_assoc before items (next ∷ []))
        (but_on begin out out' (pending_in bytes p) (open_text t h before) (open_text t h (before ++ items)) grown
        (pending_in bytes p') due.0 _ due.1 put)

    -- or a write failed
    pub next_fails : {F : Type 0} (f : E) (told : F) → result ≡ Err f → RunsAhead t h limit lines bytes before {A = A} (passed_of w'.ahead) m' w'.regs begin out' (Err told)
    next_fails f told e =
        let put = subst (λ (q : Result A E). PutsOn (pending_in bytes p) (pending_in bytes p') out out' due.0 q) e due.2 in
        let assoc = append_assoc before items (next ∷ []) in
        let some = but_failed begin out out' (pending_in bytes p) (open_text t h before) (open_text t h (before ++ items)) grown due.0 _ due.1 put in (
          items ++ next ∷ [],
          subst (λ l. list_any (ends_early t) l ≡ false) assoc (none_at (ends_early t) (before ++ items) next s.on taken.on),
          (one.2, known, subst (λ l. GrowsSome begin out' (open_text t h before) (open_text t h l)) assoc some),
        )
