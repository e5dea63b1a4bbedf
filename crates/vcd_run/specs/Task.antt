-- What a task does with an item, with the items ahead, and at the end.
use Rattle.std.specs.Prelude.{◌≡◌, ◌+◌, ◌<◌, ◌^◌, length, ℕ, Bool, true, false, List, [], ◌∷◌, ◌++◌, Result, Ok, Err, IfOk}
use Rattle.vcd_model.specs.Header.{Header}
use Rattle.vcd_model.specs.Items.{BodyItem}
use Rattle.vcd_model.specs.Tokens.{Token}
use Rattle.vcd_text.specs.Ahead.{bytes_of, longest_of, passed_of}
use Rattle.vcd_text.specs.Device.{Counts, Device, Takes}
use Rattle.vcd_text.specs.Passed.{Passed}
use Rattle.vcd_text.specs.declared.ahead.Ahead.{Ahead}
use Rattle.vcd_view.specs.Views.{IsViewOf}
use Rattle.vcd_view.specs.declared.view.HeadView.{HeadView}
use Rattle.vcd_body.specs.Ahead.{GaveAhead}
use Rattle.vcd_body.specs.Device.{Grows, GrowsSome, TakesDue}
use Rattle.vcd_body.specs.Given.{IsItem}
use Rattle.vcd_body.specs.Items.{AreRegsAfter, regs_after}
use Rattle.vcd_body.specs.declared.item.Item.{Item}
use Rattle.vcd_body.specs.declared.item.Regs.{Regs}
use Rattle.vcd_run.specs.Plan.{Plan}
use Rattle.vcd_run.specs.declared.task.AheadEnd.{AheadEnd}

-- what is due with one more item was written, and it was returned whether the item ends the run; if
-- it does not, the task goes on
pub record TakesOne {E : Type 0} (keeps : List BodyItem → Type 0) (tells : List BodyItem → List ℕ → Type 0) (p : Plan) (items : List BodyItem)
    (x : BodyItem) (out out' : Device) (result : Result Bool E) : Type 0 where
  pub due : TakesDue out out' (p.opens items) (p.opens (items ++ x ∷ [])) result
  pub ends : IfOk result (λ ended. ended ≡ p.ends (items ++ x ∷ []))
  pub keeps_on : result ≡ Ok false → keeps (items ++ x ∷ [])
  pub tells_all : result ≡ Ok true → tells (items ++ x ∷ []) (p.opens (items ++ x ∷ []))

-- the same after any items of any body
abbrev pub TakesEach : {T E : Type 0} → (keeps : T → Plan → Header → List BodyItem → Type 0) → (tells : T → List BodyItem → List ℕ → Type 0)
    → HeadView → Regs → Item → List ℕ → T → T → Device → Device → Result Bool E → Type 0
TakesEach keeps tells v r item text m m' out out' result = (p : Plan) (h : Header) (items : List BodyItem) (before : Regs) (x : BodyItem)
    → IsViewOf v h → AreRegsAfter items before → AreRegsAfter (items ++ x ∷ []) r → r ≡ regs_after before item → IsItem h.codes text item x
    → length items < 2 ^ 63 → keeps m p h items → p.ends items ≡ false
    → TakesOne (keeps m' p h) (tells m') p items x out out' result

-- what comes at the end was written
abbrev pub ClosesOver : {T A E : Type 0} → (keeps : T → Plan → Header → List BodyItem → Type 0) → (tells : T → List BodyItem → List ℕ → Type 0)
    → HeadView → Regs → T → T → Device → Device → Result A E → Type 0
ClosesOver keeps tells v r m m' out out' result = (p : Plan) (h : Header) (items : List BodyItem) → IsViewOf v h → AreRegsAfter items r → keeps m p h items → p.ends items ≡ false
    → Takes out out' (p.closes items) result × IfOk result (λ _. tells m' items (p.opens items ++ p.closes items))

-- some items that lie ahead were taken after these: the task goes on, or a write failed
abbrev pub EndsAhead : {T A E : Type 0} → (keeps : T → Plan → Header → List BodyItem → Type 0) → Plan → Header → (limit lines : ℕ) → List ℕ → ℕ → T
    → Regs → Device → Device → Result A E → (before items : List BodyItem) → Type 0
EndsAhead keeps p h limit lines bytes n m r out out' (Ok v) before items = GaveAhead h.codes limit lines bytes n before items
    × AreRegsAfter (before ++ items) r × keeps m p h (before ++ items) × (p.ends (before ++ items) ≡ false)
    × Grows out out' (p.opens before) (p.opens (before ++ items))
EndsAhead keeps p h limit lines bytes n m r out out' (Err e) before items = GaveAhead h.codes limit lines bytes n before items
    × AreRegsAfter (before ++ items) r × GrowsSome out out' (p.opens before) (p.opens (before ++ items))

-- what a task leaves that takes the items which lie completely in the chunk
pub record RunsOver {T : Type 0} (keeps : T → Plan → Header → List BodyItem → Type 0) (v : HeadView) (a : Ahead) (r : Regs) (m m' : T) (out out' : Device) (t : AheadEnd) : Type 0 where
  pub gives : (p : Plan) (h : Header) (lines : ℕ) (before : List BodyItem) → IsViewOf v h → AreRegsAfter before r
      → length before + length (bytes_of a) < 2 ^ 63 → keeps m p h before → p.ends before ≡ false → passed_of a ≡ 0
      → (items : List BodyItem) × EndsAhead keeps p h (longest_of a) lines (bytes_of a) t.passed m' t.regs out out' t.written before items
  pub passes : (lines : ℕ) → passed_of a ≡ 0 → (ts : List Token) × Passed (longest_of a) lines (bytes_of a) t.passed ts
  pub counts : Counts out out' t.written
