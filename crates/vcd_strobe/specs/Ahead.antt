-- What a strobe does with an item that lies ahead.
use Rattle.std.specs.Prelude.{◌≡◌, ℕ, ◌<◌, ◌≤◌, ◌^◌, List, [], ◌∷◌, ◌++◌, length, Result, IfOk}
use Rattle.vcd_model.specs.Header.{Header}
use Rattle.vcd_model.specs.Items.{BodyItem}
use Rattle.vcd_text.specs.Device.{Device}
use Rattle.vcd_text.specs.declared.device.WriteFailed.{WriteFailed}
use Rattle.vcd_view.specs.Views.{IsViewOf}
use Rattle.vcd_view.specs.declared.view.HeadView.{HeadView}
use Rattle.vcd_body.specs.Device.{TakesDue}
use Rattle.vcd_body.specs.Given.{IsItem}
use Rattle.vcd_body.specs.Items.{AreRegsAfter, regs_after}
use Rattle.vcd_body.specs.Taken.{TakesItem}
use Rattle.vcd_body.specs.Walk.{Stage}
use Rattle.vcd_body.specs.declared.ahead.ScannedItem.{ScannedItem}
use Rattle.vcd_body.specs.declared.item.Item.{Item}
use Rattle.vcd_body.specs.declared.item.Regs.{Regs}
use Rattle.vcd_run.specs.Plan.{Plan}
use Rattle.vcd_strobe.specs.Strobes.{HasStrobed, SameStrobe}
use Rattle.vcd_strobe.specs.declared.ahead.EachItem.{EachItem}
use Rattle.vcd_strobe.specs.declared.whole.Strobe.{Strobe}

-- an item was handled: what the plan has with it was written
abbrev pub TakesNext : HeadView → List ℕ → Item → Regs → Strobe → Strobe → Device → Device → Result (Unit {0}) WriteFailed → Type 0
TakesNext v text item r s s' out out' result = (p : Plan) (h : Header) (items : List BodyItem) (x : BodyItem)
    → IsViewOf v h → IsItem h.codes text item x → AreRegsAfter items r → AreRegsAfter (items ++ x ∷ []) (regs_after r item)
    → length items < 2 ^ 63 → HasStrobed s p h items
    → TakesDue out out' (p.opens items) (p.opens (items ++ x ∷ [])) result × IfOk result (λ _. HasStrobed s' p h (items ++ x ∷ []))

-- it was one of those ahead
pub record StrobesOne (v : HeadView) (s t : Stage EachItem Strobe) (result : Result (Unit {0}) WriteFailed) : Type 0 where
  pub scanned : ScannedItem
  pub item : TakesItem v s.ahead t.ahead s.regs scanned
  pub regs : t.regs ≡ regs_after s.regs scanned.item
  pub on : TakesNext v scanned.text.now scanned.item s.regs s.command t.command s.out t.out result
  pub same : SameStrobe s.command t.command

-- the strobe can be called
abbrev pub IsReady : EachItem → Strobe → List ℕ → Regs → Type 0
IsReady visit strobe bytes r = strobe.count ≤ length strobe.listed.now
