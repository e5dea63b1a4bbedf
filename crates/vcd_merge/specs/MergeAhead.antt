-- Items of one input of a merge that lie ahead in its feed's chunk, taken one after the other.
use Rattle.std.specs.Prelude.{◌≡◌, ℕ, ◌+◌, ◌*◌, ◌^◌, ◌<◌, Bool, true, false, List, [], ◌∷◌, ◌++◌, length, Option, Result, Ok, Err, IfOk}
use Rattle.std.specs.List.{AllByRecursion}
use Rattle.vcd_model.specs.Header.{Header}
use Rattle.vcd_model.specs.Declarations.{IdCode}
use Rattle.vcd_model.specs.Items.{BodyItem, time_after}
use Rattle.vcd_model.specs.Merge.{is_too_large}
use Rattle.vcd_model.specs.MergeByInput.{due_with, entry_for, written_with}
use Rattle.vcd_text.specs.Device.{Device, Takes, Writes, WritesSome}
use Rattle.vcd_text.specs.declared.device.WriteFailed.{WriteFailed}
use Rattle.vcd_view.specs.Views.{IsViewOf}
use Rattle.vcd_view.specs.declared.view.Code.{Code}
use Rattle.vcd_view.specs.declared.view.HeadView.{HeadView}
use Rattle.vcd_body.specs.Ahead.{GaveAhead}
use Rattle.vcd_body.specs.Given.{IsItem}
use Rattle.vcd_body.specs.Items.{AreRegsAfter, regs_after}
use Rattle.vcd_body.specs.Taken.{TakesItem}
use Rattle.vcd_body.specs.Walk.{Stage}
use Rattle.vcd_body.specs.declared.ahead.ScannedItem.{ScannedItem}
use Rattle.vcd_body.specs.declared.item.Item.{Item}
use Rattle.vcd_body.specs.declared.item.Regs.{Regs}
use Rattle.vcd_merge.specs.declared.merging.Merging.{Merging}
use Rattle.vcd_merge.specs.declared.seat.Seat.{Seat}

-- the seat with these registers and this time
abbrev pub seat_with : Seat → Regs → ℕ → Seat
seat_with s r time = record { parked = s.parked; regs = r; factor = s.factor; time = time; first = s.first; finished = s.finished }

-- what is due with an item here was written, or a prefix of it if a write failed
abbrev pub PutsDue : {A E : Type 0} → List Code → List ℕ → Item → Regs → ℕ → ℕ → Option ℕ → Option ℕ → Device → Device → Result A E → Type 0
PutsDue codes text item r time number written written' out out' result = (v : HeadView) (scale first : ℕ) (h : Header) (items : List BodyItem)
    (x : BodyItem) → v.codes.now ≡ codes → IsViewOf v h → AreRegsAfter items r → time ≡ scale * time_after items → number ≡ first
    → first + length h.codes < 2 ^ 64 → IsItem h.codes text item x
    → Takes out out' (due_with written (entry_for scale first h items x)) result × IfOk result (λ _. written' ≡ written_with written (entry_for scale first h items x))

-- where a walk over the items of an input is; it works on the time whose line was written last
abbrev pub MergeStage : Type 0
MergeStage = Stage Merging (Option ℕ)

-- the seat of the same input, in the same turn
pub record SameMerging (m m' : Merging) : Type 0 where
  pub factor : m'.factor ≡ m.factor
  pub first : m'.first ≡ m.first
  pub before : m'.before ≡ m.before

-- an item was taken ahead, whose time is not too large, and what is due with it was put
pub record TakesNext (v : HeadView) (s t : MergeStage) (result : Result (Unit {0}) WriteFailed) : Type 0 where
  pub scanned : ScannedItem
  pub item : TakesItem v s.ahead t.ahead s.regs scanned
  pub regs : t.regs ≡ regs_after s.regs scanned.item
  pub same : SameMerging s.visit t.visit
  pub time : (scale : ℕ) → s.visit.factor ≡ scale → s.visit.time ≡ scale * s.regs.time → t.visit.time ≡ scale * t.regs.time
  pub small : (codes : List IdCode) (text : List ℕ) (x : BodyItem) → IsItem codes text scanned.item x → is_too_large s.visit.factor x ≡ false
  pub puts : PutsDue v.codes.now scanned.text.now scanned.item s.regs s.visit.time s.visit.first s.command t.command s.out t.out result

-- after some of the items ahead: the bytes in which they lie, what is known after them, the time of
-- the input, and the output
pub record StageAhead : Type 0 where
  pub at : ℕ
  pub items : List BodyItem
  pub regs : Regs
  pub time : ℕ
  pub written : Option ℕ
  pub out : Device

-- after the items before, these lie in the first n bytes ahead; this is known after them, and no
-- time is too large
pub record IsAhead (scale : ℕ) (h : Header) (limit lines : ℕ) (bytes : List ℕ) (behind : List BodyItem) (n : ℕ) (items : List BodyItem) (r : Regs) (time : ℕ) : Type 0 where
  pub gave : GaveAhead h.codes limit lines bytes n behind items
  pub known : AreRegsAfter (behind ++ items) r
  pub small : AllByRecursion (λ x. is_too_large scale x ≡ false) items
  pub time_is : time ≡ scale * r.time

module _ (scale first : ℕ) (h : Header) (limit lines : ℕ) (bytes : List ℕ) (behind : List BodyItem) where
  -- one more item, and what is due with it was written
  pub record OneAhead (b : StageAhead) (x : BodyItem) (n : ℕ) (r : Regs) (time : ℕ) (written : Option ℕ) (out : Device) : Type 0 where
    pub ahead : IsAhead scale h limit lines bytes behind n (b.items ++ x ∷ []) r time
    pub written_is : written ≡ written_with b.written (entry_for scale first h (behind ++ b.items) x)
    pub writes : Writes b.out out (due_with b.written (entry_for scale first h (behind ++ b.items) x))

  -- any number of items, after each of which the time of the input is before this one
  pub data TrailAhead (before : ℕ) (a : StageAhead) : StageAhead → Type 0 where
    Stands : TrailAhead before a a
    Further : (b c : StageAhead) (x : BodyItem) (so_far : TrailAhead before a b) (items_are : c.items ≡ b.items ++ x ∷ [])
        (one : OneAhead b x c.at c.regs c.time c.written c.out) (early : c.time < before) → TrailAhead before a c

  -- how that ends: no other was taken; after one more the time is no longer early; or a write of
  -- what is due with one more failed
  abbrev pub EndsAhead : {E : Type 0} → StageAhead → ℕ → Regs → ℕ → Option ℕ → Device → Result Bool E → Type 0
  EndsAhead m n r time written out (Ok false) = IsAhead scale h limit lines bytes behind n m.items r time × (written ≡ m.written) × (out ≡ m.out)
  EndsAhead m n r time written out (Ok true) = (x : BodyItem) × OneAhead m x n r time written out
  EndsAhead m n r time written out (Err e) =
      (x : BodyItem) × IsAhead scale h limit lines bytes behind n (m.items ++ x ∷ []) r time × WritesSome m.out out (due_with m.written (entry_for scale first h (behind ++ m.items) x))

  -- the trail, and how it ends
  pub record RunsAhead {E : Type 0} (before : ℕ) (a : StageAhead) (n : ℕ) (r : Regs) (time : ℕ) (written : Option ℕ) (out : Device) (result : Result Bool E) : Type 0 where
    pub mid : StageAhead
    pub trail : TrailAhead before a mid
    pub ends : EndsAhead mid n r time written out result
