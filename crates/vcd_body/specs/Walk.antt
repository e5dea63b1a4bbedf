-- How far a walk over the items ahead has come, for any task.
use Rattle.std.specs.Prelude.{◌≡◌, ℕ, ◌<◌, ◌≤◌, Bool, true, false, List, length, Option, MatchOption, Result, Ok, Err, IfOk}
use Rattle.vcd_text.specs.Ahead.{bytes_of, passed_of}
use Rattle.vcd_text.specs.Device.{Counts, Device}
use Rattle.vcd_text.specs.declared.ahead.Ahead.{Ahead}
use Rattle.vcd_text.specs.declared.device.WriteFailed.{WriteFailed}
use Rattle.vcd_view.specs.declared.view.HeadView.{HeadView}
use Rattle.vcd_body.specs.Ahead.{PassesNoItem}
use Rattle.vcd_body.specs.Taken.{TakesItem}
use Rattle.vcd_body.specs.declared.ahead.ScannedItem.{ScannedItem}
use Rattle.vcd_body.specs.declared.item.Regs.{Regs}
use Rattle.vcd_body.specs.declared.walk.WalkEnd.{WalkEnd}
use Rattle.vcd_body.specs.declared.walk.WalkEnd.TheVariants.{AtLines, AtItem, Over}

-- where a walk is: its position, the registers after the items so far, the visit and what it works
-- on, and the output
pub record Stage (V C : Type 0) : Type 0 where
  pub ahead : Ahead
  pub regs : Regs
  pub visit : V
  pub command : C
  pub out : Device

abbrev pub stage_at : {V C : Type 0} → Ahead → Regs → V → C → Device → Stage V C
stage_at a r visit command out = record { ahead = a; regs = r; visit = visit; command = command; out = out }

-- a result, without what it gives
abbrev pub as_done : {A E : Type 0} → Result A E → Result (Unit {0}) E
as_done (Ok v) = Ok tt
as_done (Err e) = Err e

-- whether the visit is over, if no write failed
abbrev pub over_of : {E : Type 0} → Result WalkEnd E → Result Bool E
over_of (Ok AtLines) = Ok false
over_of (Ok AtItem) = Ok false
over_of (Ok Over) = Ok true
over_of (Err e) = Err e

module _ {V C : Type 0} (takes : HeadView → Stage V C → Stage V C → Result (Unit {0}) WriteFailed → Type 0) (stands : V → C → List ℕ → Regs → Type 0) where
  -- the walk can continue from there
  abbrev pub CanGoOn : Stage V C → Type 0
  CanGoOn s = stands s.visit s.command (bytes_of s.ahead) s.regs

  -- one more item was taken ahead, and the visit has done with it what it does
  pub record TakesOne (v : HeadView) (s s' : Stage V C) (result : Result (Unit {0}) WriteFailed) : Type 0 where
    pub scanned : ScannedItem
    pub item : TakesItem v s.ahead s'.ahead s.regs scanned
    pub did : takes v s s' result
    pub counts : Counts s.out s'.out result
    pub on : IfOk result (λ _. CanGoOn s')

  -- if there is a result, one more item was taken ahead; otherwise nothing has changed
  abbrev pub MayTakeNext : {A : Type 0} → HeadView → Stage V C → Stage V C → Option (Result A WriteFailed) → Type 0
  MayTakeNext v s s' result = MatchOption result (s' ≡ s) (λ one. TakesOne v s s' (as_done one))

  -- if there is a result, one more item was taken ahead, up to this position; otherwise nothing has
  -- changed
  abbrev pub MayTakeUpTo : {A : Type 0} → HeadView → Stage V C → (Ahead → Stage V C) → Ahead → Option (Result A WriteFailed) → Type 0
  MayTakeUpTo v s s' to result = MatchOption result (s' s.ahead ≡ s) (λ one. TakesOne v s (s' to) (as_done one))

  -- if there is a result, a timestamp was taken, with which nothing is written; otherwise nothing
  -- has changed
  abbrev pub MayTakeTimestamp : HeadView → (Device → Stage V C) → (Device → Stage V C) → Option (Unit {0}) → Type 0
  MayTakeTimestamp v s s' result = MatchOption result ((out : Device) → s' out ≡ s out) (λ _. (out : Device) → TakesOne v (s out) (s' out) (Ok tt))

  module _ (over : V → Bool) (v : HeadView) where
    -- items were taken one after the other, and the visit was not over after any of them; between
    -- two of them only comments were passed
    pub data Trail (a : Stage V C) : Stage V C → Type 0 where
      Begins : Trail a a
      Further : (b c : Stage V C) (so_far : Trail a b) (one : TakesOne v b c (Ok tt)) (on : over c.visit ≡ false) → Trail a c
      Past : (b c : Stage V C) (so_far : Trail a b) (there : Ahead) (none : PassesNoItem b.ahead there) (is : c ≡ stage_at there b.regs b.visit b.command b.out) → Trail a c

    -- how far it has come from where it began; it can continue
    pub record HasCome (a z : Stage V C) : Type 0 where
      pub trail : Trail a z
      pub on : CanGoOn z
      pub failures : z.out.failures ≡ a.out.failures
      pub same : bytes_of z.ahead ≡ bytes_of a.ahead
      pub further : passed_of a.ahead ≤ passed_of z.ahead
      pub within : passed_of z.ahead ≤ length (bytes_of z.ahead)

    -- how it ends: before another item; after one more, with which the visit is over; or a write of
    -- what is due with one more failed. It does not end at lines for the faster loop
    abbrev pub Walks : Stage V C → Stage V C → Result WalkEnd WriteFailed → Type 0
    Walks a z (Ok AtLines) = ⊥
    Walks a z (Ok AtItem) = HasCome a z
    Walks a z (Ok Over) = (m : Stage V C) × HasCome a m × TakesOne v m z (Ok tt) × (over z.visit ≡ true)
    Walks a z (Err e) = (m : Stage V C) × HasCome a m × TakesOne v m z (Err e)

    -- how it ends if it also ends at such lines, past some bytes, where the visit is not over
    abbrev pub WalksToLines : Stage V C → Stage V C → Result WalkEnd WriteFailed → Type 0
    WalksToLines a z (Ok AtLines) = HasCome a z × (passed_of a.ahead < passed_of z.ahead) × (over z.visit ≡ false)
    WalksToLines a z (Ok AtItem) = Walks a z (Ok AtItem)
    WalksToLines a z (Ok Over) = Walks a z (Ok Over)
    WalksToLines a z (Err e) = Walks a z (Err e)
