-- What is known of a step before it is counted, and when a value is set as by its text.
use Rattle.std.specs.Prelude.{◌≡◌, ◌≢◌, ◌≤◌, ℕ, ◌+◌, ◌-◌, ◌^◌, min, Bool, true, false, List, [], ◌∷◌, length, get_or, slice_set, Option, Some, IfSome}
use Rattle.vcd_model.specs.Values.{value_with}
use Rattle.vcd_body.specs.Contents.{ChangesCode, IsLaidOut, kept_at}
use Rattle.vcd_body.specs.Items.{model_form}
use Rattle.vcd_body.specs.Kept.{Held, IsStep, Kept, value_at_size, with_change, with_number_change}
use Rattle.vcd_body.specs.Stored.{AreLaidOut, ChangesAt, ChangesSlot}
use Rattle.vcd_body.specs.declared.values.bits.Bits.{Bits}
use Rattle.vcd_body.specs.declared.item.Form.{Form}
use Rattle.vcd_body.specs.declared.item.Form.TheVariants as form
use Rattle.vcd_body.specs.declared.values.slot.Share.{Share}
use Rattle.vcd_body.specs.declared.values.slot.Slot.{Slot}
use Rattle.vcd_body.specs.declared.values.step.Step.{Step}
use Rattle.vcd_body.specs.declared.values.table.Table.{Table}

-- this is the step from what is held to the digits of a text, at each size
abbrev pub TellsStep : Held → List ℕ → Option Step → Type 0
TellsStep h text result = IfSome result (λ step. (size : ℕ) → IsStep step (value_at_size size h) (value_with size (model_form form.Vector) text))

-- this many more in the counter at an index, of which there are three; a full one stays
abbrev pub counts_plus : ℕ → List ℕ → ℕ → List ℕ
counts_plus n counts which = slice_set counts which (min (get_or counts which 0 + n) (2 ^ 64 - 1))

-- this many more in a counter if the test holds
abbrev pub counts_plus_if : Bool → ℕ → List ℕ → ℕ → List ℕ
counts_plus_if true n counts which = counts_plus n counts which
counts_plus_if false n counts which = counts

-- this many more in the first counter, and in the others if the tests hold
abbrev pub counts_after : ℕ → Bool → Bool → List ℕ → List ℕ
counts_after n rises falls counts = counts_plus_if falls n (counts_plus_if rises n (counts_plus n counts 0) 1) 2

abbrev pub with_steps : ℕ → Bool → Bool → Kept → Kept
with_steps n rises falls k = record { held = k.held; counts = counts_after n rises falls k.counts; chosen = k.chosen; room = k.room }

-- The slot had no room to count the step. The 256 steps that are left to count make the change
-- whole once they are added.
abbrev pub LeavesSteps : ℕ → (Kept → Kept) → Bool → Bool → List Slot → List Slot → Type 0
LeavesSteps code f rises falls slots slots' = (shares : List Share) (values after : List ℕ) (counted : List Slot) (with : List Share)
    → ChangesAt code (with_steps 256 rises falls) values slots' shares after counted with → ChangesAt code f values slots shares after counted with

-- the slot has the digit, and its step is counted; or 256 steps are left to count
abbrev pub FlipsTo : ℕ → ℕ → List Slot → List Slot → Type 0
FlipsTo code digit slots slots' = (f : Form) → f ≢ form.RealText → (size : ℕ) → ChangesSlot code (with_change size f (digit ∷ [])) slots slots'

abbrev pub LeavesFlip : ℕ → ℕ → Bool → Bool → List Slot → List Slot → Type 0
LeavesFlip code digit rises falls slots slots' = (f : Form) → f ≢ form.RealText → (size : ℕ) → LeavesSteps code (with_change size f (digit ∷ [])) rises falls slots slots'

-- the slot has the number, and its step at a size is counted; or 256 steps are left to count
abbrev pub StepsTo : ℕ → ℕ → Bits → List Slot → List Slot → Type 0
StepsTo code size b slots slots' = (shares : List Share) (values : List ℕ) → AreLaidOut slots shares (length values)
    → ChangesAt code (with_number_change size b.len b.number) values slots shares values slots' shares

abbrev pub LeavesNumber : ℕ → ℕ → Bits → Bool → Bool → List Slot → List Slot → Type 0
LeavesNumber code size b rises falls slots slots' = (shares : List Share) (values after : List ℕ) → AreLaidOut slots shares (length values)
    → (counted : List Slot) (with : List Share) → ChangesAt code (with_steps 256 rises falls) values slots' shares after counted with
    → ChangesAt code (with_number_change size b.len b.number) values slots shares after counted with

-- the code at an index is changed by f, if it has room for 8 bytes
abbrev pub ChangesRoomy : ℕ → (Kept → Kept) → Table → Table → Type 0
ChangesRoomy code f old new = IsLaidOut old → (k : Kept) → kept_at old code ≡ Some k → 8 ≤ k.room → ChangesCode code f old new
