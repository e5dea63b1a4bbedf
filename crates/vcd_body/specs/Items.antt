-- Items, and what is known after them.
use Rattle.std.specs.Prelude.{◌≡◌, ◌⊎◌, ℕ, ◌+◌, ◌<◌, ◌≤◌, true, false, not, cond, List, count_by, Some, None, is_some, option_map, Result, MatchResult}
use Rattle.vcd_model.specs.Bytes.{is_empty}
use Rattle.vcd_model.specs.Items.{SectionKind, ChangeForm, BodyItem, time_after, marks, open_section, is_begin, is_end_of_section}
use Rattle.vcd_body.specs.declared.fault.BodyFault.{BodyFault}
use Rattle.vcd_body.specs.declared.fault.BodyFault.TheVariants.{TimeBack, TimeInSection}
use Rattle.vcd_body.specs.declared.item.Section.{Section}
use Rattle.vcd_body.specs.declared.item.Section.TheVariants.{Vars, Off, On, All}
use Rattle.vcd_body.specs.declared.item.Form.{Form}
use Rattle.vcd_body.specs.declared.item.Form.TheVariants.{Scalar, Vector, RealText}
use Rattle.vcd_body.specs.declared.item.Item.{Item}
use Rattle.vcd_body.specs.declared.item.Item.TheVariants.{Time, Begin, End, Change, Finish}
use Rattle.vcd_body.specs.declared.item.Regs.{Regs}

-- the definitions' kind of section
abbrev pub model_section : Section → SectionKind
model_section Vars = SectionKind.Vars
model_section Off = SectionKind.Off
model_section On = SectionKind.On
model_section All = SectionKind.All

-- the definitions' form of a change
abbrev pub model_form : Form → ChangeForm
model_form Scalar = ChangeForm.Scalar
model_form Vector = ChangeForm.Vector
model_form RealText = ChangeForm.RealText

-- the registers say what is known after these items
pub record AreRegsAfter (items : List BodyItem) (r : Regs) : Type 0 where
  pub time_is : r.time ≡ time_after items
  pub marked_is : r.marked ≡ not (is_empty (marks items))
  pub section_is : option_map model_section r.section ≡ open_section items
  -- as many sections have ended as have begun, except the open one
  pub ended : count_by is_begin items ≡ count_by is_end_of_section items + cond (is_some r.section) 1 0

-- a timestamp of this time may come after these items; or it has this fault
pub record AcceptsTimestamp (r : Regs) (time : ℕ) : Type 0 where
  pub outside : is_some r.section ≡ false
  pub forth : r.time ≤ time

abbrev pub RefusesTimestamp : Regs → ℕ → BodyFault → Type 0
RefusesTimestamp r time fault = ((fault ≡ TimeInSection) × (is_some r.section ≡ true)) ⊎ ((fault ≡ TimeBack) × (is_some r.section ≡ false) × (time < r.time))

-- the registers after one more item
abbrev pub regs_after : Regs → Item → Regs
regs_after r (Time t) = record { time = t; marked = true; section = r.section }
regs_after r (Begin s) = record { time = r.time; marked = r.marked; section = Some s }
regs_after r End = record { time = r.time; marked = r.marked; section = None }
regs_after r (Change code form) = r
regs_after r Finish = r

-- the registers are those after the item that was read, and as before if nothing was read
abbrev pub AreRegsWith : {A E : Type 0} → (A → Item) → Regs → Regs → Result A E → Type 0
AreRegsWith item old new result = MatchResult result (λ x. new ≡ regs_after old (item x)) (λ _. new ≡ old)
