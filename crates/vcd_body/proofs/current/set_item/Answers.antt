use Rattle.vcd_body.proofs.Cited.{refl, subst, HasBits}
use Rattle.vcd_body.proofs.Facts.{bits_hold, held_still, other_gives, text_holds}
use Rattle.vcd_body.proofs.current.set_item.Goals as goal

pub returns-in_default : goal.returns-in_default
returns-in_default c = record {
  held = λ view h items x views good read held. held_still c.args.table.now h items x (other_gives h.codes c.args.text.now c.args.item x read c.in_default.not-Change) held;
  keeps = record { laid = λ laid. laid; codes = refl; bytes = refl };
}

pub returns-in-Some-clause-held : goal.returns-in-Some-clause-held
returns-in-Some-clause-held c = λ view h items x views good read held.
    let has = subst (HasBits c.args.item c.args.text.now) c.in-Some.is c.requires.bits in
    let laid = held.values.laid in
    let set = c.set_value.ensures in
    bits_hold view h c.args.table.now c.set_value.new.self items c.args.item c.args.text.now c.in-Some.bits c.in-Change.code c.in-Change.form x views held c.in-Change.is has good read
    (set.as_text laid) (set.sets.keeps.laid laid) (set.value laid)

pub returns-in-None-clause-held : goal.returns-in-None-clause-held
returns-in-None-clause-held c = text_holds c.args.item c.in-Change.code c.in-Change.form c.args.text.now c.args.text.now c.args.table.now c.set.new.self
    c.in-Change.is (λ code good. (good, λ event. refl)) c.set.ensures.sets c.set.ensures.value
