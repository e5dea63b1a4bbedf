use Rattle.vcd_body.proofs.Cited.{◌≡◌, ◌∷◌, [], List, ℕ, get_or, length, refl, subst, sym, ap, ◌∙◌, SetsCode, Held, with_held, with_text, held_digit, ChangesAt, with_value}
use Rattle.vcd_body.proofs.Facts.{change_as, number_as_text, one_text, sets_text, sets_value, alone}
use Rattle.vcd_body.specs.declared.item.Form.TheVariants as form
use Rattle.vcd_body.specs.declared.values.value.Value.{Value}
use Rattle.vcd_body.proofs.values.table.Table.set_value.Goals as goal

pub returns-in-len1-clause-sets : goal.returns-in-len1-clause-sets
returns-in-len1-clause-sets c =
    let old = c.args.self.now in
    let text = c.in-Digits.text.now in
    let digit = get_or text 0 0 in
    let one : digit ∷ [] ≡ text = alone text c.in-len1.len_at_least c.in-len1.len_below in
    record {
      keeps = record { laid = c.set_tag.ensures.laid (held_digit digit) c.tag_of_digit.ensures old.shares.now (length old.values.now); codes = cc; bytes = refl };
      changes = λ laid. subst (λ (v : Value). ChangesAt c.args.code (with_value v) old.values.now old.slots.now old.shares.now old.values.now c.set_tag.new.slots old.shares.now) (sym c.in-Digits.is)
          (change_as c.args.code (with_held (Held.Digits (held_digit digit ∷ [])))
          (with_text form.Vector text) old.values.now old.values.now old.slots.now c.set_tag.new.slots old.shares.now old.shares.now
          (λ k kept. sym (one_text form.Vector digit k (λ e. cc)) ∙ ap (λ (l : List ℕ). with_text form.Vector l k) one)
          (c.set_tag.ensures.changes (held_digit digit) c.tag_of_digit.ensures old.shares.now old.values.now));
    }

pub returns-in-len1-clause-as_text : goal.returns-in-len1-clause-as_text
returns-in-len1-clause-as_text c = sets_text c.args.self.now _ c.args.code c.args.value (returns-in-len1-clause-sets c)

pub returns-in-len1-clause-value : goal.returns-in-len1-clause-value
returns-in-len1-clause-value c = sets_value c.args.self.now _ c.args.code c.args.value (returns-in-len1-clause-sets c)

pub returns-in_default-clause-sets : goal.returns-in_default-clause-sets
returns-in_default-clause-sets c = subst (λ (v : Value). SetsCode c.args.code (with_value v) c.args.self.now c.set_text.new.self) (sym c.in-Digits.is) c.set_text.ensures

pub returns-in_default-clause-as_text : goal.returns-in_default-clause-as_text
returns-in_default-clause-as_text c = sets_text c.args.self.now _ c.args.code c.args.value (returns-in_default-clause-sets c)

pub returns-in_default-clause-value : goal.returns-in_default-clause-value
returns-in_default-clause-value c = sets_value c.args.self.now _ c.args.code c.args.value (returns-in_default-clause-sets c)

pub returns-in-Real-clause-sets : goal.returns-in-Real-clause-sets
returns-in-Real-clause-sets c = subst (λ (v : Value). SetsCode c.args.code (with_value v) c.args.self.now c.set_text-in-Real.new.self) (sym c.in-Real.is) c.set_text-in-Real.ensures

pub returns-in-Real-clause-as_text : goal.returns-in-Real-clause-as_text
returns-in-Real-clause-as_text c = sets_text c.args.self.now _ c.args.code c.args.value (returns-in-Real-clause-sets c)

pub returns-in-Real-clause-value : goal.returns-in-Real-clause-value
returns-in-Real-clause-value c = sets_value c.args.self.now _ c.args.code c.args.value (returns-in-Real-clause-sets c)

pub returns-in-Bits-clause-sets : goal.returns-in-Bits-clause-sets
returns-in-Bits-clause-sets c =
    let old = c.args.self.now in
    record {
      keeps = record { laid = c.set_bits.ensures.laid old.shares.now (length old.values.now); codes = cc; bytes = refl };
      changes = λ laid. subst (λ (v : Value). ChangesAt c.args.code
          (with_value v) old.values.now old.slots.now old.shares.now old.values.now c.set_bits.new.slots old.shares.now) (sym c.in-Bits.is)
          (c.set_bits.ensures.changes old.shares.now old.values.now);
    }

pub returns-in-Bits-clause-as_text : goal.returns-in-Bits-clause-as_text
returns-in-Bits-clause-as_text c = sets_text c.args.self.now _ c.args.code c.args.value (returns-in-Bits-clause-sets c)

pub returns-in-Bits-clause-value : goal.returns-in-Bits-clause-value
returns-in-Bits-clause-value c = sets_value c.args.self.now _ c.args.code c.args.value (returns-in-Bits-clause-sets c)

pub returns-in-Bits-clause-bits : goal.returns-in-Bits-clause-bits
returns-in-Bits-clause-bits c = λ b is.
    let old = c.args.self.now in
    let same : c.in-Bits.bits ≡ b = cc in
    let changes = c.set_bits.ensures.changes old.shares.now old.values.now in
    let there = c.in-Bits.bits in
    rw (← same) (record {
      changes = changes;
      as_text = λ k at room.
          number_as_text c.args.code there.len there.number old.values.now old.values.now old.slots.now c.set_bits.new.slots old.shares.now old.shares.now k there.some there.few at room changes;
    })
