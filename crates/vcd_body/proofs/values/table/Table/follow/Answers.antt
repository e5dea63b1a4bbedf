use Rattle.vcd_body.proofs.Cited.{subst, sym, SetsCode, with_value_change}
use Rattle.vcd_body.proofs.Facts.{change_as_text, change_gives}
use Rattle.vcd_body.specs.declared.values.value.Value.{Value}
use Rattle.vcd_body.proofs.values.table.Table.follow.Goals as goal

pub returns-in-Digits-clause-sets : goal.returns-in-Digits-clause-sets
returns-in-Digits-clause-sets c = subst (λ (v : Value). SetsCode c.args.code (with_value_change c.args.size v) c.args.self.now c.follow_digits.new.self) (sym c.in-Digits.is) c.follow_digits.ensures

pub returns-in-Digits-clause-as_text : goal.returns-in-Digits-clause-as_text
returns-in-Digits-clause-as_text c = λ laid k at room.
    change_as_text c.args.self.now c.follow_digits.new.self c.args.code c.args.value c.args.size k at room
    (let sets = returns-in-Digits-clause-sets c in sets.changes laid)

pub returns-in-Digits-clause-value : goal.returns-in-Digits-clause-value
returns-in-Digits-clause-value c = λ laid. change_gives c.args.self.now c.follow_digits.new.self c.args.code c.args.value c.args.size (let sets = returns-in-Digits-clause-sets c in sets.changes laid)

pub returns-in-Real-clause-sets : goal.returns-in-Real-clause-sets
returns-in-Real-clause-sets c = subst (λ (v : Value). SetsCode c.args.code (with_value_change c.args.size v) c.args.self.now c.follow_any.new.self) (sym c.in-Real.is) c.follow_any.ensures

pub returns-in-Real-clause-as_text : goal.returns-in-Real-clause-as_text
returns-in-Real-clause-as_text c = λ laid k at room.
    change_as_text c.args.self.now c.follow_any.new.self c.args.code c.args.value c.args.size k at room (let sets = returns-in-Real-clause-sets c in
    sets.changes laid)

pub returns-in-Real-clause-value : goal.returns-in-Real-clause-value
returns-in-Real-clause-value c = λ laid. change_gives c.args.self.now c.follow_any.new.self c.args.code c.args.value c.args.size (let sets = returns-in-Real-clause-sets c in sets.changes laid)

pub returns-in-Bits-clause-sets : goal.returns-in-Bits-clause-sets
returns-in-Bits-clause-sets c = subst (λ (v : Value). SetsCode c.args.code (with_value_change c.args.size v) c.args.self.now c.follow_bits.new.self) (sym c.in-Bits.is) c.follow_bits.ensures

pub returns-in-Bits-clause-as_text : goal.returns-in-Bits-clause-as_text
returns-in-Bits-clause-as_text c = λ laid k at room.
    change_as_text c.args.self.now c.follow_bits.new.self c.args.code c.args.value c.args.size k at room (let sets = returns-in-Bits-clause-sets c in
    sets.changes laid)

pub returns-in-Bits-clause-value : goal.returns-in-Bits-clause-value
returns-in-Bits-clause-value c = λ laid. change_gives c.args.self.now c.follow_bits.new.self c.args.code c.args.value c.args.size (let sets = returns-in-Bits-clause-sets c in sets.changes laid)
