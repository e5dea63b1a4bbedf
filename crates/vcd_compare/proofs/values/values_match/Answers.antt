use Rattle.vcd_compare.proofs.Cited.{Option, Some, sym, ap, ◌∙◌, bytes_eq, match, Value, codes_shown, held_at, value_in, real_text, value_at_size, value_there, rule_of}
use Rattle.vcd_compare.proofs.Facts.{bits_real, bits_there, both_real, some_unset, unset_some}
use Rattle.vcd_compare.proofs.values.values_match.Goals as goal

pub returns-in-Bits-get : goal.returns-in-Bits-get
returns-in-Bits-get c = λ k d laid there its.
    let t = c.args.table.now in
    let r = rule_of c.args.asked in
    let one = held_at t c.args.one in
    let other = held_at t c.args.other in
    let first = sym c.get.ensures ∙ c.in-Unset.is in
    let second = sym c.get-in-Unset.ensures ∙ c.in-Bits-get.is in
    let values = ap (λ (o : Option Value). match r o (value_in (codes_shown c.args.view) t c.args.other))
    (value_there c.args.view t c.args.one k there) ∙ ap (λ (o : Option Value). match r (value_at_size k.size one) o)
    (value_there c.args.view t c.args.other d its) in
    sym (values ∙ unset_some r k.size d.size one other _ first second (λ e. cc))

pub returns-in-Real-get : goal.returns-in-Real-get
returns-in-Real-get c = λ k d laid there its.
    let t = c.args.table.now in
    let r = rule_of c.args.asked in
    let one = held_at t c.args.one in
    let other = held_at t c.args.other in
    let first = sym c.get.ensures ∙ c.in-Unset.is in
    let second = sym c.get-in-Unset.ensures ∙ c.in-Real-get.is in
    let values = ap (λ (o : Option Value). match r o (value_in (codes_shown c.args.view) t c.args.other))
    (value_there c.args.view t c.args.one k there) ∙ ap (λ (o : Option Value). match r (value_at_size k.size one) o)
    (value_there c.args.view t c.args.other d its) in
    sym (values ∙ unset_some r k.size d.size one other _ first second (λ e. cc))

pub returns-in-Unset-get-2 : goal.returns-in-Unset-get-2
returns-in-Unset-get-2 c = λ k d laid there its.
    let t = c.args.table.now in
    let r = rule_of c.args.asked in
    let one = held_at t c.args.one in
    let other = held_at t c.args.other in
    let first = sym c.get.ensures ∙ c.in-Bits.is in
    let second = sym c.get-in-Bits.ensures ∙ c.in-Unset-get-2.is in
    let values = ap (λ (o : Option Value). match r o (value_in (codes_shown c.args.view) t c.args.other))
    (value_there c.args.view t c.args.one k there) ∙ ap (λ (o : Option Value). match r (value_at_size k.size one) o)
    (value_there c.args.view t c.args.other d its) in
    sym (values ∙ some_unset r k.size d.size one other _ first second (λ e. cc))

pub returns-in-Unset-get-3 : goal.returns-in-Unset-get-3
returns-in-Unset-get-3 c = λ k d laid there its.
    let t = c.args.table.now in
    let r = rule_of c.args.asked in
    let one = held_at t c.args.one in
    let other = held_at t c.args.other in
    let first = sym c.get.ensures ∙ c.in-Real.is in
    let second = sym c.get-in-Real.ensures ∙ c.in-Unset-get-3.is in
    let values = ap (λ (o : Option Value). match r o (value_in (codes_shown c.args.view) t c.args.other))
    (value_there c.args.view t c.args.one k there) ∙ ap (λ (o : Option Value). match r (value_at_size k.size one) o)
    (value_there c.args.view t c.args.other d its) in
    sym (values ∙ some_unset r k.size d.size one other _ first second (λ e. cc))

pub returns-in-Bits-get-2 : goal.returns-in-Bits-get-2
returns-in-Bits-get-2 c = λ k d laid there its.
    let t = c.args.table.now in
    let r = rule_of c.args.asked in
    let one = held_at t c.args.one in
    let other = held_at t c.args.other in
    let first = sym c.get.ensures ∙ c.in-Bits.is in
    let second = sym c.get-in-Bits.ensures ∙ c.in-Bits-get-2.is in
    let values = ap (λ (o : Option Value). match r o (value_in (codes_shown c.args.view) t c.args.other))
    (value_there c.args.view t c.args.one k there) ∙ ap (λ (o : Option Value). match r (value_at_size k.size one) o)
    (value_there c.args.view t c.args.other d its) in
    let (ds, a) = bits_there k.size one first in
    let (es, b) = bits_there d.size other second in
    c.all_match.ensures ds es laid (value_there c.args.view t c.args.one k there ∙ a) (value_there c.args.view t c.args.other d its ∙ b)
    ∙ sym (values ∙ ap (λ (o : Option Value). match r o (value_at_size d.size other)) a ∙ ap (λ (o : Option Value). match r (Some (Value.Bits ds)) o) b)

pub returns-in-Real-get-2 : goal.returns-in-Real-get-2
returns-in-Real-get-2 c = λ k d laid there its.
    let t = c.args.table.now in
    let r = rule_of c.args.asked in
    let one = held_at t c.args.one in
    let other = held_at t c.args.other in
    let first = sym c.get.ensures ∙ c.in-Bits.is in
    let second = sym c.get-in-Bits.ensures ∙ c.in-Real-get-2.is in
    let values = ap (λ (o : Option Value). match r o (value_in (codes_shown c.args.view) t c.args.other))
    (value_there c.args.view t c.args.one k there) ∙ ap (λ (o : Option Value). match r (value_at_size k.size one) o)
    (value_there c.args.view t c.args.other d its) in
    sym (values ∙ (bits_real r k.size d.size one other first second).0)

pub returns-in-Bits-get-3 : goal.returns-in-Bits-get-3
returns-in-Bits-get-3 c = λ k d laid there its.
    let t = c.args.table.now in
    let r = rule_of c.args.asked in
    let one = held_at t c.args.one in
    let other = held_at t c.args.other in
    let first = sym c.get.ensures ∙ c.in-Real.is in
    let second = sym c.get-in-Real.ensures ∙ c.in-Bits-get-3.is in
    let values = ap (λ (o : Option Value). match r o (value_in (codes_shown c.args.view) t c.args.other))
    (value_there c.args.view t c.args.one k there) ∙ ap (λ (o : Option Value). match r (value_at_size k.size one) o)
    (value_there c.args.view t c.args.other d its) in
    sym (values ∙ (bits_real r d.size k.size other one second first).1)

pub returns-in-Real-get-3 : goal.returns-in-Real-get-3
returns-in-Real-get-3 c = λ k d laid there its.
    let t = c.args.table.now in
    let r = rule_of c.args.asked in
    let one = held_at t c.args.one in
    let other = held_at t c.args.other in
    let first = sym c.get.ensures ∙ c.in-Real.is in
    let second = sym c.get-in-Real.ensures ∙ c.in-Real-get-3.is in
    let values = ap (λ (o : Option Value). match r o (value_in (codes_shown c.args.view) t c.args.other))
    (value_there c.args.view t c.args.one k there) ∙ ap (λ (o : Option Value). match r (value_at_size k.size one) o)
    (value_there c.args.view t c.args.other d its) in
    c.eq.ensures ∙ ap (λ l. bytes_eq l c.real-in-Real-get-3.result.now) (c.real.ensures laid)
    ∙ ap (λ l. bytes_eq (real_text one) l) (c.real-in-Real-get-3.ensures laid)
    ∙ sym (values ∙ both_real c.args.asked k.size d.size one other first second)
