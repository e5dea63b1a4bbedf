use Rattle.vcd_body.proofs.Cited.{Option, sym, ap, ◌∙◌, subst, shown, Value, Takes, Held, value_at_size}
use Rattle.vcd_body.proofs.Facts.{value_there}
use Rattle.vcd_body.proofs.values.table_text.put_full.Goals as goal

pub returns-in_default-held-clause-takes : goal.returns-in_default-held-clause-takes
returns-in_default-held-clause-takes g c = λ laid.
    let declared = c.in-Some.declared in
    let value = value_there c.args.view c.args.table.now c.args.code declared (sym c.code_at.ensures ∙ c.in-Some.is) in
    subst (λ l. Takes (g.W.Sink.device c.args.w.now) (g.W.Sink.device c.put-in_default-held.new.w) l c.put-in_default-held.result)
    (sym (ap (λ (o : Option Value). shown o) (value ∙ ap (λ (h : Held). value_at_size declared.size h) (c.in_default-held.ensures laid))))
    c.put-in_default-held.ensures.0

pub returns-clause-takes : goal.returns-clause-takes
returns-clause-takes g c = λ laid.
    let declared = c.in-Some.declared in
    let value = value_there c.args.view c.args.table.now c.args.code declared (sym c.code_at.ensures ∙ c.in-Some.is) in
    subst (λ l. Takes (g.W.Sink.device c.args.w.now) (g.W.Sink.device c.put_value.new.w) l c.put_value.result)
    (sym (ap (λ (o : Option Value). shown o) (value ∙ ap (λ (h : Held). value_at_size declared.size h) (c.in-Some-held.ensures laid))))
    c.put_value.ensures.0
