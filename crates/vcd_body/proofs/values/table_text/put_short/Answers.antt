use Rattle.vcd_body.proofs.Cited.{List, ℕ, sym, ap, ◌∙◌, subst, line_if_set, Takes, shown_code, held_in, Held, value_at_size}
use Rattle.vcd_body.proofs.Facts.{line_there}
use Rattle.vcd_body.proofs.values.table_text.put_short.Goals as goal

pub returns-clause-takes : goal.returns-clause-takes
returns-clause-takes g c = λ laid.
    let declared = c.in-Some.declared in
    let line = line_there c.args.view c.args.table.now c.args.code declared (sym c.code_at.ensures ∙ c.in-Some.is) in
    subst (λ l. Takes (g.W.Sink.device c.args.w.now) (g.W.Sink.device c.put_value_line.new.w) l c.put_value_line.result)
    (ap (λ (t : List ℕ). line_if_set (record { text = t; size = declared.size; event = declared.event }) (value_at_size declared.size (held_in c.in-Some-held.held))) c.text_at-id.ensures
    ∙ sym (line ∙ ap (λ (h : Held). line_if_set (shown_code c.args.view.text.now declared) (value_at_size declared.size h)) (c.in-Some-held.ensures laid)))
    (c.put_value_line.ensures declared.event).0

pub returns-clause-counts : goal.returns-clause-counts
returns-clause-counts g c = let puts = c.put_value_line.ensures c.in-Some.declared.event in puts.1
