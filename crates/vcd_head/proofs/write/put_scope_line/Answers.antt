use Rattle.vcd_head.proofs.Cited.{List, ℕ, subst, rules, Takes, reference_of, type_of, counted}
use Rattle.vcd_head.proofs.Facts.{scope_text}
use Rattle.vcd_head.proofs.write.put_scope_line.Goals as goal

pub returns : goal.returns
returns g c = counted (search rules) (λ h d v is.
    let line = scope_text (type_of d) (reference_of d) c.type_of-type_text.result.now c.reference_of-name.result.now (c.type_of-type_text.ensures h d v is) (c.reference_of-name.ensures h d v is) in
    subst (λ (l : List ℕ). Takes (g.W.Sink.device c.args.w.now) (g.W.Sink.device c.put_texts.new.w) l c.put_texts.result) line c.put_texts.ensures.0)
