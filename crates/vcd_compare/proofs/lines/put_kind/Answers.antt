use Rattle.vcd_compare.proofs.Cited.{ℕ, List, sym, ap, subst, ◌∙◌, rules, kind_shown, Takes, counted, model_kind}
use Rattle.vcd_compare.proofs.lines.put_kind.Goals as goal

pub returns-in-Event : goal.returns-in-Event
returns-in-Event g c = counted (search rules) (λ h v views at.
    subst (λ (l : List ℕ). Takes (g.W.Sink.device c.args.out.now) (g.W.Sink.device c.put.new.w) l c.put.result)
    (ap kind_shown (sym (ap model_kind c.in-Event.is) ∙ c.kind_of.ensures h v views at)) c.put.ensures.0)

pub returns-in-Real : goal.returns-in-Real
returns-in-Real g c = counted (search rules) (λ h v views at.
    subst (λ (l : List ℕ). Takes (g.W.Sink.device c.args.out.now) (g.W.Sink.device c.put-in-Real.new.w) l c.put-in-Real.result)
    (ap kind_shown (sym (ap model_kind c.in-Real.is) ∙ c.kind_of.ensures h v views at)) c.put-in-Real.ensures.0)

pub returns-in-Digits : goal.returns-in-Digits
returns-in-Digits g c = counted (search rules) (λ h v views at.
    subst (λ (l : List ℕ). Takes (g.W.Sink.device c.args.out.now) (g.W.Sink.device c.put_number.new.w) l c.put_number.result)
    (ap kind_shown (sym (ap model_kind c.in-Digits.is) ∙ c.kind_of.ensures h v views at)) c.put_number.ensures.0)
