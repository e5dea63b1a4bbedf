use Rattle.vcd_compare.proofs.Cited.{ℕ, List, Option, None, get_or_from_slice_get, is_last, true, false, sym, ap, subst, ◌∙◌, rules, shown, Value, Takes, counted}
use Rattle.vcd_compare.proofs.Facts.{event_is, event_shown, held_state, triggered_now}
use Rattle.vcd_compare.proofs.lines.put_state.Goals as goal

pub returns-then-not-is_event : goal.returns-then-not-is_event
returns-then-not-is_event g c = counted (search rules) (λ h items a views current there late.
    let none = event_is h.codes c.args.code a false there (sym c.if-not-is_event.true ∙ c.is_event.ensures.event h views) in
    subst (λ (l : List ℕ). Takes (g.W.Sink.device c.args.out.now) (g.W.Sink.device c.put_full.new.w) l c.put_full.result)
    (ap (λ (o : Option Value). shown o) (held_state c.args.view c.args.current.now h items views current c.args.code a there c.args.time late none))
    (c.put_full.ensures.takes current.held.values.laid))

pub returns-then-is_triggered : goal.returns-then-is_triggered
returns-then-is_triggered g c = counted (search rules) (λ h items a views current there late.
    let event = event_is h.codes c.args.code a true there (sym c.if-not-is_event.false ∙ c.is_event.ensures.event h views) in
    let last = current.triggers c.args.code a there event in
    let is = triggered_now c.args.view c.args.current.now h items views current c.args.code a there c.args.time late event ∙ ap (λ o. is_last o c.args.time) (sym (get_or_from_slice_get c.args.current.now.triggers.now c.args.code last.0 None last.1)) ∙ sym c.is_triggered.ensures ∙ c.if-is_triggered.true in
    subst (λ (l : List ℕ). Takes (g.W.Sink.device c.args.out.now) (g.W.Sink.device c.put.new.w) l c.put.result) (event_shown items a c.args.time true event is) c.put.ensures.0)

pub returns-else-is_triggered : goal.returns-else-is_triggered
returns-else-is_triggered g c = counted (search rules) (λ h items a views current there late.
    let event = event_is h.codes c.args.code a true there (sym c.if-not-is_event.false ∙ c.is_event.ensures.event h views) in
    let last = current.triggers c.args.code a there event in
    let is = triggered_now c.args.view c.args.current.now h items views current c.args.code a there c.args.time late event ∙ ap (λ o. is_last o c.args.time) (sym (get_or_from_slice_get c.args.current.now.triggers.now c.args.code last.0 None last.1)) ∙ sym c.is_triggered.ensures ∙ c.if-is_triggered.false in
    subst (λ (l : List ℕ). Takes (g.W.Sink.device c.args.out.now) (g.W.Sink.device c.put-else-is_triggered.new.w) l c.put-else-is_triggered.result)
    (event_shown items a c.args.time false event is) c.put-else-is_triggered.ensures.0)
