use Rattle.vcd_view.proofs.Cited.{false, unwrap_or, option_map, sym, ap, ◌∙◌, IdCode}
use Rattle.vcd_view.proofs.Facts.{code_of_shown, none_of_shown}
use Rattle.vcd_view.proofs.view.HeadView.is_event.Goals as goal

pub returns-in-Some-clause-event : goal.returns-in-Some-clause-event
returns-in-Some-clause-event c = λ h v.
    let k = code_of_shown _ _ h.codes c.args.position c.in-Some.code v.codes (sym c.code_at.ensures ∙ c.in-Some.is) in
    k.2.event_is ∙ sym (ap (λ o. unwrap_or (option_map (λ (c : IdCode). c.event) o) false) k.1)

pub returns-in-None-clause-event : goal.returns-in-None-clause-event
returns-in-None-clause-event c = λ h v.
    let none = none_of_shown _ _ h.codes c.args.position v.codes (sym c.code_at.ensures ∙ c.in-None.is) in
    sym (ap (λ o. unwrap_or (option_map (λ (c : IdCode). c.event) o) false) none)
