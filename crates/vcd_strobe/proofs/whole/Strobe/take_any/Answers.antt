use Rattle.std.proofs.Common.{◌≡◌, ◌∙◌, true, false, ap, option_map, refl, subst, sym, unwrap_or}
use Rattle.std.proofs.lemmas.Option.{same_Some}
use Rattle.vcd_model.specs.Items.{BodyItem, Change, leaves_open}
use Rattle.vcd_model.specs.Strobe.{edges_in}
use Rattle.vcd_view.specs.declared.view.Code.{Code}
use Rattle.vcd_view.specs.Shown.{parts}
use Rattle.vcd_body.proofs.FindLemmas.{code_at}
use Rattle.vcd_body.specs.Given.{IsText}
use Rattle.vcd_body.specs.Items.{model_form}
use Rattle.vcd_strobe.proofs.ItemSteps.{stands_ignored, stands_inside}
use Rattle.vcd_strobe.proofs.TaskSteps.{changes_only, due_none, event_is, event_turn, ignored_turn, section_is, some_bit, strobed_still, view_distinct}
use Rattle.vcd_strobe.proofs.TurnSteps.{edges_low}
use Rattle.vcd_strobe.specs.Listed.{followed_at}
use Rattle.vcd_strobe.specs.Roles.{is_followed}
use Rattle.vcd_strobe.specs.declared.role.Role.{Role}
use Rattle.vcd_strobe.specs.Strobes.{SameEdges}
use Rattle.vcd_strobe.proofs.whole.Strobe.take_any.Goals as goal

pub returns-then-not-is_followed-clause-takes : goal.returns-then-not-is_followed-clause-takes
returns-then-not-is_followed-clause-takes g c = λ p h items a views has known declared few.
    let s = c.args.self.now in
    let x : Change = record { code = a; form = model_form c.args.form; text = c.args.text.now } in
    let distinct = view_distinct c.args.view h views in
    let only = changes_only h distinct c.args.code x declared in
    let ignored : followed_at s.roles.now c.args.code ≡ false = ap (λ o. unwrap_or (option_map (λ (r : Role). is_followed r.wanted) o) false)
    (sym c.in-Some.ensures) ∙ sym c.if-not-is_followed.ensures in
    let turn = ignored_turn h.codes distinct c.args.code x declared s.roles.now ignored items s.clocks.now has.ks has.clocks has.stands.clocked in
    let same : SameEdges s s = record { edges = refl; last = refl } in
    let stands = stands_ignored s h has.names (edges_in has.ks items) items has.stands x c.args.code a declared only.gives only.others c.in-Some.role
    (sym c.in-Some.ensures) (sym c.if-not-is_followed.ensures) in (
      due_none s s p h items has (BodyItem.Changes x) turn (g.W.Sink.device c.args.out.now),
      strobed_still s s p h items has (BodyItem.Changes x) turn refl same stands,
    )

pub returns-then-not-is_event-clause-takes : goal.returns-then-not-is_event-clause-takes
returns-then-not-is_event-clause-takes g c = λ p h items a views has known declared few.
    let x : Change = record { code = a; form = model_form c.args.form; text = c.args.text.now } in
    let distinct = view_distinct c.args.view h views in
    let found = code_at (parts c.args.view) h views c.args.code a declared in
    let good = c.requires.sound in
    let same : good.0 ≡ found.0 = same_Some good.0 found.0 (sym good.1 ∙ found.1) in
    let text = subst (λ (y : Code). IsText c.args.form y c.args.text.now) same good.2 in
    let event : a.event ≡ false = event_is h c.args.code a false (c.is_event.ensures.event h views) declared c.if-not-is_event.true in
    c.take_value.ensures.takes c.in-Some.role (sym c.in-Some.ensures) (sym c.if-not-is_followed.ensures) p h items a found.0 has known (changes_only h distinct c.args.code x declared) distinct event text (found.2.event_is
    ∙ event) found.2.size_is (some_bit h.codes c.args.code a views.sizes declared) few

pub returns-then-is_some-clause-takes : goal.returns-then-is_some-clause-takes
returns-then-is_some-clause-takes g c = λ p h items a views has known declared few.
    let s = c.args.self.now in
    let x : Change = record { code = a; form = model_form c.args.form; text = c.args.text.now } in
    let distinct = view_distinct c.args.view h views in
    let only = changes_only h distinct c.args.code x declared in
    let event : a.event ≡ true = event_is h c.args.code a true (c.is_event.ensures.event h views) declared c.if-not-is_event.false in
    let turn = event_turn h.codes distinct c.args.code x declared event items s.clocks.now has.ks has.clocks in
    let same : SameEdges s s = record { edges = refl; last = refl } in
    let inside : leaves_open items ≡ true = section_is items c.args.regs true known (sym c.is_some.ensures ∙ c.if-is_some.true) in (
      due_none s s p h items has (BodyItem.Changes x) turn (g.W.Sink.device c.args.out.now),
      strobed_still s s p h items has (BodyItem.Changes x) turn refl same
          (stands_inside s h has.names (edges_in has.ks items) items has.stands x c.args.code a declared only.gives only.others event inside),
    )

pub returns-clause-takes : goal.returns-clause-takes
returns-clause-takes g c = λ p h items a views has known declared few.
    let s = c.args.self.now in
    let x : Change = record { code = a; form = model_form c.args.form; text = c.args.text.now } in
    let distinct = view_distinct c.args.view h views in
    let only = changes_only h distinct c.args.code x declared in
    let event : a.event ≡ true = event_is h c.args.code a true (c.is_event.ensures.event h views) declared c.if-not-is_event.false in
    let turn = event_turn h.codes distinct c.args.code x declared event items s.clocks.now has.ks has.clocks in
    let outside : leaves_open items ≡ false = section_is items c.args.regs false known (sym c.is_some.ensures ∙ c.if-is_some.false) in
    let low = edges_low has.ks items s.edges s.last has.edges in
    let stands = c.trigger.ensures.triggers h has.names (edges_in has.ks items) items a x has.stands only event outside low known.time_is in (
      due_none s s p h items has (BodyItem.Changes x) turn (g.W.Sink.device c.args.out.now),
      strobed_still s _ p h items has (BodyItem.Changes x) turn c.trigger.ensures.same.clocks c.trigger.ensures.edges stands,
    )
