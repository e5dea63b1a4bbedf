use Rattle.std.proofs.Common.{rules, ◌≡◌, ◌∙◌, ◌++◌, ◌∷◌, [], ℕ, List, Err, ap, refl, subst, sym, true}
use Rattle.std.proofs.lemmas.Option.{same_Some}
use Rattle.vcd_model.specs.Items.{BodyItem, Change}
use Rattle.vcd_model.specs.Strobe.{edges_in}
use Rattle.vcd_body.specs.Device.{DueBy}
use Rattle.vcd_body.specs.Items.{model_form}
use Rattle.vcd_run.specs.Plan.{Plan}
use Rattle.vcd_text.proofs.Writes.{AppendsSome}
use Rattle.vcd_text.specs.Device.{Appends}
use Rattle.vcd_strobe.proofs.ChangeSteps.{clocks_placed, edges_as, edges_placed, from_low, full_text, turn_placed, unneeded_by}
use Rattle.vcd_strobe.proofs.FixedSteps.{same_but_table, same_then}
use Rattle.vcd_strobe.proofs.LineSteps.{code_low}
use Rattle.vcd_strobe.proofs.Sampled.{time_still}
use Rattle.vcd_strobe.specs.Roles.{is_followed}
use Rattle.vcd_strobe.specs.declared.role.Role.{Role}
use Rattle.vcd_strobe.specs.Clocks.{AreClocks}
use Rattle.vcd_strobe.specs.Lines.{in_places}
use Rattle.vcd_strobe.proofs.whole.Strobe.take_value.Goals as goal

pub returns-in_err-put_turn-clause-takes : goal.returns-in_err-put_turn-clause-takes
returns-in_err-put_turn-clause-takes g c = λ q at kept p h items a d has known only distinct event good plain size some few.
    let s = c.args.self.now in
    let s1 = c.put_value.new.self in
    let r = c.in-Some.role in
    let followed : is_followed r.wanted ≡ true = ap (λ (x : Role). is_followed x.wanted) (same_Some r q (c.in-Some.ensures ∙ at)) ∙ kept in
    let to = c.spare-to.result in
    let few_places = c.spare-to.ensures.within in
    let x : Change = record { code = a; form = model_form c.args.form; text = c.args.text.now } in
    let placed = c.put_value.ensures.sets h has.names (edges_in has.ks items) items a d has.stands only.declared
    (unneeded_by s.roles.now c.args.code to r c.in-Some.ensures c.spare-to.ensures.spare) good plain size in
    let rest = c.put_value.ensures.rest in
    let low = code_low s.places h.codes c.args.code a has.stands.places only.declared in
    let from = from_low s s1 p h items has rest c.args.code to a c.args.form c.args.text.now d r c.in-Some.ensures only.declared distinct event good plain size some few_places placed.0 placed.1 in
    let edges = edges_placed s s1 p h items has rest c.args.code to a c.args.form c.args.text.now d r c.in-Some.ensures only.declared distinct event good plain size some few_places placed.0 placed.1 in
    let turn = turn_placed s s1 p h items has rest c.args.code to a c.args.form c.args.text.now d r c.in-Some.ensures only.declared distinct event good plain size some few_places placed.0 placed.1 followed in
    let put = c.in_err-put_turn.ensures.puts h has.names has.ks items (BodyItem.Changes x) placed.0 edges known.time_is (time_still items (BodyItem.Changes x) refl) few low from few_places turn in
    let e : c.from_residual.result ≡ Err c.in_err-put_turn.field-0.0 = search rules in
    rw e (
      subst (λ (q : Plan). DueBy (λ (due : List ℕ). AppendsSome (g.W.Sink.device c.args.out.now).held (g.W.Sink.device c.put_turn.new.out).held due)
          (q.opens items) (q.opens (items ++ BodyItem.Changes x ∷ []))) (sym has.by_plan) put.0,
      tt,
    )

pub returns-clause-takes : goal.returns-clause-takes
returns-clause-takes g c = λ q at kept p h items a d has known only distinct event good plain size some few.
    let s = c.args.self.now in
    let s1 = c.put_value.new.self in
    let r = c.in-Some.role in
    let followed : is_followed r.wanted ≡ true = ap (λ (x : Role). is_followed x.wanted) (same_Some r q (c.in-Some.ensures ∙ at)) ∙ kept in
    let to = c.spare-to.result in
    let few_places = c.spare-to.ensures.within in
    let x : Change = record { code = a; form = model_form c.args.form; text = c.args.text.now } in
    let placed = c.put_value.ensures.sets h has.names (edges_in has.ks items) items a d has.stands only.declared
    (unneeded_by s.roles.now c.args.code to r c.in-Some.ensures c.spare-to.ensures.spare) good plain size in
    let rest = c.put_value.ensures.rest in
    let low = code_low s.places h.codes c.args.code a has.stands.places only.declared in
    let from = from_low s s1 p h items has rest c.args.code to a c.args.form c.args.text.now d r c.in-Some.ensures only.declared distinct event good plain size some few_places placed.0 placed.1 in
    let edges = edges_placed s s1 p h items has rest c.args.code to a c.args.form c.args.text.now d r c.in-Some.ensures only.declared distinct event good plain size some few_places placed.0 placed.1 in
    let turn = turn_placed s s1 p h items has rest c.args.code to a c.args.form c.args.text.now d r c.in-Some.ensures only.declared distinct event good plain size some few_places placed.0 placed.1 followed in
    let put = c.in_ok-put_turn.ensures.puts h has.names has.ks items (BodyItem.Changes x) placed.0 edges known.time_is (time_still items (BodyItem.Changes x) refl) few low from few_places turn in
    let clocks = clocks_placed s s1 p h items has rest c.args.code to a c.args.form c.args.text.now d r c.in-Some.ensures only.declared distinct event good plain size some few_places placed.0 placed.1 in
    let value = ap (λ t. in_places t a.size c.args.code to) c.in_ok-put_turn.ensures.table ∙ placed.1 in
    let last = c.turn.ensures.edges in (
      subst (λ (q : Plan). DueBy (λ (due : List ℕ). Appends (g.W.Sink.device c.args.out.now).held (g.W.Sink.device c.put_turn.new.out).held due)
          (q.opens items) (q.opens (items ++ BodyItem.Changes x ∷ []))) (sym has.by_plan) put.0,
      record {
        names = has.names;
        ks = has.ks;
        by_plan = has.by_plan;
        clocks = subst (λ (b : _). AreClocks h.codes b.now has.ks) (sym (c.turn.ensures.same.clocks ∙ c.in_ok-put_turn.ensures.same.clocks)) clocks;
        edges = edges_as has.ks (items ++ BodyItem.Changes x ∷ []) _ _ _ _ last.edges last.last put.1.1;
        stands = c.turn.ensures.takes h has.names (edges_in has.ks (items ++ BodyItem.Changes x ∷ [])) items a x put.1.0 only event known value
            (full_text c.args.form d c.args.text.now a.size good plain size some);
      },
    )

pub returns-in_err-put_turn-clause-same : goal.returns-in_err-put_turn-clause-same
returns-in_err-put_turn-clause-same g c = same_then _ _ _ (same_but_table _ _ c.put_value.ensures.rest) c.in_err-put_turn.ensures.same

pub returns-clause-same : goal.returns-clause-same
returns-clause-same g c = same_then _ _ _ (same_then _ _ _ (same_but_table _ _ c.put_value.ensures.rest) c.in_ok-put_turn.ensures.same) c.turn.ensures.same
