use Rattle.std.proofs.Common.{rules, ◌≡◌, ◌∙◌, Err, ap, subst, sym}
use Rattle.vcd_body.specs.Given.{IsItem}
use Rattle.vcd_body.specs.Items.{AreRegsAfter, regs_after}
use Rattle.vcd_body.specs.declared.item.Item.{Item}
use Rattle.vcd_strobe.proofs.FixedSteps.{same_fixed}
use Rattle.vcd_strobe.proofs.TaskSteps.{takes_failed, takes_on, takes_rest}
use Rattle.vcd_strobe.proofs.task.StrobeTask.take.Goals as goal

pub returns-in_err-take_any-in-Change-clause-takes : goal.returns-in_err-take_any-in-Change-clause-takes
returns-in_err-take_any-in-Change-clause-takes g c = λ p h items before x views known next r read few has on.
    let its = subst (λ (i : Item). IsItem h.codes c.args.text.now i x) c.in-Change.is read in
    let same : c.args.regs ≡ before = r ∙ ap (regs_after before) c.in-Change.is in
    let takes = c.in_err-take_any-in-Change.ensures.takes p h items its.0 views has (subst (AreRegsAfter items) (sym same) known) its.1 few in
    let e : c.from_residual.result ≡ Err c.in_err-take_any-in-Change.field-0.0 = search rules in
    rw (e, its.2) (takes_failed _ p h items _ _ _ _ takes.0)

pub returns-in_ok-take_any-in-Change-clause-takes : goal.returns-in_ok-take_any-in-Change-clause-takes
returns-in_ok-take_any-in-Change-clause-takes g c = λ p h items before x views known next r read few has on.
    let its = subst (λ (i : Item). IsItem h.codes c.args.text.now i x) c.in-Change.is read in
    let same : c.args.regs ≡ before = r ∙ ap (regs_after before) c.in-Change.is in
    let takes = c.in_ok-take_any-in-Change.ensures.takes p h items its.0 views has (subst (AreRegsAfter items) (sym same) known) its.1 few in
    rw its.2 (takes_on _ p h items _ _ _ takes.0 takes.1)

pub returns-in-Time-clause-takes : goal.returns-in-Time-clause-takes
returns-in-Time-clause-takes g c = λ p h items before x views known next r read few has on.
    takes_rest c.args.self.now p h items has c.args.text.now x c.args.item before c.args.regs (g.W.Sink.device c.args.out.now) next r read c.in-Time.is

pub returns-in_err-take_any-in-Change-clause-fixed : goal.returns-in_err-take_any-in-Change-clause-fixed
returns-in_err-take_any-in-Change-clause-fixed g c = same_fixed _ _ c.in_err-take_any-in-Change.ensures.same

pub returns-in_ok-take_any-in-Change-clause-fixed : goal.returns-in_ok-take_any-in-Change-clause-fixed
returns-in_ok-take_any-in-Change-clause-fixed g c = same_fixed _ _ c.in_ok-take_any-in-Change.ensures.same
