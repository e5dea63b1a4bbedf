use Rattle.std.proofs.Common.{◌∙◌, ap, length, subst, sym}
use Rattle.vcd_model.specs.Strobe.{edges_in}
use Rattle.vcd_run.specs.Plan.{Plan}
use Rattle.vcd_text.proofs.Writes.{appends-none}
use Rattle.vcd_text.specs.Device.{Appends, Device}
use Rattle.vcd_strobe.proofs.FixedSteps.{clocks_are}
use Rattle.vcd_strobe.proofs.task.StrobeTask.close.Goals as goal

pub returns-clause-closes : goal.returns-clause-closes
returns-clause-closes g c = λ p h items views known has on.
    let out : Device = g.W.Sink.device c.args._out.now in
    let s = c.args.self.now in (
      subst (λ (q : Plan). Appends out.held out.held (q.closes items)) (sym has.by_plan) (appends-none out.held),
      has.edges.count ∙ ap (λ ks. length (edges_in ks items)) (sym (clocks_are s.places h.codes has.stands.places s.clocks.now has.ks has.clocks)),
    )
