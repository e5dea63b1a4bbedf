use Rattle.std.proofs.Common.{◌∷◌, [], codes, refl, subst, sym}
use Rattle.vcd_job.proofs.MessageLemmas.{puts-shows}
use Rattle.vcd_job.specs.Message.{Shows}
use Rattle.vcd_model.specs.Outcome.{program_line}
use Rattle.vcd_model.specs.Strobe.{no_clock_text}
use Rattle.vcd_text.specs.Device.{Puts}
use Rattle.vcd_strobe.specs.Named.{model_why}
use Rattle.vcdkit_strobe.specs.Work.{no_clock_line, no_edge, program_name, word_at}
use Rattle.vcdkit_strobe.proofs.MessageLines.{line-is, three-is}
use Rattle.vcdkit_strobe.proofs.job.VcdkitStrobeOneInput.refuse.Goals as goal

pub returns-in-NoClock-clause-line : goal.returns-in-NoClock-clause-line
returns-in-NoClock-clause-line g c =
    let old = g.E.Sink.device c.args.err.now in
    let new = g.E.Sink.device c.put_no_clock.new.err in
    rw c.in-NoClock.is (record {
      line = subst (λ l. Shows old new l) (sym (three-is (word_at c.args.job.now c.in-NoClock.index) (32 ∷ []) (no_clock_text (model_why c.in-NoClock.why))))
          (puts-shows old new _ c.put_no_clock.result
          (subst (λ w. Puts old new (program_line program_name (no_clock_line w c.in-NoClock.why).message) c.put_no_clock.result) c.word_at.ensures c.put_no_clock.ensures));
      status = refl;
    })

pub returns-in-NoEdge-clause-line : goal.returns-in-NoEdge-clause-line
returns-in-NoEdge-clause-line g c =
    let old = g.E.Sink.device c.args.err.now in
    let new = g.E.Sink.device c.put_no_edge.new.err in
    rw c.in-NoEdge.is (record {
      line = subst (λ l. Shows old new l) (sym (line-is c.args.name.now (codes " no edge")))
          (puts-shows old new _ c.put_no_edge.result
          (subst (λ n. Puts old new (program_line program_name (no_edge n).message) c.put_no_edge.result) c.as_bytes.ensures.value c.put_no_edge.ensures));
      status = refl;
    })
