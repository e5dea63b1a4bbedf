use Rattle.std.proofs.Common.{subst, sym}
use Rattle.vcd_job.proofs.MessageLemmas.{puts-shows}
use Rattle.vcd_job.specs.Message.{Shows}
use Rattle.vcdkit_compare.proofs.LineLemmas.{refusal-line, refusal-two}
use Rattle.vcdkit_compare.proofs.job.VcdkitCompareOneInput.refuse.Goals as goal

pub returns-clause-line : goal.returns-clause-line
returns-clause-line g c = record {
  line = subst (λ l. Shows (g.E.Sink.device c.args.err.now) (g.E.Sink.device c.put_refusal.new.err) l) (sym (refusal-line c.args.job.now c.args.why))
      (puts-shows (g.E.Sink.device c.args.err.now) (g.E.Sink.device c.put_refusal.new.err) _ c.put_refusal.result c.put_refusal.ensures);
  status = sym (refusal-two c.args.job.now c.args.why);
}
