use Rattle.vcd_job.proofs.Cited.{◌≡◌, take, flat_map, Appends}
use Rattle.vcd_job.proofs.message.put_texts.Given as goal

abbrev pub invariant-loop-text : goal.invariant-loop-text
invariant-loop-text g l = ((g.E.Sink.device l.err).failures ≡ (g.E.Sink.device l.fn.err).failures)
    × Appends (g.E.Sink.device l.fn.err).held (g.E.Sink.device l.err).held (flat_map (λ text. text.now) (take l.text-index l.texts))
