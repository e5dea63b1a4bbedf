use Rattle.vcd_head.proofs.Cited.{◌≡◌, take, flat_map, Appends}
use Rattle.vcd_head.proofs.write.put_texts.Given as goal

abbrev pub invariant-loop-text : goal.invariant-loop-text
invariant-loop-text g l = ((g.W.Sink.device l.w).failures ≡ (g.W.Sink.device l.fn.w).failures)
    × Appends (g.W.Sink.device l.fn.w).held (g.W.Sink.device l.w).held (flat_map (λ text. text.now) (take l.text-index l.texts))
