use Rattle.vcd_engine.proofs.Cited.{◌≡◌, ℕ, false, List, Err, flat_map, subst, ap, arith, rules, Appends, take_all, is_settled, sample_lines, selected, texts-some}
use Rattle.vcd_engine.proofs.Facts.{all-at}
use Rattle.vcd_engine.proofs.sample_lines.put_samples.Goals as goal

pub returns-in_err-put_sample-clause-takes : goal.returns-in_err-put_sample-clause-takes
returns-in_err-put_sample-clause-takes g c = λ h items names views marked held late.
    let e : c.from_residual.result ≡ Err c.in_err-put_sample.field-0.0 = search rules in
    rw e
    (texts-some _ _ _ (sample_lines (selected names h.declarations) items) c.args.times.now c.loop-time.time-index _ (omega arith) (c.loop-time.invariant.1 h items names views marked held late)
    (c.in_err-put_sample.ensures.0 h items names views marked held (all-at (λ t. is_settled items t ≡ false) c.args.times.now c.loop-time.time-index _ (omega arith) late)))

pub returns-clause-takes : goal.returns-clause-takes
returns-clause-takes g c = λ h items names views marked held late.
    let end = take_all c.loop-time.time-index c.args.times.now (omega (arith, c.loop-time-test.false)) in
    subst (λ (l : List ℕ). Appends (g.W.Sink.device c.args.out.now).held (g.W.Sink.device c.loop-time.out).held l)
    (ap (flat_map (sample_lines (selected names h.declarations) items)) end) (c.loop-time.invariant.1 h items names views marked held late)
