use Rattle.vcd_job.proofs.Cited.{List, ℕ, refl, subst, Puts}
use Rattle.vcd_job.proofs.Facts.{both-line, puts-shows}
use Rattle.vcd_job.proofs.message.say_both.Goals as goal

pub returns : goal.returns
returns g c =
    let line = both-line c.args.program.now c.args.first.now c.args.second.now _ _ _ c.as_bytes.ensures.value c.as_bytes-2.ensures.value c.as_bytes-3.ensures.value in
    record {
      line = puts-shows (g.E.Sink.device _) (g.E.Sink.device _) _ _
          (subst (λ (l : List ℕ). Puts (g.E.Sink.device c.args.err.now) (g.E.Sink.device c.put_texts.new.err) l c.put_texts.result)
          line c.put_texts.ensures);
      status = refl;
    }
