use Rattle.vcd_text.proofs.Cited.{[], ◌∷◌, ◌++◌, err_from_is_err_and}
use Rattle.vcd_text.proofs.Facts.{puts-twice, some-behind, some-first}
use Rattle.vcd_text.proofs.output.put_each.Goals as goal

pub returns-in_err-put : goal.returns-in_err-put
returns-in_err-put g c =
    let p = err_from_is_err_and c.from_residual.result c.from_residual.ensures.1 in
    rw p.1 (some-first (g.W.Sink.device _) (g.W.Sink.device _) (c.args.first ∷ []) (c.args.from.now ++ c.args.end.now) c.in_err-put.ensures)

pub returns-in_err-put-2 : goal.returns-in_err-put-2
returns-in_err-put-2 g c =
    let p = err_from_is_err_and c.from_residual-in_err-put-2.result c.from_residual-in_err-put-2.ensures.1 in
    let front = c.args.from.now in
    let end = c.args.end.now in
    rw p.1 (some-behind (g.W.Sink.device _) (g.W.Sink.device _) (g.W.Sink.device _) (c.args.first ∷ []) (front ++ end) c.in_ok-put.ensures
    (some-first (g.W.Sink.device _) (g.W.Sink.device _) front end c.in_err-put-2.ensures))

pub returns : goal.returns
returns g c =
    let front = c.args.from.now in
    let end = c.args.end.now in
    puts-twice (g.W.Sink.device _) (g.W.Sink.device _) (g.W.Sink.device _) (c.args.first ∷ []) (front ++ end) c.put-3.result c.in_ok-put.ensures
    (puts-twice (g.W.Sink.device _) (g.W.Sink.device _) (g.W.Sink.device _) front end c.put-3.result c.in_ok-put-2.ensures c.put-3.ensures)
