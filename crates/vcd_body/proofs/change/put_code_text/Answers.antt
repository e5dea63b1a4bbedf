use Rattle.vcd_body.proofs.Cited.{[], ◌∷◌, ◌++◌, err_from_is_err_and, some-behind, some-first, puts-twice}
use Rattle.vcd_body.proofs.change.put_code_text.Goals as goal

pub returns-in_err-put-2 : goal.returns-in_err-put-2
returns-in_err-put-2 g c =
    let p = err_from_is_err_and c.from_residual-in_err-put-2.result c.from_residual-in_err-put-2.ensures.1 in
    let id = c.args.id.now in
    rw p.1 (some-behind (g.W.Sink.device _) (g.W.Sink.device _) (g.W.Sink.device _) (c.args.first ∷ []) (id ++ 10 ∷ []) c.in_ok-put.ensures
    (some-first (g.W.Sink.device _) (g.W.Sink.device _) id (10 ∷ []) c.in_err-put-2.ensures))

pub returns : goal.returns
returns g c =
    let id = c.args.id.now in
    let result = c.put-3.result in
    puts-twice (g.W.Sink.device _) (g.W.Sink.device _) (g.W.Sink.device _) (c.args.first ∷ []) (id ++ 10 ∷ []) result c.in_ok-put.ensures
    (puts-twice (g.W.Sink.device _) (g.W.Sink.device _) (g.W.Sink.device _) id (10 ∷ []) result c.in_ok-put-2.ensures c.put-3.ensures)
