use Rattle.vcd_body.proofs.Cited.{[], ◌∷◌, ◌++◌, err_from_is_err_and, some-behind, some-first, puts-twice}
use Rattle.vcd_body.proofs.change.put_bit_line.Goals as goal

pub returns-in_err-put_from : goal.returns-in_err-put_from
returns-in_err-put_from g c =
    let p = err_from_is_err_and c.from_residual.result c.from_residual.ensures.1 in
    rw p.1 (some-first (g.W.Sink.device _) (g.W.Sink.device _) (g.D.Digits.digits c.args.digits) (c.args.id.now ++ 10 ∷ []) c.in_err-put_from.ensures)

pub returns-in_err-put : goal.returns-in_err-put
returns-in_err-put g c =
    let p = err_from_is_err_and c.from_residual-in_err-put.result c.from_residual-in_err-put.ensures.1 in
    let digits = g.D.Digits.digits c.args.digits in
    let id = c.args.id.now in
    rw p.1 (some-behind (g.W.Sink.device _) (g.W.Sink.device _) (g.W.Sink.device _) digits (id ++ 10 ∷ []) c.in_ok-put_from.ensures
    (some-first (g.W.Sink.device _) (g.W.Sink.device _) id (10 ∷ []) c.in_err-put.ensures))

pub returns : goal.returns
returns g c =
    let digits = g.D.Digits.digits c.args.digits in
    let id = c.args.id.now in
    let result = c.put-2.result in
    puts-twice (g.W.Sink.device _) (g.W.Sink.device _) (g.W.Sink.device _) digits (id ++ 10 ∷ []) result c.in_ok-put_from.ensures
    (puts-twice (g.W.Sink.device _) (g.W.Sink.device _) (g.W.Sink.device _) id (10 ∷ []) result c.in_ok-put.ensures c.put-2.ensures)
