use Rattle.vcd_body.proofs.Cited.{[], ◌∷◌, ◌++◌, drop, err_from_is_err_and, id_text, some-behind, some-first, puts-twice}
use Rattle.vcd_body.proofs.put_line.put_vector.Goals as goal

pub returns-in_err-put : goal.returns-in_err-put
returns-in_err-put g c =
    let p = err_from_is_err_and c.from_residual.result c.from_residual.ensures.1 in
    rw p.1 (some-first (g.W.Sink.device _) (g.W.Sink.device _) (98 ∷ []) (drop c.args.from (g.D.Digits.digits c.args.digits) ++ (32 ∷ id_text c.args.id ++ 10 ∷ [])) c.in_err-put.ensures)

pub returns-in_err-put_from : goal.returns-in_err-put_from
returns-in_err-put_from g c =
    let p = err_from_is_err_and c.from_residual-in_err-put_from.result c.from_residual-in_err-put_from.ensures.1 in
    let digits = drop c.args.from (g.D.Digits.digits c.args.digits) in
    let end = 32 ∷ id_text c.args.id ++ 10 ∷ [] in
    rw p.1 (some-behind (g.W.Sink.device _) (g.W.Sink.device _) (g.W.Sink.device _) (98 ∷ []) (digits ++ end) c.in_ok-put.ensures
    (some-first (g.W.Sink.device _) (g.W.Sink.device _) digits end c.in_err-put_from.ensures))

pub returns : goal.returns
returns g c =
    let digits = drop c.args.from (g.D.Digits.digits c.args.digits) in
    let end = 32 ∷ id_text c.args.id ++ 10 ∷ [] in
    let result = c.put_code_under.result in
    puts-twice (g.W.Sink.device _) (g.W.Sink.device _) (g.W.Sink.device _) (98 ∷ []) (digits ++ end) result c.in_ok-put.ensures
    (puts-twice (g.W.Sink.device _) (g.W.Sink.device _) (g.W.Sink.device _) digits end result c.in_ok-put_from.ensures c.put_code_under.ensures)
