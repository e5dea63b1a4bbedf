use Rattle.vcd_body.proofs.Cited.{[], ◌∷◌, ◌++◌, err_from_is_err_and, some-behind, some-first, puts-twice}
use Rattle.vcd_body.proofs.change.put_real.Goals as goal

pub returns-in_err-put : goal.returns-in_err-put
returns-in_err-put g c =
    let p = err_from_is_err_and c.from_residual.result c.from_residual.ensures.1 in
    rw p.1 (some-first (g.W.Sink.device _) (g.W.Sink.device _) (114 ∷ []) (c.args.text.now ++ (32 ∷ c.args.id.now ++ 10 ∷ [])) c.in_err-put.ensures)

pub returns-in_err-put-2 : goal.returns-in_err-put-2
returns-in_err-put-2 g c =
    let p = err_from_is_err_and c.from_residual-in_err-put-2.result c.from_residual-in_err-put-2.ensures.1 in
    let text = c.args.text.now in
    let end = 32 ∷ c.args.id.now ++ 10 ∷ [] in
    rw p.1 (some-behind (g.W.Sink.device _) (g.W.Sink.device _) (g.W.Sink.device _) (114 ∷ []) (text ++ end) c.in_ok-put.ensures
    (some-first (g.W.Sink.device _) (g.W.Sink.device _) text end c.in_err-put-2.ensures))

pub returns : goal.returns
returns g c =
    let text = c.args.text.now in
    let end = 32 ∷ c.args.id.now ++ 10 ∷ [] in
    let result = c.put_code_text.result in
    puts-twice (g.W.Sink.device _) (g.W.Sink.device _) (g.W.Sink.device _) (114 ∷ []) (text ++ end) result c.in_ok-put.ensures
    (puts-twice (g.W.Sink.device _) (g.W.Sink.device _) (g.W.Sink.device _) text end result c.in_ok-put-2.ensures c.put_code_text.ensures)
