use Rattle.vcd_body.proofs.Cited.{[], ◌∷◌, ◌+◌, ◌++◌, slice_range, err_from_is_err_and, new_code, both-written, puts-twice, some-behind, some-first}
use Rattle.vcd_body.proofs.renamed.put_copied_slowly.Goals as goal

pub returns-in_err-put : goal.returns-in_err-put
returns-in_err-put g c =
    let p = err_from_is_err_and c.from_residual.result c.from_residual.ensures.1 in
    let bytes = c.args.bytes.now in
    let first = slice_range bytes c.args.from (c.args.from + 1) in
    let rest = slice_range bytes (c.args.from + 1 + c.args.left_out) c.args.end in
    rw p.1 (some-first (g.W.Sink.device _) (g.W.Sink.device _) (first ++ rest) (32 ∷ new_code c.args.number ++ 10 ∷ [])
    (some-first (g.W.Sink.device _) (g.W.Sink.device _) first rest c.in_err-put.ensures))

pub returns-in_err-put-2 : goal.returns-in_err-put-2
returns-in_err-put-2 g c =
    let p = err_from_is_err_and c.from_residual-in_err-put-2.result c.from_residual-in_err-put-2.ensures.1 in
    let bytes = c.args.bytes.now in
    let first = slice_range bytes c.args.from (c.args.from + 1) in
    let rest = slice_range bytes (c.args.from + 1 + c.args.left_out) c.args.end in
    rw p.1 (some-first (g.W.Sink.device _) (g.W.Sink.device _) (first ++ rest) (32 ∷ new_code c.args.number ++ 10 ∷ [])
    (some-behind (g.W.Sink.device _) (g.W.Sink.device _) (g.W.Sink.device _) first rest c.in_ok-put.ensures c.in_err-put-2.ensures))

pub returns : goal.returns
returns g c =
    let bytes = c.args.bytes.now in
    let first = slice_range bytes c.args.from (c.args.from + 1) in
    let rest = slice_range bytes (c.args.from + 1 + c.args.left_out) c.args.end in
    let front = both-written (g.W.Sink.device _) (g.W.Sink.device _) (g.W.Sink.device _) first rest c.in_ok-put.ensures c.in_ok-put-2.ensures in
    puts-twice (g.W.Sink.device _) (g.W.Sink.device _) (g.W.Sink.device _) (first ++ rest) (32 ∷ new_code c.args.number ++ 10 ∷ []) c.put_any_code.result front c.put_any_code.ensures
