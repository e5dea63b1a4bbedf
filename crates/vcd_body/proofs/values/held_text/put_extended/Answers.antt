use Rattle.vcd_body.proofs.Cited.{◌≡◌, ◌-◌, length, replicate, subst, ap, ◌∙◌, arith, err_from_is_err_and, extension, Writes, WritesSome, puts-twice, some-first, digits_with}
use Rattle.vcd_body.proofs.values.held_text.put_extended.Goals as goal

pub returns-in_err-put_repeated : goal.returns-in_err-put_repeated
returns-in_err-put_repeated g c =
    let p = err_from_is_err_and c.from_residual.result c.from_residual.ensures.1 in
    let ds = digits_with c.args.held.holding c.args.held.bytes.now in
    let m = c.args.size - length ds in
    let count : c.saturating_sub-missing.result ≡ m = omega (arith, c.saturating_sub-missing.ensures, c.count.ensures) in
    let front = ap (λ n. replicate n c.extension.result) count ∙ ap (replicate m) c.extension.ensures in
    rw p.1 (some-first (g.W.Sink.device _) (g.W.Sink.device _) (replicate m (extension ds)) ds
    (subst (WritesSome (g.W.Sink.device c.args.w.now) (g.W.Sink.device c.put_repeated.new.w)) front c.in_err-put_repeated.ensures))

pub returns : goal.returns
returns g c =
    let ds = digits_with c.args.held.holding c.args.held.bytes.now in
    let m = c.args.size - length ds in
    let count : c.saturating_sub-missing.result ≡ m = omega (arith, c.saturating_sub-missing.ensures, c.count.ensures) in
    let front = ap (λ n. replicate n c.extension.result) count ∙ ap (replicate m) c.extension.ensures in
    puts-twice (g.W.Sink.device _) (g.W.Sink.device _) (g.W.Sink.device _) (replicate m (extension ds)) ds c.put_from.result
    (subst (Writes (g.W.Sink.device c.args.w.now) (g.W.Sink.device c.put_repeated.new.w)) front c.in_ok-put_repeated.ensures) c.put_from.ensures
