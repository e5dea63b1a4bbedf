use Rattle.vcd_engine.proofs.Cited.{◌≡◌, ℕ, List, [], ◌∷◌, ◌++◌, Err, append_assoc, ap, subst, decimal, rules, count_line, Writes, WritesSome, both-written, puts-twice, some-behind, some-first}
use Rattle.vcd_engine.proofs.report.put_count.Goals as goal

-- the line in the parts that are written
parts : (name value : List ℕ) → ((name ++ 32 ∷ []) ++ value) ++ 10 ∷ [] ≡ count_line name value
parts name value = ap (λ l. l ++ 10 ∷ []) (append_assoc name (32 ∷ []) value)

pub returns-in_err-put : goal.returns-in_err-put
returns-in_err-put g c =
    let e : c.from_residual.result ≡ Err c.in_err-put.field-0.0 = search rules in
    let name = subst (WritesSome (g.W.Sink.device c.args.out.now) (g.W.Sink.device c.put.new.w)) c.as_bytes.ensures.value c.in_err-put.ensures in
    rw (e, ← parts c.args.name.now (decimal c.args.number)) (some-first (g.W.Sink.device _) (g.W.Sink.device _) _ (10 ∷ [])
    (some-first (g.W.Sink.device _) (g.W.Sink.device _) _ (decimal c.args.number)
    (some-first (g.W.Sink.device _) (g.W.Sink.device _) _ (32 ∷ []) name)))

pub returns-in_err-put-2 : goal.returns-in_err-put-2
returns-in_err-put-2 g c =
    let e : c.from_residual-in_err-put-2.result ≡ Err c.in_err-put-2.field-0.0 = search rules in
    let name = subst (Writes (g.W.Sink.device c.args.out.now) (g.W.Sink.device c.put.new.w)) c.as_bytes.ensures.value c.in_ok-put.ensures in
    rw (e, ← parts c.args.name.now (decimal c.args.number)) (some-first (g.W.Sink.device _) (g.W.Sink.device _) _ (10 ∷ [])
    (some-first (g.W.Sink.device _) (g.W.Sink.device _) _ (decimal c.args.number)
    (some-behind (g.W.Sink.device _) (g.W.Sink.device _) (g.W.Sink.device _) _ (32 ∷ []) name c.in_err-put-2.ensures)))

pub returns-in_err-put_number : goal.returns-in_err-put_number
returns-in_err-put_number g c =
    let e : c.from_residual-in_err-put_number.result ≡ Err c.in_err-put_number.field-0.0 = search rules in
    let name = subst (Writes (g.W.Sink.device c.args.out.now) (g.W.Sink.device c.put.new.w)) c.as_bytes.ensures.value c.in_ok-put.ensures in
    let spaced = both-written (g.W.Sink.device _) (g.W.Sink.device _) (g.W.Sink.device _) _ (32 ∷ []) name c.in_ok-put-2.ensures in
    rw (e, ← parts c.args.name.now (decimal c.args.number)) (some-first (g.W.Sink.device _) (g.W.Sink.device _) _ (10 ∷ [])
    (some-behind (g.W.Sink.device _) (g.W.Sink.device _) (g.W.Sink.device _) _ (decimal c.args.number) spaced c.in_err-put_number.ensures))

pub returns : goal.returns
returns g c =
    let name = subst (Writes (g.W.Sink.device c.args.out.now) (g.W.Sink.device c.put.new.w)) c.as_bytes.ensures.value c.in_ok-put.ensures in
    let spaced = both-written (g.W.Sink.device _) (g.W.Sink.device _) (g.W.Sink.device _) _ (32 ∷ []) name c.in_ok-put-2.ensures in
    let numbered = both-written (g.W.Sink.device _) (g.W.Sink.device _) (g.W.Sink.device _) _ (decimal c.args.number) spaced c.in_ok-put_number.ensures in
    rw (← parts c.args.name.now (decimal c.args.number)) (puts-twice (g.W.Sink.device _) (g.W.Sink.device _) (g.W.Sink.device _) _ (10 ∷ []) c.put-3.result numbered c.put-3.ensures)
