use Rattle.vcd_body.proofs.Cited.{◌≡◌, ◌-◌, ◌++◌, ◌∷◌, ◌∙◌, [], ap, subst, take, drop, decimal, arith, rules, slice_range, length-decimal-le, take-take, take_at, Puts}
use Rattle.vcd_body.proofs.time_line.put_time.Goals as goal

pub write_digits-start-requires : goal.write_digits-start-requires
write_digits-start-requires g c = search (rules, length-decimal-le 20)

pub returns : goal.returns
returns g c =
    let start = c.write_digits-start.result in
    let buf = c.write_digits-start.new.buf in
    let long = c.write_digits-start.ensures.start in
    let all : take (20 - start) (slice_range buf start 84) ≡ decimal c.args.time = take-take (20 - start) (84 - start) (drop start buf) (omega arith)
    ∙ ap (take (20 - start)) c.write_digits-start.ensures.written ∙ take_at (decimal c.args.time) _ (20 - start) (omega (arith, long)) in
    subst (λ l. Puts (g.W.Sink.device c.args.out.now) (g.W.Sink.device c.put_parts.new.w) (35 ∷ l ++ 10 ∷ []) c.put_parts.result) all c.put_parts.ensures
