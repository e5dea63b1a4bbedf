use Rattle.std.proofs.Common.{List, ℕ, ◌++◌, codes, rules, subst}
use Rattle.vcd_text.proofs.Writes.{puts-first, puts-twice}
use Rattle.vcd_text.specs.Device.{Puts}
use Rattle.vcd_strobe.proofs.HeadSteps.{variable_text}
use Rattle.vcd_strobe.proofs.run.put_variable.Goals as goal

pub returns-in_err-put : goal.returns-in_err-put
returns-in_err-put g c =
    let rest = c.args.id.now ++ codes " time $end\n$upscope $end\n" in
    subst (λ (l : List ℕ). Puts (g.W.Sink.device c.args.out.now) (g.W.Sink.device c.put.new.w) l c.from_residual.result) (variable_text c.args.id.now)
    (puts-first (g.W.Sink.device c.args.out.now) (g.W.Sink.device c.put.new.w) (codes "$scope module strobe $end\n$var time 64 ") rest c.from_residual.result (search rules) c.in_err-put.ensures)

pub returns-in_err-put-2 : goal.returns-in_err-put-2
returns-in_err-put-2 g c =
    let last = codes " time $end\n$upscope $end\n" in
    subst (λ (l : List ℕ). Puts (g.W.Sink.device c.args.out.now) (g.W.Sink.device c.put-2.new.w) l c.from_residual-in_err-put-2.result) (variable_text c.args.id.now)
    (puts-twice (g.W.Sink.device c.args.out.now) (g.W.Sink.device c.put.new.w) (g.W.Sink.device c.put-2.new.w)
    (codes "$scope module strobe $end\n$var time 64 ") (c.args.id.now ++ last) c.from_residual-in_err-put-2.result c.in_ok-put.ensures
    (puts-first (g.W.Sink.device c.put.new.w) (g.W.Sink.device c.put-2.new.w) c.args.id.now last c.from_residual-in_err-put-2.result (search rules) c.in_err-put-2.ensures))

pub returns : goal.returns
returns g c =
    let last = codes " time $end\n$upscope $end\n" in
    subst (λ (l : List ℕ). Puts (g.W.Sink.device c.args.out.now) (g.W.Sink.device c.put-3.new.w) l c.put-3.result) (variable_text c.args.id.now)
    (puts-twice (g.W.Sink.device c.args.out.now) (g.W.Sink.device c.put.new.w) (g.W.Sink.device c.put-3.new.w)
    (codes "$scope module strobe $end\n$var time 64 ") (c.args.id.now ++ last) c.put-3.result c.in_ok-put.ensures
    (puts-twice (g.W.Sink.device c.put.new.w) (g.W.Sink.device c.put-2.new.w) (g.W.Sink.device c.put-3.new.w) c.args.id.now last c.put-3.result c.in_ok-put-2.ensures c.put-3.ensures))
