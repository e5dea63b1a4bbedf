use Rattle.vcd_head.proofs.Cited.{◌≡◌, ◌<◌, List, ℕ, subst, arith, Puts}
use Rattle.vcd_head.proofs.Facts.{closing_is}
use Rattle.vcd_head.proofs.merged.put_closing.Goals as goal

pub returns : goal.returns
returns g c =
    let pending = c.args.scopes.pending in
    let written = c.args.scopes.written in
    let none : pending ≡ 0 = omega arith in
    let some : 0 < written = omega arith in
    subst (λ (l : List ℕ). Puts (g.W.Sink.device c.args.w.now) (g.W.Sink.device c.put.new.w) l c.put.result) (closing_is pending written none some) c.put.ensures
