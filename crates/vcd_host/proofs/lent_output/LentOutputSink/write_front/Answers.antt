use Rattle.vcd_host.proofs.Cited.{◌+◌, ◌<◌, ◌≤◌, ◌∙◌, ◌++◌, List, ℕ, ap, arith, length, refl, take, take-take}
use Rattle.vcd_host.proofs.Facts.{front-copied, gained, none-gone}
use Rattle.vcd_host.proofs.lent_output.LentOutputSink.write_front.Goals as goal

pub returns-clause-all : goal.returns-clause-all
returns-clause-all c = λ _.
    let sink = c.args.self.now in
    let xs = sink.bytes.now in
    let from = c.args.from.now in
    let few : c.args.n ≤ 64 = omega (arith, c.if-n-gt-SHORT.false) in
    let fits : sink.used + 64 < length xs = omega (arith, c.if-self-le-SHORT.false, sink.within) in
    let none = none-gone sink.gone.bytes sink.used (length xs) sink.dropped sink.number (omega (arith, fits)) sink.order in
    let front = front-copied xs c.copy_short.new.to (take 64 from) sink.used 64 c.args.n sink.within few c.copy_short.ensures.copied
    ∙ ap (λ (l : List ℕ). take sink.used xs ++ l) (take-take c.args.n 64 from few) in
    (gained sink.bytes.ghost_name xs c.copy_short.new.to sink.gone.bytes (take c.args.n from) sink.used c.args.n none front, refl)
