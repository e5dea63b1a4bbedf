use Rattle.vcd_body.proofs.Cited.{ℕ, ◌-◌, List, length, take, take_all, drop, length-drop, sym, subst, arith, Form, Vector}
use Rattle.vcd_body.specs.Current.{GivesSame}
use Rattle.vcd_body.proofs.Facts.{short_gives}
use Rattle.vcd_body.proofs.current.shortest.Goals as goal

pub returns-in-Vector : goal.returns-in-Vector
returns-in-Vector c =
    let text = c.args.text.now in
    let k = c.needless.result in
    let all = take_all (length text - k) (drop k text) (omega (arith, length-drop k text)) in
    subst (λ (f : Form). GivesSame f text (take (length text - k) (drop k text))) (sym c.in-Vector.is)
    (subst (λ (l : List ℕ). GivesSame Vector text l) (sym all) (short_gives text k c.needless.ensures.rest))
