use Rattle.vcd_text.proofs.Cited.{◌≤◌, take, ap, sym, ◌∙◌, arith, take-take}
use Rattle.vcd_text.proofs.feed.copy_front.Goals as goal

pub returns-then-from-ge16-clause-copied : goal.returns-then-from-ge16-clause-copied
returns-then-from-ge16-clause-copied c =
    let n = c.args.n in
    let few : n ≤ 16 = omega arith in
    sym (take-take n 16 c.copy_16.new.to few) ∙ ap (take n) c.copy_16.ensures.copied ∙ take-take n 16 c.args.from.now few
