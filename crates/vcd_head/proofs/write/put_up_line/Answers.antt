use Rattle.vcd_head.proofs.Cited.{◌≡◌, true, sym, ◌∙◌, is_marked}
use Rattle.vcd_head.proofs.write.put_up_line.Goals as goal

pub returns-then-is_marked : goal.returns-then-is_marked
returns-then-is_marked g c =
    let marked : is_marked c.args.marks.now c.args.scope ≡ true = sym c.is_marked.ensures ∙ c.if-is_marked.true in
    rw marked c.put.ensures
