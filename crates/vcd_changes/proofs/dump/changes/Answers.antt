use Rattle.vcd_changes.proofs.Cited.{◌≡◌, ◌⊎◌, inl, inr, arith}
use Rattle.vcd_changes.proofs.Facts.{finds_more, goes_on_lower}
use Rattle.vcd_changes.proofs.dump.changes.Goals as goal
use Rattle.vcd_changes.proofs.dump.changes.Goals.{else-before-ne0-via-then-before-ne0+else-before, else-before-ne0-via-else-before-ne0}

pub returns-then-is_limit_enough-clause-finds : goal.returns-then-is_limit_enough-clause-finds
returns-then-is_limit_enough-clause-finds g c = λ items goes.
    let dump = c.args.dump.now in
    let p = c.args.reading.now.place in
    let lower : (p.limit ≡ 0) ⊎ (p.limit ≡ 65536) = elim c.else-before-ne0.branch [
      | else-before-ne0-via-then-before-ne0+else-before w ↦ inr w.if-before.false
      | else-before-ne0-via-else-before-ne0 w ↦ inl w.if-before-ne0.false
    ] in
    let enough = c.is_limit_enough.ensures c.if-is_limit_enough.true in
    finds_more 65536 1048576 (omega arith) dump items c.args.code.now c.read_with_limit-status.new.reading c.read_with_limit-status.new.rows c.read_with_limit-status.result enough
    (c.read_with_limit-status.ensures.finds items (goes_on_lower 1048576 dump items p lower goes))
