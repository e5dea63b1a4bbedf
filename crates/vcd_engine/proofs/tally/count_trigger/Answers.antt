use Rattle.vcd_engine.proofs.Cited.{sym, ◌∙◌}
use Rattle.vcd_engine.proofs.Facts.{mark_passed, mark_tallied}
use Rattle.vcd_engine.proofs.tally.count_trigger.Goals as goal

pub returns-then-not-inside-clause-takes : goal.returns-then-not-inside-clause-takes
returns-then-not-inside-clause-takes c = λ view h items k d views declared event of is few tallied.
    mark_tallied view h items c.args.code k views declared d of event c.args.table.now c.bump.new.self
    (c.bump.ensures.keeps.laid tallied.held.values.laid) c.bump.ensures.changes (sym c.if-not-inside.true ∙ is) few tallied

pub returns-else-not-inside-clause-takes : goal.returns-else-not-inside-clause-takes
returns-else-not-inside-clause-takes c = λ view h items k d views declared event of is few tallied.
    mark_passed view h items c.args.code k views declared d of event c.args.table.now (sym c.if-not-inside.false ∙ is) tallied
