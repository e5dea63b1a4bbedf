use Rattle.vcd_body.proofs.Facts.{text_holds}
use Rattle.vcd_body.proofs.current.set_shortest.Goals as goal

pub returns-in-Change-None-clause-held : goal.returns-in-Change-None-clause-held
returns-in-Change-None-clause-held c = text_holds c.args.item c.in-Change-None.code c.in-Change-None.form c.args.text.now c.shortest.result.now c.args.table.now c.set.new.self
    c.in-Change-None.is-0 c.shortest.ensures c.set.ensures.sets c.set.ensures.value

pub returns-in_default-clause-held : goal.returns-in_default-clause-held
returns-in_default-clause-held c = c.set_item.ensures.held
