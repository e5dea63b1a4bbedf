use Rattle.vcd_engine.proofs.Cited.{[]}
use Rattle.vcd_engine.proofs.Facts.{none_on, quiet_item}
use Rattle.vcd_engine.proofs.task_state.sample.SampleAheadTaskNoLine.take_item.Goals as goal

pub returns-clause-takes : goal.returns-clause-takes
returns-clause-takes g c = λ h items before x views known re read few is.
    let p = c.args.scanned in
    let place = c.requires.next in
    let held = c.set_item.ensures.held c.args._view h items x views place.good read is.held in
    let q = quiet_item c.args.self.now h items is p.text.now p.item x place.none read c.set_item.new.table held in
    (([], q.due, none_on _ (g.W.Sink.device c.args._out.now)), q.keeps)
