use Rattle.vcd_engine.proofs.Cited.{[], off}
use Rattle.vcd_engine.proofs.Facts.{item_held, none_before, none_on}
use Rattle.vcd_engine.proofs.task_state.cut.CutAheadTaskNoLine.take_item.Goals as goal

pub returns-clause-takes : goal.returns-clause-takes
returns-clause-takes g c = λ h items past x views known re read few is.
    let v = c.args._view in
    let m = c.args.self.now in
    let p = c.args.scanned in
    let none = c.requires.next.none in
    let before = off m.started c.requires.ready in
    let held = c.set_item.ensures.held v h items x views c.requires.next.good read (is.held before) in (
      ([], none_before v h items past m p.text.now p.item x views known is read none before, none_on _ (g.W.Sink.device c.args._out.now)),
      item_held v h items past m p.text.now p.item x views known is read none c.set_item.new.table before held,
    )
