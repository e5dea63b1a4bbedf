use Rattle.vcd_engine.proofs.Cited.{refl, sym, request_in}
use Rattle.vcd_engine.proofs.Facts.{no_mark_is, goes_on_item, none_held}
use Rattle.vcd_engine.proofs.task_state.walk.take_given.Goals as goal

pub take_item-requires : goal.take_item-requires
take_item-requires g c = record {
  failures = c.requires.failures;
  ready = c.requires.ready;
  next = c.without_bytes-scanned.ensures.next c.args.view c.requires.sound (no_mark_is c.args.item c.in_default.not-Time);
  line = c.new-line.ensures _ _;
  part = c.new-pending.ensures.part _;
}

pub returns : goal.returns
returns g c =
    let l = c.without_bytes-scanned.result in
    let given = c.without_bytes-scanned.ensures in
    let taken = c.in_ok-take_item.ensures in
    let none = no_mark_is c.args.item c.in_default.not-Time in
    record {
      takes = λ h items before x views known re read few keeps.
          let one = taken.takes h items before x views known (rw given.item re) (rw (given.item, given.text) read) few keeps in
          record {
            due = (
              one.0.0,
              one.0.1,
              none_held l.bytes.now c.new-pending.result c.take_item.new.pending (g.W.Sink.device c.args.out.now)
                  (g.W.Sink.device c.take_item.new.out) one.0.0 given.bytes (c.new-pending.ensures.part _) taken.part one.0.2,
            );
            ends = sym (goes_on_item (request_in (g.C.AheadTask.task_state c.args.command.now)) h.codes c.args.text.now c.args.item x none read);
            keeps = λ e. one.1;
          };
      counts = taken.counts;
      same = c.take_item.ensures.same;
      on = refl;
    }
