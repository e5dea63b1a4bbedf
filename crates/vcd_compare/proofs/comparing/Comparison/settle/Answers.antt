use Rattle.vcd_compare.proofs.Cited.{◌≡◌, List, length, take, ap, subst, ◌∙◌, length-map, arith, chosen}
use Rattle.vcd_compare.specs.Rows.{AreDue, classes_of, is_flagged}
use Rattle.vcd_compare.specs.declared.comparing.Comparison.{Comparison}
use Rattle.vcd_compare.specs.declared.pairs.PairRow.{PairRow}
use Rattle.vcd_compare.proofs.RowLemmas.{no_row}
use Rattle.vcd_run.proofs.Once.{sorted_once}
use Rattle.vcd_compare.proofs.comparing.Comparison.settle.Goals as goal

pub returns-clause-settles : goal.returns-clause-settles
returns-clause-settles c =
    let left = c.drop_same.new.self in
    let drops = c.drop_same.ensures.drops in
    let rows = left.current.pairs.now.rows.items in
    let classes = classes_of rows in
    let marks = left.touched.marks.now in
    let has = drops.ready.rows in
    let long : length classes ≡ length rows = length-map rows (λ r. r.class) in
    let due : AreDue c.take_due-count.new.due c.take_due-count.result (is_flagged marks classes) = c.take_due-count.ensures.due classes has.linked has.last (let room = has.room in omega (arith, long, room)) in
    let count = c.take_due-count.result in
    let sorted = sorted_once (is_flagged marks classes) (length rows) (take count c.take_due-count.new.due) (take count c.sort_front.new.numbers) due.once
    (λ i le. no_row marks classes i (omega (arith, le, long))) c.sort_front.ensures.moved c.sort_front.ensures.sorted in
    record {
      current = ap (λ (k : Comparison). k.current) drops.rest;
      skips = ap (λ (k : Comparison). k.skips.now) drops.rest;
      flags = marks;
      has = drops.flags;
      many = c.take_due-count.ensures.many ∙ drops.flags.many;
      each = c.take_due-count.ensures.settled;
      within = (let within = due.within in omega (arith, within, c.sort_front.ensures.len));
      due = subst (λ (all : List PairRow). take count c.sort_front.new.numbers ≡ chosen (is_flagged marks (classes_of all)) (length all))
          (ap (λ (k : Comparison). k.current.pairs.now.rows.items) drops.rest) sorted.1;
    }

pub returns-clause-ready : goal.returns-clause-ready
returns-clause-ready c =
    let ready = c.drop_same.ensures.drops.ready in
    let last = ready.rows.last in
    let room = ready.rows.room in
    record {
      listed = c.take_due-count.ensures.listed;
      laid = ready.laid;
      rows = record {
        linked = ready.rows.linked;
        last = omega (arith, last, c.take_due-count.ensures.many);
        room = omega (arith, room, c.sort_front.ensures.len, c.take_due-count.ensures.len);
      };
    }
