use Rattle.vcd_engine.proofs.Cited.{◌≡◌, ◌+◌, ◌%◌, ◌^◌, [], refl, subst, arith, BodyItem, IsItem, model_section, Item, IsNoTimestamp}
use Rattle.vcd_engine.proofs.Facts.{are_few, counted_begin, counted_end, counted_change, none_on}
use Rattle.vcd_engine.proofs.task_state.check.CheckAheadTaskNoLine.take_item.Goals as goal

pub returns-in-Begin-clause-takes : goal.returns-in-Begin-clause-takes
returns-in-Begin-clause-takes g c = λ h items before x views known re read few counted.
    let old = c.args.self.now in
    let n = (are_few items old counted).sections in
    let k : x ≡ BodyItem.Begin (model_section c.in-Begin.field-0) = subst (λ (i : Item). IsItem h.codes c.args.scanned.text.now i x) c.in-Begin.is read in
    let e : (old.sections + 1) % 2 ^ 64 ≡ old.sections + 1 = omega (arith, n) in
    (([], refl, none_on _ (g.W.Sink.device c.args._out.now)), rw (k, e) (counted_begin items old counted c.in-Begin.field-0))

pub returns-in-Change-clause-takes : goal.returns-in-Change-clause-takes
returns-in-Change-clause-takes g c = λ h items before x views known re read few counted.
    let old = c.args.self.now in
    let n = (are_few items old counted).changes in
    let k = subst (λ (i : Item). IsItem h.codes c.args.scanned.text.now i x) c.in-Change.is read in
    let e : (old.changes + 1) % 2 ^ 64 ≡ old.changes + 1 = omega (arith, n) in
    (([], refl, none_on _ (g.W.Sink.device c.args._out.now)), rw (k.2, e) (counted_change items old counted _))

pub returns-in-End-clause-takes : goal.returns-in-End-clause-takes
returns-in-End-clause-takes g c = λ h items before x views known re read few counted.
    let k : x ≡ BodyItem.End = subst (λ (i : Item). IsItem h.codes c.args.scanned.text.now i x) c.in-End.is read in
    (([], refl, none_on _ (g.W.Sink.device c.args._out.now)), rw k (counted_end items c.args.self.now counted))

pub returns-in-Time-clause-takes : goal.returns-in-Time-clause-takes
returns-in-Time-clause-takes g c = λ h items before x views known re read few counted.
    absurd (subst IsNoTimestamp c.in-Time.is c.requires.next.none)

pub returns-in-Finish-clause-takes : goal.returns-in-Finish-clause-takes
returns-in-Finish-clause-takes g c = λ h items before x views known re read few counted.
    absurd (subst (λ (i : Item). IsItem h.codes c.args.scanned.text.now i x) c.in-Finish.is read)
