use Rattle.vcd_engine.proofs.Cited.{◌≡◌, Some, slice_get, subst, arith, Code, HasBits, binary_digits, IsText, Form, Vector, Change, text_followed, text_gives}
use Rattle.vcd_engine.proofs.Facts.{follow_tallied}
use Rattle.vcd_engine.proofs.tally.take_value.Goals as goal

pub returns-in-Some-clause-takes : goal.returns-in-Some-clause-takes
returns-in-Some-clause-takes c = λ view h items k views declared event size good few tallied.
    let text = c.args.text.now in
    let b = c.in-Some.bits in
    let has = subst (HasBits (Change c.args.code c.args.form) text) c.in-Some.is c.requires.bits in
    let form : c.args.form ≡ Vector = let one = has.1 in cc in
    let digits = binary_digits b.len b.number in
    let fits : (d : Code) → slice_get view.codes.now c.args.code ≡ Some d → IsText Vector d digits =
    λ d there. subst (IsText Vector d) has.2 (subst (λ (f : Form). IsText f d text) form (good d there)) in
    let laid = tallied.held.values.laid in
    let is = c.follow.ensures in
    let kept = tallied.held.shares c.args.code k declared in
    let enough = kept.2 in
    rw (form, has.2)
    (follow_tallied view h items c.args.code k views declared Vector digits event fits c.args.table.now c.follow.new.self c.args.size size
    (is.sets.keeps.laid laid) (is.as_text laid kept.0 kept.1 (omega (arith, enough))) (is.value laid) few tallied)

pub returns-in-None-clause-takes : goal.returns-in-None-clause-takes
returns-in-None-clause-takes c = λ view h items k views declared event size good few tallied.
    let laid = tallied.held.values.laid in
    let is = c.follow-in-None.ensures in
    let old = c.args.table.now in
    let new = c.follow-in-None.new.self in
    let changes = text_followed old new c.args.code c.args.size c.args.form c.args.text.now c.of_text.result (c.of_text.ensures.follows c.args.size) (is.sets.changes laid) in
    follow_tallied view h items c.args.code k views declared c.args.form c.args.text.now event good old new c.args.size size
    (is.sets.keeps.laid laid) changes (text_gives old new c.args.code c.args.size c.args.form c.args.text.now changes) few tallied
