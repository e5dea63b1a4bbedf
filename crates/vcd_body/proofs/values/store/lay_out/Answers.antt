use Rattle.vcd_body.proofs.Cited.{get_or, false, ◌∙◌, arith, length-set, slice_get-get_or, slice_get_within, Code}
use Rattle.vcd_body.proofs.Facts.{laid_more, start_next, unset_more}
use Rattle.vcd_body.proofs.values.store.lay_out.Goals as goal

pub loop-index-preserved : goal.loop-index-preserved
loop-index-preserved c =
    let i = c.loop-index.invariant in
    let e = i.0 in
    let f = i.1 in
    let at = i.2 in
    let none : Code = record { start = 0; size = 0; len = 0; event = false } in
    let s = start_next c.args.codes.now c.args.values c.loop-index.index (get_or c.args.codes.now c.loop-index.index none)
    (slice_get-get_or c.args.codes.now c.loop-index.index none (omega (arith, e))) in
    let one = c.value_bytes.ensures in
    let more = laid_more c.args.codes.now c.loop-index.shares c.args.values c.loop-index.index (omega (arith, e, f)) i.4 in (
      length-set _ _ _ ∙ i.0,
      length-set _ _ _ ∙ i.1,
      omega (arith, s, at, one, c.saturating_add.ensures, c.min-at.ensures),
      unset_more c.loop-index.slots c.loop-index.index c.new.result (omega arith) c.new.ensures i.3,
      rw (c.at.ensures, at) more,
    )

pub returns-clause-slots : goal.returns-clause-slots
returns-clause-slots c = λ k d at. c.loop-index.invariant.3 k d (let w = slice_get_within c.loop-index.slots k d at in omega arith) at

pub returns-clause-shares : goal.returns-clause-shares
returns-clause-shares c = λ k d at.
    let i = c.loop-index.invariant in
    let e = i.0 in
    let f = i.1 in
    let w = slice_get_within c.loop-index.shares k d at in
    i.4 k d (omega (arith, w, e, f)) at
