use Rattle.vcd_head.proofs.Cited.{◌≡◌, ◌+◌, ◌∙◌, refl, sym, subst, set, length, rules, arith, zip_first, zip_second, iter_rest, length-set, length_push, zip_turn, zip_end, parts}
use Rattle.vcd_head.proofs.Facts.{HaveFlags, are_at, flagged_none, flagged_next, flagged_other, flagged_unmarked, flagged_outside, flagged_all}
use Rattle.vcd_head.proofs.flags.flag_codes.Goals as goal
use Rattle.vcd_head.proofs.flags.flag_codes.Goals.{else-eq-via-then-eq+then-mark-eq1+else-code-view, else-eq-via-then-eq+else-mark-eq1, else-eq-via-else-eq}

pub loop-row-init : goal.loop-row-init
loop-row-init c =
    let zeros = flagged_none (parts c.args.view) c.args.marks.now c.fill.new.self
    (λ i l. c.fill.ensures.clones i 0 (omega (arith, l, c.fill.ensures.len)) refl) in
    (c.fill.ensures.len, zeros)

pub loop-row-preserved-then-code-view : goal.loop-row-preserved-then-code-view
loop-row-preserved-then-code-view c =
    let s = parts c.args.view in
    let marks = c.args.marks.now in
    let flags = c.loop-row.flags in
    let i = length c.loop-row.yielded in
    let r = c.in-Some.row.now in
    let m = c.in-Some.mark.now in
    let first : iter_rest (zip_first c.into_iter-row-iterator.result) ≡ c.args.view.rows.now = search rules in
    let second : iter_rest (zip_second c.into_iter-row-iterator.result) ≡ marks = search rules in
    let turn = zip_turn c.args.view.rows.now marks c.loop-row.yielded c.into_iter-row-iterator.result c.loop-row.row-iterator c.next.new.self c.next.result
    first second c.loop-row.yielded_by (c.in-Some.row, c.in-Some.mark) c.in-Some.is c.next.ensures.steps in
    let there = are_at c.args.view.rows.now marks i r m turn in
    let more = flagged_next s marks flags i r m c.loop-row.invariant.1 there (sym c.eq.ensures ∙ c.if-eq.true) c.if-mark-eq1.true
    (omega (arith, c.requires.codes, c.loop-row.invariant.0)) in (
      length-set flags r.code 1 ∙ c.loop-row.invariant.0,
      subst (HaveFlags s marks (set flags r.code 1)) (sym (length_push c.loop-row.yielded (c.in-Some.row, c.in-Some.mark))) more,
    )

pub loop-row-preserved : goal.loop-row-preserved
loop-row-preserved c =
    let s = parts c.args.view in
    let marks = c.args.marks.now in
    let flags = c.loop-row.flags in
    let i = length c.loop-row.yielded in
    let r = c.in-Some.row.now in
    let m = c.in-Some.mark.now in
    let first : iter_rest (zip_first c.into_iter-row-iterator.result) ≡ c.args.view.rows.now = search rules in
    let second : iter_rest (zip_second c.into_iter-row-iterator.result) ≡ marks = search rules in
    let turn = zip_turn c.args.view.rows.now marks c.loop-row.yielded c.into_iter-row-iterator.result c.loop-row.row-iterator c.next.new.self c.next.result
    first second c.loop-row.yielded_by (c.in-Some.row, c.in-Some.mark) c.in-Some.is c.next.ensures.steps in
    let there = are_at c.args.view.rows.now marks i r m turn in
    let so_far = c.loop-row.invariant.1 in
    let more : HaveFlags s marks flags (i + 1) = elim c.else-eq.branch [
      | else-eq-via-then-eq+then-mark-eq1+else-code-view w ↦
          flagged_outside s marks flags i r m so_far there (sym c.eq.ensures ∙ w.if-eq.true) w.if-code-view.false
      | else-eq-via-then-eq+else-mark-eq1 w ↦ flagged_unmarked s marks flags i r m so_far there w.if-mark-eq1.false
      | else-eq-via-else-eq w ↦ flagged_other s marks flags i r m so_far there (sym c.eq.ensures ∙ w.if-eq.false)
    ] in
    (c.loop-row.invariant.0, subst (HaveFlags s marks flags) (sym (length_push c.loop-row.yielded (c.in-Some.row, c.in-Some.mark))) more)

pub returns-clause-flags : goal.returns-clause-flags
returns-clause-flags c = λ h names views is place code at.
    let first : iter_rest (zip_first c.into_iter-row-iterator.result) ≡ c.args.view.rows.now = search rules in
    let second : iter_rest (zip_second c.into_iter-row-iterator.result) ≡ c.args.marks.now = search rules in
    let end = zip_end c.args.view.rows.now c.args.marks.now c.loop-row.yielded c.into_iter-row-iterator.result c.loop-row.row-iterator
    c.next.new.self c.next.result first second c.loop-row.yielded_by c.in-None.is c.next.ensures.steps in
    flagged_all (parts c.args.view) c.args.marks.now c.loop-row.flags (length c.loop-row.yielded) h names place code end c.loop-row.invariant.1 views is at
