use Rattle.vcd_compare.proofs.Cited.{◌≡◌, ◌∙◌, ◌-◌, ◌/◌, suc, Some, ap, arith, eqb-true, get_or, set, slice_get, subst, sym, AreSkips}
use Rattle.vcd_compare.proofs.Facts.{next_after, skips_after}
use Rattle.vcd_compare.proofs.comparing.earlier_end.Goals as goal

pub returns-clause-next : goal.returns-clause-next
returns-clause-next c = λ are there.
    let skips = c.args.skips.now in
    let i = c.args.index in
    let e = c.args.end in
    let before = c.in-Some.before in
    let d = c.in-Some-end_at.done in
    let next : suc before ≡ e.earlier - get_or skips i 0 = omega (arith, c.in-Some.ensures.0, c.in-Some.ensures.1, c.saturating_sub-next.ensures, c.number_at.ensures) in
    let its : slice_get c.args.ends.now before ≡ Some d = sym c.in-Some-end_at.ensures in
    let done = eqb-true (get_or c.args.marks.now (before / 2) 0) 2 (sym c.is_done.ensures ∙ c.if-not-is_done.false) in
    next_after c.args.ends.now c.args.marks.now skips are i e there before d next its done c.saturating_sub-further.result
    (c.saturating_sub-further.ensures ∙ ap (λ n. d.earlier - n) c.number_at-2.ensures)

pub returns-clause-skips : goal.returns-clause-skips
returns-clause-skips c = λ are there.
    let skips = c.args.skips.now in
    let i = c.args.index in
    let e = c.args.end in
    let before = c.in-Some.before in
    let d = c.in-Some-end_at.done in
    let next : suc before ≡ e.earlier - get_or skips i 0 = omega (arith, c.in-Some.ensures.0, c.in-Some.ensures.1, c.saturating_sub-next.ensures, c.number_at.ensures) in
    let its : slice_get c.args.ends.now before ≡ Some d = sym c.in-Some-end_at.ensures in
    let done = eqb-true (get_or c.args.marks.now (before / 2) 0) 2 (sym c.is_done.ensures ∙ c.if-not-is_done.false) in
    subst (AreSkips c.args.ends.now c.args.marks.now) (sym (c.put_at.ensures ∙ ap (λ n. set skips i n) c.saturating_sub.ensures))
    (skips_after c.args.ends.now c.args.marks.now skips are i e there before d next its done c.saturating_sub-further.result
    (c.saturating_sub-further.ensures ∙ ap (λ n. d.earlier - n) c.number_at-2.ensures))
