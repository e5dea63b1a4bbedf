use Rattle.vcd_head.proofs.Cited.{◌≡◌, ◌-◌, ◌^◌, ◌<◌, ◌*◌, ◌/◌, ◌+ℤ◌, pos, nat_abs, ap, ap₂, sym, ◌∙◌, subst, arith, to_z-of_z, div_ceil, SomeIff, w8, ticks}
use Rattle.vcd_head.proofs.Facts.{ticks_whole, ticks_part_up, ticks_part_down}
use Rattle.vcd_head.proofs.moment.unit_ticks.Goals as goal

pub returns-then-tick-unit : goal.returns-then-tick-unit
returns-then-tick-unit c =
    let unit : c.in_femtoseconds-unit.result ≡ nat_abs (c.args.unit +ℤ pos 15) = c.in_femtoseconds-unit.ensures ∙ ap (λ z. nat_abs (z +ℤ pos 15)) (to_z-of_z w8 c.args.unit c.ranges.unit) in
    let tick : c.in_femtoseconds-tick.result ≡ nat_abs (c.args.tick +ℤ pos 15) = c.in_femtoseconds-tick.ensures ∙ ap (λ z. nat_abs (z +ℤ pos 15)) (to_z-of_z w8 c.args.tick c.ranges.tick) in
    let same = ticks_whole c.args.number c.args.unit c.args.tick c.args.up (omega arith) ∙ sym (ap₂ (λ a b. c.args.number * 10 ^ (a - b)) unit tick) in
    subst (λ k. SomeIff c.multiplied.result (k < 2 ^ 64) k) (sym same) c.multiplied.ensures

pub returns-then-up : goal.returns-then-up
returns-then-up c =
    let unit : c.in_femtoseconds-unit.result ≡ nat_abs (c.args.unit +ℤ pos 15) = c.in_femtoseconds-unit.ensures ∙ ap (λ z. nat_abs (z +ℤ pos 15)) (to_z-of_z w8 c.args.unit c.ranges.unit) in
    let tick : c.in_femtoseconds-tick.result ≡ nat_abs (c.args.tick +ℤ pos 15) = c.in_femtoseconds-tick.ensures ∙ ap (λ z. nat_abs (z +ℤ pos 15)) (to_z-of_z w8 c.args.tick c.ranges.tick) in
    let same : c.divided_up.result ≡ ticks c.args.number c.args.unit c.args.tick c.args.up =
    c.divided_up.ensures ∙ ap₂ (λ a b. div_ceil c.args.number (10 ^ (a - b))) tick unit
    ∙ sym (ticks_part_up c.args.number c.args.unit c.args.tick (omega arith)) ∙ ap (ticks c.args.number c.args.unit c.args.tick) (sym c.if-up.true) in
    (subst (λ k. k < 2 ^ 64) same c.divided_up.type_inv, same)

pub returns-else-up : goal.returns-else-up
returns-else-up c =
    let unit : c.in_femtoseconds-unit.result ≡ nat_abs (c.args.unit +ℤ pos 15) = c.in_femtoseconds-unit.ensures ∙ ap (λ z. nat_abs (z +ℤ pos 15)) (to_z-of_z w8 c.args.unit c.ranges.unit) in
    let tick : c.in_femtoseconds-tick.result ≡ nat_abs (c.args.tick +ℤ pos 15) = c.in_femtoseconds-tick.ensures ∙ ap (λ z. nat_abs (z +ℤ pos 15)) (to_z-of_z w8 c.args.tick c.ranges.tick) in
    let same : c.divided.result ≡ ticks c.args.number c.args.unit c.args.tick c.args.up =
    c.divided.ensures ∙ ap₂ (λ a b. c.args.number / 10 ^ (a - b)) tick unit
    ∙ sym (ticks_part_down c.args.number c.args.unit c.args.tick (omega arith)) ∙ ap (ticks c.args.number c.args.unit c.args.tick) (sym c.if-up.false) in
    (subst (λ k. k < 2 ^ 64) same c.divided.type_inv, same)
