use Rattle.vcd_head.proofs.Cited.{◌≡◌, Some, None, ℤ, option_map, sym, ap, ◌∙◌, rules, to_z-of_z, w8, SFits, Moment, asked, unit_in}
use Rattle.vcd_head.proofs.Facts.{unit_missing, unit_found}
use Rattle.vcd_head.proofs.moment.Moment.from_parts.Goals as goal

pub returns-in_err-unit : goal.returns-in_err-unit
returns-in_err-unit c =
    let none : unit_in c.args.unit.now ≡ None = sym c.unit_of.ensures ∙ c.in_err-unit.was in
    ap (option_map asked) c.from_residual.ensures ∙ sym (unit_missing c.args.number c.args.unit.now (sym c.is_empty.ensures ∙ c.if-is_empty.false) none)

pub returns : goal.returns
returns c =
    let some : unit_in c.args.unit.now ≡ Some c.in_ok-unit.unit = sym c.unit_of.ensures ∙ c.in_ok-unit.was in
    let fits : SFits w8 c.in_ok-unit.unit = search rules in
    let found = unit_found c.args.number c.args.unit.now c.in_ok-unit.unit (sym c.is_empty.ensures ∙ c.if-is_empty.false) some in
    ap (λ (x : ℤ). let moment : Moment = record { number = c.args.number; unit = Some x } in Some moment) (to_z-of_z w8 c.in_ok-unit.unit fits) ∙ sym found
