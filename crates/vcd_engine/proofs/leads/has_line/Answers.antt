use Rattle.vcd_engine.proofs.Cited.{true, false, refl, eq-eqb, ne_eqb, parts, read_row}
use Rattle.vcd_engine.proofs.Facts.{other_has_none, variable_has}
use Rattle.vcd_engine.proofs.leads.has_line.Goals as goal

pub returns-then-flag-eq1 : goal.returns-then-flag-eq1
returns-then-flag-eq1 c = λ h names views is.
    variable_has c.args.view h names c.args.row c.args.flag _ views
    (read_row (parts c.args.view) c.args.row _ c.requires) is c.in-Var.is true c.is_event.result (eq-eqb c.args.flag 1 c.if-flag-eq1.true)
    (c.is_event.ensures.event h views)

pub returns-else-flag-eq1 : goal.returns-else-flag-eq1
returns-else-flag-eq1 c = λ h names views is.
    let none = ne_eqb c.args.flag 1 c.if-flag-eq1.false in
    rw none (variable_has c.args.view h names c.args.row c.args.flag _ views (read_row (parts c.args.view) c.args.row _ c.requires) is c.in-Var.is false _ none refl)

pub returns-in-Scope : goal.returns-in-Scope
returns-in-Scope c = λ h names views is.
    other_has_none c.args.view h names c.args.row c.args.flag _ views (read_row (parts c.args.view) c.args.row _ c.requires) is c.in-Scope.is
