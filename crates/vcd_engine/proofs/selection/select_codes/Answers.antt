use Rattle.vcd_engine.proofs.Cited.{map, string_bytes}
use Rattle.vcd_engine.proofs.selection.select_codes.Goals as goal

pub returns-clause-selects : goal.returns-clause-selects
returns-clause-selects c = λ h views.
    let names = map string_bytes c.args.names.now in
    let marks = c.in_default.ensures.marks h views in record {
      matched = c.in_default.ensures.names h views;
      marks_are = marks;
      chosen = c.flag_codes.ensures.flags h names views marks;
    }
