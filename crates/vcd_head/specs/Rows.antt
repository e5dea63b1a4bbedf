-- Rows as they are read.
use Rattle.std.specs.Prelude.{◌^◌, ◌<◌}
use Rattle.vcd_head.specs.declared.rows.WideRow.{WideRow}
use Rattle.vcd_view.specs.declared.view.Row.{Row}

-- the row as it is stored
abbrev pub row_of : WideRow → Row
row_of w = record { kind = w.kind; parent = w.parent; word = w.word; name = w.name; start = w.start; all = w.all; code = w.code }

-- 32 bits hold the number of its scope and that of its code
pub record IsNarrow (w : WideRow) : Type 0 where
  pub parent : w.parent < 2 ^ 32
  pub code : w.code < 2 ^ 32
