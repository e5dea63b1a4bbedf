-- What a view shows, as lists.
use Rattle.std.specs.Prelude.{ℕ, List, Option}
use Rattle.vcd_view.specs.declared.view.Row.{Row}
use Rattle.vcd_view.specs.declared.view.Code.{Code}
use Rattle.vcd_view.specs.declared.view.Entry.{Entry}
use Rattle.vcd_view.specs.declared.view.Scale.{Scale}
use Rattle.vcd_view.specs.declared.view.HeadView.{HeadView}
pub use Rattle.vcd_view.specs.Entries.{text_in}

-- the lists of a view
pub record HeadShown : Type 0 where
  pub text : List ℕ
  pub rows : List Row
  pub codes : List Code
  pub index : List ℕ
  pub entries : List Entry
  pub date : List ℕ
  pub version : List ℕ
  pub scale : Option Scale

-- what a view's slices hold
abbrev pub parts : HeadView → HeadShown
parts v = record { text = v.text.now; rows = v.rows.now; codes = v.codes.now; index = v.index.now; entries = v.entries.now; date = v.date.now; version = v.version.now; scale = v.scale }
