-- What the view of a head shows.
use Rattle.vcd_head.specs.declared.head.Head.{Head}
use Rattle.vcd_view.specs.Shown.{HeadShown}

-- what the view of a head shows
abbrev pub shown : Head → HeadShown
shown h = record { text = h.text.items; rows = h.rows.items; codes = h.codes.items; index = h.index.items; entries = h.entries.items; date = h.date.items; version = h.version.items; scale = h.scale }
