use Rattle.vcd_view.proofs.Cited.{◌≡◌, ◌+◌, Some, None, slice_get, ◌∙◌, arith, rules, slice_get_within, parts}
use Rattle.vcd_view.proofs.Facts.{row_of, row_name, read_there, there}
use Rattle.vcd_view.proofs.view.HeadView.name_of.Goals as goal

pub returns-in-Some : goal.returns-in-Some
returns-in-Some c = λ h d v is.
    let r = c.in-Some.row in
    let text = c.args.self.text.now in
    let at : slice_get c.args.self.rows.now c.args.row ≡ Some r = search rules in
    let stands = row_name text h.codes _ r d (row_of (parts c.args.self) h c.args.row r d v at is) in
    c.text_at.ensures ∙ read_there text (r.start + r.word) c.saturating_add.result _ _ stands (omega (arith, stands.within))

pub returns-in-None : goal.returns-in-None
returns-in-None c = λ h d v is.
    let none : slice_get c.args.self.rows.now c.args.row ≡ None = search rules in
    let some = there (parts c.args.self) h c.args.row v (slice_get_within h.declarations c.args.row d is) in
    cc
