use Rattle.vcd_changes.proofs.Cited.{◌≡◌, ◌-◌, ◌^◌, ◌≤◌, ◌++◌, List, Some, length, slice_get, take, IdCode, BodyItem, Advances, CallEnd, seen, GaveItems, rows_of}
use Rattle.vcd_head.specs.Model.Header.{Header}
use Rattle.vcd_head.specs.Model.Input.{Input}
use Rattle.vcd_head.specs.Model.Tokens.{Token}
use Rattle.vcd_head.specs.Views.{IsViewOf}
use Rattle.vcd_changes.proofs.rows.collect_rows.Given as goal

-- others were read after the items, and the rows so far have their changes of the code
abbrev pub invariant-items : goal.invariant-items
invariant-items g l = Advances g.S.Source.failures l.fn.feed l.feed CallEnd.GoesOn
    × (l.count ≤ length l.rows)
    × ((h : Header) (i : Input) (front : List Token) (items : List BodyItem) (code : IdCode) → IsViewOf l.view h
    → GaveItems h.codes i front items l.fn.feed l.fn.regs → slice_get h.codes l.index ≡ Some code
    → ((more : List BodyItem) × GaveItems h.codes i front (items ++ more) l.feed l.regs × (rows_of code.text (items ++ more) ≡ rows_of code.text items ++ take l.count l.rows)))

abbrev pub decreases-items : goal.decreases-items
decreases-items g l = 2 ^ 63 - seen l.feed
