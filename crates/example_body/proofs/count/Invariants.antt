use Rattle.std.proofs.Common.{◌+◌, ◌-◌, ◌^◌, ◌≤◌, List}
use Rattle.vcd_head.specs.Model.Header.{Header}
use Rattle.vcd_head.specs.Model.Input.{Input}
use Rattle.vcd_head.specs.Model.Items.{BodyItem}
use Rattle.vcd_head.specs.Model.Tokens.{Token}
use Rattle.vcd_text.specs.Advances.{Advances, CallEnd}
use Rattle.vcd_text.specs.Feed.{HasGiven, seen}
use Rattle.vcd_head.specs.Views.{IsViewOf}
use Rattle.vcd_body.specs.Reads.{GaveItems}
use Rattle.example_body.specs.Counts.{AreForms}
use Rattle.example_body.proofs.count.Given as goal

abbrev pub invariant-items : goal.invariant-items
invariant-items g l = Advances g.S.Source.failures l.fn.feed l.feed CallEnd.GoesOn
    × (l.forms.scalars + l.forms.vectors + l.forms.reals ≤ seen l.feed)
    × ((h : Header) (i : Input) (front : List Token) → IsViewOf l.view h → HasGiven i front l.fn.feed
    → ((items : List BodyItem) × GaveItems h.codes i front items l.feed l.regs × AreForms items l.forms))

abbrev pub decreases-items : goal.decreases-items
decreases-items g l = 2 ^ 63 - seen l.feed
