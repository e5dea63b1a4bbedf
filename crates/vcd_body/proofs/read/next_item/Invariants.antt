use Rattle.vcd_body.proofs.Cited.{◌≡◌, ◌-◌, ◌^◌, ◌≤◌, List, Input, Token, Header, BodyItem, ahead_of, limit_of, seen, parts, Views, GaveItems, HoldsItem, Advances, CallEnd}
use Rattle.vcd_body.proofs.read.next_item.Given as goal

abbrev pub invariant-phrases : goal.invariant-phrases
invariant-phrases g l = Advances g.S.Source.failures l.fn.feed l.feed CallEnd.GoesOn × (seen l.fn.feed ≤ seen l.feed) × (l.regs ≡ l.fn.regs)
    × ((h : Header) (i : Input) (front : List Token) (items : List BodyItem) → Views (parts l.view) h
    → GaveItems h.codes i front items l.fn.feed l.fn.regs → GaveItems h.codes i front items l.feed l.regs)
    × (HoldsItem (limit_of l.fn.feed) (ahead_of l.fn.feed) → l.feed ≡ l.fn.feed)

abbrev pub decreases-phrases : goal.decreases-phrases
decreases-phrases g l = 2 ^ 63 - seen l.feed
