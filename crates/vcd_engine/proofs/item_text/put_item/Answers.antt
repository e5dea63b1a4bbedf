use Rattle.vcd_engine.proofs.Cited.{get_or, false, subst, rules, slice_get-get_or, slice_get_within, Takes, parts, Code, HasGoodText, IsItem, Item, counted}
use Rattle.vcd_engine.proofs.Facts.{some_text, change_is}
use Rattle.vcd_engine.proofs.item_text.put_item.Goals as goal

-- what is read if there is no code
abbrev none : Code
none = record { start = 0; size = 0; len = 0; event = false }

pub put_change-requires-clause-digits : goal.put_change-requires-clause-digits
put_change-requires-clause-digits g c = λ event real.
    let s = subst (λ (i : Item). HasGoodText c.args.view.codes.now c.args.text.now i) c.in-Change.is c.requires.sound in
    some_text c.in-Change.form s.0 _ s.2

pub returns-in-Change : goal.returns-in-Change
returns-in-Change g c = counted (search rules) (λ h x views is.
    let codes = c.args.view.codes.now in
    let s = subst (λ (i : Item). HasGoodText codes c.args.text.now i) c.in-Change.is c.requires.sound in
    let there = slice_get-get_or codes c.in-Change.code none (slice_get_within codes c.in-Change.code s.0 s.1) in
    subst (λ l. Takes (g.W.Sink.device c.args.out.now) (g.W.Sink.device c.put_change.new.w) l c.put_change.result)
    (change_is (parts c.args.view) h c.in-Change.code c.in-Change.form x
    (get_or codes c.in-Change.code none) c.text_at-id.result.now c.args.text.now views
    (subst (λ (i : Item). IsItem h.codes c.args.text.now i x) c.in-Change.is is) there c.text_at-id.ensures)
    c.put_change.ensures.0)
