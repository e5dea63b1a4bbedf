use Rattle.vcd_compare.proofs.Cited.{sym, ◌∙◌}
use Rattle.vcd_compare.proofs.Facts.{text_entered, text_found}
use Rattle.vcd_compare.proofs.paths.enter_text.Goals as goal

pub returns-in-Some : goal.returns-in-Some
returns-in-Some c = text_found c.args.texts.now c.args.text.now c.in-Some.index (sym c.in-Some.ensures.index)

pub returns : goal.returns
returns c = text_entered c.args.texts.now c.insert_full.new.self c.in_ok-from_slice.field-0 c.args.text.now c.in-Ok.index c.in_ok-from_slice.ensures.items c.in-Ok.ensures.keys
    (c.in-Ok.index-is ∙ c.in-Ok.ensures.index)
