use Rattle.vcd_compare.proofs.Cited.{◌∙◌, not, refl, sym, ap, is_empty, new_holds, room_enough, model_asked}
use Rattle.vcd_compare.proofs.Facts.{compares_first, open_first}
use Rattle.vcd_compare.proofs.whole.Run.new.Goals as goal

pub returns-clause-stands : goal.returns-clause-stands
returns-clause-stands c = λ h exceptions ns views pairs.
    let q = model_asked c.args.asked exceptions in
    let held = new_holds c.args.view h _ views c.new.ensures.laid (c.new.ensures.room (room_enough c.args.view h _ views c.requires.values)) in
    record {
      compares = compares_first c.args.view h exceptions ns _ _ views pairs held refl c.requires.triggers c.requires.flags c.requires.skips refl;
      differs = c.has_header_lines.ensures h q ns pairs ∙ ap (λ l. not (is_empty l)) (sym (open_first q h ns));
    }
