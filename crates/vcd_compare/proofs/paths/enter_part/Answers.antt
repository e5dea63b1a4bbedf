use Rattle.vcd_compare.proofs.Cited.{◌≡◌, suc, refl, arith, Paths}
use Rattle.vcd_compare.proofs.Facts.{path_entered}
use Rattle.vcd_compare.proofs.paths.enter_part.Goals as goal

pub returns : goal.returns
returns c =
    let old = c.args.paths.now in
    let mid : Paths = record { parts = c.enter_text.new.texts; nodes = old.nodes } in
    let new : Paths = record { parts = c.enter_text.new.texts; nodes = c.insert_full.new.self } in
    let number : c.in-Some.number ≡ suc c.in-Ok.index = omega arith in
    path_entered old mid new c.args.part.now c.args.around c.in_ok-part.part c.in-Ok.index c.in-Some.number c.in_ok-part.ensures refl refl c.in-Ok.ensures.keys c.in-Ok.ensures.index number
