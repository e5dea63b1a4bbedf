use Rattle.vcd_compare.proofs.Cited.{suc, length, sym, ap, ◌∙◌, arith, length-set}
use Rattle.vcd_compare.proofs.Facts.{class_new}
use Rattle.vcd_compare.proofs.pairs.enter_class.Goals as goal

pub returns-in_ok-add_end-2 : goal.returns-in_ok-add_end-2
returns-in_ok-add_end-2 c = λ a b has.
    let one = c.in_ok-add_end.ensures a in
    let room = ap length one.last_is ∙ length-set c.args.last.now.items c.args.codes.0 (suc (length c.args.ends.now.items)) in
    class_new c.args.keys.now.keys c.insert_full.new.self.keys c.args.ends.now.items c.add_end.new.ends.items c.add_end-then-new.new.ends.items c.args.last.now.items c.add_end.new.last.items c.add_end-then-new.new.last.items c.args.codes c.in-Ok.class
    a b has c.in-Ok.ensures.keys c.in-Ok.ensures.index (sym c.if-new.true ∙ c.in-Ok.ensures.added) one (c.in_ok-add_end-2.ensures (omega (arith, b, room)))
