use Rattle.std.proofs.Common.{refl}
use Rattle.vcd_strobe.proofs.LineSteps.{code_low}
use Rattle.vcd_strobe.proofs.PlaceSteps.{stands_placed, value_placed}
use Rattle.vcd_strobe.proofs.whole.Strobe.put_value.Goals as goal

pub returns-clause-sets : goal.returns-clause-sets
returns-clause-sets c = λ h names es items a d has declared unneeded good event size.
    let s = c.args.self.now in
    let at = c.place_of.ensures (code_low s.places h.codes c.args.code a has.places declared) c.requires in (
      stands_placed s _ h names es items has c.args.code c.args.place c.place_of.result c.requires at a declared c.args.form c.args.text.now c.set.ensures.sets unneeded refl,
      value_placed s _ h names es items has c.args.code c.args.place c.place_of.result c.requires at a declared c.args.form c.args.text.now c.set.ensures.sets unneeded refl d good event size
          (c.set.ensures.value has.laid),
    )
