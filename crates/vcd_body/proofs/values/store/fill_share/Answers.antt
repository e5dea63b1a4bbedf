use Rattle.vcd_body.proofs.Cited.{arith}
use Rattle.vcd_body.proofs.Facts.{packed_as}
use Rattle.vcd_body.proofs.values.store.fill_share.Goals as goal

pub returns-in_default : goal.returns-in_default
returns-in_default c = packed_as c.args.form c.pack.new.bytes c.args.text.now c.in_default.not-RealText (omega (arith, c.requires.room, c.pack.auto.bytes)) c.pack.ensures
