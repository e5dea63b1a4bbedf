use Rattle.vcd_body.proofs.Facts.{four_lanes, four_long}
use Rattle.vcd_body.proofs.values.packed.packed_from.Goals as goal

pub returns-clause-long : goal.returns-clause-long
returns-clause-long c =
    let r = c.requires in
    rw (c.two_bits_16.ensures, c.two_bits_16-2.ensures, c.two_bits_16-3.ensures, c.two_bits_16-4.ensures)
    (four_long c.args.text.now c.args.first c.args.second c.args.third c.args.last r.first r.second r.third r.last)

pub returns-clause-each : goal.returns-clause-each
returns-clause-each c =
    let r = c.requires in
    rw (c.two_bits_16.ensures, c.two_bits_16-2.ensures, c.two_bits_16-3.ensures, c.two_bits_16-4.ensures)
    (four_lanes c.args.text.now c.args.first c.args.second c.args.third c.args.last r.first r.second r.third r.last)
