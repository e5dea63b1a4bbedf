use Rattle.vcd_body.proofs.Cited.{w8, length-chunk, chunk-fits, chunk}
use Rattle.vcd_body.proofs.Facts.{codes_of_lanes, places_of_lanes}
use Rattle.vcd_body.proofs.values.packed.two_bits_16.Goals as goal

pub swizzle : goal.swizzle
swizzle c =
    let bytes = c.args.bytes.now in
    let at = c.args.at in
    places_of_lanes (chunk at 16 bytes) (length-chunk at 16 bytes c.requires.there) (chunk-fits w8 at 16 bytes c.type_inv.bytes)

pub returns : goal.returns
returns c =
    let bytes = c.args.bytes.now in
    let at = c.args.at in
    codes_of_lanes c.args.shift (chunk at 16 bytes) (length-chunk at 16 bytes c.requires.there) (chunk-fits w8 at 16 bytes c.type_inv.bytes)
