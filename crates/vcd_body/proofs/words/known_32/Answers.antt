use Rattle.vcd_body.proofs.Cited.{arith, refl, w8, length-chunk, chunk-fits, zip2_of_maps, zip2_splat, splat_is_map, chunk}
use Rattle.vcd_body.proofs.Facts.{known_tell}
use Rattle.vcd_body.proofs.words.known_32.Goals as goal

pub returns : goal.returns
returns c =
    let v = chunk c.args.at 32 c.args.bytes.now in
    let long = length-chunk c.args.at 32 c.args.bytes.now c.requires in
    known_tell c.args.bytes.now c.args.at 32 _ _ c.requires (omega arith) (chunk-fits w8 c.args.at 32 c.args.bytes.now c.type_inv.bytes)
    (zip2_of_maps _ _ _ v (zip2_splat _ v 32 221 long) (splat_is_map v 32 88 long)) refl
