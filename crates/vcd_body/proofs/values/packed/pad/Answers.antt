use Rattle.vcd_body.proofs.Cited.{◌≡◌, rules, length}
use Rattle.vcd_body.proofs.Facts.{padded_is}
use Rattle.vcd_body.proofs.values.packed.pad.Goals as goal

pub returns : goal.returns
returns c =
    let long : length c.put_text.new.block ≡ 64 = search rules in
    λ k less. padded_is c.args.text.now c.put_text.new.block k long c.put_text.ensures.front c.put_text.ensures.rest less
