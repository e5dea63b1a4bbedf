use Rattle.vcd_host.proofs.Cited.{◌∙◌, rules, le_bytes_8}
use Rattle.vcd_host.proofs.buffer.as_word.Goals as goal

pub returns : goal.returns
returns c = c.to_le_bytes.ensures ∙ le_bytes_8 c.args.bytes _ (search rules) (search rules) c.from_le_bytes.ensures
