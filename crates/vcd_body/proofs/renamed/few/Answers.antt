use Rattle.vcd_body.proofs.Cited.{◌∙◌, rules}
use Rattle.std.proofs.lemmas.Nat.{le_bytes_8}
use Rattle.vcd_body.proofs.renamed.few.Goals as goal

pub returns-clause-bytes : goal.returns-clause-bytes
returns-clause-bytes c = c.to_le_bytes.ensures ∙ le_bytes_8 c.args.bytes _ (search rules) (search rules) c.from_le_bytes.ensures
