use Rattle.vcd_body.proofs.Cited.{sym}
use Rattle.vcd_body.proofs.renamed.put_any_code.Goals as goal

pub returns : goal.returns
returns g c = rw (sym c.of.ensures, sym c.text.ensures) c.put_code_text.ensures
