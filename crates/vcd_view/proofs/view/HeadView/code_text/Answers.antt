use Rattle.vcd_view.proofs.Cited.{◌∙◌}
use Rattle.vcd_view.proofs.Facts.{bytes_are}
use Rattle.vcd_view.proofs.view.HeadView.code_text.Goals as goal

pub returns : goal.returns
returns c = λ h v. c.code_bytes.ensures ∙ bytes_are _ _ h.codes c.args.position v.codes
