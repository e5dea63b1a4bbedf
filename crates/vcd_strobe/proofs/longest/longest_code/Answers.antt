use Rattle.std.proofs.Common.{◌∙◌, ap, arith, fold, max}
use Rattle.std.proofs.lemmas.List.{take_all}
use Rattle.vcd_view.proofs.LookUpLemmas.{blank}
use Rattle.vcd_strobe.proofs.LongSteps.{lengths_are, longest_more}
use Rattle.vcd_strobe.specs.Codes.{longest_len}
use Rattle.vcd_strobe.proofs.longest.longest_code.Goals as goal

pub loop-code-preserved : goal.loop-code-preserved
loop-code-preserved c = let one = longest_more c.args.view.codes.now c.loop-code.code-index blank (omega arith) in omega (arith, one)

pub returns : goal.returns
returns c = λ h views.
    c.loop-code.invariant ∙ ap longest_len (take_all c.loop-code.code-index c.args.view.codes.now (omega arith))
    ∙ ap (fold max 0) (lengths_are c.args.view.text.now c.args.view.codes.now h.codes views.codes)
