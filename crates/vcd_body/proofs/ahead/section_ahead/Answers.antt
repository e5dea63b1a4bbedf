use Rattle.vcd_body.proofs.Cited.{◌∙◌, is_some, subst, sym, IsSectionAt}
use Rattle.vcd_body.proofs.Facts.{section_takes}
use Rattle.vcd_body.proofs.ahead.section_ahead.Goals as goal

pub returns-else-is_some-clause-takes : goal.returns-else-is_some-clause-takes
returns-else-is_some-clause-takes c = λ a v o.
    let m = c.without_text.ensures in
    let word = rw c.in-Begin.is at c.in_ok-section.ensures in
    let is = subst (IsSectionAt (is_some c.args.regs.now.section) c.args.opening.token.now) (sym m.item) (word, sym c.is_some.ensures ∙ c.if-is_some.false) in
    section_takes v a c.args.ahead c.args.regs.now c.args.opening _ o m.text m.size m.bytes m.begin m.positions.1 m.bits m.binary is

pub returns-then-is_some-2-clause-takes : goal.returns-then-is_some-2-clause-takes
returns-then-is_some-2-clause-takes c = λ a v o.
    let m = c.without_text-then-is_some-2.ensures in
    let word = rw c.in-End.is at c.in_ok-section.ensures in
    let is = subst (IsSectionAt (is_some c.args.regs.now.section) c.args.opening.token.now) (sym m.item) (word, sym c.is_some-in-End.ensures ∙ c.if-is_some-2.true) in
    section_takes v a c.args.ahead c.args.regs.now c.args.opening _ o m.text m.size m.bytes m.begin m.positions.1 m.bits m.binary is
