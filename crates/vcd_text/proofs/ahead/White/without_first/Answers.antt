use Rattle.vcd_text.proofs.Cited.{◌+◌, ◌-◌, inl, inr, arith, cases_lt}
use Rattle.vcd_text.proofs.Facts.{bits-on}
use Rattle.vcd_text.proofs.ahead.White.without_first.Goals as goal

pub returns-clause-bits : goal.returns-clause-bits
returns-clause-bits c = λ chunk at stop near known m.
    let w = c.args.self in
    let bit = c.lowest.result in
    let first = c.lowest.ensures in
    let ahead = m.ahead bit first.set in
    let inside = m.inside bit first.set in
    elim (cases_lt (at + 64 - w.next) bit) [
      | inl before ↦ absurd (omega (arith, first.below (at + 64 - w.next) before, known))
      | inr le ↦ (
        omega (arith, ahead, le, inside, near),
        bits-on chunk at (at + 1) stop w bit c.without.result m first.set first.below c.without.ensures.kept c.without.ensures.no_more c.without.ensures.gone (omega (arith, ahead, le, near)),
      )
    ]
