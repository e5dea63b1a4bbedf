use Rattle.vcd_text.proofs.Cited.{inl, inr, cases_lt}
use Rattle.vcd_text.proofs.Facts.{bits-none}
use Rattle.vcd_text.proofs.ahead.white_ahead.Goals as goal

pub returns-then-white-eq0-clause-none : goal.returns-then-white-eq0-clause-none
returns-then-white-eq0-clause-none c = λ _.
    let none = c.look_ahead-white.ensures.none c.if-white-eq0.true in (
      c.look_ahead-white.result.next,
      none.0,
      λ at le m j from below. elim (cases_lt j c.args.known.next) [
        | inl lt ↦ bits-none _ _ _ _ c.if-known-ne0.false m j from lt
        | inr behind ↦ none.1 j behind below
      ],
    )

pub returns-clause-bits : goal.returns-clause-bits
returns-clause-bits c = λ at le m. c.look_ahead-white.ensures.bits c.if-white-eq0.false at le (bits-none _ _ _ _ c.if-known-ne0.false m)
