use Rattle.vcd_body.proofs.Cited.{inl}
use Rattle.vcd_body.proofs.Facts.{scalar_takes, scalar_begins}
use Rattle.vcd_body.proofs.ahead.short_ahead.Goals as goal

pub short_code-requires : goal.short_code-requires
short_code-requires g c = record { begins = scalar_begins c.in_ok-opening.opening.token.now c.in_ok-opening.opening.kind (inl c.in-Bit.is) c.in_ok-opening.ensures.opens.begins }

pub returns-clause-takes : goal.returns-clause-takes
returns-clause-takes g c = λ r.
    let o = c.in_ok-opening.opening in
    rw (
      c.change_of.ensures,
      c.begin_of-at.ensures,
    ) (scalar_takes c.args.view c.args.ahead.now _ r o c.in_ok-found.found _ c.in_ok-opening.ensures.opens
    (inl c.in-Bit.is) c.in_ok-found.ensures c.first_byte_of-text.ensures _ c.bytes.ensures _ c.passed.ensures.passed)
