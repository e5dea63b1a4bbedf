use Rattle.vcd_body.proofs.Cited.{IsFoundScalar}
use Rattle.vcd_body.proofs.Facts.{of_found, scalar_takes, scalar_begins}
use Rattle.vcd_body.proofs.ahead.scalar_ahead.Goals as goal

pub scalar_code-requires : goal.scalar_code-requires
scalar_code-requires c = record { begins = scalar_begins c.args.opening.token.now c.args.opening.kind c.requires.kind c.requires.opens.1.begins }

pub returns-clause-takes : goal.returns-clause-takes
returns-clause-takes c = λ a r o.
    let found = of_found (IsFoundScalar c.args.view c.args.opening.token.now) c.scalar_code.result _ c.in_ok-found.ensures.value c.scalar_code.ensures.finds in
    rw (
      c.change_of.ensures,
      c.begin_of-at.ensures,
    )
    (scalar_takes c.args.view a c.args.ahead r c.args.opening c.in_ok-found.found _ o c.requires.kind found c.first_byte_of-text.ensures _ c.bytes.ensures _ c.passed.ensures.passed)
